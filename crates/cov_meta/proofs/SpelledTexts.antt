-- Reading a string table and its spelling.
use Rattle.std.proofs.Common.{◌≡◌, ℕ, zero, suc, ◌+◌, ◌-◌, ◌≤◌, List, [], ◌∷◌, ◌++◌, length, take, drop, Result, Ok, refl, sym, ap, ◌∙◌, subst, arith}
use Rattle.std.specs.Prelude.{nat_lt, sum_by, All}
use Rattle.std.proofs.lemmas.Bool.{ltb-false, le-ltb}
use Rattle.std.proofs.lemmas.List.{length-take, length-drop, length-append, length-take-le}
use Rattle.std.proofs.lemmas.List.Elements.{All-nil, All-cons, All-head, All-tail}
use Rattle.std.proofs.lemmas.List.Sums.{sum_by-cons}
use Rattle.cov_bytes.specs.declared.cursor.CutFault.TheVariants.{Short}
use Rattle.cov_bytes.specs.declared.text_limits.TableFault.{TableFault}
use Rattle.cov_bytes.specs.declared.text_limits.TableFault.TheVariants.{Limit}
use Rattle.cov_bytes.specs.declared.text_limits.WhichText.TheVariants.{Strings, NameBytes, StringBytes}
use Rattle.cov_bytes.specs.declared.text_limits.TextLimits.{TextLimits}
use Rattle.cov_bytes.specs.Reading.{uleb_at, take_at}
use Rattle.cov_bytes.specs.Many.{many}
use Rattle.cov_bytes.specs.Table.{cut, text_at, next_text, texts_at, table_at}
use Rattle.cov_meta.specs.Spelling.{Holds, InTurn, IsUleb, IsText, IsTable}
use Rattle.cov_meta.proofs.Bind.{bind_ok, cut_ok, same_ok, passed}
use Rattle.cov_meta.proofs.SpelledNumbers.{uleb_spells, uleb_reads}

-- bytes that stand at an offset stand before the end
pub holds_within : (bytes : List ℕ) (at : ℕ) (piece : List ℕ) → Holds bytes at piece → length piece ≤ length bytes - at
holds_within bytes at piece h =
    let len = ap length h in
    let cut_len = length-take (length piece) (drop at bytes) in
    let drop_len = length-drop at bytes in
    omega arith

-- so does a number
pub uleb_within : (bytes : List ℕ) (at value next : ℕ) → IsUleb bytes at value next → next ≤ length bytes
uleb_within bytes at value next s =
    let within = holds_within bytes at (s.front ++ s.last ∷ []) s.there in
    let len = length-append s.front (s.last ∷ []) in
    omega (arith, s.next_is)

pub taken : (n : ℕ) (bytes : List ℕ) (at : ℕ) (x : List ℕ × ℕ) → take_at n bytes at ≡ Ok x → (length x.0 ≡ n) × Holds bytes at x.0 × (x.1 ≡ at + length x.0)
taken n bytes at x e =
    let got = passed (nat_lt (length bytes) (at + n)) (Short at) (Ok (take n (drop at bytes), at + n)) x e in
    let piece : List ℕ × ℕ = (take n (drop at bytes), at + n) in
    let enough : at + n ≤ length bytes = ltb-false (length bytes) (at + n) got.0 in
    let rest_len = length-drop at bytes in
    let len : length (take n (drop at bytes)) ≡ n = length-take-le n (drop at bytes) (omega arith) in
    subst (λ (y : List ℕ × ℕ). (length y.0 ≡ n) × Holds bytes at y.0 × (y.1 ≡ at + length y.0)) (same_ok piece x got.1)
    (len, ap (λ (k : ℕ). take k (drop at bytes)) len, ap (λ (k : ℕ). at + k) (sym len))

text_spells : (limits : TextLimits) (all : ℕ) (bytes : List ℕ) (at : ℕ) (text : List ℕ) (next : ℕ) → text_at limits all bytes at ≡ Ok (text, next)
    → IsText bytes at text next × (length text ≤ limits.one) × (all + length text ≤ limits.all)
unfolding text_at
text_spells limits all bytes at text next e =
    let len = bind_ok (cut (uleb_at bytes at)) _ _ e in
    let short = passed (nat_lt limits.one len.0.0) (Limit NameBytes) _ (text, next) len.2 in
    let few = passed (nat_lt limits.all (all + len.0.0)) (Limit StringBytes) _ (text, next) short.1 in
    let piece = taken len.0.0 bytes len.0.1 (text, next) (cut_ok (take_at len.0.0 bytes len.0.1) (text, next) few.1) in
    let number = uleb_spells bytes at len.0.0 len.0.1 (cut_ok (uleb_at bytes at) len.0 len.1) in (
      record { begin = len.0.1; length_is = subst (λ (n : ℕ). IsUleb bytes at n len.0.1) (sym piece.0) number; there = piece.1; next_is = piece.2 },
      rw piece.0 (ltb-false limits.one len.0.0 short.0),
      rw piece.0 (ltb-false limits.all (all + len.0.0) few.0),
    )

text_reads : (limits : TextLimits) (all : ℕ) (bytes : List ℕ) (at : ℕ) (text : List ℕ) (next : ℕ) → IsText bytes at text next → length text ≤ limits.one → all + length text ≤ limits.all
    → text_at limits all bytes at ≡ Ok (text, next)
unfolding text_at
text_reads limits all bytes at text next s short few =
    let within = holds_within bytes s.begin text s.there in
    let start = uleb_within bytes at (length text) s.begin s.length_is in
    let enough : s.begin + length text ≤ length bytes = omega arith in
    rw (uleb_reads bytes at (length text) s.begin s.length_is, le-ltb limits.one (length text) short, le-ltb limits.all (all + length text) few, le-ltb (length bytes) (s.begin + length text) enough, s.there)
    (let read : ℕ → Result (List ℕ × ℕ) TableFault = λ n. Ok (text, n) in ap read (sym s.next_is))

next_spells : (limits : TextLimits) (bytes : List ℕ) (s : ℕ × ℕ) (text : List ℕ) (t : ℕ × ℕ) → next_text limits bytes s ≡ Ok (text, t)
    → IsText bytes s.1 text t.1 × (length text ≤ limits.one) × (s.0 + length text ≤ limits.all) × (t.0 ≡ s.0 + length text)
unfolding next_text
next_spells limits bytes s text t e =
    let read = bind_ok (text_at limits s.0 bytes s.1) _ _ e in
    let there = text_spells limits s.0 bytes s.1 read.0.0 read.0.1 read.1 in
    subst (λ (y : List ℕ × (ℕ × ℕ)). IsText bytes s.1 y.0 y.1.1 × (length y.0 ≤ limits.one) × (s.0 + length y.0 ≤ limits.all) × (y.1.0 ≡ s.0 + length y.0)) (same_ok _ _ read.2)
    (there.0, there.1, there.2, refl)

next_reads : (limits : TextLimits) (bytes : List ℕ) (s : ℕ × ℕ) (text : List ℕ) (next : ℕ) → IsText bytes s.1 text next → length text ≤ limits.one → s.0 + length text ≤ limits.all
    → next_text limits bytes s ≡ Ok (text, (s.0 + length text, next))
unfolding next_text
next_reads limits bytes s text next there short few = rw (text_reads limits s.0 bytes s.1 text next there short few) refl

-- the texts with the limits that they keep, where some bytes were counted before
record Counted (limits : TextLimits) (bytes : List ℕ) (s : ℕ × ℕ) (texts : List (List ℕ)) (t : ℕ × ℕ) : Type 0 where
  stand : InTurn (IsText bytes) s.1 texts t.1
  short : All (λ x. length x ≤ limits.one) texts
  all : t.0 ≡ s.0 + sum_by length texts
  few : s.0 ≤ limits.all → s.0 + sum_by length texts ≤ limits.all

many_texts_spell : (limits : TextLimits) (bytes : List ℕ) (n : ℕ) (s : ℕ × ℕ) (texts : List (List ℕ)) (t : ℕ × ℕ) → many (next_text limits bytes) n s ≡ Ok (texts, t)
    → (length texts ≡ n) × Counted limits bytes s texts t
unfolding many
many_texts_spell limits bytes zero s texts t e =
    let start : List (List ℕ) × (ℕ × ℕ) = ([], s) in
    subst (λ (y : List (List ℕ) × (ℕ × ℕ)). (length y.0 ≡ 0) × Counted limits bytes s y.0 y.1) (same_ok start (texts, t) e)
    (refl, record { stand = refl; short = All-nil (λ x. length x ≤ limits.one); all = omega arith; few = λ h. omega (arith, h) })
many_texts_spell limits bytes (suc n) s texts t e =
    let first = bind_ok (next_text limits bytes s) _ _ e in
    let others = bind_ok (many (next_text limits bytes) n first.0.1) _ _ first.2 in
    let one = next_spells limits bytes s first.0.0 first.0.1 first.1 in
    let rest = many_texts_spell limits bytes n first.0.1 others.0.0 others.0.1 others.1 in
    let inside = rest.1 in
    let total = sum_by-cons length first.0.0 others.0.0 in
    let so_far : s.0 + length first.0.0 ≤ limits.all = one.2 in
    let after : first.0.1.0 ≡ s.0 + length first.0.0 = one.3 in
    let within : first.0.1.0 + sum_by length others.0.0 ≤ limits.all = inside.few (omega arith) in
    subst (λ (y : List (List ℕ) × (ℕ × ℕ)). (length y.0 ≡ suc n) × Counted limits bytes s y.0 y.1) (same_ok _ _ others.2) (
      ap suc rest.0,
      record {
        stand = (first.0.1.1, one.0, inside.stand);
        short = All-cons (λ x. length x ≤ limits.one) first.0.0 others.0.0 one.1 inside.short;
        all = omega (arith, inside.all);
        few = λ h. omega arith;
      },
    )

many_texts_read : (limits : TextLimits) (bytes : List ℕ) (texts : List (List ℕ)) (s : ℕ × ℕ) (next : ℕ) → InTurn (IsText bytes) s.1 texts next → All (λ x. length x ≤ limits.one) texts → s.0 + sum_by length texts ≤ limits.all
    → many (next_text limits bytes) (length texts) s ≡ Ok (texts, (s.0 + sum_by length texts, next))
unfolding many
many_texts_read limits bytes [] s next stand short few =
    let end : ℕ × ℕ → Result (List (List ℕ) × (ℕ × ℕ)) TableFault = λ t. Ok ([], t) in
    let start : ℕ × ℕ = (s.0 + 0, next) in
    let nothing : s.0 ≡ s.0 + 0 = omega arith in
    ap (λ (k : ℕ). end (k, s.1)) nothing ∙ ap (λ (k : ℕ). end (s.0 + 0, k)) (sym stand)
many_texts_read limits bytes (x ∷ xs) s next stand short few =
    let total = sum_by-cons length x xs in
    let first : s.0 + length x ≤ limits.all = omega arith in
    let rest : (s.0 + length x) + sum_by length xs ≤ limits.all = omega arith in
    let inside = many_texts_read limits bytes xs (s.0 + length x, stand.0) next stand.2 (All-tail (λ x. length x ≤ limits.one) x xs short) rest in
    let sum_is : (s.0 + length x) + sum_by length xs ≡ s.0 + sum_by length (x ∷ xs) = omega arith in
    let end : ℕ → Result (List (List ℕ) × (ℕ × ℕ)) TableFault = λ k. Ok (x ∷ xs, (k, next)) in
    rw (next_reads limits bytes s x stand.0 stand.1 (All-head (λ x. length x ≤ limits.one) x xs short) first, inside) (ap end sum_is)

-- a table that was read is spelled, and keeps the limits
pub table_spells : (limits : TextLimits) (bytes : List ℕ) (at : ℕ) (texts : List (List ℕ)) (next : ℕ) → table_at limits bytes at ≡ Ok (texts, next)
    → IsTable bytes at texts × (length texts ≤ limits.strings) × All (λ x. length x ≤ limits.one) texts × (sum_by length texts ≤ limits.all)
unfolding table_at texts_at
table_spells limits bytes at texts next e =
    let count = bind_ok (cut (uleb_at bytes at)) _ _ e in
    let test = passed (nat_lt limits.strings count.0.0) (Limit Strings) _ (texts, next) count.2 in
    let read = bind_ok (many (next_text limits bytes) count.0.0 (0, count.0.1)) _ _ test.1 in
    let inside = many_texts_spell limits bytes count.0.0 (0, count.0.1) read.0.0 read.0.1 read.1 in
    let number = uleb_spells bytes at count.0.0 count.0.1 (cut_ok (uleb_at bytes at) count.0 count.1) in
    let enough : sum_by length read.0.0 ≤ limits.all = omega (arith, inside.1.few (omega arith)) in
    subst (λ (y : List (List ℕ) × ℕ). IsTable bytes at y.0 × (length y.0 ≤ limits.strings) × All (λ x. length x ≤ limits.one) y.0 × (sum_by length y.0 ≤ limits.all)) (same_ok _ _ read.2) (
      record { begin = count.0.1; next = read.0.1.1; count_is = subst (λ (n : ℕ). IsUleb bytes at n count.0.1) (sym inside.0) number; texts_stand = inside.1.stand },
      rw inside.0 (ltb-false limits.strings count.0.0 test.0),
      inside.1.short,
      enough,
    )

-- a table that is spelled and keeps the limits is read
pub table_reads : (limits : TextLimits) (bytes : List ℕ) (at : ℕ) (texts : List (List ℕ)) (s : IsTable bytes at texts) → length texts ≤ limits.strings → All (λ x. length x ≤ limits.one) texts → sum_by length texts ≤ limits.all
    → table_at limits bytes at ≡ Ok (texts, s.next)
unfolding table_at texts_at
table_reads limits bytes at texts s count short few =
    rw (uleb_reads bytes at (length texts) s.begin s.count_is, le-ltb limits.strings (length texts) count, many_texts_read limits bytes texts (0, s.begin) s.next s.texts_stand short (omega (arith, few))) refl
