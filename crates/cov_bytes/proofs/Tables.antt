-- What is written is read: numbers of 4 and of 8 bytes, and tables.
use Rattle.std.proofs.Common.{◌≡◌, ℕ, ◌+◌, ◌^◌, ◌<◌, ◌≤◌, false, List, [], ◌∷◌, ◌++◌, length, take, drop, sum_by, Result, Ok, Err, All, refl, sym, ap, ◌∙◌, append_assoc, length-append, length-drop, arith}
use Rattle.std.specs.Prelude.{nat_lt, if◌then◌else◌}
use Rattle.std.proofs.lemmas.Bool.{cond-false}
use Rattle.std.proofs.lemmas.Bool.Decides.{nat_tests}
use Rattle.std.proofs.lemmas.List.Elements.{All-head, All-tail}
use Rattle.std.proofs.Math.Seq.{take-append_seam, drop-append_seam}
use Rattle.std.proofs.lemmas.List.{drop-drop}
use Rattle.std.proofs.lemmas.List.Sums.{sum_by-cons}
use Rattle.byteorder.specs.Endian.{little_number, little_bytes}
use Rattle.cov_bytes.specs.Reading.{uleb_at, little_at, take_at}
use Rattle.cov_bytes.specs.Many.{many, ◌>>=◌}
use Rattle.cov_bytes.specs.Table.{text_at, next_text, texts_at, table_at, cut}
use Rattle.cov_bytes.specs.Writing.{uleb_of, texts_text, table_text}
use Rattle.cov_bytes.specs.Laws.{FixedAreRead, TablesAreRead}
use Rattle.cov_bytes.specs.declared.cursor.CutFault.{CutFault}
use Rattle.cov_bytes.specs.declared.cursor.CutFault.TheVariants.{Short}
use Rattle.cov_bytes.specs.declared.text_limits.TextLimits.{TextLimits}
use Rattle.cov_bytes.specs.declared.text_limits.TableFault.{TableFault}
use Rattle.cov_bytes.specs.declared.text_limits.TableFault.TheVariants as faults
use Rattle.cov_bytes.specs.declared.text_limits.WhichText.TheVariants.{Strings, NameBytes, StringBytes}
use Rattle.cov_bytes.proofs.Numbers.{numbers_are_read}
use Rattle.cov_bytes.proofs.Written.{written_is_shortest}

-- what stands from an offset on, and behind its front
pub behind : (bytes front rest : List ℕ) (at : ℕ) → drop at bytes ≡ front ++ rest → drop (at + length front) bytes ≡ rest
behind bytes front rest at here = sym (drop-drop (length front) at bytes) ∙ ap (drop (length front)) here ∙ drop-append_seam front rest

not_less : (a b : ℕ) → b ≤ a → nat_lt a b ≡ false
not_less a b le = grind (arith, nat_tests)

-- a front is within the bytes, unless it is empty
pub within : (bytes front rest : List ℕ) (at : ℕ) → 0 < length front → drop at bytes ≡ front ++ rest → at + length front ≤ length bytes
within bytes front rest at pos here = omega (arith, length-drop at bytes, ap length here, length-append front rest)

four_back : (n : ℕ) (rest : List ℕ) → n < 2 ^ 32 → little_number 4 (little_bytes 4 n ++ rest) ≡ n
four_back n rest lt = omega arith

eight_back : (n : ℕ) (rest : List ℕ) → n < 2 ^ 64 → little_number 8 (little_bytes 8 n ++ rest) ≡ n
eight_back n rest lt = omega arith

fixed_at : (k n : ℕ) (bytes rest spelling : List ℕ) (at : ℕ) → 0 < k → length spelling ≡ k → drop at bytes ≡ spelling ++ rest → little_number k (spelling ++ rest) ≡ n → little_at k bytes at ≡ Ok (n, at + k)
fixed_at k n bytes rest spelling at pos len here back =
    let value : little_number k (drop at bytes) ≡ n = ap (little_number k) here ∙ back in
    let enough : at + k ≤ length bytes = omega (arith, within bytes spelling rest at (omega arith) here) in
    cond-false (nat_lt (length bytes) (at + k)) (Err (Short at)) (Ok (little_number k (drop at bytes), at + k)) (not_less (length bytes) (at + k) enough) ∙ ap (λ (v : ℕ). Ok (v, at + k)) value

pub fixed_are_read : FixedAreRead
fixed_are_read = record {
  four = λ bytes rest at n lt here. fixed_at 4 n bytes rest (little_bytes 4 n) at (omega arith) refl here (four_back n rest lt);
  eight = λ bytes rest at n lt here. fixed_at 8 n bytes rest (little_bytes 8 n) at (omega arith) refl here (eight_back n rest lt);
}

uleb_length : (n : ℕ) → n < 2 ^ 32 → 0 < length (uleb_of n)
uleb_length n lt = let u = (written_is_shortest n lt).0 in omega (arith, u.ends)

pub uleb_is_read : (bytes rest : List ℕ) (at n : ℕ) → n < 2 ^ 32 → drop at bytes ≡ uleb_of n ++ rest → uleb_at bytes at ≡ Ok (n, at + length (uleb_of n))
uleb_is_read bytes rest at n lt here = numbers_are_read bytes rest (uleb_of n) at n (written_is_shortest n lt).0 here

bytes_read : (bytes text rest : List ℕ) (at : ℕ) → at + length text ≤ length bytes → drop at bytes ≡ text ++ rest → take_at (length text) bytes at ≡ Ok (text, at + length text)
bytes_read bytes text rest at enough here =
    cond-false (nat_lt (length bytes) (at + length text)) (Err (Short at)) (Ok (take (length text) (drop at bytes), at + length text)) (not_less (length bytes) (at + length text) enough)
    ∙ ap (λ (t : List ℕ). Ok (t, at + length text)) (ap (take (length text)) here ∙ take-append_seam text rest)

abbrev text_from : TextLimits → ℕ → List ℕ → Result (ℕ × ℕ) CutFault → Result (List ℕ × ℕ) TableFault
text_from limits all bytes r = do
  len ← cut r
  if nat_lt limits.one len.0 then Err (faults.Limit NameBytes)
      else if nat_lt limits.all (all + len.0) then Err (faults.Limit StringBytes)
      else cut (take_at len.0 bytes len.1)

text_is_read : (limits : TextLimits) (all : ℕ) (bytes text rest : List ℕ) (at : ℕ) → length text < 2 ^ 32 → length text ≤ limits.one → all + length text ≤ limits.all
    → drop at bytes ≡ uleb_of (length text) ++ (text ++ rest) → text_at limits all bytes at ≡ Ok (text, at + length (uleb_of (length text)) + length text)
unfolding text_at
text_is_read limits all bytes text rest at short one together here =
    let number = uleb_is_read bytes (text ++ rest) at (length text) short here in
    let room : at + length (uleb_of (length text)) + length text ≤ length bytes = omega (arith, length-drop at bytes, ap length here, length-append (uleb_of (length text)) (text ++ rest), length-append text rest, uleb_length (length text) short) in
    let got = bytes_read bytes text rest (at + length (uleb_of (length text))) room (behind bytes (uleb_of (length text)) (text ++ rest) at here) in
    ap (text_from limits all bytes) number
    ∙ cond-false (nat_lt limits.one (length text)) (Err (faults.Limit NameBytes)) _ (not_less limits.one (length text) one)
    ∙ cond-false (nat_lt limits.all (all + length text)) (Err (faults.Limit StringBytes)) _ (not_less limits.all (all + length text) together)
    ∙ ap cut got

next_is_read : (limits : TextLimits) (all : ℕ) (bytes text rest : List ℕ) (at : ℕ) → length text < 2 ^ 32 → length text ≤ limits.one → all + length text ≤ limits.all
    → drop at bytes ≡ uleb_of (length text) ++ (text ++ rest) → next_text limits bytes (all, at) ≡ Ok (text, (all + length text, at + length (uleb_of (length text)) + length text))
unfolding next_text
next_is_read limits all bytes text rest at short one together here =
    ap (λ (r : Result (List ℕ × ℕ) TableFault). r >>= λ t. Ok (t.0, (all + length t.0, t.1))) (text_is_read limits all bytes text rest at short one together here)

same_state : (a b c d : ℕ) → a ≡ b → c ≡ d → ◌≡◌ {A = ℕ × ℕ} (a, c) (b, d)
same_state a b c d e f = rw (e, f) refl

many_are_read : (limits : TextLimits) (bytes : List ℕ) (texts : List (List ℕ)) (all at : ℕ) (rest : List ℕ) → All (λ text. length text < 2 ^ 32) texts → All (λ text. length text ≤ limits.one) texts → all + sum_by length texts ≤ limits.all
    → drop at bytes ≡ texts_text texts ++ rest → many (next_text limits bytes) (length texts) (all, at) ≡ Ok (texts, (all + sum_by length texts, at + length (texts_text texts)))
unfolding many
many_are_read limits bytes [] all at rest short one together here = ap (λ (s : ℕ × ℕ). Ok ([], s)) (same_state all (all + 0) at (at + 0) (omega arith) (omega arith))
many_are_read limits bytes (text ∷ texts) all at rest short one together here =
    let len = uleb_of (length text) in
    let one_text : drop at bytes ≡ (uleb_of (length text) ++ text) ++ (texts_text texts ++ rest) = here ∙ append_assoc (uleb_of (length text) ++ text) (texts_text texts) rest in
    let parts : drop at bytes ≡ uleb_of (length text) ++ (text ++ (texts_text texts ++ rest)) = one_text ∙ append_assoc (uleb_of (length text)) text (texts_text texts ++ rest) in
    let sums : sum_by length (text ∷ texts) ≡ length text + sum_by length texts = sum_by-cons length text texts in
    let lengths = length-append (uleb_of (length text)) text in
    let all_lengths = length-append (uleb_of (length text) ++ text) (texts_text texts) in
    let first = next_is_read limits all bytes text (texts_text texts ++ rest) at (All-head (λ t. length t < 2 ^ 32) text texts short) (All-head (λ t. length t ≤ limits.one) text texts one) (omega arith) parts in
    let further : drop (at + length (uleb_of (length text)) + length text) bytes ≡ texts_text texts ++ rest =
    ap (λ (k : ℕ). drop k bytes) (omega arith) ∙ behind bytes (uleb_of (length text) ++ text) (texts_text texts ++ rest) at one_text in
    let others = many_are_read limits bytes texts (all + length text) (at + length (uleb_of (length text)) + length text) rest (All-tail (λ t. length t < 2 ^ 32) text texts short) (All-tail (λ t. length t ≤ limits.one) text texts one) (omega arith) further in
    ap (λ (r : Result (List ℕ × (ℕ × ℕ)) TableFault). r >>= λ found. many (next_text limits bytes) (length texts) found.1 >>= λ rest_of. Ok (found.0 ∷ rest_of.0, rest_of.1)) first
    ∙ ap (λ (r : Result (List (List ℕ) × (ℕ × ℕ)) TableFault). r >>= λ rest_of. Ok (text ∷ rest_of.0, rest_of.1)) others
    ∙ ap (λ (s : ℕ × ℕ). Ok (text ∷ texts, s)) (same_state (all + length text + sum_by length texts) (all + sum_by length (text ∷ texts)) (at + length (uleb_of (length text)) + length text + length (texts_text texts)) (at + length (texts_text (text ∷ texts))) (omega arith) (omega arith))

pub tables_are_read : TablesAreRead
unfolding table_at texts_at table_text
tables_are_read limits bytes rest at texts keeps here =
    let parts : drop at bytes ≡ uleb_of (length texts) ++ (texts_text texts ++ rest) = here ∙ append_assoc (uleb_of (length texts)) (texts_text texts) rest in
    let number = uleb_is_read bytes (texts_text texts ++ rest) at (length texts) keeps.few parts in
    let others = many_are_read limits bytes texts 0 (at + length (uleb_of (length texts))) rest keeps.short keeps.each (omega (arith, keeps.together)) (behind bytes (uleb_of (length texts)) (texts_text texts ++ rest) at parts) in
    ap (λ (r : Result (ℕ × ℕ) CutFault). cut r >>= λ n. if nat_lt limits.strings n.0 then Err (faults.Limit Strings) else texts_at limits n.0 bytes n.1) number
    ∙ cond-false (nat_lt limits.strings (length texts)) (Err (faults.Limit Strings)) _ (not_less limits.strings (length texts) keeps.count)
    ∙ ap (λ (r : Result (List (List ℕ) × (ℕ × ℕ)) TableFault). r >>= λ found. Ok (found.0, found.1.1)) others
    ∙ ap (λ (k : ℕ). Ok (texts, k)) (omega (arith, length-append (uleb_of (length texts)) (texts_text texts)))
