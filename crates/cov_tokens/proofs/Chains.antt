-- Pieces one behind another, each the longest before the next.
use Rattle.std.proofs.Common.{◌≡◌, ◌⊎◌, inl, inr, ℕ, ◌<◌, ◌≤◌, Bool, true, false, ◌&&◌, ◌||◌, not, List, [], ◌∷◌, ◌++◌, length, Option, Some, None, refl, sym, ap, subst, ◌∙◌, arith, append_assoc, nat_eq, nat_lt}
use Rattle.std.specs.Prelude.{encode_utf8, slice_get}
use Rattle.std.specs.List.{list_all, AllByRecursion}
use Rattle.std.specs.Str.{encode_utf8_all}
use Rattle.std.specs.Char.{IsScalar}
use Rattle.std.proofs.lemmas.Str.{encode_ascii}
use Rattle.std.proofs.lemmas.Bool.{eqb-true, ltb-true, lt-ltb}
use Rattle.unicode.specs.declared.properties.GeneralCategory.{GeneralCategory}
use Rattle.unicode.proofs.CategoryComputing.{ucd_category}
use Rattle.unicode.proofs.GeneralCategoryLemmas.{general_category_stepped}
use Rattle.go_ast.specs.declared.token.PieceForm.{PieceForm}
use Rattle.go_ast.specs.declared.token.PieceForm.TheVariants as form
use Rattle.go_ast.specs.Characters.{AreCharacters, IsSourceCharacter, is_letter_or_digit, is_letter_category, is_digit_category}
use Rattle.go_ast.specs.Numbers.{is_run, is_int, is_decimal}
use Rattle.go_ast.specs.Words.{operators}
use Rattle.go_ast.specs.Pieces.{Piece, Divides, HasForm, IsLongest, IsMeant, IsWord}
use Rattle.cov_tokens.proofs.Basics.{both, clash, not_true, cons_both}
use Rattle.cov_tokens.proofs.Firsts.{is_ascii_letter, is_ascii_word, is_sign, letter_ascii, word_ascii, form_some}
use Rattle.cov_tokens.proofs.Local.{IsLetterOrDigit}
use Rattle.cov_tokens.proofs.Stands.{Parts, parted, firm, IsFirm, word_parts, number_parts, is_number_byte, sign_parts, sign_before, is_closed_sign, gap_parts}
use Rattle.cov_tokens.proofs.Spelling.{flat, flat_append}

abbrev pub piece : PieceForm → List ℕ → Piece
piece f bytes = record { form = f; bytes = bytes }

-- characters of the form that are meant
pub record IsFine (p : Piece) : Type 0 where
  pub characters : AreCharacters p.bytes
  pub meant : IsMeant p.form p.bytes
  pub has_form : HasForm p.form p.bytes

-- ---- characters of ASCII

abbrev pub is_plain : ℕ → Bool
is_plain b = nat_lt 0 b && nat_lt b 128

scalar_ascii : (b : ℕ) → b < 128 → IsScalar b
scalar_ascii b lt = rw (lt-ltb b 55296 (omega arith)) refl

plain_source : (b : ℕ) → is_plain b ≡ true → IsSourceCharacter b × (encode_utf8 b ≡ b ∷ [])
plain_source b h =
    let two = both (nat_lt 0 b) (nat_lt b 128) h in
    let some = ltb-true 0 b two.0 in
    let low = ltb-true b 128 two.1 in
    ((scalar_ascii b low, go (nat_eq b 0) (nat_eq b 65279) refl refl some low), encode_ascii b low)
  where
    go : (x y : Bool) → nat_eq b 0 ≡ x → nat_eq b 65279 ≡ y → 0 < b → b < 128 → (x || y) ≡ false
    go true y x-is y-is s l = let e = eqb-true b 0 x-is in absurd (omega arith)
    go false true x-is y-is s l = let e = eqb-true b 65279 y-is in absurd (omega arith)
    go false false x-is y-is s l = refl

pub plain_all : (bs : List ℕ) → list_all is_plain bs ≡ true → AllByRecursion IsSourceCharacter bs × (bs ≡ encode_utf8_all bs)
plain_all [] h = (tt, refl)
plain_all (b ∷ bs) h =
    let two = both (is_plain b) (list_all is_plain bs) h in
    let one = plain_source b two.0 in
    let more = plain_all bs two.1 in
    ((one.0, more.0), ap (λ (x : List ℕ). b ∷ x) more.1 ∙ ap (λ (x : List ℕ). x ++ encode_utf8_all bs) (sym one.1))

pub plain_characters : (bs : List ℕ) → list_all is_plain bs ≡ true → AreCharacters bs
plain_characters bs h = let a = plain_all bs h in (bs, a.0, a.1)

pub join_characters : (v w : List ℕ) → AreCharacters v → AreCharacters w → AreCharacters (v ++ w)
join_characters v w a b = (a.0 ++ b.0, both_all a.0 a.1, ap (λ (x : List ℕ). x ++ w) a.2 ∙ ap (λ (x : List ℕ). encode_utf8_all a.0 ++ x) b.2 ∙ sym (encodes a.0))
  where
    both_all : (cs : List ℕ) → AllByRecursion IsSourceCharacter cs → AllByRecursion IsSourceCharacter (cs ++ b.0)
    both_all [] all = b.1
    both_all (c ∷ cs) all = (all.0, both_all cs all.1)

    encodes : (cs : List ℕ) → encode_utf8_all (cs ++ b.0) ≡ encode_utf8_all cs ++ encode_utf8_all b.0
    encodes [] = refl
    encodes (c ∷ cs) = ap (λ (x : List ℕ). encode_utf8 c ++ x) (encodes cs) ∙ sym (append_assoc (encode_utf8 c) (encode_utf8_all cs) (encode_utf8_all b.0))

-- a byte order mark is no letter
mark_no_letter : is_letter_or_digit 65279 ≡ false
unfolding ucd_category
mark_no_letter = ap (λ (g : GeneralCategory). (nat_eq 65279 95 || is_letter_category g) || is_digit_category g) (general_category_stepped.gives 65279)

letter_source : (c : ℕ) → IsLetterOrDigit c → IsSourceCharacter c
letter_source c is = (is.0, go (nat_eq c 0) (nat_eq c 65279) refl refl)
  where
    go : (x y : Bool) → nat_eq c 0 ≡ x → nat_eq c 65279 ≡ y → (x || y) ≡ false
    go true y x-is y-is = absurd (clash (is_letter_or_digit 0) (subst (λ (d : ℕ). is_letter_or_digit d ≡ true) (eqb-true c 0 x-is) is.1) (word_ascii 0 (omega arith)))
    go false true x-is y-is = absurd (clash (is_letter_or_digit 65279) (subst (λ (d : ℕ). is_letter_or_digit d ≡ true) (eqb-true c 65279 y-is) is.1) mark_no_letter)
    go false false x-is y-is = refl

letters_source : (cs : List ℕ) → AllByRecursion IsLetterOrDigit cs → AllByRecursion IsSourceCharacter cs
letters_source [] all = tt
letters_source (c ∷ cs) all = (letter_source c all.0, letters_source cs all.1)

pub word_fine : (w : List ℕ) → IsWord w → IsFine (piece form.Word w)
word_fine w is = record {
  characters = (is.0 ∷ is.1, (letter_source is.0 (is.2, rw is.3 refl), letters_source is.1 is.4), is.5);
  meant = tt;
  has_form = is;
}

-- ---- words of ASCII

abbrev pub is_plain_word : List ℕ → Bool
is_plain_word [] = false
is_plain_word (b ∷ bs) = list_all is_plain (b ∷ bs) && (is_ascii_letter b && list_all is_ascii_word bs)

plain_letters : (bs : List ℕ) → list_all is_plain bs ≡ true → list_all is_ascii_word bs ≡ true → AllByRecursion IsLetterOrDigit bs
plain_letters [] h a = tt
plain_letters (b ∷ bs) h a =
    let two = both (is_plain b) (list_all is_plain bs) h in
    let three = both (is_ascii_word b) (list_all is_ascii_word bs) a in
    let low = ltb-true b 128 (both (nat_lt 0 b) (nat_lt b 128) two.0).1 in
    (((plain_source b two.0).0.0, word_ascii b low ∙ three.0), plain_letters bs two.1 three.1)

pub plain_word : (w : List ℕ) → is_plain_word w ≡ true → IsWord w
plain_word [] h = absurd cc
plain_word (b ∷ bs) h =
    let one = both (list_all is_plain (b ∷ bs)) (is_ascii_letter b && list_all is_ascii_word bs) h in
    let two = both (is_plain b) (list_all is_plain bs) one.0 in
    let three = both (is_ascii_letter b) (list_all is_ascii_word bs) one.1 in
    let low = ltb-true b 128 (both (nat_lt 0 b) (nat_lt b 128) two.0).1 in
    (b, bs, (plain_source b two.0).0.0, letter_ascii b low ∙ three.0, plain_letters bs two.1 three.1, (plain_all (b ∷ bs) one.0).1)

-- ---- pieces by tests

abbrev same_word : List ℕ → List ℕ → Bool
same_word [] [] = true
same_word [] (c ∷ cs) = false
same_word (b ∷ bs) [] = false
same_word (b ∷ bs) (c ∷ cs) = nat_eq b c && same_word bs cs

same_word_is : (v w : List ℕ) → same_word v w ≡ true → v ≡ w
same_word_is [] [] e = refl
same_word_is [] (c ∷ cs) e = absurd cc
same_word_is (b ∷ bs) [] e = absurd cc
same_word_is (b ∷ bs) (c ∷ cs) e = let two = both (nat_eq b c) (same_word bs cs) e in cons_both b c bs cs (eqb-true b c two.0) (same_word_is bs cs two.1)

abbrev is_word_at : List ℕ → Option (List ℕ) → Bool
is_word_at w None = false
is_word_at w (Some v) = same_word v w

word_at_is : (w : List ℕ) (o : Option (List ℕ)) → is_word_at w o ≡ true → o ≡ Some w
word_at_is w None e = absurd cc
word_at_is w (Some v) e = ap (λ (x : List ℕ). Some x) (same_word_is v w e)

abbrev is_blank : List ℕ → Bool
is_blank w = same_word w (32 ∷ []) || same_word w (9 ∷ [])

-- one sign before what no operator consists of
abbrev is_open_sign : List ℕ → ℕ → Bool
is_open_sign [] b = false
is_open_sign (x ∷ y ∷ w) b = false
is_open_sign (x ∷ []) b = (is_sign x && not (nat_eq x 47)) && (not (is_sign b) && not (is_decimal b))

-- a piece that is known by its bytes, before a byte
abbrev pub is_known : PieceForm → List ℕ → ℕ → Bool
is_known form.Blank w b = is_blank w
is_known form.Line w b = same_word w (10 ∷ [])
is_known form.Word w b = is_plain_word w && (nat_lt b 128 && not (is_ascii_word b))
is_known form.Number w b = (list_all is_plain w && is_int w) && (is_run w && not (is_number_byte b))
is_known (form.Operator place) w b = (list_all is_plain w && is_word_at w (slice_get operators place)) && (is_closed_sign w || is_open_sign w b)
is_known _ w b = false

blank_is : (w : List ℕ) → is_blank w ≡ true → (w ≡ 32 ∷ []) ⊎ (w ≡ 9 ∷ [])
blank_is w h = go (same_word w (32 ∷ [])) refl h
  where
    go : (v : Bool) → same_word w (32 ∷ []) ≡ v → (v || same_word w (9 ∷ [])) ≡ true → (w ≡ 32 ∷ []) ⊎ (w ≡ 9 ∷ [])
    go true v-is g = inl (same_word_is w (32 ∷ []) v-is)
    go false v-is g = inr (same_word_is w (9 ∷ []) g)

pub space_fine : IsFine (piece form.Blank (32 ∷ []))
space_fine = record { characters = plain_characters (32 ∷ []) refl; meant = tt; has_form = inl (32, refl, refl) }

tab_fine : IsFine (piece form.Blank (9 ∷ []))
tab_fine = record { characters = plain_characters (9 ∷ []) refl; meant = tt; has_form = inl (9, refl, refl) }

pub line_fine : IsFine (piece form.Line (10 ∷ []))
line_fine = record { characters = plain_characters (10 ∷ []) refl; meant = tt; has_form = inl refl }

pub known_fine : (f : PieceForm) (w : List ℕ) (b : ℕ) → is_known f w b ≡ true → IsFine (piece f w)
known_fine form.Blank w b h = go (blank_is w h)
  where
    go : ((w ≡ 32 ∷ []) ⊎ (w ≡ 9 ∷ [])) → IsFine (piece form.Blank w)
    go (inl e) = subst (λ (x : List ℕ). IsFine (piece form.Blank x)) (sym e) space_fine
    go (inr e) = subst (λ (x : List ℕ). IsFine (piece form.Blank x)) (sym e) tab_fine
known_fine form.Line w b h = subst (λ (x : List ℕ). IsFine (piece form.Line x)) (sym (same_word_is w (10 ∷ []) h)) line_fine
known_fine form.Word w b h = word_fine w (plain_word w (both (is_plain_word w) (nat_lt b 128 && not (is_ascii_word b)) h).0)
known_fine form.Number w b h =
    let one = both (list_all is_plain w && is_int w) (is_run w && not (is_number_byte b)) h in
    let two = both (list_all is_plain w) (is_int w) one.0 in
    record { characters = plain_characters w two.0; meant = two.1; has_form = inl (both (is_run w) (not (is_number_byte b)) one.1).0 }
known_fine (form.Operator place) w b h =
    let one = both (list_all is_plain w && is_word_at w (slice_get operators place)) (is_closed_sign w || is_open_sign w b) h in
    let two = both (list_all is_plain w) (is_word_at w (slice_get operators place)) one.0 in
    record { characters = plain_characters w two.0; meant = tt; has_form = word_at_is w (slice_get operators place) two.1 }
known_fine form.Opening w b h = absurd cc
known_fine form.Rune w b h = absurd cc
known_fine form.Quoted w b h = absurd cc
known_fine form.Raw w b h = absurd cc

open_parts : (w : List ℕ) (b : ℕ) → is_open_sign w b ≡ true → Parts w b
open_parts [] b h = absurd cc
open_parts (x ∷ y ∷ w) b h = absurd cc
open_parts (x ∷ []) b h =
    let one = both (is_sign x && not (nat_eq x 47)) (not (is_sign b) && not (is_decimal b)) h in
    let two = both (is_sign x) (not (nat_eq x 47)) one.0 in
    let three = both (not (is_sign b)) (not (is_decimal b)) one.1 in
    sign_before x b two.0 (not_true (nat_eq x 47) two.1) (not_true (is_sign b) three.0) (not_true (is_decimal b) three.1)

pub known_parts : (f : PieceForm) (w : List ℕ) (b : ℕ) → is_known f w b ≡ true → Parts w b
known_parts form.Blank w b h = go (blank_is w h)
  where
    go : ((w ≡ 32 ∷ []) ⊎ (w ≡ 9 ∷ [])) → Parts w b
    go (inl e) = subst (λ (x : List ℕ). Parts x b) (sym e) (gap_parts 32 b refl)
    go (inr e) = subst (λ (x : List ℕ). Parts x b) (sym e) (gap_parts 9 b refl)
known_parts form.Line w b h = subst (λ (x : List ℕ). Parts x b) (sym (same_word_is w (10 ∷ []) h)) (gap_parts 10 b refl)
known_parts form.Word w b h =
    let one = both (is_plain_word w) (nat_lt b 128 && not (is_ascii_word b)) h in
    let two = both (nat_lt b 128) (not (is_ascii_word b)) one.1 in
    word_parts w b (ltb-true b 128 two.0) (not_true (is_ascii_word b) two.1) (plain_word w one.0)
known_parts form.Number w b h =
    let one = both (list_all is_plain w && is_int w) (is_run w && not (is_number_byte b)) h in
    let two = both (is_run w) (not (is_number_byte b)) one.1 in
    number_parts w b two.0 (not_true (is_number_byte b) two.1)
known_parts (form.Operator place) w b h = go (is_closed_sign w) refl (both (list_all is_plain w && is_word_at w (slice_get operators place)) (is_closed_sign w || is_open_sign w b) h).1
  where
    go : (v : Bool) → is_closed_sign w ≡ v → (v || is_open_sign w b) ≡ true → Parts w b
    go true v-is g = sign_parts w b v-is
    go false v-is g = open_parts w b g
known_parts form.Opening w b h = absurd cc
known_parts form.Rune w b h = absurd cc
known_parts form.Quoted w b h = absurd cc
known_parts form.Raw w b h = absurd cc

-- ---- chains

-- each piece is the longest before the next, and the last before these bytes, whatever follows
abbrev pub Chain : List Piece → List ℕ → Type 0
Chain [] v = Unit {0}
Chain (p ∷ ps) v = IsFine p × ((rest : List ℕ) → IsLongest p.form p.bytes (flat ps ++ (v ++ rest))) × Chain ps v

pub chain_divides : (ps : List Piece) (v : List ℕ) → Chain ps v → (rest : List ℕ) → Divides (flat ps ++ (v ++ rest)) ps (v ++ rest)
chain_divides [] v c rest = refl
chain_divides (p ∷ ps) v c rest =
    (flat ps ++ (v ++ rest), append_assoc p.bytes (flat ps) (v ++ rest), c.1 rest, c.0.characters, c.0.meant, chain_divides ps v c.2 rest)

pub chain_append : (ps qs : List Piece) (v : List ℕ) → Chain ps (flat qs ++ v) → Chain qs v → Chain (ps ++ qs) v
chain_append [] qs v c d = d
chain_append (p ∷ ps) qs v c d = (c.0, λ rest. subst (IsLongest p.form p.bytes) (same rest) (c.1 rest), chain_append ps qs v c.2 d)
  where
    same : (rest : List ℕ) → flat ps ++ ((flat qs ++ v) ++ rest) ≡ flat (ps ++ qs) ++ (v ++ rest)
    same rest =
        ap (λ (x : List ℕ). flat ps ++ x) (append_assoc (flat qs) v rest) ∙ sym (append_assoc (flat ps) (flat qs) (v ++ rest))
        ∙ ap (λ (x : List ℕ). x ++ (v ++ rest)) (sym (flat_append ps qs))

pub chain_one : (p : Piece) (v : List ℕ) → IsFine p → ((rest : List ℕ) → IsLongest p.form p.bytes (v ++ rest)) → Chain (p ∷ []) v
chain_one p v fine l = (fine, l, tt)

-- by the first byte of what follows
abbrev pub head_or : ℕ → List ℕ → ℕ
head_or b [] = b
head_or b (c ∷ cs) = c

abbrev pub next_byte : ℕ → List Piece → ℕ
next_byte b [] = b
next_byte b (p ∷ ps) = head_or b p.bytes

abbrev pub are_known : List Piece → ℕ → Bool
are_known [] b = true
are_known (p ∷ ps) b = is_known p.form p.bytes (next_byte b ps) && are_known ps b

head_is : (w more : List ℕ) (b : ℕ) → 1 ≤ length w → (tail : List ℕ) × (w ++ more ≡ head_or b w ∷ tail)
head_is [] more b some = absurd (omega arith)
head_is (c ∷ w) more b some = (w ++ more, refl)

next_is : (ps : List Piece) (b : ℕ) (v rest : List ℕ) → are_known ps b ≡ true → (tail : List ℕ) × (flat ps ++ ((b ∷ v) ++ rest) ≡ next_byte b ps ∷ tail)
next_is [] b v rest h = (v ++ rest, refl)
next_is (p ∷ ps) b v rest h =
    let one = both (is_known p.form p.bytes (next_byte b ps)) (are_known ps b) h in
    let fine = known_fine p.form p.bytes (next_byte b ps) one.0 in
    let head = head_is p.bytes (flat ps ++ ((b ∷ v) ++ rest)) b (form_some p.form p.bytes fine.has_form) in
    (head.0, append_assoc p.bytes (flat ps) ((b ∷ v) ++ rest) ∙ head.1)

pub chain_by : (ps : List Piece) (b : ℕ) (v : List ℕ) → are_known ps b ≡ true → Chain ps (b ∷ v)
chain_by [] b v h = tt
chain_by (p ∷ ps) b v h =
    let one = both (is_known p.form p.bytes (next_byte b ps)) (are_known ps b) h in
    let fine = known_fine p.form p.bytes (next_byte b ps) one.0 in
    let parts = known_parts p.form p.bytes (next_byte b ps) one.0 in
    (fine, λ rest. let n = next_is ps b v rest one.1 in subst (IsLongest p.form p.bytes) (sym n.1) (parted p.form p.bytes n.0 (next_byte b ps) fine.has_form parts), chain_by ps b v one.1)

-- known before any byte, so that the last stands before anything
pub chain_all : (ps : List Piece) → ((b : ℕ) → are_known ps b ≡ true) → (v : List ℕ) → Chain ps v
chain_all [] h v = tt
chain_all (p ∷ []) h v =
    let fine = known_fine p.form p.bytes 0 (both (is_known p.form p.bytes 0) true (h 0)).0 in
    (fine, λ rest. firm p.form p.bytes fine.has_form (λ b. known_parts p.form p.bytes b (both (is_known p.form p.bytes b) true (h b)).0) (v ++ rest), tt)
chain_all (p ∷ (q ∷ ps)) h v =
    let one = both (is_known p.form p.bytes (head_or 0 q.bytes)) (are_known (q ∷ ps) 0) (h 0) in
    let two = both (is_known q.form q.bytes (next_byte 0 ps)) (are_known ps 0) one.1 in
    let fine = known_fine p.form p.bytes (head_or 0 q.bytes) one.0 in
    let parts = known_parts p.form p.bytes (head_or 0 q.bytes) one.0 in
    let some = form_some q.form q.bytes (known_fine q.form q.bytes (next_byte 0 ps) two.0).has_form in (
      fine,
      λ rest. let head = head_is q.bytes (flat ps ++ (v ++ rest)) 0 some in subst (IsLongest p.form p.bytes) (sym (append_assoc q.bytes (flat ps) (v ++ rest) ∙ head.1)) (parted p.form p.bytes head.0 (head_or 0 q.bytes) fine.has_form parts),
      chain_all (q ∷ ps) (λ b. (both (is_known p.form p.bytes (head_or b q.bytes)) (are_known (q ∷ ps) b) (h b)).1) v,
    )

-- ---- the last piece of what is put in

pub closed_firm : (place : ℕ) (w : List ℕ) → slice_get operators place ≡ Some w → is_closed_sign w ≡ true → IsFirm (form.Operator place) w
closed_firm place w is closed = firm (form.Operator place) w is (λ b. sign_parts w b closed)

pub space_firm : IsFirm form.Blank (32 ∷ [])
space_firm = firm form.Blank (32 ∷ []) space_fine.has_form (λ b. gap_parts 32 b refl)

pub line_firm : IsFirm form.Line (10 ∷ [])
line_firm = firm form.Line (10 ∷ []) line_fine.has_form (λ b. gap_parts 10 b refl)
