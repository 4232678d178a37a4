-- What the pieces of each form begin with.
use Rattle.std.proofs.Common.{◌≡◌, inl, inr, ℕ, zero, suc, ◌<◌, ◌≤◌, Bool, true, false, ◌&&◌, ◌||◌, not, cond, List, [], ◌∷◌, ◌++◌, length, Option, Some, refl, sym, ap, subst, ◌∙◌, arith, nat_eq, nat_le, nat_lt}
use Rattle.std.specs.Prelude.{encode_utf8, slice_get, codes}
use Rattle.std.specs.List.{list_all, list_any}
use Rattle.std.specs.Str.{encode_utf8_all}
use Rattle.std.proofs.lemmas.List.{length-append}
use Rattle.std.proofs.lemmas.Str.{char_from_byte}
use Rattle.std.proofs.lemmas.Bool.{eqb-true, eq-eqb, le-leb, ltb-true, ltb-false}
use Rattle.unicode.specs.GeneralCategory.{general_category}
use Rattle.unicode.proofs.CategoryComputing.{ucd_category}
use Rattle.unicode.proofs.GeneralCategoryLemmas.{general_category_stepped}
use Rattle.unicode.proofs.Facts.{Stepped-below}
use Rattle.go_ast.specs.declared.token.PieceForm.{PieceForm}
use Rattle.go_ast.specs.declared.token.PieceForm.TheVariants as form
use Rattle.go_ast.specs.Characters.{is_letter, is_letter_or_digit, is_letter_category, is_digit_category}
use Rattle.go_ast.specs.Numbers.{is_decimal, is_run, is_run_after_zero, is_decimal_or_line}
use Rattle.go_ast.specs.Literals.{inner}
use Rattle.go_ast.specs.Words.{operators}
use Rattle.go_ast.specs.Pieces.{HasForm, IsWord, IsNumber}
use Rattle.cov_tokens.proofs.Basics.{both, clash, or_left, or_right, cons_is, encode_some}

-- ---- letters and digits of ASCII

abbrev pub is_ascii_letter : ℕ → Bool
is_ascii_letter b = nat_eq b 95 || ((nat_le 65 b && nat_le b 90) || (nat_le 97 b && nat_le b 122))

abbrev pub is_ascii_word : ℕ → Bool
is_ascii_word b = is_ascii_letter b || is_decimal b

abbrev same : Bool → Bool → Bool
same true b = b
same false b = not b

same_is : (a b : Bool) → same a b ≡ true → b ≡ a
same_is true b e = e
same_is false true e = absurd cc
same_is false false e = refl

pub letter_ascii : (b : ℕ) → b < 128 → is_letter b ≡ is_ascii_letter b
unfolding ucd_category
letter_ascii b lt =
    same_is (is_ascii_letter b) (is_letter b)
    (Stepped-below general_category general_category_stepped (λ c g. same (is_ascii_letter c) (nat_eq c 95 || is_letter_category g)) 128 refl b lt)

pub word_ascii : (b : ℕ) → b < 128 → is_letter_or_digit b ≡ is_ascii_word b
unfolding ucd_category
word_ascii b lt =
    same_is (is_ascii_word b) (is_letter_or_digit b)
    (Stepped-below general_category general_category_stepped (λ c g. same (is_ascii_word c) ((nat_eq c 95 || is_letter_category g) || is_digit_category g)) 128 refl b lt)

-- ---- the first byte

-- the bytes that operators consist of
abbrev pub is_sign : ℕ → Bool
is_sign b = list_any (λ c. nat_eq c b) (codes "+-*/%&|^<>=!~.()[]{},;:")

abbrev pub starts : PieceForm → ℕ → Bool
starts form.Blank b = (nat_eq b 32 || nat_eq b 9) || (nat_eq b 13 || nat_eq b 47)
starts form.Line b = nat_eq b 10 || nat_eq b 47
starts form.Opening b = nat_eq b 47
starts form.Word b = nat_le 128 b || is_ascii_letter b
starts form.Number b = is_decimal b || nat_eq b 46
starts form.Rune b = nat_eq b 39
starts form.Quoted b = nat_eq b 34
starts form.Raw b = nat_eq b 96
starts (form.Operator place) b = is_sign b

abbrev some_word : List ℕ → Option (List ℕ)
some_word w = Some w

pub some_is : (a b : List ℕ) → some_word a ≡ some_word b → a ≡ b
some_is a b e = cc

-- what a test says of all words of a table it says of each
pub all_at : (test : List ℕ → Bool) (table : List (List ℕ)) (place : ℕ) (word : List ℕ) → list_all test table ≡ true → slice_get table place ≡ Some word → test word ≡ true
all_at test [] place word ok e = absurd cc
all_at test (w ∷ ws) zero word ok e = subst (λ (x : List ℕ). test x ≡ true) (some_is w word e) (both (test w) (list_all test ws) ok).0
all_at test (w ∷ ws) (suc place) word ok e = all_at test ws place word (both (test w) (list_all test ws) ok).1 e

abbrev all_signs : List ℕ → Bool
all_signs [] = false
all_signs (b ∷ bs) = is_sign b && list_all is_sign bs

pub operator_signs : (place : ℕ) (b : ℕ) (bs : List ℕ) → slice_get operators place ≡ Some (b ∷ bs) → (is_sign b ≡ true) × (list_all is_sign bs ≡ true)
operator_signs place b bs e = both (is_sign b) (list_all is_sign bs) (all_at all_signs operators place (b ∷ bs) refl e)

operator_some : (place : ℕ) → slice_get operators place ≡ Some [] → ⊥
operator_some place e = let f : false ≡ true = all_at all_signs operators place [] refl e in absurd cc

-- a word begins with a letter
pub word_first : (b : ℕ) (bs : List ℕ) → IsWord (b ∷ bs) → starts form.Word b ≡ true
word_first b bs is = go (nat_le 128 b) refl
  where
    go : (v : Bool) → nat_le 128 b ≡ v → (nat_le 128 b || is_ascii_letter b) ≡ true
    go true e = or_left (nat_le 128 b) (is_ascii_letter b) e
    go false e =
        let lt : b < 128 = below e in
        let c : is.0 ≡ b = char_from_byte (b ∷ bs) (encode_utf8_all is.1) is.0 is.5 lt (omega arith) in
        or_right (nat_le 128 b) (is_ascii_letter b) (sym (letter_ascii b lt) ∙ subst (λ (x : ℕ). is_letter x ≡ true) c is.3)
      where
        below : nat_le 128 b ≡ false → b < 128
        below f = by (nat_lt b 128) refl
          where
            by : (w : Bool) → nat_lt b 128 ≡ w → b < 128
            by true g = ltb-true b 128 g
            by false g = let ge : 128 ≤ b = ltb-false b 128 g in absurd (clash (nat_le 128 b) (le-leb 128 b ge) f)

word_some : IsWord [] → ⊥
word_some is =
    let l : 0 ≡ length (encode_utf8 is.0 ++ encode_utf8_all is.1) = ap length is.5 in
    let m = length-append (encode_utf8 is.0) (encode_utf8_all is.1) in
    let some = encode_some is.0 in
    absurd (omega arith)

-- a run begins with a decimal digit
pub run_first : (x : ℕ) (xs : List ℕ) → is_run (x ∷ xs) ≡ true → is_decimal x ≡ true
run_first x xs h = go (nat_eq x 48) refl h
  where
    go : (z : Bool) → nat_eq x 48 ≡ z → cond z (is_run_after_zero xs) (is_decimal x && list_all is_decimal_or_line xs) ≡ true → is_decimal x ≡ true
    go true z-is e = rw (eqb-true x 48 z-is) refl
    go false z-is e = (both (is_decimal x) (list_all is_decimal_or_line xs) e).0

number_first : (b : ℕ) (bs : List ℕ) → IsNumber (b ∷ bs) → starts form.Number b ≡ true
number_first b bs (inl run) = or_left (is_decimal b) (nat_eq b 46) (run_first b bs run)
number_first b bs (inr (inl p)) = go p.0 p.2 p.4
  where
    go : (run : List ℕ) → is_run run ≡ true → b ∷ bs ≡ run ++ p.1 ∷ [] → (is_decimal b || nat_eq b 46) ≡ true
    go [] r e = absurd cc
    go (x ∷ xs) r e = or_left (is_decimal b) (nat_eq b 46) (subst (λ (y : ℕ). is_decimal y ≡ true) (sym (cons_is b x bs (xs ++ p.1 ∷ []) e).0) (run_first x xs r))
number_first b bs (inr (inr p)) = or_right (is_decimal b) (nat_eq b 46) (eq-eqb b 46 (cons_is b 46 bs (p.0 ∷ []) p.2).0)

number_some : IsNumber [] → ⊥
number_some (inl run) = absurd cc
number_some (inr (inl p)) = let l : 0 ≡ length (p.0 ++ p.1 ∷ []) = ap length p.4 in let m = length-append p.0 (p.1 ∷ []) in absurd (omega arith)
number_some (inr (inr p)) = absurd cc

-- a space, a tab or a carriage return
space_start : (b : ℕ) → list_any (λ c. nat_eq b c) (32 ∷ 9 ∷ 13 ∷ []) ≡ true → starts form.Blank b ≡ true
space_start b e = go (nat_eq b 32) (nat_eq b 9) (nat_eq b 13) refl refl refl e
  where
    go : (x y z : Bool) → nat_eq b 32 ≡ x → nat_eq b 9 ≡ y → nat_eq b 13 ≡ z → (x || (y || (z || false))) ≡ true → starts form.Blank b ≡ true
    go true y z x-is y-is z-is h = rw (eqb-true b 32 x-is) refl
    go false true z x-is y-is z-is h = rw (eqb-true b 9 y-is) refl
    go false false true x-is y-is z-is h = rw (eqb-true b 13 z-is) refl
    go false false false x-is y-is z-is h = absurd cc

at_first : (f : PieceForm) (b c : ℕ) (bs cs : List ℕ) → b ∷ bs ≡ c ∷ cs → starts f c ≡ true → starts f b ≡ true
at_first f b c bs cs e h = subst (λ (x : ℕ). starts f x ≡ true) (sym (cons_is b c bs cs e).0) h

pub first_byte : (f : PieceForm) (b : ℕ) (bs : List ℕ) → HasForm f (b ∷ bs) → starts f b ≡ true
first_byte form.Blank b bs (inl p) = at_first form.Blank b p.0 bs [] p.2 (space_start p.0 p.1)
first_byte form.Blank b bs (inr (inl p)) = at_first form.Blank b 47 bs (47 ∷ p.0) p.1 refl
first_byte form.Blank b bs (inr (inr p)) = at_first form.Blank b 47 bs (42 ∷ (p.0.0 ++ 42 ∷ 47 ∷ [])) p.0.1 refl
first_byte form.Line b bs (inl e) = at_first form.Line b 10 bs [] e refl
first_byte form.Line b bs (inr p) = at_first form.Line b 47 bs (42 ∷ (p.0.0 ++ 42 ∷ 47 ∷ [])) p.0.1 refl
first_byte form.Opening b bs e = at_first form.Opening b 47 bs (42 ∷ []) e refl
first_byte form.Word b bs is = word_first b bs is
first_byte form.Number b bs is = number_first b bs is
first_byte form.Rune b bs p = at_first form.Rune b 39 bs (inner (b ∷ bs) ++ 39 ∷ []) p.1 refl
first_byte form.Quoted b bs p = at_first form.Quoted b 34 bs (inner (b ∷ bs) ++ 34 ∷ []) p.1 refl
first_byte form.Raw b bs p = at_first form.Raw b 96 bs (p.0 ++ 96 ∷ []) p.2 refl
first_byte (form.Operator place) b bs e = (operator_signs place b bs e).0

none : (f : PieceForm) → HasForm f [] → ⊥
none form.Blank (inl p) = absurd cc
none form.Blank (inr (inl p)) = absurd cc
none form.Blank (inr (inr p)) = let e = p.0.1 in absurd cc
none form.Line (inl e) = absurd cc
none form.Line (inr p) = let e = p.0.1 in absurd cc
none form.Opening e = absurd cc
none form.Word is = word_some is
none form.Number is = number_some is
none form.Rune p = let e = p.1 in absurd cc
none form.Quoted p = let e = p.1 in absurd cc
none form.Raw p = let e = p.2 in absurd cc
none (form.Operator place) e = operator_some place e

-- a piece has at least one byte
pub form_some : (f : PieceForm) (bytes : List ℕ) → HasForm f bytes → 1 ≤ length bytes
form_some f [] is = absurd (none f is)
form_some f (b ∷ bs) is = omega arith
