-- Numbers in decimal are integers.
use Rattle.std.proofs.Common.{◌≡◌, inl, ℕ, zero, suc, ◌<◌, ◌≤◌, ◌^◌, Bool, true, false, List, [], ◌∷◌, length, get_or, refl, ap, subst, ◌∙◌, arith, nat_eq, nat_le}
use Rattle.std.specs.Prelude.{decimal}
use Rattle.std.specs.Fmt.{digits}
use Rattle.std.specs.List.{list_all}
use Rattle.std.specs.Str.Parse.{AllDigits}
use Rattle.std.proofs.lemmas.Bool.{eqb-true, leb-true, le-leb, lt-ltb}
use Rattle.std.proofs.lemmas.Fmt.{decimal_is_IsNumeral, first_decimal}
use Rattle.std.proofs.lemmas.Str.Parse.{digit_from_value}
use Rattle.go_ast.specs.declared.token.PieceForm.TheVariants as form
use Rattle.go_ast.specs.Numbers.{is_decimal, is_decimal_or_line, is_int, are_digits, is_run}
use Rattle.cov_tokens.proofs.Basics.{both}
use Rattle.cov_tokens.proofs.Stands.{Parts, number_parts, is_number_byte}
use Rattle.cov_tokens.proofs.Chains.{piece, IsFine, is_plain, plain_characters}

-- decimal digits, and nothing behind a zero in front
pub record AreDecimal (w : List ℕ) : Type 0 where
  pub first : ℕ
  pub rest : List ℕ
  pub is : w ≡ first ∷ rest
  pub first_is : is_decimal first ≡ true
  pub rest_is : list_all is_decimal rest ≡ true
  pub alone : first ≡ 48 → rest ≡ []

decimal_by : (b : ℕ) → 48 ≤ b → b ≤ 57 → is_decimal b ≡ true
decimal_by b l h = rw (le-leb 48 b l, le-leb b 57 h) refl

all_decimal : (w : List ℕ) → AllDigits 10 w → list_all is_decimal w ≡ true
all_decimal [] a = refl
all_decimal (b ∷ bs) a = let d = digit_from_value b a.0 in rw (decimal_by b (omega arith) (omega arith)) (all_decimal bs a.1)

decimal_zero : decimal 0 ≡ 48 ∷ []
unfolding digits
decimal_zero = refl

pub are_decimal : (n : ℕ) → n < 2 ^ 64 → AreDecimal (decimal n)
are_decimal zero lt = record { first = 48; rest = []; is = decimal_zero; first_is = refl; rest_is = refl; alone = λ e. refl }
are_decimal (suc n) lt = go (decimal (suc n)) (decimal_is_IsNumeral (suc n) lt).0.0 (decimal_is_IsNumeral (suc n) lt).0.1 (first_decimal (suc n) (omega arith) lt)
  where
    go : (w : List ℕ) → 0 < length w → AllDigits 10 w → 48 < get_or w 0 0 → AreDecimal w
    go [] some all high = absurd (omega arith)
    go (b ∷ bs) some all high =
        let two = both (is_decimal b) (list_all is_decimal bs) (all_decimal (b ∷ bs) all) in
        record { first = b; rest = bs; is = refl; first_is = two.0; rest_is = two.1; alone = λ e. absurd (omega arith) }

line_not_decimal : (b : ℕ) → is_decimal b ≡ true → nat_eq b 95 ≡ false
line_not_decimal b d = go (nat_eq b 95) refl
  where
    go : (v : Bool) → nat_eq b 95 ≡ v → v ≡ false
    go true e = let f : is_decimal 95 ≡ true = subst (λ (x : ℕ). is_decimal x ≡ true) (eqb-true b 95 e) d in absurd cc
    go false e = refl

are_int_digits : (bs : List ℕ) → list_all is_decimal bs ≡ true → are_digits is_decimal true bs ≡ true
are_int_digits [] h = refl
are_int_digits (b ∷ bs) h = let two = both (is_decimal b) (list_all is_decimal bs) h in rw (line_not_decimal b two.0, two.0) (are_int_digits bs two.1)

run_digits : (bs : List ℕ) → list_all is_decimal bs ≡ true → list_all is_decimal_or_line bs ≡ true
run_digits [] h = refl
run_digits (b ∷ bs) h = let two = both (is_decimal b) (list_all is_decimal bs) h in rw two.0 (run_digits bs two.1)

plain_decimal : (b : ℕ) → is_decimal b ≡ true → is_plain b ≡ true
plain_decimal b h =
    let two = both (nat_le 48 b) (nat_le b 57) h in
    let low = leb-true 48 b two.0 in
    let high = leb-true b 57 two.1 in
    rw (lt-ltb 0 b (omega arith), lt-ltb b 128 (omega arith)) refl

plain_digits : (bs : List ℕ) → list_all is_decimal bs ≡ true → list_all is_plain bs ≡ true
plain_digits [] h = refl
plain_digits (b ∷ bs) h = let two = both (is_decimal b) (list_all is_decimal bs) h in rw (plain_decimal b two.0) (plain_digits bs two.1)

int_by : (b : ℕ) (bs : List ℕ) → is_decimal b ≡ true → list_all is_decimal bs ≡ true → (b ≡ 48 → bs ≡ []) → (is_int (b ∷ bs) ≡ true) × (is_run (b ∷ bs) ≡ true)
int_by b bs d ds alone = go (nat_eq b 48) refl
  where
    go : (v : Bool) → nat_eq b 48 ≡ v → (is_int (b ∷ bs) ≡ true) × (is_run (b ∷ bs) ≡ true)
    go true e = let none = alone (eqb-true b 48 e) in (rw (e, none) refl, rw (e, none) refl)
    go false e = (rw (e, d) (are_int_digits bs ds), rw (e, d) (run_digits bs ds))

-- a number in decimal, and what it stands before
pub record IsNumeral (w : List ℕ) : Type 0 where
  pub fine : IsFine (piece form.Number w)
  pub run : is_run w ≡ true

pub decimal_numeral : (w : List ℕ) → AreDecimal w → IsNumeral w
decimal_numeral w a =
    let two = int_by a.first a.rest a.first_is a.rest_is a.alone in
    let run : is_run w ≡ true = ap is_run a.is ∙ two.1 in
    record {
      fine = record {
        characters = plain_characters w (ap (list_all is_plain) a.is ∙ plain_digits (a.first ∷ a.rest) (rw a.first_is a.rest_is));
        meant = ap is_int a.is ∙ two.0;
        has_form = inl run;
      };
      run = run;
    }

pub numeral : (n : ℕ) → n < 2 ^ 64 → IsNumeral (decimal n)
numeral n lt = decimal_numeral (decimal n) (are_decimal n lt)

pub numeral_parts : (w : List ℕ) (b : ℕ) → IsNumeral w → is_number_byte b ≡ false → Parts w b
numeral_parts w b n h = number_parts w b n.run h
