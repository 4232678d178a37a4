-- Limits of steps in decimal digits.
use Rattle.std.proofs.Common.{◌≡◌, ℕ, ◌<◌, ◌≤◌, ◌^◌, nat_le, true, false, Bool, cond, ◌&&◌, List, [], ◌∷◌, length, Some, None, Result, Err, unwrap_or, refl, sym, ap, arith}
use Rattle.std.specs.List.{list_all}
use Rattle.std.specs.Char.{is_ascii_digit}
use Rattle.std.specs.Str.{all_ascii_digits}
use Rattle.std.specs.Str.Parse.{digits_value, ParsesUnsigned}
use Rattle.std.proofs.lemmas.Bool.{false≢true}
use Rattle.std.proofs.lemmas.Bool.Decides.{nat_tests}
use Rattle.std.proofs.lemmas.Result.{OkIff-at_err}
use Rattle.std.proofs.lemmas.Str.Parse.{IsNumeralModel, numerals_by_value, tells_all_ascii_digits, parse_digits}
use Rattle.gocov_words.specs.Values.{is_filled, are_digits, steps_in, most_steps}

pub same_digits : (cs : List ℕ) → list_all is_ascii_digit cs ≡ all_ascii_digits cs
same_digits [] = refl
same_digits (c ∷ cs) = ap (λ (b : Bool). is_ascii_digit c && b) (same_digits cs)

own : IsNumeralModel (λ (ds : List ℕ). all_ascii_digits ds ≡ true) (digits_value 10)
own = numerals_by_value (λ (ds : List ℕ). all_ascii_digits ds ≡ true) tells_all_ascii_digits

and_parts : (a b : Bool) → (a && b) ≡ true → (a ≡ true) × (b ≡ true)
and_parts true b e = (refl, e)
and_parts false b e = absurd (false≢true e)

and_none : (a b : Bool) → (a && (b && false)) ≡ false
and_none true true = refl
and_none true false = refl
and_none false b = refl

filled_one : (xs : List ℕ) → is_filled xs ≡ true → 0 < length xs
filled_one [] e = absurd (false≢true e)
filled_one (x ∷ xs) e = omega arith

few : (n : ℕ) → nat_le n most_steps ≡ true → n ≤ 10000000
few n e = grind (arith, nat_tests)

fits : (n : ℕ) → n ≤ 10000000 → n < 2 ^ 32
fits n h = omega arith

-- digits that are no 32-bit number are no limit
pub no_steps : {E : Type 0} (value : List ℕ) (r : Result ℕ E) (e : E) → are_digits value ≡ true → ParsesUnsigned 32 10 value r → r ≡ Err e → None ≡ steps_in value
no_steps value r e digits parses failed =
    let parts = and_parts (is_filled value) (all_ascii_digits value) digits in
    let parsed = parse_digits own 32 value r parses parts.1 in
    let fails = OkIff-at_err r ((0 < length value) × (digits_value 10 value < 2 ^ 32)) (digits_value 10 value) e parsed failed in
    let n = digits_value 10 value in
    elim (nat_le n most_steps) as (λ b. nat_le n most_steps ≡ b → None ≡ cond (are_digits value && (nat_le 1 n && b)) (Some n) None) [
      | true ↦ λ s. absurd (fails (filled_one value parts.0, fits n (few n s)))
      | false ↦ λ s. sym (ap (λ (b : Bool). cond b (Some n) None) (and_none (are_digits value) (nat_le 1 n)))
    ] refl

between : (a b c : Bool) (n : ℕ) → (b ≡ true → 1 ≤ n) → (c ≡ true → n ≤ most_steps) → (1 ≤ unwrap_or (cond (a && (b && c)) (Some n) None) 1000000) × (unwrap_or (cond (a && (b && c)) (Some n) None) 1000000 ≤ most_steps)
between true true true n some few = (some refl, few refl)
between true true false n some few = (omega arith, omega arith)
between true false c n some few = (omega arith, omega arith)
between false b c n some few = (omega arith, omega arith)

-- a limit, or the one that stands without any, is within its range
pub steps_within : (value : List ℕ) → (1 ≤ unwrap_or (steps_in value) 1000000) × (unwrap_or (steps_in value) 1000000 ≤ most_steps)
steps_within value =
    let n = digits_value 10 value in
    between (are_digits value) (nat_le 1 n) (nat_le n most_steps) n (λ e. some n e) (λ e. few n e)
  where
    some : (n : ℕ) → nat_le 1 n ≡ true → 1 ≤ n
    some n e = grind (arith, nat_tests)
