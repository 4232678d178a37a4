-- Numbers in hexadecimal behind `0x` are integers.
use Rattle.std.proofs.Common.{◌≡◌, inl, ℕ, ◌-◌, ◌<◌, ◌≤◌, ◌^◌, Bool, true, false, ◌&&◌, ◌||◌, cond, List, [], ◌∷◌, ◌++◌, length, refl, subst, arith, nat_eq, nat_lt, nat_le}
use Rattle.std.specs.Prelude.{codes}
use Rattle.std.specs.Fmt.{digits}
use Rattle.std.specs.Char.{digit_value}
use Rattle.std.specs.List.{list_all}
use Rattle.std.specs.Str.Parse.{AllDigits}
use Rattle.std.proofs.lemmas.Bool.{eqb-true, leb-true, le-leb, lt-ltb, ltb-true, ltb-false}
use Rattle.std.proofs.lemmas.Fmt.{digits_is_IsNumeral}
use Rattle.go_ast.specs.Numbers.{is_decimal, is_hex, is_hex_or_line, are_digits, is_run}
use Rattle.cov_tokens.proofs.Basics.{both, or_left, or_right}
use Rattle.cov_tokens.proofs.Chains.{is_plain, plain_characters}
use Rattle.cov_tokens.proofs.Digits.{IsNumeral}

hex_low : (b : ℕ) → 48 ≤ b → b ≤ 57 → is_hex b ≡ true
hex_low b l h = or_left (is_decimal b) ((nat_le 65 b && nat_le b 70) || (nat_le 97 b && nat_le b 102)) (rw (le-leb 48 b l, le-leb b 57 h) refl)

hex_upper : (b : ℕ) → 65 ≤ b → b ≤ 70 → is_hex b ≡ true
hex_upper b l h = or_right (is_decimal b) ((nat_le 65 b && nat_le b 70) || (nat_le 97 b && nat_le b 102)) (or_left (nat_le 65 b && nat_le b 70) (nat_le 97 b && nat_le b 102) (rw (le-leb 65 b l, le-leb b 70 h) refl))

hex_lower : (b : ℕ) → 97 ≤ b → b ≤ 102 → is_hex b ≡ true
hex_lower b l h = or_right (is_decimal b) ((nat_le 65 b && nat_le b 70) || (nat_le 97 b && nat_le b 102)) (or_right (nat_le 65 b && nat_le b 70) (nat_le 97 b && nat_le b 102) (rw (le-leb 97 b l, le-leb b 102 h) refl))

hex_of : (c : ℕ) → digit_value c < 16 → is_hex c ≡ true
hex_of c h = go (nat_lt c 48) (nat_lt c 58) (nat_lt c 65) (nat_lt c 91) (nat_lt c 97) (nat_lt c 123) refl refl refl refl refl refl h
  where
    go : (p q r s t u : Bool) → nat_lt c 48 ≡ p → nat_lt c 58 ≡ q → nat_lt c 65 ≡ r → nat_lt c 91 ≡ s → nat_lt c 97 ≡ t → nat_lt c 123 ≡ u
        → cond p 36 (cond q (c - 48) (cond r 36 (cond s (c - 55) (cond t 36 (cond u (c - 87) 36))))) < 16 → is_hex c ≡ true
    go true q r s t u p-is q-is r-is s-is t-is u-is lt = absurd (omega arith)
    go false true r s t u p-is q-is r-is s-is t-is u-is lt = let a = ltb-false c 48 p-is in let b = ltb-true c 58 q-is in hex_low c (omega arith) (omega arith)
    go false false true s t u p-is q-is r-is s-is t-is u-is lt = absurd (omega arith)
    go false false false true t u p-is q-is r-is s-is t-is u-is lt = let a = ltb-false c 65 r-is in hex_upper c (omega arith) (omega arith)
    go false false false false true u p-is q-is r-is s-is t-is u-is lt = absurd (omega arith)
    go false false false false false true p-is q-is r-is s-is t-is u-is lt = let a = ltb-false c 97 t-is in hex_lower c (omega arith) (omega arith)
    go false false false false false false p-is q-is r-is s-is t-is u-is lt = absurd (omega arith)

all_hex : (w : List ℕ) → AllDigits 16 w → list_all is_hex w ≡ true
all_hex [] a = refl
all_hex (c ∷ w) a = rw (hex_of c a.0) (all_hex w a.1)

range_plain : (a c b : ℕ) → 0 < a → c < 128 → (nat_le a b && nat_le b c) ≡ true → is_plain b ≡ true
range_plain a c b some lt h =
    let two = both (nat_le a b) (nat_le b c) h in
    let l = leb-true a b two.0 in
    let m = leb-true b c two.1 in
    rw (lt-ltb 0 b (omega arith), lt-ltb b 128 (omega arith)) refl

hex_plain : (b : ℕ) → is_hex b ≡ true → is_plain b ≡ true
hex_plain b h = go (is_decimal b) (nat_le 65 b && nat_le b 70) refl refl h
  where
    go : (v w : Bool) → is_decimal b ≡ v → (nat_le 65 b && nat_le b 70) ≡ w → (v || (w || (nat_le 97 b && nat_le b 102))) ≡ true → is_plain b ≡ true
    go true w v-is w-is e = range_plain 48 57 b (omega arith) (omega arith) v-is
    go false true v-is w-is e = range_plain 65 70 b (omega arith) (omega arith) w-is
    go false false v-is w-is e = range_plain 97 102 b (omega arith) (omega arith) e

plain_hexes : (w : List ℕ) → list_all is_hex w ≡ true → list_all is_plain w ≡ true
plain_hexes [] h = refl
plain_hexes (b ∷ w) h = let two = both (is_hex b) (list_all is_hex w) h in rw (hex_plain b two.0) (plain_hexes w two.1)

no_line : (b : ℕ) → is_hex b ≡ true → nat_eq b 95 ≡ false
no_line b d = go (nat_eq b 95) refl
  where
    go : (v : Bool) → nat_eq b 95 ≡ v → v ≡ false
    go true e = let f : is_hex 95 ≡ true = subst (λ (x : ℕ). is_hex x ≡ true) (eqb-true b 95 e) d in absurd cc
    go false e = refl

are_hex_digits : (w : List ℕ) → list_all is_hex w ≡ true → are_digits is_hex true w ≡ true
are_hex_digits [] h = refl
are_hex_digits (b ∷ w) h = let two = both (is_hex b) (list_all is_hex w) h in rw (no_line b two.0, two.0) (are_hex_digits w two.1)

run_hexes : (w : List ℕ) → list_all is_hex w ≡ true → list_all is_hex_or_line w ≡ true
run_hexes [] h = refl
run_hexes (b ∷ w) h = let two = both (is_hex b) (list_all is_hex w) h in rw two.0 (run_hexes w two.1)

by_digits : (w : List ℕ) → 0 < length w → list_all is_hex w ≡ true → IsNumeral (48 ∷ 120 ∷ w)
by_digits [] some h = absurd (omega arith)
by_digits (b ∷ w) some h =
    let run : is_run (48 ∷ 120 ∷ b ∷ w) ≡ true = run_hexes (b ∷ w) h in
    record {
      fine = record { characters = plain_characters (48 ∷ 120 ∷ b ∷ w) (plain_hexes (b ∷ w) h); meant = are_hex_digits (b ∷ w) h; has_form = inl run };
      run = run;
    }

pub hexadecimal_numeral : (n : ℕ) → n < 2 ^ 64 → IsNumeral (codes "0x" ++ digits 16 false n)
hexadecimal_numeral n lt = let d = digits_is_IsNumeral 16 false (omega arith) (omega arith) n (omega arith) in by_digits (digits 16 false n) d.0.0 (all_hex (digits 16 false n) d.0.1)
