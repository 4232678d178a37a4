-- The codes of a text's first characters, by its bytes.
use Rattle.std.proofs.Common.{◌≡◌, ℕ, ◌+◌, ◌*◌, ◌%◌, ◌<◌, ◌≤◌, List, [], ◌∷◌, length, refl, arith}
use Rattle.std.specs.Prelude.{slice_index}
use Rattle.go_meaning.specs.Values.{code_of_one, code_of_two, code_of_three, code_of_four, replacement}

pub one_is : (s : List ℕ) → 1 ≤ length s → code_of_one s ≡ slice_index s 0
one_is [] h = absurd (omega arith)
one_is (a ∷ s) h = refl

pub no_one : (s : List ℕ) → length s ≡ 0 → code_of_one s ≡ replacement
no_one [] h = refl
no_one (a ∷ s) h = absurd (omega arith)

pub two_is : (s : List ℕ) → 2 ≤ length s → code_of_two s ≡ slice_index s 0 % 32 * 64 + slice_index s 1 % 64
two_is [] h = absurd (omega arith)
two_is (a ∷ []) h = absurd (omega arith)
two_is (a ∷ b ∷ s) h = refl

pub no_two : (s : List ℕ) → length s < 2 → code_of_two s ≡ replacement
no_two [] h = refl
no_two (a ∷ []) h = refl
no_two (a ∷ b ∷ s) h = absurd (omega arith)

pub three_is : (s : List ℕ) → 3 ≤ length s → code_of_three s ≡ (slice_index s 0 % 16 * 64 + slice_index s 1 % 64) * 64 + slice_index s 2 % 64
three_is [] h = absurd (omega arith)
three_is (a ∷ []) h = absurd (omega arith)
three_is (a ∷ b ∷ []) h = absurd (omega arith)
three_is (a ∷ b ∷ c ∷ s) h = refl

pub no_three : (s : List ℕ) → length s < 3 → code_of_three s ≡ replacement
no_three [] h = refl
no_three (a ∷ []) h = refl
no_three (a ∷ b ∷ []) h = refl
no_three (a ∷ b ∷ c ∷ s) h = absurd (omega arith)

pub four_is : (s : List ℕ) → 4 ≤ length s → code_of_four s ≡ ((slice_index s 0 % 8 * 64 + slice_index s 1 % 64) * 64 + slice_index s 2 % 64) * 64 + slice_index s 3 % 64
four_is [] h = absurd (omega arith)
four_is (a ∷ []) h = absurd (omega arith)
four_is (a ∷ b ∷ []) h = absurd (omega arith)
four_is (a ∷ b ∷ c ∷ []) h = absurd (omega arith)
four_is (a ∷ b ∷ c ∷ d ∷ s) h = refl

pub no_four : (s : List ℕ) → length s < 4 → code_of_four s ≡ replacement
no_four [] h = refl
no_four (a ∷ []) h = refl
no_four (a ∷ b ∷ []) h = refl
no_four (a ∷ b ∷ c ∷ []) h = refl
no_four (a ∷ b ∷ c ∷ d ∷ s) h = absurd (omega arith)
