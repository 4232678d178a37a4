-- The values that flags take, and the word FILE.
use Rattle.std.specs.Prelude.{ℕ, ◌==◌, nat_le, Bool, true, false, not, ◌&&◌, ◌||◌, List, [], ◌∷◌, length, Option, Some, None, is_some, find, codes, if◌then◌else◌}
use Rattle.std.specs.List.{list_all, list_any, slice_split}
use Rattle.std.specs.Str.{bytes_eq, chars, all_ascii_digits}
use Rattle.std.specs.Str.Parse.{digits_value}
use Rattle.cov_outside.specs.Mode.{mode_name}
use Rattle.cov_outside.specs.declared.mode.Mode.{Mode}
use Rattle.cov_outside.specs.declared.mode.Mode.TheVariants.{Set, Count, Atomic}
use Rattle.go_ast.specs.Characters.{is_letter, is_letter_or_digit, is_banned}
use Rattle.go_ast.specs.Words.{keywords}

abbrev pub is_filled : List ℕ → Bool
is_filled value = not (length value == 0)

-- the pieces of a value between its commas
abbrev pub pieces : List ℕ → List (List ℕ)
pieces value = slice_split (λ c. c == 44) value

-- a list with commas, of which no piece is empty
abbrev pub is_list : List ℕ → Bool
is_list value = list_all is_filled (pieces value)

abbrev pub mode_named : List ℕ → Option Mode
mode_named value = find (λ mode. bytes_eq value (mode_name mode)) (Set ∷ Count ∷ Atomic ∷ [])

abbrev pub is_mode : List ℕ → Bool
is_mode value = is_some (mode_named value)

abbrev pub are_letters_and_digits : List ℕ → Bool
are_letters_and_digits cs = list_all is_letter_or_digit cs

abbrev pub begin_with_letter : List ℕ → Bool
begin_with_letter [] = false
begin_with_letter (c ∷ cs) = is_letter c

-- letters and digits, the first a letter (Go specification: Lexical elements, "Identifiers")
abbrev pub are_identifier : List ℕ → Bool
are_identifier cs = are_letters_and_digits cs && begin_with_letter cs

-- the blank identifier, and the keywords
abbrev pub is_taken : List ℕ → Bool
is_taken word = list_any (λ taken. bytes_eq word taken) (codes "_" ∷ keywords)

-- an identifier that is neither a keyword nor the blank one
abbrev pub is_variable : List ℕ → Bool
is_variable word = are_identifier (chars word) && not (is_taken word)

-- true and false, as Go's package strconv reads them
abbrev pub is_true : List ℕ → Bool
is_true value = list_any (λ word. bytes_eq value word) (codes "1" ∷ codes "t" ∷ codes "T" ∷ codes "true" ∷ codes "TRUE" ∷ codes "True" ∷ [])

abbrev pub is_false : List ℕ → Bool
is_false value = list_any (λ word. bytes_eq value word) (codes "0" ∷ codes "f" ∷ codes "F" ∷ codes "false" ∷ codes "FALSE" ∷ codes "False" ∷ [])

abbrev pub bool_in : List ℕ → Option Bool
bool_in value = if is_true value then Some true else (if is_false value then Some false else None)

abbrev pub is_bool : List ℕ → Bool
is_bool value = is_some (bool_in value)

-- the greatest limit of steps
abbrev pub most_steps : ℕ
most_steps = 10000000

abbrev pub are_digits : List ℕ → Bool
are_digits value = is_filled value && all_ascii_digits value

-- a limit of steps in decimal digits, from 1 up to the greatest
abbrev pub steps_in : List ℕ → Option ℕ
steps_in value = if are_digits value && (nat_le 1 (digits_value 10 value) && nat_le (digits_value 10 value) most_steps) then Some (digits_value 10 value) else None

abbrev pub is_step_limit : List ℕ → Bool
is_step_limit value = is_some (steps_in value)

-- newline, NUL and byte order mark
abbrev pub is_left_out : ℕ → Bool
is_left_out c = c == 10 || is_banned c

-- a name that can stand in a line of the covered text
abbrev pub is_file_name : List ℕ → Bool
is_file_name word = not (list_any is_left_out (chars word))
