-- What words begin with, as the first piece of their cut.
use Rattle.std.specs.Prelude.{◌≡◌, ℕ, ◌+◌, ◌<◌, ◌≤◌, true, false, List, ◌∷◌, length, drop, Some, None}
use Rattle.gocov_words.specs.declared.heading.CommandName.{CommandName}
use Rattle.gocov_words.specs.declared.front.Front.{Front}
use Rattle.gocov_words.specs.declared.front.Front.TheVariants as fronts
use Rattle.gocov_words.specs.Table.{row_named}
use Rattle.gocov_words.specs.Flags.{flag_name, row_of}
use Rattle.gocov_words.specs.Line.{Line, cut, cut_at, ended, with_flag}
use Rattle.gocov_words.specs.Rules.{bad_flag, lacks_value}

-- the front of so many words that are cut into a line, whichever their first index
abbrev pub IsFrontOf : CommandName → List (List ℕ) → (ℕ → Line) → Front → Type 0
IsFrontOf command words line (fronts.End n) = (n ≤ length words) × ((at : ℕ) → line at ≡ ended (at + n))
IsFrontOf command words line fronts.Unknown = (at : ℕ) → bad_flag command (line at).flags ≡ Some at
IsFrontOf command words line fronts.Valueless =
    (at : ℕ) → (bad_flag command (line at).flags ≡ None) × (lacks_value (line at).flags ≡ true) × ((line at).end ≡ at + length words)
IsFrontOf command words line (fronts.Flag flag value n) =
    (0 < n) × (n ≤ length words) × (row_named command (flag_name flag) ≡ Some (row_of command flag))
    × ((at : ℕ) → line at ≡ with_flag (record { at = at; name = flag_name flag; value = Some value.now }) (cut command false (at + n) (drop n words)))

abbrev pub IsFront : CommandName → List (List ℕ) → Front → Type 0
IsFront command words front = IsFrontOf command words (λ at. cut command false at words) front

-- the same of a flag with its text and the words after it
abbrev pub IsFlagFront : CommandName → List ℕ → List (List ℕ) → Front → Type 0
IsFlagFront command text words front =
    0 < length text → IsFrontOf command (text ∷ words) (λ at. cut_at command at (Some text) words (λ is_value. cut command is_value (at + 1) words)) front
