-- The words of a line, cut into flags with their values and the words after them.
use Rattle.std.specs.Prelude.{ℕ, ◌+◌, Bool, true, false, List, [], ◌∷◌, drop, Option, Some, None, is_none, codes, if◌then◌else◌}
use Rattle.std.specs.Option.{option_or, option_map_or}
use Rattle.gocov_words.specs.declared.heading.CommandName.{CommandName}
use Rattle.gocov_words.specs.declared.heading.CommandName.TheVariants as commands
use Rattle.gocov_words.specs.Word.{flag_text, name_in, value_in}
use Rattle.gocov_words.specs.Table.{row_named}

-- a flag: the index of its word, its name, and its value unless the words end before it
pub record Given : Type 0 where
  pub at : ℕ
  pub name : List ℕ
  pub value : Option (List ℕ)

-- the flags in order, and the index of the first word after them
pub record Line : Type 0 where
  pub flags : List Given
  pub end : ℕ

abbrev pub first : List (List ℕ) → Option (List ℕ)
first [] = None
first (word ∷ words) = Some word

-- the value in a flag's own word; a boolean flag without one is true
abbrev pub own_value : CommandName → List ℕ → Option (List ℕ)
own_value command text =
    option_or (value_in text) (if option_map_or (λ row. row.is_boolean) (row_named command (name_in text)) false then Some (codes "true") else None)

-- the flag with this text, whose value may be the next word, whatever that is
abbrev pub given : CommandName → ℕ → List ℕ → List (List ℕ) → Given
given command at text words = record { at = at; name = name_in text; value = option_or (own_value command text) (first words) }

abbrev pub ended : ℕ → Line
ended at = record { flags = []; end = at }

abbrev pub with_flag : Given → Line → Line
with_flag flag line = record { flags = flag ∷ line.flags; end = line.end }

-- Flags end before the first word that is none, and with --, which is dropped. What is behind a flag depends on whether the next
-- word is its value.
abbrev pub cut_at : CommandName → ℕ → Option (List ℕ) → List (List ℕ) → (Bool → Line) → Line
cut_at command at None words behind = ended at
cut_at command at (Some []) words behind = ended (at + 1)
cut_at command at (Some (c ∷ text)) words behind = with_flag (given command at (c ∷ text) words) (behind (is_none (own_value command (c ∷ text))))

-- the words from an index on, the first of which may be the value of the flag before it
abbrev pub cut : CommandName → Bool → ℕ → List (List ℕ) → Line
cut command is_value at [] = ended at
cut command true at (word ∷ words) = cut command false (at + 1) words
cut command false at (word ∷ words) = cut_at command at (flag_text word) words (λ is_value. cut command is_value (at + 1) words)

-- the number of words that name a command, before its flags
abbrev pub heading_words : CommandName → ℕ
heading_words commands.Cover = 1
heading_words commands.Run = 1
heading_words (commands.Covdata sub) = 2

abbrev pub line_of : CommandName → List (List ℕ) → Line
line_of command words = cut command false (heading_words command) (drop (heading_words command) words)
