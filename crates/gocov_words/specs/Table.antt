-- The flags of each command.
use Rattle.std.specs.Prelude.{ℕ, Bool, true, false, List, [], ◌∷◌, ◌++◌, Option, codes, find, if◌then◌else◌}
use Rattle.std.specs.Str.{bytes_eq}
use Rattle.gocov_words.specs.declared.heading.CommandName.{CommandName}
use Rattle.gocov_words.specs.declared.heading.CommandName.TheVariants as commands
use Rattle.gocov_words.specs.Subs.{puts, reports}
use Rattle.gocov_words.specs.Values.{is_filled, is_list, is_mode, is_variable, is_bool, is_step_limit}

-- a flag that a command knows: its name, whether it needs no value, whether the command needs it, and the values that it takes
pub record FlagRow : Type 0 where
  pub name : List ℕ
  pub is_boolean : Bool
  pub is_required : Bool
  pub accepts : List ℕ → Bool

abbrev pub required : List ℕ → (List ℕ → Bool) → FlagRow
required name accepts = record { name = name; is_boolean = false; is_required = true; accepts = accepts }

abbrev pub optional : List ℕ → (List ℕ → Bool) → FlagRow
optional name accepts = record { name = name; is_boolean = false; is_required = false; accepts = accepts }

-- a flag that alone is true
abbrev pub boolean : List ℕ → FlagRow
boolean name = record { name = name; is_boolean = true; is_required = false; accepts = is_bool }

abbrev pub only_if : Bool → FlagRow → List FlagRow
only_if known row = if known then row ∷ [] else []

abbrev pub table : CommandName → List FlagRow
table commands.Cover = required (codes "mode") is_mode ∷ optional (codes "var") is_variable ∷ required (codes "o") is_filled ∷ []
table commands.Run =
    optional (codes "mode") is_mode ∷ optional (codes "coverdir") is_filled ∷ boolean (codes "serial") ∷ optional (codes "max-steps") is_step_limit ∷ []
table (commands.Covdata sub) = required (codes "i") is_list ∷ (only_if (puts sub) (required (codes "o") is_filled) ++ only_if (reports sub) (optional (codes "pkg") is_list))

-- what a command says of a flag, where it knows it
abbrev pub row_named : CommandName → List ℕ → Option FlagRow
row_named command name = find (λ row. bytes_eq name row.name) (table command)
