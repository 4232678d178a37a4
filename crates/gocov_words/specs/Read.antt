-- What was read of flags, against their cut.
use Rattle.std.specs.Prelude.{◌≡◌, ℕ, List, length, ◌≤◌, true, false, Option, Some, None, Result, Ok, Err, option_map, IfSome}
use Rattle.gocov_words.specs.declared.heading.CommandName.{CommandName}
use Rattle.gocov_words.specs.declared.flag.Flag.{Flag}
use Rattle.gocov_words.specs.declared.flag.Flag.TheVariants as flag
use Rattle.gocov_words.specs.declared.flags.Value.{Value}
use Rattle.gocov_words.specs.declared.flags.Values.{Values}
use Rattle.gocov_words.specs.declared.flags.Flags.{Flags}
use Rattle.gocov_words.specs.Flags.{flag_name}
use Rattle.gocov_words.specs.Line.{Given, Line}
use Rattle.gocov_words.specs.Rules.{last, bad_flag, is_good, lacks_value, broken}

abbrev pub field : Flag → Values → Option Value
field flag.Input values = values.input
field flag.Output values = values.output
field flag.Patterns values = values.patterns
field flag.Mode values = values.mode
field flag.Variable values = values.variable
field flag.CoverDirectory values = values.cover_directory
field flag.Serial values = values.serial
field flag.MaxSteps values = values.max_steps

abbrev pub given_by : Flag → Value → Given
given_by f value = record { at = value.at; name = flag_name f; value = Some value.text.now }

-- the last flag of a kind that was read
abbrev pub shown : Flag → Values → Option Given
shown f values = option_map (given_by f) (field f values)

abbrev pub with_value : Values → Flag → Value → Values
with_value values flag.Input value = record values { input = Some value }
with_value values flag.Output value = record values { output = Some value }
with_value values flag.Patterns value = record values { patterns = Some value }
with_value values flag.Mode value = record values { mode = Some value }
with_value values flag.Variable value = record values { variable = Some value }
with_value values flag.CoverDirectory value = record values { cover_directory = Some value }
with_value values flag.Serial value = record values { serial = Some value }
with_value values flag.MaxSteps value = record values { max_steps = Some value }

-- each value that was read is one that the command takes
abbrev pub AllGood : CommandName → Values → Type 0
AllGood command values = (f : Flag) → IfSome (shown f values) (λ given. is_good command given ≡ true)

-- the flags of a line were read: all are good and have values
pub record HasRead (command : CommandName) (line : Line) (count : ℕ) (flags : Flags) : Type 0 where
  pub good : bad_flag command line.flags ≡ None
  pub valued : lacks_value line.flags ≡ false
  pub end : line.end ≡ flags.end
  pub within : flags.end ≤ count
  pub lasts : (f : Flag) → last (flag_name f) line.flags ≡ shown f flags.values
  pub values : AllGood command flags.values

-- the flags of a line were read, or the index is the one at which the line breaks the rules
abbrev pub ReadsFlags : CommandName → Line → List (List ℕ) → Result Flags ℕ → Type 0
ReadsFlags command line words (Ok flags) = HasRead command line (length words) flags
ReadsFlags command line words (Err i) = broken command line words ≡ Some i
