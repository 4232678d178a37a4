-- What is known of each flag.
use Rattle.std.specs.Prelude.{ℕ, Bool, true, false, List, codes}
use Rattle.gocov_words.specs.declared.flag.Flag.{Flag}
use Rattle.gocov_words.specs.declared.flag.Flag.TheVariants as flags
use Rattle.gocov_words.specs.declared.heading.CommandName.{CommandName}
use Rattle.gocov_words.specs.declared.heading.CommandName.TheVariants as commands
use Rattle.gocov_words.specs.Values.{is_filled, is_list, is_mode, is_variable, is_bool, is_step_limit}
use Rattle.gocov_words.specs.Table.{FlagRow}

abbrev pub flag_name : Flag → List ℕ
flag_name flags.Input = codes "i"
flag_name flags.Output = codes "o"
flag_name flags.Patterns = codes "pkg"
flag_name flags.Mode = codes "mode"
flag_name flags.Variable = codes "var"
flag_name flags.CoverDirectory = codes "coverdir"
flag_name flags.Serial = codes "serial"
flag_name flags.MaxSteps = codes "max-steps"

-- the values that it takes
abbrev pub accepts : Flag → List ℕ → Bool
accepts flags.Input = is_list
accepts flags.Output = is_filled
accepts flags.Patterns = is_list
accepts flags.Mode = is_mode
accepts flags.Variable = is_variable
accepts flags.CoverDirectory = is_filled
accepts flags.Serial = is_bool
accepts flags.MaxSteps = is_step_limit

abbrev pub is_boolean : Flag → Bool
is_boolean flags.Input = false
is_boolean flags.Output = false
is_boolean flags.Patterns = false
is_boolean flags.Mode = false
is_boolean flags.Variable = false
is_boolean flags.CoverDirectory = false
is_boolean flags.Serial = true
is_boolean flags.MaxSteps = false

abbrev pub needs_mode : CommandName → Bool
needs_mode commands.Cover = true
needs_mode commands.Run = false
needs_mode (commands.Covdata sub) = false

-- a command that knows the flag needs it
abbrev pub is_needed : Flag → CommandName → Bool
is_needed flags.Input command = true
is_needed flags.Output command = true
is_needed flags.Patterns command = false
is_needed flags.Mode command = needs_mode command
is_needed flags.Variable command = false
is_needed flags.CoverDirectory command = false
is_needed flags.Serial command = false
is_needed flags.MaxSteps command = false

-- what a command that knows the flag says of it
abbrev pub row_of : CommandName → Flag → FlagRow
row_of command flag = record { name = flag_name flag; is_boolean = is_boolean flag; is_required = is_needed flag command; accepts = accepts flag }
