-- Requests of cover and run, from the values of flags.
use Rattle.std.specs.Prelude.{ℕ, Bool, false, not, ◌&&◌, List, Option, None, option_map, option_and_then, unwrap_or, is_none, codes, if◌then◌else◌}
use Rattle.std.specs.Option.{option_or}
use Rattle.cov_outside.specs.declared.mode.Mode.{Mode}
use Rattle.cov_outside.specs.declared.mode.Mode.TheVariants.{Set}
use Rattle.gocov_words.specs.declared.flags.Value.{Value}
use Rattle.gocov_words.specs.declared.flags.Values.{Values}
use Rattle.gocov_words.specs.CoverRequest.{CoverRequest}
use Rattle.gocov_words.specs.RunRequest.{RunRequest}
use Rattle.gocov_words.specs.Values.{mode_named, bool_in, steps_in}
use Rattle.gocov_words.specs.Rules.{is_count}
use Rattle.gocov_words.specs.Data.{text_in}

abbrev pub mode_in : Option Value → Option Mode
mode_in value = option_and_then mode_named (text_in value)

abbrev pub serial_in : Option Value → Bool
serial_in value = unwrap_or (option_and_then bool_in (text_in value)) false

abbrev pub max_steps_in : Option Value → ℕ
max_steps_in value = unwrap_or (option_and_then steps_in (text_in value)) 1000000

abbrev pub variable_in : Option Value → List ℕ
variable_in value = unwrap_or (text_in value) (codes "GoCover")

-- the index of a mode without a directory, or that counts without the serial schedule
abbrev pub clash_in : Values → Option ℕ
clash_in values =
    option_or (if is_none (text_in values.cover_directory) then option_map (λ v. v.at) values.mode else None)
    (if is_count (mode_in values.mode) && not (serial_in values.serial) then option_map (λ v. v.at) values.mode else None)

abbrev pub asked_of_cover : Values → List ℕ → CoverRequest
asked_of_cover values file = record { mode = unwrap_or (mode_in values.mode) Set; var = variable_in values.variable; out = unwrap_or (text_in values.output) (codes ""); file = file }

abbrev pub asked_of_run : Values → List ℕ → RunRequest
asked_of_run values dir =
    record {
      mode = unwrap_or (mode_in values.mode) Set;
      coverdir = text_in values.cover_directory;
      serial = serial_in values.serial;
      max_steps = max_steps_in values.max_steps;
      dir = dir;
    }
