-- A request of covdata, from the values of its flags.
use Rattle.std.specs.Prelude.{ℕ, ◌==◌, nat_lt, not, ◌&&◌, List, [], length, Option, Some, None, Result, Ok, Err, option_map, is_none, if◌then◌else◌}
use Rattle.std.specs.Option.{option_map_or}
use Rattle.cov_outside.specs.Limits.{limit_number}
use Rattle.cov_outside.specs.declared.limit.Which.TheVariants as limits
use Rattle.gocov_words.specs.declared.fault.WordsFault.{WordsFault}
use Rattle.gocov_words.specs.declared.fault.WordsFault.TheVariants as faults
use Rattle.gocov_words.specs.declared.flags.Value.{Value}
use Rattle.gocov_words.specs.declared.flags.Values.{Values}
use Rattle.gocov_words.specs.declared.sub.Sub.{Sub}
use Rattle.gocov_words.specs.DataRequest.{DataRequest}
use Rattle.gocov_words.specs.Subs.{puts, takes_two}
use Rattle.gocov_words.specs.Values.{pieces}

abbrev pub text_in : Option Value → Option (List ℕ)
text_in value = option_map (λ v. v.text.now) value

abbrev pub list_in : Option Value → List (List ℕ)
list_in value = option_map_or (λ v. pieces v.text.now) value []

-- what -i has to be, where it stands
abbrev pub checked_dirs : Sub → Value → Result (Unit {0}) WordsFault
checked_dirs sub input =
    if takes_two sub && not (length (pieces input.text.now) == 2) then Err (faults.Usage input.at)
    else (if nat_lt (limit_number limits.Directories) (length (pieces input.text.now)) then Err (faults.Limit limits.Directories) else Ok tt)

-- whether nothing is missing, of so many words, and the directories are as many as they should be
abbrev pub checked_input : Sub → Option Value → Option Value → ℕ → Result (Unit {0}) WordsFault
checked_input sub None output count = Err (faults.Usage count)
checked_input sub (Some input) output count = if puts sub && is_none output then Err (faults.Usage count) else checked_dirs sub input

abbrev pub checked : Sub → Values → ℕ → Result (Unit {0}) WordsFault
checked sub values count = checked_input sub values.input values.output count

abbrev pub requested : Sub → Values → DataRequest
requested sub values = record { sub = sub; dirs = list_in values.input; out = text_in values.output; pkg = list_in values.patterns }
