-- The meaning of a list of words.
use Rattle.std.specs.Prelude.{◌≡◌, ℕ, nat_lt, List, [], ◌∷◌, length, Result, Ok, Err, Option, Some, None, find, ok_or, unwrap_or, option_map, option_and_then, slice_get, codes, if◌then◌else◌}
use Rattle.std.specs.Str.{bytes_eq}
use Rattle.cov_outside.specs.declared.mode.Mode.TheVariants.{Set}
use Rattle.cov_outside.specs.Limits.{limit_number}
use Rattle.cov_outside.specs.declared.limit.Which.TheVariants as limits
use Rattle.gocov_words.specs.declared.fault.WordsFault.{WordsFault}
use Rattle.gocov_words.specs.declared.fault.WordsFault.TheVariants as faults
use Rattle.gocov_words.specs.declared.command.Command.{Command}
use Rattle.gocov_words.specs.declared.command.Command.TheVariants.{Cover, Run, Covdata}
use Rattle.gocov_words.specs.declared.heading.CommandName.{CommandName}
use Rattle.gocov_words.specs.declared.heading.CommandName.TheVariants as commands
use Rattle.gocov_words.specs.declared.sub.Sub.{Sub}
use Rattle.gocov_words.specs.CoverRequest.{CoverRequest}
use Rattle.gocov_words.specs.RunRequest.{RunRequest}
use Rattle.gocov_words.specs.DataRequest.{DataRequest}
use Rattle.gocov_words.specs.Subs.{subs, sub_name}
use Rattle.gocov_words.specs.Values.{steps_in}
use Rattle.gocov_words.specs.Line.{Given, Line, line_of}
use Rattle.gocov_words.specs.Rules.{broken, value_of, list_of, mode_of, serial_of}

abbrev pub sub_named : List ℕ → Option Sub
sub_named word = find (λ sub. bytes_eq word (sub_name sub)) subs

-- the command of covdata that the second word names
abbrev pub covdata_heading : List (List ℕ) → Result CommandName WordsFault
covdata_heading [] = Err (faults.Usage 1)
covdata_heading (word ∷ words) = ok_or (option_map commands.Covdata (sub_named word)) (faults.Usage 1)

-- the command that the first words name
abbrev pub heading : List (List ℕ) → Result CommandName WordsFault
heading [] = Err (faults.Usage 0)
heading (word ∷ words) =
    if bytes_eq word (codes "cover") then Ok commands.Cover
    else (if bytes_eq word (codes "run") then Ok commands.Run
    else (if bytes_eq word (codes "covdata") then covdata_heading words else Err (faults.Usage 0)))

-- the word at a place
abbrev pub word_at : ℕ → List (List ℕ) → List ℕ
word_at i words = unwrap_or (slice_get words i) []

-- what flags and the last word ask of cover
abbrev pub cover_request : List Given → List ℕ → CoverRequest
cover_request flags file =
    record {
      mode = unwrap_or (mode_of flags) Set;
      var = unwrap_or (value_of (codes "var") flags) (codes "GoCover");
      out = unwrap_or (value_of (codes "o") flags) [];
      file = file;
    }

-- what flags and the last word ask of run
abbrev pub run_request : List Given → List ℕ → RunRequest
run_request flags dir =
    record {
      mode = unwrap_or (mode_of flags) Set;
      coverdir = value_of (codes "coverdir") flags;
      serial = serial_of flags;
      max_steps = unwrap_or (option_and_then steps_in (value_of (codes "max-steps") flags)) 1000000;
      dir = dir;
    }

-- what the flags ask of covdata
abbrev pub request : Sub → List Given → DataRequest
request sub flags = record { sub = sub; dirs = list_of (codes "i") flags; out = value_of (codes "o") flags; pkg = list_of (codes "pkg") flags }

-- a request of directories within their limit
abbrev pub within_limit : DataRequest → Result Command WordsFault
within_limit asked = if nat_lt (limit_number limits.Directories) (length asked.dirs) then Err (faults.Limit limits.Directories) else Ok (Covdata asked)

abbrev pub asked : CommandName → Line → List (List ℕ) → Result Command WordsFault
asked commands.Cover line words = Ok (Cover (cover_request line.flags (word_at line.end words)))
asked commands.Run line words = Ok (Run (run_request line.flags (word_at line.end words)))
asked (commands.Covdata sub) line words = within_limit (request sub line.flags)

-- limits come after all rules
abbrev pub judged : Option ℕ → Result Command WordsFault → Result Command WordsFault
judged (Some i) there = Err (faults.Usage i)
judged None there = there

unfoldable pub meaning_under : Result CommandName WordsFault → List (List ℕ) → Result Command WordsFault
meaning_under (Err fault) words = Err fault
meaning_under (Ok command) words =
    let line = line_of command words in judged (broken command line words) (asked command line words)

-- a command, the index of the word that breaks the first broken rule, or a limit
unfoldable pub meaning : List (List ℕ) → Result Command WordsFault
meaning words = meaning_under (heading words) words

-- the fault that a call answers is the one that is there, unless memory ran out
abbrev pub Refuses : WordsFault → Result Command WordsFault → Type 0
Refuses (faults.Usage i) there = there ≡ Err (faults.Usage i)
Refuses (faults.Limit w) there = there ≡ Err (faults.Limit w)
Refuses faults.NoMemory there = Unit {0}

-- the call answers what the words mean, unless memory ran out
abbrev pub Means : Result Command WordsFault → Result Command WordsFault → Type 0
Means (Ok command) there = there ≡ Ok command
Means (Err fault) there = Refuses fault there
