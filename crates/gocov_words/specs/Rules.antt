-- The rules of a command line. Each gives the index of the word that breaks it.
use Rattle.std.specs.Prelude.{ℕ, ◌+◌, ◌==◌, nat_lt, Bool, true, false, not, ◌&&◌, ◌||◌, List, [], ◌∷◌, length, Option, Some, None, is_none, find, codes, option_map, option_and_then, unwrap_or, slice_get, if◌then◌else◌}
use Rattle.std.specs.Option.{option_or, option_map_or}
use Rattle.std.specs.List.{list_any}
use Rattle.std.specs.Str.{bytes_eq}
use Rattle.gocov_words.specs.declared.heading.CommandName.{CommandName}
use Rattle.gocov_words.specs.declared.heading.CommandName.TheVariants as commands
use Rattle.cov_outside.specs.declared.mode.Mode.{Mode}
use Rattle.cov_outside.specs.declared.mode.Mode.TheVariants.{Set, Count, Atomic}
use Rattle.gocov_words.specs.declared.sub.Sub.{Sub}
use Rattle.gocov_words.specs.Subs.{takes_two}
use Rattle.gocov_words.specs.Table.{table, row_named}
use Rattle.gocov_words.specs.Values.{pieces, mode_named, bool_in, is_file_name}
use Rattle.gocov_words.specs.Line.{Given, Line}

-- the last flag of a name
abbrev pub last : List ℕ → List Given → Option Given
last name [] = None
last name (flag ∷ flags) = option_or (last name flags) (if bytes_eq name flag.name then Some flag else None)

-- its value
abbrev pub value_of : List ℕ → List Given → Option (List ℕ)
value_of name flags = option_and_then (λ flag. flag.value) (last name flags)

-- its value as a list
abbrev pub list_of : List ℕ → List Given → List (List ℕ)
list_of name flags = option_map_or pieces (value_of name flags) []

-- the index of its word
abbrev pub index_of : List ℕ → List Given → Option ℕ
index_of name flags = option_map (λ flag. flag.at) (last name flags)

-- the command knows the flag, and takes its value, if there is one
abbrev pub is_good : CommandName → Given → Bool
is_good command flag = option_map_or (λ row. option_map_or row.accepts flag.value true) (row_named command flag.name) false

-- the first flag that is unknown or has a bad value
abbrev pub bad_flag : CommandName → List Given → Option ℕ
bad_flag command flags = option_map (λ flag. flag.at) (find (λ flag. not (is_good command flag)) flags)

-- how many words follow the flags
abbrev pub last_words : CommandName → ℕ
last_words commands.Cover = 1
last_words commands.Run = 1
last_words (commands.Covdata sub) = 0

-- the word behind the flags, where it is a bad FILE
abbrev pub bad_word : CommandName → ℕ → List (List ℕ) → Option ℕ
bad_word commands.Cover end words = if option_map_or is_file_name (slice_get words end) true then None else Some end
bad_word commands.Run end words = None
bad_word (commands.Covdata sub) end words = None

-- the first word that is one too many, of so many words
abbrev pub too_many : CommandName → ℕ → ℕ → Option ℕ
too_many command end count = if nat_lt (end + last_words command) count then Some (end + last_words command) else None

abbrev pub lacks_value : List Given → Bool
lacks_value flags = list_any (λ flag. is_none flag.value) flags

abbrev pub lacks_flag : CommandName → List Given → Bool
lacks_flag command flags = list_any (λ row. row.is_required && is_none (last row.name flags)) (table command)

abbrev pub lacks_word : CommandName → ℕ → ℕ → Bool
lacks_word command end count = nat_lt count (end + last_words command)

-- the place behind the words, where something is missing
abbrev pub missing : CommandName → Line → ℕ → Option ℕ
missing command line count = if lacks_value line.flags || (lacks_flag command line.flags || lacks_word command line.end count) then Some count else None

-- the mode that is asked for, if one is
abbrev pub mode_of : List Given → Option Mode
mode_of flags = option_and_then mode_named (value_of (codes "mode") flags)

-- whether the run is serial
abbrev pub serial_of : List Given → Bool
serial_of flags = unwrap_or (option_and_then bool_in (value_of (codes "serial") flags)) false

-- a mode that counts more than whether a unit ran, but isn't atomic
abbrev pub is_count : Option Mode → Bool
is_count None = false
is_count (Some Set) = false
is_count (Some Count) = true
is_count (Some Atomic) = false

-- the last -mode, where no -coverdir is there for it, and where it is count without -serial
abbrev pub unused_mode : List Given → Option ℕ
unused_mode flags = if is_none (last (codes "coverdir") flags) then index_of (codes "mode") flags else None

abbrev pub unordered_count : List Given → Option ℕ
unordered_count flags = if is_count (mode_of flags) && not (serial_of flags) then index_of (codes "mode") flags else None

-- the last -i, where two directories are taken and others are given
abbrev pub other_than_two : Sub → List Given → Option ℕ
other_than_two sub flags = if takes_two sub && not (length (list_of (codes "i") flags) == 2) then index_of (codes "i") flags else None

-- the flag that doesn't go with the others
abbrev pub clash : CommandName → List Given → Option ℕ
clash commands.Cover flags = None
clash commands.Run flags = option_or (unused_mode flags) (unordered_count flags)
clash (commands.Covdata sub) flags = other_than_two sub flags

-- the first that is there
abbrev pub first_some : List (Option ℕ) → Option ℕ
first_some [] = None
first_some (found ∷ more) = option_or found (first_some more)

-- the word that breaks the first broken rule
abbrev pub broken : CommandName → Line → List (List ℕ) → Option ℕ
broken command line words =
    first_some (bad_flag command line.flags ∷ bad_word command line.end words ∷ too_many command line.end (length words) ∷ missing command line (length words) ∷ clash command line.flags ∷ [])
