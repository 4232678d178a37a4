-- A `go.mod` read line by line.
use Rattle.std.specs.Prelude.{◌≡◌, ℕ, ◌+◌, Bool, ◌&&◌, List, ◌∷◌, ◌++◌, length, Option, None, nat_le, if◌then◌else◌}
use Rattle.std.specs.List.{list_all, filter_map}
use Rattle.std.specs.Option.{option_to_list}
use Rattle.go_load.specs.GoMod.{is_good, go_word, module_word, the_only}

-- the module path that lines give behind others, which gave a path or none, and of which one was of the version or none
abbrev pub path_behind : Option (List ℕ) → Bool → List (List ℕ) → Option (List ℕ)
path_behind given version lines =
    if list_all is_good lines && nat_le ((if version then 1 else 0) + length (filter_map go_word lines)) 1
    then the_only (option_to_list given ++ filter_map module_word lines)
    else None

-- no lines behind these and this one give a path
abbrev pub IsBad : Option (List ℕ) → Bool → List ℕ → Type 0
IsBad given version line = (more : List (List ℕ)) → path_behind given version (line ∷ more) ≡ None

-- with this line they have given this path, and one of the version or none
abbrev pub IsNext : Option (List ℕ) → Bool → List ℕ → Option (List ℕ) → Bool → Type 0
IsNext given version line given' version' = (more : List (List ℕ)) → path_behind given version (line ∷ more) ≡ path_behind given' version' more
