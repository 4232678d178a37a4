-- The functions of units.
use Rattle.std.specs.Prelude.{ℕ, ◌&&◌, not, Bool, List, [], ◌∷◌, map}
use Rattle.std.specs.Bool.{beq}
use Rattle.std.specs.List.{filter}
use Rattle.std.specs.Str.{bytes_eq}
use Rattle.cov_table.specs.Key.{Key}

-- two units are of one function: its package path, file, name and literal flag
abbrev pub same_function : Key → Key → Bool
same_function a b = bytes_eq a.package_path b.package_path && (bytes_eq a.file b.file && (bytes_eq a.function b.function && beq a.literal b.literal))

-- the units of the function that a unit is of
abbrev pub units_with : Key → List (Key × ℕ) → List (Key × ℕ)
units_with k units = filter (λ u. same_function k u.0) units

-- of the units of one function only the first
abbrev pub first_units : List (Key × ℕ) → List (Key × ℕ)
first_units [] = []
first_units (u ∷ units) = u ∷ filter (λ v. not (same_function u.0 v.0)) (first_units units)

-- the units of each function behind its first, in the order of the first units
abbrev pub groups_of : List (Key × ℕ) → List ((Key × ℕ) × List (Key × ℕ))
groups_of units = map (λ u. (u, units_with u.0 units)) (first_units units)
