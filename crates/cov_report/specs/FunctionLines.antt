-- How much of each function's statements ran, a line each, and of all together.
use Rattle.std.specs.Prelude.{ℕ, ◌==◌, ◌&&◌, not, Bool, List, [], ◌∷◌, ◌++◌, codes, decimal, if◌then◌else◌}
use Rattle.std.specs.Bool.{beq}
use Rattle.std.specs.List.{filter, flat_map}
use Rattle.std.specs.Str.{bytes_eq}
use Rattle.std.specs.FinMap as finmap
use Rattle.cov_table.specs.Key.{Key}
use Rattle.cov_table.specs.Coverage.{Coverage}
use Rattle.cov_report.specs.Shares.{statements_of, covered_of, percent_text}
use Rattle.cov_report.specs.TextProfile.{kept_units}

-- two units are of one function: its package path, file, name and literal flag
abbrev pub same_function : Key → Key → Bool
same_function a b = bytes_eq a.package_path b.package_path && (bytes_eq a.file b.file && (bytes_eq a.function b.function && beq a.literal b.literal))

-- the units of the function that a unit is of
abbrev pub units_with : Key → List (Key × ℕ) → List (Key × ℕ)
units_with k units = filter (λ u. same_function k u.0) units

-- of the units of one function only the first
abbrev pub first_units : List (Key × ℕ) → List (Key × ℕ)
first_units [] = []
first_units (u ∷ units) = u ∷ filter (λ v. not (same_function u.0 v.0)) (first_units units)

-- c of t in percent; 0.0 where there are no statements
abbrev pub part_text : ℕ → ℕ → List ℕ
part_text c t = if t == 0 then codes "0.0%" else percent_text c t

-- the line of the function whose first unit this is: file, start line of that unit, name, part of its statements that ran
abbrev pub function_line : List (Key × ℕ) → Key × ℕ → List ℕ
function_line units u =
    u.0.file ++ codes ":" ++ decimal u.0.start_line ++ codes ":\t" ++ u.0.function ++ codes "\t" ++ part_text (covered_of (units_with u.0 units)) (statements_of (units_with u.0 units)) ++ codes "\n"

abbrev pub total_text : ℕ → ℕ → List ℕ
total_text c t = codes "total\t(statements)\t" ++ part_text c t ++ codes "\n"

-- the line of each function, in the order of their first units, and the total
abbrev pub func_text : List (Key × ℕ) → List ℕ
func_text units = flat_map (function_line units) (first_units units) ++ total_text (covered_of units) (statements_of units)

-- over the units whose packages are kept, in the order of their keys
abbrev pub func_text_of : Coverage → List (List ℕ) → List ℕ
func_text_of table patterns = func_text (kept_units patterns (finmap.entries table.counts))
