-- What sums by function say of units.
use Rattle.std.specs.Prelude.{◌≡◌, ℕ, ◌<◌, ◌^◌, Bool, ◌&&◌, List, ◌++◌, Option, map, codes, decimal}
use Rattle.std.specs.Bool.{beq}
use Rattle.std.specs.Map.{lookup}
use Rattle.std.specs.Str.{bytes_eq}
use Rattle.cov_table.specs.Key.{Key}
use Rattle.cov_report.specs.declared.function_sums.FunctionName.{FunctionName}
use Rattle.cov_report.specs.declared.function_sums.FunctionSum.{FunctionSum}
use Rattle.cov_report.specs.Shares.{statements_of, covered_of}
use Rattle.cov_report.specs.FunctionLines.{units_with, first_units, part_text}

-- package path, file, name and literal flag of a function
abbrev pub Function : Type 0
Function = List ℕ × (List ℕ × (List ℕ × Bool))

-- equal texts and flag
abbrev pub is_function : Function → Function → Bool
is_function f g = bytes_eq f.0 g.0 && (bytes_eq f.1.0 g.1.0 && (bytes_eq f.1.1.0 g.1.1.0 && beq f.1.1.1 g.1.1.1))

abbrev pub function_of : Key → Function
function_of k = (k.package_path, (k.file, (k.function, k.literal)))

abbrev pub named_function : FunctionName → Function
named_function n = (n.package_path.now, (n.file.now, (n.function.now, n.literal)))

abbrev pub named_sum : FunctionName × FunctionSum → Function × FunctionSum
named_sum e = (named_function e.0, e.1)

-- the sum of a function among others
abbrev pub sum_among : Function → List (Function × FunctionSum) → Option FunctionSum
sum_among f sums = lookup (is_function f) sums

-- the function of a unit with its sum over some units
abbrev pub sum_over : List (Key × ℕ) → Key × ℕ → Function × FunctionSum
sum_over units u = (function_of u.0, record { start_line = u.0.start_line; share = record { covered = covered_of (units_with u.0 units); statements = statements_of (units_with u.0 units) } })

-- the sums of the functions of units, in the order of their first units
abbrev pub function_sums : List (Key × ℕ) → List (Function × FunctionSum)
function_sums units = map (sum_over units) (first_units units)

-- these entries are those sums
pub record AreSums (units : List (Key × ℕ)) (entries : List (FunctionName × FunctionSum)) : Type 0 where
  pub sums : map named_sum entries ≡ function_sums units

-- sums over few enough units that one more doesn't pass 128 bits
pub record HasRoom (entries : List (FunctionName × FunctionSum)) : Type 0 where
  pub units : List (Key × ℕ)
  pub are : AreSums units entries
  pub few_statements : statements_of units < 2 ^ 100
  pub few_covered : covered_of units < 2 ^ 100

-- the line of a function with its sum
abbrev pub sum_line : Function × FunctionSum → List ℕ
sum_line (f, s) = f.1.0 ++ codes ":" ++ decimal s.start_line ++ codes ":\t" ++ f.1.1.0 ++ codes "\t" ++ part_text s.share.covered s.share.statements ++ codes "\n"

-- few enough statements for a percentage of 128 bits
abbrev pub IsSmall : FunctionSum → Type 0
IsSmall s = (s.share.statements < 2 ^ 100) × (s.share.covered < 2 ^ 100)
