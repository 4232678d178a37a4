-- The packages of a report, a line each.
use Rattle.std.specs.Prelude.{ℕ, List, ◌++◌, codes}
use Rattle.std.specs.List.{filter, flat_map}
use Rattle.std.specs.FinMap as finmap
use Rattle.cov_table.specs.Coverage.{Coverage}
use Rattle.cov_report.specs.Filter.{keeps}

-- path, name and module path of those that are kept
abbrev pub kept_packages : List (List ℕ) → List (List ℕ × (List ℕ × List ℕ)) → List (List ℕ × (List ℕ × List ℕ))
kept_packages patterns packages = filter (λ p. keeps patterns p.0) packages

abbrev pub path_line : List ℕ × (List ℕ × List ℕ) → List ℕ
path_line p = p.0 ++ codes "\n"

-- the path of each package in byte order
abbrev pub package_list_of : Coverage → List (List ℕ) → List ℕ
package_list_of table patterns = flat_map path_line (kept_packages patterns (finmap.entries table.packages))
