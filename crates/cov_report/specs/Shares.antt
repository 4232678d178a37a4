-- How much of the statements ran.
use Rattle.std.specs.Prelude.{ℕ, ◌+◌, ◌*◌, ◌/◌, ◌%◌, ◌==◌, List, ◌++◌, sum_by, codes, decimal, if◌then◌else◌}
use Rattle.std.specs.List.{filter, flat_map}
use Rattle.std.specs.Str.{bytes_eq}
use Rattle.std.specs.FinMap as finmap
use Rattle.cov_table.specs.Key.{Key}
use Rattle.cov_table.specs.Coverage.{Coverage}
use Rattle.cov_report.specs.Packages.{kept_packages}

-- the units of a package
abbrev pub units_of : List ℕ → List (Key × ℕ) → List (Key × ℕ)
units_of path units = filter (λ u. bytes_eq path u.0.package_path) units

abbrev pub statements_of : List (Key × ℕ) → ℕ
statements_of units = sum_by (λ u. u.0.statements) units

-- the statements of units that ran
abbrev pub covered_of : List (Key × ℕ) → ℕ
covered_of units = sum_by (λ u. if u.1 == 0 then 0 else u.0.statements) units

-- c of t in tenths of a percent, to the nearest
abbrev pub tenths : ℕ → ℕ → ℕ
tenths c t = (2000 * c + t) / (2 * t)

-- with one decimal
abbrev pub percent_text : ℕ → ℕ → List ℕ
percent_text c t = decimal (tenths c t / 10) ++ codes "." ++ decimal (tenths c t % 10) ++ codes "%"

abbrev pub share_text : ℕ → ℕ → List ℕ
share_text c t = if t == 0 then codes "[no statements]" else percent_text c t ++ codes " of statements"

-- tab, path, two tabs and the share
abbrev pub share_line : List ℕ → ℕ → ℕ → List ℕ
share_line path c t = codes "\t" ++ path ++ codes "\t\tcoverage: " ++ share_text c t ++ codes "\n"

abbrev pub percent_line : List (Key × ℕ) → List ℕ × (List ℕ × List ℕ) → List ℕ
percent_line units p = share_line p.0 (covered_of (units_of p.0 units)) (statements_of (units_of p.0 units))

-- a line for each package in byte order
abbrev pub percent_of : Coverage → List (List ℕ) → List ℕ
percent_of table patterns = flat_map (percent_line (finmap.entries table.counts)) (kept_packages patterns (finmap.entries table.packages))
