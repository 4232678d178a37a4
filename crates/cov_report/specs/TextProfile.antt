-- The text profile of a table.
use Rattle.std.specs.Prelude.{ℕ, Option, None, Some, List, [], ◌++◌, codes, decimal}
use Rattle.std.specs.List.{filter, flat_map}
use Rattle.std.specs.FinMap as finmap
use Rattle.cov_outside.specs.declared.mode.Mode.{Mode}
use Rattle.cov_outside.specs.Mode.{mode_name}
use Rattle.cov_table.specs.Key.{Key}
use Rattle.cov_table.specs.Coverage.{Coverage}
use Rattle.cov_report.specs.Filter.{keeps}

-- a line and a column with a dot between them
abbrev pub place_text : ℕ → ℕ → List ℕ
place_text line column = decimal line ++ codes "." ++ decimal column

-- file, start, end, statements, count
abbrev pub unit_line : Key × ℕ → List ℕ
unit_line (k, n) = k.file ++ codes ":" ++ place_text k.start_line k.start_column ++ codes "," ++ place_text k.end_line k.end_column ++ codes " " ++ decimal k.statements ++ codes " " ++ decimal n ++ codes "\n"

abbrev pub mode_line : Mode → List ℕ
mode_line mode = codes "mode: " ++ mode_name mode ++ codes "\n"

abbrev pub kept_units : List (List ℕ) → List (Key × ℕ) → List (Key × ℕ)
kept_units patterns units = filter (λ u. keeps patterns u.0.package_path) units

-- no bytes for an empty table, else the mode and the kept units in order
abbrev pub text_profile : Option Mode → List (Key × ℕ) → List ℕ
text_profile None units = []
text_profile (Some mode) units = mode_line mode ++ flat_map unit_line units

abbrev pub text_profile_of : Coverage → List (List ℕ) → List ℕ
text_profile_of table patterns = text_profile table.mode (kept_units patterns (finmap.entries table.counts))
