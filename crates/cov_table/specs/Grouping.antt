-- What groups of rows say of units.
use Rattle.std.specs.Prelude.{◌≡◌, ℕ, Bool, ◌&&◌, List, map, length}
use Rattle.std.specs.Bool.{beq}
use Rattle.std.specs.Str.{bytes_eq}
use Rattle.cov_table.specs.declared.row.Row.{Row}
use Rattle.cov_table.specs.declared.group.FunctionName.{FunctionName}
use Rattle.cov_table.specs.declared.group.Group.{Group}
use Rattle.cov_table.specs.Key.{Key}
use Rattle.cov_table.specs.Functions.{first_units, groups_of}
use Rattle.cov_table.specs.Rows.{row_entry}

-- package path, file, name and literal flag of a function
abbrev pub Function : Type 0
Function = List ℕ × (List ℕ × (List ℕ × Bool))

abbrev pub function_of : Key → Function
function_of k = (k.package_path, (k.file, (k.function, k.literal)))

-- equal texts and flag
abbrev pub is_function : Function → Function → Bool
is_function f g = bytes_eq f.0 g.0 && (bytes_eq f.1.0 g.1.0 && (bytes_eq f.1.1.0 g.1.1.0 && beq f.1.1.1 g.1.1.1))

abbrev pub named_function : FunctionName → Function
named_function n = (n.package_path.now, (n.file.now, (n.function.now, n.literal)))

abbrev pub group_entry : List (List ℕ) → Group → (Key × ℕ) × List (Key × ℕ)
group_entry texts g = (row_entry texts g.first, map (row_entry texts) g.rows.items)

-- names and groups of rows are those of units
pub record Grouped (texts : List (List ℕ)) (names : List FunctionName) (groups : List Group) (units : List (Key × ℕ)) : Type 0 where
  pub names_are : map named_function names ≡ map (λ u. function_of u.0) (first_units units)
  pub groups_are : map (group_entry texts) groups ≡ groups_of units

-- there is a name for each group
abbrev pub AreNames : List FunctionName → List Group → Type 0
AreNames names groups = length names ≡ length groups

-- the counts of a group's rows
abbrev pub row_counts : Group → List ℕ
row_counts g = map (λ (r : Row). r.count) g.rows.items
