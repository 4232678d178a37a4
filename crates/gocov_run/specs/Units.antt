-- How many units a module has, and the limit on them.
use Rattle.std.specs.Prelude.{◌≡◌, ℕ, ◌+◌, ◌<◌, List, length, Option, MatchOption, Result, Ok, Err, nat_lt, sum_by, if◌then◌else◌}
use Rattle.cov_cut.specs.Units.{units_of}
use Rattle.cov_cut.specs.declared.unit.FuncUnits.{FuncUnits}
use Rattle.cov_outside.specs.Limits.{limit_number}
use Rattle.cov_outside.specs.declared.limit.Which.TheVariants as limits
use Rattle.go_ast.specs.declared.«module».Module.{Module}
use Rattle.go_ast.specs.declared.«module».Package.{Package}
use Rattle.go_ast.specs.declared.«module».SourceFile.{SourceFile}
use Rattle.go_load.specs.declared.refusal.LoadRefusal.{LoadRefusal}
use Rattle.go_load.specs.declared.refusal.LoadRefusal.TheVariants as refusals

abbrev pub units_in_functions : List FuncUnits → ℕ
units_in_functions functions = sum_by (λ f. length f.units) functions

abbrev pub units_in_file : SourceFile → ℕ
units_in_file file = units_in_functions (units_of file.tree)

abbrev pub units_in_package : Package → ℕ
units_in_package p = sum_by units_in_file p.files

-- the units of all files of all packages
abbrev pub units_in : Module → ℕ
units_in m = sum_by units_in_package m.packages

-- of so many, what is left behind n of them, where there are so many
abbrev pub Leaves : ℕ → ℕ → Option ℕ → Type 0
Leaves many n left = MatchOption left (many < n) (λ rest. rest + n ≡ many)

-- a module has no more units than the limit allows, and else that is its refusal
abbrev pub within_units : Module → Result ℕ LoadRefusal
within_units m = if nat_lt (limit_number limits.Units) (units_in m) then Err (refusals.Limit limits.Units) else Ok (units_in m)
