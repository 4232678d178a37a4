-- What a module is checked to be: its packages in load order, the imported ones first and the root last. Go specification,
-- "Packages", "Program execution", "Package initialization".
use Rattle.std.specs.Prelude.{ℕ, ◌==◌, List, [], ◌∷◌, ◌++◌, length, Result, Ok, Err}
use Rattle.go_ast.specs.declared.kind.SourceKind.{SourceKind}
use Rattle.go_ast.specs.declared.module.Module.{Module}
use Rattle.go_ast.specs.declared.module.Package.{Package}
use Rattle.go_meaning.specs.Programs.{Parts}
use Rattle.go_types.specs.declared.names.Names.{Names}
use Rattle.go_types.specs.declared.fault.Placed.{Placed}
use Rattle.go_packages.specs.declared.draft.Globals.{Globals}
use Rattle.go_packages.specs.declared.packages.Built.{Built}
use Rattle.go_packages.specs.Packages.{checked_package}

-- the first fault of a module: the numbers of its package and file, its offset there and its kind
pub record ModuleFault : Type 0 where
  pub number : ℕ
  pub file : ℕ
  pub offset : ℕ
  pub kind : SourceKind

abbrev pub fault_in : ℕ → Placed → ModuleFault
fault_in n p = record { number = n; file = p.file; offset = p.fault.offset; kind = p.fault.kind }

abbrev pub and_on : {A : Type 0} → ℕ → Result A Placed → (A → Result A ModuleFault) → Result A ModuleFault
and_on n (Ok a) f = f a
and_on n (Err p) f = Err (fault_in n p)

-- nothing is built
abbrev pub no_names : Names
no_names = record { packages = []; own = []; signatures = []; imports = []; locals = [] }

abbrev pub no_globals : Globals
no_globals = record { all = []; values = 0; mutexes = 0; groups = 0 }

abbrev pub nothing : Built
nothing = record { names = no_names; packages = []; functions = []; lists = []; globals = no_globals; units = 0; main = 0 }

-- the packages behind others; the last is the root
abbrev pub built_behind : List Package → List Package → Built → Result Built ModuleFault
built_behind before [] b = Ok b
built_behind before (p ∷ ps) b =
    and_on (length before) (checked_package (length ps == 0) before p b) (λ c. built_behind (before ++ p ∷ []) ps c)

unfoldable pub built : Module → Result Built ModuleFault
built m = built_behind [] m.packages nothing

abbrev pub parts_built : Result Built ModuleFault → Result Parts ModuleFault
parts_built (Ok b) = Ok (record { packages = b.packages; functions = b.functions; lists = b.lists; globals = b.globals.all; units = b.units; main = b.main })
parts_built (Err f) = Err f

-- The parts of the one program of a module that is accepted, or the first fault.
unfoldable pub accepted : Module → Result Parts ModuleFault
accepted m = parts_built (built m)
