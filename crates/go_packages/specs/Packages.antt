-- A package, after those before it: names, constants and variables, signatures, bodies, imports, and for the root `main`.
-- Go specification, "Packages", "Package initialization", "Program execution".
use Rattle.std.specs.Prelude.{ℕ, ◌-◌, Bool, true, false, List, [], ◌∷◌, ◌++◌, length, codes, Option, Some, None, Result, Ok, Err}
use Rattle.go_ast.specs.declared.kind.SourceKind.TheVariants.{BadName}
use Rattle.go_ast.specs.declared.module.Package.{Package}
use Rattle.go_ast.specs.declared.module.SourceFile.{SourceFile}
use Rattle.go_meaning.specs.declared.node.Node.{Node}
use Rattle.go_meaning.specs.declared.program.Function.{Function}
use Rattle.go_meaning.specs.declared.program.ProgramPackage.{ProgramPackage}
use Rattle.go_types.specs.declared.names.Binding.{Binding}
use Rattle.go_types.specs.declared.names.Callee.TheVariants as callee
use Rattle.go_types.specs.declared.names.Meaning.{Meaning}
use Rattle.go_types.specs.declared.names.Meaning.TheVariants as meaning
use Rattle.go_types.specs.declared.names.Names.{Names}
use Rattle.go_types.specs.declared.fault.Placed.{Placed}
use Rattle.go_types.specs.declared.package_names.Declared.{Declared}
use Rattle.go_types.specs.Names.{last_named}
use Rattle.go_types.specs.Packages.{declared_from, names_fault}
use Rattle.go_packages.specs.declared.constants.Sources.{Sources}
use Rattle.go_packages.specs.declared.imports.FileImport.{FileImport}
use Rattle.go_packages.specs.declared.draft.Draft.{Draft}
use Rattle.go_packages.specs.declared.draft.Globals.{Globals}
use Rattle.go_packages.specs.declared.outline.Outline.{Outline}
use Rattle.go_packages.specs.declared.bodies.Bodies.{Bodies}
use Rattle.go_packages.specs.declared.packages.Built.{Built}
use Rattle.go_packages.specs.Placing.{then_on}
use Rattle.go_packages.specs.Imports.{imports_from, imported, none_used, unused_import}
use Rattle.go_packages.specs.Outlines.{outline_of, with_files}
use Rattle.go_packages.specs.Constants.{consts_from, hiding_from}
use Rattle.go_packages.specs.Variables.{pass_from}
use Rattle.go_packages.specs.Bodies as bodies

-- what the names of a package's files are found by, where these packages stand before
unfoldable pub sources_of : List Package → List SourceFile → Sources
sources_of before fs = record { imports = imports_from before 0 fs; consts = consts_from 0 fs; hiding = hiding_from 0 (consts_from 0 fs) }

-- ---- signatures, and functions and variables as constants see them

unfoldable pub outlined : Bool → List Declared → List SourceFile → Sources → Names → Outline
outlined root ds fs src ns = with_files root src.imports 0 fs (outline_of (record ns { imports = imported src.imports }) ds)

-- ---- constants and variables

abbrev pub draft_of : Outline → Sources → Globals → Draft
draft_of o src g =
    record { names = record o.names { own = o.own }; marks = record { read = []; used = none_used src.imports }; globals = g; known = 0; passed = 0 }

abbrev pub none_met : Option Placed → Result (Unit {0}) Placed
none_met None = Ok tt
none_met (Some p) = Err p

-- the faults of signatures follow those of constants and variables
unfoldable pub drafted : List SourceFile → Sources → Globals → Outline → Result Draft Placed
drafted fs src g o = then_on (pass_from fs src 0 fs (draft_of o src g)) (λ d. then_on (none_met o.fault) (λ _. Ok d))

-- ---- bodies

abbrev pub bodies_of : Draft → Built → Bodies
bodies_of d b =
    record { walk = record { names = d.names; scope = 0; marks = d.marks; declared = []; labels = []; named = []; around = []; results = []; lists = b.lists; first_unit = b.units }; functions = b.functions }

-- imports that aren't used follow the faults of bodies
unfoldable pub walked : List SourceFile → Sources → Bodies → Result Bodies Placed
walked fs src s = then_on (bodies.with_files src.imports 0 fs s) (λ t. then_on (unused_import t.walk.marks.used src.imports) (λ _. Ok t))

-- ---- `main`

abbrev pub no_main : Result ℕ Placed
no_main = Err (record { file = 0; fault = record { offset = 0; kind = BadName } })

abbrev pub function_meant : Option Meaning → Result ℕ Placed
function_meant (Some (meaning.Callee (callee.Function n))) = Ok n
function_meant m = no_main

-- the number of the function `main` of the root
abbrev pub main_of : Bool → List Binding → Result ℕ Placed
main_of true own = function_meant (last_named (codes "main") own)
main_of false own = Ok 0

-- ---- a package

-- the names of the package follow those of the packages before
abbrev pub names_behind : Names → Names
names_behind ns = record { packages = ns.packages ++ ns.own ∷ []; own = []; signatures = ns.signatures; imports = []; locals = [] }

abbrev pub package_built : Package → ℕ → List Function → ProgramPackage
package_built p before fs = record { path = p.path; name = p.name; functions = length fs - before }

-- the package behind these packages, which have so many functions
abbrev pub built_behind_these : Package → List ProgramPackage → ℕ → Globals → Bodies → ℕ → Built
built_behind_these p these before g s main =
    record { names = names_behind s.walk.names; packages = these ++ package_built p before s.functions ∷ []; functions = s.functions; lists = s.walk.lists; globals = g; units = s.walk.first_unit; main = main }

abbrev pub built_of : Package → Built → Globals → Bodies → ℕ → Built
built_of p b g s main = built_behind_these p b.packages (length b.functions) g s main

unfoldable pub package_of : Bool → Package → Sources → Built → Outline → Result Built Placed
package_of root p src b o =
    then_on (drafted p.files src b.globals o) (λ d.
    then_on (walked p.files src (bodies_of d b)) (λ s.
    then_on (main_of root s.walk.names.own) (λ main.
    Ok (built_of p b d.globals s main))))

-- What a package is checked to be, where these packages stand before and are built.
unfoldable pub checked_package : Bool → List Package → Package → Built → Result Built Placed
checked_package root before p b =
    then_on (names_fault [] (declared_from before 0 p.files)) (λ _.
    package_of root p (sources_of before p.files) b (outlined root (declared_from before 0 p.files) p.files (sources_of before p.files) b.names))
