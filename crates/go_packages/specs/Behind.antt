-- A package whose constants and variables are checked, behind what those before it have become.
use Rattle.std.specs.Prelude.{Bool, [], length, Result, Ok, Err}
use Rattle.go_ast.specs.declared.module.Package.{Package}
use Rattle.go_types.specs.declared.fault.Placed.{Placed}
use Rattle.go_packages.specs.declared.constants.Sources.{Sources}
use Rattle.go_packages.specs.declared.draft.Draft.{Draft}
use Rattle.go_packages.specs.declared.bodies.Bodies.{Bodies}
use Rattle.go_packages.specs.declared.packages.Built.{Built}
use Rattle.go_packages.specs.declared.packages.Rest.{Rest}
use Rattle.go_packages.specs.Placing.{then_on}
use Rattle.go_packages.specs.Packages.{walked, main_of, built_behind_these}

abbrev pub bodies_behind : Draft → Rest → Bodies
bodies_behind d r =
    record { walk = record { names = d.names; scope = 0; marks = d.marks; declared = []; labels = []; named = []; around = []; results = []; lists = r.lists; first_unit = r.units }; functions = r.functions }

unfoldable pub finished : Bool → Package → Sources → Draft → Rest → Result Built Placed
finished root p src d r =
    then_on (walked p.files src (bodies_behind d r)) (λ s.
    then_on (main_of root s.walk.names.own) (λ main.
    Ok (built_behind_these p r.packages (length r.functions) d.globals s main)))
