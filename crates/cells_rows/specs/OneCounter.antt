-- A program whose `main` has a counter alone.
use Rattle.std.specs.Prelude.{List, [], ◌∷◌, codes}
use Rattle.go_meaning.specs.declared.node.Node.{Node}
use Rattle.go_meaning.specs.declared.node.NodeForm.TheVariants.{Count}
use Rattle.go_meaning.specs.declared.program.ProgramPackage.{ProgramPackage}
use Rattle.go_meaning.specs.declared.program.Function.{Function}
use Rattle.go_meaning.specs.Programs.{Parts}

abbrev pub package_of_one : ProgramPackage
package_of_one = record { path = codes "m"; name = codes "main"; functions = 1 }

abbrev pub main_function : Function
main_function = record { name = codes "main"; params = 0; results = 0; slots = 0; body = 0 }

abbrev pub counter : Node
counter = record { span = record { start = 0; end = 0 }; form = Count 0 }

abbrev pub one_counter : Parts
one_counter = record {
  packages = package_of_one ∷ [];
  functions = main_function ∷ [];
  lists = (counter ∷ []) ∷ [];
  globals = [];
  units = 1;
  main = 0;
}
