-- Programs without the places of their statements in the source.
use Rattle.std.specs.Prelude.{◌≡◌, map, false}
use Rattle.go_meaning.specs.declared.node.Node.{Node}
use Rattle.go_meaning.specs.declared.node.NodeForm.{NodeForm}
use Rattle.go_meaning.specs.declared.node.NodeForm.TheVariants as node
use Rattle.go_meaning.specs.Programs.{Parts}

abbrev pub shape_of_form : NodeForm → NodeForm
shape_of_form (node.Block l b) = node.Block l false
shape_of_form form = form

abbrev pub shape_of_node : Node → Node
shape_of_node n = record { span = record { start = 0; end = 0 }; form = shape_of_form n.form }

unfoldable pub shape : Parts → Parts
shape P = record P { lists = map (map shape_of_node) P.lists }

-- two programs are equal but for those places
abbrev pub IsSameShape : Parts → Parts → Type 0
IsSameShape P Q = shape P ≡ shape Q
