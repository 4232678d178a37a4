-- Statements that are copied part by part.
use Rattle.go_meaning.specs.declared.node.NodeForm.{NodeForm}
use Rattle.go_meaning.specs.declared.node.NodeForm.TheVariants as node

-- no list is nested in the statement
abbrev pub IsLeaf : NodeForm → Type 0
IsLeaf (node.Block l b) = ⊥
IsLeaf (node.If first e a o) = ⊥
IsLeaf (node.For first e last l) = ⊥
IsLeaf (node.RangeText o r e l) = ⊥
IsLeaf (node.RangeChannel v e l) = ⊥
IsLeaf (node.Switch first e cs) = ⊥
IsLeaf (node.Select cs) = ⊥
IsLeaf form = Unit {0}
