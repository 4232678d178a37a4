-- The counters of a small program.
use Rattle.go_meaning.proofs.ControlRows.{ranges}
use Rattle.std.proofs.Common.{◌≡◌, [], ◌∷◌, Some, None, refl}
use Rattle.std.specs.Prelude.{codes}
use Rattle.go_meaning.specs.declared.expr.Expr.TheVariants as expr
use Rattle.go_meaning.specs.declared.expr.Op.TheVariants as op
use Rattle.go_meaning.specs.declared.node.NodeForm.TheVariants as node
use Rattle.go_meaning.specs.declared.expr.Relation.TheVariants as relation
use Rattle.go_meaning.specs.Units.{unit_at, counted}
use Rattle.go_meaning.proofs.Small.{program, println, int, text, slot, to_slot}

-- the counters of a loop with a branch
counters : (counted ranges).lists ≡ (program 2 [] (
    (node.Count 0 ∷ node.RangeText (to_slot 0) (to_slot 1) (text (codes "ab")) 1 ∷ node.Count 1 ∷ println (int 9) ∷ [])
    ∷ (node.Count 2 ∷ node.If None (expr.Apply (op.Compare relation.Equal) (slot 0 ∷ int 1 ∷ [])) 2 None ∷ node.Count 3 ∷ println (slot 1) ∷ [])
    ∷ (node.Count 4 ∷ node.Break 0 ∷ [])
    ∷ [])).lists
unfolding counted
counters = refl

five_units : (counted ranges).units ≡ 5
unfolding counted
five_units = refl

second_of_body : unit_at ranges 1 1 ≡ Some 3
unfolding unit_at
second_of_body = refl
