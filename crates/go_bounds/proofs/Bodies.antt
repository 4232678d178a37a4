-- What the statements of a body add.
use Rattle.std.proofs.Common.{◌≡◌, ℕ, List, [], ◌∷◌, length, None, refl, sym, ◌∙◌, arith}
use Rattle.std.specs.Prelude.{flat_map}
use Rattle.go_ast.specs.declared.block.Stmt.{Stmt}
use Rattle.go_meaning.specs.Programs.{Parts}
use Rattle.go_types.specs.declared.walk.Walk.{Walk}
use Rattle.go_types.specs.Bodies.{list_of, check_stmt, body}
use Rattle.go_bounds.specs.Known.{Each}
use Rattle.go_bounds.specs.Trees.{held, Fits, AreFit}
use Rattle.go_bounds.specs.Pieces.{Adds}
use Rattle.go_bounds.specs.Laws.{ExpressionsAreThere, BodiesStand}
use Rattle.go_bounds.proofs.Goes.{Goes}
use Rattle.go_bounds.proofs.Making.{MakesList, MakesBlock, makes_list, makes_next}
use Rattle.go_bounds.proofs.Expressions.{check_found}
use Rattle.go_bounds.proofs.Every.{left, right, check_makes}

pub expressions_are_there : ExpressionsAreThere
expressions_are_there P slots e names marks r k is = (((check_found P slots e).finds names k).sure marks).holds r is

module _ (P : Parts) (first : ℕ) where
  each_fit : (ss : List Stmt) → AreFit P first (flat_map held ss) → Each (λ s. AreFit P first (held s)) ss
  each_fit [] h = tt
  each_fit (s ∷ ss) h = (left (Fits P first) (held s) (flat_map held ss) h, each_fit ss (right (Fits P first) (held s) (flat_map held ss) h))

  pub body_makes : (ss : List Stmt) → AreFit P first (flat_map held ss) → MakesBlock P first (body ss)
  body_makes ss h =
      let list = makes_list P first Stmt check_stmt (λ s. AreFit P first (held s)) (λ s g. check_makes P first s g) None None ss (each_fit ss h) in
      let free : MakesList P first (Unit {0}) (list_of Stmt check_stmt None None ss) = record { makes = list.makes } in
      makes_next P first free

  pub goes_adds : (s t : Walk) → s.first_unit ≡ first → Goes P first 0 0 0 s t → Adds s t
  goes_adds s t e g = record { longer = g.lists; kept = λ n lt. g.kept n lt (λ p q. absurd (omega arith)); unit = g.ready.unit ∙ sym e }

pub bodies_stand : BodiesStand
bodies_stand P ss s r k none fit is =
    let h = ((body_makes P s.first_unit ss fit).makes 0 s (record { known = k; unit = refl; around = none })).holds r is in
    record {
      adds = goes_adds P s.first_unit s r.1 refl h.0;
      known = h.0.ready.known;
      slots = h.0.slots;
      stands = λ S le has. (h.1 S (record { declared = le; bound = has.bound; lists = has.lists })).nests (length P.lists) (omega (arith, has.bound));
    }
