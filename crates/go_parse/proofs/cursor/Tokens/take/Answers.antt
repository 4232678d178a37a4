use Rattle.std.proofs.Common.{sym, subst}
use Rattle.std.proofs.lemmas.List.{take_rest}
use Rattle.go_parse.specs.Placed.{ArePlaced}
use Rattle.go_parse.proofs.Placing.{rest_placed}
use Rattle.go_parse.proofs.cursor.Tokens.take.Goals as goal

pub invariant_of-self : goal.invariant_of-self
invariant_of-self c = (c.self.invariant.0, subst (ArePlaced c.self.inside.text.now) (sym (take_rest c.self.inside.rest.now 1)) (rest_placed c.self.inside.text.now c.self.inside.rest.now c.self.invariant.1))
