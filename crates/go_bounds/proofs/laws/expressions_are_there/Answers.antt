use Rattle.go_bounds.proofs.Bodies as bodies
use Rattle.go_bounds.proofs.laws.expressions_are_there.Goals as goal

pub returns : goal.returns
returns c = bodies.expressions_are_there
