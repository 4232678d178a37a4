use Rattle.go_bounds.proofs.Bodies as bodies
use Rattle.go_bounds.proofs.laws.bodies_stand.Goals as goal

pub returns : goal.returns
returns c = bodies.bodies_stand
