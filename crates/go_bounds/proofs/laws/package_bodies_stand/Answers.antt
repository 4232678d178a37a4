use Rattle.go_bounds.proofs.PackageBodies as bodies
use Rattle.go_bounds.proofs.laws.package_bodies_stand.Goals as goal

pub returns : goal.returns
returns c = bodies.package_bodies_stand
