use Rattle.go_meaning.proofs.Alike as alike
use Rattle.go_meaning.proofs.laws.shapes_run_alike.Goals as goal

pub returns : goal.returns
returns c = alike.shapes_run_alike
