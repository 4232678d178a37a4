use Rattle.go_reading.proofs.Whole.{one_spelled}
use Rattle.go_reading.proofs.laws.one_tree.Goals as goal

pub returns : goal.returns
returns c = λ form small. one_spelled form small
