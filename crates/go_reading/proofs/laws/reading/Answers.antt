use Rattle.go_reading.proofs.Whole.{files_read}
use Rattle.go_reading.proofs.laws.reading.Goals as goal

pub returns : goal.returns
returns c = λ form small. files_read form small
