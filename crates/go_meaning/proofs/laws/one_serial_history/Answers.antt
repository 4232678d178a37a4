use Rattle.go_meaning.proofs.Unique as unique
use Rattle.go_meaning.proofs.laws.one_serial_history.Goals as goal

pub returns : goal.returns
returns c = unique.one_serial_history
