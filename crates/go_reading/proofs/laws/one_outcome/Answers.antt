use Rattle.go_reading.proofs.Whole.{tree_or_fault}
use Rattle.go_reading.proofs.OneFault.{tree_has_no_fault, one_fault}
use Rattle.go_reading.proofs.laws.one_outcome.Goals as goal

pub returns : goal.returns
returns c = record { some = λ form small. tree_or_fault form small; apart = λ form. tree_has_no_fault form; one_fault = λ form. one_fault form }
