use Rattle.go_meaning.proofs.Covering.{counted_is_program, erased_is_program}
use Rattle.go_meaning.proofs.laws.covering.Goals as goal

pub returns : goal.returns
returns c = record { counted = counted_is_program; erased = erased_is_program }
