use Rattle.go_value.specs.Operations.{exact}
use Rattle.go_value.proofs.Meaning.{of_common, of_joint, of_differing, of_cleared, known}
use Rattle.go_value.proofs.laws.bit_by_bit.Goals as goal

pub returns-clause-and : goal.returns-clause-and
unfolding exact
returns-clause-and c k a b = of_common k a b

pub returns-clause-or : goal.returns-clause-or
unfolding exact
returns-clause-or c k a b = of_joint k a b

pub returns-clause-xor : goal.returns-clause-xor
unfolding exact
returns-clause-xor c k a b = of_differing k a b

pub returns-clause-and_not : goal.returns-clause-and_not
unfolding exact
returns-clause-and_not c k a b = of_cleared k a b

pub returns-clause-known : goal.returns-clause-known
returns-clause-known c = known
