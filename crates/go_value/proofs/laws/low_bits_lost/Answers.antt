use Rattle.go_value.specs.Operations.{exact}
use Rattle.go_value.proofs.Meaning.{floor_and_rest}
use Rattle.go_value.proofs.laws.low_bits_lost.Goals as goal

pub returns : goal.returns
unfolding exact
returns c a n = floor_and_rest a n
