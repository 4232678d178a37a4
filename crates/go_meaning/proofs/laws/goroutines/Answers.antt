use Rattle.go_meaning.proofs.Growth.{goroutines_stay, goroutines_stay_few}
use Rattle.go_meaning.proofs.laws.goroutines.Goals as goal

pub returns : goal.returns
returns c = record { stay = goroutines_stay; few = goroutines_stay_few }
