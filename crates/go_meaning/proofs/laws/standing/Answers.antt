use Rattle.go_meaning.proofs.Standing.{stands_until_counted, stays_over, units_are_below}
use Rattle.go_meaning.proofs.laws.standing.Goals as goal

pub returns : goal.returns
returns c = record { counters = stands_until_counted; over = stays_over; units = units_are_below }
