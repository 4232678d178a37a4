use Rattle.std.proofs.lemmas.Int.{quot-rem}
use Rattle.go_value.specs.Operations.{exact}
use Rattle.go_value.proofs.Meaning.{nearer, from_above, from_below}
use Rattle.go_value.proofs.laws.quotient_and_remainder.Goals as goal

pub returns-clause-whole : goal.returns-clause-whole
unfolding exact
returns-clause-whole c a b = quot-rem a b

pub returns-clause-small : goal.returns-clause-small
unfolding exact
returns-clause-small c a b h = nearer a b h

pub returns-clause-from_above : goal.returns-clause-from_above
unfolding exact
returns-clause-from_above c a b h = from_above a b h

pub returns-clause-from_below : goal.returns-clause-from_below
unfolding exact
returns-clause-from_below c a b h = from_below a b h
