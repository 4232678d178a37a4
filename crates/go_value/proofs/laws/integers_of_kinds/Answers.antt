use Rattle.go_value.proofs.Ints.{value_in_kind, wrap-value_of, value_of-wrap}
use Rattle.go_value.proofs.Meaning.{multiple_away}
use Rattle.go_value.proofs.laws.integers_of_kinds.Goals as goal

pub returns-clause-range : goal.returns-clause-range
returns-clause-range c = value_in_kind

pub returns-clause-own : goal.returns-clause-own
returns-clause-own c = wrap-value_of

pub returns-clause-kept : goal.returns-clause-kept
returns-clause-kept c = value_of-wrap

pub returns-clause-multiple : goal.returns-clause-multiple
returns-clause-multiple c = multiple_away
