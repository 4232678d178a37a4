use Rattle.go_typing.proofs.Found as found
use Rattle.go_typing.proofs.Meanings as meanings
use Rattle.go_typing.proofs.laws.accepted.Goals as goal

pub returns : goal.returns
returns c = record { expressions = found.accepted; types = meanings.accepted_types; constants = found.found_of_kind; declared = found.declared_of_kind }
