use Rattle.go_typing.proofs.OneSort as proof
use Rattle.go_typing.proofs.laws.one_sort.Goals as goal

pub returns : goal.returns
returns c = record { expressions = proof.one_sort; types = proof.one_type }
