use Rattle.go_typing.proofs.Statements as proof
use Rattle.go_typing.proofs.laws.statements.Goals as goal

pub returns : goal.returns
returns c = record { simple = proof.simple_typed; results = proof.return_typed; conditions = proof.condition_typed }
