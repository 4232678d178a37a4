use Rattle.go_typing.proofs.Declarations as proof
use Rattle.go_typing.proofs.laws.declarations.Goals as goal

pub returns : goal.returns
returns c = record { constants = proof.const_typed; variables = proof.var_typed }
