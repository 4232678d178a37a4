use Rattle.go_bounds.proofs.Functions as functions
use Rattle.go_bounds.proofs.laws.functions_add.Goals as goal

pub returns : goal.returns
returns c = functions.functions_add
