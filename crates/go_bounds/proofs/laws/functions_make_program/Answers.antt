use Rattle.go_bounds.proofs.Programs as programs
use Rattle.go_bounds.proofs.laws.functions_make_program.Goals as goal

pub returns : goal.returns
returns c = programs.functions_make_program
