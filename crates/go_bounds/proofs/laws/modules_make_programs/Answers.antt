use Rattle.go_bounds.proofs.Modules as modules
use Rattle.go_bounds.proofs.laws.modules_make_programs.Goals as goal

pub returns : goal.returns
returns c = modules.modules_make_programs
