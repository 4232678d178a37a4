use Rattle.go_meaning.proofs.Fitting as fitting
use Rattle.go_meaning.proofs.laws.acts_fit.Goals as goal

pub returns : goal.returns
returns c = fitting.acts_fit
