use Rattle.go_bounds.proofs.Outlines as outlines
use Rattle.go_bounds.proofs.laws.outlines_sign.Goals as goal

pub returns : goal.returns
returns c = outlines.outlines_sign
