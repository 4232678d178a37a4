use Rattle.go_spans.proofs.Standing.{tokens_within}
use Rattle.go_spans.proofs.laws.tokens_stand_in_text.Goals as goal

pub returns : goal.returns
returns c = tokens_within
