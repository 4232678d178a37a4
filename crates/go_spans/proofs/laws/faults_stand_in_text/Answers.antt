use Rattle.go_spans.proofs.Faults.{has_within}
use Rattle.go_spans.proofs.laws.faults_stand_in_text.Goals as goal

pub returns : goal.returns
returns c = has_within
