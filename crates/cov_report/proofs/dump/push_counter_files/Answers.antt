use Rattle.cov_report.specs.Dump.{counter_line}
use Rattle.cov_report.proofs.NumberedLines.{none_left, beside_ends}
use Rattle.cov_report.proofs.dump.push_counter_files.Goals as goal

pub returns : goal.returns
returns c = beside_ends counter_line _ _ _ _ (none_left c.loop-path.path-iterator.a c.loop-path.path-iterator.b c.in-None.ensures.steps) c.loop-path.invariant
