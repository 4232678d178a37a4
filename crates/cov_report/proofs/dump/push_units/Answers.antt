use Rattle.cov_report.specs.Dump.{unit_dump}
use Rattle.cov_report.proofs.NumberedLines.{none_left, numbered_ends}
use Rattle.cov_report.proofs.dump.push_units.Goals as goal

pub returns : goal.returns
returns c = numbered_ends unit_dump _ _ _ _ _ (none_left c.loop-i.i-iterator.iter.a c.loop-i.i-iterator.iter.b c.in-None.ensures.steps.0) c.loop-i.invariant
