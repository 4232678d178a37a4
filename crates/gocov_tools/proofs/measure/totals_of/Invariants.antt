use Rattle.std.proofs.Common.{take}
use Rattle.gocov_tools.specs.Measure.{AreTotals}
use Rattle.gocov_tools.proofs.measure.totals_of.Given as goal

abbrev pub invariant-loop-package : goal.invariant-loop-package
invariant-loop-package l = AreTotals (take l.package-index l.packages) l.totals
