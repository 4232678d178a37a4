use Rattle.std.proofs.Common.{◌-◌, length}
use Rattle.cov_cut.specs.Owners.{AllBegun}
use Rattle.cov_cut.proofs.owners.begun.Given as goal

abbrev pub invariant-loop-begun : goal.invariant-loop-begun
invariant-loop-begun l = AllBegun l.functions l.begun l.list

abbrev pub decreases-loop-begun : goal.decreases-loop-begun
decreases-loop-begun l = length l.functions - l.begun
