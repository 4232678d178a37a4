use Rattle.std.proofs.Common.{◌≡◌, ◌≤◌, length}
use Rattle.go_load.specs.Paths as spec
use Rattle.go_load.proofs.paths.are_elements.Given as goal

abbrev pub invariant-loop-end : goal.invariant-loop-end
invariant-loop-end l = record {
  within : length l.rest ≤ length l.fn.rest;
  same : spec.are_elements l.fn.rest ≡ spec.are_elements l.rest;
}

abbrev pub decreases-loop-end : goal.decreases-loop-end
decreases-loop-end l = length l.rest
