use Rattle.std.proofs.Common.{◌≡◌, ℕ, ◌<◌, ◌≤◌, length, slice_index}
use Rattle.cov_outside.specs.Mode.{combined}
use Rattle.cov_pods.proofs.counts.combined_counts.Given as goal

abbrev pub invariant-loop-i : goal.invariant-loop-i
invariant-loop-i l = record {
  same : length l.count-items ≡ length l.fn.counts;
  done : (k : ℕ) → k < l.i → slice_index l.count-items k ≡ combined l.mode (slice_index l.fn.counts k) (slice_index l.counters k);
  open_yet : (k : ℕ) → l.i ≤ k → slice_index l.count-items k ≡ slice_index l.fn.counts k;
}
