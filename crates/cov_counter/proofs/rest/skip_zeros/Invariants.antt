use Rattle.std.proofs.Common.{◌≡◌, ◌-◌}
use Rattle.cov_counter.specs.Each.{each}
use Rattle.cov_counter.specs.Rest.{behind_zero}
use Rattle.cov_counter.proofs.rest.skip_zeros.Given as goal

abbrev pub invariant-loop : goal.invariant-loop
invariant-loop l = record {
  so_far : each (behind_zero l.fn.source.file) (l.length - l.counter) l.source.at ≡ each (behind_zero l.fn.source.file) l.length l.fn.source.at;
  same : l.source.file ≡ l.fn.source.file;
}
