use Rattle.std.proofs.Common.{◌≡◌, ◌-◌}
use Rattle.cov_counter.specs.Each.{each}
use Rattle.cov_counter.specs.Parts.{behind_pair}
use Rattle.cov_counter.proofs.parts.skip_pairs.Given as goal

abbrev pub invariant-loop : goal.invariant-loop
invariant-loop l = record {
  so_far : each (behind_pair l.strings l.fn.args.file) (l.count - l.counter) l.args.at ≡ each (behind_pair l.strings l.fn.args.file) l.count l.fn.args.at;
  same : l.args.file ≡ l.fn.args.file;
}
