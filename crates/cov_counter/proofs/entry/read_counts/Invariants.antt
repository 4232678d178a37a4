use Rattle.std.proofs.Common.{◌≡◌, ◌-◌}
use Rattle.cov_bytes.specs.Many.{many, with_front}
use Rattle.cov_counter.specs.Entry.{number_at}
use Rattle.cov_counter.proofs.entry.read_counts.Given as goal

abbrev pub invariant-loop : goal.invariant-loop
invariant-loop l = record {
  so_far : with_front l.counts.items (many (number_at l.head l.fn.source.file) (l.length - l.counter) l.source.at) ≡ many (number_at l.head l.fn.source.file) l.length l.fn.source.at;
  same : l.source.file ≡ l.fn.source.file;
}
