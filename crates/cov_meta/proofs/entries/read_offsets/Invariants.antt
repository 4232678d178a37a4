use Rattle.std.proofs.Common.{◌≡◌, ◌-◌}
use Rattle.cov_meta.specs.Entries.{offset_at}
use Rattle.cov_bytes.specs.Many.{many, with_front}
use Rattle.cov_meta.proofs.entries.read_offsets.Given as goal

abbrev pub invariant-loop : goal.invariant-loop
invariant-loop l = record {
  so_far : with_front l.places.items (many (offset_at l.width l.fn.cursor.bytes) (l.count - l.counter) l.cursor.at) ≡ many (offset_at l.width l.fn.cursor.bytes) l.count l.fn.cursor.at;
  same : l.cursor.bytes ≡ l.fn.cursor.bytes;
}
