use Rattle.std.proofs.Common.{◌≡◌, drop}
use Rattle.cov_meta.specs.Entries.{length_at}
use Rattle.cov_bytes.specs.Many.{with_front}
use Rattle.cov_meta.specs.Each.{each}
use Rattle.cov_meta.proofs.entries.read_lengths.Given as goal

abbrev pub invariant-loop-place : goal.invariant-loop-place
invariant-loop-place l = record {
  so_far : with_front l.entries.items (each (length_at l.fn.cursor.bytes) (drop l.place-index l.places) l.cursor.at) ≡ each (length_at l.fn.cursor.bytes) l.places l.fn.cursor.at;
  same : l.cursor.bytes ≡ l.fn.cursor.bytes;
}
