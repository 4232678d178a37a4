use Rattle.std.proofs.Common.{◌≡◌, ◌+◌, ◌++◌, take}
use Rattle.std.specs.Prelude.{flat_map, sum}
use Rattle.byteorder.specs.Endian.{little_bytes}
use Rattle.cov_meta.specs.Written.{offsets_from}
use Rattle.cov_meta.proofs.offsets.push_short_offsets.Given as goal

abbrev pub invariant-loop-length : goal.invariant-loop-length
invariant-loop-length l = record {
  place : l.at ≡ l.start + sum (take l.length-index l.lengths);
  so_far : l.bytes ≡ l.fn.bytes ++ flat_map (little_bytes 4) (offsets_from l.start (take l.length-index l.lengths));
}
