use Rattle.std.proofs.Common.{◌≡◌, ◌-◌, length, take}
use Rattle.std.specs.Prelude.{sum_by}
use Rattle.cov_meta.proofs.blob.bytes_behind.Given as goal

abbrev pub invariant-loop-index : goal.invariant-loop-index
invariant-loop-index l = l.left ≡ l.bytes - sum_by length (take l.index l.texts)
