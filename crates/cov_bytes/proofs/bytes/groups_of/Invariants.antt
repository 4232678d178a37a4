use Rattle.std.proofs.Common.{◌-◌, ◌≡◌, ◌≤◌, ◌++◌, ◌<◌, ◌^◌, length, take}
use Rattle.cov_bytes.specs.Writing.{uleb_of}
use Rattle.cov_bytes.specs.Writing as writing
use Rattle.cov_bytes.proofs.bytes.groups_of.Given as goal

abbrev pub invariant-loop-rest : goal.invariant-loop-rest
invariant-loop-rest l = record {
  size : length l.groups ≡ 5;
  within : l.len ≤ 4;
  bound : l.rest < 128 ^ (5 - l.len);
  so_far : take l.len l.groups ++ writing.groups_of (4 - l.len) l.rest ≡ uleb_of l.n;
}

abbrev pub decreases-loop-rest : goal.decreases-loop-rest
decreases-loop-rest l = l.rest
