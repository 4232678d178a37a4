use Rattle.std.proofs.Common.{◌≡◌, ◌++◌, ◌<◌, ◌^◌, take, All}
use Rattle.std.specs.List.{flat_map}
use Rattle.cov_bytes.specs.Writing.{uleb_of}
use Rattle.cov_counter.proofs.write.push_counts.Given as goal

abbrev pub invariant-loop-count : goal.invariant-loop-count
invariant-loop-count l = record {
  bytes : l.bytes ≡ l.fn.bytes ++ flat_map uleb_of (take l.count-index l.counts);
  small : All (λ n. n < 2 ^ 32) (take l.count-index l.counts);
}
