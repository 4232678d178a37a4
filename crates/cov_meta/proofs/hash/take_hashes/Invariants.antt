use Rattle.std.proofs.Common.{take}
use Rattle.std.specs.Prelude.{flat_map}
use Rattle.cov_meta.specs.Hash.{Takes}
use Rattle.cov_meta.proofs.hash.take_hashes.Given as goal

abbrev pub invariant-loop-hash : goal.invariant-loop-hash
invariant-loop-hash l = Takes l.fn.hasher l.hasher (flat_map (λ hash. hash) (take l.hash-index l.hashes))
