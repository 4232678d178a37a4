use Rattle.std.proofs.Common.{◌≡◌, take, map}
use Rattle.cov_meta.specs.Hash.{blob_hash}
use Rattle.cov_meta.proofs.hash.hash_blobs.Given as goal

abbrev pub invariant-loop-package : goal.invariant-loop-package
invariant-loop-package l = l.hashes.items ≡ map blob_hash (take l.package-index l.packages)
