use Rattle.std.proofs.Common.{◌≡◌, drop}
use Rattle.cov_meta.specs.File.{package_at, whole_allowance}
use Rattle.cov_bytes.specs.Many.{with_front}
use Rattle.cov_meta.specs.Each.{each}
use Rattle.cov_meta.proofs.read.read_packages.Given as goal

abbrev pub invariant-loop-entry : goal.invariant-loop-entry
invariant-loop-entry l = with_front l.packages (each (package_at l.bytes) (drop l.entry-index l.entries) l.left) ≡ each (package_at l.bytes) l.entries whole_allowance
