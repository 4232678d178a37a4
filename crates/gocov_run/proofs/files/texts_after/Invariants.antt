use Rattle.std.proofs.Common.{◌≡◌, drop, take}
use Rattle.gocov_run.specs.Faults as spec
use Rattle.gocov_run.proofs.files.texts_after.Given as goal

abbrev pub invariant-loop-package : goal.invariant-loop-package
invariant-loop-package l = l.left ≡ drop (spec.files_in (take l.package-index l.packages)) l.texts
