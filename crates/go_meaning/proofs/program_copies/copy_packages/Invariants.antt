use Rattle.std.proofs.Common.{◌≡◌, take}
use Rattle.go_meaning.proofs.program_copies.copy_packages.Given as goal

abbrev pub invariant-loop-package : goal.invariant-loop-package
invariant-loop-package l = l.copies ≡ take l.package-index l.packages
