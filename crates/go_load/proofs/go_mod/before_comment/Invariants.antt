use Rattle.std.proofs.Common.{◌≡◌, ◌++◌, take, drop}
use Rattle.go_load.specs.GoMod as spec
use Rattle.go_load.proofs.go_mod.before_comment.Given as goal

abbrev pub invariant-loop-i : goal.invariant-loop-i
invariant-loop-i l = spec.before_comment l.line ≡ take l.i l.line ++ spec.before_comment (drop l.i l.line)
