use Rattle.std.proofs.Common.{◌≡◌, ◌++◌, replicate, []}
use Rattle.go_bodies.proofs.lists.new_lists.Given as goal

abbrev pub invariant-loop-more : goal.invariant-loop-more
invariant-loop-more l = l.walk ≡ record l.fn.walk { lists = l.fn.walk.lists ++ replicate l._more [] }
