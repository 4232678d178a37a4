use Rattle.std.proofs.Common.{◌≡◌, ◌++◌, ◌≤◌, vec_len, vec_capacity}
use Rattle.go_meaning.proofs.stack.Stack.take_off.Given as goal

abbrev pub invariant-loop-k : goal.invariant-loop-k
invariant-loop-k g l = record {
  parts : l.taken.items ++ l.self ≡ l.fn.self;
  len : vec_len l.taken ≡ l._k;
  room : l.count ≤ vec_capacity l.taken;
}
