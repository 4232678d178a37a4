use Rattle.std.proofs.Common.{◌≡◌, ℕ, ◌≤◌, ◌++◌, map, take, drop, length, slice_get, Some}
use Rattle.go_step.proofs.calls.fill.Given as goal

abbrev pub invariant-loop-at : goal.invariant-loop-at
invariant-loop-at l = record {
  slots : l.slots ≡ map Some (take l.at l.fn.args) ++ drop l.at l.fn.slots;
  left : (k : ℕ) → l.at ≤ k → slice_get l.left k ≡ slice_get l.fn.args k;
  same : length l.left ≡ length l.fn.args;
  length : length l.slots ≡ length l.fn.slots;
}
