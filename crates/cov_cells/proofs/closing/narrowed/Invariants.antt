use Rattle.std.proofs.Common.{◌≡◌, ℕ, suc, ◌<◌, ◌≤◌, ◌%◌, ◌^◌, slice_index, vec_len, vec_capacity}
use Rattle.std.specs.Mem.Slots.{slots_items}
use Rattle.cov_cells.proofs.closing.narrowed.Given as goal

abbrev pub invariant-loop-i : goal.invariant-loop-i
invariant-loop-i l = record {
  length : 1 ≤ l.count → suc (vec_len l.words) ≡ l.i;
  room : vec_capacity l.words ≡ vec_capacity l.initial.words;
  same : (u : ℕ) → suc u < l.i → slice_index l.words.items u ≡ slice_index (slots_items l.closed.words) (suc u) % 2 ^ 32;
}
