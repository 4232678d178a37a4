-- Targets that are left, from the last on.
use Rattle.std.proofs.Common.{◌≡◌, ℕ, suc, ◌+◌, ◌-◌, ◌<◌, ◌≤◌, List, ◌∷◌, length, drop, Some, slice_get, ap, ◌∙◌, arith}
use Rattle.std.proofs.lemmas.Option.{slice_get_within, get_or_from_slice_get}
use Rattle.std.proofs.Math.Seq.{drop-cons}
use Rattle.go_meaning.specs.declared.expr.Target.{Target}

pub target_next : (ts : List Target) (k : ℕ) (t : Target) → 1 ≤ k → k < length ts → slice_get ts (length ts - k) ≡ Some t → drop (length ts + 1 - (k + 1)) ts ≡ t ∷ drop (length ts + 1 - k) ts
target_next ts k t low high h =
    let at : length ts + 1 - (k + 1) ≡ length ts - k = omega arith in
    let after : length ts + 1 - k ≡ suc (length ts - k) = omega arith in
    rw (at, after) (drop-cons ts (length ts - k) t (slice_get_within ts (length ts - k) t h) ∙ ap (λ d. d ∷ drop (suc (length ts - k)) ts) (get_or_from_slice_get ts (length ts - k) t t h))
