-- What a seat may give after it took the turn.
use Rattle.std.proofs.Common.{◌≡◌, ℕ, suc, ◌+◌, ◌*◌, ◌≤◌, List, [], ◌++◌, length, Option, Some, None, append-nil, refl, sym, ap, ◌∙◌, subst, arith}
use Rattle.go_meaning.specs.Entries.{count_at}
use Rattle.go_state.specs.declared.limits.Limits.{Limits}
use Rattle.go_state.specs.Runs.{RunState}
use Rattle.cov_cells.specs.declared.view.Origin.{Origin}
use Rattle.cov_cells.specs.declared.view.View.{View}
use Rattle.cov_cells.specs.Rule.{Fits}
use Rattle.cov_cells.specs.Steps.{FitsIn, IsHanded, MayGive, counter_steps, after_take, after_split}

only : (p : Option ℕ) (n : ℕ) → counter_steps (count_at p n) ≡ count_at p n
only None n = refl
only (Some u) n = refl

-- the pending counter alone was recorded
pub may_give : (o : Origin) (v w : View) (taken given : RunState) (n : ℕ) (p : Option ℕ) → v.origin ≡ Some o → w ≡ after_take v taken → IsHanded v taken
    → given ≡ record taken { history = taken.history ++ count_at p n; spare = given.spare } → p ≡ v.pending → n ≡ v.number → 2 * taken.limits.steps + 256 ≤ length given.history + given.spare → MayGive w given
may_give o v w taken given n p origin took handed grown pending number room =
    let fits : Fits o taken = subst (λ (x : Option Origin). FitsIn x taken) origin handed.fits in
    record {
      origin = o;
      is = ap (λ (x : View). x.origin) took ∙ origin;
      program = ap (λ (x : RunState). x.program) grown ∙ fits.program;
      limits = ap (λ (x : RunState). x.limits) grown ∙ fits.limits;
      served = ap (λ (x : RunState). x.served) grown ∙ sym (ap (λ (x : View). x.served) took);
      room = subst (λ (l : Limits). 2 * l.steps + 256 ≤ length given.history + given.spare) fits.limits room;
      added = count_at p n;
      begins = ap (λ (x : RunState). x.history) grown ∙ ap (λ h. h ++ count_at p n) (sym (ap (λ (x : View). x.taken) took));
      records = only p n ∙ ap (λ d. count_at d n) (pending ∙ sym (ap (λ (x : View). x.pending) took)) ∙ ap (count_at w.pending) (number ∙ sym (ap (λ (x : View). x.number) took));
    }

-- one goroutine more is served
pub may_give_split : (o : Origin) (v w : View) (taken given : RunState) → v.origin ≡ Some o → w ≡ after_split (after_take v taken) → IsHanded v taken
    → given ≡ record taken { served = suc taken.served } → v.pending ≡ None → MayGive w given
may_give_split o v w taken given origin split handed serves none =
    let fits : Fits o taken = subst (λ (x : Option Origin). FitsIn x taken) origin handed.fits in
    record {
      origin = o;
      is = ap (λ (x : View). x.origin) split ∙ origin;
      program = ap (λ (x : RunState). x.program) serves ∙ fits.program;
      limits = ap (λ (x : RunState). x.limits) serves ∙ fits.limits;
      served = ap (λ (x : RunState). x.served) serves ∙ sym (ap (λ (x : View). x.served) split);
      room = subst (λ (x : RunState). 2 * o.limits.steps + 256 ≤ length x.history + x.spare) (sym serves) fits.room;
      added = [];
      begins = ap (λ (x : RunState). x.history) serves ∙ sym (ap (λ (x : View). x.taken) split) ∙ sym (append-nil w.taken);
      records = sym (ap (λ d. count_at d w.number) (ap (λ (x : View). x.pending) split ∙ none));
    }
