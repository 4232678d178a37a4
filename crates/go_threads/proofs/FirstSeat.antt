-- The turns of seat 0.
use Rattle.std.proofs.Common.{◌≡◌, ℕ, suc, ◌+◌, ◌*◌, ◌≤◌, Bool, List, [], ◌++◌, length, Option, Some, None, append-nil, refl, sym, ap, ◌∙◌, subst, arith, option_and_then}
use Rattle.go_meaning.specs.declared.event.Event.{Event}
use Rattle.go_meaning.specs.declared.config.Config.{Config}
use Rattle.go_meaning.specs.Programs.{Parts}
use Rattle.go_meaning.specs.Steps.{due, numbered}
use Rattle.go_meaning.specs.Entries.{count_at}
use Rattle.go_meaning.specs.Histories.{IsHistory, replay}
use Rattle.go_state.specs.declared.limits.Limits.{Limits}
use Rattle.go_state.specs.Laws.{OneEnd}
use Rattle.go_state.specs.Runs.{RunState, goroutines_after}
use Rattle.cov_cells.specs.declared.cells.Seat.{Seat}
use Rattle.cov_cells.specs.declared.cells.Cells.{Cells}
use Rattle.cov_cells.specs.declared.view.Origin.{Origin}
use Rattle.cov_cells.specs.declared.view.View.{View}
use Rattle.cov_cells.specs.Rule.{Begins, Fits, due_after}
use Rattle.cov_cells.specs.Steps.{FitsIn, IsHanded, MayGive, after_take, after_split}
use Rattle.cov_cells.specs.Seats.{view, origin}
use Rattle.go_threads.specs.Seats.{EndedBy, IsFinished}
use Rattle.go_threads.specs.Turns.{HasEnd}
use Rattle.std.specs.Option.{is_some, option_copied}
use Rattle.go_meaning.specs.declared.event.End.{End}
use Rattle.go_meaning.specs.Histories.{EndAfter}
use Rattle.std.proofs.Common.{Bor, true}
use Rattle.go_threads.proofs.Gathering.{begins_on}
use Rattle.go_threads.proofs.Resting.{ended_after}

nobody_in : (P : Parts) (o : Option Config) → option_and_then (λ (c : Config). due P (numbered c 0)) o ≡ None
nobody_in P None = refl
nobody_in P (Some c) = refl

-- there is no goroutine 0
pub nobody : (P : Parts) (h : List Event) (g : ℕ) → g ≡ 0 → None ≡ due_after P h g
unfolding due_after
nobody P h g z = sym (ap (due_after P h) z ∙ nobody_in P (replay P h))

-- one goroutine more is served
pub may_split : (o : Origin) (v w : View) (taken given : RunState) → v.origin ≡ Some o → w ≡ after_split (after_take v taken) → IsHanded v taken
    → given ≡ record taken { served = suc taken.served } → v.pending ≡ None → MayGive w given
may_split o v w taken given origin split handed serves none =
    let fits : Fits o taken = subst (λ (x : Option Origin). FitsIn x taken) origin handed.fits in
    record {
      origin = o;
      is = ap (λ (x : View). x.origin) split ∙ origin;
      program = ap (λ (x : RunState). x.program) serves ∙ fits.program;
      limits = ap (λ (x : RunState). x.limits) serves ∙ fits.limits;
      served = ap (λ (x : RunState). x.served) serves ∙ sym (ap (λ (x : View). x.served) split);
      room = subst (λ (x : RunState). 2 * o.limits.steps + 256 ≤ length x.history + x.spare) (sym serves) fits.room;
      added = [];
      begins = ap (λ (x : RunState). x.history) serves ∙ sym (ap (λ (x : View). x.taken) split) ∙ sym (append-nil w.taken);
      records = sym (ap (λ d. count_at d w.number) (ap (λ (x : View). x.pending) split ∙ none));
    }

-- the run is as it was taken, but for the mark
pub may_return : (o : Origin) (v w : View) (taken given : RunState) (b : Bool) → v.origin ≡ Some o → w ≡ after_take v taken → IsHanded v taken
    → given ≡ record taken { refused = b } → v.pending ≡ None → MayGive w given
may_return o v w taken given b origin took handed same none =
    let fits : Fits o taken = subst (λ (x : Option Origin). FitsIn x taken) origin handed.fits in
    record {
      origin = o;
      is = ap (λ (x : View). x.origin) took ∙ origin;
      program = ap (λ (x : RunState). x.program) same ∙ fits.program;
      limits = ap (λ (x : RunState). x.limits) same ∙ fits.limits;
      served = ap (λ (x : RunState). x.served) same ∙ sym (ap (λ (x : View). x.served) took);
      room = subst (λ (x : RunState). 2 * o.limits.steps + 256 ≤ length x.history + x.spare) (sym same) fits.room;
      added = [];
      begins = ap (λ (x : RunState). x.history) same ∙ sym (ap (λ (x : View). x.taken) took) ∙ sym (append-nil w.taken);
      records = sym (ap (λ d. count_at d w.number) (ap (λ (x : View). x.pending) took ∙ none));
    }

-- the run that was given has an end, and all its goroutines are served
pub finished : (c : Cells) (s : Seat) (v : View) (x : RunState) → v.origin ≡ Some (origin c) → IsHanded v x → v.number ≡ 0 → (view s).given ≡ x.history → (view s).made ≡ v.made → IsHistory x.program x.limits.steps x.history
    → HasEnd x.program x.limits.steps x.history → x.served ≡ goroutines_after x.program x.history → IsFinished c s
finished c s v x o handed zero given made history end all =
    let fits : Fits (origin c) x = subst (λ (q : Option Origin). FitsIn q x) o handed.fits in
    let h = subst (λ (l : Limits). IsHistory (origin c).program l.steps x.history) fits.limits (subst (λ P. IsHistory P x.limits.steps x.history) fits.program history) in
    let e = subst (λ (l : Limits). HasEnd (origin c).program l.steps x.history) fits.limits (subst (λ P. HasEnd P x.limits.steps x.history) fits.program end) in
    record {
      history = subst (IsHistory (origin c).program (origin c).limits.steps) (sym given) h;
      end = subst (HasEnd (origin c).program (origin c).limits.steps) (sym given) e;
      all = ap (goroutines_after (origin c).program) given ∙ ap (λ P. goroutines_after P x.history) (sym fits.program) ∙ sym all ∙ sym (handed.made zero) ∙ sym made;
    }

-- that stays so, whatever follows
pub ended_by : (c : Cells) (s t : Seat) → OneEnd → IsFinished c s → Begins (view s).given (view t).given → (view t).made ≡ (view s).made → EndedBy c t
ended_by c s t one f b made h' b' ok =
    let a = ended_after (origin c).program (origin c).limits.steps (view s).given h' one f.history f.end (begins_on (view s).given (view t).given h' b b') ok in
    (a.0 ∙ f.all ∙ sym made, a.1)

-- an end that is there
pub end_of : (P : Parts) (limit : ℕ) (h : List Event) (r : Option (Bor End)) → EndAfter P limit h (option_copied r) → is_some r ≡ true → HasEnd P limit h
end_of P limit h None e s = cc
end_of P limit h (Some x) e s = (x.now, e)
