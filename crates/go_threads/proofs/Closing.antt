-- What is left of the cells.
use Rattle.std.proofs.Common.{◌≡◌, ℕ, zero, suc, ◌+◌, ◌<◌, ◌≤◌, List, [], ◌∷◌, length, ⊎_elim, Option, Some, None, refl, sym, ap, ◌∙◌, subst, arith}
use Rattle.std.specs.Prelude.{slice_get, slice_index, replicate, drop, vec_len}
use Rattle.std.proofs.lemmas.Option.{slice_get_cases}
use Rattle.cov_outside.specs.declared.mode.Mode.{Mode}
use Rattle.go_meaning.specs.declared.event.End.{End}
use Rattle.go_meaning.specs.declared.event.Event.{Event}
use Rattle.go_meaning.specs.declared.config.Config.{Config}
use Rattle.go_meaning.specs.Programs.{Parts}
use Rattle.go_meaning.specs.Units.{counted}
use Rattle.go_meaning.specs.Erasing.{erase_events}
use Rattle.go_meaning.specs.Entries.{unit_entries, unit_counts}
use Rattle.go_meaning.specs.Steps.{due, numbered}
use Rattle.go_meaning.specs.Histories.{replay, start, EndAfter, EndsAtRest, IsAtRest, IsHistory}
use Rattle.go_meaning.specs.Laws.{ShapesRunAlike}
use Rattle.go_state.specs.declared.limits.Limits.{Limits}
use Rattle.go_state.specs.Runs.{RunState, goroutines_after}
use Rattle.cov_erase.specs.Laws.{ErasureHolds}
use Rattle.cov_cells.specs.declared.closed.Closed.{Closed}
use Rattle.cov_cells.specs.declared.cells.Seat.{Seat}
use Rattle.cov_cells.specs.declared.cells.Cells.{Cells}
use Rattle.cov_cells.specs.declared.start.Start.{Start}
use Rattle.cov_cells.specs.declared.view.Origin.{Origin}
use Rattle.cov_cells.specs.Rule.{Begins, due_after, origin_of, gained, started, word_after}
use Rattle.cov_cells.specs.Seats.{view, origin}
use Rattle.go_threads.specs.Outcomes.{IsOutcome, fresh}
use Rattle.go_threads.specs.Runnable.{IsCovered}
use Rattle.go_threads.specs.Seats.{AllRest, EndedBy, IsAlone}
use Rattle.go_threads.specs.Turns.{HasEnd}
use Rattle.go_threads.proofs.Standing.{after, at, due_numbered, many}
use Rattle.go_threads.proofs.Resting.{replays}

pub has_end : (P : Parts) (limit : ℕ) (h : List Event) (o : Option End) → EndAfter P limit h o → (EndAfter P limit h None → ⊥) → HasEnd P limit h
has_end P limit h None e never = absurd (never e)
has_end P limit h (Some x) e never = (x, e)

at_rest : (P : Parts) (h : List Event) (c : Config) (n g : ℕ) → replay P h ≡ Some c → goroutines_after P h ≡ n → ((k : ℕ) → 0 < k → k ≤ n → due_after P h k ≡ None) → due P (numbered c g) ≡ None
at_rest P h c n zero r all rest = refl
at_rest P h c n (suc i) r all rest =
    ⊎_elim (λ x. sym (due_numbered P h c (suc i) r) ∙ rest (suc i) (omega arith) (let a = many P h c r in let b = x.1 in omega (arith, a, all, b))) (λ y. ap (due P) y.1) (slice_get_cases c.goroutines i).1

pub comes_to_rest : (P : Parts) (limit : ℕ) (h : List Event) (n : ℕ) → IsHistory P limit h → goroutines_after P h ≡ n → ((k : ℕ) → 0 < k → k ≤ n → due_after P h k ≡ None) → EndsAtRest P h
comes_to_rest P limit h n is all rest = let r = replays P limit 0 (start P) h is in after (IsAtRest P) (replay P h) r.0 r.1 (λ g. at_rest P h r.0 n g r.1 all rest)

zeros : (n u : ℕ) → slice_index (replicate n 0) u ≡ 0
zeros zero u = refl
zeros (suc n) zero = refl
zeros (suc n) (suc u) = zeros n u

-- the words of a run that began with nothing
words : (P Q : Parts) (limits : Limits) (m : Mode) (c : Closed) (u : ℕ) → origin_of c.start ≡ fresh Q limits m → ShapesRunAlike → ErasureHolds → IsCovered P Q → IsHistory Q limits.steps c.run.history → EndsAtRest Q c.run.history → u < Q.units
    → slice_index c.words.items u ≡ word_after m 0 (unit_entries P (erase_events c.run.history) u)
words P Q limits m c u is shapes erasure covered history rest low =
    let a = shapes Q (counted P) covered.shape in
    let h = (a.histories limits.steps c.run.history).0 history in
    let r = replays Q limits.steps 0 (start Q) c.run.history history in
    let rest' : EndsAtRest (counted P) c.run.history = after (IsAtRest (counted P)) (replay (counted P) c.run.history) r.0 (sym (a.replays c.run.history) ∙ r.1) (λ g. sym (a.dues (numbered r.0 g)) ∙ at (IsAtRest Q) (replay Q c.run.history) r.0 r.1 rest g) in
    let e = (erasure P limits.steps c.run.history covered.plain h).units_at_rest rest' u in
    let F : Origin → Type 0 = λ o. u < o.program.units → slice_index c.words.items u ≡ word_after o.mode (slice_index o.words u) (unit_counts (gained o c.run) u) in
    let w = subst F is (c.counted u) low in
    w ∙ ap (λ n. word_after m n (unit_counts c.run.history u)) (zeros Q.units u) ∙ ap (word_after m 0) (sym e)

pub outcome : (Q : Parts) (limits : Limits) (m : Mode) (cells : Cells) (s : Seat) (c : Closed) (ws : List ℕ) (run : RunState) (o : Option End) → ShapesRunAlike → ErasureHolds → origin cells ≡ started m ws run → ws ≡ replicate Q.units 0 → run.history ≡ [] → run.program ≡ Q → run.limits ≡ limits
    → IsAlone cells s → EndedBy cells s → c.start ≡ cells.start → Begins (view s).given c.run.history → IsHistory c.run.program c.run.limits.steps c.run.history → vec_len c.words ≡ c.run.program.units → EndAfter c.run.program c.run.limits.steps c.run.history o → IsOutcome Q limits m c
outcome Q limits m cells s c ws run o shapes erasure begun zeroed none program limit alone ended same given covered len end =
    let is : origin cells ≡ fresh Q limits m = begun ∙ (λ i. record { mode = m; words = zeroed i; history = none i; program = program i; limits = limit i }) in
    let kept : origin_of c.start ≡ fresh Q limits m = ap origin_of same ∙ is in
    let P : c.run.program ≡ Q = c.program ∙ ap (λ (x : Origin). x.program) kept in
    let L : c.run.limits ≡ limits = c.limits ∙ ap (λ (x : Origin). x.limits) kept in
    let history : IsHistory Q limits.steps c.run.history = subst (λ (l : Limits). IsHistory Q l.steps c.run.history) L (subst (λ R. IsHistory R c.run.limits.steps c.run.history) P covered) in
    let mine : IsHistory (origin cells).program (origin cells).limits.steps c.run.history = subst (λ (x : Origin). IsHistory x.program x.limits.steps c.run.history) (sym is) history in
    let over = ended c.run.history given mine in
    let all : goroutines_after Q c.run.history ≡ (view s).made = ap (λ (x : Origin). goroutines_after x.program c.run.history) (sym is) ∙ over.0 in
    let never : EndAfter Q limits.steps c.run.history None → ⊥ = subst (λ (x : Origin). EndAfter x.program x.limits.steps c.run.history None → ⊥) is over.1 in
    let last : EndAfter Q limits.steps c.run.history o = subst (λ (l : Limits). EndAfter Q l.steps c.run.history o) L (subst (λ R. EndAfter R c.run.limits.steps c.run.history o) P end) in
    let rest : EndsAtRest Q c.run.history = comes_to_rest Q limits.steps c.run.history (view s).made history all (λ k low high. ap (λ (x : Origin). due_after x.program c.run.history k) (sym is) ∙ alone.rest k low high c.run.history given mine) in
    record {
      origin = kept;
      history = history;
      end = has_end Q limits.steps c.run.history o last never;
      rest = rest;
      len = len ∙ ap (λ (R : Parts). R.units) P;
      words = λ R covers u low. words R Q limits m c u kept shapes erasure covers history rest low;
    }
