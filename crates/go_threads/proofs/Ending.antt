-- A seat whose turn found nothing more to do.
use Rattle.std.proofs.Common.{◌≡◌, ℕ, ◌+◌, ◌++◌, [], append-nil, List, Option, Some, None, append_assoc, refl, sym, ap, ◌∙◌, subst}
use Rattle.go_meaning.specs.declared.event.Event.{Event}
use Rattle.go_meaning.specs.Programs.{Parts}
use Rattle.go_meaning.specs.Entries.{count_at}
use Rattle.go_meaning.specs.Histories.{IsHistory}
use Rattle.go_meaning.specs.Laws.{StaysOver}
use Rattle.go_state.specs.Laws.{OneEnd, HistoriesBegin}
use Rattle.cov_cells.specs.declared.view.View.{View}
use Rattle.cov_cells.specs.declared.cells.Seat.{Seat}
use Rattle.cov_cells.specs.declared.cells.Cells.{Cells}
use Rattle.cov_cells.specs.Rule.{due_after, Begins}
use Rattle.cov_cells.specs.Seats.{view, origin}
use Rattle.go_threads.specs.declared.turning.Turned.TheVariants.{Ended}
use Rattle.go_threads.specs.Turns.{Finds, IsTurn, RestsFrom}
use Rattle.go_threads.specs.Seats.{IsBetween, IsDone}
use Rattle.go_threads.proofs.Resting.{rests, rests_later}

pub done : (c : Cells) (P : Parts) (limit : ℕ) (v : View) (t : Seat) → P ≡ (origin c).program → limit ≡ (origin c).limits.steps → StaysOver → OneEnd → HistoriesBegin → IsBetween c t → IsTurn P limit v (view t) → Finds P limit (view t).taken v.number Ended → IsDone c t
done c P limit v t program limits law one begin between turn found =
    let w = view t in
    let more = count_at v.pending v.number ++ turn.steps in
    let b : Begins w.taken w.given = (more, turn.given ∙ append_assoc w.taken (count_at v.pending v.number) turn.steps) in
    let first : IsHistory P limit w.taken = begin P limit w.taken more (subst (IsHistory P limit) b.1 turn.history) in
    let r : RestsFrom P limit w.given v.number = rests_later P limit w.taken w.given v.number b (rests P limit w.taken v.number law one first found) in
    let none : w.due ≡ None = turn.due ∙ r w.given ([], sym (append-nil w.given)) turn.history in
    let number : w.number ≡ v.number = ap (λ (s : View). s.number) turn.rest in
    record {
      between = between;
      due = none;
      pending = ap (λ (s : View). s.pending) turn.rest ∙ none;
      rests = subst (λ Q. RestsFrom Q (origin c).limits.steps w.given w.number) program (subst (λ l. RestsFrom P l w.given w.number) limits (subst (λ n. RestsFrom P limit w.given n) (sym number) r));
    }
