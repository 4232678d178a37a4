use Rattle.std.proofs.Common.{rules, ◌≡◌, ap, sym, ◌∙◌, true≢false, Some, ◌∷◌, []}
use mathlib.Core.Option.{none}
use Rattle.atomic_table.specs.Table.{rest, step}
use Rattle.cov_cells.specs.Rule.{origin_of}
use Rattle.cov_cells.proofs.Turning.{gives_at}
use Rattle.cov_cells.proofs.cells.Cells.give_turn.Goals as goal

pub swap-requires : goal.swap-requires
swap-requires c = let seat = c.args.seat.now in let put = c.exchange.ensures.3 in
    let me : c.exchange.new.seat.me ≡ (seat.inner.me.0, (0, Some c.args.run) ∷ []) = put ∙ ap (λ l. (seat.inner.me.0, (0, Some c.args.run) ∷ rest l)) (seat.holds c.requires.holds) in
    (search rules, search rules, gives_at c.standing.ensures.counters (origin_of c.args.self.now.table.shared.key) _ _ _ _ c.args.run (step c.args.self.now.table.shared.table_id.slots 0 0 0 none) me seat.alive c.requires.holds c.known.ensures.history c.requires.run)

pub invariant_of-seat : goal.invariant_of-seat
invariant_of-seat c = let seat = c.args.seat.now in let put = c.exchange.ensures.3 in
    let me : c.exchange.new.seat.me ≡ (seat.inner.me.0, (0, Some c.args.run) ∷ []) = put ∙ ap (λ l. (seat.inner.me.0, (0, Some c.args.run) ∷ rest l)) (seat.holds c.requires.holds) in
    let now = c.swap.ensures.2 c.args.run (ap (λ m. m.1) me) in
    record {
      number_is = c.args.seat.now.number_is ∙ sym (ap (λ m. m.0.number) now ∙ ap (λ m. m.0.number) me);
      pending_is = sym (ap (λ m. m.0.pending) now);
      alive = ap (λ m. m.0.spent) now ∙ ap (λ m. m.0.spent) me ∙ seat.alive;
      rests = λ _. ap (λ m. m.1) now;
      holds = λ e. absurd (true≢false (sym e ∙ ap (λ m. m.0.holding) now));
    }
