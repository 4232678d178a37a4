use Rattle.std.proofs.Common.{rules, ap, sym, ◌∙◌, Some, ◌∷◌}
use mathlib.Core.Option.{none}
use Rattle.atomic_table.specs.Table.{rest, step}
use Rattle.cov_cells.specs.Rule.{origin_of}
use Rattle.cov_cells.proofs.Turning.{takes_at}
use Rattle.cov_cells.proofs.cells.Cells.take_turn.Goals as goal

pub compare_exchange-requires : goal.compare_exchange-requires
compare_exchange-requires g c = let seat = c.args.seat.now in let same = c.loop.invariant.4 in
    (search rules, search rules, takes_at (origin_of c.args.self.now.table.shared.key) _ _ c.loop.inner.me (step c.args.self.now.table.shared.table_id.slots 0 0 1 none) (ap (λ m. m.1) same ∙ seat.rests c.requires.rests) (ap (λ m. m.0.spent) same ∙ seat.alive) (ap (λ m. m.0.holding) same ∙ c.requires.rests))

pub exchange-requires : goal.exchange-requires
exchange-requires g c = let t = c.compare_exchange.ensures.2.0 c.if-compare_exchange-eq0.true in
    (search rules, (Some t.0, ap (λ m. m.1) t.1 ∙ ap (λ l. (0, Some t.0) ∷ rest l) (sym (ap (λ m. m.1) t.1))))
