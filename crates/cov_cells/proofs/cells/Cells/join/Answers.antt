use Rattle.std.proofs.Common.{rules, arith, ap, ◌∙◌}
use mathlib.Core.Option.{none}
use Rattle.atomic_table.specs.Table.{step}
use Rattle.cov_cells.specs.Rule.{origin_of}
use Rattle.cov_cells.proofs.Seating.{joins, looks}
use Rattle.cov_cells.proofs.cells.Cells.join.Goals as goal

pub join_seat-requires : goal.join_seat-requires
join_seat-requires c = let seat = c.args.seat.now in let cells = c.args.self.now in let other = c.args.other in (
  search rules,
  search rules,
  other.rests c.requires.rests.1,
  (let wide = cells.wide in omega arith),
  joins (origin_of cells.table.shared.key) _ seat.inner.me.0 _ other.inner.me.0 seat.alive other.alive c.requires.rests.1 c.requires.done.0 c.requires.done.1,
)

pub load-requires : goal.load-requires
load-requires c = let seat = c.args.seat.now in let cells = c.args.self.now in let now = c.join_seat.ensures.2 in
    (search rules, (let wide = cells.wide in omega arith), looks (origin_of cells.table.shared.key) _ _ 0 c.join_seat.new.seat.me (step cells.table.shared.table_id.slots 0 0 0 none) (ap (λ m. m.0.spent) now ∙ seat.alive))
