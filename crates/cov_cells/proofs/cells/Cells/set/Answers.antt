use Rattle.std.proofs.Common.{rules, arith, ap, sym, ◌∙◌, subst, ◌<◌, ◌+◌}
use mathlib.Core.Option.{none}
use Rattle.atomic_table.specs.Table.{step}
use Rattle.cov_cells.specs.Rule.{origin_of}
use Rattle.cov_cells.proofs.Counting.{sets_at}
use Rattle.cov_cells.proofs.cells.Cells.set.Goals as goal

pub swap-requires : goal.swap-requires
swap-requires c = let seat = c.args.seat.now in let cells = c.args.self.now in let units = ap (λ k. (origin_of k).program.units) cells.same in (
  search rules,
  (let wide = cells.wide in let low = c.requires.due.1 in omega arith),
  sets_at (origin_of cells.table.shared.key) _ c.args.unit _ _ seat.inner.me (step cells.table.shared.table_id.slots (c.args.unit + 1) 1 0 none) (omega arith) seat.alive c.requires.due.0 c.requires.idle.0
      (subst (λ n. c.args.unit < n) units c.requires.due.1) (ap (λ k. k.mode) (sym cells.same) ∙ c.requires.mode),
)
