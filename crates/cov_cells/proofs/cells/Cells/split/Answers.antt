use Rattle.std.proofs.Common.{rules, arith}
use Rattle.cov_cells.specs.Rule.{origin_of}
use Rattle.cov_cells.proofs.Seating.{splits}
use Rattle.cov_cells.proofs.cells.Cells.split.Goals as goal

pub split_seat-requires : goal.split_seat-requires
split_seat-requires c = let seat = c.args.seat.now in let cells = c.args.self.now in
    (search rules, (let wide = cells.wide in omega arith), splits (origin_of cells.table.shared.key) _ seat.inner.me.0 seat.alive c.requires.first c.requires.holds)
