use Rattle.std.proofs.Common.{arith, ◌∙◌, ap, sym, subst, refl}
use Rattle.std.specs.Mem.Slots.{slots_items}
use Rattle.cov_cells.specs.Rule.{origin_of}
use Rattle.cov_cells.proofs.Ending.{Ends, closes, closes_at}
use Rattle.cov_cells.proofs.cells.Cells.close.Goals as goal

pub unwrap-run-requires : goal.unwrap-run-requires
unwrap-run-requires c = let e = closes (origin_of c.args.self.table.shared.key) _ _ _ _ _ c.close_with-closed.ensures.values.2 c.args.seat.alive c.requires.last c.take.ensures.value in
    rw e.1 refl

pub invariant_of-result : goal.invariant_of-result
invariant_of-result c = let e = subst (λ k. Ends (origin_of k) c.args.seat.inner.me.0 (slots_items c.close_with-closed.result.words) c.unwrap-run.result) (sym c.args.self.same)
    (closes_at (origin_of c.args.self.table.shared.key) _ _ _ _ _ c.unwrap-run.result c.close_with-closed.ensures.values.2 c.args.seat.alive c.requires.last c.take.ensures.value c.unwrap-run.ensures) in
    let wide = c.args.self.wide in let count = c.word_count-count.ensures in
    record {
      program = e.fits.program;
      limits = e.fits.limits;
      begins = e.grown;
      counted = λ u low. c.narrowed-words.ensures.words u (omega arith) ∙ e.words u low;
    }

pub returns-clause-given : goal.returns-clause-given
returns-clause-given c = (closes_at (origin_of c.args.self.table.shared.key) _ _ _ _ _ c.unwrap-run.result c.close_with-closed.ensures.values.2 c.args.seat.alive c.requires.last c.take.ensures.value c.unwrap-run.ensures).given

pub returns-clause-served : goal.returns-clause-served
returns-clause-served c = (closes_at (origin_of c.args.self.table.shared.key) _ _ _ _ _ c.unwrap-run.result c.close_with-closed.ensures.values.2 c.args.seat.alive c.requires.last c.take.ensures.value c.unwrap-run.ensures).served

pub returns-clause-len : goal.returns-clause-len
returns-clause-len c = let e = subst (λ k. Ends (origin_of k) c.args.seat.inner.me.0 (slots_items c.close_with-closed.result.words) c.unwrap-run.result) (sym c.args.self.same)
    (closes_at (origin_of c.args.self.table.shared.key) _ _ _ _ _ c.unwrap-run.result c.close_with-closed.ensures.values.2 c.args.seat.alive c.requires.last c.take.ensures.value c.unwrap-run.ensures) in
    let wide = c.args.self.wide in let count = c.word_count-count.ensures in let len = c.narrowed-words.ensures.len (omega arith) in let units = ap (λ p. p.units) e.fits.program in omega arith
