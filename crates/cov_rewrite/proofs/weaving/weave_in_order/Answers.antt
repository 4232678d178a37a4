use Rattle.std.proofs.Common.{◌≡◌, get_or, arith}
use Rattle.cov_rewrite.specs.declared.piece.Piece.{Piece}
use Rattle.cov_rewrite.specs.declared.piece.Addition.TheVariants as addition
use Rattle.cov_rewrite.proofs.Rows.{itself}
use Rattle.cov_rewrite.proofs.Woven.{weave_step, order_step, weave_end}
use Rattle.cov_rewrite.proofs.weaving.weave_in_order.Goals as goal

pub loop-piece-preserved : goal.loop-piece-preserved
loop-piece-preserved c =
    let none : Piece = record { at = 0; addition = addition.Import } in
    let i = c.loop-piece.piece-index in
    let p : Piece = get_or c.args.pieces.now i none in
    let same : p ≡ get_or c.args.pieces.now i p = itself c.args.pieces.now i none c.loop-piece-test.true in
    record {
      within = c.requires.within i none c.loop-piece-test.true;
      order = (order_step c.args.var.now c.args.mode c.args.pieces.now i p c.loop-piece.at c.loop-piece-test.true same c.loop-piece.invariant.order).1;
      left = weave_step c.args.var.now c.args.mode c.args.pieces.now i p c.loop-piece.at c.args.text.now _ _ _ _ c.loop-piece-test.true same c.loop-piece.invariant.within (c.requires.within i none c.loop-piece-test.true) c.loop-piece.invariant.order c.loop-piece.invariant.left c.in_ok-extend_from_slice.ensures.items c.in_ok-push_addition.ensures;
    }

pub returns : goal.returns
returns c =
    weave_end c.args.var.now c.args.mode c.args.pieces.now c.loop-piece.piece-index c.loop-piece.at c.args.text.now _ _ _ (omega arith) c.loop-piece.invariant.within c.loop-piece.invariant.left c.in_ok-extend_from_slice-2.ensures.items
