use Rattle.gocov_tools.proofs.Pieces.{cut_off_at, on_err}
use Rattle.gocov_tools.proofs.line.write_pieces.Goals as goal

pub returns-in_err-write_whole-clause-err : goal.returns-in_err-write_whole-clause-err
returns-in_err-write_whole-clause-err g c =
    on_err _ (cut_off_at c.args.pieces.now c.loop-piece.piece-index _ _ _ _ c.loop-piece-test.true c.loop-piece.invariant.written c.in_err-write_whole.ensures.err)
