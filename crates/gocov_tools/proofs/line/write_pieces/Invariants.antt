use Rattle.std.proofs.Common.{◌≡◌, take}
use Rattle.std.specs.Io.KnownBytes.{append_known}
use Rattle.gocov_tools.proofs.Pieces.{text_of}
use Rattle.gocov_tools.proofs.line.write_pieces.Given as goal

abbrev pub invariant-loop-piece : goal.invariant-loop-piece
invariant-loop-piece g l = record {
  written : g.E.Sink.contents l.err ≡ append_known (g.E.Sink.contents l.fn.err) (text_of (take l.piece-index l.pieces));
  faults : g.E.Sink.faults l.err ≡ g.E.Sink.faults l.fn.err;
}
