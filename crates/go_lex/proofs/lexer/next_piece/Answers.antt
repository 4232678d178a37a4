use Rattle.std.proofs.Common.{subst}
use Rattle.go_lex.specs.Pieces.{IsPieceAt}
use Rattle.go_lex.proofs.Whole.{good_piece, has_form_at, broken_piece, broken_stop}
use Rattle.go_lex.proofs.lexer.next_piece.Goals as goal

pub returns-in_default : goal.returns-in_default
returns-in_default c = broken_stop c.args.text.now c.stop_at.result c.requires (subst (IsPieceAt c.args.text.now) c.in_default.is c.piece_at.ensures.piece) c.stop_at.ensures

pub fault_in-requires : goal.fault_in-requires
fault_in-requires c = has_form_at c.args.text.now c.in-Some.form c.in-Some.len c.in-Some.ensures.piece

pub returns-in-Some-fault_in : goal.returns-in-Some-fault_in
returns-in-Some-fault_in c = broken_piece c.args.text.now c.in-Some.form c.in-Some.len c.in-Some-fault_in.fault.0 c.in-Some-fault_in.fault.1 c.in-Some.ensures.piece c.in-Some-fault_in.ensures

pub returns-in-None : goal.returns-in-None
returns-in-None c = good_piece c.args.text.now c.in-Some.form c.in-Some.len c.in-Some.ensures.piece c.in-None.ensures.0 c.in-None.ensures.1
