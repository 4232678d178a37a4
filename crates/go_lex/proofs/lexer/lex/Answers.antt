use Rattle.std.proofs.Common.{◌+◌, arith, refl, sym, subst}
use Rattle.go_lex.specs.Verdicts.{Fails}
use Rattle.go_lex.proofs.Whole.{fault_is, read_span, read_all, nothing_left, tokens_no_fault}
use Rattle.go_lex.proofs.lexer.lex.Goals as goal

pub returns-in-Err-clause-fault : goal.returns-in-Err-clause-fault
returns-in-Err-clause-fault c =
    let read = c.loop-rest.invariant.read in
    subst (Fails c.args.text.now) (sym c.fault_at.ensures)
    (fault_is c.args.text.now c.loop-rest.rest.now read.0 c.loop-rest.start c.in-Err.near (c.loop-rest.start + c.in-Err.near) c.in-Err.kind read.1 c.loop-rest.invariant.place refl c.in-Err.ensures)

pub returns-in-Err-clause-only : goal.returns-in-Err-clause-only
returns-in-Err-clause-only c tokens has =
    let read = c.loop-rest.invariant.read in
    absurd
    (tokens_no_fault c.args.text.now tokens (c.loop-rest.start + c.in-Err.near) c.in-Err.kind has
    (fault_is c.args.text.now c.loop-rest.rest.now read.0 c.loop-rest.start c.in-Err.near (c.loop-rest.start + c.in-Err.near) c.in-Err.kind read.1 c.loop-rest.invariant.place refl c.in-Err.ensures).has)

pub loop-rest-preserved : goal.loop-rest-preserved
loop-rest-preserved c =
    let place = c.loop-rest.invariant.place in
    let back = c.split_at.ensures.back_len in
    record {
      read = read_span c.args.text.now c.loop-rest.rest.now c.split_at.result.0.now c.split_at.result.1.now c.loop-rest.tokens.items c.add_piece.new.tokens.items c.loop-rest.start c.in-Ok.piece.1 c.loop-rest.needed c.in_ok-needed.needed c.in-Ok.piece.0 c.span.result c.loop-rest.invariant.read c.in-Ok.ensures c.split_at.ensures.front c.split_at.ensures.back c.span.ensures c.in_ok-needed.ensures.tokens c.in_ok-needed.ensures.needed;
      place = omega arith;
    }

pub returns-clause-tokens : goal.returns-clause-tokens
returns-clause-tokens c =
    read_all c.args.text.now c.loop-rest.rest.now c.loop-rest.tokens.items c.end_line.new.tokens.items c.loop-rest.start c.loop-rest.needed c.loop-rest.invariant.read (nothing_left c.loop-rest.rest.now c.is_empty.result c.is_empty.ensures c.loop-rest-test.false) c.in_ok-end_line.ensures
