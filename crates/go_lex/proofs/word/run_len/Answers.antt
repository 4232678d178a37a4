use Rattle.std.proofs.Common.{arith, drop, sym, ap, ◌∙◌}
use Rattle.go_lex.proofs.Characters.{letters_more, character_some}
use Rattle.go_lex.proofs.Words.{run_stop, drop_more}
use Rattle.go_lex.proofs.word.run_len.Goals as goal

pub returns-then-not-is_letter_or_digit : goal.returns-then-not-is_letter_or_digit
returns-then-not-is_letter_or_digit c =
    let place = c.loop-c.invariant.place in
    run_stop c.args.bytes.now c.loop-c.rest.now c.loop-c.len c.in-Some.c c.in-Some.width c.loop-c.invariant.follows c.loop-c.invariant.same (omega arith) c.in-Some.ensures (sym c.is_letter_or_digit.ensures ∙ c.if-not-is_letter_or_digit.true)

pub loop-c-smaller : goal.loop-c-smaller
loop-c-smaller c = let some = character_some c.loop-c.rest.now c.in-Some.c c.in-Some.width c.in-Some.ensures in let back = c.split_at.ensures.back_len in omega arith

pub loop-c-preserved : goal.loop-c-preserved
loop-c-preserved c =
    let place = c.loop-c.invariant.place in
    let back = c.split_at.ensures.back_len in
    record {
      follows = letters_more c.args.bytes.now c.loop-c.rest.now c.split_at.result.1.now c.in-Some.c c.in-Some.width c.loop-c.invariant.follows c.in-Some.ensures (sym c.is_letter_or_digit.ensures ∙ c.if-not-is_letter_or_digit.false) c.split_at.ensures.back;
      same = c.split_at.ensures.back ∙ ap (drop c.in-Some.width) c.loop-c.invariant.same ∙ drop_more c.args.bytes.now c.loop-c.len c.in-Some.width;
      place = omega arith;
    }
