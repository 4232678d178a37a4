use Rattle.std.proofs.Common.{arith, sym, ◌∙◌}
use Rattle.go_lex.proofs.Characters.{characters_more, character_some}
use Rattle.go_lex.proofs.character.bad_character.Goals as goal

pub loop-rest-smaller : goal.loop-rest-smaller
loop-rest-smaller c = let some = character_some c.loop-rest.rest.now c.in-Some.c c.in-Some.len c.in-Some.ensures in let back = c.split_at.ensures.back_len in omega arith

pub loop-rest-preserved : goal.loop-rest-preserved
loop-rest-preserved c =
    let place = c.loop-rest.invariant.place in
    let back = c.split_at.ensures.back_len in
    record {
      follows = characters_more c.args.bytes.now c.loop-rest.rest.now c.split_at.result.1.now c.in-Some.c c.in-Some.len c.loop-rest.invariant.follows c.in-Some.ensures (c.in-Some.ensures.scalar, sym c.is_banned.ensures ∙ c.if-is_banned.false) c.split_at.ensures.back;
      place = omega arith;
    }
