use Rattle.std.proofs.Common.{arith}
use Rattle.go_lex.proofs.Items.{items_more_at}
use Rattle.go_lex.proofs.escape.bad_escape.Goals as goal

pub loop-rest-preserved : goal.loop-rest-preserved
loop-rest-preserved c =
    let place = c.loop-rest.invariant.place in
    let back = c.split_at.ensures.back_len in
    record {
      items = items_more_at 34 c.args.body.now c.loop-rest.rest.now c.split_at.result.1.now c.in-Some.len c.loop-rest.invariant.items c.in-Some.ensures c.split_at.ensures.back;
      place = omega arith;
    }
