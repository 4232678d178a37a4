use Rattle.std.proofs.Common.{sym, subst}
use Rattle.std.specs.Str.{IsValidUpTo}
use Rattle.go_lex.proofs.Characters.{front_of_valid}
use Rattle.go_lex.proofs.character.valid_front.Goals as goal

pub returns-in-Err : goal.returns-in-Err
returns-in-Err c =
    let is = rw c.unwrap.ensures at c.from_utf8-in-Err.ensures.cases in
    front_of_valid c.args.bytes.now c.unwrap.result.now c.valid_up_to.result (subst (IsValidUpTo c.args.bytes.now) (sym c.valid_up_to.ensures) c.in-Err.ensures.cases.1) is.0
