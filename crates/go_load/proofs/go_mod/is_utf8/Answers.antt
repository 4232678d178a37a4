use Rattle.std.proofs.Common.{sym, ⊎_elim}
use Rattle.std.specs.Str.{is_utf8}
use Rattle.std.proofs.lemmas.Bool.{cases_Bool}
use Rattle.std.proofs.lemmas.Str.{is_utf8-from_IsUtf8, IsUtf8-from_is_utf8}
use Rattle.go_load.proofs.go_mod.is_utf8.Goals as goal

pub returns-in-Ok : goal.returns-in-Ok
returns-in-Ok c = sym (is_utf8-from_IsUtf8 c.args.bytes.now c.in-Ok.ensures.cases.1)

pub returns-in-Err : goal.returns-in-Err
returns-in-Err c =
    let bytes = c.args.bytes.now in
    ⊎_elim (λ yes'. absurd (c.in-Err.ensures.cases.0 (IsUtf8-from_is_utf8 bytes yes'))) (λ no'. sym no') (cases_Bool (is_utf8 bytes))
