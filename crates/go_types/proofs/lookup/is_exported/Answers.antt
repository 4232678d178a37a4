use Rattle.std.proofs.Common.{sym, ◌∙◌}
use Rattle.go_types.proofs.Exported.{exported_first, exported_text}
use Rattle.go_types.proofs.lookup.is_exported.Goals as goal

pub returns-in-Some : goal.returns-in-Some
returns-in-Some c = c.is_upper.ensures ∙ sym (exported_first c.args.name.now _ c.in-Some.c (c.in-Ok.ensures.cases).1 (sym (c.in-Ok.ensures.cases).0 ∙ sym c.chars.ensures.rest ∙ (c.in-Some.ensures.steps).0))

pub returns-in-Err : goal.returns-in-Err
returns-in-Err c = sym (exported_text _ (c.in-Err.ensures.cases).0)
