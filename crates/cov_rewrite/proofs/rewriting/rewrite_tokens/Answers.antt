use Rattle.std.proofs.Common.{◌≡◌, None, Err, sym, ◌∙◌, rules}
use Rattle.cov_rewrite.specs.Coming.{ComesTo, Tells}
use Rattle.cov_rewrite.specs.Reserved.{first_reserved}
use Rattle.cov_rewrite.proofs.Telling.{name_told, name_within, fault_told, text_told}
use Rattle.cov_rewrite.proofs.rewriting.rewrite_tokens.Goals as goal

pub returns-in-Some-clause-told : goal.returns-in-Some-clause-told
returns-in-Some-clause-told c =
    name_told c.args.text.now c.args.name.now c.args.var.now c.args.mode c.args.tokens.now c.requires.tokens c.in-Some.token (sym c.reserved_name.ensures ∙ c.in-Some.is)

pub returns-in-Some-clause-within : goal.returns-in-Some-clause-within
returns-in-Some-clause-within c =
    name_within c.args.text.now c.args.name.now c.args.var.now c.args.mode c.tokens_stand_in_text.ensures c.args.tokens.now c.requires.tokens c.in-Some.token (sym c.reserved_name.ensures ∙ c.in-Some.is)

pub returns-in_err-file-clause-told : goal.returns-in_err-file-clause-told
returns-in_err-file-clause-told c =
    let none : first_reserved c.args.var.now c.args.text.now c.args.tokens.now ≡ None = sym c.reserved_name.ensures ∙ c.in_default.is in
    let h : Tells (Err c.in_err-file.field-0.0) (ComesTo c.args.text.now c.args.name.now c.args.var.now c.args.mode) =
    fault_told c.args.text.now c.args.name.now c.args.var.now c.args.mode c.args.tokens.now c.requires.tokens c.in_err-file.field-0.0 none c.in_err-file.ensures.answer in
    search (rules, h)

pub counted_text-requires-clause-stands : goal.counted_text-requires-clause-stands
counted_text-requires-clause-stands c =
    c.a_tree_stands_in_its_text.ensures 1000 1000 c.args.text.now c.args.tokens.now c.in_ok-file.file c.requires.short c.requires.tokens c.in_ok-file.ensures.answer

pub returns-in-Ok-clause-told : goal.returns-in-Ok-clause-told
returns-in-Ok-clause-told c =
    text_told c.args.text.now c.args.name.now c.args.var.now c.args.mode c.args.tokens.now c.requires.tokens c.in_ok-file.file c.in-Ok.all (sym c.reserved_name.ensures ∙ c.in_default.is) c.in_ok-file.ensures.answer c.in-Ok.ensures
