use Rattle.std.proofs.Common.{◌<◌, length, rules, arith, sym, ◌∙◌, ap, subst}
use Rattle.go_ast.specs.Literals.{IsRuneBody}
use Rattle.go_grammar.specs.Values.{rune_of}
use Rattle.go_parse.proofs.Literals.{rune_some, rune_text, rune_escape, rune_character}
use Rattle.go_parse.proofs.literal.rune_value.Goals as goal

pub bounds-body-0 : goal.bounds-body-0
bounds-body-0 c = let h = rune_some c.inner-body.result.now (subst IsRuneBody (sym c.inner-body.ensures) c.requires) in search rules

pub character-requires : goal.character-requires
character-requires c = rune_text c.inner-body.result.now c.if-body-ne92.true (subst IsRuneBody (sym c.inner-body.ensures) c.requires)

pub returns-then-body-ne92 : goal.returns-then-body-ne92
returns-then-body-ne92 c =
    let good = subst IsRuneBody (sym c.inner-body.ensures) c.requires in
    c.character.ensures ∙ sym (rune_character c.inner-body.result.now (rune_some c.inner-body.result.now good) c.if-body-ne92.true) ∙ ap rune_of c.inner-body.ensures

pub bounds-body-1 : goal.bounds-body-1
bounds-body-1 c = let e = rune_escape c.inner-body.result.now c.if-body-ne92.false (subst IsRuneBody (sym c.inner-body.ensures) c.requires) in let h : 1 < length c.inner-body.result.now = let two = e.two in omega arith in search rules

pub slice_bounds-escape_value-start : goal.slice_bounds-escape_value-start
slice_bounds-escape_value-start c = let e = rune_escape c.inner-body.result.now c.if-body-ne92.false (subst IsRuneBody (sym c.inner-body.ensures) c.requires) in let two = e.two in search rules

pub slice_bounds-escape_value-count : goal.slice_bounds-escape_value-count
slice_bounds-escape_value-count c = (rune_escape c.inner-body.result.now c.if-body-ne92.false (subst IsRuneBody (sym c.inner-body.ensures) c.requires)).two

pub escape_value-requires : goal.escape_value-requires
escape_value-requires c = (rune_escape c.inner-body.result.now c.if-body-ne92.false (subst IsRuneBody (sym c.inner-body.ensures) c.requires)).escape

pub returns : goal.returns
returns c =
    let e = rune_escape c.inner-body.result.now c.if-body-ne92.false (subst IsRuneBody (sym c.inner-body.ensures) c.requires) in
    c.escape_value.ensures.value ∙ sym e.value ∙ ap rune_of c.inner-body.ensures
