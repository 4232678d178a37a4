use Rattle.std.proofs.Common.{rules, arith, sym, subst}
use Rattle.std.proofs.lemmas.Grind.{common_steps}
use Rattle.go_ast.specs.Literals.{IsQuotedBody}
use Rattle.go_parse.proofs.Literals.{text_some, text_raw, text_quoted, quoted_body}
use Rattle.go_parse.proofs.literal.text_bytes.Goals as goal

pub bounds-bytes-0 : goal.bounds-bytes-0
bounds-bytes-0 c = let h = text_some c.args.bytes.now c.requires in search rules

pub returns-then-bytes-eq96 : goal.returns-then-bytes-eq96
returns-then-bytes-eq96 c = let e = text_raw c.args.bytes.now c.if-bytes-eq96.true in let i = c.inner.ensures in first_of (search rules, grind (arith, common_steps))

pub unescape-requires : goal.unescape-requires
unescape-requires c = subst IsQuotedBody (sym c.inner-2.ensures) (quoted_body c.args.bytes.now c.if-bytes-eq96.false c.requires)

pub returns : goal.returns
returns c = let e = text_quoted c.args.bytes.now c.if-bytes-eq96.false in let i = c.inner-2.ensures in first_of (search rules, grind (arith, common_steps))
