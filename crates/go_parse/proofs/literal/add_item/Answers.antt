use Rattle.std.proofs.Common.{◌<◌, ◌++◌, List, ℕ, length, get_or, rules, arith, sym, ◌∙◌, ap, append_assoc, drop, slice_range, refl}
use Rattle.std.proofs.lemmas.Grind.{common_steps}
use Rattle.go_grammar.specs.Values.{unescape_from, escape_bytes}
use Rattle.go_parse.proofs.Literals.{plain_rest, plain_value, escape_front}
use Rattle.go_parse.proofs.literal.add_item.Goals as goal

pub returns-then-bytes-ne92-clause-rest : goal.returns-then-bytes-ne92-clause-rest
returns-then-bytes-ne92-clause-rest c = plain_rest c.args.bytes.now c.requires.some c.if-bytes-ne92.true c.requires.quoted

pub returns-then-bytes-ne92-clause-value : goal.returns-then-bytes-ne92-clause-value
returns-then-bytes-ne92-clause-value c = let v = plain_value c.args.bytes.now c.requires.some c.if-bytes-ne92.true in let i = c.in_ok-push.ensures.items in first_of (search (rules, append_assoc), grind (arith, common_steps))

pub bounds-bytes-1 : goal.bounds-bytes-1
bounds-bytes-1 c = let f = escape_front c.args.bytes.now _ refl c.requires.some c.if-bytes-ne92.false c.requires.quoted in let h : 1 < length c.args.bytes.now = let two = f.two in let within = f.within in omega arith in search rules

pub bounds-bytes-1-2 : goal.bounds-bytes-1-2
bounds-bytes-1-2 c = let f = escape_front c.args.bytes.now c.escape_len-len.result c.escape_len-len.ensures.value c.requires.some c.if-bytes-ne92.false c.requires.quoted in let h : 1 < length c.args.bytes.now = let two = f.two in let within = f.within in omega arith in search rules

pub slice_bounds-add_escape-end : goal.slice_bounds-add_escape-end
slice_bounds-add_escape-end c = let f = escape_front c.args.bytes.now c.escape_len-len.result c.escape_len-len.ensures.value c.requires.some c.if-bytes-ne92.false c.requires.quoted in let two = f.two in let within = f.within in search rules

pub add_escape-requires : goal.add_escape-requires
add_escape-requires c = (escape_front c.args.bytes.now c.escape_len-len.result c.escape_len-len.ensures.value c.requires.some c.if-bytes-ne92.false c.requires.quoted).escape

pub returns-clause-length : goal.returns-clause-length
returns-clause-length c = let f = escape_front c.args.bytes.now c.escape_len-len.result c.escape_len-len.ensures.value c.requires.some c.if-bytes-ne92.false c.requires.quoted in let two = f.two in (omega arith, f.within)

pub returns-clause-rest : goal.returns-clause-rest
returns-clause-rest c = (escape_front c.args.bytes.now c.escape_len-len.result c.escape_len-len.ensures.value c.requires.some c.if-bytes-ne92.false c.requires.quoted).rest

pub returns-clause-value : goal.returns-clause-value
returns-clause-value c =
    let f = escape_front c.args.bytes.now c.escape_len-len.result c.escape_len-len.ensures.value c.requires.some c.if-bytes-ne92.false c.requires.quoted in
    let i = c.in_ok-add_escape.ensures in
    ap (λ (x : List ℕ). x ++ unescape_from 0 (drop c.escape_len-len.result c.args.bytes.now)) i ∙ append_assoc c.args.value.now.items (escape_bytes (get_or c.args.bytes.now 1 0) (slice_range c.args.bytes.now 2 c.escape_len-len.result)) (unescape_from 0 (drop c.escape_len-len.result c.args.bytes.now)) ∙ ap (λ (x : List ℕ). c.args.value.now.items ++ x) (sym f.value)
