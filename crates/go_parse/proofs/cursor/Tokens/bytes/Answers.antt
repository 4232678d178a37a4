use Rattle.std.proofs.Common.{rules}
use Rattle.go_parse.proofs.Placing.{first_placed, no_token, rune_next, text_next}
use Rattle.go_parse.proofs.cursor.Tokens.bytes.Goals as goal

pub slice_bounds-result-count : goal.slice_bounds-result-count
slice_bounds-result-count c = (first_placed c.self.inside.text.now c.self.inside.rest.now no_token c.in-len1-up.len_at_least c.self.invariant.1).ordered

pub slice_bounds-result-start : goal.slice_bounds-result-start
slice_bounds-result-start c = let p = first_placed c.self.inside.text.now c.self.inside.rest.now no_token c.in-len1-up.len_at_least c.self.invariant.1 in let o = p.ordered in let w = p.within in search rules

pub slice_bounds-result-end-in-len1-up : goal.slice_bounds-result-end-in-len1-up
slice_bounds-result-end-in-len1-up c = let p = first_placed c.self.inside.text.now c.self.inside.rest.now no_token c.in-len1-up.len_at_least c.self.invariant.1 in let o = p.ordered in let w = p.within in search rules

pub returns-in-len1-up-clause-rune : goal.returns-in-len1-up-clause-rune
returns-in-len1-up-clause-rune c = λ k. rune_next c.self.inside.text.now c.self.inside.rest.now c.args.self.now c.self.view_is c.self.invariant.1 k

pub returns-in-len1-up-clause-text : goal.returns-in-len1-up-clause-text
returns-in-len1-up-clause-text c = λ k. text_next c.self.inside.text.now c.self.inside.rest.now c.args.self.now c.self.view_is c.self.invariant.1 k
