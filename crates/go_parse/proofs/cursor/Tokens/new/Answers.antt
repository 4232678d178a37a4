use Rattle.go_parse.proofs.Placing.{tokens_placed}
use Rattle.go_parse.proofs.cursor.Tokens.new.Goals as goal

pub invariant_of-result : goal.invariant_of-result
invariant_of-result c = (c.requires.short, tokens_placed c.args.text.now c.args.rest.now c.requires.tokens)
