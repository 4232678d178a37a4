use Rattle.go_ast.specs.declared.token.Token.{Token}
use Rattle.go_ast.specs.declared.token.TokenKind.TheVariants as kind
use Rattle.cov_rewrite.proofs.reserved.reserved_name.Goals as goal

none : Token
none = record { kind = kind.Name; span = record { start = 0; end = 0 } }

pub is_reserved_token-requires-clause-order : goal.is_reserved_token-requires-clause-order
unfolding none
is_reserved_token-requires-clause-order c = (c.tokens_stand_in_text.ensures c.args.text.now c.args.tokens.now c.requires c.loop-token.token-index none c.loop-token-test.true).0

pub is_reserved_token-requires-clause-within : goal.is_reserved_token-requires-clause-within
unfolding none
is_reserved_token-requires-clause-within c = (c.tokens_stand_in_text.ensures c.args.text.now c.args.tokens.now c.requires c.loop-token.token-index none c.loop-token-test.true).1
