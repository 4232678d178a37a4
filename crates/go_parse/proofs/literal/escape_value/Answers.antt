use Rattle.std.proofs.Common.{ℕ, subst, arith}
use Rattle.go_parse.specs.Placed.{IsEscape}
use Rattle.go_parse.proofs.Literals.{hex_byte}
use Rattle.go_parse.proofs.literal.escape_value.Goals as goal

pub returns-in-120-clause-byte : goal.returns-in-120-clause-byte
returns-in-120-clause-byte c = λ _ _. let small = hex_byte c.args.digits.now (subst (λ (b : ℕ). IsEscape b c.args.digits.now) c.in-120.is c.requires) in let value = c.hex_value.ensures in omega arith
