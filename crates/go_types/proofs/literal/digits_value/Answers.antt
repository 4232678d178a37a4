use Rattle.std.proofs.Common.{arith, refl}
use Rattle.go_types.proofs.Literals.{next_least}
use Rattle.go_types.proofs.literal.digits_value.Goals as goal

pub returns-in-None : goal.returns-in-None
returns-in-None c = λ h. c.in-None.ensures (omega (arith, h, next_least c.args.base c.loop-byte.value _ _ c.args.digits.now c.loop-byte.byte-index c.requires c.loop-byte-test.true refl c.if-byte-ne95.true c.loop-byte.invariant.value))
