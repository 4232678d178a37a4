use Rattle.std.proofs.Common.{◌≡◌, pos, ◌-ℤ◌, arith}
use Rattle.std.proofs.lemmas.Int.{ints}
use Rattle.go_value.specs.Kinds.{number_of}
use Rattle.go_value.proofs.Ints.{is_negative}
use Rattle.go_value.proofs.int.number.Goals as goal

pub returns-then-bits-mask : goal.returns-then-bits-mask
returns-then-bits-mask c =
    let n : number_of c.args.kind c.args.bits ≡ pos c.args.bits -ℤ pos c.mask-mask.result -ℤ pos 1 = is_negative c.args.kind c.args.bits c.mask-mask.result c.is_signed.result c.is_signed.ensures c.if-is_signed.true c.mask-mask.ensures c.if-bits-mask.true c.requires in
    rw n (omega (arith, ints))
