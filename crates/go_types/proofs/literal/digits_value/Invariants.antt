use Rattle.std.proofs.Common.{◌≡◌, ◌<◌, ◌^◌, drop}
use Rattle.go_types.specs.Literals as spec
use Rattle.go_types.proofs.literal.digits_value.Given as goal

abbrev pub invariant-loop-byte : goal.invariant-loop-byte
invariant-loop-byte l = record {
  value : spec.digits_value l.base l.value (drop l.byte-index l.digits) ≡ spec.digits_value l.base 0 l.digits;
  fits : l.value < 2 ^ 128;
}
