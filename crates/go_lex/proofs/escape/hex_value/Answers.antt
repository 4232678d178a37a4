use Rattle.std.proofs.Common.{arith, refl}
use Rattle.go_ast.specs.Numbers.{is_hex}
use Rattle.go_lex.proofs.Values.{value_more, weight_more, weight_16, fits_more_16, step_16, all_at}
use Rattle.go_lex.proofs.escape.hex_value.Goals as goal

pub loop-byte-init : goal.loop-byte-init
loop-byte-init c = let w = weight_16 c.args.digits.now c.requires.few in record { same = refl; small = omega arith }

pub hex_digit-requires : goal.hex_digit-requires
hex_digit-requires c = all_at is_hex c.args.digits.now c.loop-byte.byte-index c.loop-byte-test.true c.requires.hex

pub overflow_mul-value : goal.overflow_mul-value
overflow_mul-value c = let fits = fits_more_16 c.loop-byte.value 4294967296 c.args.digits.now c.loop-byte.byte-index c.loop-byte-test.true c.loop-byte.invariant.small in omega arith

pub overflow_add-value : goal.overflow_add-value
overflow_add-value c = let fits = fits_more_16 c.loop-byte.value 4294967296 c.args.digits.now c.loop-byte.byte-index c.loop-byte-test.true c.loop-byte.invariant.small in let small = c.hex_digit.ensures.small in omega arith

pub loop-byte-preserved : goal.loop-byte-preserved
loop-byte-preserved c =
    record {
      same = value_more 16 c.args.digits.now c.loop-byte.byte-index c.loop-byte.value c.hex_digit.result _ c.loop-byte-test.true c.hex_digit.ensures.value c.loop-byte.invariant.same;
      small = weight_more 16 4294967296 c.loop-byte.value c.hex_digit.result c.args.digits.now c.loop-byte.byte-index c.loop-byte-test.true (λ w. step_16 c.loop-byte.value c.hex_digit.result w 4294967296 c.hex_digit.ensures.small) c.loop-byte.invariant.small;
    }
