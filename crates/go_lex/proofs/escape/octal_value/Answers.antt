use Rattle.std.proofs.Common.{arith, ap, ◌∙◌}
use Rattle.std.specs.Char.{digit_value}
use Rattle.go_ast.specs.Numbers.{is_octal, value_from}
use Rattle.go_lex.proofs.Values.{value_more, weight, weight_more, weight_8, fits_more_8, step_8, all_at, small_8, zero_plus}
use Rattle.go_lex.proofs.escape.octal_value.Goals as goal

pub loop-byte-init : goal.loop-byte-init
loop-byte-init c = let w = weight_8 c.args.digits.now c.requires.few in record { same = ap (λ v. value_from 8 v c.args.digits.now) (c.octal_digit-value.ensures.value ∙ zero_plus (digit_value c.args.first)); small = small_8 c.octal_digit-value.result (weight 8 c.args.digits.now) c.octal_digit-value.ensures.small w }

pub octal_digit-requires : goal.octal_digit-requires
octal_digit-requires c = all_at is_octal c.args.digits.now c.loop-byte.byte-index c.loop-byte-test.true c.requires.octal

pub overflow_mul-value : goal.overflow_mul-value
overflow_mul-value c = let fits = fits_more_8 c.loop-byte.value 512 c.args.digits.now c.loop-byte.byte-index c.loop-byte-test.true c.loop-byte.invariant.small in omega arith

pub overflow_add-value : goal.overflow_add-value
overflow_add-value c = let fits = fits_more_8 c.loop-byte.value 512 c.args.digits.now c.loop-byte.byte-index c.loop-byte-test.true c.loop-byte.invariant.small in let small = c.octal_digit.ensures.small in omega arith

pub loop-byte-preserved : goal.loop-byte-preserved
loop-byte-preserved c =
    record {
      same = value_more 8 c.args.digits.now c.loop-byte.byte-index c.loop-byte.value c.octal_digit.result _ c.loop-byte-test.true c.octal_digit.ensures.value c.loop-byte.invariant.same;
      small = weight_more 8 512 c.loop-byte.value c.octal_digit.result c.args.digits.now c.loop-byte.byte-index c.loop-byte-test.true (λ w. step_8 c.loop-byte.value c.octal_digit.result w 512 c.octal_digit.ensures.small) c.loop-byte.invariant.small;
    }
