use Rattle.std.proofs.Common.{◌∙◌}
use Rattle.go_value.proofs.Ints.{is_wrap, kept_in, masked}
use Rattle.go_value.proofs.int.Int.wrapped.Goals as goal

pub returns-clause-int : goal.returns-clause-int
returns-clause-int c = is_wrap c.args.kind _ _ c.args.value (masked c.args.kind c.args.value _ _ c.cast_unsigned.ensures c.ranges.value (c.from.ensures ∙ c.mask.ensures))

pub returns-clause-kept : goal.returns-clause-kept
returns-clause-kept c = kept_in c.args.kind _ _ c.args.value (masked c.args.kind c.args.value _ _ c.cast_unsigned.ensures c.ranges.value (c.from.ensures ∙ c.mask.ensures))
