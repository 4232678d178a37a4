use Rattle.std.proofs.Common.{◌∙◌}
use Rattle.std.specs.Int.{w128}
use Rattle.std.proofs.lemmas.Int.{to_z-of_z}
use Rattle.go_value.specs.Integers.{value_of}
use Rattle.go_value.proofs.Ints.{in_kind}
use Rattle.go_value.proofs.int.Int.value.Goals as goal

pub returns-clause-value : goal.returns-clause-value
unfolding value_of
returns-clause-value c = to_z-of_z w128 _ (record { sfits = c.number.type_inv }) ∙ c.number.ensures

pub returns-clause-range : goal.returns-clause-range
returns-clause-range c = rw (to_z-of_z w128 c.number.result (record { sfits = c.number.type_inv }), c.number.ensures) (in_kind c.args.self.kind c.args.self.bits c.args.self.in_width)
