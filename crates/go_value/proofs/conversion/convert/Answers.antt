use Rattle.std.proofs.Common.{◌≡◌, ◌%◌, ◌^◌, ℕ, min, ap, ◌∙◌, arith}
use Rattle.std.specs.Int.{w128}
use Rattle.std.proofs.lemmas.Int.{to_z-of_z}
use Rattle.go_value.specs.Kinds.{width}
use Rattle.go_value.specs.Integers.{wrap, value_of}
use Rattle.go_value.proofs.Wraps.{same_low_bits}
use Rattle.go_value.specs.declared.int.Int.{Int}
use Rattle.go_value.proofs.conversion.convert.Goals as goal

pub returns-clause-low_bits : goal.returns-clause-low_bits
returns-clause-low_bits c =
    let least : ℕ = min (width c.args.a.kind) (width c.args.to) in
    let same : c.wrapped.result ≡ wrap c.args.to (value_of c.args.a) = c.wrapped.ensures.int ∙ ap (wrap c.args.to) (to_z-of_z w128 c.value.result (record { sfits = c.value.type_inv }) ∙ c.value.ensures.value) in
    ap (λ (i : Int). i.bits % 2 ^ least) same ∙ same_low_bits c.args.a c.args.to least (omega arith) (omega arith)
