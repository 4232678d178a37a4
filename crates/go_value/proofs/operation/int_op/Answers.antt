use Rattle.std.proofs.Common.{SFits, sym, ◌∙◌}
use Rattle.std.specs.Int.{w128}
use Rattle.std.proofs.lemmas.Int.{to_z-of_z}
use Rattle.go_value.proofs.Wraps.{gives_result}
use Rattle.go_value.proofs.operation.int_op.Goals as goal

pub returns-in-None : goal.returns-in-None
returns-in-None c =
    let left : SFits w128 c.value.result = record { sfits = c.value.type_inv } in
    let right : SFits w128 c.value-right.result = record { sfits = c.value-right.type_inv } in
    let wide : SFits w128 c.wide_result.result = record { sfits = c.wide_result.type_inv } in
    let fault = simp to_z-of_z at c.fault_of.ensures in
    let low = simp to_z-of_z at c.wide_result.ensures in
    let wrapped = simp to_z-of_z at c.wrapped.ensures.int in
    gives_result c.args.op c.args.a c.args.b c.value.result c.value-right.result c.wide_result.result c.wrapped.result (sym fault ∙ c.in-None.is) c.value.ensures.value c.value-right.ensures.value low wrapped
