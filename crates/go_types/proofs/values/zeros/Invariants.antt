use Rattle.std.proofs.Common.{◌≡◌, replicate}
use Rattle.go_meaning.specs.declared.expr.Expr.TheVariants as expr
use Rattle.go_types.specs.Operands.{zero_value}
use Rattle.go_types.proofs.values.zeros.Given as goal

abbrev pub invariant-loop : goal.invariant-loop
invariant-loop l = record {
  codes : l.codes ≡ replicate l.counter (expr.Value (zero_value l.of));
  types : l.types ≡ replicate l.counter l.of;
}
