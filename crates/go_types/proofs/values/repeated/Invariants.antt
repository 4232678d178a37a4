use Rattle.std.proofs.Common.{◌≡◌, replicate}
use Rattle.go_types.proofs.values.repeated.Given as goal

abbrev pub invariant-loop : goal.invariant-loop
invariant-loop l = l.all ≡ replicate l.counter l.wanted
