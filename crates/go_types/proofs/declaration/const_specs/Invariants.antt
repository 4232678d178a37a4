use Rattle.std.proofs.Common.{◌≡◌, drop}
use Rattle.go_types.specs.Statements as statements
use Rattle.go_types.proofs.declaration.const_specs.Given as goal

abbrev pub invariant-loop-one : goal.invariant-loop-one
invariant-loop-one l = statements.const_specs l.specs l.fn.walk ≡ statements.const_specs (drop l.one-index l.specs) l.walk
