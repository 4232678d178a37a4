use Rattle.std.proofs.Common.{◌≡◌, drop}
use Rattle.go_meaning.specs.Acts.{default_of}
use Rattle.go_step.proofs.choices.default_of.Given as goal

abbrev pub invariant-loop-clause : goal.invariant-loop-clause
invariant-loop-clause l = default_of (drop l.clause-index l.clauses) ≡ default_of l.clauses
