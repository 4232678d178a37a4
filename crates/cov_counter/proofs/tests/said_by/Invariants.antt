use Rattle.std.proofs.Common.{Some}
use Rattle.cov_counter.specs.Reader.{IsReady}
use Rattle.cov_counter.proofs.tests.said_by.Given as goal

abbrev pub invariant-loop : goal.invariant-loop
invariant-loop l = IsReady (λ m. Some m.tree) l.reader
