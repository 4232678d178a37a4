use Rattle.go_reading.specs.Stmts.{after_first}
use Rattle.go_parse.specs.Parts.{test_part}
use Rattle.go_parse.proofs.Faults.{err_after}
use Rattle.go_parse.proofs.head.after_first.Goals as goal

pub returns-in_err-test-clause-reads : goal.returns-in_err-test-clause-reads
unfolding after_first
returns-in_err-test-clause-reads c =
    rw c.in_ok-expect.ensures (err_after (test_part c.args.turns c.args.depth c.args.tests c.expect.new.self) c.in_err-test.field-0.0 c.test_part.new.tokens _ _ c.in_err-test.ensures.reads c.from_residual-in_err-test.ensures.1)
