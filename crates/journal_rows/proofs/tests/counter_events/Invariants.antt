use Rattle.std.proofs.Common.{◌≤◌}
use Rattle.journal_rows.proofs.tests.counter_events.Given as goal

abbrev pub invariant-loop-event : goal.invariant-loop-event
invariant-loop-event l = l.count ≤ l.event-index
