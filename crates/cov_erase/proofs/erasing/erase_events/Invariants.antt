use Rattle.std.proofs.Common.{◌≡◌, take}
use Rattle.go_meaning.specs.Erasing.{erase_events}
use Rattle.cov_erase.proofs.erasing.erase_events.Given as goal

abbrev pub invariant-loop-event : goal.invariant-loop-event
invariant-loop-event l = l.rest.items ≡ erase_events (take l.event-index l.events)
