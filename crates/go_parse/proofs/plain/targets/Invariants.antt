use Rattle.std.proofs.Common.{◌≡◌, ◌-◌}
use Rattle.go_reading.specs.Simple.{targets_from}
use Rattle.go_parse.proofs.plain.targets.Given as goal

abbrev pub invariant-loop-turn : goal.invariant-loop-turn
invariant-loop-turn l = targets_from l.turns l.depth l.ranges (l.turns - l._turn) l.found.items l.tokens
    ≡ targets_from l.turns l.depth l.ranges l.turns l.fn.first.items l.fn.tokens
