use Rattle.std.proofs.Common.{◌≡◌, ◌-◌, [], ◌∷◌}
use Rattle.go_reading.specs.Stmts.{comm_targets}
use Rattle.go_parse.proofs.comm.comm_targets.Given as goal

abbrev pub invariant-loop-turn : goal.invariant-loop-turn
invariant-loop-turn l = comm_targets l.turns l.depth (l.turns - l._turn) l.found.items l.tokens
    ≡ comm_targets l.turns l.depth l.turns (l.fn.first ∷ []) l.fn.tokens
