use Rattle.std.proofs.Common.{◌≡◌, ◌≤◌, ◌-◌, []}
use Rattle.go_reading.specs.Decls.{params_from}
use Rattle.go_parse.proofs.params.params_from.Given as goal

abbrev pub invariant-loop-turn : goal.invariant-loop-turn
invariant-loop-turn l = record {
  so_far : params_from l.turns l.depth (l.turns - l._turn) l.found l.height l.tokens
      ≡ params_from l.turns l.depth l.turns [] 0 l.fn.tokens;
  tall : l.height ≤ l.depth;
}
