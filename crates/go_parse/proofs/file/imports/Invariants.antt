use Rattle.std.proofs.Common.{◌≡◌, ◌-◌, []}
use Rattle.go_reading.specs.Files.{imports_from}
use Rattle.go_parse.proofs.file.imports.Given as goal

abbrev pub invariant-loop-turn : goal.invariant-loop-turn
invariant-loop-turn l = imports_from l.turns l.depth (l.turns - l._turn) l.found l.tokens
    ≡ imports_from l.turns l.depth l.turns [] l.fn.tokens
