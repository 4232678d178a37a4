use Rattle.std.proofs.Common.{◌≡◌, ◌≤◌, ◌-◌, []}
use Rattle.go_reading.specs.Files.{decls_from}
use Rattle.go_parse.proofs.file.decls.Given as goal
use Rattle.go_grammar.specs.Blocks.{source}

abbrev pub invariant-loop-turn : goal.invariant-loop-turn
invariant-loop-turn l = record {
  so_far : decls_from source l.bounds.turns l.bounds.most l.depth (l.bounds.turns - l._turn) l.found l.height l.tokens
      ≡ decls_from source l.bounds.turns l.bounds.most l.depth l.bounds.turns [] 0 l.fn.tokens;
  tall : l.height ≤ l.depth;
}
