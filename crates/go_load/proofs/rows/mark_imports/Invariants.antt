use Rattle.std.proofs.Common.{◌≡◌, ◌++◌, ℕ, List, length, map, take}
use Rattle.std.specs.Prelude.{filter, vec_len}
use Rattle.go_load.specs.Loading.{DoPathsRise, marks_of}
use Rattle.go_load.specs.Paths.{is_own}
use Rattle.go_load.proofs.rows.mark_imports.Given as goal

abbrev pub invariant-loop-import : goal.invariant-loop-import
invariant-loop-import l = record {
  many : vec_len l.row ≡ length l.founds;
  marked : DoPathsRise l.founds → (seen : List (List ℕ)) → l.fn.row.items ≡ marks_of l.founds seen
      → l.row.items ≡ marks_of l.founds (seen ++ filter (is_own l.home.path) (map (λ i. i.path) (take l.import-index l.imports)));
}
