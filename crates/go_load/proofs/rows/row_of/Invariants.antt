use Rattle.std.proofs.Common.{◌≡◌, length, take}
use Rattle.std.specs.Prelude.{filter, vec_len}
use Rattle.go_load.specs.Loading.{DoPathsRise, marks_of}
use Rattle.go_load.specs.Packages.{imports_of}
use Rattle.go_load.specs.Paths.{is_own}
use Rattle.go_load.proofs.rows.row_of.Given as goal

abbrev pub invariant-loop-source : goal.invariant-loop-source
invariant-loop-source l = record {
  many : vec_len l.row ≡ length l.founds;
  marked : DoPathsRise l.founds → l.row.items ≡ marks_of l.founds (filter (is_own l.home.path) (imports_of (take l.source-index l.found.sources)));
}
