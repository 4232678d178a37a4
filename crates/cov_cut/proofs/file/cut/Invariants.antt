use Rattle.std.proofs.Common.{◌≡◌, ◌++◌, map, drop}
use Rattle.std.specs.Prelude.{All}
use Rattle.std.specs.List.{flat_map}
use Rattle.cov_cut.specs.Units.{units_of, cut_in, func_units, func_lists, Fits}
use Rattle.cov_cut.proofs.file.cut.Given as goal

abbrev pub invariant-loop-decl : goal.invariant-loop-decl
invariant-loop-decl l = record {
  left : l.functions.items ++ map func_units (flat_map cut_in (drop l.decl-index l.decl-items)) ≡ units_of l.file;
  fits : All (λ f. All Fits (func_lists f)) (flat_map cut_in (drop l.decl-index l.decl-items));
}
