use Rattle.std.proofs.Common.{◌≡◌, ◌++◌, map, drop}
use Rattle.std.specs.Prelude.{All}
use Rattle.cov_cut.specs.Outline.{heads}
use Rattle.cov_cut.specs.Outlining.{clause_lists}
use Rattle.cov_cut.specs.Layers.{case_layer}
use Rattle.cov_cut.specs.Units.{units_in, Fits}
use Rattle.cov_cut.proofs.walk.cut_cases.Given as goal

abbrev pub invariant-loop-clause : goal.invariant-loop-clause
invariant-loop-clause l = record {
  left : l.units ++ units_in (heads (clause_lists (map case_layer (drop l.clause-index l.clauses)))) ≡ l.fn.units ++ units_in (heads (clause_lists (map case_layer l.clauses)));
  fits : All Fits (heads (clause_lists (map case_layer (drop l.clause-index l.clauses))));
}
