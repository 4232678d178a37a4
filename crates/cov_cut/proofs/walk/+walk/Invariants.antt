use Rattle.std.proofs.Common.{◌≡◌, ◌++◌, map, drop}
use Rattle.std.specs.Prelude.{All}
use Rattle.cov_cut.specs.Outline.{lists_among, lists_behind}
use Rattle.cov_cut.specs.Outlining.{clause_lists}
use Rattle.cov_cut.specs.Layers.{outlines, case_layer, comm_layer}
use Rattle.cov_cut.specs.Units.{units_in, Fits}
use Rattle.cov_cut.proofs.walk.+walk.Given as goal

abbrev pub invariant-walk_list-loop-s : goal.invariant-walk_list-loop-s
invariant-walk_list-loop-s l = record {
  left : l.units ++ units_in (lists_among (outlines (drop l.s-index l.list))) ≡ l.fn.units ++ units_in (lists_among (outlines l.list));
  fits : All Fits (lists_among (outlines (drop l.s-index l.list)));
}

abbrev pub invariant-walk_cases-loop-clause : goal.invariant-walk_cases-loop-clause
invariant-walk_cases-loop-clause l = record {
  left : l.units ++ units_in (lists_behind (clause_lists (map case_layer (drop l.clause-index l.clauses)))) ≡ l.fn.units ++ units_in (lists_behind (clause_lists (map case_layer l.clauses)));
  fits : All Fits (lists_behind (clause_lists (map case_layer (drop l.clause-index l.clauses))));
}

abbrev pub invariant-walk_comms-loop-clause : goal.invariant-walk_comms-loop-clause
invariant-walk_comms-loop-clause l = record {
  left : l.units ++ units_in (lists_behind (clause_lists (map comm_layer (drop l.clause-index l.clauses)))) ≡ l.fn.units ++ units_in (lists_behind (clause_lists (map comm_layer l.clauses)));
  fits : All Fits (lists_behind (clause_lists (map comm_layer (drop l.clause-index l.clauses))));
}
