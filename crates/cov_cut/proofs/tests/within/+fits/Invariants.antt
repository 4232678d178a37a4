use Rattle.std.proofs.Common.{map, take}
use Rattle.std.specs.Prelude.{All}
use Rattle.cov_cut.specs.Outline.{heads, lists_among, lists_behind}
use Rattle.cov_cut.specs.Outlining.{clause_lists}
use Rattle.cov_cut.specs.Layers.{outlines, case_layer, comm_layer}
use Rattle.cov_cut.specs.Units.{Fits}
use Rattle.cov_cut.proofs.tests.within.+fits.Given as goal

abbrev pub invariant-list_fits-loop-s : goal.invariant-list_fits-loop-s
invariant-list_fits-loop-s l = All Fits (lists_among (outlines (take l.s-index l.list)))

abbrev pub invariant-cases_fit-loop-clause : goal.invariant-cases_fit-loop-clause
invariant-cases_fit-loop-clause l = record {
  heads : All Fits (heads (clause_lists (map case_layer (take l.clause-index l.clauses))));
  behind : All Fits (lists_behind (clause_lists (map case_layer (take l.clause-index l.clauses))));
}

abbrev pub invariant-comms_fit-loop-clause : goal.invariant-comms_fit-loop-clause
invariant-comms_fit-loop-clause l = record {
  heads : All Fits (heads (clause_lists (map comm_layer (take l.clause-index l.clauses))));
  behind : All Fits (lists_behind (clause_lists (map comm_layer (take l.clause-index l.clauses))));
}
