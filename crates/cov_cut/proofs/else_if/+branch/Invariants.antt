use Rattle.std.proofs.Common.{◌≡◌, ◌++◌, map, drop}
use Rattle.cov_cut.specs.Outline.{lists_among, lists_behind}
use Rattle.cov_cut.specs.Outlining.{clause_lists}
use Rattle.cov_cut.specs.Layers.{outlines, case_layer, comm_layer}
use Rattle.cov_cut.specs.Counted.{else_ifs_in}
use Rattle.cov_cut.proofs.else_if.+branch.Given as goal

abbrev pub invariant-find_in_list-loop-s : goal.invariant-find_in_list-loop-s
invariant-find_in_list-loop-s l = l.spans.items ++ else_ifs_in (lists_among (outlines (drop l.s-index l.list))) ≡ l.fn.spans.items ++ else_ifs_in (lists_among (outlines l.list))

abbrev pub invariant-find_in_cases-loop-clause : goal.invariant-find_in_cases-loop-clause
invariant-find_in_cases-loop-clause l = l.spans.items ++ else_ifs_in (lists_behind (clause_lists (map case_layer (drop l.clause-index l.clauses)))) ≡ l.fn.spans.items ++ else_ifs_in (lists_behind (clause_lists (map case_layer l.clauses)))

abbrev pub invariant-find_in_comms-loop-clause : goal.invariant-find_in_comms-loop-clause
invariant-find_in_comms-loop-clause l = l.spans.items ++ else_ifs_in (lists_behind (clause_lists (map comm_layer (drop l.clause-index l.clauses)))) ≡ l.fn.spans.items ++ else_ifs_in (lists_behind (clause_lists (map comm_layer l.clauses)))
