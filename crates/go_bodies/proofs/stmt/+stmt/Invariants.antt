use Rattle.std.proofs.Common.{◌≡◌, ◌<◌, ◌+◌, ◌^◌, ◌++◌, drop, length, Ok}
use Rattle.go_ast.specs.declared.block.Stmt.{Stmt}
use Rattle.go_ast.specs.declared.block.CaseClause.{CaseClause}
use Rattle.go_ast.specs.declared.block.CommClause.{CommClause}
use Rattle.go_types.specs.Checking.{and_then}
use Rattle.go_types.specs.Bodies as spec
use Rattle.go_bodies.proofs.stmt.+stmt.Given as goal

abbrev pub invariant-check_list-loop-stmt : goal.invariant-check_list-loop-stmt
invariant-check_list-loop-stmt l = record {
  so_far : spec.list_of Stmt spec.check_stmt l.fn.colon l.next l.list l.fn.walk ≡ and_then (spec.list_of Stmt spec.check_stmt l.colon l.next (drop l.stmt-index l.list) l.walk) (λ r. Ok (l.nodes ++ r.0, r.1));
  following : l.following ≡ length (drop l.stmt-index l.list);
}

abbrev pub invariant-check_clauses-loop-clause : goal.invariant-check_clauses-loop-clause
invariant-check_clauses-loop-clause l = record {
  so_far : spec.clauses_of CaseClause spec.case_parts l.at l.of l.fn.number spec.none_seen l.clauses l.fn.walk ≡ and_then (spec.clauses_of CaseClause spec.case_parts l.at l.of l.number l.seen (drop l.clause-index l.clauses) l.walk) (λ r. Ok (l.nodes ++ r.0, r.1));
  following : l.following ≡ length (drop l.clause-index l.clauses);
  fits : l.number + l.following < 2 ^ 64;
}

abbrev pub invariant-check_comms-loop-clause : goal.invariant-check_comms-loop-clause
invariant-check_comms-loop-clause l = record {
  so_far : spec.comm_clauses_of CommClause spec.comm_parts_of l.at l.fn.number spec.none_seen l.clauses l.fn.walk ≡ and_then (spec.comm_clauses_of CommClause spec.comm_parts_of l.at l.number l.seen (drop l.clause-index l.clauses) l.walk) (λ r. Ok (l.nodes ++ r.0, r.1));
  fits : l.number + length (drop l.clause-index l.clauses) < 2 ^ 64;
}
