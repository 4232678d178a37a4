use Rattle.cov_cut.proofs.Clauses.{comm_step, comm_colon, comm_length, comm_later}
use Rattle.cov_cut.proofs.walk.cut_comms.Goals as goal

pub clause-requires : goal.clause-requires
clause-requires c = comm_colon c.args.clauses.now c.loop-clause.clause-index c.clause-item.result c.loop-clause-test.true c.clause-item.is c.loop-clause.invariant.fits

pub cut_list-requires : goal.cut_list-requires
cut_list-requires c = comm_length c.args.clauses.now c.loop-clause.clause-index c.clause-item.result c.as_slice.result.now c.loop-clause-test.true c.clause-item.is c.as_slice.ensures c.loop-clause.invariant.fits

pub loop-clause-preserved : goal.loop-clause-preserved
loop-clause-preserved c = record {
  left = comm_step c.args.clauses.now c.loop-clause.clause-index c.clause-item.result c.as_slice.result.now c.clause.result _ _ _ c.loop-clause-test.true c.clause-item.is c.clause.ensures c.as_slice.ensures c.loop-clause.invariant.left c.in_ok-cut_list.ensures;
  fits = comm_later c.args.clauses.now c.loop-clause.clause-index c.clause-item.result c.loop-clause-test.true c.clause-item.is c.loop-clause.invariant.fits;
}
