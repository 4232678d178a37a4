use Rattle.std.proofs.Common.{subst, sym}
use Rattle.gocov_tools.specs.Outside.{IsOfData}
use Rattle.gocov_tools.specs.declared.work.Work.{Work}
use Rattle.gocov_tools.proofs.Told.{refusal_of_data}
use Rattle.gocov_tools.proofs.data.covdata.Goals as goal

pub returns-in-Err-clause-of_data : goal.returns-in-Err-clause-of_data
returns-in-Err-clause-of_data g c = subst IsOfData (sym c.status_of.ensures) (refusal_of_data Work c.in-Err.refusal _ _ c.in-Err.ensures.cause)
