use Rattle.std.proofs.Common.{not, rules, tests}
use Rattle.std.specs.Prelude.{◌==◌}
use Rattle.std.proofs.lemmas.Iterator.{YieldsList-from_slice}
use Rattle.std.proofs.lemmas.Iterator.Search.{any_from_yields_List}
use Rattle.cov_table.proofs.pod_out.has_run.Goals as goal

pub returns : goal.returns
returns c = any_from_yields_List (λ n. not (n == 0)) _ _ _ c.any.ensures.ran (YieldsList-from_slice c.args.counts.now cc) (λ x b q k. search (rules, tests))
