use Rattle.std.proofs.Common.{subst, sym, All}
use Rattle.cov_pods.specs.Paths.{HasTextPaths, HasTextDir}
use Rattle.gocov_tools.proofs.pods.table_of_dirs.Goals as goal

pub table_of-requires : goal.table_of-requires
table_of-requires g c = subst (All HasTextPaths) (sym c.deref-2.ensures.value) (c.in_ok-pods.ensures.utf8 (subst (All HasTextDir) (sym c.deref.ensures.value) c.in_ok-names.ensures.utf8))
