use Rattle.std.proofs.Common.{subst, sym, All}
use Rattle.cov_pods.specs.Paths.{HasTextPaths, HasTextDir}
use Rattle.gocov_tools.proofs.pods.read_dirs.Goals as goal

pub read_pods-requires : goal.read_pods-requires
read_pods-requires g c = subst (All HasTextPaths) (sym c.deref-2.ensures.value) (c.in_ok-pods.ensures.utf8 (subst (All HasTextDir) (sym c.deref.ensures.value) c.in_ok-names.ensures.utf8))
