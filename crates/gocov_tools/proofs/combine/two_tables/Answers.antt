use Rattle.std.proofs.Common.{subst, sym, All}
use Rattle.std.proofs.lemmas.List.Elements.{All-take, All-drop}
use Rattle.cov_pods.specs.Paths.{HasTextPaths, HasTextDir}
use Rattle.gocov_tools.proofs.Agreeing.{agree}
use Rattle.gocov_tools.proofs.combine.two_tables.Goals as goal

pub table_of-requires : goal.table_of-requires
table_of-requires g c = subst (All HasTextPaths) (sym c.deref.ensures.value) (c.in_ok-pods.ensures.utf8 (subst (All HasTextDir) (sym c.split_at.ensures.front) (All-take HasTextDir 1 c.args.names.now c.requires.utf8)))

pub table_of-requires-2 : goal.table_of-requires-2
table_of-requires-2 g c = subst (All HasTextPaths) (sym c.deref-2.ensures.value) (c.in_ok-others.ensures.utf8 (subst (All HasTextDir) (sym c.split_at.ensures.back) (All-drop HasTextDir 1 c.args.names.now c.requires.utf8)))

pub returns-clause-agree : goal.returns-clause-agree
returns-clause-agree g c = agree _ _ c.in_ok-table.table.mode c.in_ok-other.other.mode c.in_ok-table.ensures.mode c.in_ok-other.ensures.first c.in_ok-other.ensures.mode
