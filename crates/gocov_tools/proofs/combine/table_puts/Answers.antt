use Rattle.std.proofs.Common.{sym, ◌∙◌}
use Rattle.gocov_tools.proofs.EntriesFit.{short_entries}
use Rattle.gocov_tools.proofs.combine.table_puts.Goals as goal

pub pod_puts-requires : goal.pod_puts-requires
pod_puts-requires c = short_entries c.args.table.now c.in-Some.pod (sym c.in-Some.is ∙ c.in_ok-to_pod.ensures.pod)
