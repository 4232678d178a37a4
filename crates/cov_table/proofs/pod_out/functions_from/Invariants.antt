use Rattle.std.proofs.Common.{◌≡◌, map, take}
use Rattle.cov_table.specs.PodOf.{function_out}
use Rattle.cov_table.specs.Grouping.{group_entry}
use Rattle.cov_table.proofs.pod_out.functions_from.Given as goal

abbrev pub invariant-loop-group : goal.invariant-loop-group
invariant-loop-group l = l.functions.items ≡ map (λ g. function_out (group_entry l.texts g)) (take l.group-index l.groups)
