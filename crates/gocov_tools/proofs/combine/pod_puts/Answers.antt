use Rattle.std.proofs.Common.{subst, sym, All}
use Rattle.gocov_tools.specs.Files.{HasFewCounts}
use Rattle.gocov_tools.proofs.combine.pod_puts.Goals as goal

pub write_counters-requires : goal.write_counters-requires
write_counters-requires c = subst (All HasFewCounts) (sym c.as_slice.ensures) (c.requires c.in_ok-measure.ensures.keeps.few_units)
