use Rattle.std.proofs.Common.{subst, sym, ap, All, ◌∙◌}
use Rattle.gocov_tools.specs.Files.{HasFewCounts}
use Rattle.cov_table.specs.PodOf.{entries_out}
use Rattle.gocov_tools.specs.Reading.{HasFewUnits}
use Rattle.gocov_tools.proofs.EntriesFit.{entries_fit}
use Rattle.gocov_tools.proofs.merge.push_merged.Goals as goal

pub write_counters-requires : goal.write_counters-requires
write_counters-requires c =
    subst (All HasFewCounts) (sym (c.deref.ensures.value ∙ c.in_ok-entries.ensures ∙ ap entries_out c.as_slice.ensures))
    (entries_fit c.pod.inside.file.meta.packages c.pod.inside.counts c.pod.invariant.each_unit (subst HasFewUnits (sym c.pod.view_is) c.requires))
