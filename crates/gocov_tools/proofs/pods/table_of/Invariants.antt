use Rattle.std.proofs.Common.{◌≡◌}
use Rattle.std.specs.Prelude.{IfSome}
use Rattle.gocov_tools.specs.Modes.{HasModeOf, KeepsMode}
use Rattle.gocov_tools.proofs.Tables.{SoFar}
use Rattle.gocov_tools.proofs.pods.table_of.Given as goal

abbrev pub invariant-loop-pod : goal.invariant-loop-pod
invariant-loop-pod g l = record {
  told : IfSome (g.F.Files.tree l.fn.files) (SoFar l.fn.reading l.reading l.table l.pods l.pod-index);
  mode : HasModeOf l.reading.first l.table.mode;
  first : KeepsMode l.fn.reading.first l.reading.first;
  same : g.F.Files.tree l.files ≡ g.F.Files.tree l.fn.files;
  reads : g.F.Files.read_faults l.files ≡ g.F.Files.read_faults l.fn.files;
  puts : g.F.Files.put_faults l.files ≡ g.F.Files.put_faults l.fn.files;
}
