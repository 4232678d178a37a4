use Rattle.std.proofs.Common.{◌≡◌, All}
use Rattle.std.specs.Prelude.{IfSome}
use Rattle.gocov_tools.specs.Reading.{HasFewUnits}
use Rattle.gocov_tools.proofs.Tables.{ReadUpTo}
use Rattle.gocov_tools.proofs.pods.read_pods.Given as goal

abbrev pub invariant-loop-pod : goal.invariant-loop-pod
invariant-loop-pod g l = record {
  told : IfSome (g.F.Files.tree l.fn.files) (ReadUpTo l.fn.reading l.reading l.read.items l.pods l.pod-index);
  small : All HasFewUnits l.read.items;
  same : g.F.Files.tree l.files ≡ g.F.Files.tree l.fn.files;
  reads : g.F.Files.read_faults l.files ≡ g.F.Files.read_faults l.fn.files;
  puts : g.F.Files.put_faults l.files ≡ g.F.Files.put_faults l.fn.files;
}
