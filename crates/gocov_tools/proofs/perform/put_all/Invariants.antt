use Rattle.std.proofs.Common.{◌≡◌}
use Rattle.gocov_tools.proofs.Puts.{after}
use Rattle.gocov_tools.proofs.perform.put_all.Given as goal

abbrev pub invariant-loop-put : goal.invariant-loop-put
invariant-loop-put g l = record {
  told : g.F.Files.tree l.files ≡ after (g.F.Files.tree l.fn.files) l.puts l.put-index;
  faults : g.F.Files.put_faults l.files ≡ g.F.Files.put_faults l.fn.files;
  reads : g.F.Files.read_faults l.files ≡ g.F.Files.read_faults l.fn.files;
}
