use Rattle.std.proofs.Common.{◌≡◌, length}
use Rattle.std.specs.Prelude.{IfSome}
use Rattle.cov_pods.specs.PodCounts.{IsCounted}
use Rattle.cov_pods.proofs.PodFiles.{SoFar}
use Rattle.cov_pods.proofs.decode.add_files.Given as goal

abbrev pub invariant-loop-path : goal.invariant-loop-path
invariant-loop-path g l = record {
  counted : IsCounted l.file.meta l.counts;
  heads : length l.heads.items ≡ l.path-index;
  told : IfSome (g.F.Files.tree l.fn.files) (SoFar l.file l.fn.counts l.counts l.heads.items l.paths l.path-index);
  same : g.F.Files.tree l.files ≡ g.F.Files.tree l.fn.files;
  reads : g.F.Files.read_faults l.files ≡ g.F.Files.read_faults l.fn.files;
  puts : g.F.Files.put_faults l.files ≡ g.F.Files.put_faults l.fn.files;
}
