use Rattle.std.proofs.Common.{◌≡◌, ◌≤◌, ◌-◌, vec_len}
use Rattle.cov_counter.proofs.Fronts.{IsFrontIn}
use Rattle.cov_counter.proofs.held.Held.read.Given as goal

abbrev pub invariant-more : goal.invariant-more
invariant-more g l = record {
  within : vec_len l.bytes ≤ 268435456;
  same : g.F.Files.tree l.files ≡ g.F.Files.tree l.fn.files;
  reads : g.F.Files.read_faults l.files ≡ g.F.Files.read_faults l.fn.files;
  puts : g.F.Files.put_faults l.files ≡ g.F.Files.put_faults l.fn.files;
  front : IsFrontIn (g.F.Files.tree l.files) l.path l.bytes.items;
}

abbrev pub decreases-more : goal.decreases-more
decreases-more g l = 268435456 - vec_len l.bytes
