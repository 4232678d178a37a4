use Rattle.std.proofs.Common.{◌≡◌, ◌-◌}
use Rattle.std.specs.Prelude.{IfSome}
use Rattle.cov_counter.specs.Reader.{IsReady, IsBefore}
use Rattle.cov_pods.specs.PodCounts.{IsCounted}
use Rattle.cov_pods.proofs.Entries.{SoFar}
use Rattle.cov_pods.specs.Stages.{offset_of}
use Rattle.cov_pods.proofs.counter_file.add_entries.Given as goal

abbrev pub invariant-loop : goal.invariant-loop
invariant-loop g l = record {
  reference : l.reader.files.ghost_name ≡ l.fn.reader.files.ghost_name;
  path : l.reader.path.now ≡ l.fn.reader.path.now;
  head : l.reader.head ≡ l.fn.reader.head;
  ready : IsReady g.F.Files.tree l.reader;
  left : IsBefore (l.entries - l.counter) l.reader.stage;
  counted : IsCounted l.meta l.counts;
  told : IfSome (g.F.Files.tree l.fn.reader.files.now) (SoFar l.meta l.path l.fn.reader.head l.fn.counts l.counts l.entries l.counter (offset_of l.fn.reader.stage) (offset_of l.reader.stage));
  same : g.F.Files.tree l.reader.files.now ≡ g.F.Files.tree l.fn.reader.files.now;
  reads : g.F.Files.read_faults l.reader.files.now ≡ g.F.Files.read_faults l.fn.reader.files.now;
  puts : g.F.Files.put_faults l.reader.files.now ≡ g.F.Files.put_faults l.fn.reader.files.now;
}
