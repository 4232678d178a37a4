use Rattle.std.proofs.Common.{◌≡◌, All, take}
use Rattle.std.specs.Prelude.{IfSome}
use Rattle.go_load.specs.Packages.{IsOf, SourceIn}
use Rattle.go_load.proofs.Steps.{Gave}
use Rattle.go_load.proofs.source.read_sources.Given as goal

abbrev pub invariant-loop-name : goal.invariant-loop-name
invariant-loop-name g l = record {
  told : IfSome (g.F.Files.tree l.fn.files) (λ t. Gave (SourceIn (g.S.ReadsSource.gives l.reader) t l.dir) (take l.name-index l.names) l.sources.items);
  read : All (IsOf (g.S.ReadsSource.gives l.reader)) l.sources.items;
  same : g.F.Files.tree l.files ≡ g.F.Files.tree l.fn.files;
  reads : g.F.Files.read_faults l.files ≡ g.F.Files.read_faults l.fn.files;
  puts : g.F.Files.put_faults l.files ≡ g.F.Files.put_faults l.fn.files;
}
