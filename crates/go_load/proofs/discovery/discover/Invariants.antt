use Rattle.std.proofs.Common.{◌≡◌, ◌-◌, ◌≤◌, All, length}
use Rattle.std.specs.Prelude.{IfSome}
use Rattle.go_load.specs.Packages.{AreFound, IsPackagePath, IsPackageRead, met}
use Rattle.go_load.proofs.discovery.discover.Given as goal

abbrev pub invariant-loop-founds : goal.invariant-loop-founds
invariant-loop-founds g l = record {
  few : length l.founds.items ≤ 1000;
  paths : All (IsPackagePath l.home) l.met;
  met_are : l.met ≡ met l.home l.founds.items;
  told : IfSome (g.F.Files.tree l.fn.files) (λ t. AreFound (g.S.ReadsSource.gives l.reader) t l.home l.founds.items);
  read : All (IsPackageRead (g.S.ReadsSource.gives l.reader)) l.founds.items;
  same : g.F.Files.tree l.files ≡ g.F.Files.tree l.fn.files;
  reads : g.F.Files.read_faults l.files ≡ g.F.Files.read_faults l.fn.files;
  puts : g.F.Files.put_faults l.files ≡ g.F.Files.put_faults l.fn.files;
}

abbrev pub decreases-loop-founds : goal.decreases-loop-founds
decreases-loop-founds g l = 1000 - length l.founds.items
