use Rattle.std.proofs.Common.{◌≡◌, All, length, map, take}
use Rattle.std.specs.Prelude.{IfSome}
use Rattle.cov_pods.specs.Paths.{HasTextDir}
use Rattle.gocov_tools.specs.Listing.{dir_in}
use Rattle.gocov_tools.proofs.listing.list_dirs.Given as goal

abbrev pub invariant-loop-dir : goal.invariant-loop-dir
invariant-loop-dir g l = record {
  count : length l.names.items ≡ l.dir-index;
  utf8 : All HasTextDir l.names.items;
  told : IfSome (g.F.Files.tree l.fn.files) (λ t. l.names.items ≡ map (dir_in t) (take l.dir-index l.dirs));
  same : g.F.Files.tree l.files ≡ g.F.Files.tree l.fn.files;
  reads : g.F.Files.read_faults l.files ≡ g.F.Files.read_faults l.fn.files;
  puts : g.F.Files.put_faults l.files ≡ g.F.Files.put_faults l.fn.files;
}
