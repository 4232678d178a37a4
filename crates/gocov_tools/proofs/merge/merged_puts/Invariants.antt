use Rattle.std.proofs.Common.{◌≡◌, take}
use Rattle.std.specs.List.{flat_map}
use Rattle.gocov_tools.specs.Files.{merged_files}
use Rattle.gocov_tools.proofs.merge.merged_puts.Given as goal

abbrev pub invariant-loop-pod : goal.invariant-loop-pod
invariant-loop-pod l = l.puts ≡ flat_map (merged_files l.dir l.stamp) (take l.pod-index l.pods)
