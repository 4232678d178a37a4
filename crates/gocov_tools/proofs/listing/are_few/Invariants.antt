use Rattle.std.proofs.Common.{◌≡◌, ◌+◌, take}
use Rattle.std.specs.Prelude.{sum_by}
use Rattle.gocov_tools.specs.Listing.{data_files_in}
use Rattle.gocov_tools.proofs.listing.are_few.Given as goal

abbrev pub invariant-loop-dir : goal.invariant-loop-dir
invariant-loop-dir l = l.left + sum_by data_files_in (take l.dir-index l.dirs) ≡ 65536
