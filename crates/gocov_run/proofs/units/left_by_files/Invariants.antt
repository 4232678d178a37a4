use Rattle.std.proofs.Common.{◌≡◌, ◌+◌, take}
use Rattle.std.specs.Prelude.{sum_by}
use Rattle.gocov_run.specs.Units as spec
use Rattle.gocov_run.proofs.units.left_by_files.Given as goal

abbrev pub invariant-loop-file : goal.invariant-loop-file
invariant-loop-file l = l.left + sum_by spec.units_in_file (take l.file-index l.files) ≡ l.many
