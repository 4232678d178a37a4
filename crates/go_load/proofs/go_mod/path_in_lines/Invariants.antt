use Rattle.std.proofs.Common.{◌≡◌, ◌≤◌, length, map}
use Rattle.std.specs.List.{slice_split}
use Rattle.std.specs.Option.{option_copied}
use Rattle.go_load.specs.GoMod as spec
use Rattle.go_load.specs.GoModLines.{path_behind}
use Rattle.go_load.proofs.go_mod.path_in_lines.Given as goal

abbrev pub invariant-loop-end : goal.invariant-loop-end
invariant-loop-end l = record {
  within : length l.rest ≤ length l.text;
  same : spec.path_in_lines (map spec.content (slice_split spec.is_newline l.text)) ≡ path_behind (option_copied l.seen.path) l.seen.version (map spec.content (slice_split spec.is_newline l.rest));
}

abbrev pub decreases-loop-end : goal.decreases-loop-end
decreases-loop-end l = length l.rest
