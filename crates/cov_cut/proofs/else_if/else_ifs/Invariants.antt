use Rattle.std.proofs.Common.{◌≡◌, ◌++◌, drop}
use Rattle.std.specs.List.{flat_map}
use Rattle.cov_cut.specs.Units.{cut_in, func_lists}
use Rattle.cov_cut.specs.Counted.{else_ifs_in, else_ifs_of}
use Rattle.cov_cut.proofs.else_if.else_ifs.Given as goal

abbrev pub invariant-loop-decl : goal.invariant-loop-decl
invariant-loop-decl l = l.spans.items ++ else_ifs_in (flat_map func_lists (flat_map cut_in (drop l.decl-index l.decl-items))) ≡ else_ifs_of l.file
