use Rattle.std.proofs.Common.{take}
use Rattle.std.specs.Prelude.{All}
use Rattle.std.specs.List.{flat_map}
use Rattle.cov_cut.specs.Units.{cut_in, func_lists, Fits}
use Rattle.cov_cut.proofs.tests.within.is_within.Given as goal

abbrev pub invariant-loop-decl : goal.invariant-loop-decl
invariant-loop-decl l = All (λ f. All Fits (func_lists f)) (flat_map cut_in (take l.decl-index l.decl-items))
