use Rattle.std.proofs.Common.{◌<◌, ◌≤◌, ◌^◌, length, arith}
use Rattle.std.specs.Prelude.{All}
use Rattle.std.specs.List.{flat_map}
use Rattle.cov_cut.specs.Units.{cut_in}
use Rattle.cov_cut.specs.Placement.{IsPlaced}
use Rattle.cov_rewrite.proofs.laws.a_tree_stands_in_its_text.Goals as goal

pub returns : goal.returns
returns c =
    λ most depth text tokens file short has spells.
    let placed : IsPlaced file = c.parsed.ensures.placed most depth text tokens file has spells in
    let ends : All (λ f. f.span.end ≤ length text) (flat_map cut_in file.decls) = c.parsed.ensures.ends most depth text tokens file has spells in
    let below : All (λ f. f.span.end < 2 ^ 32) (flat_map cut_in file.decls) = λ k d lt. let e = ends k d lt in omega arith in
    record {
      within = c.within.ensures file placed below;
      name = c.parsed.ensures.name most depth text tokens file has spells;
      units = c.bounds.ensures.units (length text) file placed ends;
      else_ifs = c.bounds.ensures.else_ifs (length text) file placed ends;
    }
