use Rattle.std.proofs.Common.{◌+◌, ◌<◌, ◌≤◌, length, arith}
use Rattle.std.specs.Prelude.{All}
use Rattle.std.specs.List.{flat_map}
use Rattle.cov_cut.specs.Placement.{IsPlaced}
use Rattle.cov_cut.specs.Units.{cut_in}
use Rattle.cov_cut.specs.Counted.{all_units}
use Rattle.cov_tokens.proofs.Covered.{covered_spelled}
use Rattle.cov_tokens.proofs.Derived.{placed}
use Rattle.cov_tokens.proofs.Few.{few}
use Rattle.cov_tokens.proofs.laws.tokens_of_covered_source.Goals as goal

pub returns : goal.returns
returns c =
    λ most depth text name var m file tokens is one short has spells.
    let stands : IsPlaced file = c.parsed.ensures.placed most depth text tokens file has spells in
    let ends : All (λ f. f.span.end ≤ length text) (flat_map cut_in file.decls) = c.parsed.ensures.ends most depth text tokens file has spells in
    let within = c.bounds.ensures.units (length text) file stands ends in
    let below : All (λ u. u.insert < length text + 1) (all_units file) = λ k d lt. let h = (within k d lt).2 in omega arith in
    let count : length (all_units file) ≤ length text + 1 = few (length text + 1) (all_units file) below (c.order.ensures.apart file stands) in
    covered_spelled text name var m file tokens is one short (omega arith) has (placed most depth text tokens m file has spells)
