use Rattle.std.proofs.Common.{length}
use Rattle.cov_rewrite.specs.Trailer.{type_text, places_text, statements_text, use_text}
use Rattle.cov_rewrite.proofs.Parts.{by_name, four_parts}
use Rattle.cov_rewrite.proofs.trailer.push_trailer.Goals as goal

pub returns : goal.returns
returns c =
    λ text lines within.
    four_parts c.args.covered.now.items _ _ _ _ (type_text c.args.var.now (length c.args.units.now)) (places_text text c.args.units.now) (statements_text c.args.units.now) (use_text c.args.mode)
    c.in_ok-push_type.ensures (c.in_ok-push_places.ensures text lines within) c.in_ok-push_statements.ensures
    (by_name _ _ _ (use_text c.args.mode) c.in_ok-extend_from_slice.ensures.items c.use_line.ensures)
