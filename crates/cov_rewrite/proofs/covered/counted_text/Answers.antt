use Rattle.std.proofs.Common.{◌≡◌, ◌++◌, List, length, sym, subst, ap, ◌∙◌}
use Rattle.std.specs.Prelude.{All}
use Rattle.std.specs.List.{flat_map}
use Rattle.cov_cut.specs.declared.unit.Unit.{Unit as CutUnit}
use Rattle.cov_cut.specs.Counted.{all_units}
use Rattle.cov_rewrite.specs.Additions.{pieces}
use Rattle.cov_rewrite.specs.Weaving.{woven}
use Rattle.cov_rewrite.specs.Trailer.{trailer}
use Rattle.cov_rewrite.specs.Covered.{line_directive, covered}
use Rattle.cov_rewrite.proofs.Parts.{three_parts}
use Rattle.cov_rewrite.proofs.CountedParts.{counted_parts}
use Rattle.cov_rewrite.proofs.Standing.{UpTo, pieces_within, pieces_are, units_within}
use Rattle.cov_rewrite.proofs.covered.counted_text.Goals as goal

pub weave-requires : goal.weave-requires
weave-requires c =
    let units : c.in_ok-units.units.items ≡ all_units c.args.file.now = c.in_ok-units.ensures ∙ ap (flat_map (λ f. f.units)) (c.deref.ensures.value ∙ c.in_ok-functions.ensures) in
    let found : c.in_ok-pieces.pieces.items ≡ pieces c.args.mode c.args.file.now =
    c.in_ok-pieces.ensures ∙ pieces_are c.args.mode c.args.file.now c.deref-2.result.now c.deref-3.result.now (c.deref-2.ensures.value ∙ c.in_ok-else_ifs.ensures) (c.deref-3.ensures.value ∙ units) in
    subst (All (UpTo (length c.args.text.now))) (sym found) (pieces_within c.args.mode c.args.text.now c.args.file.now c.requires.stands)

pub returns : goal.returns
returns c =
    let text = c.args.text.now in
    let var = c.args.var.now in
    let units : c.in_ok-units.units.items ≡ all_units c.args.file.now = c.in_ok-units.ensures ∙ ap (flat_map (λ f. f.units)) (c.deref.ensures.value ∙ c.in_ok-functions.ensures) in
    let found : c.in_ok-pieces.pieces.items ≡ pieces c.args.mode c.args.file.now =
    c.in_ok-pieces.ensures ∙ pieces_are c.args.mode c.args.file.now c.deref-2.result.now c.deref-3.result.now (c.deref-2.ensures.value ∙ c.in_ok-else_ifs.ensures) (c.deref-3.ensures.value ∙ units) in
    let count : c.len.result ≡ length (all_units c.args.file.now) = c.len.ensures ∙ c.in_ok-units.units.ok.0 ∙ ap length units in
    let whole : c.push_trailer.new.covered.items ≡ covered text c.args.file.now c.args.name.now var c.args.mode =
    three_parts c.push_line_directive.new.covered.items c.weave.new.covered.items c.push_trailer.new.covered.items
    (line_directive c.args.name.now) (woven var c.args.mode (pieces c.args.mode c.args.file.now) text) (trailer text var c.args.mode (all_units c.args.file.now))
    (c.in_ok-push_line_directive.ensures ∙ ap (λ t. t ++ line_directive c.args.name.now) c.new-covered.ensures.items)
    (c.in_ok-weave.ensures ∙ ap (λ ps. c.push_line_directive.new.covered.items ++ woven var c.args.mode ps text) found)
    (c.in_ok-push_trailer.ensures text c.in_ok-lines.ensures (units_within text c.args.file.now c.deref-4.result.now (c.deref-4.ensures.value ∙ units) c.requires.stands)
    ∙ ap (λ (us : List CutUnit). c.weave.new.covered.items ++ trailer text var c.args.mode us) (c.deref-4.ensures.value ∙ units)) in
    counted_parts c.from_vec.result (covered text c.args.file.now c.args.name.now var c.args.mode) c.len.result (length (all_units c.args.file.now)) (c.from_vec.ensures ∙ whole) count
