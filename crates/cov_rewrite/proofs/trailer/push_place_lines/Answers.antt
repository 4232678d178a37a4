use Rattle.std.proofs.Common.{◌++◌, get_or, ap₂, ◌∙◌}
use Rattle.cov_cut.specs.declared.unit.Unit.{Unit as CutUnit}
use Rattle.cov_rewrite.specs.Trailer.{place_line, unit_place_line}
use Rattle.cov_rewrite.proofs.Rows.{line_at, itself}
use Rattle.cov_rewrite.proofs.trailer.push_place_lines.Goals as goal

pub loop-i-preserved : goal.loop-i-preserved
loop-i-preserved c =
    λ text lines within.
    let none : CutUnit = record { start = 0; end = 0; insert = 0; statements = 0 } in
    let u : CutUnit = get_or c.args.units.now c.loop-i.i none in
    let inside = within c.loop-i.i none c.loop-i-test.true in
    line_at (unit_place_line text) c.args.units.now c.loop-i.i u _ _ _ c.loop-i-test.true (itself c.args.units.now c.loop-i.i none c.loop-i-test.true) (c.loop-i.invariant text lines within)
    (c.in_ok-push_place.ensures
    ∙ ap₂ (λ start end. c.loop-i.covered.items ++ place_line c.loop-i.i start end) (c.place-start.ensures text lines inside.0) (c.place-end.ensures text lines inside.1))
