use Rattle.cov_table.specs.Rows.{unit_row}
use Rattle.cov_table.proofs.Zips.{map_step, map_ends, zip_ends}
use Rattle.std.proofs.Common.{◌∙◌}
use Rattle.cov_table.proofs.gather.add_units.Goals as goal

pub loop-unit-preserved : goal.loop-unit-preserved
loop-unit-preserved c =
    map_step (unit_row c.args.package_path c.args.file c.args.function c.args.from.now) c.loop-unit.rows.items _ c.in-Some.unit.now _ _ c.in-Some.count.now _ _ c.in-Some.ensures.steps.0 c.in-Some.ensures.steps.1 c.in_ok-push.ensures.items ∙ c.loop-unit.invariant

pub returns : goal.returns
returns c =
    map_ends (unit_row c.args.package_path c.args.file c.args.function c.args.from.now) _ _ _ _ (zip_ends c.loop-unit.unit-iterator.a c.loop-unit.unit-iterator.b c.in-None.ensures.steps) c.loop-unit.invariant
