use Rattle.std.proofs.Common.{ℕ, arith, rules}
use Rattle.std.specs.Prelude.{◌==◌, if◌then◌else◌}
use Rattle.cov_table.specs.Key.{Key}
use Rattle.cov_table.specs.Unit.{unit_entry}
use Rattle.cov_report.proofs.Sharing.{stepped, stopped, passed}
use Rattle.cov_report.proofs.share.share_of.Goals as goal

abbrev statements : Key × ℕ → ℕ
statements u = u.0.statements

abbrev covered : Key × ℕ → ℕ
covered u = if u.1 == 0 then 0 else u.0.statements

pub returns-in_default-with_unit-clause-statements : goal.returns-in_default-with_unit-clause-statements
returns-in_default-with_unit-clause-statements c =
    stopped statements c.args.path.now (unit_entry c.in-Some.unit) c.args.units.now c.loop-i.i _ _ c.requires c.in-Some.ensures c.in_default-with_unit.ensures.found c.loop-i.invariant.statements

pub returns-in_default-with_unit-clause-covered : goal.returns-in_default-with_unit-clause-covered
returns-in_default-with_unit-clause-covered c =
    stopped covered c.args.path.now (unit_entry c.in-Some.unit) c.args.units.now c.loop-i.i _ _ c.requires c.in-Some.ensures c.in_default-with_unit.ensures.found c.loop-i.invariant.covered

pub loop-i-preserved : goal.loop-i-preserved
loop-i-preserved c =
    let found = c.in-Some-with_unit.ensures.found in
    let small = c.in-Some-with_unit.ensures.small in
    let u = unit_entry c.in-Some.unit in
    record {
      at = search rules;
      statements = stepped statements c.args.path.now u c.args.units.now c.loop-i.i _ _ _ c.in-Some.ensures found.1 c.loop-i.invariant.statements;
      covered = stepped covered c.args.path.now u c.args.units.now c.loop-i.i _ _ _ c.in-Some.ensures found.2 c.loop-i.invariant.covered;
      few_statements = omega (arith, small.0, c.loop-i.invariant.few_statements);
      few_covered = omega (arith, small.1, c.loop-i.invariant.few_covered);
      later = λ q l. passed c.args.path.now q u c.args.units.now _ c.loop-i.i c.in-Some.ensures found.0 l (c.loop-i.invariant.later q l);
    }
