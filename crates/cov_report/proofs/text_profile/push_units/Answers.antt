use Rattle.std.proofs.Common.{◌≤◌, ◌∙◌, ap, length, arith, sym}
use Rattle.std.specs.Option.{option_map}
use Rattle.cov_table.specs.Unit.{unit_entry}
use Rattle.cov_report.specs.Filter.{keeps}
use Rattle.cov_report.specs.TextProfile.{unit_line}
use Rattle.cov_report.proofs.Lines.{lines_step, none_past}
use Rattle.cov_report.proofs.text_profile.push_units.Goals.{in-Some+in_ok-push_kept, in_default}
use Rattle.cov_report.proofs.text_profile.push_units.Goals as goal

pub loop-i-preserved : goal.loop-i-preserved
loop-i-preserved c =
    elim c.match-get.branch [
      | in-Some+in_ok-push_kept w ↦ rw w.text-is (lines_step unit_line (λ u. keeps c.args.filter.now.patterns u.0.package_path) _ _ c.args.units.now c.loop-i.i (unit_entry w.in-Some.unit) (w.in-Some.ensures) w.in_ok-push_kept.ensures ∙ c.loop-i.invariant)
      | in_default w ↦ let past : length c.args.units.now ≤ c.loop-i.i = none_past c.args.units.now c.loop-i.i (ap (option_map unit_entry) (sym w.in_default.is) ∙ c.get.ensures) in absurd (omega arith)
    ]
