use Rattle.std.proofs.Common.{◌≤◌, ◌∙◌, ap, length, arith, sym}
use Rattle.std.specs.Option.{option_map}
use Rattle.cov_table.specs.Package.{named_package}
use Rattle.cov_report.specs.Filter.{keeps}
use Rattle.cov_report.specs.Packages.{path_line}
use Rattle.cov_report.proofs.Lines.{lines_step, none_past}
use Rattle.cov_report.proofs.package_list.push_packages.Goals.{in-Some+in_ok-push_kept, in_default}
use Rattle.cov_report.proofs.package_list.push_packages.Goals as goal

pub loop-i-preserved : goal.loop-i-preserved
loop-i-preserved c =
    elim c.match-get.branch [
      | in-Some+in_ok-push_kept w ↦ rw w.text-is (lines_step path_line (λ p. keeps c.args.filter.now.patterns p.0) _ _ c.args.packages.now c.loop-i.i (named_package w.in-Some.package) (w.in-Some.ensures) w.in_ok-push_kept.ensures ∙ c.loop-i.invariant)
      | in_default w ↦ let past : length c.args.packages.now ≤ c.loop-i.i = none_past c.args.packages.now c.loop-i.i (ap (option_map named_package) (sym w.in_default.is) ∙ c.get.ensures) in absurd (omega arith)
    ]
