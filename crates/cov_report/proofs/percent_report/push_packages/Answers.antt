use Rattle.std.proofs.Common.{◌≤◌, ◌∙◌, ap, length, arith, sym}
use Rattle.std.specs.Option.{option_map}
use Rattle.cov_table.specs.Key.{text_cmp}
use Rattle.cov_table.specs.Package.{named_package}
use Rattle.cov_report.specs.Filter.{keeps}
use Rattle.cov_report.specs.Shares.{percent_line}
use Rattle.cov_report.proofs.Lines.{lines_step, none_past}
use Rattle.cov_report.proofs.Rising.{rising}
use Rattle.cov_report.proofs.percent_report.push_packages.Goals.{in-Some+in_ok-push_kept, in_default}
use Rattle.cov_report.proofs.percent_report.push_packages.Goals as goal

pub loop-i-preserved : goal.loop-i-preserved
loop-i-preserved c =
    elim c.match-get.branch [
      | in-Some+in_ok-push_kept w ↦
          let here = named_package w.in-Some.package in
          rw (w.text-is, w.at-is) (record {
            lines = lines_step (percent_line c.args.units.now) (λ p. keeps c.args.filter.now.patterns p.0) _ _ c.args.packages.now c.loop-i.i here w.in-Some.ensures w.in_ok-push_kept.ensures.line ∙ c.loop-i.invariant.lines;
            ahead = λ k p le at. w.in_ok-push_kept.ensures.later p.0 (rising text_cmp c.args.packages.now c.loop-i.i k here p c.requires.packages_sorted w.in-Some.ensures at (omega arith)) ∙ c.loop-i.invariant.ahead k p (omega arith) at;
          })
      | in_default w ↦ let past : length c.args.packages.now ≤ c.loop-i.i = none_past c.args.packages.now c.loop-i.i (ap (option_map named_package) (sym w.in_default.is) ∙ c.get.ensures) in absurd (omega arith)
    ]
