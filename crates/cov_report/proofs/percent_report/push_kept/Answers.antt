use Rattle.std.proofs.Common.{◌≡◌, ◌∙◌, ◌++◌, ◌∷◌, [], ℕ, List, Bool, true, cond, ap, sym, append-nil}
use Rattle.std.specs.List.{flat_map}
use Rattle.cov_table.specs.Package.{named_package}
use Rattle.cov_report.specs.Filter.{keeps}
use Rattle.cov_report.specs.Shares.{units_of, statements_of, covered_of, share_line, percent_line}
use Rattle.cov_report.proofs.percent_report.push_kept.Goals as goal

pub returns-in_ok-push_line-clause-line : goal.returns-in_ok-push_line-clause-line
returns-in_ok-push_line-clause-line c =
    let path = c.args.from.now.path.now in
    let units = c.args.units.now in
    let text : List ℕ = c.args.text.now.items in
    let kept : keeps c.args.filter.now.patterns path ≡ true = sym c.keeps.ensures ∙ c.if-keeps.true in
    let covered : c.share_of-share.result.covered ≡ covered_of (units_of path units) = c.share_of-share.ensures.covered ∙ ap covered_of c.requires.here in
    let statements : c.share_of-share.result.statements ≡ statements_of (units_of path units) = c.share_of-share.ensures.statements ∙ ap statements_of c.requires.here in
    c.in_ok-push_line.ensures
    ∙ (λ i. text ++ share_line path (covered i) (statements i))
    ∙ ap (λ (t : List ℕ). text ++ t) (sym (append-nil (percent_line units (named_package c.args.from.now))))
    ∙ ap (λ (b : Bool). text ++ flat_map (percent_line units) (cond b (named_package c.args.from.now ∷ []) [])) (sym kept)
