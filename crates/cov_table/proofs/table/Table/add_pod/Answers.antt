use Rattle.std.proofs.Common.{◌≡◌, ◌∙◌, ap, sym, subst, Option, Some, map}
use Rattle.cov_outside.specs.declared.mode.Mode.{Mode}
use Rattle.cov_table.specs.Coverage.{Coverage, extended, counts_of, package_of}
use Rattle.cov_table.specs.Refusal.{Agree}
use Rattle.cov_table.specs.Rows.{coverage_of}
use Rattle.cov_table.proofs.Tables.{kept_table, kept_coverage, same_table, same_coverage, more_table, more_coverage, on_err}
use Rattle.cov_table.proofs.Covered.{covered_pod}
use Rattle.cov_table.proofs.table.Table.add_pod.Goals as goal

pub invariant_of-self : goal.invariant_of-self
invariant_of-self c = kept_table _ _ _ _ _ c.gather_pod.ensures.kept c.self-2.invariant

pub returns-in_err-more-clause-err : goal.returns-in_err-more-clause-err
returns-in_err-more-clause-err c = on_err _ _ (kept_coverage _ _ _ _ _ c.gather_pod.ensures.kept c.self-2.invariant ∙ c.self-2.view_is ∙ c.in_ok-settle.ensures)

pub invariant_of-self-in_err-append : goal.invariant_of-self-in_err-append
invariant_of-self-in_err-append c = same_table _ _ _ _ _ _ (kept_table _ _ _ _ _ c.gather_pod.ensures.kept c.self-2.invariant) c.in_err-append.ensures.rows_kept c.in_err-append.ensures.packages_kept

pub returns-in_err-append-clause-err : goal.returns-in_err-append-clause-err
returns-in_err-append-clause-err c =
    on_err _ _ (same_coverage _ _ _ _ _ _ c.in_err-append.ensures.rows_kept c.in_err-append.ensures.packages_kept ∙ kept_coverage _ _ _ _ _ c.gather_pod.ensures.kept c.self-2.invariant ∙ c.self-2.view_is ∙ c.in_ok-settle.ensures)

pub invariant_of-self-2 : goal.invariant_of-self-2
invariant_of-self-2 c = more_table _ _ _ _ _ _ _ _ _ _ _ _ c.gather_pod.ensures.kept c.self-2.invariant c.in_ok-more.ensures.added (covered_pod c.args.pod.now.file.meta.packages c.args.pod.now.counts) c.in_ok-append.ensures.rows c.in_ok-append.ensures.packages

pub returns-clause-ok : goal.returns-clause-ok
returns-clause-ok c =
    let pod = c.args.pod.now in
    let mode = c.mode_of-mode.result in
    let before : coverage_of c.self-2.inside.mode c.self-2.inside.texts c.self-2.inside.rows.items c.self-2.inside.packages.items ≡ c.args.self.now = c.self-2.view_is ∙ c.in_ok-settle.ensures in
    let modes : c.self.inside.mode ≡ c.self-2.inside.mode = ap (λ (t : Coverage). t.mode) (c.self.view_is ∙ sym before) in
    let agree : Agree c.self-2.inside.mode (Some mode) = subst (λ (m : Option Mode). Agree m (Some mode)) modes c.in_ok-agree.ensures in
    more_coverage _ _ _ _ _ _ _ _ _ _ _ _ c.gather_pod.ensures.kept c.self-2.invariant c.in_ok-more.ensures.added agree c.in_ok-append.ensures.rows c.in_ok-append.ensures.packages
    ∙ ap (λ (t : Coverage). extended t mode (counts_of pod.file.meta.packages pod.counts) (map package_of pod.file.meta.packages)) before
    ∙ ap (λ (m : Mode). extended c.args.self.now m (counts_of pod.file.meta.packages pod.counts) (map package_of pod.file.meta.packages)) c.mode_of-mode.ensures
