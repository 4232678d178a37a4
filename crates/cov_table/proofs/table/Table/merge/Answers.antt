use Rattle.std.proofs.Common.{◌≡◌, ◌∙◌, ap, sym, subst, Option, Some, List, map}
use Rattle.cov_outside.specs.declared.mode.Mode.{Mode}
use Rattle.cov_table.specs.Coverage.{Coverage, extended}
use Rattle.cov_table.specs.Refusal.{Agree}
use Rattle.cov_table.specs.declared.row.Row.{Row}
use Rattle.cov_table.specs.declared.row.PackageRow.{PackageRow}
use Rattle.cov_table.specs.Rows.{row_entry, package_entry, coverage_of, IsCovered}
use Rattle.cov_table.proofs.Tables.{kept_table, kept_coverage, same_table, same_coverage, more_table, more_coverage, merged_rows, on_err}
use Rattle.cov_table.proofs.table.Table.merge.Goals as goal

pub invariant_of-self : goal.invariant_of-self
invariant_of-self c = kept_table _ _ _ _ _ c.gather_rows.ensures.kept c.self-2.invariant

pub returns-in_err-more-clause-err : goal.returns-in_err-more-clause-err
returns-in_err-more-clause-err c = on_err _ _ (kept_coverage _ _ _ _ _ c.gather_rows.ensures.kept c.self-2.invariant ∙ c.self-2.view_is ∙ c.in_ok-settle.ensures)

pub invariant_of-self-in_err-append : goal.invariant_of-self-in_err-append
invariant_of-self-in_err-append c = same_table _ _ _ _ _ _ (kept_table _ _ _ _ _ c.gather_rows.ensures.kept c.self-2.invariant) c.in_err-append.ensures.rows_kept c.in_err-append.ensures.packages_kept

pub returns-in_err-append-clause-err : goal.returns-in_err-append-clause-err
returns-in_err-append-clause-err c =
    on_err _ _ (same_coverage _ _ _ _ _ _ c.in_err-append.ensures.rows_kept c.in_err-append.ensures.packages_kept ∙ kept_coverage _ _ _ _ _ c.gather_rows.ensures.kept c.self-2.invariant ∙ c.self-2.view_is ∙ c.in_ok-settle.ensures)

pub invariant_of-self-2 : goal.invariant_of-self-2
invariant_of-self-2 c = more_table _ _ _ _ _ _ _ _ _ _ _ _ c.gather_rows.ensures.kept c.self-2.invariant c.in_ok-more.ensures.added
    (subst (λ (rows : List Row). IsCovered (map (row_entry c.other.inside.texts) rows) (map (package_entry c.other.inside.texts) c.deref-2.result.now)) (sym c.deref.ensures.value) (subst (λ (rows : List PackageRow). IsCovered (map (row_entry c.other.inside.texts) c.other.inside.rows.items) (map (package_entry c.other.inside.texts) rows)) (sym c.deref-2.ensures.value) c.other.invariant.covered))
    c.in_ok-append.ensures.rows c.in_ok-append.ensures.packages

pub returns-clause-ok : goal.returns-clause-ok
returns-clause-ok c =
    let other = c.other.inside in
    let mode = c.in-Some.mode in
    let before : coverage_of c.self-2.inside.mode c.self-2.inside.texts c.self-2.inside.rows.items c.self-2.inside.packages.items ≡ c.args.self.now = c.self-2.view_is ∙ c.in_ok-settle.ensures in
    let modes : c.self.inside.mode ≡ c.self-2.inside.mode = ap (λ (t : Coverage). t.mode) (c.self.view_is ∙ sym before) in
    let agree : Agree c.self-2.inside.mode (Some mode) = subst (λ (m : Option Mode). Agree m (Some mode)) modes (subst (λ (m : Option Mode). Agree c.self.inside.mode m) c.in-Some.is c.in_ok-agree.ensures) in
    let there : coverage_of (Some mode) other.texts other.rows.items other.packages.items ≡ c.args.other.now = ap (λ (m : Option Mode). coverage_of m other.texts other.rows.items other.packages.items) (sym c.in-Some.is) ∙ c.other.view_is in
    more_coverage _ _ _ _ _ _ _ _ _ _ _ _ c.gather_rows.ensures.kept c.self-2.invariant c.in_ok-more.ensures.added agree c.in_ok-append.ensures.rows c.in_ok-append.ensures.packages
    ∙ (λ i. extended (before i) mode (map (row_entry other.texts) (c.deref.ensures.value i)) (map (package_entry other.texts) (c.deref-2.ensures.value i)))
    ∙ merged_rows c.args.self.now mode other.texts other.rows.items other.packages.items c.args.other.now there
