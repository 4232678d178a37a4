use Rattle.std.proofs.Common.{◌≡◌, ◌∙◌, ap, sym, subst, map, length, List, ℕ, T}
use Rattle.std.specs.FinMap as finmap
use Rattle.cov_table.specs.declared.row.Row.{Row}
use Rattle.cov_table.specs.Key.{Key, key_cmp}
use Rattle.cov_table.specs.Coverage.{Coverage}
use Rattle.cov_table.specs.Keeping.{kept_row}
use Rattle.cov_table.specs.Rows.{AllWithin, row_entry, counts_up_to, greatest_of}
use Rattle.cov_table.proofs.Tables.{kept_table, kept_coverage, on_err}
use Rattle.cov_table.proofs.Kept.{kept_is_table, kept_means}
use Rattle.cov_table.proofs.table.Table.keep.Goals as goal

pub gather_rows-requires-clause-rows_within : goal.gather_rows-requires-clause-rows_within
gather_rows-requires-clause-rows_within c =
    let n : ℕ = length c.other.inside.texts in
    subst (AllWithin n) (sym c.deref-2.ensures.value) (c.in_ok-others.ensures.within n (subst (AllWithin n) (sym c.deref.ensures.value) c.other.invariant.rows_within))

pub invariant_of-self : goal.invariant_of-self
invariant_of-self c = kept_table _ _ _ _ _ c.gather_rows.ensures.kept c.self.invariant

pub returns-in_err-others-2-clause-err : goal.returns-in_err-others-2-clause-err
returns-in_err-others-2-clause-err c = on_err _ _ (kept_coverage _ _ _ _ _ c.gather_rows.ensures.kept c.self.invariant ∙ c.self.view_is)

pub kept_rows-requires : goal.kept_rows-requires
kept_rows-requires c =
    let other = c.other.inside in
    let texts = c.gather_rows.new.texts in
    let there : map (row_entry texts) c.deref-4.result.now ≡ finmap.entries (counts_up_to (greatest_of other.mode) other.texts c.deref.result.now) =
    ap (map (row_entry texts)) c.deref-4.ensures.value ∙ c.in_ok-others-2.ensures.added.counts_are ∙ ap (map (row_entry other.texts)) c.deref-2.ensures.value ∙ c.in_ok-others.ensures.entries in
    subst (λ (es : List (Key × ℕ)). T (finmap.is_sorted key_cmp es)) (sym there) (finmap.entries_sorted _)

pub invariant_of-self-in_err-self-inside : goal.invariant_of-self-in_err-self-inside
invariant_of-self-in_err-self-inside c = kept_table _ _ _ _ _ c.gather_rows.ensures.kept c.self.invariant

pub returns-in_err-self-inside-clause-err : goal.returns-in_err-self-inside-clause-err
returns-in_err-self-inside-clause-err c = on_err _ _ (kept_coverage _ _ _ _ _ c.gather_rows.ensures.kept c.self.invariant ∙ c.self.view_is)

pub invariant_of-self-2 : goal.invariant_of-self-2
invariant_of-self-2 c =
    kept_is_table c.self.inside.mode c.self.inside.texts c.gather_rows.new.texts c.self.inside.rows.items _ c.deref-4.result.now c.self.inside.packages.items c.args.keeps c.gather_rows.ensures.kept c.self.invariant
    (c.in_ok-self-inside.ensures ∙ ap (map (kept_row c.args.keeps c.gather_rows.new.texts c.deref-4.result.now)) c.deref-3.ensures.value)

pub returns-clause-ok : goal.returns-clause-ok
returns-clause-ok c =
    let other = c.other.inside in
    let texts = c.gather_rows.new.texts in
    let there : map (row_entry texts) c.deref-4.result.now ≡ finmap.entries c.args.other.now.counts =
    ap (map (row_entry texts)) c.deref-4.ensures.value
    ∙ c.in_ok-others-2.ensures.added.counts_are
    ∙ ap (map (row_entry other.texts)) c.deref-2.ensures.value
    ∙ c.in_ok-others.ensures.entries
    ∙ ap (λ (rows : List Row). finmap.entries (counts_up_to (greatest_of other.mode) other.texts rows)) c.deref.ensures.value
    ∙ ap (λ (t : Coverage). finmap.entries t.counts) c.other.view_is in
    kept_means c.self.inside.mode c.self.inside.texts texts c.self.inside.rows.items _ c.deref-4.result.now c.self.inside.packages.items c.args.keeps c.args.self.now c.args.other.now c.gather_rows.ensures.kept c.self.invariant c.self.view_is there
    (c.in_ok-self-inside.ensures ∙ ap (map (kept_row c.args.keeps texts c.deref-4.result.now)) c.deref-3.ensures.value)
