use Rattle.std.proofs.Common.{◌≡◌, sym, ap, rules}
use Rattle.std.specs.Prelude.{unwrap_or}
use Rattle.std.specs.List.{HoldsAt}
use Rattle.std.specs.declared.cmp.Ordering.{Ordering}
use Rattle.std.specs.declared.cmp.Ordering.TheVariants.{Equal}
use Rattle.std.proofs.lemmas.Fn.{always_returns_same}
use Rattle.std.proofs.lemmas.List.Sorted.{searchable_from_sorted}
use Rattle.cov_table.specs.declared.row.Row.{Row}
use Rattle.cov_table.specs.Key.{Key, key_cmp}
use Rattle.cov_table.specs.Rows.{row_key}
use Rattle.cov_table.proofs.Keys.{key_total}
use Rattle.cov_table.proofs.Keeping.{find_at, find_none, sorted_from, apart}
use Rattle.cov_table.proofs.Settling.{zero_row}
use Rattle.cov_table.proofs.keep.count_at.Goals as goal

pub returns-in-Ok : goal.returns-in-Ok
returns-in-Ok c =
    let texts = c.args.texts.now in
    let rows = c.args.rows.now in
    let q : Key = row_key texts c.args.row.now in
    let ord : Row → Ordering = λ y. key_cmp (row_key texts y) q in
    let there : HoldsAt (λ y. ord y ≡ Equal) rows c.in-Ok.i = c.in-Ok.ensures.position ord (always_returns_same _ _ _ (λ a r f' k. search rules)) in
    sym (ap (λ o. unwrap_or o 0) (find_at key_cmp (row_key texts) (λ r. r.count) key_total q rows c.in-Ok.i zero_row c.in-Ok.ensures.bound c.requires (there zero_row)))

pub returns-in-Err : goal.returns-in-Err
returns-in-Err c =
    let texts = c.args.texts.now in
    let rows = c.args.rows.now in
    let q : Key = row_key texts c.args.row.now in
    let ord : Row → Ordering = λ y. key_cmp (row_key texts y) q in
    let split = c.in-Err.ensures.position ord (always_returns_same _ _ _ (λ a r f' k. search rules)) (searchable_from_sorted key_total (row_key texts) rows q (sorted_from key_cmp (row_key texts) (λ r. r.count) key_total rows c.requires)) in
    sym (ap (λ o. unwrap_or o 0) (find_none key_cmp (row_key texts) (λ r. r.count) key_total q rows (apart key_cmp (row_key texts) q rows c.in-Err.field-0 split.0 split.1)))
