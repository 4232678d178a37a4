use Rattle.std.proofs.Common.{◌∙◌, ℕ, ap, sym, map, subst}
use Rattle.std.specs.FinMap as finmap
use Rattle.std.proofs.lemmas.Result.{IfOk-weaker}
use Rattle.cov_table.specs.Key.{key_cmp}
use Rattle.cov_table.specs.Rows.{AllWithin, row_entry, counts_up_to, greatest_of}
use Rattle.cov_table.proofs.Walk.{no_entries}
use Rattle.cov_table.proofs.settle.rows_in_order.Goals as goal

pub returns-in_default-clause-entries : goal.returns-in_default-clause-entries
returns-in_default-clause-entries c =
    ap (map (row_entry c.args.texts.now)) c.new.ensures.items
    ∙ sym (no_entries key_cmp)
    ∙ ap (λ r. finmap.entries (counts_up_to (greatest_of c.args.mode) c.args.texts.now r)) (sym (c.requires c.in_default.is))

pub returns-clause-within : goal.returns-clause-within
returns-clause-within c =
    IfOk-weaker c.combine.result (λ v. (n : ℕ) → AllWithin n c.deref.result.now → AllWithin n v.items) (λ v. (n : ℕ) → AllWithin n c.args.rows.now → AllWithin n v.items)
    (λ v within n w. within n (subst (AllWithin n) (sym c.deref.ensures.value) (c.sort.ensures.within n (subst (AllWithin n) (sym c.in_ok-rows.ensures.items) w))))
    c.combine.ensures.within
