use Rattle.std.proofs.Common.{◌≡◌, ◌∙◌, [], map, sym, ap}
use Rattle.cov_table.specs.declared.row.Row.{Row}
use Rattle.cov_table.specs.PodOf.{unit_out}
use Rattle.cov_table.specs.Rows.{row_entry, text_at}
use Rattle.cov_table.proofs.PodRows.{map_map}
use Rattle.cov_table.proofs.pod_out.function_from.Goals as goal

pub returns : goal.returns
returns c =
    let texts = c.args.texts.now in
    let group = c.args.group.now in
    let name : c.in_ok-of.field-0 ≡ text_at texts group.first.function = c.in_ok-of.ensures ∙ c.text_of.ensures in
    let file : c.in_ok-of-2.field-0 ≡ text_at texts group.first.file = c.in_ok-of-2.ensures ∙ c.text_of-2.ensures in
    let units : c.from_vec.result ≡ map unit_out (map (row_entry texts) group.rows.items) =
    c.from_vec.ensures ∙ c.in_ok-units_from.ensures ∙ ap (map (λ (r : Row). unit_out (row_entry [] r))) c.deref.ensures.value ∙ sym (map_map unit_out (row_entry texts) group.rows.items) in
    λ i. record { name = name i; file = file i; literal = group.first.literal; units = units i }
