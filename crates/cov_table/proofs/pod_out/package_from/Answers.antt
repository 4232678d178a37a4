use Rattle.std.proofs.Common.{◌≡◌, ◌∙◌, sym, map}
use Rattle.cov_table.specs.PodOf.{function_out}
use Rattle.cov_table.specs.Grouping.{group_entry}
use Rattle.cov_table.specs.Rows.{text_at}
use Rattle.cov_table.proofs.PodRows.{map_map}
use Rattle.cov_table.proofs.pod_out.package_from.Goals as goal

pub returns : goal.returns
returns c =
    let texts = c.args.texts.now in
    let name : c.in_ok-of.field-0 ≡ text_at texts c.args.row.now.name = c.in_ok-of.ensures ∙ c.text_of.ensures in
    let path : c.in_ok-of-2.field-0 ≡ text_at texts c.args.row.now.path = c.in_ok-of-2.ensures ∙ c.text_of-2.ensures in
    let owner : c.in_ok-of-3.field-0 ≡ text_at texts c.args.row.now.module = c.in_ok-of-3.ensures ∙ c.text_of-3.ensures in
    let functions : c.from_vec.result ≡ map function_out (map (group_entry texts) c.args.groups.now) = c.from_vec.ensures ∙ c.in_ok-functions_from.ensures ∙ sym (map_map function_out (group_entry texts) c.args.groups.now) in
    λ i. record { name = name i; path = path i; «module» = owner i; functions = functions i }
