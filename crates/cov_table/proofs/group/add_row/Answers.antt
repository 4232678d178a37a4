use Rattle.std.proofs.Common.{◌≡◌, ◌∙◌, ℕ, ap, [], ◌∷◌, ◌++◌, map}
use Rattle.std.proofs.lemmas.List.{map-append}
use Rattle.cov_table.specs.declared.group.Group.{Group}
use Rattle.cov_table.specs.Key.{Key}
use Rattle.cov_table.specs.Grouping.{group_entry}
use Rattle.cov_table.specs.Rows.{row_entry}
use Rattle.cov_table.proofs.Grouping.{add_one, with_unit}
use Rattle.cov_table.proofs.group.add_row.Goals.{then-is_new+in_ok-push, else-is_new}
use Rattle.cov_table.proofs.group.add_row.Goals as goal

pub returns : goal.returns
returns c =
    λ units grouped.
    let texts = c.args.texts.now in
    let u : Key × ℕ = row_entry texts c.args.row.now in
    let held : Group = c.index_mut.result.now in
    let changed : Group = record { first = held.first; rows = c.push-2.new.self } in
    let rows : map (row_entry texts) c.push-2.new.self.items ≡ map (row_entry texts) held.rows.items ++ u ∷ [] = ap (map (row_entry texts)) c.in_ok-push-2.ensures.items ∙ map-append (row_entry texts) held.rows.items (c.args.row.now ∷ []) in
    let entry : group_entry texts changed ≡ with_unit u (group_entry texts held) = (λ i. (row_entry texts held.first, rows i)) in
    let changes = entry ∙ ap (λ (g : Group). with_unit u (group_entry texts g)) c.index_mut.ensures.value in
    elim c.if-is_new.branch [
      | then-is_new+in_ok-push w ↦
          let new : Group = record { first = c.args.row.now; rows = w.new.result } in
          let empty : group_entry texts new ≡ (u, []) = (λ i. (u, map (row_entry texts) (w.new.ensures.items i))) in
          add_one texts c.args.names.now.keys c.args.groups.now.items units grouped c.name_of.result u c.name_of.ensures c.insert_full.new.self.keys c.if-is_new.groups.items c.in_ok-i.i new changed held c.in_ok-i.is_new c.in_ok-i.ensures.keys c.in_ok-i.ensures.index c.in_ok-i.ensures.added
          (λ e. (ap (λ v. v.items) w.groups-is ∙ w.in_ok-push.ensures.items, empty)) (λ e. cc) changes
      | else-is_new w ↦
          add_one texts c.args.names.now.keys c.args.groups.now.items units grouped c.name_of.result u c.name_of.ensures c.insert_full.new.self.keys c.if-is_new.groups.items c.in_ok-i.i held changed held c.in_ok-i.is_new c.in_ok-i.ensures.keys c.in_ok-i.ensures.index c.in_ok-i.ensures.added
          (λ e. cc) (λ e. ap (λ v. v.items) w.groups-is) changes
    ]
