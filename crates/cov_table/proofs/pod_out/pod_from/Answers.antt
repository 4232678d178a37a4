use Rattle.std.proofs.Common.{◌≡◌, ◌∙◌, ◌++◌, ◌∷◌, [], List, sym, ap, map, get_or}
use Rattle.cov_table.specs.declared.group.Group.{Group}
use Rattle.cov_table.specs.declared.row.PackageRow.{PackageRow}
use Rattle.cov_table.specs.Functions.{groups_of}
use Rattle.cov_table.specs.PodOf.{group_counts, package_out, entries_of}
use Rattle.cov_table.specs.PodRows.{groups_in, package_in, counts_in}
use Rattle.cov_table.specs.Grouping.{group_entry, row_counts}
use Rattle.cov_table.specs.Rows.{package_entry}
use Rattle.cov_table.proofs.PackageSettling.{zero_row}
use Rattle.cov_table.proofs.PodRows.{entries_more, map_more, counts_of_groups}
use Rattle.cov_table.proofs.pod_out.pod_from.Goals as goal

pub loop-i-preserved : goal.loop-i-preserved
loop-i-preserved c =
    let l = c.loop-i in
    let texts = c.args.texts.now in
    let rows = c.args.rows.now in
    let ps = c.args.packages.now in
    let p : PackageRow = get_or ps l.i zero_row in
    let groups : map (group_entry texts) c.in_ok-groups.groups.items ≡ groups_in texts rows p = c.in_ok-groups.ensures ∙ ap groups_of c.rows_at.ensures in
    let made : c.in_ok-package_from.field-0 ≡ package_in texts rows p =
    c.in_ok-package_from.ensures ∙ ap (λ (gs : List Group). package_out (package_entry texts p) (map (group_entry texts) gs)) c.deref-in-loop-i.ensures.value ∙ ap (package_out (package_entry texts p)) groups in
    let counts : map row_counts c.deref.result.now ≡ counts_in texts rows p =
    ap (map row_counts) c.deref.ensures.value ∙ counts_of_groups texts c.in_ok-groups.groups.items ∙ ap (map group_counts) groups in
    let number : c.in_ok-number_of.field-0 ≡ l.i = c.in_ok-number_of.ensures in
    let pushed : c.push.new.self.items ≡ l.made.items ++ c.in_ok-package_from.field-0 ∷ [] = c.in_ok-push.ensures.items in
    let added : c.push_entries.new.entries.items ≡ l.entries.items ++ entries_of (c.in_ok-number_of.field-0, map row_counts c.deref.result.now) = c.in_ok-push_entries.ensures in
    record {
      packages =
          pushed
          ∙ (λ j. l.invariant.packages j ++ made j ∷ [])
          ∙ sym (map_more (package_in texts rows) ps l.i zero_row c.loop-i-test.true);
      entries =
          added
          ∙ (λ j. l.invariant.entries j ++ entries_of (number j, counts j))
          ∙ sym (entries_more entries_of (counts_in texts rows) ps l.i zero_row c.loop-i-test.true);
    }
