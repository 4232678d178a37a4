use Rattle.std.proofs.Common.{◌∙◌, ◌++◌, List, sym, ap, append_assoc, map, take}
use Rattle.std.specs.List.{flat_map, enumerate_from}
use Rattle.cov_counter.specs.declared.entry.Entry.{Entry}
use Rattle.cov_table.specs.PodOf.{entry_out}
use Rattle.cov_table.specs.Grouping.{row_counts}
use Rattle.cov_table.proofs.PodRows.{entries_more}
use Rattle.cov_table.proofs.pod_out.push_entries.Goals as goal

pub loop-i-preserved : goal.loop-i-preserved
loop-i-preserved c =
    let l = c.loop-i in
    let gs = c.args.groups.now in
    let g = c.index-groups-i.result in
    let place = c.args.package in
    let here : List Entry = entry_out place (l.i, row_counts g) in
    c.in_ok-push_entry.ensures
    ∙ (λ j. l.invariant j ++ entry_out place (c.in_ok-number_of.ensures j, row_counts g))
    ∙ append_assoc c.args.entries.now.items (flat_map (entry_out place) (enumerate_from 0 (map row_counts (take l.i gs)))) here
    ∙ (λ j. c.args.entries.now.items ++ (flat_map (entry_out place) (enumerate_from 0 (map row_counts (take l.i gs))) ++ entry_out place (l.i, row_counts (c.index-groups-i.is j))))
    ∙ ap (λ (t : List Entry). c.args.entries.now.items ++ t) (sym (entries_more (entry_out place) row_counts gs l.i g c.loop-i-test.true))
