use Rattle.std.proofs.Common.{◌∙◌, ap, sym, length, get_or, List, ℕ}
use Rattle.std.proofs.lemmas.List.{length-set}
use Rattle.cov_outside.specs.Mode.{combined}
use Rattle.cov_pods.proofs.Counting.{in_counts, in_functions, same_units, entry_added}
use Rattle.cov_pods.proofs.counts.add_entry.Goals as goal

pub replace-functions-requires : goal.replace-functions-requires
replace-functions-requires c = in_counts c.args.meta.now c.requires.counted.0 c.args.entry.now c.args.counts.now c.requires.fitting c.requires.counted.1

pub replace-units-requires : goal.replace-units-requires
replace-units-requires c = in_functions c.args.meta.now c.requires.counted.0 c.args.entry.now c.args.counts.now c.replace-functions.result c.requires.fitting c.requires.counted.1 c.replace-functions.ensures.item

pub combined_counts-sums-requires : goal.combined_counts-sums-requires
combined_counts-sums-requires c =
    same_units c.args.meta.now c.requires.counted.0 c.args.entry.now c.args.counts.now c.replace-functions.result c.replace-units.result c.requires.fitting c.requires.counted.1 c.replace-functions.ensures.item c.replace-units.ensures.item
    ∙ ap length (sym c.as_slice.ensures)

pub replace-no_units-requires : goal.replace-no_units-requires
replace-no_units-requires c =
    let within = in_functions c.args.meta.now c.requires.counted.0 c.args.entry.now c.args.counts.now c.replace-functions.result c.requires.fitting c.requires.counted.1 c.replace-functions.ensures.item in
    rw (c.replace-units.ensures.after, length-set) within

pub replace-no_functions-requires : goal.replace-no_functions-requires
replace-no_functions-requires c =
    let within = in_counts c.args.meta.now c.requires.counted.0 c.args.entry.now c.args.counts.now c.requires.fitting c.requires.counted.1 in
    rw (c.replace-functions.ensures.after, length-set) within

pub returns : goal.returns
returns c = λ seen is.
    entry_added c.args.meta.now seen c.args.entry.now c.args.counts.now c.replace-functions.new.self c.replace-no_functions.new.self c.new.result c.replace-functions.result c.replace-units.new.self c.replace-no_units.new.self c.new-2.result c.replace-units.result c.combined_counts-sums.result
    c.requires.fitting is c.replace-functions.ensures.item c.replace-functions.ensures.after c.replace-units.ensures.item c.replace-units.ensures.after c.combined_counts-sums.ensures.same
    (λ k lt. c.combined_counts-sums.ensures.each k lt ∙ ap (λ (xs : List ℕ). combined c.args.meta.now.mode (get_or c.replace-units.result k 0) (get_or xs k 0)) c.as_slice.ensures)
    c.replace-no_units.ensures.after c.replace-no_functions.ensures.after
