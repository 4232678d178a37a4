use Rattle.std.proofs.Common.{◌∙◌, ap, map, List, ℕ}
use Rattle.cov_table.specs.Rows.{renumbered_row, renumbered_package}
use Rattle.cov_table.proofs.Renumbering.{meant}
use Rattle.cov_table.proofs.renumber.gather_rows.Goals as goal

pub returns-clause-added : goal.returns-clause-added
returns-clause-added c =
    meant c.numbers_of.new.texts c.in_ok-numbers.numbers.items c.args.from.now c.args.rows.now _ c.args.packages.now _ c.in_ok-numbers.ensures.named c.requires.rows_within c.requires.packages_within
    (c.in_ok-renumber_all.ensures ∙ ap (λ (n : List ℕ). map (renumbered_row n) c.args.rows.now) c.deref.ensures.value)
    (c.in_ok-renumber_packages.ensures ∙ ap (λ (n : List ℕ). map (renumbered_package n) c.args.packages.now) c.deref-2.ensures.value)
