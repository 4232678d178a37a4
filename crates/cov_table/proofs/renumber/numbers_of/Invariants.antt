use Rattle.cov_table.specs.Rows.{Extends}
use Rattle.cov_table.proofs.Renumbering.{NamesFirst}
use Rattle.cov_table.proofs.renumber.numbers_of.Given as goal

abbrev pub invariant-loop-i : goal.invariant-loop-i
invariant-loop-i l = record {
  kept : Extends l.fn.texts l.texts;
  named : NamesFirst l.texts l.numbers.items l.from l.i;
}
