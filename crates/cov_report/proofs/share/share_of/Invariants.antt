use Rattle.std.proofs.Common.{◌≡◌, ℕ, ◌+◌, ◌*◌, ◌^◌, ◌≤◌, List, drop}
use Rattle.std.specs.declared.cmp.Ordering.TheVariants.{Less}
use Rattle.cov_table.specs.Key.{text_cmp}
use Rattle.cov_report.specs.Shares.{units_of, statements_of, covered_of}
use Rattle.cov_report.proofs.share.share_of.Given as goal

abbrev pub invariant-loop-i : goal.invariant-loop-i
invariant-loop-i l = record {
  at : l.at ≡ l.i;
  statements : l.share.statements + statements_of (units_of l.path (drop l.i l.units)) ≡ statements_of (units_of l.path (drop l.fn.at l.units));
  covered : l.share.covered + covered_of (units_of l.path (drop l.i l.units)) ≡ covered_of (units_of l.path (drop l.fn.at l.units));
  few_statements : l.share.statements ≤ l.i * 2 ^ 32;
  few_covered : l.share.covered ≤ l.i * 2 ^ 32;
  later : (q : List ℕ) → text_cmp l.path q ≡ Less → units_of q (drop l.i l.units) ≡ units_of q (drop l.fn.at l.units);
}
