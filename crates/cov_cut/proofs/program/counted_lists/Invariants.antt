use Rattle.std.proofs.Common.{◌≡◌, ◌+◌, ◌++◌, drop}
use Rattle.go_meaning.specs.Units.{counted_lists, units_of}
use Rattle.cov_cut.specs.Owners.{AllBegun, is_cut}
use Rattle.cov_cut.proofs.program.counted_lists.Given as goal

abbrev pub invariant-loop-number : goal.invariant-loop-number
invariant-loop-number l = record {
  owner : AllBegun l.functions l.owner l.number;
  counted : l.counted ++ counted_lists (is_cut l.functions) l.unit l.number (drop l.number l.lists) ≡ counted_lists (is_cut l.functions) 0 0 l.lists;
  units : l.unit + units_of (is_cut l.functions) l.number (drop l.number l.lists) ≡ units_of (is_cut l.functions) 0 l.lists;
}
