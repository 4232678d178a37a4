use Rattle.std.proofs.Common.{◌≡◌, ◌-◌}
use Rattle.cov_counter.specs.Each.{each}
use Rattle.cov_counter.specs.Parts.{behind_string}
use Rattle.cov_counter.proofs.parts.skip_strings.Given as goal

abbrev pub invariant-loop : goal.invariant-loop
invariant-loop l = record {
  so_far : each (behind_string l.fn.table.file) (l.count - l.counter) l.table.at ≡ each (behind_string l.fn.table.file) l.count l.fn.table.at;
  same : l.table.file ≡ l.fn.table.file;
}
