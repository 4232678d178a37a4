use Rattle.std.proofs.Common.{◌≡◌, ◌++◌, take, All}
use Rattle.std.specs.List.{flat_map}
use Rattle.cov_counter.specs.Text.{entry_text, CanBeWritten}
use Rattle.cov_counter.proofs.write.push_entries.Given as goal

abbrev pub invariant-loop-entry : goal.invariant-loop-entry
invariant-loop-entry l = record {
  bytes : l.bytes ≡ l.fn.bytes ++ flat_map entry_text (take l.entry-index l.entries);
  fits : All CanBeWritten (take l.entry-index l.entries);
}
