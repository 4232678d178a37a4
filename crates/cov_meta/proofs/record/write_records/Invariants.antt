use Rattle.std.proofs.Common.{◌≡◌, ◌≤◌, ◌+◌, ◌*◌, length, take, map, All}
use Rattle.std.specs.Prelude.{flat_map}
use Rattle.std.specs.List.{concat}
use Rattle.cov_meta.specs.Written.{UnitsFit, record_text, with_texts, function_texts}
use Rattle.cov_meta.proofs.record.write_records.Given as goal

abbrev pub invariant-loop-function : goal.invariant-loop-function
invariant-loop-function l = record {
  fits : All UnitsFit (take l.function-index l.functions);
  few : length l.table ≤ 3 + 2 * l.function-index;
  texts : l.table ≡ with_texts l.fn.table (flat_map function_texts (take l.function-index l.functions));
  bytes : l.bytes ≡ concat (map (record_text (with_texts l.fn.table (flat_map function_texts l.functions))) (take l.function-index l.functions));
  lengths : l.lengths.items ≡ map length (map (record_text (with_texts l.fn.table (flat_map function_texts l.functions))) (take l.function-index l.functions));
}
