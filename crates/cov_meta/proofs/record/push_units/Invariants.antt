use Rattle.std.proofs.Common.{◌≡◌, ◌++◌, ◌<◌, ◌^◌, take, All}
use Rattle.std.specs.Prelude.{flat_map}
use Rattle.cov_bytes.specs.Writing.{uleb_of}
use Rattle.cov_meta.specs.Spelling.{unit_numbers}
use Rattle.cov_meta.proofs.record.push_units.Given as goal

abbrev pub invariant-loop-unit : goal.invariant-loop-unit
invariant-loop-unit l = record {
  bytes : l.bytes ≡ l.fn.bytes ++ flat_map uleb_of (flat_map unit_numbers (take l.unit-index l.units));
  fits : All (λ n. n < 2 ^ 32) (flat_map unit_numbers (take l.unit-index l.units));
}
