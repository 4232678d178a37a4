use Rattle.std.proofs.Common.{take}
use Rattle.std.specs.Prelude.{flat_map}
use Rattle.byteorder.specs.Endian.{little_bytes}
use Rattle.cov_meta.specs.Spelling.{unit_numbers}
use Rattle.cov_meta.specs.Hash.{Takes}
use Rattle.cov_meta.proofs.hash.take_units.Given as goal

abbrev pub invariant-loop-unit : goal.invariant-loop-unit
invariant-loop-unit l = Takes l.fn.hasher l.hasher (flat_map (little_bytes 4) (flat_map unit_numbers (take l.unit-index l.units)))
