-- The record of a function.
use Rattle.std.specs.Prelude.{ℕ, ◌+◌, ◌-◌, List, length, Result, Ok, Err, Option, Some, None, if◌then◌else◌, ◌==◌, nat_lt, not, slice_get}
use Rattle.cov_bytes.specs.Reading.{uleb_at}
use Rattle.cov_bytes.specs.Many.{◌>>=◌, many}
use Rattle.cov_outside.specs.declared.data_kind.DataKind.TheVariants as kinds
use Rattle.cov_outside.specs.declared.limit.Which.TheVariants.{Units}
use Rattle.cov_meta.specs.declared.fault.MetaFault.{MetaFault}
use Rattle.cov_meta.specs.declared.fault.MetaFault.TheVariants.{At, Limit}
use Rattle.cov_meta.specs.declared.entries.OffsetField.{OffsetField}
use Rattle.cov_meta.specs.declared.meta.Place2.{Place2}
use Rattle.cov_meta.specs.declared.meta.MetaUnit.{MetaUnit}
use Rattle.cov_meta.specs.declared.meta.MetaFunction.{MetaFunction}
use Rattle.cov_meta.specs.Fault.{field}
use Rattle.cov_meta.specs.Each.{each}

-- a line and a column
unfoldable pub place_at : List ℕ → ℕ → Result (Place2 × ℕ) MetaFault
place_at bytes at = do
  line ← field (uleb_at bytes at)
  column ← field (uleb_at bytes line.1)
  Ok (record { line = line.0; column = column.0 }, column.1)

unfoldable pub unit_at : List ℕ → ℕ → Result (MetaUnit × ℕ) MetaFault
unit_at bytes at = do
  start ← place_at bytes at
  end ← place_at bytes start.1
  statements ← field (uleb_at bytes end.1)
  Ok (record { start = start.0; end = end.0; statements = statements.0 }, statements.1)

-- the text of a number that stands at an offset
abbrev pub named : Option (List ℕ) → ℕ → ℕ → ℕ → Result (List ℕ) MetaFault
named (Some text) index count at = Ok text
named None index count at = Err (At at (kinds.BadString index count))

unfoldable pub text_at : List (List ℕ) → List ℕ → ℕ → Result (List ℕ × ℕ) MetaFault
text_at texts bytes at = do
  index ← field (uleb_at bytes at)
  text ← named (slice_get texts index.0) index.0 (length texts) at
  Ok (text, index.1)

-- the number of units, of which so many may still come
unfoldable pub count_at : ℕ → List ℕ → ℕ → Result (ℕ × ℕ) MetaFault
count_at units bytes at = do
  count ← field (uleb_at bytes at)
  if nat_lt units count.0 then Err (Limit Units) else Ok count

unfoldable pub function_at : List (List ℕ) → ℕ → List ℕ → ℕ → Result (MetaFunction × ℕ) MetaFault
function_at texts units bytes at = do
  count ← count_at units bytes at
  name ← text_at texts bytes count.1
  file ← text_at texts bytes name.1
  list ← many (unit_at bytes) count.0 file.1
  literal ← field (uleb_at bytes list.1)
  Ok (record { name = name.0; file = file.0; literal = not (literal.0 == 0); units = list.0 }, literal.1)

-- the record at an offset from the blob's start, and how many units may still come
unfoldable pub placed_function : List (List ℕ) → List ℕ → ℕ → OffsetField → ℕ → Result (MetaFunction × ℕ) MetaFault
placed_function texts bytes start place units =
    if nat_lt (length bytes) (start + place.offset) then Err (At place.at kinds.Short) else do
      function ← function_at texts units bytes (start + place.offset)
      Ok (function.0, units - length function.0.units)

unfoldable pub functions_at : List (List ℕ) → List ℕ → ℕ → List OffsetField → ℕ → Result (List MetaFunction × ℕ) MetaFault
functions_at texts bytes start places units = each (placed_function texts bytes start) places units
