-- Where the package blobs stand.
use Rattle.std.specs.Prelude.{ℕ, List, Result, Ok}
use Rattle.cov_bytes.specs.Reading.{little_at}
use Rattle.cov_bytes.specs.Many.{◌>>=◌, many}
use Rattle.cov_meta.specs.declared.fault.MetaFault.{MetaFault}
use Rattle.cov_meta.specs.declared.entries.Width.{Width}
use Rattle.cov_meta.specs.declared.entries.Width.TheVariants.{Four, Eight}
use Rattle.cov_meta.specs.declared.entries.OffsetField.{OffsetField}
use Rattle.cov_meta.specs.declared.entries.Entry.{Entry}
use Rattle.cov_meta.specs.Fault.{field}
use Rattle.cov_meta.specs.Each.{each}

abbrev pub bytes_of : Width → ℕ
bytes_of Four = 4
bytes_of Eight = 8

-- an offset, and where it stands itself
unfoldable pub offset_at : Width → List ℕ → ℕ → Result (OffsetField × ℕ) MetaFault
offset_at width bytes at = do
  offset ← field (little_at (bytes_of width) bytes at)
  Ok (record { at = at; offset = offset.0 }, offset.1)

-- the length that belongs to an offset
unfoldable pub length_at : List ℕ → OffsetField → ℕ → Result (Entry × ℕ) MetaFault
length_at bytes place at = do
  length ← field (little_at 8 bytes at)
  Ok (record { place = place; length = length.0 }, length.1)

-- all offsets, then all lengths
unfoldable pub entries_at : ℕ → List ℕ → ℕ → Result (List Entry × ℕ) MetaFault
entries_at count bytes at = do
  places ← many (offset_at Eight bytes) count at
  each (length_at bytes) places.0 places.1
