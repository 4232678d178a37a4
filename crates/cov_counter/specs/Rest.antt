-- What stands behind the last entry.
use Rattle.std.specs.Prelude.{ℕ, ◌-◌, length, Result, Ok, Err, if◌then◌else◌, ◌==◌, nat_lt}
use Rattle.cov_bytes.specs.Reading.{take_at, byte_at, little_at}
use Rattle.cov_bytes.specs.Many.{◌>>=◌}
use Rattle.cov_outside.specs.declared.data_kind.DataKind.TheVariants as kinds
use Rattle.cov_outside.specs.declared.limit.Which.TheVariants.{DataBytes}
use Rattle.cov_counter.specs.declared.fault.CounterFault.{CounterFault}
use Rattle.cov_counter.specs.declared.fault.CounterFault.TheVariants.{At, Limit}
use Rattle.cov_counter.specs.Each.{each}
use Rattle.cov_counter.specs.File.{Known, field}
use Rattle.cov_counter.specs.Head.{behind_magic}

-- How many bytes stand before the footer, which has 16: at most 3. So 20 bytes are needed at most.
abbrev pub padding_in : Known → ℕ → Result ℕ CounterFault
padding_in file at =
    let left = length file.bytes - at in
    if nat_lt 19 left then Err (At at kinds.Trailing)
    else if file.more then Err (Limit DataBytes)
    else if nat_lt left 16 then Err (At at kinds.Short)
    else Ok (left - 16)

unfoldable pub behind_zero : Known → ℕ → Result ℕ CounterFault
behind_zero file at = do
  byte ← field file (byte_at file.bytes at)
  if byte.0 == 0 then Ok byte.1 else Err (At at kinds.BadPadding)

-- one segment
unfoldable pub behind_segments : Known → ℕ → Result ℕ CounterFault
behind_segments file at = do
  count ← field file (little_at 4 file.bytes at)
  if count.0 == 1 then Ok count.1 else Err (At at (kinds.Segments count.0))

-- the magic, 4 bytes that aren't looked at, the number of segments and 4 bytes that aren't looked at
unfoldable pub behind_footer : Known → ℕ → Result ℕ CounterFault
behind_footer file at = do
  magic ← behind_magic file at
  unused ← field file (take_at 4 file.bytes magic)
  segments ← behind_segments file unused.1
  last ← field file (take_at 4 file.bytes segments)
  Ok last.1

-- zeros and the footer, up to the end of the file
unfoldable pub behind_rest : Known → ℕ → Result ℕ CounterFault
behind_rest file at = do
  len ← padding_in file at
  zeros ← each (behind_zero file) len at
  behind_footer file zeros
