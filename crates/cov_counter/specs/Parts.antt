-- The string table and the arguments of a counter file.
use Rattle.std.specs.Prelude.{ℕ, Result, Ok, Err, if◌then◌else◌, nat_lt}
use Rattle.cov_bytes.specs.Reading.{uleb_at, take_at, little_at}
use Rattle.cov_bytes.specs.Writing.{padding}
use Rattle.cov_bytes.specs.Many.{◌>>=◌}
use Rattle.cov_outside.specs.declared.data_kind.DataKind.TheVariants as kinds
use Rattle.cov_counter.specs.declared.fault.CounterFault.{CounterFault}
use Rattle.cov_counter.specs.declared.fault.CounterFault.TheVariants.{At}
use Rattle.cov_counter.specs.Each.{each}
use Rattle.cov_counter.specs.File.{Known, field, up_to}

-- the offset behind a string
unfoldable pub behind_string : Known → ℕ → Result ℕ CounterFault
behind_string file at = do
  len ← field file (uleb_at file.bytes at)
  text ← field file (take_at len.0 file.bytes len.1)
  Ok text.1

-- how many strings a table has
unfoldable pub strings_at : Known → ℕ → Result (ℕ × ℕ) CounterFault
strings_at file at = do
  count ← field file (uleb_at file.bytes at)
  end ← each (behind_string file) count.0 count.1
  Ok (count.0, end)

-- the offset behind the number of one of the strings
unfoldable pub behind_index : ℕ → Known → ℕ → Result ℕ CounterFault
behind_index strings file at = do
  i ← field file (uleb_at file.bytes at)
  if nat_lt i.0 strings then Ok i.1 else Err (At at (kinds.BadString i.0 strings))

unfoldable pub behind_pair : ℕ → Known → ℕ → Result ℕ CounterFault
behind_pair strings file at = do
  name ← behind_index strings file at
  behind_index strings file name

-- how many pairs of strings the arguments are
unfoldable pub pairs_at : ℕ → Known → ℕ → Result (ℕ × ℕ) CounterFault
pairs_at strings file at = do
  count ← field file (uleb_at file.bytes at)
  end ← each (behind_pair strings file) count.0 count.1
  Ok (count.0, end)

-- a table of a stated length, whose bytes are all there before it is looked at
unfoldable pub table_at : ℕ → Known → ℕ → Result (ℕ × ℕ) CounterFault
table_at len file at = do
  table ← field file (take_at len file.bytes at)
  strings ← strings_at (up_to table.1 file) at
  Ok (strings.0, table.1)

-- the same for the arguments
unfoldable pub args_at : ℕ → ℕ → Known → ℕ → Result (ℕ × ℕ) CounterFault
args_at strings len file at = do
  args ← field file (take_at len file.bytes at)
  pairs ← pairs_at strings (up_to args.1 file) at
  Ok (pairs.0, args.1)

-- the bytes up to a multiple of 4 aren't looked at
unfoldable pub behind_padding : Known → ℕ → Result ℕ CounterFault
behind_padding file at = do
  padding ← field file (take_at (padding at) file.bytes at)
  Ok padding.1

-- two lengths, the parts and the padding: the number of pairs
unfoldable pub parts_at : Known → ℕ → Result (ℕ × ℕ) CounterFault
parts_at file at = do
  table_len ← field file (little_at 4 file.bytes at)
  args_len ← field file (little_at 4 file.bytes table_len.1)
  strings ← table_at table_len.0 file args_len.1
  pairs ← args_at strings.0 args_len.0 file strings.1
  end ← behind_padding file pairs.1
  Ok (pairs.0, end)
