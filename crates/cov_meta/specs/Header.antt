-- The header of a meta file.
use Rattle.std.specs.Prelude.{ℕ, List, Result, Ok, Err, if◌then◌else◌, ◌==◌, nat_lt}
use Rattle.cov_bytes.specs.Reading.{take_at, byte_at, little_at}
use Rattle.cov_bytes.specs.Many.{◌>>=◌}
use Rattle.cov_outside.specs.declared.mode.Mode.{Mode}
use Rattle.cov_outside.specs.declared.mode.Mode.TheVariants.{Set, Count, Atomic}
use Rattle.cov_outside.specs.declared.data_kind.DataKind.TheVariants as kinds
use Rattle.cov_outside.specs.declared.limit.Which.TheVariants.{Packages}
use Rattle.cov_meta.specs.declared.fault.MetaFault.{MetaFault}
use Rattle.cov_meta.specs.declared.fault.MetaFault.TheVariants.{At, Limit}
use Rattle.cov_meta.specs.declared.header.Header.{Header}
use Rattle.cov_meta.specs.Fault.{field}

abbrev pub mode_of : ℕ → ℕ → Result Mode MetaFault
mode_of at n =
    if n == 1 then Ok Set else if n == 2 then Ok Count else if n == 3 then Ok Atomic
    else if n == 4 then Err (At at kinds.RegOnlyMode) else if n == 5 then Err (At at kinds.TestMainMode) else Err (At at kinds.BadMode)

abbrev pub granularity_of : ℕ → ℕ → Result (Unit {0}) MetaFault
granularity_of at n = if n == 1 then Ok tt else if n == 2 then Err (At at kinds.PerFunction) else Err (At at kinds.BadGranularity)

unfoldable pub magic_at : List ℕ → ℕ → Result (Unit {0} × ℕ) MetaFault
magic_at bytes at = do
  magic ← field (little_at 4 bytes at)
  if magic.0 == 0x6d766300 then Ok (tt, magic.1) else Err (At at kinds.BadMagic)

unfoldable pub version_at : List ℕ → ℕ → Result (Unit {0} × ℕ) MetaFault
version_at bytes at = do
  version ← field (little_at 4 bytes at)
  if version.0 == 1 then Ok (tt, version.1) else Err (At at kinds.BadVersion)

-- the length isn't looked at
unfoldable pub entries_at : List ℕ → ℕ → Result (ℕ × ℕ) MetaFault
entries_at bytes at = do
  total ← field (little_at 8 bytes at)
  entries ← field (little_at 8 bytes total.1)
  if nat_lt 1000 entries.0 then Err (Limit Packages) else Ok entries

abbrev pub hash_at : List ℕ → ℕ → Result (List ℕ × ℕ) MetaFault
hash_at bytes at = field (take_at 16 bytes at)

unfoldable pub mode_at : List ℕ → ℕ → Result (Mode × ℕ) MetaFault
mode_at bytes at = do
  n ← field (byte_at bytes at)
  mode ← mode_of at n.0
  Ok (mode, n.1)

unfoldable pub granularity_at : List ℕ → ℕ → Result (Unit {0} × ℕ) MetaFault
granularity_at bytes at = do
  n ← field (byte_at bytes at)
  block ← granularity_of at n.0
  Ok (tt, n.1)

-- the place of the file's string table isn't looked at
unfoldable pub settings_at : List ℕ → ℕ → Result (Mode × ℕ) MetaFault
settings_at bytes at = do
  offset ← field (little_at 4 bytes at)
  length ← field (little_at 4 bytes offset.1)
  mode ← mode_at bytes length.1
  granularity ← granularity_at bytes mode.1
  unused ← field (take_at 6 bytes granularity.1)
  Ok (mode.0, unused.1)

-- the fields in the order of reading
unfoldable pub header_at : List ℕ → ℕ → Result (Header × ℕ) MetaFault
header_at bytes at = do
  magic ← magic_at bytes at
  version ← version_at bytes magic.1
  entries ← entries_at bytes version.1
  hash ← hash_at bytes entries.1
  mode ← settings_at bytes hash.1
  Ok (record { entries = entries.0; hash = hash.0; mode = mode.0 }, mode.1)
