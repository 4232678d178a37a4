-- The header of a counter file.
use Rattle.std.specs.Prelude.{ℕ, Bool, true, false, Result, Ok, Err, if◌then◌else◌, ◌==◌}
use Rattle.cov_bytes.specs.Reading.{take_at, byte_at, little_at}
use Rattle.cov_bytes.specs.Many.{◌>>=◌}
use Rattle.cov_outside.specs.declared.data_kind.DataKind.TheVariants as kinds
use Rattle.cov_counter.specs.declared.fault.CounterFault.{CounterFault}
use Rattle.cov_counter.specs.declared.fault.CounterFault.TheVariants.{At}
use Rattle.cov_counter.specs.declared.head.Head.{Head}
use Rattle.cov_counter.specs.File.{Known, field}
use Rattle.cov_counter.specs.Parts.{parts_at}

-- the bytes 00 63 77 6d
unfoldable pub behind_magic : Known → ℕ → Result ℕ CounterFault
behind_magic file at = do
  magic ← field file (little_at 4 file.bytes at)
  if magic.0 == 0x6d776300 then Ok magic.1 else Err (At at kinds.BadMagic)

unfoldable pub behind_version : Known → ℕ → Result ℕ CounterFault
behind_version file at = do
  version ← field file (little_at 4 file.bytes at)
  if version.0 == 1 then Ok version.1 else Err (At at kinds.BadVersion)

-- 1 for raw numbers, 2 for ULEB128
unfoldable pub flavour_at : Known → ℕ → Result (ℕ × ℕ) CounterFault
flavour_at file at = do
  n ← field file (byte_at file.bytes at)
  if n.0 == 1 then Ok (1, n.1) else if n.0 == 2 then Ok (2, n.1) else Err (At at kinds.BadFlavour)

-- whether raw numbers have their highest byte first
unfoldable pub flag_at : Known → ℕ → Result (Bool × ℕ) CounterFault
flag_at file at = do
  n ← field file (byte_at file.bytes at)
  if n.0 == 0 then Ok (false, n.1) else if n.0 == 1 then Ok (true, n.1) else Err (At at kinds.BadFlag)

-- the flavour, the flag and 6 bytes that aren't looked at
unfoldable pub form_at : Known → ℕ → Result ((ℕ × Bool) × ℕ) CounterFault
form_at file at = do
  flavour ← flavour_at file at
  big ← flag_at file flavour.1
  unused ← field file (take_at 6 file.bytes big.1)
  Ok ((flavour.0, big.0), unused.1)

-- all that stands before the entries
unfoldable pub head_at : Known → ℕ → Result (Head × ℕ) CounterFault
head_at file at = do
  magic ← behind_magic file at
  version ← behind_version file magic
  hash ← field file (take_at 16 file.bytes version)
  form ← form_at file hash.1
  entries ← field file (little_at 8 file.bytes form.1)
  args ← parts_at file entries.1
  Ok (record { hash = hash.0; flavour = form.0.0; big = form.0.1; entries = entries.0; args = args.0 }, args.1)
