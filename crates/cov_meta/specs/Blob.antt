-- A package's blob, in bytes that end where it ends.
use Rattle.std.specs.Prelude.{ℕ, ◌+◌, ◌-◌, List, length, Result, Ok, Err, if◌then◌else◌, nat_lt, slice_get, sum_by}
use Rattle.cov_bytes.specs.Reading.{take_at, little_at}
use Rattle.cov_bytes.specs.Many.{◌>>=◌, many}
use Rattle.cov_bytes.specs.Table.{table_at}
use Rattle.cov_bytes.specs.declared.text_limits.TextLimits.{TextLimits}
use Rattle.cov_outside.specs.declared.limit.Which.TheVariants.{Functions}
use Rattle.cov_meta.specs.declared.fault.MetaFault.{MetaFault}
use Rattle.cov_meta.specs.declared.fault.MetaFault.TheVariants.{Limit}
use Rattle.cov_meta.specs.declared.entries.Width.TheVariants.{Four}
use Rattle.cov_meta.specs.declared.blob.TextNumbers.{TextNumbers}
use Rattle.cov_meta.specs.declared.blob.PackageNames.{PackageNames}
use Rattle.cov_meta.specs.declared.allowance.Allowance.{Allowance}
use Rattle.cov_meta.specs.declared.meta.MetaPackage.{MetaPackage}
use Rattle.cov_meta.specs.Fault.{field, table}
use Rattle.cov_meta.specs.Entries.{offset_at}
use Rattle.cov_meta.specs.Function.{named, functions_at}

-- the numbers of the package's texts; the length isn't looked at
unfoldable pub numbers_at : List ℕ → ℕ → Result (TextNumbers × ℕ) MetaFault
numbers_at bytes at = do
  length ← field (little_at 4 bytes at)
  name ← field (little_at 4 bytes length.1)
  path ← field (little_at 4 bytes name.1)
  module_path ← field (little_at 4 bytes path.1)
  Ok (record { name = name.0; path = path.0; «module» = module_path.0 }, module_path.1)

-- the number of functions, of which so many may still come; the hash, 4 unused bytes and the number of files aren't looked at
unfoldable pub functions_count_at : ℕ → List ℕ → ℕ → Result (ℕ × ℕ) MetaFault
functions_count_at functions bytes at = do
  hash ← field (take_at 16 bytes at)
  unused ← field (little_at 4 bytes hash.1)
  files ← field (little_at 4 bytes unused.1)
  count ← field (little_at 4 bytes files.1)
  if nat_lt functions count.0 then Err (Limit Functions) else Ok count

-- the texts of a package's three numbers, in a blob with this start
unfoldable pub names_of : List (List ℕ) → ℕ → TextNumbers → Result PackageNames MetaFault
names_of texts start numbers = do
  name ← named (slice_get texts numbers.name) numbers.name (length texts) (start + 4)
  path ← named (slice_get texts numbers.path) numbers.path (length texts) (start + 8)
  module_path ← named (slice_get texts numbers.«module») numbers.«module» (length texts) (start + 12)
  Ok (record { name = name; path = path; «module» = module_path })

-- what is left of the limits on texts
abbrev pub text_limits : Allowance → TextLimits
text_limits left = record { strings = left.strings; one = 2048; all = left.string_bytes }

unfoldable pub texts_at : Allowance → List ℕ → ℕ → Result (List (List ℕ) × ℕ) MetaFault
texts_at left bytes at = table (table_at (text_limits left) bytes at)

-- what is left behind a blob with these texts
abbrev pub left_behind : Allowance → ℕ → List (List ℕ) → ℕ → Allowance
left_behind left functions texts units = record {
  functions = left.functions - functions;
  strings = left.strings - length texts;
  string_bytes = left.string_bytes - sum_by length texts;
  units = units;
}

-- the package, and what is left of the limits
unfoldable pub blob_at : List ℕ → ℕ → Allowance → Result (MetaPackage × Allowance) MetaFault
blob_at bytes start left = do
  numbers ← numbers_at bytes start
  count ← functions_count_at left.functions bytes numbers.1
  places ← many (offset_at Four bytes) count.0 count.1
  texts ← texts_at left bytes places.1
  names ← names_of texts.0 start numbers.0
  functions ← functions_at texts.0 bytes start places.0 left.units
  Ok (record { name = names.name; path = names.path; «module» = names.«module»; functions = functions.0 }, left_behind left count.0 texts.0 functions.1)
