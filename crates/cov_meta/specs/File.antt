-- A meta file.
use Rattle.std.specs.Prelude.{ℕ, ◌+◌, List, length, take, Result, Ok, Err, if◌then◌else◌, nat_lt}
use Rattle.cov_bytes.specs.Many.{◌>>=◌}
use Rattle.cov_outside.specs.declared.data_kind.DataKind.TheVariants.{BadRange}
use Rattle.cov_outside.specs.declared.limit.Which.TheVariants.{DataBytes}
use Rattle.cov_meta.specs.declared.fault.MetaFault.{MetaFault}
use Rattle.cov_meta.specs.declared.fault.MetaFault.TheVariants.{At, Limit}
use Rattle.cov_meta.specs.declared.entries.Entry.{Entry}
use Rattle.cov_meta.specs.declared.allowance.Allowance.{Allowance}
use Rattle.cov_meta.specs.declared.meta.MetaPackage.{MetaPackage}
use Rattle.cov_meta.specs.declared.meta.MetaFile.{MetaFile}
use Rattle.cov_meta.specs.Each.{each}
use Rattle.cov_meta.specs.Header.{header_at}
use Rattle.cov_meta.specs.Entries.{entries_at}
use Rattle.cov_meta.specs.Blob.{blob_at}

-- the limits of a whole file
abbrev pub whole_allowance : Allowance
whole_allowance = record { functions = 1048576; strings = 1048576; string_bytes = 268435456; units = 1048576 }

-- a blob that ends in the file, in which nothing behind its end is read
unfoldable pub package_at : List ℕ → Entry → Allowance → Result (MetaPackage × Allowance) MetaFault
package_at bytes entry left =
    let end = entry.place.offset + entry.length in
    if nat_lt (length bytes) end then Err (At entry.place.at BadRange) else blob_at (take end bytes) entry.place.offset left

-- the packages one after the other
unfoldable pub packages_at : List ℕ → List Entry → Result (List MetaPackage) MetaFault
packages_at bytes entries = do
  packages ← each (package_at bytes) entries whole_allowance
  Ok packages.0

-- the header, all entries, the packages
unfoldable pub file_at : List ℕ → Result MetaFile MetaFault
file_at bytes = do
  header ← header_at bytes 0
  entries ← entries_at header.0.entries bytes header.1
  packages ← packages_at bytes entries.0
  Ok (record { hash = header.0.hash; meta = record { mode = header.0.mode; packages = packages } })

-- what a meta file says, or its first fault in the order of reading
unfoldable pub meta_of : List ℕ → Result MetaFile MetaFault
meta_of bytes = if nat_lt 268435456 (length bytes) then Err (Limit DataBytes) else file_at bytes
