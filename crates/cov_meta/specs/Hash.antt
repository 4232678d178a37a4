-- The hashes of a meta file.
use Rattle.std.specs.Prelude.{ℕ, Bool, List, ◌++◌, map, flat_map, codes, if◌then◌else◌}
use Rattle.std.specs.List.{concat}
use Rattle.byteorder.specs.Endian.{little_bytes}
use Rattle.md5.specs.Md5.{md5, Holds}
use Rattle.md5.specs.declared.Md5.{Md5}
use Rattle.cov_outside.specs.declared.mode.Mode.{Mode}
use Rattle.cov_outside.specs.declared.mode.Mode.TheVariants.{Set, Count, Atomic}
use Rattle.cov_meta.specs.declared.meta.MetaFunction.{MetaFunction}
use Rattle.cov_meta.specs.declared.meta.MetaPackage.{MetaPackage}
use Rattle.cov_meta.specs.declared.meta.Meta.{Meta}
use Rattle.cov_meta.specs.Spelling.{unit_numbers}

-- the literal flag as a number
abbrev pub flag_number : Bool → ℕ
flag_number literal = if literal then 1 else 0

-- name, file, five numbers a unit, and the flag, with nothing between
abbrev pub function_message : MetaFunction → List ℕ
function_message f = f.name ++ f.file ++ flat_map (little_bytes 4) (flat_map unit_numbers f.units) ++ little_bytes 4 (flag_number f.literal)

-- path, name, module path, and the functions
abbrev pub package_message : MetaPackage → List ℕ
package_message p = p.path ++ p.name ++ p.«module» ++ flat_map function_message p.functions

-- the hash of a package's blob
abbrev pub blob_hash : MetaPackage → List ℕ
blob_hash p = md5 (package_message p)

abbrev pub mode_name : Mode → List ℕ
mode_name Set = codes "set"
mode_name Count = codes "count"
mode_name Atomic = codes "atomic"

-- the hash of the file: the blobs' hashes, the mode and the granularity
abbrev pub meta_hash : Meta → List ℕ
meta_hash meta = md5 (concat (map blob_hash meta.packages) ++ mode_name meta.mode ++ codes "perblock")

-- a hasher took one more piece of its message
abbrev pub Takes : Md5 → Md5 → List ℕ → Type 0
Takes old new piece = (message : List ℕ) → Holds old message → Holds new (message ++ piece)
