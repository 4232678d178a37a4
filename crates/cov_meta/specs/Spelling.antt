-- Which bytes spell a meta file: what stands at which offset, and the limits.
-- The layout is that of internal/coverage/defs.go in Go 1.20.
use Rattle.std.specs.Prelude.{◌≡◌, ℕ, ◌+◌, ◌^◌, ◌<◌, ◌≤◌, List, [], ◌∷◌, ◌++◌, length, take, drop, map, flat_map, sum_by, All, slice_get, Some, not, ◌==◌}
use Rattle.std.specs.List.{AllZip}
use Rattle.byteorder.specs.Endian.{little_number}
use Rattle.cov_bytes.specs.Reading.{groups_value}
use Rattle.cov_outside.specs.declared.mode.Mode.{Mode}
use Rattle.cov_outside.specs.declared.mode.Mode.TheVariants.{Set, Count, Atomic}
use Rattle.cov_meta.specs.declared.meta.MetaUnit.{MetaUnit}
use Rattle.cov_meta.specs.declared.meta.MetaFunction.{MetaFunction}
use Rattle.cov_meta.specs.declared.meta.MetaPackage.{MetaPackage}
use Rattle.cov_meta.specs.declared.meta.MetaFile.{MetaFile}

-- ---- what can stand in bytes at an offset, up to the next offset

-- these very bytes
abbrev pub Holds : List ℕ → ℕ → List ℕ → Type 0
Holds bytes at piece = take (length piece) (drop at bytes) ≡ piece

-- a little-endian number of so many bytes
pub record IsFixed (width : ℕ) (bytes : List ℕ) (at value next : ℕ) : Type 0 where
  pub next_is : next ≡ at + width
  pub whole : next ≤ length bytes
  pub value_is : little_number width (drop at bytes) ≡ value

-- the same where what follows doesn't matter
abbrev pub IsField : ℕ → List ℕ → ℕ → ℕ → Type 0
IsField width bytes at value = IsFixed width bytes at value (at + width)

-- a ULEB128 number (DWARF 4, section 7.6) below 2^32 of at most ten bytes: groups of seven bits,
-- the lowest first, where all bytes but the last have the high bit
pub record IsUleb (bytes : List ℕ) (at value next : ℕ) : Type 0 where
  pub front : List ℕ
  pub last : ℕ
  pub there : Holds bytes at (front ++ last ∷ [])
  pub next_is : next ≡ at + (length front + 1)
  pub few : length front < 10
  pub marked : All (λ b. 128 ≤ b) front
  pub unmarked : last < 128
  pub value_is : groups_value (front ++ last ∷ []) ≡ value
  pub small : value < 2 ^ 32

-- items one after the other, each where the one before it ends
abbrev pub InTurn : {A : Type 0} → (ℕ → A → ℕ → Type 0) → ℕ → List A → ℕ → Type 0
InTurn Is at [] next = next ≡ at
InTurn Is at (x ∷ xs) next = (middle : ℕ) × Is at x middle × InTurn Is middle xs next

-- a text: its length, its bytes
pub record IsText (bytes : List ℕ) (at : ℕ) (text : List ℕ) (next : ℕ) : Type 0 where
  pub begin : ℕ
  pub length_is : IsUleb bytes at (length text) begin
  pub there : Holds bytes begin text
  pub next_is : next ≡ begin + length text

-- a string table: the number of its texts, the texts
pub record IsTable (bytes : List ℕ) (at : ℕ) (texts : List (List ℕ)) : Type 0 where
  pub begin : ℕ
  pub next : ℕ
  pub count_is : IsUleb bytes at (length texts) begin
  pub texts_stand : InTurn (IsText bytes) begin texts next

-- ---- functions and packages

-- the five numbers of a unit
abbrev pub unit_numbers : MetaUnit → List ℕ
unit_numbers u = u.start.line ∷ u.start.column ∷ u.end.line ∷ u.end.column ∷ u.statements ∷ []

-- the record of a function: the number of its units, the numbers of its name and file in the
-- string table, its units, and the literal flag
pub record IsFunction (texts : List (List ℕ)) (bytes : List ℕ) (at : ℕ) (f : MetaFunction) : Type 0 where
  pub name_number : ℕ
  pub file_number : ℕ
  pub flag : ℕ
  pub next : ℕ
  pub numbers_stand : InTurn (IsUleb bytes) at (length f.units ∷ name_number ∷ file_number ∷ (flat_map unit_numbers f.units ++ flag ∷ [])) next
  pub name_is : slice_get texts name_number ≡ Some f.name
  pub file_is : slice_get texts file_number ≡ Some f.file
  pub literal_is : f.literal ≡ not (flag == 0)

-- the text whose number in the string table, of four bytes, stands there
pub record IsNamed (texts : List (List ℕ)) (bytes : List ℕ) (at : ℕ) (text : List ℕ) : Type 0 where
  pub number : ℕ
  pub number_stands : IsField 4 bytes at number
  pub text_is : slice_get texts number ≡ Some text

-- a blob from start up to the end of the bytes: the package's name, path and module path, the number
-- of functions, where their records stand from start on, the string table with these texts, and the
-- records
pub record IsPackage (texts : List (List ℕ)) (bytes : List ℕ) (start : ℕ) (p : MetaPackage) : Type 0 where
  pub offsets : List ℕ
  pub table : ℕ
  pub name_is : IsNamed texts bytes (start + 4) p.name
  pub path_is : IsNamed texts bytes (start + 8) p.path
  pub module_is : IsNamed texts bytes (start + 12) p.«module»
  pub count_stands : IsField 4 bytes (start + 40) (length p.functions)
  pub offsets_stand : InTurn (IsFixed 4 bytes) (start + 44) offsets table
  pub texts_stand : IsTable bytes table texts
  pub functions_are : AllZip (λ offset f. IsFunction texts bytes (start + offset) f) offsets p.functions

-- ---- the file

-- where a package's blob stands, how long it is, and its texts
pub record Blob : Type 0 where
  pub offset : ℕ
  pub size : ℕ
  pub texts : List (List ℕ)

-- a blob that ends in the file and spells a package by the bytes up to its end
pub record IsBlob (bytes : List ℕ) (blob : Blob) (p : MetaPackage) : Type 0 where
  pub within : blob.offset + blob.size ≤ length bytes
  pub package_is : IsPackage blob.texts (take (blob.offset + blob.size) bytes) blob.offset p

-- the limits on what a file has
pub record KeepsLimits (blobs : List Blob) (packages : List MetaPackage) : Type 0 where
  pub few_packages : length packages ≤ 1000
  pub few_functions : sum_by (λ p. length p.functions) packages ≤ 1048576
  pub few_units : sum_by (λ p. sum_by (λ f. length f.units) p.functions) packages ≤ 1048576
  pub few_texts : sum_by (λ b. length b.texts) blobs ≤ 1048576
  pub few_text_bytes : sum_by (λ b. sum_by length b.texts) blobs ≤ 268435456
  pub short_texts : All (λ b. All (λ t. length t ≤ 2048) b.texts) blobs

-- the byte of a mode
abbrev pub mode_number : Mode → ℕ
mode_number Set = 1
mode_number Count = 2
mode_number Atomic = 3

-- the header, the offsets of all blobs, their lengths, and the blobs; the magic number's bytes are
-- 00 63 76 6d
pub record Spells (bytes : List ℕ) (file : MetaFile) : Type 0 where
  pub blobs : List Blob
  pub lengths_at : ℕ
  pub behind : ℕ
  pub small : length bytes ≤ 268435456
  pub whole_header : 56 ≤ length bytes
  pub magic : IsField 4 bytes 0 0x6d766300
  pub version : IsField 4 bytes 4 1
  pub count_stands : IsField 8 bytes 16 (length file.meta.packages)
  pub hash_stands : Holds bytes 24 file.hash
  pub hash_whole : length file.hash ≡ 16
  pub mode_stands : Holds bytes 48 (mode_number file.meta.mode ∷ [])
  pub granularity : Holds bytes 49 (1 ∷ [])
  pub offsets_stand : InTurn (IsFixed 8 bytes) 56 (map (λ b. b.offset) blobs) lengths_at
  pub lengths_stand : InTurn (IsFixed 8 bytes) lengths_at (map (λ b. b.size) blobs) behind
  pub packages_are : AllZip (IsBlob bytes) blobs file.meta.packages
  pub limits : KeepsLimits blobs file.meta.packages
