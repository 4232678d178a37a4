-- The one spelling of a meta file that is written.
-- The layout is that of internal/coverage/defs.go in Go 1.20.
use Rattle.std.specs.Prelude.{ℕ, ◌+◌, ◌*◌, ◌^◌, ◌<◌, ◌≤◌, List, [], ◌∷◌, ◌++◌, length, map, flat_map, fold, sum_by, replicate, All}
use Rattle.std.specs.List.{concat}
use Rattle.byteorder.specs.Endian.{little_bytes}
use Rattle.cov_bytes.specs.Intern.{index_of, with_text}
use Rattle.cov_bytes.specs.Writing.{uleb_of, table_text}
use Rattle.cov_outside.specs.declared.mode.Mode.{Mode}
use Rattle.cov_meta.specs.declared.blob.TextNumbers.{TextNumbers}
use Rattle.cov_meta.specs.declared.meta.MetaFunction.{MetaFunction}
use Rattle.cov_meta.specs.declared.meta.MetaPackage.{MetaPackage}
use Rattle.cov_meta.specs.declared.meta.Meta.{Meta}
use Rattle.cov_meta.specs.Spelling.{unit_numbers, mode_number}
use Rattle.cov_meta.specs.Hash.{flag_number, blob_hash, meta_hash}

-- ---- texts

-- the texts with others among them: new ones go last, in order
abbrev pub with_texts : List (List ℕ) → List (List ℕ) → List (List ℕ)
with_texts texts others = fold with_text texts others

abbrev pub function_texts : MetaFunction → List (List ℕ)
function_texts f = f.name ∷ f.file ∷ []

-- the texts of a package, each once, in the order of their first use
unfoldable pub texts_of : MetaPackage → List (List ℕ)
texts_of p = with_texts [] (p.name ∷ p.path ∷ p.«module» ∷ flat_map function_texts p.functions)

-- ---- records, blobs, the file

-- where pieces of these lengths stand that follow each other from an offset on
abbrev pub offsets_from : ℕ → List ℕ → List ℕ
offsets_from at [] = []
offsets_from at (len ∷ lens) = at ∷ offsets_from (at + len) lens

-- the record of a function: the number of units, the numbers of its name and file, five numbers a unit, the flag
abbrev pub record_numbers : ℕ → ℕ → MetaFunction → List ℕ
record_numbers name file f = length f.units ∷ name ∷ file ∷ (flat_map unit_numbers f.units ++ flag_number f.literal ∷ [])

unfoldable pub record_text : List (List ℕ) → MetaFunction → List ℕ
record_text texts f = flat_map uleb_of (record_numbers (index_of texts f.name) (index_of texts f.file) f)

-- the records of a package
abbrev pub records_of : MetaPackage → List (List ℕ)
records_of p = map (record_text (texts_of p)) p.functions

-- where the records begin in a blob: behind 44 bytes, the offsets and the string table
abbrev pub records_start : MetaPackage → ℕ
records_start p = 44 + 4 * length p.functions + length (table_text (texts_of p))

-- the numbers of a package's own texts
abbrev pub numbers_of : MetaPackage → TextNumbers
numbers_of p = record { name = index_of (texts_of p) p.name; path = index_of (texts_of p) p.path; «module» = index_of (texts_of p) p.«module» }

-- the first 44 bytes of a blob: its size, the numbers of its name, path and module path, its hash, 4 unused bytes, how many texts and functions
unfoldable pub blob_head : ℕ → TextNumbers → List ℕ → ℕ → ℕ → List ℕ
blob_head size numbers hash texts functions =
    little_bytes 4 size ++ little_bytes 4 numbers.name ++ little_bytes 4 numbers.path ++ little_bytes 4 numbers.«module»
    ++ hash ++ replicate 4 0 ++ little_bytes 4 texts ++ little_bytes 4 functions

-- the blob of a package: its head, the offsets of the records, the texts and the records
unfoldable pub blob_text : MetaPackage → List ℕ
blob_text p =
    blob_head (records_start p + length (concat (records_of p))) (numbers_of p) (blob_hash p) (length (texts_of p)) (length p.functions)
    ++ flat_map (little_bytes 4) (offsets_from (records_start p) (map length (records_of p)))
    ++ table_text (texts_of p) ++ concat (records_of p)

-- where the blobs begin in a file: behind 56 bytes, an offset and a length each, and a string table of one empty text
abbrev pub blobs_start : Meta → ℕ
blobs_start meta = 58 + 16 * length meta.packages

-- the first 56 bytes of a file: magic, version, its size, how many packages, the hash, where its string table stands and how long that is,
-- mode, granularity, 6 unused bytes
unfoldable pub file_head : ℕ → ℕ → List ℕ → Mode → List ℕ
file_head size packages hash mode =
    little_bytes 4 0x6d766300 ++ little_bytes 4 1 ++ little_bytes 8 size ++ little_bytes 8 packages
    ++ hash ++ little_bytes 4 (56 + 16 * packages) ++ little_bytes 4 2 ++ (mode_number mode ∷ 1 ∷ []) ++ replicate 6 0

-- the file: its head, the offsets of the blobs, their lengths, the string table and the blobs
unfoldable pub meta_text : Meta → List ℕ
meta_text meta =
    let blobs = map blob_text meta.packages in
    file_head (blobs_start meta + length (concat blobs)) (length meta.packages) (meta_hash meta) meta.mode
    ++ flat_map (little_bytes 8) (offsets_from (blobs_start meta) (map length blobs)) ++ flat_map (little_bytes 8) (map length blobs)
    ++ table_text ([] ∷ []) ++ concat blobs

-- ---- limits

-- a value whose file keeps the limits of reading, apart from that on its bytes
pub record KeepsLimits (meta : Meta) : Type 0 where
  pub few_packages : length meta.packages ≤ 1000
  pub few_functions : sum_by (λ p. length p.functions) meta.packages ≤ 1048576
  pub few_units : sum_by (λ p. sum_by (λ f. length f.units) p.functions) meta.packages ≤ 1048576
  pub few_texts : sum_by (λ p. length (texts_of p)) meta.packages ≤ 1048576
  pub few_text_bytes : sum_by (λ p. sum_by length (texts_of p)) meta.packages ≤ 268435456
  pub short_texts : All (λ p. All (λ t. length t ≤ 2048) (texts_of p)) meta.packages

-- the numbers of a function's units fit 32 bits
abbrev pub UnitsFit : MetaFunction → Type 0
UnitsFit f = All (λ n. n < 2 ^ 32) (flat_map unit_numbers f.units)

-- the numbers of all units fit 32 bits, as those of a value do by their type
abbrev pub NumbersFit : Meta → Type 0
NumbersFit meta = All (λ p. All UnitsFit p.functions) meta.packages
