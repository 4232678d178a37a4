-- What the writer's own functions say to one another.
use Rattle.std.specs.Prelude.{◌≡◌, ℕ, ◌+◌, ◌^◌, ◌<◌, ◌≤◌, List, length, map, All}
use Rattle.std.specs.List.{concat}
use Rattle.cov_bytes.specs.Intern.{index_of}
use Rattle.cov_bytes.specs.Writing.{table_text}
use Rattle.cov_meta.specs.declared.blob.TextNumbers.{TextNumbers}
use Rattle.cov_meta.specs.declared.written_blob.BlobParts.{BlobParts}
use Rattle.cov_meta.specs.declared.meta.MetaPackage.{MetaPackage}
use Rattle.cov_meta.specs.Written.{UnitsFit, texts_of, records_of, records_start, numbers_of}

-- a package whose blob's numbers fit their fields
pub record PackageFits (p : MetaPackage) : Type 0 where
  pub functions : length p.functions ≤ 1048576
  pub units : All (λ f. length f.units ≤ 1048576) p.functions
  pub texts : length (texts_of p) ≤ 1048576
  pub short : All (λ t. length t ≤ 2048) (texts_of p)
  pub small : records_start p + length (concat (records_of p)) < 2 ^ 32

-- these are the numbers of a package's own texts
pub record NumbersAre (texts : List (List ℕ)) (numbers : TextNumbers) (p : MetaPackage) : Type 0 where
  pub name : numbers.name ≡ index_of texts p.name
  pub path : numbers.path ≡ index_of texts p.path
  pub unit : numbers.«module» ≡ index_of texts p.«module»

-- these are what stands in a package's blob
pub record PartsAre (parts : BlobParts) (p : MetaPackage) : Type 0 where
  pub numbers : parts.numbers ≡ numbers_of p
  pub count : parts.count ≡ length (texts_of p)
  pub table : parts.table.items ≡ table_text (texts_of p)
  pub records : parts.records.bytes ≡ concat (records_of p)
  pub lengths : parts.records.lengths.items ≡ map length (records_of p)
  pub fits : All UnitsFit p.functions
