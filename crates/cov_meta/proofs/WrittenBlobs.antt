-- The blobs that are written spell the packages.
use Rattle.std.proofs.Common.{◌≡◌, ℕ, ◌+◌, ◌*◌, ◌<◌, ◌≤◌, ◌^◌, List, [], ◌∷◌, ◌++◌, length, drop, map, flat_map, sum_by, sum, replicate, All, refl, sym, ap, ◌∙◌, arith, append_assoc}
use Rattle.std.specs.List.{concat}
use Rattle.std.proofs.lemmas.List.{length-map}
use Rattle.std.proofs.lemmas.List.Sums.{sum_by-cons}
use Rattle.std.proofs.lemmas.List.Elements.{All-weaker, All-nil, All-cons}
use Rattle.byteorder.specs.Endian.{little_bytes}
use Rattle.cov_bytes.specs.Intern.{index_of, with_text}
use Rattle.cov_bytes.specs.Writing.{table_text}
use Rattle.cov_bytes.specs.declared.text_limits.TextLimits.{TextLimits}
use Rattle.cov_meta.specs.declared.meta.MetaPackage.{MetaPackage}
use Rattle.cov_meta.specs.Hash.{blob_hash, package_message}
use Rattle.cov_meta.specs.Spelling.{IsNamed, IsTable, IsPackage}
use Rattle.cov_meta.specs.Written.{function_texts, texts_of, record_text, records_of, records_start, offsets_from, blob_head, blob_text, UnitsFit}
use Rattle.cov_meta.specs.Parts.{PackageFits}
use Rattle.cov_meta.proofs.Interning.{Has, HasBoth, joined, still, kept_all, functions_have, text_at_index}
use Rattle.cov_meta.proofs.Pieces.{sum_lengths}
use Rattle.cov_meta.proofs.Lengths.{length-md5, length-offsets, length-fours}
use Rattle.cov_meta.proofs.SpelledTexts.{table_spells}
use Rattle.cov_meta.proofs.Stands.{BaseLaws, behind, four, fours}
use Rattle.cov_meta.proofs.WrittenFunctions.{functions_stand}

-- a table that is written stands as one
table_stands : BaseLaws → (bytes rest : List ℕ) (at : ℕ) (texts : List (List ℕ)) → length texts < 2 ^ 32 → All (λ t. length t < 2 ^ 32) texts → drop at bytes ≡ table_text texts ++ rest → IsTable bytes at texts
table_stands laws bytes rest at texts few short here =
    let limits : TextLimits = record { strings = 2 ^ 32; one = 2 ^ 32; all = sum_by length texts } in
    (table_spells (record { strings = 2 ^ 32; one = 2 ^ 32; all = sum_by length texts }) bytes at texts (at + length (table_text texts))
    (laws.tables (record { strings = 2 ^ 32; one = 2 ^ 32; all = sum_by length texts }) bytes rest at texts
    (record { count = omega arith; each = All-weaker (λ t. length t < 2 ^ 32) (λ t. length t ≤ 2 ^ 32) (λ t h. omega arith) texts short; together = omega arith; few = few; short = short }) here)).0

-- offsets up to a bound
pub offsets_small : (at bound : ℕ) (lens : List ℕ) → at + sum lens < bound → All (λ n. n < bound) (offsets_from at lens)
offsets_small at bound [] lt = All-nil (λ n. n < bound)
offsets_small at bound (l ∷ lens) lt =
    let total = sum_by-cons (λ (x : ℕ). x) l lens in
    All-cons (λ n. n < bound) at (offsets_from (at + l) lens) (omega arith) (offsets_small (at + l) bound lens (omega arith))

own_texts : (p : MetaPackage) → Has (texts_of p) p.name × Has (texts_of p) p.path × Has (texts_of p) p.«module»
unfolding texts_of
own_texts p =
    let others = flat_map function_texts p.functions in
    let name_there = still (with_text (with_text [] p.name) p.path) p.name p.«module» (still (with_text [] p.name) p.name p.path (joined [] p.name).1) in
    let path_there = still (with_text (with_text [] p.name) p.path) p.path p.«module» (joined (with_text [] p.name) p.path).1 in
    let unit_there = (joined (with_text (with_text [] p.name) p.path) p.«module»).1 in
    let start = with_text (with_text (with_text [] p.name) p.path) p.«module» in (
      (kept_all (with_text (with_text (with_text [] p.name) p.path) p.«module») (flat_map function_texts p.functions) p.name name_there).1,
      (kept_all (with_text (with_text (with_text [] p.name) p.path) p.«module») (flat_map function_texts p.functions) p.path path_there).1,
      (kept_all (with_text (with_text (with_text [] p.name) p.path) p.«module») (flat_map function_texts p.functions) p.«module» unit_there).1,
    )

function_texts_there : (p : MetaPackage) → All (HasBoth (texts_of p)) p.functions
unfolding texts_of
function_texts_there p = functions_have (with_text (with_text (with_text [] p.name) p.path) p.«module») p.functions

regroup : (a b c d e f g h i j k rest : List ℕ) → ((((((((((a ++ b) ++ c) ++ d) ++ e) ++ f) ++ g) ++ h) ++ i) ++ j) ++ k) ++ rest ≡ a ++ (b ++ (c ++ (d ++ (e ++ (f ++ (g ++ (h ++ (i ++ (j ++ (k ++ rest))))))))))
regroup a b c d e f g h i j k rest = simp append_assoc

-- the number of a text stands there
named_stands : BaseLaws → (texts : List (List ℕ)) (bytes : List ℕ) → length texts < 2 ^ 32 → (at : ℕ) (rest text : List ℕ) → Has texts text → drop at bytes ≡ little_bytes 4 (index_of texts text) ++ rest → IsNamed texts bytes at text
named_stands laws texts bytes few at rest text has here = record {
  number = index_of texts text;
  number_stands = four laws bytes rest at (index_of texts text) (at + 4) refl (omega arith) here;
  text_is = text_at_index texts text has;
}

-- the parts of a blob, one behind the other
record BlobStands (bytes rest : List ℕ) (start : ℕ) (p : MetaPackage) : Type 0 where
  pub name : drop (start + 4) bytes ≡ little_bytes 4 (index_of (texts_of p) p.name) ++ drop (start + 8) bytes
  pub path : drop (start + 8) bytes ≡ little_bytes 4 (index_of (texts_of p) p.path) ++ drop (start + 12) bytes
  pub unit : drop (start + 12) bytes ≡ little_bytes 4 (index_of (texts_of p) p.«module») ++ drop (start + 16) bytes
  pub count : drop (start + 40) bytes ≡ little_bytes 4 (length p.functions) ++ drop (start + 44) bytes
  pub offsets : drop (start + 44) bytes ≡ flat_map (little_bytes 4) (offsets_from (records_start p) (map length (records_of p))) ++ drop (start + (44 + 4 * length p.functions)) bytes
  pub table : drop (start + (44 + 4 * length p.functions)) bytes ≡ table_text (texts_of p) ++ drop (start + records_start p) bytes
  pub records : drop (start + records_start p) bytes ≡ concat (records_of p) ++ rest

-- a piece and what stands behind it
pub piece : (bytes front rest : List ℕ) (at next : ℕ) → next ≡ at + length front → drop at bytes ≡ front ++ rest → (drop at bytes ≡ front ++ drop next bytes) × (drop next bytes ≡ rest)
piece bytes front rest at next e here = let after = behind bytes front rest at next e here in (here ∙ ap (λ (t : List ℕ). front ++ t) (sym after), after)

length-records : (p : MetaPackage) → length (map length (records_of p)) ≡ length p.functions
length-records p = length-map (records_of p) length ∙ length-map p.functions (record_text (texts_of p))

blob_stands : (bytes rest : List ℕ) (start : ℕ) (p : MetaPackage) → drop start bytes ≡ blob_text p ++ rest → BlobStands bytes rest start p
unfolding blob_text blob_head
blob_stands bytes rest start p here =
    let a = little_bytes 4 (records_start p + length (concat (records_of p))) in
    let offs = flat_map (little_bytes 4) (offsets_from (records_start p) (map length (records_of p))) in
    let r0 = here ∙ regroup (little_bytes 4 (records_start p + length (concat (records_of p)))) (little_bytes 4 (index_of (texts_of p) p.name)) (little_bytes 4 (index_of (texts_of p) p.path)) (little_bytes 4 (index_of (texts_of p) p.«module»)) (blob_hash p) (replicate 4 0) (little_bytes 4 (length (texts_of p))) (little_bytes 4 (length p.functions))
    (flat_map (little_bytes 4) (offsets_from (records_start p) (map length (records_of p)))) (table_text (texts_of p)) (concat (records_of p)) rest in
    let p0 = piece bytes (little_bytes 4 (records_start p + length (concat (records_of p)))) _ start (start + 4) refl r0 in
    let p4 = piece bytes (little_bytes 4 (index_of (texts_of p) p.name)) _ (start + 4) (start + 8) (omega arith) p0.1 in
    let p8 = piece bytes (little_bytes 4 (index_of (texts_of p) p.path)) _ (start + 8) (start + 12) (omega arith) p4.1 in
    let p12 = piece bytes (little_bytes 4 (index_of (texts_of p) p.«module»)) _ (start + 12) (start + 16) (omega arith) p8.1 in
    let p16 = piece bytes (blob_hash p) _ (start + 16) (start + 32) (omega (arith, length-md5 (package_message p))) p12.1 in
    let p32 = piece bytes (replicate 4 0) _ (start + 32) (start + 36) (omega arith) p16.1 in
    let p36 = piece bytes (little_bytes 4 (length (texts_of p))) _ (start + 36) (start + 40) (omega arith) p32.1 in
    let p40 = piece bytes (little_bytes 4 (length p.functions)) _ (start + 40) (start + 44) (omega arith) p36.1 in
    let p44 = piece bytes (flat_map (little_bytes 4) (offsets_from (records_start p) (map length (records_of p)))) _ (start + 44) (start + (44 + 4 * length p.functions))
    (omega (arith, length-fours (offsets_from (records_start p) (map length (records_of p))), length-offsets (records_start p) (map length (records_of p)), length-records p)) p40.1 in
    let table = piece bytes (table_text (texts_of p)) _ (start + (44 + 4 * length p.functions)) (start + records_start p) (omega arith) p44.1 in
    record { name = p4.0; path = p8.0; unit = p12.0; count = p40.0; offsets = p44.0; table = table.0; records = table.1 }

pub package_stands : BaseLaws → (bytes rest : List ℕ) (start : ℕ) (p : MetaPackage) → PackageFits p → All UnitsFit p.functions → drop start bytes ≡ blob_text p ++ rest → IsPackage (texts_of p) bytes start p
package_stands laws bytes rest start p fits fit here =
    let s = blob_stands bytes rest start p here in
    let own = own_texts p in
    let total : records_start p + sum (map length (records_of p)) < 2 ^ 32 = omega (arith, fits.small, sum_lengths (records_of p)) in
    let short = All-weaker (λ t. length t ≤ 2048) (λ t. length t < 2 ^ 32) (λ t h. omega arith) (texts_of p) fits.short in
    let few : length (texts_of p) < 2 ^ 32 = omega (arith, fits.texts) in
    record {
      offsets = offsets_from (records_start p) (map length (records_of p));
      table = start + (44 + 4 * length p.functions);
      name_is = named_stands laws (texts_of p) bytes few (start + 4) (drop (start + 8) bytes) p.name own.0 s.name;
      path_is = named_stands laws (texts_of p) bytes few (start + 8) (drop (start + 12) bytes) p.path own.1 s.path;
      module_is = named_stands laws (texts_of p) bytes few (start + 12) (drop (start + 16) bytes) p.«module» own.2 s.unit;
      count_stands = four laws bytes (drop (start + 44) bytes) (start + 40) (length p.functions) (start + 40 + 4) refl (omega (arith, fits.functions)) s.count;
      offsets_stand = fours laws bytes (offsets_from (records_start p) (map length (records_of p))) (drop (start + (44 + 4 * length p.functions)) bytes) (start + 44) (start + (44 + 4 * length p.functions))
          (offsets_small (records_start p) (2 ^ 32) (map length (records_of p)) total) (omega (arith, length-offsets (records_start p) (map length (records_of p)), length-records p)) s.offsets;
      texts_stand = table_stands laws bytes (drop (start + records_start p) bytes) (start + (44 + 4 * length p.functions)) (texts_of p) few short s.table;
      functions_are = functions_stand laws (texts_of p) bytes rest start (records_start p) p.functions few fits.units fit (function_texts_there p) s.records;
    }
