-- What is pushed for a package is its blob.
use Rattle.std.proofs.Common.{◌≡◌, ℕ, ◌+◌, List, [], ◌∷◌, ◌++◌, length, map, flat_map, refl, sym, ap, ◌∙◌, append_assoc}
use Rattle.std.specs.List.{concat}
use Rattle.byteorder.specs.Endian.{little_bytes}
use Rattle.cov_bytes.specs.Intern.{index_of, with_text}
use Rattle.cov_bytes.specs.Writing.{table_text, uleb_of, groups_of}
use Rattle.cov_meta.specs.declared.blob.TextNumbers.{TextNumbers}
use Rattle.cov_meta.specs.declared.meta.MetaFunction.{MetaFunction}
use Rattle.cov_meta.specs.declared.meta.MetaPackage.{MetaPackage}
use Rattle.cov_meta.specs.declared.meta.Meta.{Meta}
use Rattle.cov_meta.specs.Hash.{blob_hash, meta_hash}
use Rattle.cov_meta.specs.Written.{with_texts, function_texts, texts_of, record_text, records_of, records_start, offsets_from, numbers_of, blob_head, blob_text, file_head, meta_text, blobs_start}
use Rattle.cov_meta.specs.Parts.{NumbersAre}
use Rattle.cov_meta.proofs.Interning.{Has, joined, still, kept_all}

-- the texts of a package's own, then those of its functions
pub texts_in_turn : (p : MetaPackage) → with_texts (with_texts [] (p.name ∷ p.path ∷ p.«module» ∷ [])) (flat_map function_texts p.functions) ≡ texts_of p
unfolding texts_of
texts_in_turn p = refl

number_stays : (p : MetaPackage) (text : List ℕ) → Has (with_texts [] (p.name ∷ p.path ∷ p.«module» ∷ [])) text → index_of (texts_of p) text ≡ index_of (with_texts [] (p.name ∷ p.path ∷ p.«module» ∷ [])) text
number_stays p text there =
    ap (λ (ts : List (List ℕ)). index_of ts text) (sym (texts_in_turn p)) ∙ (kept_all (with_texts [] (p.name ∷ p.path ∷ p.«module» ∷ [])) (flat_map function_texts p.functions) text there).0

same_numbers : (a b : TextNumbers) → a.name ≡ b.name → a.path ≡ b.path → a.«module» ≡ b.«module» → a ≡ b
same_numbers a b e f g = λ i. record { name = e i; path = f i; «module» = g i }

-- the numbers of its own texts are the same at the end
pub numbers_in_turn : (p : MetaPackage) (numbers : TextNumbers) → NumbersAre (with_texts [] (p.name ∷ p.path ∷ p.«module» ∷ [])) numbers p → numbers ≡ numbers_of p
numbers_in_turn p numbers are =
    let name_there = still (with_text (with_text [] p.name) p.path) p.name p.«module» (still (with_text [] p.name) p.name p.path (joined [] p.name).1) in
    let path_there = still (with_text (with_text [] p.name) p.path) p.path p.«module» (joined (with_text [] p.name) p.path).1 in
    let unit_there = (joined (with_text (with_text [] p.name) p.path) p.«module»).1 in
    same_numbers numbers (numbers_of p) (are.name ∙ sym (number_stays p p.name name_there)) (are.path ∙ sym (number_stays p p.path path_there)) (are.unit ∙ sym (number_stays p p.«module» unit_there))

pub blob_is : (p : MetaPackage) (old head offsets both whole : List ℕ) (size start texts functions : ℕ) (numbers : TextNumbers) (hash table records : List ℕ) (lengths : List ℕ)
    → head ≡ old ++ blob_head size numbers hash texts functions → offsets ≡ head ++ flat_map (little_bytes 4) (offsets_from start lengths) → both ≡ offsets ++ table → whole ≡ both ++ records
    → numbers ≡ numbers_of p → hash ≡ blob_hash p → table ≡ table_text (texts_of p) → records ≡ concat (records_of p) → lengths ≡ map length (records_of p)
    → texts ≡ length (texts_of p) → functions ≡ length p.functions → start ≡ records_start p → size ≡ records_start p + length (concat (records_of p)) → whole ≡ old ++ blob_text p
unfolding blob_text
blob_is p old head offsets both whole size start texts functions numbers hash table records lengths h o b w is_numbers is_hash is_table is_records is_lengths is_texts is_functions is_start is_size =
    rw (w, b, o, h, is_numbers, is_hash, is_table, is_records, is_lengths, is_texts, is_functions, is_start, is_size) (simp append_assoc)

-- the texts of a package, from those of its own
pub texts_all : (p : MetaPackage) (own : List (List ℕ)) (fs : List MetaFunction) → own ≡ with_texts [] (p.name ∷ p.path ∷ p.«module» ∷ []) → fs ≡ p.functions → with_texts own (flat_map function_texts fs) ≡ texts_of p
texts_all p own fs e f = ap (λ (ts : List (List ℕ)). with_texts ts (flat_map function_texts fs)) e ∙ ap (λ (gs : List MetaFunction). with_texts (with_texts [] (p.name ∷ p.path ∷ p.«module» ∷ [])) (flat_map function_texts gs)) f ∙ texts_in_turn p

-- the records by a table that has the package's texts
pub records_by : (p : MetaPackage) (texts : List (List ℕ)) (fs : List MetaFunction) → texts ≡ texts_of p → fs ≡ p.functions → map (record_text texts) fs ≡ records_of p
records_by p texts fs e f = ap (λ (ts : List (List ℕ)). map (record_text ts) fs) e ∙ ap (map (record_text (texts_of p))) f

-- what is pushed for a value is its file
pub file_is : (meta : Meta) (head offsets lengths table whole : List ℕ) (size start packages : ℕ) (hash blobs : List ℕ) (sizes : List ℕ)
    → head ≡ file_head size packages hash meta.mode → offsets ≡ head ++ flat_map (little_bytes 8) (offsets_from start sizes) → lengths ≡ offsets ++ flat_map (little_bytes 8) sizes
    → table ≡ lengths ++ 1 ∷ 0 ∷ [] → whole ≡ table ++ blobs
    → hash ≡ meta_hash meta → blobs ≡ concat (map blob_text meta.packages) → sizes ≡ map length (map blob_text meta.packages) → packages ≡ length meta.packages → start ≡ blobs_start meta
    → size ≡ blobs_start meta + length (concat (map blob_text meta.packages)) → whole ≡ meta_text meta
unfolding meta_text table_text uleb_of groups_of
file_is meta head offsets lengths table whole size start packages hash blobs sizes h o l t w is_hash is_blobs is_sizes is_packages is_start is_size =
    rw (w, t, l, o, h, is_hash, is_blobs, is_sizes, is_packages, is_start, is_size) refl
