-- What is written spells the value.
use Rattle.std.proofs.Common.{◌≡◌, ℕ, ◌+◌, ◌*◌, ◌<◌, ◌≤◌, ◌^◌, List, [], ◌∷◌, ◌++◌, length, take, drop, map, flat_map, sum_by, sum, replicate, codes, All, refl, sym, ap, subst, ◌∙◌, arith, append_assoc, length-append, length-drop}
use Rattle.std.specs.List.{concat, AllZip}
use Rattle.std.proofs.lemmas.List.{length-map, append-nil, drop-take}
use Rattle.std.proofs.lemmas.List.Sums.{sum_by-cons}
use Rattle.std.proofs.lemmas.List.Elements.{All-head, All-tail, All-nil, All-cons}
use Rattle.std.proofs.Math.Seq.{take-append_seam}
use Rattle.byteorder.specs.Endian.{little_bytes}
use Rattle.cov_bytes.specs.Writing.{table_text, uleb_of, groups_of}
use Rattle.cov_meta.specs.declared.meta.MetaPackage.{MetaPackage}
use Rattle.cov_meta.specs.declared.meta.Meta.{Meta}
use Rattle.cov_meta.specs.Hash.{blob_hash, mode_name, meta_hash}
use Rattle.cov_meta.specs.Spelling.{Spells, IsBlob, IsFixed, InTurn, Blob, mode_number}
use Rattle.cov_meta.specs.Written.{KeepsLimits, NumbersFit, UnitsFit, texts_of, blob_text, blobs_start, offsets_from, file_head, meta_text}
use Rattle.cov_meta.specs.Parts.{PackageFits}
use Rattle.cov_meta.proofs.Lengths.{length-md5, length-blob, length-offsets, length-eights}
use Rattle.cov_meta.proofs.Limits.{packages_fit}
use Rattle.cov_meta.proofs.Pieces.{sum_lengths}
use Rattle.cov_meta.proofs.Stands.{BaseLaws, behind, holds, four, eight, eights}
use Rattle.cov_meta.proofs.WrittenBlobs.{piece, offsets_small, package_stands}

-- ---- blobs one after the other

blobs_of : ℕ → List MetaPackage → List Blob
blobs_of at [] = []
blobs_of at (p ∷ ps) = record { offset = at; size = length (blob_text p); texts = texts_of p } ∷ blobs_of (at + length (blob_text p)) ps

blobs_offsets : (at : ℕ) (ps : List MetaPackage) → map (λ b. b.offset) (blobs_of at ps) ≡ offsets_from at (map length (map blob_text ps))
unfolding blobs_of
blobs_offsets at [] = refl
blobs_offsets at (p ∷ ps) = ap (λ (ns : List ℕ). at ∷ ns) (blobs_offsets (at + length (blob_text p)) ps)

blobs_sizes : (at : ℕ) (ps : List MetaPackage) → map (λ b. b.size) (blobs_of at ps) ≡ map length (map blob_text ps)
unfolding blobs_of
blobs_sizes at [] = refl
blobs_sizes at (p ∷ ps) = ap (λ (ns : List ℕ). length (blob_text p) ∷ ns) (blobs_sizes (at + length (blob_text p)) ps)

blobs_counted : (f : List (List ℕ) → ℕ) (at : ℕ) (ps : List MetaPackage) → sum_by (λ b. f b.texts) (blobs_of at ps) ≡ sum_by (λ p. f (texts_of p)) ps
unfolding blobs_of
blobs_counted f at [] = refl
blobs_counted f at (p ∷ ps) =
    let b : Blob = record { offset = at; size = length (blob_text p); texts = texts_of p } in
    omega (arith, blobs_counted f (at + length (blob_text p)) ps, sum_by-cons (λ (q : MetaPackage). f (texts_of q)) p ps, sum_by-cons (λ (c : Blob). f c.texts) (record { offset = at; size = length (blob_text p); texts = texts_of p }) (blobs_of (at + length (blob_text p)) ps))

abbrev ShortTexts : List (List ℕ) → Type 0
ShortTexts texts = All (λ t. length t ≤ 2048) texts

blobs_short : (at : ℕ) (ps : List MetaPackage) → All (λ p. ShortTexts (texts_of p)) ps → All (λ b. ShortTexts b.texts) (blobs_of at ps)
unfolding blobs_of
blobs_short at [] short = All-nil (λ (b : Blob). ShortTexts b.texts)
blobs_short at (p ∷ ps) short =
    All-cons (λ (b : Blob). ShortTexts b.texts) (record { offset = at; size = length (blob_text p); texts = texts_of p }) (blobs_of (at + length (blob_text p)) ps) (All-head (λ q. ShortTexts (texts_of q)) p ps short) (blobs_short (at + length (blob_text p)) ps (All-tail (λ q. ShortTexts (texts_of q)) p ps short))

sizes_small : (bound : ℕ) (lens : List ℕ) → sum lens < bound → All (λ n. n < bound) lens
sizes_small bound [] lt = All-nil (λ n. n < bound)
sizes_small bound (l ∷ lens) lt = let total = sum_by-cons (λ (x : ℕ). x) l lens in All-cons (λ n. n < bound) l lens (omega arith) (sizes_small bound lens (omega arith))

abbrev FunctionsFit : MetaPackage → Type 0
FunctionsFit p = All UnitsFit p.functions

blob_is : BaseLaws → (bytes rest : List ℕ) (at : ℕ) (p : MetaPackage) → PackageFits p → FunctionsFit p → drop at bytes ≡ blob_text p ++ rest → IsBlob bytes (record { offset = at; size = length (blob_text p); texts = texts_of p }) p
blob_is laws bytes rest at p fits fit here =
    let cut : drop at (take (at + length (blob_text p)) bytes) ≡ blob_text p ++ [] =
    drop-take at (length (blob_text p)) bytes ∙ ap (take (length (blob_text p))) here ∙ take-append_seam (blob_text p) rest ∙ sym (append-nil (blob_text p)) in
    record {
      within = omega (arith, length-drop at bytes, ap length here, length-append (blob_text p) rest, length-blob p);
      package_is = package_stands laws (take (at + length (blob_text p)) bytes) [] at p fits fit cut;
    }

blobs_stand : BaseLaws → (bytes rest : List ℕ) (at : ℕ) (ps : List MetaPackage) → All PackageFits ps → All FunctionsFit ps → drop at bytes ≡ concat (map blob_text ps) ++ rest → AllZip (IsBlob bytes) (blobs_of at ps) ps
unfolding blobs_of
blobs_stand laws bytes rest at [] fits fit here = tt
blobs_stand laws bytes rest at (p ∷ ps) fits fit here =
    let parts : drop at bytes ≡ blob_text p ++ (concat (map blob_text ps) ++ rest) = here ∙ append_assoc (blob_text p) (concat (map blob_text ps)) rest in (
      blob_is laws bytes (concat (map blob_text ps) ++ rest) at p (All-head PackageFits p ps fits) (All-head FunctionsFit p ps fit) parts,
      blobs_stand laws bytes rest (at + length (blob_text p)) ps (All-tail PackageFits p ps fits) (All-tail FunctionsFit p ps fit) (behind bytes (blob_text p) (concat (map blob_text ps) ++ rest) at (at + length (blob_text p)) refl parts),
    )

-- ---- the file

regroup : (a b c d e f g h i j k l m : List ℕ) → ((((((((((((a ++ b) ++ c) ++ d) ++ e) ++ f) ++ g) ++ h) ++ i) ++ j) ++ k) ++ l) ++ m) ≡ a ++ (b ++ (c ++ (d ++ (e ++ (f ++ (g ++ (h ++ (i ++ (j ++ (k ++ (l ++ m)))))))))))
regroup a b c d e f g h i j k l m = simp append_assoc

-- the parts of a file, one behind the other
record FileStands (bytes : List ℕ) (meta : Meta) : Type 0 where
  pub magic : drop 0 bytes ≡ little_bytes 4 0x6d766300 ++ drop 4 bytes
  pub version : drop 4 bytes ≡ little_bytes 4 1 ++ drop 8 bytes
  pub count : drop 16 bytes ≡ little_bytes 8 (length meta.packages) ++ drop 24 bytes
  pub hash : drop 24 bytes ≡ meta_hash meta ++ drop 40 bytes
  pub mode : drop 48 bytes ≡ (mode_number meta.mode ∷ 1 ∷ []) ++ drop 50 bytes
  pub unused : drop 50 bytes ≡ replicate 6 0 ++ drop 56 bytes
  pub offsets : drop 56 bytes ≡ flat_map (little_bytes 8) (offsets_from (blobs_start meta) (map length (map blob_text meta.packages))) ++ drop (56 + 8 * length meta.packages) bytes
  pub sizes : drop (56 + 8 * length meta.packages) bytes ≡ flat_map (little_bytes 8) (map length (map blob_text meta.packages)) ++ drop (56 + 16 * length meta.packages) bytes
  pub blobs : drop (blobs_start meta) bytes ≡ concat (map blob_text meta.packages)

one_text : length (table_text ([] ∷ [])) ≡ 2
unfolding table_text uleb_of groups_of
one_text = refl

file_stands : (bytes : List ℕ) (meta : Meta) → bytes ≡ meta_text meta → FileStands bytes meta
unfolding meta_text file_head
file_stands bytes meta same =
    let n = length meta.packages in
    let r0 : drop 0 bytes ≡ _ = same ∙ regroup (little_bytes 4 0x6d766300) (little_bytes 4 1) (little_bytes 8 (blobs_start meta + length (concat (map blob_text meta.packages)))) (little_bytes 8 (length meta.packages)) (meta_hash meta)
    (little_bytes 4 (56 + 16 * length meta.packages)) (little_bytes 4 2) (mode_number meta.mode ∷ 1 ∷ []) (replicate 6 0) (flat_map (little_bytes 8) (offsets_from (blobs_start meta) (map length (map blob_text meta.packages))))
    (flat_map (little_bytes 8) (map length (map blob_text meta.packages))) (table_text ([] ∷ [])) (concat (map blob_text meta.packages)) in
    let p0 = piece bytes (little_bytes 4 0x6d766300) _ 0 4 refl r0 in
    let p4 = piece bytes (little_bytes 4 1) _ 4 8 refl p0.1 in
    let p8 = piece bytes (little_bytes 8 (blobs_start meta + length (concat (map blob_text meta.packages)))) _ 8 16 refl p4.1 in
    let p16 = piece bytes (little_bytes 8 (length meta.packages)) _ 16 24 refl p8.1 in
    let p24 = piece bytes (meta_hash meta) _ 24 40 (omega (arith, length-md5 (concat (map blob_hash meta.packages) ++ mode_name meta.mode ++ codes "perblock"))) p16.1 in
    let p40 = piece bytes (little_bytes 4 (56 + 16 * length meta.packages)) _ 40 44 refl p24.1 in
    let p44 = piece bytes (little_bytes 4 2) _ 44 48 refl p40.1 in
    let p48 = piece bytes (mode_number meta.mode ∷ 1 ∷ []) _ 48 50 refl p44.1 in
    let p50 = piece bytes (replicate 6 0) _ 50 56 refl p48.1 in
    let count : length (map length (map blob_text meta.packages)) ≡ length meta.packages = length-map (map blob_text meta.packages) length ∙ length-map meta.packages blob_text in
    let p56 = piece bytes (flat_map (little_bytes 8) (offsets_from (blobs_start meta) (map length (map blob_text meta.packages)))) _ 56 (56 + 8 * length meta.packages)
    (omega (arith, length-eights (offsets_from (blobs_start meta) (map length (map blob_text meta.packages))), length-offsets (blobs_start meta) (map length (map blob_text meta.packages)))) p50.1 in
    let sizes = piece bytes (flat_map (little_bytes 8) (map length (map blob_text meta.packages))) _ (56 + 8 * length meta.packages) (56 + 16 * length meta.packages) (omega (arith, length-eights (map length (map blob_text meta.packages)))) p56.1 in
    let table = piece bytes (table_text ([] ∷ [])) _ (56 + 16 * length meta.packages) (blobs_start meta) (omega (arith, one_text)) sizes.1 in
    record { magic = p0.0; version = p4.0; count = p16.0; hash = p24.0; mode = p48.0; unused = p50.0; offsets = p56.0; sizes = sizes.0; blobs = table.1 }

-- the fields of the head, the lists of offsets and sizes, and the blobs
pub written_is_spelled : BaseLaws → (meta : Meta) → KeepsLimits meta → NumbersFit meta → length (meta_text meta) ≤ 268435456 → Spells (meta_text meta) (record { hash = meta_hash meta; meta = meta })
written_is_spelled laws meta keeps fit small =
    let bytes = meta_text meta in
    let s = file_stands (meta_text meta) meta refl in
    let at = blobs_start meta in
    let packages = meta.packages in
    let fits = packages_fit meta keeps in
    let behind_blobs : length (concat (map blob_text meta.packages)) ≤ 268435456 = omega (arith, small, ap length s.blobs, length-drop (blobs_start meta) (meta_text meta)) in
    let sum_is = sum_lengths (map blob_text meta.packages) in
    let offsets_fit = offsets_small (blobs_start meta) (2 ^ 64) (map length (map blob_text meta.packages)) (omega (arith, keeps.few_packages)) in
    let sizes_fit = sizes_small (2 ^ 64) (map length (map blob_text meta.packages)) (omega arith) in
    let count : length (map length (map blob_text meta.packages)) ≡ length meta.packages = length-map (map blob_text meta.packages) length ∙ length-map meta.packages blob_text in
    let one : drop 49 (meta_text meta) ≡ 1 ∷ drop 50 (meta_text meta) = behind (meta_text meta) (mode_number meta.mode ∷ []) (1 ∷ drop 50 (meta_text meta)) 48 49 refl s.mode in
    record {
      blobs = blobs_of (blobs_start meta) meta.packages;
      lengths_at = 56 + 8 * length meta.packages;
      behind = 56 + 16 * length meta.packages;
      small = small;
      whole_header = omega (arith, ap length s.unused, length-drop 50 (meta_text meta), length-append (replicate 6 0) (drop 56 (meta_text meta)));
      magic = four laws (meta_text meta) (drop 4 (meta_text meta)) 0 0x6d766300 4 refl (omega arith) s.magic;
      version = four laws (meta_text meta) (drop 8 (meta_text meta)) 4 1 8 refl (omega arith) s.version;
      count_stands = eight laws (meta_text meta) (drop 24 (meta_text meta)) 16 (length meta.packages) 24 refl (omega (arith, keeps.few_packages)) s.count;
      hash_stands = holds (meta_text meta) (meta_hash meta) (drop 40 (meta_text meta)) 24 s.hash;
      hash_whole = length-md5 (concat (map blob_hash meta.packages) ++ mode_name meta.mode ++ codes "perblock");
      mode_stands = holds (meta_text meta) (mode_number meta.mode ∷ []) (1 ∷ drop 50 (meta_text meta)) 48 s.mode;
      granularity = holds (meta_text meta) (1 ∷ []) (drop 50 (meta_text meta)) 49 one;
      offsets_stand = subst (λ ns. InTurn (IsFixed 8 (meta_text meta)) 56 ns (56 + 8 * length meta.packages)) (sym (blobs_offsets (blobs_start meta) meta.packages))
          (eights laws (meta_text meta) (offsets_from (blobs_start meta) (map length (map blob_text meta.packages))) (drop (56 + 8 * length meta.packages) (meta_text meta)) 56 (56 + 8 * length meta.packages) offsets_fit
          (omega (arith, length-offsets (blobs_start meta) (map length (map blob_text meta.packages)))) s.offsets);
      lengths_stand = subst (λ ns. InTurn (IsFixed 8 (meta_text meta)) (56 + 8 * length meta.packages) ns (56 + 16 * length meta.packages)) (sym (blobs_sizes (blobs_start meta) meta.packages))
          (eights laws (meta_text meta) (map length (map blob_text meta.packages)) (drop (56 + 16 * length meta.packages) (meta_text meta)) (56 + 8 * length meta.packages) (56 + 16 * length meta.packages) sizes_fit (omega arith) s.sizes);
      packages_are = blobs_stand laws (meta_text meta) [] (blobs_start meta) meta.packages fits fit (s.blobs ∙ sym (append-nil (concat (map blob_text meta.packages))));
      limits = record {
        few_packages = keeps.few_packages;
        few_functions = keeps.few_functions;
        few_units = keeps.few_units;
        few_texts = omega (arith, blobs_counted length (blobs_start meta) meta.packages, keeps.few_texts);
        few_text_bytes = omega (arith, blobs_counted (sum_by length) (blobs_start meta) meta.packages, keeps.few_text_bytes);
        short_texts = blobs_short (blobs_start meta) meta.packages keeps.short_texts;
      };
    }
