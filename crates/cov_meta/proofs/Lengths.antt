-- How many bytes the parts of a file have.
use Rattle.std.proofs.Common.{◌≡◌, ℕ, ◌+◌, ◌*◌, ◌≤◌, ◌^◌, List, [], ◌∷◌, length, map, flat_map, All, refl, ◌∙◌, arith, length-append}
use Rattle.std.specs.List.{concat}
use Rattle.std.proofs.lemmas.List.{length-map}
use Rattle.std.proofs.lemmas.List.Elements.{All-head, All-tail}
use Rattle.byteorder.specs.Endian.{little_bytes}
use Rattle.md5.specs.Md5.{md5, digest_bytes}
use Rattle.cov_meta.specs.declared.blob.TextNumbers.{TextNumbers}
use Rattle.cov_meta.specs.declared.meta.MetaPackage.{MetaPackage}
use Rattle.cov_meta.specs.Hash.{blob_hash, package_message}
use Rattle.cov_meta.specs.Written.{texts_of, record_text, records_of, records_start, offsets_from, numbers_of, blob_head, blob_text}
use Rattle.cov_meta.specs.Parts.{PackageFits}

digest_length : (h : List ℕ) → length (digest_bytes h 4) ≡ 16
unfolding digest_bytes
digest_length h = refl

pub length-md5 : (m : List ℕ) → length (md5 m) ≡ 16
unfolding md5
length-md5 m = digest_length _

pub length-offsets : (at : ℕ) (lens : List ℕ) → length (offsets_from at lens) ≡ length lens
length-offsets at [] = refl
length-offsets at (len ∷ lens) = omega (arith, length-offsets (at + len) lens)

pub length-fours : (ns : List ℕ) → length (flat_map (little_bytes 4) ns) ≡ 4 * length ns
length-fours [] = refl
length-fours (n ∷ ns) = omega (arith, length-fours ns)

pub length-eights : (ns : List ℕ) → length (flat_map (little_bytes 8) ns) ≡ 8 * length ns
length-eights [] = refl
length-eights (n ∷ ns) = omega (arith, length-eights ns)

pub length-blob_head : (size : ℕ) (numbers : TextNumbers) (hash : List ℕ) (texts functions : ℕ) → length hash ≡ 16 → length (blob_head size numbers hash texts functions) ≡ 44
unfolding blob_head
length-blob_head size numbers hash texts functions h = simp length-append (omega arith)

pub length-blob : (p : MetaPackage) → length (blob_text p) ≡ records_start p + length (concat (records_of p))
unfolding blob_text
length-blob p =
    let head = length-blob_head (records_start p + length (concat (records_of p))) (numbers_of p) (blob_hash p) (length (texts_of p)) (length p.functions) (length-md5 (package_message p)) in
    let offsets = length-fours (offsets_from (records_start p) (map length (records_of p))) in
    let count = length-offsets (records_start p) (map length (records_of p)) in
    let records : length (map length (records_of p)) ≡ length p.functions = length-map (records_of p) length ∙ length-map p.functions (record_text (texts_of p)) in
    simp length-append (omega arith)

-- few packages that fit have few bytes
pub blobs_small : (ps : List MetaPackage) → All PackageFits ps → length (concat (map blob_text ps)) ≤ length ps * 2 ^ 32
blobs_small [] fits = omega arith
blobs_small (p ∷ ps) fits =
    let here = All-head PackageFits p ps fits in
    omega (arith, here.small, length-blob p, blobs_small ps (All-tail PackageFits p ps fits), length-append (blob_text p) (concat (map blob_text ps)))
