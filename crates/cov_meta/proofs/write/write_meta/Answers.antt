use Rattle.std.proofs.Common.{◌≡◌, ℕ, ◌+◌, ◌*◌, List, ◌++◌, length, map, flat_map, codes, sum, All, sym, ap, subst, ◌∙◌, arith}
use Rattle.std.specs.List.{concat}
use Rattle.byteorder.specs.Endian.{little_bytes}
use Rattle.md5.specs.Md5.{md5}
use Rattle.cov_meta.specs.Hash.{blob_hash, mode_name, meta_hash}
use Rattle.cov_meta.specs.Written.{UnitsFit, blob_text, file_head}
use Rattle.cov_meta.specs.Parts.{PackageFits}
use Rattle.cov_meta.proofs.Lengths.{blobs_small}
use Rattle.cov_meta.proofs.Limits.{packages_fit}
use Rattle.cov_meta.proofs.Pieces.{sum_lengths}
use Rattle.cov_meta.proofs.BlobLemmas.{file_is}
use Rattle.cov_meta.proofs.write.write_meta.Goals as goal

pub write_blobs-requires-clause-fits : goal.write_blobs-requires-clause-fits
write_blobs-requires-clause-fits c = subst (All PackageFits) (sym c.as_slice-packages.ensures) (packages_fit c.args.meta.now c.requires)

pub push_offsets-requires : goal.push_offsets-requires
push_offsets-requires c =
    let sizes : sum c.deref-3.result.now ≡ length (concat (map blob_text c.as_slice-packages.result.now)) = ap sum (c.deref-3.ensures.value ∙ c.in_ok-blobs.ensures.lengths) ∙ sum_lengths (map blob_text c.as_slice-packages.result.now) in
    let small = blobs_small c.as_slice-packages.result.now (subst (All PackageFits) (sym c.as_slice-packages.ensures) (packages_fit c.args.meta.now c.requires)) in
    omega (arith, c.requires.few_packages, sizes, small, ap length c.as_slice-packages.ensures)

pub returns-clause-hash : goal.returns-clause-hash
returns-clause-hash c =
    c.hash_file-hash.ensures ∙ ap (λ (hs : List (List ℕ)). md5 (concat hs ++ mode_name c.args.meta.now.mode ++ codes "perblock")) (c.deref.ensures.value ∙ c.in_ok-hashes.ensures ∙ ap (map blob_hash) c.as_slice-packages.ensures)

pub returns-clause-bytes : goal.returns-clause-bytes
returns-clause-bytes c =
    let packages = c.as_slice-packages.ensures in
    let count = ap length c.as_slice-packages.ensures in
    let texts : map blob_text c.as_slice-packages.result.now ≡ map blob_text c.args.meta.now.packages = ap (map blob_text) packages in
    let hash : c.hash_file-hash.result ≡ meta_hash c.args.meta.now =
    c.hash_file-hash.ensures ∙ ap (λ (hs : List (List ℕ)). md5 (concat hs ++ mode_name c.args.meta.now.mode ++ codes "perblock")) (c.deref.ensures.value ∙ c.in_ok-hashes.ensures ∙ ap (map blob_hash) packages) in
    let blobs : c.as_slice.result.now ≡ concat (map blob_text c.args.meta.now.packages) = c.as_slice.ensures ∙ c.in_ok-blobs.ensures.bytes ∙ ap concat texts in
    let sizes : c.deref-3.result.now ≡ map length (map blob_text c.args.meta.now.packages) = c.deref-3.ensures.value ∙ c.in_ok-blobs.ensures.lengths ∙ ap (map length) texts in
    let same : c.deref-4.result.now ≡ c.deref-3.result.now = c.deref-4.ensures.value ∙ sym c.deref-3.ensures.value in
    let bytes : length c.in_ok-blobs.blobs.bytes ≡ length (concat (map blob_text c.args.meta.now.packages)) = ap length (c.in_ok-blobs.ensures.bytes ∙ ap concat texts) in
    file_is c.args.meta.now c.push_file_head.new.bytes c.push_offsets.new.bytes c.push_numbers.new.bytes c.push.new.self c.into_vec.result.items (58 + 16 * length c.as_slice-packages.result.now + c.len.result) (58 + 16 * length c.as_slice-packages.result.now) (length c.as_slice-packages.result.now) c.hash_file-hash.result c.as_slice.result.now c.deref-3.result.now
    (c.in_ok-push_file_head.ensures ∙ ap (λ (t : List ℕ). t ++ file_head (58 + 16 * length c.as_slice-packages.result.now + c.len.result) (length c.as_slice-packages.result.now) c.hash_file-hash.result c.args.meta.now.mode) c.new-bytes.ensures) c.in_ok-push_offsets.ensures (c.in_ok-push_numbers.ensures ∙ ap (λ (ns : List ℕ). c.push_offsets.new.bytes ++ flat_map (little_bytes 8) ns) same) c.in_ok-push.ensures.ok (c.into_vec.ensures ∙ c.in_ok-push-2.ensures.ok)
    hash blobs sizes count (omega arith) (omega (arith, c.len.ensures))

pub returns-clause-fits : goal.returns-clause-fits
returns-clause-fits c = subst (All (λ p. All UnitsFit p.functions)) c.as_slice-packages.ensures c.in_ok-blobs.ensures.fits
