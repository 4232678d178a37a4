use Rattle.std.proofs.Common.{◌≡◌, length, sum, ap, ◌∙◌, arith}
use Rattle.std.specs.List.{concat}
use Rattle.cov_meta.specs.Written.{records_of}
use Rattle.cov_meta.proofs.BlobLemmas.{blob_is}
use Rattle.cov_meta.proofs.Pieces.{sum_lengths}
use Rattle.cov_meta.proofs.written_blob.push_blob.Goals as goal

pub push_short_offsets-requires : goal.push_short_offsets-requires
push_short_offsets-requires c =
    let p = c.args.package.now in
    let parts = c.in_ok-parts.ensures in
    let lengths : sum c.deref.result.now ≡ length (concat (records_of p)) = ap sum (c.deref.ensures.value ∙ parts.lengths) ∙ sum_lengths (records_of p) in
    omega (arith, c.requires.fits.small, c.len-functions.ensures, c.len.ensures, ap length parts.table, lengths)

pub returns-clause-bytes : goal.returns-clause-bytes
returns-clause-bytes c =
    let p = c.args.package.now in
    let parts = c.in_ok-parts.ensures in
    blob_is p c.args.bytes.now c.push_head.new.bytes c.push_short_offsets.new.bytes c.push.new.self c.push-2.new.self _ _ _ _ _ _ _ _ _
    c.in_ok-push_head.ensures c.in_ok-push_short_offsets.ensures c.in_ok-push.ensures.ok c.in_ok-push-2.ensures.ok parts.numbers c.requires.hash (c.deref-2.ensures.value ∙ parts.table) (c.as_slice.ensures ∙ parts.records)
    (c.deref.ensures.value ∙ parts.lengths) parts.count c.len-functions.ensures (omega (arith, c.len-functions.ensures, c.len.ensures, ap length parts.table)) (omega (arith, c.len-functions.ensures, c.len.ensures, c.len-2.ensures, ap length parts.table, ap length parts.records))
