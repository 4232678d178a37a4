use Rattle.std.proofs.Common.{◌≡◌, ℕ, ◌-◌, List, [], ◌∷◌, ◌++◌, length, take, map, All, sym, ap, subst, ◌∙◌, arith, length-append}
use Rattle.std.proofs.lemmas.List.{map-append}
use Rattle.std.proofs.lemmas.List.Elements.{All-more}
use Rattle.cov_meta.specs.Written.{UnitsFit, blob_text}
use Rattle.cov_meta.proofs.Pieces.{concat_more, map_more}
use Rattle.cov_meta.proofs.write.write_blobs.Goals as goal

pub loop-i-preserved : goal.loop-i-preserved
loop-i-preserved c =
    let l = c.loop-i in
    let ps = c.args.packages.now in
    let p = c.index-packages-i.result in
    let len : c.len.result - c.len-start.result ≡ length (blob_text p) = omega (arith, c.len.ensures, c.len-start.ensures, ap length c.in_ok-push_blob.ensures.bytes, length-append l.bytes (blob_text p)) in
    record {
      fits = All-more (λ q. All UnitsFit q.functions) ps l.i p c.loop-i-test.true l.invariant.fits (subst (λ q. All UnitsFit q.functions) c.index-packages-i.is c.in_ok-push_blob.ensures.fits);
      bytes = c.in_ok-push_blob.ensures.bytes ∙ ap (λ (t : List ℕ). t ++ blob_text p) l.invariant.bytes ∙ sym (concat_more blob_text ps l.i p c.loop-i-test.true c.index-packages-i.is);
      lengths = c.in_ok-push.ensures.items ∙ ap (λ (n : ℕ). l.lengths.items ++ n ∷ []) len ∙ ap (λ (ns : List ℕ). ns ++ length (blob_text p) ∷ []) l.invariant.lengths
          ∙ sym (ap (map length) (map_more blob_text ps l.i p c.loop-i-test.true c.index-packages-i.is) ∙ map-append length (map blob_text (take l.i ps)) (blob_text p ∷ []));
    }
