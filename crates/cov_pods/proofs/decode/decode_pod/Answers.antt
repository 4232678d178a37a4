use Rattle.std.proofs.Common.{◌∙◌, All, ap, length, subst, sym}
use Rattle.std.specs.Str.{IsUtf8}
use Rattle.std.proofs.lemmas.Result.{err_from_is_err_and}
use Rattle.cov_pods.specs.declared.pod.Pod.{Pod}
use Rattle.cov_pods.proofs.Counting.{one_for_each}
use Rattle.cov_pods.proofs.PodFiles.{pod_meta_fails, pod_counters_fail, pod_decoded}
use Rattle.cov_pods.proofs.decode.decode_pod.Goals as goal

pub count_files-requires-clause-utf8 : goal.count_files-requires-clause-utf8
count_files-requires-clause-utf8 g c = subst (All IsUtf8) (sym c.as_slice.ensures) c.requires.1

pub returns-in_err-bytes-clause-told : goal.returns-in_err-bytes-clause-told
returns-in_err-bytes-clause-told g c =
    let p = err_from_is_err_and c.from_residual.result c.from_residual.ensures.1 in
    rw (p.1, p.2) (pod_meta_fails _ c.args.pod.now c.args.wanted c.in_err-bytes.field-0.0 c.in_err-bytes.ensures.told)

pub returns-in_err-counts-clause-told : goal.returns-in_err-counts-clause-told
returns-in_err-counts-clause-told g c =
    let p = err_from_is_err_and c.from_residual-in_err-counts.result c.from_residual-in_err-counts.ensures.1 in
    rw (p.1, p.2) (pod_counters_fail _ _ c.args.pod.now c.args.wanted c.in_ok-bytes.bytes.items c.in_ok-bytes.file c.as_slice.result.now c.in_err-counts.field-0.0
    c.in_ok-bytes.ensures.same c.as_slice.ensures c.in_ok-bytes.ensures.told c.in_err-counts.ensures.told)

pub returns-clause-told : goal.returns-clause-told
returns-clause-told g c =
    pod_decoded _ _ c.args.pod.now c.in_ok-copy.field-0 c.args.wanted c.in_ok-bytes.bytes.items c.from_vec.result c.in_ok-bytes.file c.in_ok-counts.counts c.in_ok-counts.heads.items c.from_vec-2.result c.as_slice.result.now
    c.in_ok-bytes.ensures.same c.as_slice.ensures c.in_ok-copy.ensures c.from_vec.ensures c.from_vec-2.ensures c.in_ok-bytes.ensures.told c.in_ok-counts.ensures.told

pub invariant_of-result : goal.invariant_of-result
invariant_of-result g c = record {
  each_unit = one_for_each c.in_ok-bytes.file.meta c.in_ok-counts.ensures.counted.0 c.in_ok-counts.counts c.in_ok-counts.ensures.counted.1;
  each_file = ap length c.from_vec-2.ensures ∙ c.in_ok-counts.ensures.heads ∙ ap length c.as_slice.ensures ∙ sym (ap (λ (p : Pod). length p.counters) c.in_ok-copy.ensures);
}
