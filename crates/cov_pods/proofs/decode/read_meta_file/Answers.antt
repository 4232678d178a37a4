use Rattle.std.proofs.lemmas.Result.{err_from_is_err_and}
use Rattle.cov_pods.proofs.PodFiles.{meta_bytes_fail, meta_fails, meta_is}
use Rattle.cov_pods.proofs.decode.read_meta_file.Goals as goal

pub returns-in_err-bytes-clause-told : goal.returns-in_err-bytes-clause-told
returns-in_err-bytes-clause-told g c =
    let p = err_from_is_err_and c.from_residual.result c.from_residual.ensures.1 in
    rw (p.1, p.2) (meta_bytes_fail _ c.args.path.now c.args.wanted c.in_err-bytes.field-0.0 c.in_err-bytes.ensures.told)

pub returns-in_err-file-clause-told : goal.returns-in_err-file-clause-told
returns-in_err-file-clause-told g c =
    let p = err_from_is_err_and c.from_residual-in_err-file.result c.from_residual-in_err-file.ensures.1 in
    rw (p.1, p.2) (meta_fails _ c.args.path.now c.args.wanted c.in_ok-bytes.bytes.items c.deref.result.now c.in_err-file.field-0.0 c.deref.ensures.value c.in_ok-bytes.ensures.told c.in_err-file.ensures.told)

pub returns-clause-told : goal.returns-clause-told
returns-clause-told g c = meta_is _ c.args.path.now c.args.wanted c.in_ok-bytes.bytes.items c.deref.result.now c.in_ok-file.file c.deref.ensures.value c.in_ok-bytes.ensures.told c.in_ok-file.ensures.told
