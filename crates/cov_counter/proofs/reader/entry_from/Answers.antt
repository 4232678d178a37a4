use Rattle.std.proofs.lemmas.Result.{err_from_is_err_and}
use Rattle.cov_counter.proofs.Beyond.{entry-beyond, fails-short}
use Rattle.cov_counter.proofs.reader.entry_from.Goals as goal

pub returns-in_err-seek : goal.returns-in_err-seek
returns-in_err-seek c =
    let p = err_from_is_err_and c.from_residual.result c.from_residual.ensures.1 in
    let beyond = rw c.source_of-source.ensures at c.in_err-seek.ensures in
    rw (p.1, p.2) (fails-short c.args.held.now.more c.args.at c.in_err-seek.field-0.0 _ beyond.1 (entry-beyond c.args.head.now c.args.held.now c.args.at beyond.0))
