use Rattle.std.proofs.Common.{ap, length, ℕ, ◌+◌, ◌∙◌, refl, subst, sym}
use Rattle.std.specs.Str.{IsUtf8}
use Rattle.std.proofs.lemmas.List.{length_push}
use Rattle.std.proofs.lemmas.Result.{err_from_is_err_and}
use Rattle.cov_pods.proofs.PodFiles.{nothing_yet, files_fail, files_more, files_done}
use Rattle.cov_pods.proofs.Told.{some_all}
use Rattle.cov_pods.proofs.decode.add_files.Goals as goal

pub add_file-requires-clause-utf8 : goal.add_file-requires-clause-utf8
add_file-requires-clause-utf8 g c = subst IsUtf8 (sym c.path-item.is) (c.requires.utf8 c.loop-path.path-index c.path-item.result c.loop-path-test.true)

pub loop-path-init : goal.loop-path-init
loop-path-init g c = record {
  counted = c.requires.counted;
  heads = ap length c.new-heads.ensures.items;
  told = some_all _ _ (λ t. nothing_yet c.args.file.now c.args.counts.now c.new-heads.result.items c.args.paths.now t c.new-heads.ensures.items);
  same = refl;
  reads = refl;
  puts = refl;
}

pub loop-path-preserved : goal.loop-path-preserved
loop-path-preserved g c =
    let i = c.loop-path.invariant in
    let e = c.in_ok-add_file.ensures in
    record {
      counted = e.counted;
      heads = ap length c.in_ok-push.ensures.items ∙ length_push c.loop-path.heads.items c.in_ok-add_file.field-0 ∙ ap (λ (n : ℕ). n + 1) i.heads;
      told = files_more _ _ c.args.file.now c.args.counts.now c.loop-path.counts c.add_file.new.counts c.loop-path.heads.items c.push.new.self.items c.in_ok-add_file.field-0 c.args.paths.now c.loop-path.path-index c.path-item.result
          i.same c.loop-path-test.true c.path-item.is c.in_ok-push.ensures.items i.told e.told;
      same = e.same ∙ i.same;
      reads = e.cause ∙ i.reads;
      puts = e.puts ∙ i.puts;
    }

pub returns-in_err-add_file-clause-told : goal.returns-in_err-add_file-clause-told
returns-in_err-add_file-clause-told g c =
    let p = err_from_is_err_and c.from_residual.result c.from_residual.ensures.1 in
    rw (p.1, p.2) (files_fail _ _ c.args.file.now c.args.counts.now c.loop-path.counts c.loop-path.heads.items c.args.paths.now c.loop-path.path-index c.path-item.result c.in_err-add_file.field-0.0
    c.loop-path.invariant.same c.loop-path-test.true c.path-item.is c.loop-path.invariant.told c.in_err-add_file.ensures.told)

pub returns-clause-told : goal.returns-clause-told
returns-clause-told g c = files_done _ c.args.file.now c.args.counts.now c.loop-path.counts c.loop-path.heads.items c.args.paths.now c.loop-path.path-index c.loop-path-test.false c.loop-path.invariant.told
