use Rattle.std.proofs.Common.{subst, sym, ap, ◌∙◌}
use Rattle.std.proofs.lemmas.Result.{err_from_is_err_and}
use Rattle.cov_pods.specs.Paths.{HasTextPaths}
use Rattle.cov_table.specs.Coverage.{Coverage}
use Rattle.gocov_tools.proofs.Known.{some_all}
use Rattle.gocov_tools.proofs.Tables.{nothing_yet, table_grows, table_ends, table_done}
use Rattle.gocov_tools.proofs.pods.table_of.Goals as goal

pub read_pod-requires : goal.read_pod-requires
read_pod-requires g c = subst HasTextPaths (sym c.pod-item.is) (c.requires c.loop-pod.pod-index c.pod-item.result c.loop-pod-test.true)

pub returns-in_err-read-clause-told : goal.returns-in_err-read-clause-told
returns-in_err-read-clause-told g c =
    let p = err_from_is_err_and c.from_residual.result c.from_residual.ensures.1 in
    rw (p.1, p.2) (table_ends _ _ c.args.reading.now c.loop-pod.reading c.loop-pod.table c.args.pods.now c.loop-pod.pod-index c.pod-item.result c.in_err-read.field-0.0
    c.loop-pod.invariant.same c.loop-pod-test.true c.pod-item.is c.loop-pod.invariant.told c.in_err-read.ensures.told)

pub loop-pod-preserved : goal.loop-pod-preserved
loop-pod-preserved g c =
    let i = c.loop-pod.invariant in
    let e = c.in_ok-read.ensures in
    record {
      told = table_grows _ _ c.args.reading.now c.loop-pod.reading c.read_pod.new.reading c.loop-pod.table c.add_pod.new.table c.in_ok-read.read c.args.pods.now c.loop-pod.pod-index c.pod-item.result
          i.same c.loop-pod-test.true c.pod-item.is c.in_ok-add_pod.ensures.ok i.told e.told;
      mode = λ m h. e.mode ∙ sym (ap (λ (t : Coverage). t.mode) c.in_ok-add_pod.ensures.ok) ∙ h;
      first = λ m h. e.first m (i.first m h);
      same = e.same ∙ i.same;
      reads = e.cause ∙ i.reads;
      puts = e.puts ∙ i.puts;
    }

pub returns-clause-told : goal.returns-clause-told
returns-clause-told g c = table_done _ c.args.reading.now c.loop-pod.reading c.loop-pod.table c.args.pods.now c.loop-pod.pod-index c.loop-pod-test.false c.loop-pod.invariant.told
