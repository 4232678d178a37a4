use Rattle.std.proofs.Common.{subst, sym, ap, All, ◌∙◌, ◌++◌, ◌∷◌, [], List}
use Rattle.std.proofs.lemmas.List.Elements.{All-push}
use Rattle.std.proofs.lemmas.Result.{err_from_is_err_and}
use Rattle.cov_pods.specs.Paths.{HasTextPaths}
use Rattle.gocov_tools.specs.Reading.{HasFewUnits}
use Rattle.gocov_tools.proofs.Tables.{pods_grow, pods_end, pods_done}
use Rattle.gocov_tools.proofs.pods.read_pods.Goals as goal

pub read_pod-requires : goal.read_pod-requires
read_pod-requires g c = subst HasTextPaths (sym c.pod-item.is) (c.requires c.loop-pod.pod-index c.pod-item.result c.loop-pod-test.true)

pub returns-in_err-read_pod-clause-told : goal.returns-in_err-read_pod-clause-told
returns-in_err-read_pod-clause-told g c =
    let p = err_from_is_err_and c.from_residual.result c.from_residual.ensures.1 in
    rw (p.1, p.2) (pods_end _ _ c.args.reading.now c.loop-pod.reading c.loop-pod.read.items c.args.pods.now c.loop-pod.pod-index c.pod-item.result c.in_err-read_pod.field-0.0
    c.loop-pod.invariant.same c.loop-pod-test.true c.pod-item.is c.loop-pod.invariant.told c.in_err-read_pod.ensures.told)

pub loop-pod-preserved : goal.loop-pod-preserved
loop-pod-preserved g c =
    let i = c.loop-pod.invariant in
    let e = c.in_ok-read_pod.ensures in
    record {
      told = pods_grow _ _ c.args.reading.now c.loop-pod.reading c.read_pod.new.reading c.loop-pod.read.items c.push.new.self.items c.in_ok-read_pod.field-0 c.args.pods.now c.loop-pod.pod-index c.pod-item.result
          i.same c.loop-pod-test.true c.pod-item.is c.in_ok-push.ensures.items i.told e.told;
      small = subst (All HasFewUnits) (sym c.in_ok-push.ensures.items) (All-push HasFewUnits c.loop-pod.read.items c.in_ok-read_pod.field-0 i.small e.small);
      same = e.same ∙ i.same;
      reads = e.cause ∙ i.reads;
      puts = e.puts ∙ i.puts;
    }

pub returns-clause-told : goal.returns-clause-told
returns-clause-told g c = pods_done _ c.args.reading.now c.loop-pod.reading c.loop-pod.read.items c.args.pods.now c.loop-pod.pod-index c.loop-pod-test.false c.loop-pod.invariant.told
