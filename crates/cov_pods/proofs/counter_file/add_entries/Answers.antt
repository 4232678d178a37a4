use Rattle.std.proofs.Common.{◌∙◌}
use Rattle.std.proofs.lemmas.Result.{err_from_is_err_and}
use Rattle.cov_pods.specs.Stages.{offset_of}
use Rattle.cov_pods.proofs.Entries.{entries_fail, entries_more, entries_done, one_less}
use Rattle.cov_pods.proofs.counter_file.add_entries.Goals as goal

pub returns-in_err-add_next-clause-told : goal.returns-in_err-add_next-clause-told
returns-in_err-add_next-clause-told g c =
    let p = err_from_is_err_and c.from_residual.result c.from_residual.ensures.1 in
    rw (p.1, p.2) (entries_fail _ _ c.in_err-add_next.field-0.0 c.args.meta.now c.args.path.now c.args.reader.now.head c.loop.reader.head c.args.counts.now c.loop.counts c.args.entries c.loop.counter (offset_of c.args.reader.now.stage) (offset_of c.loop.reader.stage)
    c.loop.invariant.same c.loop.invariant.head c.loop-test.true c.loop.invariant.told c.in_err-add_next.ensures.told)

pub loop-preserved : goal.loop-preserved
loop-preserved g c =
    let i = c.loop.invariant in
    let e = c.in_ok-add_next.ensures in
    record {
      reference = e.reference ∙ i.reference;
      path = e.path ∙ i.path;
      head = e.head ∙ i.head;
      ready = e.ready;
      left = one_less c.loop.reader.stage c.add_next.new.reader.stage c.args.entries c.loop.counter i.left e.left;
      counted = e.counted;
      told = entries_more _ _ c.args.meta.now c.args.path.now c.args.reader.now.head c.loop.reader.head c.args.counts.now c.loop.counts c.add_next.new.counts c.args.entries c.loop.counter (offset_of c.args.reader.now.stage) (offset_of c.loop.reader.stage) (offset_of c.add_next.new.reader.stage)
          i.same i.head c.loop-test.true i.told e.told;
      same = e.same ∙ i.same;
      reads = e.cause ∙ i.reads;
      puts = e.puts ∙ i.puts;
    }

pub returns-clause-told : goal.returns-clause-told
returns-clause-told g c =
    entries_done _ c.args.meta.now c.args.path.now c.args.reader.now.head c.args.counts.now c.loop.counts c.args.entries c.loop.counter (offset_of c.args.reader.now.stage) (offset_of c.loop.reader.stage) c.loop-test.false c.loop.invariant.told
