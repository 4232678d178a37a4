use Rattle.cov_table.specs.PodOf.{entry_out}
use Rattle.gocov_tools.proofs.Numbered.{spreads_more}
use Rattle.gocov_tools.proofs.entries.push_package.Goals as goal

pub loop-i-preserved : goal.loop-i-preserved
loop-i-preserved c =
    spreads_more (entry_out c.args.place) c.args.entries.now.items c.loop-i.entries.items c.push_entry.new.entries.items c.args.functions.now c.loop-i.i c.in_ok-number.field-0 c.index-functions-i.result c.as_slice.result.now
    c.loop-i-test.true c.index-functions-i.is c.in_ok-number.ensures c.as_slice.ensures c.loop-i.invariant c.in_ok-push_entry.ensures
