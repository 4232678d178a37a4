use Rattle.std.proofs.Common.{[]}
use Rattle.cov_table.specs.PodOf.{entries_of}
use Rattle.gocov_tools.proofs.Numbered.{spreads_more}
use Rattle.gocov_tools.proofs.entries.entries_from.Goals as goal

pub loop-i-preserved : goal.loop-i-preserved
loop-i-preserved c =
    spreads_more entries_of [] c.loop-i.entries.items c.push_package.new.entries.items c.args.counts.now c.loop-i.i c.in_ok-number.field-0 c.index-counts-i.result c.as_slice.result.now
    c.loop-i-test.true c.index-counts-i.is c.in_ok-number.ensures c.as_slice.ensures c.loop-i.invariant c.in_ok-push_package.ensures
