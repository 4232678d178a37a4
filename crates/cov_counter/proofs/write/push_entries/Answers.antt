use Rattle.std.proofs.Common.{subst, arith}
use Rattle.std.proofs.lemmas.Grind.{common_steps}
use Rattle.std.proofs.lemmas.List.Elements.{All-more}
use Rattle.cov_counter.specs.Text.{CanBeWritten}
use Rattle.cov_counter.proofs.write.push_entries.Goals as goal

pub loop-entry-preserved : goal.loop-entry-preserved
loop-entry-preserved c =
    let l = c.loop-entry in
    record {
      bytes = grind (arith, common_steps);
      fits = All-more CanBeWritten c.args.entries.now l.entry-index _ c.loop-entry-test.true l.invariant.fits (subst CanBeWritten c.entry-item.is c.in_ok-push_entry.ensures.fits);
    }
