use Rattle.cov_pods.proofs.Entries.{next_fails, next_misfits, next_added}
use Rattle.cov_pods.proofs.counter_file.add_next.Goals as goal

pub returns-in-Err-clause-told : goal.returns-in-Err-clause-told
returns-in-Err-clause-told g c =
    next_fails _ c.args.reader.now.stage c.next.new.self.stage c.in-Err.fault c.of_counter.result c.args.reader.now.head c.args.meta.now c.args.reader.now.path.now c.args.path.now
    c.requires.path c.requires.left c.of_counter.ensures c.in-Err.ensures.told

pub returns-in-Err-check_entry-clause-told : goal.returns-in-Err-check_entry-clause-told
returns-in-Err-check_entry-clause-told g c =
    let said = rw c.in-Ok-Some.field-0-is at c.in-Ok-Some.ensures in
    next_misfits _ c.args.reader.now.stage c.next.new.self.stage c.in-Ok-Some.offset c.in-Ok-Some.entry c.in-Err-check_entry.kind c.at.result c.args.reader.now.head c.args.meta.now c.args.reader.now.path.now c.args.path.now
    c.requires.path c.requires.left c.requires.parts c.in-Err-check_entry.ensures.told c.at.ensures said.stage said.told

pub returns-clause-told : goal.returns-clause-told
returns-clause-told g c =
    let said = rw c.in-Ok-Some.field-0-is at c.in-Ok-Some.ensures in
    next_added _ c.args.reader.now.stage c.next.new.self.stage c.in-Ok-Some.offset c.in-Ok-Some.entry c.args.reader.now.head c.args.meta.now c.args.reader.now.path.now c.args.path.now c.args.counts.now c.add_entry.new.counts
    c.requires.path c.requires.left c.in-Ok.ensures.fitting c.add_entry.ensures said.stage said.told
