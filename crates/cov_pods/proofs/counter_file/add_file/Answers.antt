use Rattle.std.proofs.Common.{◌∙◌, ap}
use Rattle.std.proofs.lemmas.Result.{err_from_is_err_and}
use Rattle.cov_pods.specs.Stages.{offset_of}
use Rattle.cov_pods.proofs.CounterFiles.{start_fails, starts, hash_fails, entries_of_file_fail, end_fails, file_added}
use Rattle.cov_pods.proofs.counter_file.add_file.Goals as goal

pub returns-in-Err-clause-told : goal.returns-in-Err-clause-told
returns-in-Err-clause-told g c =
    start_fails _ _ c.args.file.now c.new-reader.result.path.now c.args.path.now c.open.new.self.stage c.open.new.self.head c.in-Err.fault c.of_counter.result
    (ap g.F.Files.tree c.new-reader.ensures.files) (c.new-reader.ensures.path ∙ c.as_str.ensures) c.of_counter.ensures c.in-Err.ensures.told

pub returns-in_err-check_hash-clause-told : goal.returns-in_err-check_hash-clause-told
returns-in_err-check_hash-clause-told g c =
    let p = err_from_is_err_and c.from_residual.result c.from_residual.ensures.1 in
    let start = starts _ _ c.new-reader.result.path.now c.args.path.now c.open.new.self.stage c.open.new.self.head.entries c.open.new.self.head
    (ap g.F.Files.tree c.new-reader.ensures.files) (c.new-reader.ensures.path ∙ c.as_str.ensures) c.in_default.ensures.stage c.in_default.ensures.told in
    rw (p.1, p.2) (hash_fails _ c.args.file.now c.args.path.now c.open.new.self.head c.head-head.result (offset_of c.open.new.self.stage) c.in_err-check_hash.field-0.0 c.head-head.ensures start c.in_err-check_hash.ensures)

pub returns-in_err-add_entries-clause-told : goal.returns-in_err-add_entries-clause-told
returns-in_err-add_entries-clause-told g c =
    let p = err_from_is_err_and c.from_residual-in_err-add_entries.result c.from_residual-in_err-add_entries.ensures.1 in
    let start = starts _ _ c.new-reader.result.path.now c.args.path.now c.open.new.self.stage c.open.new.self.head.entries c.open.new.self.head
    (ap g.F.Files.tree c.new-reader.ensures.files) (c.new-reader.ensures.path ∙ c.as_str.ensures) c.in_default.ensures.stage c.in_default.ensures.told in
    rw (p.1, p.2) (entries_of_file_fail _ _ c.args.file.now c.args.path.now c.open.new.self.head c.head-head.result (offset_of c.open.new.self.stage) c.in_err-add_entries.field-0.0
    (c.open.ensures.same ∙ ap g.F.Files.tree c.new-reader.ensures.files) c.head-head.ensures start c.in_ok-check_hash.ensures c.in_err-add_entries.ensures.told)

pub returns-in-Ok-clause-told : goal.returns-in-Ok-clause-told
returns-in-Ok-clause-told g c =
    let first = ap g.F.Files.tree c.new-reader.ensures.files in
    let paths = c.new-reader.ensures.path ∙ c.as_str.ensures in
    let start = starts _ _ c.new-reader.result.path.now c.args.path.now c.open.new.self.stage c.open.new.self.head.entries c.open.new.self.head
    first paths c.in_default.ensures.stage c.in_default.ensures.told in
    let opened = c.open.ensures.same ∙ first in
    file_added _ _ _ c.args.file.now c.add_entries.new.reader.path.now c.args.path.now c.open.new.self.head c.head-head.result c.add_entries.new.reader.stage (offset_of c.open.new.self.stage) 0 c.args.counts.now c.add_entries.new.counts
    opened (c.in_ok-add_entries.ensures.same ∙ opened) (c.in_ok-add_entries.ensures.path ∙ c.open.ensures.path ∙ paths) c.head-head.ensures start c.in_ok-check_hash.ensures c.in_ok-add_entries.ensures.told c.in_ok-add_entries.ensures.left c.in-Ok.ensures.told

pub returns-in-Err-finish-clause-told : goal.returns-in-Err-finish-clause-told
returns-in-Err-finish-clause-told g c =
    let first = ap g.F.Files.tree c.new-reader.ensures.files in
    let paths = c.new-reader.ensures.path ∙ c.as_str.ensures in
    let start = starts _ _ c.new-reader.result.path.now c.args.path.now c.open.new.self.stage c.open.new.self.head.entries c.open.new.self.head
    first paths c.in_default.ensures.stage c.in_default.ensures.told in
    let opened = c.open.ensures.same ∙ first in
    end_fails _ _ _ c.args.file.now c.add_entries.new.reader.path.now c.args.path.now c.open.new.self.head c.head-head.result c.add_entries.new.reader.stage (offset_of c.open.new.self.stage) 0 c.in-Err-finish.fault c.of_counter-in-Err-finish.result c.args.counts.now c.add_entries.new.counts
    opened (c.in_ok-add_entries.ensures.same ∙ opened) (c.in_ok-add_entries.ensures.path ∙ c.open.ensures.path ∙ paths) c.head-head.ensures start c.in_ok-check_hash.ensures c.in_ok-add_entries.ensures.told c.in_ok-add_entries.ensures.left c.of_counter-in-Err-finish.ensures c.in-Err-finish.ensures.told
