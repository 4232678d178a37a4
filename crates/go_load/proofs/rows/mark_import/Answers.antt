use Rattle.std.proofs.Common.{◌∙◌, ap, set, true, rules}
use Rattle.std.proofs.lemmas.Fn.{always_returns_same}
use Rattle.go_load.proofs.Marking.{by_path, marked_by, unmarked_by}
use Rattle.go_load.proofs.rows.mark_import.Goals as goal

pub returns-in-Ok-clause-marked : goal.returns-in-Ok-clause-marked
returns-in-Ok-clause-marked c = λ rise seen is.
    let p = c.args.path.now in
    let answer = c.binary_search_by.ensures.position (λ f. by_path f.path p) (always_returns_same _ _ _ (λ a r f' k. search rules)) in
    ap (λ row. set row c.in-Ok.at true) is ∙ marked_by c.args.founds.now rise p c.binary_search_by.result c.binary_search_by.ensures.bound answer seen c.in-Ok.at c.in-Ok.is

pub returns-in_default-clause-marked : goal.returns-in_default-clause-marked
returns-in_default-clause-marked c = λ rise seen is.
    let p = c.args.path.now in
    let answer = c.binary_search_by.ensures.position (λ f. by_path f.path p) (always_returns_same _ _ _ (λ a r f' k. search rules)) in
    is ∙ unmarked_by c.args.founds.now rise p c.binary_search_by.result c.binary_search_by.ensures.bound answer seen c.in_default.field-0 c.in_default.is
