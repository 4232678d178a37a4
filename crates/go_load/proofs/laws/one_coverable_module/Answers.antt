use Rattle.go_grammar.specs.Blocks.{source}
use Rattle.go_load.proofs.SingleCoverable.{coverables_one}
use Rattle.go_load.proofs.laws.one_coverable_module.Goals as goal

pub returns : goal.returns
returns c =
    let lists = c.tokens_or_fault.ensures in
    let sources = coverables_one lists.one_list lists.one_fault lists.not_both (c.one_tree.ensures source tt) (c.one_outcome.ensures.apart source) (c.one_outcome.ensures.one_fault source) in
    record { sources = sources; modules = c.one_outcome-2.ensures sources }
