use Rattle.go_grammar.specs.Blocks.{source}
use Rattle.cov_rewrite.proofs.OneText.{once}
use Rattle.cov_rewrite.proofs.laws.one_text_or_fault.Goals as goal

pub returns : goal.returns
returns c =
    λ text name var m x y h k.
    once c.tokens_or_fault.ensures.one_list c.tokens_or_fault.ensures.one_fault c.tokens_or_fault.ensures.not_both (c.one_tree.ensures source tt) (c.one_outcome.ensures.apart source) (c.one_outcome.ensures.one_fault source) text name var m x y h k
