use Rattle.std.proofs.Common.{ap, not, rules, tests, Bool}
use Rattle.std.proofs.lemmas.Iterator.{YieldsList-from_chars}
use Rattle.std.proofs.lemmas.Iterator.Search.{any_from_yields_List}
use Rattle.gocov_words.specs.Values.{is_left_out}
use Rattle.gocov_words.proofs.variable.is_file_name.Goals as goal

pub returns : goal.returns
returns c = ap (λ (b : Bool). not b) (any_from_yields_List is_left_out _ _ c.any.result c.any.ensures.ran (YieldsList-from_chars c.args.word.now c.utf8.word c.chars.ensures.rest) (λ x b q k. search (rules, tests)))
