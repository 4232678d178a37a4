use Rattle.std.proofs.Common.{◌∙◌, ap, not, ◌&&◌, Bool, rules, tests}
use Rattle.std.specs.Char.{is_ascii_digit}
use Rattle.std.specs.Str.{all_ascii_digits}
use Rattle.std.proofs.lemmas.Iterator.Adapters.{YieldsList-from_bytes}
use Rattle.std.proofs.lemmas.Iterator.Search.{all_from_yields_List}
use Rattle.gocov_words.proofs.Digits.{same_digits}
use Rattle.gocov_words.proofs.value.are_digits.Goals as goal

pub returns-then-not-is_empty : goal.returns-then-not-is_empty
returns-then-not-is_empty c =
    all_from_yields_List is_ascii_digit _ _ c.all.result c.all.ensures.ran (YieldsList-from_bytes c.args.value.now c.bytes.ensures.rest) (λ x b q k. search (rules, tests))
    ∙ (same_digits c.args.value.now ∙ ap (λ (b : Bool). not b && all_ascii_digits c.args.value.now) c.if-not-is_empty.ensures)
