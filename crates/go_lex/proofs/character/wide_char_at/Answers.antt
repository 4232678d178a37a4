use Rattle.std.proofs.Common.{◌∙◌, sym, ap, length}
use Rattle.go_lex.proofs.Characters.{none_at_front, some_at_front}
use Rattle.go_lex.proofs.character.wide_char_at.Goals as goal

pub returns-in-None : goal.returns-in-None
returns-in-None c = none_at_front c.args.bytes.now c.valid_front-front.result.now c.min.result c.min.ensures c.valid_front-front.ensures (sym (ap length c.chars.ensures.rest) ∙ c.in-None.ensures.steps.0.0)

pub returns-in-Some : goal.returns-in-Some
returns-in-Some c = some_at_front c.args.bytes.now c.valid_front-front.result.now c.next.new.self.rest.now c.min.result c.in-Some.c c.len_utf8.result c.valid_front-front.ensures (sym c.chars.ensures.rest ∙ c.in-Some.ensures.steps.0) c.len_utf8.ensures.len
