use Rattle.go_lex.proofs.Characters.{no_char_of}
use Rattle.go_lex.proofs.character.char_at.Goals as goal

pub returns-in_default : goal.returns-in_default
returns-in_default c = no_char_of c.args.bytes.now c.in_default.len_below
