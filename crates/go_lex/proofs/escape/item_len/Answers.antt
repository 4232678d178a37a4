use Rattle.go_lex.proofs.Items.{item_or_bad}
use Rattle.go_lex.proofs.escape.item_len.Goals as goal

pub returns-then-bytes-eq92 : goal.returns-then-bytes-eq92
returns-then-bytes-eq92 c = item_or_bad 34 c.args.bytes.now c.escape_at.result c.requires c.if-bytes-eq92.true c.escape_at.ensures.value
