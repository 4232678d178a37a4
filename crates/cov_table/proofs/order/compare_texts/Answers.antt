use Rattle.std.proofs.Common.{sym}
use Rattle.std.specs.Cmp.{tied_itself}
use Rattle.std.specs.Cmp.Lexicographic.{nat_list_cmp_total}
use Rattle.cov_table.specs.Rows.{text_at}
use Rattle.cov_table.proofs.order.compare_texts.Goals as goal

pub returns-then-a-b : goal.returns-then-a-b
returns-then-a-b c = rw c.if-a-b.true (sym (tied_itself nat_list_cmp_total (text_at c.args.texts.now c.args.b)))
