use Rattle.std.proofs.Common.{rules, arith, get_or, nat_le}
use Rattle.std.proofs.lemmas.List.Sorted.{IsPartitionPoint-from_clause}
use Rattle.std.proofs.lemmas.Bool.{leb-true, leb-false}
use Rattle.go_ast.proofs.Located.{rising, first_passes}
use Rattle.go_ast.proofs.lines.lines_until.Goals as goal

pub returns : goal.returns
returns c =
    let point = IsPartitionPoint-from_clause (λ s. nat_le s c.args.offset) c.args.starts.now c.partition_point.result c.partition_point.ensures.partitioned (rising c.args.starts.now c.args.offset c.requires) (λ a r q k. search rules) in
    record {
      some = first_passes c.args.starts.now c.args.offset c.partition_point.result c.requires point;
      within = c.partition_point.ensures.bound;
      before = λ line lt. leb-true (get_or c.args.starts.now line 0) c.args.offset (point.0 line 0 (omega arith) lt);
      after = λ line le lt. leb-false (get_or c.args.starts.now line 0) c.args.offset (point.1 line 0 le lt);
    }
