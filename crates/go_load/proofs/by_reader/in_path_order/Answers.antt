use Rattle.std.proofs.Common.{rules}
use Rattle.std.specs.Cmp.Lexicographic.{nat_list_cmp_total}
use Rattle.std.specs.Ordering.{is_lt}
use Rattle.std.proofs.lemmas.List.Sorted.{ranks_by}
use Rattle.std.proofs.lemmas.Fn.{always_returns_same}
use Rattle.go_load.specs.declared.contents.Found.{Found}
use Rattle.go_load.proofs.Marking.{by_path}
use Rattle.go_load.proofs.Rising.{sorted_paths}
use Rattle.go_load.proofs.by_reader.in_path_order.Goals as goal

pub returns-clause-sorted : goal.returns-clause-sorted
returns-clause-sorted c = λ apart.
    let sorted = c.in_ok-sort_by.ensures.sorted (λ (a b : Found). is_lt (by_path a.path b.path)) (ranks_by nat_list_cmp_total (λ (f : Found). f.path)) (always_returns_same _ _ _ (λ a r f' k. search rules)) in
    sorted_paths c.args.founds.items _ c.sort_by.ensures.permutation sorted apart
