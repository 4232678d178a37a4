use Rattle.std.proofs.Common.{rules}
use Rattle.std.specs.Ordering.{is_lt}
use Rattle.std.proofs.lemmas.List.Sorted.{ranks_by}
use Rattle.std.proofs.lemmas.Fn.{always_returns_same}
use Rattle.cov_table.specs.Key.{key_cmp}
use Rattle.cov_table.specs.Rows.{row_key}
use Rattle.cov_table.proofs.Keys.{key_total}
use Rattle.cov_table.proofs.Settling.{rows_permutation, within_permutation}
use Rattle.cov_table.proofs.settle.sort.Goals as goal

pub returns-clause-same : goal.returns-clause-same
returns-clause-same c = λ most. rows_permutation most c.args.texts.now _ _ c.sort_by.ensures.permutation

pub returns-clause-sorted : goal.returns-clause-sorted
returns-clause-sorted c =
    c.in_ok-sort_by.ensures.sorted (λ a b. is_lt (key_cmp (row_key c.args.texts.now a) (row_key c.args.texts.now b))) (ranks_by key_total (row_key c.args.texts.now)) (always_returns_same _ _ _ (λ a r f' k. search rules))

pub returns-clause-within : goal.returns-clause-within
returns-clause-within c = λ n w. within_permutation n _ _ c.sort_by.ensures.permutation w
