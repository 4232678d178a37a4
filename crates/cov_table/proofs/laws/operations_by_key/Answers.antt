use Rattle.std.proofs.Common.{◌≡◌, ◌∙◌, ℕ, ◌+◌, min, Bool, true, false, not, cond, Option, None, Some, is_some, refl, sym, ap}
use Rattle.std.specs.Prelude.{unwrap_or, ◌==◌}
use Rattle.std.specs.Option.{option_map}
use Rattle.std.specs.FinMap as finmap
use Rattle.cov_outside.specs.declared.mode.Mode.{Mode}
use Rattle.cov_outside.specs.Mode.{greatest}
use Rattle.cov_table.specs.Key.{Key, key_cmp}
use Rattle.cov_table.specs.Counts.{count_of, total}
use Rattle.cov_table.specs.Coverage.{Coverage, merged_in}
use Rattle.cov_table.specs.Operations.{kept_where, only}
use Rattle.cov_table.proofs.Keys.{key_total, key_same}
use Rattle.cov_table.proofs.Counting.{get_counts}
use Rattle.cov_table.proofs.Merging.{has_found, total_found}
use Rattle.cov_table.proofs.Keeping.{find_only}
use Rattle.cov_table.proofs.laws.operations_by_key.Goals as goal

doubled : (most : ℕ) (o : Option ℕ) → cond (is_some o) (Some (min (unwrap_or o 0 + unwrap_or o 0) most)) o ≡ option_map (λ n. min (n + n) most) o
doubled most None = refl
doubled most (Some n) = refl

kept : (test : ℕ → Bool) (table other : Coverage) (key : Key) → finmap.get (kept_where test table other).counts key ≡ option_map (λ n. cond (test (count_of other.counts key)) n 0) (finmap.get table.counts key)
kept test table other key =
    let stays : Key → Bool = λ k. test (count_of other.counts k) in
    finmap.get-from_entries key_total (only stays (finmap.entries table.counts)) key
    ∙ find_only key_total key_same stays key (finmap.entries table.counts)
    ∙ ap (option_map (λ n. cond (stays key) n 0)) (sym (finmap.get-entries table.counts key))

turned : (b : Bool) (n : ℕ) → cond (not b) n 0 ≡ cond b 0 n
turned true n = refl
turned false n = refl

pub returns-clause-merged_with_itself : goal.returns-clause-merged_with_itself
returns-clause-merged_with_itself c =
    λ table mode key is.
    let most : ℕ = greatest mode in
    let found : finmap.find key_cmp key (finmap.entries table.counts) ≡ finmap.get table.counts key = sym (finmap.get-entries table.counts key) in
    ap (λ (m : Option Mode). finmap.get (merged_in m table table).counts key) is
    ∙ get_counts key_total most table.counts (finmap.entries table.counts) key
    ∙ ap (λ b. cond b (Some (min (count_of table.counts key + total key_cmp key (finmap.entries table.counts)) most)) (finmap.get table.counts key)) (has_found key_total key (finmap.entries table.counts) ∙ ap is_some found)
    ∙ ap (λ t. cond (is_some (finmap.get table.counts key)) (Some (min (count_of table.counts key + t) most)) (finmap.get table.counts key)) (total_found key_total key (finmap.entries table.counts) (finmap.entries_sorted table.counts) ∙ ap (λ o. unwrap_or o 0) found)
    ∙ doubled most (finmap.get table.counts key)

pub returns-clause-subtracted : goal.returns-clause-subtracted
returns-clause-subtracted c = λ table other key. kept (λ n. n == 0) table other key

pub returns-clause-intersected : goal.returns-clause-intersected
returns-clause-intersected c = λ table other key. kept (λ n. not (n == 0)) table other key ∙ (λ i. option_map (λ n. turned (count_of other.counts key == 0) n i) (finmap.get table.counts key))
