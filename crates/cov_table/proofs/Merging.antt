-- The entries of a map stand for the counts, or the values, that it was made from.
use Rattle.std.proofs.Common.{◌≡◌, ℕ, ◌+◌, min, Bool, true, false, T, cond, ◌||◌, List, [], ◌∷◌, Some, None, is_some, refl, sym, ap, ◌∙◌, arith}
use Rattle.std.specs.Prelude.{unwrap_or}
use Rattle.std.specs.Option.{option_or}
use Rattle.std.proofs.lemmas.List.Sums.{sum_by-cons}
use Rattle.std.specs.FinMap as finmap
use Rattle.std.specs.FinMap.Entries.{below_all}
use Rattle.std.specs.Cmp.{IsTotalOrder}
use Rattle.std.specs.Ordering.{is_eq, eq_by_cmp}
use Rattle.std.specs.declared.cmp.Ordering.{Ordering}
use Rattle.std.specs.declared.cmp.Ordering.TheVariants.{Equal}
use Rattle.cov_table.specs.Counts.{with_counts, has, total}
use Rattle.cov_table.specs.Firsts.{with_firsts}
use Rattle.cov_table.proofs.Counting.{sum_up_to, absent, tied, get_counts, counts_same}
use Rattle.cov_table.proofs.Firsts.{get_firsts}
use Rattle.cov_table.proofs.Walk.{both, less}

module _ {K : Type 0} {R : K → K → Ordering} (o : IsTotalOrder R) where
  -- no key above k is tied with one that is tied with k
  none_above : (q k : K) (es : List (K × ℕ)) → R q k ≡ Equal → T (below_all R k es) → has R q es ≡ false
  none_above q k [] t h = refl
  none_above q k (e ∷ es) t h =
      let b = both _ _ h in
      ap (λ r. is_eq r || has R q es) (o.congr q k e.0 t ∙ less _ b.0) ∙ none_above q k es t b.1

  -- each key stands once: the sum of its counts is its count
  pub total_found : (q : K) (es : List (K × ℕ)) → T (finmap.is_sorted R es) → total R q es ≡ unwrap_or (finmap.find R q es) 0
  total_found q [] h = refl
  total_found q (e ∷ es) h =
      let parts : T (below_all R e.0 es) × T (finmap.is_sorted R es) = both _ _ h in
      sum_by-cons (λ (e : K × ℕ). cond (eq_by_cmp R q e.0) e.1 0) e es
      ∙ elim (eq_by_cmp R q e.0) as (λ b. eq_by_cmp R q e.0 ≡ b → cond b e.1 0 + total R q es ≡ unwrap_or (cond b (Some e.1) (finmap.find R q es)) 0) [
        | true ↦ λ t. let none : total R q es ≡ 0 = absent R q es (none_above q e.0 es (tied _ t) parts.0) in omega arith
        | false ↦ λ t. let rest : total R q es ≡ unwrap_or (finmap.find R q es) 0 = total_found q es parts.1 in omega arith
      ] refl

  pub has_found : (q : K) (es : List (K × ℕ)) → has R q es ≡ is_some (finmap.find R q es)
  has_found q [] = refl
  has_found q (e ∷ es) = elim (eq_by_cmp R q e.0) as (λ b. (b || has R q es) ≡ is_some (cond b (Some e.1) (finmap.find R q es))) [ true ↦ refl | false ↦ has_found q es ]

  module _ (most : ℕ) (es : List (K × ℕ)) where
    abbrev counted : finmap.FinMap R ℕ
    counted = with_counts (sum_up_to most) finmap.empty es

    pub found : (q : K) → finmap.find R q (finmap.entries counted) ≡ cond (has R q es) (Some (min (0 + total R q es) most)) None
    found q =
        sym (finmap.get-entries counted q)
        ∙ get_counts o most finmap.empty es q
        ∙ (λ i. cond (has R q es) (Some (min (unwrap_or (finmap.get-empty {X = ℕ} R q i) 0 + total R q es) most)) (finmap.get-empty {X = ℕ} R q i))

    is_there : (b : Bool) (n : ℕ) → is_some (cond b (Some n) None) ≡ b
    is_there true n = refl
    is_there false n = refl

    sums : (b : Bool) (t n : ℕ) → (b ≡ false → t ≡ 0) → min (n + unwrap_or (cond b (Some (min (0 + t) most)) None) 0) most ≡ min (n + t) most
    sums true t n h = omega arith
    sums false t n h = let e : t ≡ 0 = h refl in omega arith

    pub counts_entries : finmap.IsAntisymmetric R → (m : finmap.FinMap R ℕ) → with_counts (sum_up_to most) m (finmap.entries counted) ≡ with_counts (sum_up_to most) m es
    counts_entries anti m =
        counts_same o most anti m (finmap.entries counted) es
        (λ q. has_found q (finmap.entries counted) ∙ ap is_some (found q) ∙ is_there (has R q es) _)
        (λ q n. ap (λ t. min (n + t) most) (total_found q (finmap.entries counted) (finmap.entries_sorted counted) ∙ ap (λ v. unwrap_or v 0) (found q)) ∙ sums (has R q es) (total R q es) n (absent R q es))

module _ {K X : Type 0} {R : K → K → Ordering} (o : IsTotalOrder R) where
  pub firsts_entries : finmap.IsAntisymmetric R → (m : finmap.FinMap R X) (es : List (K × X)) → with_firsts m (finmap.entries (finmap.from_entries {R = R} es)) ≡ with_firsts m es
  firsts_entries anti m es =
      finmap.same_map o anti _ _ (λ q. get_firsts o m (finmap.entries (finmap.from_entries es)) q
      ∙ ap (option_or (finmap.get m q)) (sym (finmap.get-entries (finmap.from_entries {R = R} es) q) ∙ finmap.get-from_entries o es q)
      ∙ sym (get_firsts o m es q))
