-- What rows are found in order, and counts of which some become 0.
use Rattle.std.proofs.Common.{zero, suc, ◌≡◌, ℕ, ◌+◌, ◌<◌, min, Bool, true, false, T, cond, ◌||◌, List, [], ◌∷◌, map, Some, None, refl, sym, ap, ◌∙◌, length, get_or, arith, inl, inr}
use Rattle.std.specs.Prelude.{unwrap_or}
use Rattle.std.specs.Option.{option_map}
use Rattle.std.specs.List.{AllWithin}
use Rattle.std.specs.List.Sorted.{IsSortedBy}
use Rattle.std.proofs.lemmas.Bool.{cases_lt}
use Rattle.std.proofs.lemmas.List.Sums.{sum_by-cons}
use Rattle.std.specs.FinMap as finmap
use Rattle.std.specs.FinMap.Entries.{below_all}
use Rattle.std.specs.Cmp.{IsTotalOrder}
use Rattle.std.specs.Ordering.{is_lt, is_eq, eq_by_cmp, ordering_reverse}
use Rattle.std.specs.declared.cmp.Ordering.{Ordering}
use Rattle.std.specs.declared.cmp.Ordering.TheVariants.{Less, Equal, Greater}
use Rattle.cov_table.specs.Counts.{with_counts, has, total}
use Rattle.cov_table.specs.Operations.{only}
use Rattle.cov_table.proofs.Counting.{sum_up_to, tied, get_counts}
use Rattle.cov_table.proofs.Merging.{found}
use Rattle.cov_table.proofs.Walk.{both, less}

-- ---- items whose keys rise strictly

module _ {X K : Type 0} (R : K → K → Ordering) (key : X → K) (value : X → ℕ) where
  abbrev pub entry_by : X → K × ℕ
  entry_by x = (key x, value x)

  below_at : (q : K) (xs : List X) (i : ℕ) (d : X) → i < length xs → T (below_all R q (map entry_by xs)) → R q (key (get_or xs i d)) ≡ Less
  below_at q [] i d h b = absurd (omega arith)
  below_at q (x ∷ xs) zero d h b = less _ (both _ _ b).0
  below_at q (x ∷ xs) (suc i) d h b = below_at q xs i d (omega arith) (both _ _ b).1

  pub rises_at : (xs : List X) (i j : ℕ) (d : X) → i < j → j < length xs → T (finmap.is_sorted R (map entry_by xs)) → R (key (get_or xs i d)) (key (get_or xs j d)) ≡ Less
  rises_at [] i j d g h s = absurd (omega arith)
  rises_at (x ∷ xs) zero zero d g h s = absurd (omega arith)
  rises_at (x ∷ xs) zero (suc j) d g h s = below_at (key x) xs j d (omega arith) (both _ _ s).0
  rises_at (x ∷ xs) (suc i) zero d g h s = absurd (omega arith)
  rises_at (x ∷ xs) (suc i) (suc j) d g h s = rises_at xs i j d (omega arith) (omega arith) (both _ _ s).1

  module _ (o : IsTotalOrder R) where
    pub sorted_from : (xs : List X) → T (finmap.is_sorted R (map entry_by xs)) → IsSortedBy (λ a b. is_lt (R (key a) (key b))) xs
    sorted_from xs s k d low h = ap is_lt (o.antisymm _ _ ∙ ap ordering_reverse (rises_at xs k (k + 1) d (omega arith) h s))

    pub find_at : (q : K) (xs : List X) (i : ℕ) (d : X) → i < length xs → T (finmap.is_sorted R (map entry_by xs)) → R (key (get_or xs i d)) q ≡ Equal → finmap.find R q (map entry_by xs) ≡ Some (value (get_or xs i d))
    find_at q [] i d h s e = absurd (omega arith)
    find_at q (x ∷ xs) zero d h s e = ap (λ r. cond (is_eq r) (Some (value x)) (finmap.find R q (map entry_by xs))) (o.antisymm _ _ ∙ ap ordering_reverse e)
    find_at q (x ∷ xs) (suc i) d h s e =
        let back : R q (key (get_or xs i d)) ≡ Equal = o.antisymm _ _ ∙ ap ordering_reverse e in
        let above : R (key (get_or xs i d)) (key x) ≡ Greater = o.antisymm _ _ ∙ ap ordering_reverse (below_at (key x) xs i d (omega arith) (both _ _ s).0) in
        ap (λ r. cond (is_eq r) (Some (value x)) (finmap.find R q (map entry_by xs))) (o.congr q (key (get_or xs i d)) (key x) back ∙ above)
        ∙ find_at q xs i d (omega arith) (both _ _ s).1 e

    pub find_none : (q : K) (xs : List X) → ((i : ℕ) (d : X) → i < length xs → is_eq (R (key (get_or xs i d)) q) ≡ false) → finmap.find R q (map entry_by xs) ≡ None
    find_none q [] h = refl
    find_none q (x ∷ xs) h =
        ap (λ b. cond b (Some (value x)) (finmap.find R q (map entry_by xs))) (ap is_eq (o.antisymm _ _) ∙ turned (R (key x) q) (h 0 x (omega arith)))
        ∙ find_none q xs (λ i d below. h (suc i) d (omega arith))
      where
        turned : (r : Ordering) → is_eq r ≡ false → is_eq (ordering_reverse r) ≡ false
        turned Less e = refl
        turned Equal e = e
        turned Greater e = refl

-- those before a place are less, those from there on greater: none is equal
pub apart : {X K : Type 0} (R : K → K → Ordering) (key : X → K) (q : K) (xs : List X) (n : ℕ) → AllWithin (λ y. R (key y) q ≡ Less) xs 0 n → AllWithin (λ y. R (key y) q ≡ Greater) xs n (length xs)
    → (i : ℕ) (d : X) → i < length xs → is_eq (R (key (get_or xs i d)) q) ≡ false
apart R key q xs n before after i d h =
    elim (cases_lt i n) [
      | inl p ↦ ap is_eq (before i d (omega arith) p)
      | inr p ↦ ap is_eq (after i d p h)
    ]

-- ---- counts of which some become 0

module _ {K : Type 0} {R : K → K → Ordering} (o : IsTotalOrder R) (same : finmap.IsAntisymmetric R) (stays : K → Bool) where
  total_only : (q : K) (es : List (K × ℕ)) → total R q (only stays es) ≡ cond (stays q) (total R q es) 0
  total_only q [] = elim (stays q) as (λ b. ◌≡◌ {A = ℕ} 0 (cond b 0 0)) [ true ↦ refl | false ↦ refl ]
  total_only q (e ∷ es) =
      sum_by-cons (λ (e : K × ℕ). cond (eq_by_cmp R q e.0) e.1 0) (e.0, cond (stays e.0) e.1 0) (only stays es)
      ∙ elim (eq_by_cmp R q e.0) as (λ b. eq_by_cmp R q e.0 ≡ b → cond b (cond (stays e.0) e.1 0) 0 + total R q (only stays es) ≡ cond (stays q) (cond b e.1 0 + total R q es) 0) [
        | true ↦ λ t.
            let key : e.0 ≡ q = sym (same q e.0 (tied _ t)) in
            ap (λ (k : K). cond (stays k) e.1 0 + total R q (only stays es)) key
            ∙ ap (λ (n : ℕ). cond (stays q) e.1 0 + n) (total_only q es)
            ∙ elim (stays q) as (λ b. cond b e.1 0 + cond b (total R q es) 0 ≡ cond b (e.1 + total R q es) 0) [ true ↦ refl | false ↦ refl ]
        | false ↦ λ t.
            ap (λ (n : ℕ). 0 + n) (total_only q es)
            ∙ elim (stays q) as (λ b. 0 + cond b (total R q es) 0 ≡ cond b (0 + total R q es) 0) [ true ↦ refl | false ↦ refl ]
      ] refl
      ∙ ap (λ (n : ℕ). cond (stays q) n 0) (sym (sum_by-cons (λ (e : K × ℕ). cond (eq_by_cmp R q e.0) e.1 0) e es))

  pub has_only : (q : K) (es : List (K × ℕ)) → has R q (only stays es) ≡ has R q es
  has_only q [] = refl
  has_only q (e ∷ es) = ap (λ b. eq_by_cmp R q e.0 || b) (has_only q es)

  pub find_only : (q : K) (es : List (K × ℕ)) → finmap.find R q (only stays es) ≡ option_map (λ n. cond (stays q) n 0) (finmap.find R q es)
  find_only q [] = refl
  find_only q (e ∷ es) =
      elim (eq_by_cmp R q e.0) as (λ b. eq_by_cmp R q e.0 ≡ b → cond b (Some (cond (stays e.0) e.1 0)) (finmap.find R q (only stays es)) ≡ option_map (λ n. cond (stays q) n 0) (cond b (Some e.1) (finmap.find R q es))) [
        | true ↦ λ t. ap (λ (k : K). Some (cond (stays k) e.1 0)) (sym (same q e.0 (tied _ t)))
        | false ↦ λ t. find_only q es
      ] refl

  capped_only : (b s : Bool) (t most : ℕ) → cond b (Some (min (0 + cond s t 0) most)) None ≡ option_map (λ n. cond s n 0) (cond b (Some (min (0 + t) most)) None)
  capped_only true true t most = refl
  capped_only true false t most = ap Some (let e : min (0 + 0) most ≡ 0 = omega arith in e)
  capped_only false s t most = refl

  -- it is the same whether counts become 0 before or after they are combined
  pub counts_only : (most : ℕ) (es : List (K × ℕ)) → with_counts {R = R} (sum_up_to most) finmap.empty (only stays es) ≡ finmap.from_entries (only stays (finmap.entries (with_counts {R = R} (sum_up_to most) finmap.empty es)))
  counts_only most es =
      let m : finmap.FinMap R ℕ = with_counts (sum_up_to most) finmap.empty es in
      finmap.same_map o same _ _ (λ q. get_counts o most finmap.empty (only stays es) q
      ∙ (λ i. cond (has_only q es i) (Some (min (unwrap_or (finmap.get-empty {X = ℕ} R q i) 0 + total_only q es i) most)) (finmap.get-empty {X = ℕ} R q i))
      ∙ capped_only (has R q es) (stays q) (total R q es) most
      ∙ ap (option_map (λ n. cond (stays q) n 0)) (sym (found o most es q))
      ∙ sym (find_only q (finmap.entries m))
      ∙ sym (finmap.get-from_entries o (only stays (finmap.entries m)) q))
