-- What count a key has after many counts, in whatever order they come.
use Rattle.std.proofs.Common.{◌≡◌, ℕ, ◌+◌, min, Bool, true, false, cond, ◌||◌, List, [], ◌∷◌, ◌++◌, Option, Some, refl, sym, ap, ◌∙◌, arith, zero-add}
use Rattle.std.specs.Prelude.{unwrap_or}
use Rattle.std.specs.List.Sorted.{IsPermutation}
use Rattle.std.proofs.lemmas.List.Sums.{sum_by-cons}
use Rattle.std.proofs.lemmas.List.Sorted.{sum_by-IsPermutation, list_any-IsPermutation, IsPermutation-append_comm}
use Rattle.std.specs.FinMap as finmap
use Rattle.std.specs.Cmp.{IsTotalOrder}
use Rattle.std.specs.Ordering.{is_eq, eq_by_cmp}
use Rattle.std.specs.declared.cmp.Ordering.{Ordering}
use Rattle.std.specs.declared.cmp.Ordering.TheVariants.{Less, Equal, Greater}
use Rattle.cov_table.specs.Counts.{count_of, with_count, with_counts, has, total}

abbrev pub sum_up_to : ℕ → ℕ → ℕ → ℕ
sum_up_to most a b = min (a + b) most

pub tied : (r : Ordering) → is_eq r ≡ true → r ≡ Equal
tied Less p = cc
tied Equal p = refl
tied Greater p = cc

module _ {K : Type 0} (R : K → K → Ordering) where
  pub absent : (q : K) (es : List (K × ℕ)) → has R q es ≡ false → total R q es ≡ 0
  absent q [] h = refl
  absent q (e ∷ es) h =
      sum_by-cons (λ (e : K × ℕ). cond (eq_by_cmp R q e.0) e.1 0) e es
      ∙ elim (eq_by_cmp R q e.0) as (λ b. (b || has R q es) ≡ false → cond b e.1 0 + total R q es ≡ 0) [
        | true ↦ λ i. cc
        | false ↦ λ i. zero-add (total R q es) ∙ absent q es i
      ] h

module _ {K : Type 0} {R : K → K → Ordering} where
  pub counts_append : (combine : ℕ → ℕ → ℕ) (m : finmap.FinMap R ℕ) (xs ys : List (K × ℕ)) → with_counts combine m (xs ++ ys) ≡ with_counts combine (with_counts combine m ys) xs
  counts_append combine m [] ys = refl
  counts_append combine m (e ∷ xs) ys = ap (λ (n : finmap.FinMap R ℕ). with_count combine n e.0 e.1) (counts_append combine m xs ys)

  pub counts_after : (combine : ℕ → ℕ → ℕ) (m : finmap.FinMap R ℕ) (ps xs ys : List (K × ℕ)) → with_counts combine m xs ≡ with_counts combine m ys → with_counts combine m (ps ++ xs) ≡ with_counts combine m (ps ++ ys)
  counts_after combine m [] xs ys h = h
  counts_after combine m (e ∷ ps) xs ys h = ap (λ (n : finmap.FinMap R ℕ). with_count combine n e.0 e.1) (counts_after combine m ps xs ys h)

  module _ (o : IsTotalOrder R) (most : ℕ) where
    abbrev pub there : finmap.FinMap R ℕ → K → Bool → ℕ → Option ℕ
    there m q b n = cond b (Some (min (count_of m q + n) most)) (finmap.get m q)

    joined : (g : Option ℕ) (b : Bool) (t n : ℕ) → (b ≡ false → t ≡ 0) → min (unwrap_or (cond b (Some (min (unwrap_or g 0 + t) most)) g) 0 + n) most ≡ min (unwrap_or g 0 + (n + t)) most
    joined g true t n h = let c : ℕ = unwrap_or g 0 in omega arith
    joined g false t n h = let e : t ≡ 0 = h refl in let c : ℕ = unwrap_or g 0 in omega arith

    -- the sum of all counts of a key, up to the greatest
    pub get_counts : (m : finmap.FinMap R ℕ) (es : List (K × ℕ)) (q : K) → finmap.get (with_counts (sum_up_to most) m es) q ≡ there m q (has R q es) (total R q es)
    get_counts m [] q = refl
    get_counts m (e ∷ es) q =
        let all : finmap.FinMap R ℕ = with_counts (sum_up_to most) m es in
        finmap.get-insert o all e.0 (min (count_of all e.0 + e.1) most) q
        ∙ elim (eq_by_cmp R q e.0) as (λ b. eq_by_cmp R q e.0 ≡ b → cond b (Some (min (count_of all e.0 + e.1) most)) (finmap.get all q) ≡ there m q (b || has R q es) (cond b e.1 0 + total R q es)) [
          | true ↦ λ t. ap Some (ap (λ v. min (unwrap_or v 0 + e.1) most) (finmap.get_tied o all q e.0 (tied _ t) ∙ get_counts m es q) ∙ joined (finmap.get m q) (has R q es) (total R q es) e.1 (absent R q es))
          | false ↦ λ t. get_counts m es q ∙ ap (there m q (has R q es)) (sym (zero-add (total R q es)))
        ] refl
        ∙ ap (there m q (has R q (e ∷ es))) (sym (sum_by-cons (λ (e : K × ℕ). cond (eq_by_cmp R q e.0) e.1 0) e es))

    module _ (anti : finmap.IsAntisymmetric R) (m : finmap.FinMap R ℕ) where
      pub counts_permutation : (xs ys : List (K × ℕ)) → IsPermutation xs ys → with_counts (sum_up_to most) m ys ≡ with_counts (sum_up_to most) m xs
      counts_permutation xs ys p =
          finmap.same_map o anti _ _ (λ q. get_counts m ys q
          ∙ ap (λ b. there m q b (total R q ys)) (sym (list_any-IsPermutation (λ (e : K × ℕ). eq_by_cmp R q e.0) xs ys p))
          ∙ ap (there m q (has R q xs)) (sum_by-IsPermutation (λ (e : K × ℕ). cond (eq_by_cmp R q e.0) e.1 0) xs ys p)
          ∙ sym (get_counts m xs q))

      -- more counts behind those before
      pub counts_added : (xs ys : List (K × ℕ)) → with_counts (sum_up_to most) m (xs ++ ys) ≡ with_counts (sum_up_to most) (with_counts (sum_up_to most) m xs) ys
      counts_added xs ys = counts_permutation (ys ++ xs) (xs ++ ys) (IsPermutation-append_comm ys xs) ∙ counts_append (sum_up_to most) m ys xs

      -- two lists that have the same keys, with sums that are the same up to the greatest
      pub counts_same : (xs ys : List (K × ℕ)) → ((q : K) → has R q xs ≡ has R q ys) → ((q : K) (n : ℕ) → min (n + total R q xs) most ≡ min (n + total R q ys) most) → with_counts (sum_up_to most) m xs ≡ with_counts (sum_up_to most) m ys
      counts_same xs ys keys sums =
          finmap.same_map o anti _ _ (λ q. get_counts m xs q
          ∙ (λ i. cond (keys q i) (Some (sums q (count_of m q) i)) (finmap.get m q))
          ∙ sym (get_counts m ys q))

      pub counts_merge : (k : K) (a b : ℕ) (es : List (K × ℕ)) → with_counts (sum_up_to most) m ((k, min (a + b) most) ∷ es) ≡ with_counts (sum_up_to most) m ((k, a) ∷ (k, b) ∷ es)
      counts_merge k a b es =
          counts_same ((k, min (a + b) most) ∷ es) ((k, a) ∷ (k, b) ∷ es)
          (λ q. elim (eq_by_cmp R q k) as (λ t. (t || has R q es) ≡ (t || (t || has R q es))) [ true ↦ refl | false ↦ refl ])
          (λ q n. ap (λ s. min (n + s) most) (sum_by-cons (λ (e : K × ℕ). cond (eq_by_cmp R q e.0) e.1 0) (k, min (a + b) most) es)
          ∙ elim (eq_by_cmp R q k) as (λ t. min (n + (cond t (min (a + b) most) 0 + total R q es)) most ≡ min (n + (cond t a 0 + (cond t b 0 + total R q es))) most) [
            | true ↦ let s : ℕ = total R q es in omega arith
            | false ↦ let s : ℕ = total R q es in omega arith
          ]
          ∙ ap (λ s. min (n + s) most) (sym (sum_by-cons (λ (e : K × ℕ). cond (eq_by_cmp R q e.0) e.1 0) (k, a) ((k, b) ∷ es) ∙ ap (λ s. cond (eq_by_cmp R q k) a 0 + s) (sum_by-cons (λ (e : K × ℕ). cond (eq_by_cmp R q e.0) e.1 0) (k, b) es))))

      pub counts_capped : (k : K) (a : ℕ) (es : List (K × ℕ)) → with_counts (sum_up_to most) m ((k, min (0 + a) most) ∷ es) ≡ with_counts (sum_up_to most) m ((k, a) ∷ es)
      counts_capped k a es =
          counts_same ((k, min (0 + a) most) ∷ es) ((k, a) ∷ es)
          (λ q. refl)
          (λ q n. ap (λ s. min (n + s) most) (sum_by-cons (λ (e : K × ℕ). cond (eq_by_cmp R q e.0) e.1 0) (k, min (0 + a) most) es)
          ∙ elim (eq_by_cmp R q k) as (λ t. min (n + (cond t (min (0 + a) most) 0 + total R q es)) most ≡ min (n + (cond t a 0 + total R q es)) most) [
            | true ↦ let s : ℕ = total R q es in omega arith
            | false ↦ refl
          ]
          ∙ ap (λ s. min (n + s) most) (sym (sum_by-cons (λ (e : K × ℕ). cond (eq_by_cmp R q e.0) e.1 0) (k, a) es)))
