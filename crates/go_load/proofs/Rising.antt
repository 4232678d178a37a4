-- Packages in byte order of path.
use Rattle.std.proofs.Common.{◌≡◌, ℕ, ◌<◌, ◌⊎◌, inl, inr, false, List, length, get_or, refl, sym, ap, ◌∙◌, arith}
use Rattle.std.specs.Cmp.Lexicographic.{nat_list_cmp_total}
use Rattle.std.specs.List.{swap}
use Rattle.std.specs.List.Sorted.{IsPermutation, IsSortedBy}
use Rattle.std.specs.Ordering.{is_lt, ordering_reverse}
use Rattle.std.specs.declared.cmp.Ordering.{Ordering}
use Rattle.std.specs.declared.cmp.Ordering.TheVariants.{Less, Equal, Greater}
use Rattle.std.proofs.lemmas.Bool.{cases_eq, cases_lt}
use Rattle.std.proofs.lemmas.List.Edits.{Swapped, swapped_from_swap, length-swap}
use Rattle.std.proofs.lemmas.List.Sorted.{IsPermutation-keeps, ranks_by, sorted_far}
use Rattle.go_load.specs.Loading.{ArePathsApart, AreSorted}
use Rattle.go_load.specs.declared.contents.Found.{Found}
use Rattle.go_load.proofs.Marking.{by_path, equal_paths}

-- ---- where an element came from in a swap

Comes : ℕ → ℕ → ℕ → ℕ → Type 0
Comes a b k m = ((k ≡ a) × (m ≡ b)) ⊎ (((k ≡ b) × (m ≡ a)) ⊎ ((k ≡ a → ⊥) × (k ≡ b → ⊥) × (m ≡ k)))

comes_from : (f g : ℕ → Found) (a b : ℕ) → Swapped f g a b → (k : ℕ) → (m : ℕ) × Comes a b k m × (g k ≡ f m)
unfolding Comes
comes_from f g a b swapped k =
    elim (cases_eq k a) [
      | inl e ↦ (b, inl (e, refl), ap g e ∙ swapped.0)
      | inr ne ↦ elim (cases_eq k b) [
        | inl e ↦ (a, inr (inl (e, refl)), ap g e ∙ swapped.1)
        | inr ne' ↦ (k, inr (inr (ne, ne', refl)), swapped.2 k ne ne')
      ]
    ]

stays_apart : (a b i j m n : ℕ) → Comes a b i m → Comes a b j n → (i ≡ j → ⊥) → m ≡ n → ⊥
unfolding Comes
stays_apart a b i j m n (inl p) (inl q) other e = other (p.0 ∙ sym q.0)
stays_apart a b i j m n (inl p) (inr (inl q)) other e = other (p.0 ∙ sym q.1 ∙ sym e ∙ p.1 ∙ sym q.0)
stays_apart a b i j m n (inl p) (inr (inr q)) other e = q.1 (sym q.2 ∙ sym e ∙ p.1)
stays_apart a b i j m n (inr (inl p)) (inl q) other e = other (p.0 ∙ sym q.1 ∙ sym e ∙ p.1 ∙ sym q.0)
stays_apart a b i j m n (inr (inl p)) (inr (inl q)) other e = other (p.0 ∙ sym q.0)
stays_apart a b i j m n (inr (inl p)) (inr (inr q)) other e = q.0 (sym q.2 ∙ sym e ∙ p.1)
stays_apart a b i j m n (inr (inr p)) (inl q) other e = p.1 (sym p.2 ∙ e ∙ q.1)
stays_apart a b i j m n (inr (inr p)) (inr (inl q)) other e = p.0 (sym p.2 ∙ e ∙ q.1)
stays_apart a b i j m n (inr (inr p)) (inr (inr q)) other e = other (sym p.2 ∙ e ∙ q.2)

stays_within : (a b k m n : ℕ) → a < n → b < n → k < n → Comes a b k m → m < n
unfolding Comes
stays_within a b k m n la lb lk (inl p) = omega (arith, p.1, lb)
stays_within a b k m n la lb lk (inr (inl p)) = omega (arith, p.1, la)
stays_within a b k m n la lb lk (inr (inr p)) = omega (arith, p.2, lk)

-- ---- paths that differ

-- at any two places
Differ : List Found → Type 0
Differ founds = (i j : ℕ) (d : Found) → i < length founds → j < length founds → (i ≡ j → ⊥) → (get_or founds i d).path ≡ (get_or founds j d).path → ⊥

order : (i j : ℕ) → (i ≡ j → ⊥) → (i < j) ⊎ (j < i)
order i j other =
    elim (cases_lt i j) [
      | inl below ↦ inl below
      | inr above ↦ inr (omega (arith, above, other))
    ]

differ_by : (founds : List Found) → ArePathsApart founds → Differ founds
unfolding Differ
differ_by founds apart i j d li lj other eq =
    elim (order i j other) [
      | inl below ↦ apart i j d below lj eq
      | inr above ↦ apart j i d above li (sym eq)
    ]

differ_swapped : (founds : List Found) (a b : ℕ) → a < length founds → b < length founds → Differ founds → Differ (swap founds a b)
unfolding Differ
differ_swapped founds a b la lb differ i j d li lj other eq =
    let n = length founds in
    let len : length (swap founds a b) ≡ n = length-swap founds a b in
    let swapped = swapped_from_swap founds (swap founds a b) a b d la lb refl in
    let at_i = comes_from (λ k. get_or founds k d) (λ k. get_or (swap founds a b) k d) a b swapped i in
    let at_j = comes_from (λ k. get_or founds k d) (λ k. get_or (swap founds a b) k d) a b swapped j in
    differ at_i.0 at_j.0 d (stays_within a b i at_i.0 n la lb (omega (arith, li, len)) at_i.1) (stays_within a b j at_j.0 n la lb (omega (arith, lj, len)) at_j.1)
    (stays_apart a b i j at_i.0 at_j.0 at_i.1 at_j.1 other) (sym (ap (λ f. f.path) at_i.2) ∙ eq ∙ ap (λ f. f.path) at_j.2)

-- ---- paths that rise

less_by : (a b : List ℕ) (o : Ordering) → by_path b a ≡ o → is_lt o ≡ false → (a ≡ b → ⊥) → by_path a b ≡ Less
less_by a b Less is not_less other = cc
less_by a b Equal is not_less other = absurd (other (sym (equal_paths b a is)))
less_by a b Greater is not_less other = nat_list_cmp_total.antisymm a b ∙ ap ordering_reverse is

pub sorted_paths : (founds sorted : List Found) → IsPermutation founds sorted → IsSortedBy (λ (a b : Found). is_lt (by_path a.path b.path)) sorted → ArePathsApart founds → AreSorted founds sorted
unfolding Differ
sorted_paths founds sorted same up apart = record {
  same = same;
  rise = λ i j d lt in_range.
      let differ : Differ sorted = IsPermutation-keeps founds Differ (differ_by founds apart) (λ l a b la lb. differ_swapped l a b la lb) sorted same in
      less_by (get_or sorted i d).path (get_or sorted j d).path (by_path (get_or sorted j d).path (get_or sorted i d).path) refl
      (sorted_far (λ (a b : Found). is_lt (by_path a.path b.path)) (ranks_by nat_list_cmp_total (λ (f : Found). f.path)) sorted up i j d (omega (arith, lt)) in_range)
      (differ i j d (omega (arith, lt, in_range)) in_range (λ e. omega (arith, lt, e)));
}
