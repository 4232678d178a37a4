-- Counts by key, and more counts that are combined with them.
use Rattle.std.specs.Prelude.{ℕ, unwrap_or, List, [], ◌∷◌, Bool, sum_by, if◌then◌else◌}
use Rattle.std.specs.declared.cmp.Ordering.{Ordering}
use Rattle.std.specs.List.{list_any}
use Rattle.std.specs.Ordering.{eq_by_cmp}
use Rattle.std.specs.FinMap as finmap

module _ {K : Type 0} {R : K → K → Ordering} where
  -- the count at a key, and 0 where there is none
  abbrev pub count_of : finmap.FinMap R ℕ → K → ℕ
  count_of m k = unwrap_or (finmap.get m k) 0

  -- with one more count at a key
  abbrev pub with_count : (ℕ → ℕ → ℕ) → finmap.FinMap R ℕ → K → ℕ → finmap.FinMap R ℕ
  with_count combine m k n = finmap.insert m k (combine (count_of m k) n)

  -- with more counts at their keys
  abbrev pub with_counts : (ℕ → ℕ → ℕ) → finmap.FinMap R ℕ → List (K × ℕ) → finmap.FinMap R ℕ
  with_counts combine m [] = m
  with_counts combine m (e ∷ es) = with_count combine (with_counts combine m es) e.0 e.1

module _ {K : Type 0} (R : K → K → Ordering) where
  -- whether a key is among entries
  abbrev pub has : K → List (K × ℕ) → Bool
  has k es = list_any (λ e. eq_by_cmp R k e.0) es

  -- the sum of a key's counts among entries
  abbrev pub total : K → List (K × ℕ) → ℕ
  total k es = sum_by (λ e. if eq_by_cmp R k e.0 then e.1 else 0) es
