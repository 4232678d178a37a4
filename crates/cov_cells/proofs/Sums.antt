-- Sums over lists, of which one element changes.
use Rattle.std.proofs.Common.{◌≡◌, ℕ, zero, suc, ◌+◌, ◌<◌, ◌≤◌, ◌≢◌, List, [], ◌∷◌, ◌++◌, length, set, sym, refl, ap, subst, ◌∙◌, ⊎_elim, inl, inr, ◌⊎◌, cond, eq-eqb, ne_eqb, arith, Option, Some, None, option_to_list}
use mathlib.Core.Option.{some, some-injective, some-ne-none}
use lib.ListN.{get_elem?}
use Rattle.go_meaning.specs.Entries.{is_unit}
use Rattle.cov_cells.specs.Rule.{total, times}

module _ {A : Type 0} (g : A → ℕ) where
  pub total-append : (l m : List A) → total g (l ++ m) ≡ total g l + total g m
  total-append [] m = omega arith
  total-append (x ∷ xs) m = omega (arith, total-append xs m)

  pub total-set : (l : List A) (j : ℕ) (v w : A) → get_elem? l j ≡ some v → total g (set l j w) + g v ≡ total g l + g w
  total-set [] j v w e = absurd (some-ne-none v (sym e))
  total-set (x ∷ xs) zero v w e = omega (arith, ap g (some-injective x v e))
  total-set (x ∷ xs) (suc j) v w e = omega (arith, total-set xs j v w e)

  pub term_le : (l : List A) (j : ℕ) (v : A) → get_elem? l j ≡ some v → g v ≤ total g l
  term_le [] j v e = absurd (some-ne-none v (sym e))
  term_le (x ∷ xs) zero v e = omega (arith, ap g (some-injective x v e))
  term_le (x ∷ xs) (suc j) v e = omega (arith, term_le xs j v e)

  pub terms_le : (l : List A) (j k : ℕ) (v u : A) → k ≢ j → get_elem? l j ≡ some v → get_elem? l k ≡ some u → g v + g u ≤ total g l
  terms_le [] j k v u n e d = absurd (some-ne-none v (sym e))
  terms_le (x ∷ xs) zero zero v u n e d = absurd (n refl)
  terms_le (x ∷ xs) zero (suc k) v u n e d = omega (arith, ap g (some-injective x v e), term_le xs k u d)
  terms_le (x ∷ xs) (suc j) zero v u n e d = omega (arith, ap g (some-injective x u d), term_le xs j v e)
  terms_le (x ∷ xs) (suc j) (suc k) v u n e d = omega (arith, terms_le xs j k v u (λ h. n (ap suc h)) e d)

pub times-append : (u : ℕ) (xs ys : List ℕ) → times u (xs ++ ys) ≡ times u xs + times u ys
unfolding times
times-append u xs ys = total-append _ xs ys

pub times-none : (u : ℕ) → times u [] ≡ 0
unfolding times
times-none u = refl

pub times-one : (u : ℕ) → times u (u ∷ []) ≡ 1
unfolding times
times-one u = ap (λ b. cond b 1 0 + 0) (eq-eqb u u refl)

pub times-other : (u x : ℕ) → x ≢ u → times u (x ∷ []) ≡ 0
unfolding times
times-other u x ne = ap (λ b. cond b 1 0 + 0) (ne_eqb x u ne)

pub times-due : (u : ℕ) (d : Option ℕ) → times u (option_to_list d) ≡ is_unit d u
unfolding times
times-due u None = refl
times-due u (Some w) = omega arith

module _ {A : Type 0} where
  -- the last element is known by its place
  pub at_end : (l : List A) (a b : A) (j : ℕ) → get_elem? (l ++ a ∷ []) j ≡ some b → (get_elem? l j ≡ some b) ⊎ ((j ≡ length l) × (a ≡ b))
  at_end [] a b zero e = inr (refl, some-injective a b e)
  at_end [] a b (suc j) e = absurd (some-ne-none b (sym e))
  at_end (x ∷ xs) a b zero e = inl e
  at_end (x ∷ xs) a b (suc j) e = ⊎_elim (λ t. inl t) (λ t. inr (ap suc t.0, t.1)) (at_end xs a b j e)

  pub low : (l : List A) (j : ℕ) (a : A) → get_elem? l j ≡ some a → j < length l
  low [] j a e = absurd (some-ne-none a (sym e))
  low (x ∷ xs) zero a e = omega arith
  low (x ∷ xs) (suc j) a e = let h = low xs j a e in omega arith

  zeros : (f g : A → ℕ) (l : List A) → total f l ≡ 0 → ((j : ℕ) (x : A) → get_elem? l j ≡ some x → f x ≡ 0 → g x ≡ 0) → total g l ≡ 0
  zeros f g [] e h = refl
  zeros f g (x ∷ xs) e h = let one = h 0 x refl (omega arith) in let more = zeros f g xs (omega arith) (λ j. h (suc j)) in omega arith

  -- where one has all of f, and g is 0 where f is, it has all of g
  pub all_of : (f g : A → ℕ) (l : List A) (id : ℕ) (v : A) → get_elem? l id ≡ some v → total f l ≡ f v → ((j : ℕ) (x : A) → get_elem? l j ≡ some x → f x ≡ 0 → g x ≡ 0) → total g l ≡ g v
  all_of f g [] id v at e h = absurd (some-ne-none v (sym at))
  all_of f g (x ∷ xs) zero v at e h = let same = some-injective x v at in let rest = zeros f g xs (omega (arith, ap f same)) (λ j. h (suc j)) in omega (arith, ap g same)
  all_of f g (x ∷ xs) (suc id) v at e h = let here = term_le f xs id v at in let none = h 0 x refl (omega arith) in let more = all_of f g xs id v at (omega arith) (λ j. h (suc j)) in omega arith
