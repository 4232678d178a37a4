-- The lines of things that are numbered, or that stand beside others, in terms of what is left of them.
use Rattle.std.proofs.Common.{◌≡◌, ℕ, List, [], ◌∷◌, ◌++◌, length, ◌⊎◌, inl, inr, None, refl, sym, ap, ◌∙◌, append-nil, arith, Iter}
use Rattle.std.specs.List.{zip, enumerate_from, flat_map}
use Rattle.std.specs.Slice.Iter.{iter_rest, iter_steps}

nothing : {A : Type 0} (xs : List A) → length xs ≡ 0 → xs ≡ []
nothing [] h = refl
nothing (x ∷ xs) h = absurd (omega arith)

beside_nothing : {A B : Type 0} (xs : List A) → zip {X = B} xs [] ≡ []
beside_nothing [] = refl
beside_nothing (x ∷ xs) = refl

-- where one of both has nothing left
pub none_left : {A B : Type 0} (s : Iter A) (t : Iter B) → ((u : Iter A) × iter_steps s None u) ⊎ ((u : Iter B) × iter_steps t None u) → zip (iter_rest s) (iter_rest t) ≡ []
none_left {A} {B} s t h =
    elim h [
      | inl p ↦ ap (λ (xs : List A). zip xs (iter_rest t)) (nothing (iter_rest s) p.1.0)
      | inr p ↦ ap (λ (ys : List B). zip (iter_rest s) ys) (nothing (iter_rest t) p.1.0) ∙ beside_nothing (iter_rest s)
    ]

module _ {A B : Type 0} (line : A × B → List ℕ) where
  -- nothing is left beside another
  pub beside_ends : (front all : List ℕ) (xs : List A) (ys : List B) → zip xs ys ≡ [] → front ++ flat_map line (zip xs ys) ≡ all → front ≡ all
  beside_ends front all xs ys e h = sym (append-nil front) ∙ ap (λ (t : List (A × B)). front ++ flat_map line t) (sym e) ∙ h

module _ {A B : Type 0} (line : ℕ × (A × B) → List ℕ) where
  -- nothing is left to number
  pub numbered_ends : (front all : List ℕ) (n : ℕ) (xs : List A) (ys : List B) → zip xs ys ≡ [] → front ++ flat_map line (enumerate_from n (zip xs ys)) ≡ all → front ≡ all
  numbered_ends front all n xs ys e h = sym (append-nil front) ∙ ap (λ (t : List (A × B)). front ++ flat_map line (enumerate_from n t)) (sym e) ∙ h
