-- The lines of those things that are kept, in terms of those that are left.
use Rattle.std.proofs.Common.{◌≡◌, ℕ, ◌+◌, ◌<◌, ◌≤◌, zero, suc, Bool, true, false, cond, List, [], ◌∷◌, ◌++◌, length, drop, Some, None, refl, sym, ap, ◌∙◌, append_assoc, append-nil, add-one, drop-cons, arith}
use Rattle.std.specs.Prelude.{slice_get}
use Rattle.std.proofs.lemmas.Option.{get_or_from_slice_get}
use Rattle.std.specs.List.{filter, flat_map}

pub one_more : {A : Type 0} (xs : List A) (i : ℕ) (x : A) → Some x ≡ slice_get xs i → drop i xs ≡ x ∷ drop (i + 1) xs
one_more xs i x e =
    let h : i < length xs = within xs i x e in
    rw (add-one, drop-cons xs i x) (ap (λ t. t ∷ drop (suc i) xs) (get_or_from_slice_get xs i x x (sym e)))
  where
    within : {A : Type 0} (xs : List A) (i : ℕ) (x : A) → Some x ≡ slice_get xs i → i < length xs
    within [] i x e = cc
    within (y ∷ xs) zero x e = omega arith
    within (y ∷ xs) (suc i) x e = let h = within xs i x e in omega arith

pub none_past : {A : Type 0} (units : List A) (i : ℕ) → None ≡ slice_get units i → length units ≤ i
none_past [] i e = omega arith
none_past (u ∷ units) zero e = cc
none_past (u ∷ units) (suc i) e = let h = none_past units i e in omega arith

module _ {A : Type 0} (line : A → List ℕ) (keep : A → Bool) where
  kept_first : (x : A) (xs : List A) → flat_map line (filter keep (x ∷ [])) ++ flat_map line (filter keep xs) ≡ flat_map line (filter keep (x ∷ xs))
  kept_first x xs =
      elim (keep x) as (λ b. flat_map line (cond b (x ∷ []) []) ++ flat_map line (filter keep xs) ≡ flat_map line (cond b (x ∷ filter keep xs) (filter keep xs))) [
        | true ↦ ap (λ (t : List ℕ). t ++ flat_map line (filter keep xs)) (append-nil (line x))
        | false ↦ refl
      ]

  pub lines_step : (front after : List ℕ) (xs : List A) (i : ℕ) (x : A) → Some x ≡ slice_get xs i → after ≡ front ++ flat_map line (filter keep (x ∷ []))
      → after ++ flat_map line (filter keep (drop (i + 1) xs)) ≡ front ++ flat_map line (filter keep (drop i xs))
  lines_step front after xs i x at e =
      ap (λ (t : List ℕ). t ++ flat_map line (filter keep (drop (i + 1) xs))) e
      ∙ append_assoc front (flat_map line (filter keep (x ∷ []))) (flat_map line (filter keep (drop (i + 1) xs)))
      ∙ ap (λ (t : List ℕ). front ++ t) (kept_first x (drop (i + 1) xs))
      ∙ ap (λ (t : List A). front ++ flat_map line (filter keep t)) (sym (one_more xs i x at))
