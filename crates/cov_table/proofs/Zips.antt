-- Loops over one list or two at a time, in terms of what is left of them.
use Rattle.std.proofs.Common.{suc, ◌≡◌, ℕ, List, [], ◌∷◌, ◌++◌, map, length, drop, get_or, ◌+◌, ◌<◌, add-one, drop-cons, ◌⊎◌, inl, inr, None, refl, sym, ap, ◌∙◌, append_assoc, append-nil, arith, Iter}
use Rattle.std.specs.List.{zip, flat_map}
use Rattle.std.specs.Slice.Iter.{iter_rest, iter_steps}

no_length : {A : Type 0} (xs : List A) → length xs ≡ 0 → xs ≡ []
no_length [] h = refl
no_length (x ∷ xs) h = absurd (omega arith)

zip_nothing : {A B : Type 0} (xs : List A) → zip {X = B} xs [] ≡ []
zip_nothing [] = refl
zip_nothing (x ∷ xs) = refl

-- where one of both has nothing left
pub zip_ends : {A B : Type 0} (s : Iter A) (t : Iter B) → ((u : Iter A) × iter_steps s None u) ⊎ ((u : Iter B) × iter_steps t None u) → zip (iter_rest s) (iter_rest t) ≡ []
zip_ends {A} {B} s t h =
    elim h [
      | inl p ↦ ap (λ (xs : List A). zip xs (iter_rest t)) (no_length (iter_rest s) p.1.0)
      | inr p ↦ ap (λ (ys : List B). zip (iter_rest s) ys) (no_length (iter_rest t) p.1.0) ∙ zip_nothing (iter_rest s)
    ]

pub map_step : {A B C : Type 0} (f : A × B → C) (front after : List C) (x : A) (xs rest : List A) (y : B) (ys others : List B) → xs ≡ x ∷ rest → ys ≡ y ∷ others → after ≡ front ++ f (x, y) ∷ [] → after ++ map f (zip rest others) ≡ front ++ map f (zip xs ys)
map_step {A} {B} {C} f front after x xs rest y ys others p q e =
    ap (λ (t : List C). t ++ map f (zip rest others)) e
    ∙ append_assoc front (f (x, y) ∷ []) (map f (zip rest others))
    ∙ ap (λ (t : List A). front ++ map f (zip t (y ∷ others))) (sym p)
    ∙ ap (λ (t : List B). front ++ map f (zip xs t)) (sym q)

pub flat_map_step : {A B C : Type 0} (f : A × B → List C) (front after : List C) (x : A) (xs rest : List A) (y : B) (ys others : List B) → xs ≡ x ∷ rest → ys ≡ y ∷ others → after ≡ front ++ f (x, y) → after ++ flat_map f (zip rest others) ≡ front ++ flat_map f (zip xs ys)
flat_map_step {A} {B} {C} f front after x xs rest y ys others p q e =
    ap (λ (t : List C). t ++ flat_map f (zip rest others)) e
    ∙ append_assoc front (f (x, y)) (flat_map f (zip rest others))
    ∙ ap (λ (t : List A). front ++ flat_map f (zip t (y ∷ others))) (sym p)
    ∙ ap (λ (t : List B). front ++ flat_map f (zip xs t)) (sym q)

pub map_ends : {A B C : Type 0} (f : A × B → C) (front total : List C) (xs : List A) (ys : List B) → zip xs ys ≡ [] → front ++ map f (zip xs ys) ≡ total → front ≡ total
map_ends {A} {B} f front total xs ys e h = sym (append-nil front) ∙ ap (λ (t : List (A × B)). front ++ map f t) (sym e) ∙ h

pub flat_map_ends : {A B C : Type 0} (f : A × B → List C) (front total : List C) (xs : List A) (ys : List B) → zip xs ys ≡ [] → front ++ flat_map f (zip xs ys) ≡ total → front ≡ total
flat_map_ends {A} {B} f front total xs ys e h = sym (append-nil front) ∙ ap (λ (t : List (A × B)). front ++ flat_map f t) (sym e) ∙ h

-- the element at a place, and those behind it
pub drop_step : {A : Type 0} (xs : List A) (i : ℕ) (x d : A) → i < length xs → x ≡ get_or xs i d → drop i xs ≡ x ∷ drop (i + 1) xs
drop_step {A} xs i x d h e = rw (add-one, drop-cons xs i d) (ap (λ (t : A). t ∷ drop (suc i) xs) (sym e))

pub list_step : {A C : Type 0} (f : A → C) (front after : List C) (x : A) (xs : List A) (i : ℕ) → i < length xs → x ≡ get_or xs i x → after ≡ front ++ f x ∷ [] → after ++ map f (drop (i + 1) xs) ≡ front ++ map f (drop i xs)
list_step {A} {C} f front after x xs i h at e =
    ap (λ (t : List C). t ++ map f (drop (i + 1) xs)) e
    ∙ append_assoc front (f x ∷ []) (map f (drop (i + 1) xs))
    ∙ ap (λ (t : List A). front ++ map f t) (sym (drop_step xs i x x h at))
