-- What of a list is still to be gone through.
use Rattle.std.proofs.Common.{◌≡◌, ℕ, zero, suc, ◌+◌, ◌<◌, ◌≤◌, List, [], ◌∷◌, ◌++◌, refl, sym, ap, ◌∙◌, drop, length, get_or, arith}
use Rattle.std.proofs.Math.Numerals.{add-one}

next_of : {A : Type 0} (xs : List A) (i : ℕ) (x : A) → i < length xs → drop i xs ≡ get_or xs i x ∷ drop (suc i) xs
next_of [] i x h = absurd (omega arith)
next_of (y ∷ xs) zero x h = refl
next_of (y ∷ xs) (suc i) x h = next_of xs i x (omega (arith, h))

pub next_undone : {A : Type 0} (xs : List A) (i : ℕ) (x : A) → i < length xs → x ≡ get_or xs i x → drop i xs ≡ x ∷ drop (i + 1) xs
next_undone xs i x h e = next_of xs i x h ∙ ap (λ y. y ∷ drop (suc i) xs) (sym e) ∙ ap (λ n. x ∷ drop n xs) (sym (add-one i))

pub none_undone : {A : Type 0} (xs : List A) (i : ℕ) → length xs ≤ i → drop i xs ≡ []
none_undone [] zero h = refl
none_undone [] (suc i) h = refl
none_undone (x ∷ xs) zero h = absurd (omega arith)
none_undone (x ∷ xs) (suc i) h = none_undone xs i (omega (arith, h))

pub append_none : {A : Type 0} (xs : List A) → xs ++ [] ≡ xs
append_none [] = refl
append_none (x ∷ xs) = ap (λ l. x ∷ l) (append_none xs)
