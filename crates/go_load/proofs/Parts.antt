-- The parts of a list that is divided.
use Rattle.std.proofs.Common.{◌≡◌, ℕ, ◌+◌, ◌≤◌, Bool, true, false, cond, not, List, [], ◌∷◌, length, take, drop, Some, None, refl, sym, ap, subst, ◌∙◌, ⊎_elim, arith}
use Rattle.std.specs.Prelude.{position}
use Rattle.std.specs.List.{slice_split, position_or_len, onto_first}
use Rattle.std.proofs.lemmas.Bool.{cases_lt, lt-ltb, le-ltb}
use Rattle.std.proofs.lemmas.List.Splits.{slice_split-cons_no, slice_split_first}

none_divides : {X : Type 0} (p : X → Bool) (x : X) (xs : List X) (b : Bool) → b ≡ p x → length (x ∷ xs) ≤ cond (not b) (1 + position_or_len p xs) 0 → (p x ≡ false) × (length xs ≤ position_or_len p xs)
none_divides p x xs true is e = absurd (omega arith)
none_divides p x xs false is e = (sym is, omega arith)

-- where no element divides it, the list is the one part
undivided : {X : Type 0} (p : X → Bool) (xs : List X) → length xs ≤ position_or_len p xs → slice_split p xs ≡ xs ∷ []
undivided p [] e = refl
undivided p (x ∷ xs) e =
    let h = none_divides p x xs (p x) refl e in
    slice_split-cons_no p x xs h.0 ∙ ap (onto_first x) (undivided p xs h.1)

pub part_last : {X : Type 0} (p : X → Bool) (xs : List X) → None ≡ position p xs → slice_split p xs ≡ xs ∷ []
part_last p xs none =
    ⊎_elim
    (λ lt. let some : position p xs ≡ Some (position_or_len p xs) = ap (λ (t : Bool). cond t (Some (position_or_len p xs)) None) (lt-ltb (position_or_len p xs) (length xs) lt) in cc)
    (λ le. undivided p xs le)
    (cases_lt (position_or_len p xs) (length xs))

pub part_first : {X : Type 0} (p : X → Bool) (xs : List X) (d : X) (i : ℕ) → Some i ≡ position p xs → slice_split p xs ≡ take i xs ∷ slice_split p (drop (i + 1) xs)
part_first p xs d i some =
    ⊎_elim
    (λ lt.
    let at : position p xs ≡ Some (position_or_len p xs) = ap (λ (t : Bool). cond t (Some (position_or_len p xs)) None) (lt-ltb (position_or_len p xs) (length xs) lt) in
    let same : i ≡ position_or_len p xs = cc in
    subst (λ (n : ℕ). slice_split p xs ≡ take n xs ∷ slice_split p (drop (n + 1) xs)) (sym same) (slice_split_first p xs d lt))
    (λ le. let none : position p xs ≡ None = ap (λ (t : Bool). cond t (Some (position_or_len p xs)) None) (le-ltb (position_or_len p xs) (length xs) le) in cc)
    (cases_lt (position_or_len p xs) (length xs))
