-- How a loop over a list reads for each of its items.
use Rattle.std.proofs.Common.{◌≡◌, ℕ, ◌+◌, ◌<◌, ◌≤◌, List, [], ◌∷◌, ◌++◌, length, drop, get_or, Result, Ok, Err, refl, sym, ap, ◌∙◌, append_assoc}
use Rattle.std.proofs.lemmas.List.{append-nil, drop_more, drop_all}
use Rattle.cov_bytes.specs.Many.{◌>>=◌, with_front}
use Rattle.cov_meta.specs.Each.{each}

regroup : {S A E : Type 0} (front : List A) (x : A) (read : Result (List A × S) E) → with_front front (read >>= λ y. Ok (x ∷ y.0, y.1)) ≡ with_front (front ++ x ∷ []) read
regroup {A = A} front x (Ok y) = ap (λ (xs : List A). Ok (xs, y.1)) (sym (append_assoc front (x ∷ []) y.0))
regroup front x (Err e) = refl

-- one more item was read
pub goes_on : {X S A E : Type 0} (step : X → S → Result (A × S) E) (front : List A) (items : List X) (i : ℕ) (d : X) (s : S) (x : A) (t : S) (total : Result (List A × S) E)
    → i < length items → step (get_or items i d) s ≡ Ok (x, t)
    → with_front front (each step (drop i items) s) ≡ total → with_front (front ++ x ∷ []) (each step (drop (i + 1) items) t) ≡ total
unfolding each
goes_on step front items i d s x t total lt h so_far =
    let one : with_front front (each step (drop i items) s) ≡ with_front (front ++ x ∷ []) (each step (drop (i + 1) items) t) = rw (drop_more items i d lt, h) (regroup front x (each step (drop (i + 1) items) t)) in
    sym one ∙ so_far

-- an item is refused
pub ends : {X S A E : Type 0} (step : X → S → Result (A × S) E) (front : List A) (items : List X) (i : ℕ) (d : X) (s : S) (e : E) (total : Result (List A × S) E)
    → i < length items → step (get_or items i d) s ≡ Err e
    → with_front front (each step (drop i items) s) ≡ total → total ≡ Err e
unfolding each
ends step front items i d s e total lt h so_far = sym so_far ∙ rw (drop_more items i d lt, h) refl

-- all items were read
pub is_done : {X S A E : Type 0} (step : X → S → Result (A × S) E) (front : List A) (items : List X) (i : ℕ) (s : S) (total : Result (List A × S) E) → length items ≤ i
    → with_front front (each step (drop i items) s) ≡ total → total ≡ Ok (front, s)
unfolding each
is_done {A = A} step front items i s total le so_far =
    sym so_far ∙ rw (drop_all i items le) (ap (λ (xs : List A). Ok (xs, s)) (append-nil front))

-- before the first item
pub begins : {X S A E : Type 0} (step : X → S → Result (A × S) E) (items : List X) (s : S) → with_front [] (each step (drop 0 items) s) ≡ each step items s
begins step items s = as_it_is (each step items s)
  where
    as_it_is : {S A E : Type 0} (read : Result (List A × S) E) → with_front [] read ≡ read
    as_it_is (Ok y) = refl
    as_it_is (Err e) = refl
