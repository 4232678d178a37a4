-- Reading several things one after the other, and the first fault.
use Rattle.std.specs.Prelude.{◌≡◌, ℕ, zero, suc, ◌+◌, ◌-◌, ◌<◌, ◌≤◌, List, [], ◌∷◌, ◌++◌, Result, Ok, Err, refl}
use Rattle.std.proofs.Common.{sym, ap, ◌∙◌, append_assoc, arith}
use Rattle.std.proofs.lemmas.List.{append-nil}

infixl 10 ◌>>=◌
abbrev pub ◌>>=◌ : {A B E : Type 0} → Result A E → (A → Result B E) → Result B E
(Ok x) >>= f = f x
(Err e) >>= f = Err e

-- count times, each from the state that the one before it left
unfoldable pub many : {S A E : Type 0} → (S → Result (A × S) E) → ℕ → S → Result (List A × S) E
many step zero s = Ok ([], s)
many step (suc n) s = do
  first ← step s
  others ← many step n first.1
  Ok (first.0 ∷ others.0, others.1)

-- ---- how a loop does it

-- what was read before, and what is still read
abbrev pub with_front : {S A E : Type 0} → List A → Result (List A × S) E → Result (List A × S) E
with_front front read = read >>= λ x. Ok (front ++ x.0, x.1)

regroup : {S A E : Type 0} (front : List A) (x : A) (read : Result (List A × S) E) → with_front front (read >>= λ y. Ok (x ∷ y.0, y.1)) ≡ with_front (front ++ x ∷ []) read
regroup {A = A} front x (Ok y) = ap (λ (xs : List A). Ok (xs, y.1)) (sym (append_assoc front (x ∷ []) y.0))
regroup front x (Err e) = refl

pub goes_on : {S A E : Type 0} (step : S → Result (A × S) E) (front : List A) (count i : ℕ) (s : S) (x : A) (t : S) (total : Result (List A × S) E) → i < count → step s ≡ Ok (x, t)
    → with_front front (many step (count - i) s) ≡ total → with_front (front ++ x ∷ []) (many step (count - (i + 1)) t) ≡ total
unfolding many
goes_on step front count i s x t total lt h so_far =
    let k : count - i ≡ suc (count - (i + 1)) = omega arith in
    let one : with_front front (many step (count - i) s) ≡ with_front (front ++ x ∷ []) (many step (count - (i + 1)) t) = rw (k, h) (regroup front x (many step (count - (i + 1)) t)) in
    sym one ∙ so_far

pub ends : {S A E : Type 0} (step : S → Result (A × S) E) (front : List A) (count i : ℕ) (s : S) (e : E) (total : Result (List A × S) E) → i < count → step s ≡ Err e
    → with_front front (many step (count - i) s) ≡ total → total ≡ Err e
unfolding many
ends step front count i s e total lt h so_far =
    let k : count - i ≡ suc (count - (i + 1)) = omega arith in
    sym so_far ∙ rw (k, h) refl

pub is_done : {S A E : Type 0} (step : S → Result (A × S) E) (front : List A) (count i : ℕ) (s : S) (total : Result (List A × S) E) → count ≤ i
    → with_front front (many step (count - i) s) ≡ total → total ≡ Ok (front, s)
unfolding many
is_done {A = A} step front count i s total le so_far =
    let k : count - i ≡ 0 = omega arith in
    sym so_far ∙ rw k (ap (λ (xs : List A). Ok (xs, s)) (append-nil front))

pub begins : {S A E : Type 0} (step : S → Result (A × S) E) (count : ℕ) (s : S) → with_front [] (many step (count - 0) s) ≡ many step count s
begins step count s = as_it_is (many step (count - 0) s) ∙ ap (λ (n : ℕ). many step n s) (omega arith)
  where
    as_it_is : {S A E : Type 0} (read : Result (List A × S) E) → with_front [] read ≡ read
    as_it_is (Ok y) = refl
    as_it_is (Err e) = refl
