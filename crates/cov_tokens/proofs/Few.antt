-- Units whose counters are put in at different offsets are few.
use Rattle.std.proofs.Common.{◌≡◌, ◌≢◌, ℕ, suc, zero, ◌<◌, ◌≤◌, Bool, true, false, not, cond, List, [], ◌∷◌, length, refl, sym, ap, arith, nat_eq}
use Rattle.std.specs.Prelude.{All, AllPairs}
use Rattle.std.specs.List.{filter}
use Rattle.std.proofs.lemmas.Bool.{eqb-true, eq-eqb}
use Rattle.std.proofs.lemmas.List.Elements.{All-head, All-tail, All-filter, filter_passes}
use Rattle.std.proofs.lemmas.List.Kept.{AllPairs-filter}
use Rattle.cov_cut.specs.declared.unit.Unit.{Unit as CutUnit}
use Rattle.cov_tokens.proofs.Basics.{clash}

abbrev Apart : CutUnit → CutUnit → Type 0
Apart u v = u.insert ≢ v.insert

-- put in elsewhere
abbrev elsewhere : ℕ → CutUnit → Bool
elsewhere n u = not (nat_eq u.insert n)

first_apart : (u : CutUnit) (us : List CutUnit) → AllPairs Apart (u ∷ us) → All (λ v. u.insert ≢ v.insert) us
first_apart u us pairs = λ k d lt. pairs zero (suc k) d (omega arith) (omega arith)

rest_apart : (u : CutUnit) (us : List CutUnit) → AllPairs Apart (u ∷ us) → AllPairs Apart us
rest_apart u us pairs = λ i j d lt l. pairs (suc i) (suc j) d (omega arith) (omega arith)

keep_all : (n : ℕ) (us : List CutUnit) → All (λ v. n ≢ v.insert) us → filter (elsewhere n) us ≡ us
keep_all n [] a = refl
keep_all n (u ∷ us) a = go (nat_eq u.insert n) refl (All-head (λ v. n ≢ v.insert) u us a) (keep_all n us (All-tail (λ v. n ≢ v.insert) u us a))
  where
    go : (b : Bool) → nat_eq u.insert n ≡ b → n ≢ u.insert → filter (elsewhere n) us ≡ us → cond (not b) (u ∷ filter (elsewhere n) us) (filter (elsewhere n) us) ≡ u ∷ us
    go true e ne more = absurd (ne (sym (eqb-true u.insert n e)))
    go false e ne more = ap (λ (x : List CutUnit). u ∷ x) more

-- at most one is put in there
one_there : (n : ℕ) (us : List CutUnit) → AllPairs Apart us → length us ≤ suc (length (filter (elsewhere n) us))
one_there n [] pairs = omega arith
one_there n (u ∷ us) pairs = go (nat_eq u.insert n) refl (first_apart u us pairs) (one_there n us (rest_apart u us pairs))
  where
    go : (b : Bool) → nat_eq u.insert n ≡ b → All (λ v. u.insert ≢ v.insert) us → length us ≤ suc (length (filter (elsewhere n) us)) → length (u ∷ us) ≤ suc (length (cond (not b) (u ∷ filter (elsewhere n) us) (filter (elsewhere n) us)))
    go true e apart more =
        let is : u.insert ≡ n = eqb-true u.insert n e in
        let same : length (filter (elsewhere n) us) ≡ length us = ap length (keep_all n us (λ k d lt h. apart k d lt (is_trans u.insert n _ is h))) in
        omega arith
      where
        is_trans : (a b c : ℕ) → a ≡ b → b ≡ c → a ≡ c
        is_trans a b c f g = omega arith
    go false e apart more = omega arith

below_less : (n x : ℕ) → x < suc n → not (nat_eq x n) ≡ true → x < n
below_less n x lt h = go (nat_eq x n) refl h
  where
    go : (b : Bool) → nat_eq x n ≡ b → not b ≡ true → x < n
    go true e g = absurd cc
    go false e g = ne_less (λ k. clash (nat_eq x n) (eq-eqb x n k) e)
      where
        ne_less : (x ≡ n → ⊥) → x < n
        ne_less ne = omega arith

pub few : (bound : ℕ) (us : List CutUnit) → All (λ u. u.insert < bound) us → AllPairs (λ u v. u.insert ≢ v.insert) us → length us ≤ bound
few zero [] all pairs = omega arith
few zero (u ∷ us) all pairs = let lt = All-head (λ v. v.insert < 0) u us all in absurd (omega arith)
few (suc n) us all pairs =
    let kept : All (λ u. u.insert < suc n) (filter (elsewhere n) us) = All-filter (elsewhere n) (λ u. u.insert < suc n) us all in
    let passed : All (λ u. elsewhere n u ≡ true) (filter (elsewhere n) us) = filter_passes (elsewhere n) us in
    let less : All (λ u. u.insert < n) (filter (elsewhere n) us) = λ k d lt. below_less n _ (kept k d lt) (passed k d lt) in
    let more = few n (filter (elsewhere n) us) less (AllPairs-filter Apart (elsewhere n) us pairs) in
    let one = one_there n us pairs in
    omega arith
