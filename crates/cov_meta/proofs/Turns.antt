-- Items one after the other, and reading them.
use Rattle.std.proofs.Common.{◌≡◌, ℕ, zero, suc, List, [], ◌∷◌, ◌++◌, length, Result, Ok, refl, sym, ap, subst}
use Rattle.std.specs.Prelude.{flat_map}
use Rattle.cov_bytes.specs.Many.{◌>>=◌, many}
use Rattle.cov_meta.specs.Spelling.{InTurn}
use Rattle.cov_meta.proofs.Bind.{bind_ok, same_ok}

-- what is read one after the other stands there one after the other
pub many_spells : {A E : Type 0} (step : ℕ → Result (A × ℕ) E) (Is : ℕ → A → ℕ → Type 0) → ((at : ℕ) (x : A) (next : ℕ) → step at ≡ Ok (x, next) → Is at x next)
    → (n at : ℕ) (xs : List A) (next : ℕ) → many step n at ≡ Ok (xs, next) → (length xs ≡ n) × InTurn Is at xs next
unfolding many
many_spells {A = A} step Is one zero at xs next e =
    let start : List A × ℕ = ([], at) in
    let same = same_ok start (xs, next) e in
    subst (λ (y : List A × ℕ). (length y.0 ≡ 0) × InTurn Is at y.0 y.1) same (refl, refl)
many_spells {A = A} {E = E} step Is one (suc n) at xs next e =
    let rest : A × ℕ → Result (List A × ℕ) E = λ first. many step n first.1 >>= λ others. Ok (first.0 ∷ others.0, others.1) in
    let first = bind_ok (step at) rest (xs, next) e in
    let joined : List A × ℕ → Result (List A × ℕ) E = λ others. Ok (first.0.0 ∷ others.0, others.1) in
    let others = bind_ok (many step n first.0.1) joined (xs, next) first.2 in
    let whole : List A × ℕ = (first.0.0 ∷ others.0.0, others.0.1) in
    let same = same_ok whole (xs, next) others.2 in
    let inside = many_spells step Is one n first.0.1 others.0.0 others.0.1 others.1 in
    subst (λ (y : List A × ℕ). (length y.0 ≡ suc n) × InTurn Is at y.0 y.1) same (ap suc inside.0, (first.0.1, one at first.0.0 first.0.1 first.1, inside.1))

-- what stands there one after the other is read one after the other
pub many_reads : {A E : Type 0} (step : ℕ → Result (A × ℕ) E) (Is : ℕ → A → ℕ → Type 0) → ((at : ℕ) (x : A) (next : ℕ) → Is at x next → step at ≡ Ok (x, next))
    → (at : ℕ) (xs : List A) (next : ℕ) → InTurn Is at xs next → many step (length xs) at ≡ Ok (xs, next)
unfolding many
many_reads {A = A} step Is one at [] next t = ap (λ (n : ℕ). Ok ([], n)) (sym t)
many_reads step Is one at (x ∷ xs) next t = rw (one at x t.0 t.1, many_reads step Is one t.0 xs next t.2) refl

pub turns_split : {A : Type 0} (Is : ℕ → A → ℕ → Type 0) (at : ℕ) (xs ys : List A) (next : ℕ) → InTurn Is at (xs ++ ys) next → (middle : ℕ) × InTurn Is at xs middle × InTurn Is middle ys next
turns_split Is at [] ys next t = (at, refl, t)
turns_split Is at (x ∷ xs) ys next t =
    let rest = turns_split Is t.0 xs ys next t.2 in
    (rest.0, (t.0, t.1, rest.1), rest.2)

pub turns_join : {A : Type 0} (Is : ℕ → A → ℕ → Type 0) (at : ℕ) (xs ys : List A) (middle next : ℕ) → InTurn Is at xs middle → InTurn Is middle ys next → InTurn Is at (xs ++ ys) next
turns_join Is at [] ys middle next t u = subst (λ (m : ℕ). InTurn Is m ys next) t u
turns_join Is at (x ∷ xs) ys middle next t u = (t.0, t.1, turns_join Is t.0 xs ys middle next t.2 u)

-- items that are each several things
pub turns_flat : {A B : Type 0} (Is : ℕ → B → ℕ → Type 0) (f : A → List B) (at : ℕ) (xs : List A) (next : ℕ) → InTurn (λ i x j. InTurn Is i (f x) j) at xs next → InTurn Is at (flat_map f xs) next
turns_flat Is f at [] next t = t
turns_flat Is f at (x ∷ xs) next t = turns_join Is at (f x) (flat_map f xs) t.0 next t.1 (turns_flat Is f t.0 xs next t.2)

pub turns_parts : {A B : Type 0} (Is : ℕ → B → ℕ → Type 0) (f : A → List B) (at : ℕ) (xs : List A) (next : ℕ) → InTurn Is at (flat_map f xs) next → InTurn (λ i x j. InTurn Is i (f x) j) at xs next
turns_parts Is f at [] next t = t
turns_parts Is f at (x ∷ xs) next t =
    let parts = turns_split Is at (f x) (flat_map f xs) next t in
    (parts.0, parts.1, turns_parts Is f parts.0 xs next parts.2)
