-- Things one after the other, and reading them.
use Rattle.std.proofs.Common.{◌≡◌, ℕ, zero, suc, List, [], ◌∷◌, length, Result, Ok, refl, sym, ap, subst}
use Rattle.cov_bytes.specs.Many.{many}
use Rattle.cov_counter.specs.Each.{each}
use Rattle.cov_counter.specs.Spelling.{InTurn, Turns}
use Rattle.cov_counter.proofs.Bind.{bind_ok, same_ok}

-- what is read one after the other stands there one after the other
pub many_spells : {A E : Type 0} (step : ℕ → Result (A × ℕ) E) (Is : ℕ → A → ℕ → Type 0) → ((at : ℕ) (x : A × ℕ) → step at ≡ Ok x → Is at x.0 x.1)
    → (n at : ℕ) (x : List A × ℕ) → many step n at ≡ Ok x → (length x.0 ≡ n) × InTurn Is at x.0 x.1
unfolding many
many_spells {A = A} step Is one zero at x e =
    let start : List A × ℕ = ([], at) in
    subst (λ (y : List A × ℕ). (length y.0 ≡ 0) × InTurn Is at y.0 y.1) (same_ok start x e) (refl, refl)
many_spells {A = A} {E = E} step Is one (suc n) at x e =
    let first = bind_ok (step at) _ x e in
    let others = bind_ok (many step n first.0.1) _ x first.2 in
    let whole : List A × ℕ = (first.0.0 ∷ others.0.0, others.0.1) in
    let inside = many_spells step Is one n first.0.1 others.0 others.1 in
    subst (λ (y : List A × ℕ). (length y.0 ≡ suc n) × InTurn Is at y.0 y.1) (same_ok whole x others.2) (ap suc inside.0, (first.0.1, one at first.0 first.1, inside.1))

-- what stands there one after the other is read one after the other
pub many_reads : {A E : Type 0} (step : ℕ → Result (A × ℕ) E) (Is : ℕ → A → ℕ → Type 0) → ((at : ℕ) (x : A) (next : ℕ) → Is at x next → step at ≡ Ok (x, next))
    → (at : ℕ) (xs : List A) (next : ℕ) → InTurn Is at xs next → many step (length xs) at ≡ Ok (xs, next)
unfolding many
many_reads {A = A} step Is one at [] next t = ap (λ (n : ℕ). Ok ([], n)) (sym t)
many_reads step Is one at (x ∷ xs) next t = rw (one at x t.0 t.1, many_reads step Is one t.0 xs next t.2) refl

-- the same where only the offset is kept
pub each_spells : {E : Type 0} (step : ℕ → Result ℕ E) (Is : ℕ → ℕ → Type 0) → ((at next : ℕ) → step at ≡ Ok next → Is at next) → (n at next : ℕ) → each step n at ≡ Ok next → Turns Is n at next
unfolding each
each_spells step Is one zero at next e = sym (same_ok at next e)
each_spells step Is one (suc n) at next e =
    let first = bind_ok (step at) _ next e in
    (first.0, one at first.0 first.1, each_spells step Is one n first.0 next first.2)

pub each_reads : {E : Type 0} (step : ℕ → Result ℕ E) (Is : ℕ → ℕ → Type 0) → ((at next : ℕ) → Is at next → step at ≡ Ok next) → (n at next : ℕ) → Turns Is n at next → each step n at ≡ Ok next
unfolding each
each_reads step Is one zero at next t = ap Ok (sym t)
each_reads step Is one (suc n) at next t = rw (one at t.0 t.1) (each_reads step Is one n t.0 next t.2)
