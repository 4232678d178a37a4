-- The step that each event is.
use Rattle.std.proofs.Common.{◌≡◌, ℕ, zero, suc, ◌-◌, ◌<◌, Bool, true, false, Option, Some, None, refl, sym, ap, ◌∙◌, slice_get, arith}
use Rattle.std.specs.Prelude.{◌==◌, ◌≢◌, option_map, if◌then◌else◌}
use Rattle.std.proofs.lemmas.Bool.{eq-eqb, eqb-true}
use Rattle.go_meaning.specs.declared.event.Event.TheVariants.{Step, Count}
use Rattle.go_meaning.specs.declared.config.Config.{Config}
use Rattle.go_meaning.specs.Programs.{Parts}
use Rattle.go_meaning.specs.Steps.{arrive_both, together, step}
use Rattle.go_step.specs.Beginning.{count_step}
use Rattle.go_step.specs.Handing.{alone_by, both_at}
use Rattle.go_step.proofs.Calling.{if_true, if_false}

pub of_none : (P : Parts) (c : Config) (g k p q : ℕ) → g ≡ 0 → step P c (Step g k p q) ≡ None
unfolding step
of_none P c zero k p q e = refl
of_none P c (suc i) k p q e = absurd cc

-- no goroutine is its own partner
pub of_itself : (P : Parts) (c : Config) (g k p q : ℕ) → g ≡ p → step P c (Step g k p q) ≡ None
unfolding step
of_itself P c zero k p q e = refl
of_itself P c (suc i) k zero q e = absurd cc
of_itself P c (suc i) k (suc j) q e = let no : Option Config = None in if_true (i == j) no _ (eq-eqb i j (omega (arith, e)))

pub of_no_partner : (P : Parts) (c : Config) (g k p q : ℕ) → p ≡ 0 → q ≢ 0 → step P c (Step g k p q) ≡ None
unfolding step
of_no_partner P c zero k p q e h = refl
of_no_partner P c (suc i) k zero zero e h = absurd (h refl)
of_no_partner P c (suc i) k zero (suc q) e h = refl
of_no_partner P c (suc i) k (suc j) q e h = absurd cc

pub of_one : (P : Parts) (c : Config) (g k p q i : ℕ) → g ≢ 0 → i ≡ g - 1 → p ≡ 0 → q ≡ 0 → alone_by P c i k ≡ step P c (Step g k p q)
unfolding step
of_one P c zero k p q i h is e f = absurd (h refl)
of_one P c (suc g) k zero zero i h is e f = let same : i ≡ g = omega (arith, is) in ap (λ n. alone_by P c n k) same
of_one P c (suc g) k zero (suc q) i h is e f = absurd cc
of_one P c (suc g) k (suc j) q i h is e f = absurd cc

different : (i j : ℕ) → i ≢ j → (i == j) ≡ false
different i j h = by (i == j) refl
  where
    by : (b : Bool) → (i == j) ≡ b → (i == j) ≡ false
    by true e = absurd (h (eqb-true i j e))
    by false e = e

pub of_both : (P : Parts) (c : Config) (g k p q i j : ℕ) → g ≢ 0 → p ≢ 0 → g ≢ p → i ≡ g - 1 → j ≡ p - 1 → both_at P c i k j q ≡ step P c (Step g k p q)
unfolding step
of_both P c zero k p q i j h m n is at = absurd (h refl)
of_both P c (suc g) k zero q i j h m n is at = absurd (m refl)
of_both P c (suc g) k (suc p) q i j h m n is at =
    let one : i ≡ g = omega (arith, is) in
    let other : j ≡ p = omega (arith, at) in
    let no : Option Config = None in
    ap (λ x. both_at P c x k j q) one ∙ ap (λ y. both_at P c g k y q) other
    ∙ sym (if_false (g == p) no (both_at P c g k p q) (different g p (λ e. n (ap suc e))))

pub no_count : (P : Parts) (c : Config) (g u : ℕ) → g ≡ 0 → step P c (Count g u) ≡ None
unfolding step
no_count P c zero u e = refl
no_count P c (suc i) u e = absurd cc

pub of_count : (P : Parts) (c : Config) (g u i : ℕ) → g ≢ 0 → i ≡ g - 1 → count_step P c i u ≡ step P c (Count g u)
unfolding step
of_count P c zero u i h is = absurd (h refl)
of_count P c (suc g) u i h is = let same : i ≡ g = omega (arith, is) in ap (λ n. count_step P c n u) same
