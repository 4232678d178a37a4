-- How far the turn is from a goroutine.
use Rattle.std.proofs.Common.{◌≡◌, ℕ, ◌+◌, ◌-◌, ◌<◌, ◌≤◌, Bool, true, false, cond, Option, Some, None, sym, ◌∙◌, arith, ⊎_elim, refl}
use Rattle.std.specs.Prelude.{nat_lt, is_some}
use Rattle.std.proofs.lemmas.Option.{none-some}
use Rattle.std.proofs.lemmas.Bool.{cases_lt, cond_above, cond_below}
use Rattle.go_meaning.specs.declared.event.Event.{Event}
use Rattle.go_meaning.specs.declared.event.Event.TheVariants.{Step, Count}
use Rattle.go_meaning.specs.declared.config.Config.{Config}
use Rattle.go_meaning.specs.Programs.{Parts}
use Rattle.go_meaning.specs.Steps.{numbered}
use Rattle.go_meaning.specs.Readiness.{is_over, IsFirst, IsIdle}
use Rattle.go_meaning.specs.Serial.{IsNext}
use Rattle.go_state.proofs.Activity.{over_idle}

-- from number a on to number t, where 256 is followed by 0
unfoldable pub distance : ℕ → ℕ → ℕ
distance a t = cond (nat_lt t a) (257 + t - a) (t - a)

behind : (a t : ℕ) → t < a → distance a t ≡ 257 + t - a
unfolding distance
behind a t h = sym (cond_below t a (257 + t - a) (t - a) h)

ahead : (a t : ℕ) → a ≤ t → distance a t ≡ t - a
unfolding distance
ahead a t h = sym (cond_above t a (257 + t - a) (t - a) (t - a) h refl)

-- The turn comes closer to a goroutine that isn't over.
pub closer : (c : Config) (a h t : ℕ) → IsNext c a h → is_over (numbered c t) ≡ false → (a ≡ t → ⊥) → a ≤ 256 → h ≤ 256 → 0 < h → distance h t < distance a t
closer c a h t n l ne x y z = ⊎_elim before after (cases_lt a t)
  where
    over : is_over (numbered c t) ≡ true → ⊥
    over e = cc (sym l ∙ e)

    before : a < t → distance h t < distance a t
    before k = ⊎_elim (λ o. within o.0 (⊎_elim (λ (q : t < h). absurd (over (o.1 t k q))) (λ q. q) (cases_lt t h))) (λ o. absurd (over (o.0 t k))) n.order
      where
        within : a < h → h ≤ t → distance h t < distance a t
        within p q = let u = ahead h t q in let v = ahead a t (omega (arith, k)) in omega (arith, u, v, p, q, k)

    after : t ≤ a → distance h t < distance a t
    after k =
        let s : t < a = omega (arith, k, ne) in
        let v = behind a t s in
        ⊎_elim (λ o. let q : a < h = o.0 in let u = behind h t (omega (arith, q, s)) in omega (arith, u, v, q, s, x, y))
        (λ o. ⊎_elim (λ (q : t < h). absurd (over (o.1 t q))) (λ q. let u = ahead h t q in omega (arith, u, v, q, s, x, z)) (cases_lt t h)) n.order

-- a goroutine that has a first event has something to do
pub stirs : (P : Parts) (c : Config) (g : ℕ) (e : Event) → IsFirst P c g (Some e) → IsIdle P c g → ⊥
stirs P c g (Step h k p q) f i = none-some f.1.0 (sym (i.steps k p q) ∙ f.1.1.leads)
stirs P c g (Count h u) f i = none-some u (sym i.due ∙ f.1)

-- a goroutine that isn't idle isn't over
pub lives : (P : Parts) (c : Config) (g : ℕ) → (IsIdle P c g → ⊥) → is_over (numbered c g) ≡ false
lives P c g s = by (is_over (numbered c g)) (over_idle P c g)
  where
    by : (b : Bool) → (b ≡ true → IsIdle P c g) → b ≡ false
    by true h = absurd (s (h refl))
    by false h = refl

pub idle_if : (P : Parts) (c : Config) (g : ℕ) (o : Option Event) → is_some o ≡ false → IsFirst P c g o → IsIdle P c g
idle_if P c g None e f = f
idle_if P c g (Some x) e f = cc
