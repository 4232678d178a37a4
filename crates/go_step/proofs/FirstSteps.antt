-- The first step of a goroutine, by its clauses and their partners.
use Rattle.std.proofs.Common.{◌≡◌, ℕ, zero, suc, ◌<◌, ◌≤◌, ◌==◌, Bool, true, false, not, cond, Option, Some, None, refl, sym, ap, ap₂, ◌∙◌, subst, inl, inr, ⊎_elim, arith}
use Rattle.std.specs.Prelude.{◌⊎◌, ◌&&◌, ◌||◌, is_some, slice_get, option_map}
use Rattle.go_meaning.specs.declared.config.Goroutine.{Goroutine}
use Rattle.go_meaning.specs.declared.config.Config.{Config}
use Rattle.go_meaning.specs.declared.event.Event.{Event}
use Rattle.go_meaning.specs.declared.event.Event.TheVariants.{Step, Count}
use Rattle.go_meaning.specs.Programs.{Parts}
use Rattle.go_meaning.specs.Channels.{sides_of, side_at, partner_sides}
use Rattle.go_meaning.specs.Steps.{alone, arrive, together, arrive_both, step}
use Rattle.go_meaning.specs.Readiness.{IsLeast}
use Rattle.go_step.specs.declared.ways.Way.{Way}
use Rattle.go_step.specs.declared.ways.Way.TheVariants as way
use Rattle.go_step.specs.declared.partners.Partner.{Partner}
use Rattle.go_step.specs.Ways.{meets}
use Rattle.go_step.specs.Heads.{way_of_head, count_of_head, partner_way, flag_at_zero, acts}
use Rattle.go_step.specs.Partners.{joins, IsFirstPartner, any_ready, lone_by, goes}
use Rattle.go_step.specs.FirstSteps.{IsLeastOfCase, IsFirstOfCase, IsFirstStep}
use Rattle.go_step.proofs.Waits.{meet_ways}
use Rattle.go_step.proofs.HeadWays.{side_way, partner_side_way, past_count, has_zero}
use Rattle.go_step.proofs.Partnership.{and_false, below_or_not, neither_meets, lone_way, goes_is}

-- ---- steps by their numbers

some_map : {A B : Type 0} (f : A → B) (o : Option A) → is_some (option_map f o) ≡ is_some o
some_map f None = refl
some_map f (Some x) = refl

nothing : {A : Type 0} (o : Option A) → is_some o ≡ false → o ≡ None
nothing None e = refl
nothing (Some x) e = absurd cc

something : {A : Type 0} (o : Option A) → is_some o ≡ true → (x : A) × (o ≡ Some x)
something None e = absurd cc
something (Some x) e = (x, refl)

module _ (P : Parts) (c : Config) (i k : ℕ) where
  step_alone : is_some (step P c (Step (suc i) k 0 0)) ≡ goes P c i k
  unfolding step
  step_alone = some_map (arrive c i) (alone P c i k (slice_get c.goroutines i))

  step_nobody : (q : ℕ) → step P c (Step (suc i) k 0 (suc q)) ≡ None
  unfolding step
  step_nobody q = refl

  meeting : (j q : ℕ) → is_some (together P c k q (slice_get c.goroutines i) (slice_get c.goroutines j)) ≡ meets c (way_of_head P (slice_get c.goroutines i) k) (partner_way P (slice_get c.goroutines j) q)
  meeting j q =
      meet_ways c (side_at (sides_of P (slice_get c.goroutines i)) k) (side_at (partner_sides (sides_of P (slice_get c.goroutines j))) q)
      ∙ ap₂ (meets c) (side_way P (slice_get c.goroutines i) k) (partner_side_way P (slice_get c.goroutines j) q)

  step_joined : (j q : ℕ) → is_some (step P c (Step (suc i) k (suc j) q)) ≡ joins P c i (way_of_head P (slice_get c.goroutines i) k) j q
  unfolding step joins
  step_joined j q = by (i == j)
    where
      by : (b : Bool) → is_some {T = Config} (cond b None (option_map (arrive_both c i j) (together P c k q (slice_get c.goroutines i) (slice_get c.goroutines j)))) ≡ (not b && meets c (way_of_head P (slice_get c.goroutines i) k) (partner_way P (slice_get c.goroutines j) q))
      by true = refl
      by false = some_map (arrive_both c i j) (together P c k q (slice_get c.goroutines i) (slice_get c.goroutines j)) ∙ meeting j q

  -- ---- the steps of one clause

  pub no_alone : goes P c i k ≡ false → (q : ℕ) → step P c (Step (suc i) k 0 q) ≡ None
  no_alone h zero = nothing (step P c (Step (suc i) k 0 0)) (step_alone ∙ h)
  no_alone h (suc q) = step_nobody q

  pub alone_first : goes P c i k ≡ true → IsLeastOfCase P c (suc i) k 0 0
  alone_first h = record { leads = step_alone ∙ h; first = λ p q b. absurd (⊎_elim (λ l. omega (arith, l)) (λ l. omega (arith, l.1)) b) }

  pub joined_first : (w : Way) (p : Partner) → w ≡ way_of_head P (slice_get c.goroutines i) k → goes P c i k ≡ false → IsFirstPartner P c i w (Some p) → IsLeastOfCase P c (suc i) k (suc p.index) p.case
  joined_first w p e h f = record {
    leads = step_joined p.index p.case ∙ ap (λ x. joins P c i x p.index p.case) (sym e) ∙ f.0;
    first = before;
  }
    where
      before : (a b : ℕ) → (a < suc p.index) ⊎ ((a ≡ suc p.index) × (b < p.case)) → step P c (Step (suc i) k a b) ≡ None
      before zero b l = no_alone h b
      before (suc j) b l =
          let earlier : (j < p.index) ⊎ ((j ≡ p.index) × (b < p.case)) = ⊎_elim (λ s. inl (omega (arith, s))) (λ s. inr (omega (arith, s.0), s.1)) l in
          nothing (step P c (Step (suc i) k (suc j) b)) (step_joined j b ∙ ap (λ x. joins P c i x j b) (sym e) ∙ f.1 j b earlier)

  pub no_first : (w : Way) → w ≡ way_of_head P (slice_get c.goroutines i) k → goes P c i k ≡ false → IsFirstPartner P c i w None → (p q : ℕ) → step P c (Step (suc i) k p q) ≡ None
  no_first w e h f zero q = no_alone h q
  no_first w e h f (suc j) q = nothing (step P c (Step (suc i) k (suc j) q)) (step_joined j q ∙ ap (λ x. joins P c i x j q) (sym e) ∙ f j q)

  -- ---- past its clauses a goroutine has no step

  past_zero : (n : ℕ) (b : Bool) → 1 ≤ n → flag_at_zero n b ≡ false
  past_zero zero b h = absurd (omega (arith, h))
  past_zero (suc n) b h = refl

  pub no_later : count_of_head P (slice_get c.goroutines i) ≤ k → (p q : ℕ) → step P c (Step (suc i) k p q) ≡ None
  unfolding joins
  no_later h p q = no_first way.Neither (sym none) stays (λ j b. ap (λ x. not (i == j) && x) (neither_meets c (partner_way P (slice_get c.goroutines j) b)) ∙ and_false (not (i == j))) p q
    where
      o : Option Goroutine
      o = slice_get c.goroutines i

      none : way_of_head P o k ≡ way.Neither
      none = past_count P o k h

      stays : goes P c i k ≡ false
      stays =
          sym (goes_is P c i k) ∙ ap (λ b. b || flag_at_zero k (acts P c o)) (sym (lone_way P c i k) ∙ ap (lone_by c (any_ready P c i)) none)
          ∙ past_zero k (acts P c o) (omega (arith, h, has_zero P o))

-- ---- the first step of all clauses

pub found_first : (P : Parts) (c : Config) (g k p q : ℕ) → IsLeastOfCase P c g k p q → ((k' : ℕ) → k' < k → IsFirstOfCase P c g k' None) → (d : Config) × IsLeast P c g k p q d
found_first P c g k p q least before =
    let d = something (step P c (Step g k p q)) least.leads in
    (d.0, record { leads = d.1; first = λ k' p' q' b. ⊎_elim (λ l. before k' l p' q') (λ l. ap (λ x. step P c (Step g x p' q')) l.0 ∙ least.first p' q' l.1) b })

pub none_first : (P : Parts) (c : Config) (g i n : ℕ) → g ≡ suc i → n ≡ count_of_head P (slice_get c.goroutines i) → ((k : ℕ) → k < n → IsFirstOfCase P c g k None) → (k p q : ℕ) → step P c (Step g k p q) ≡ None
none_first P c g i n e count before k p q =
    ⊎_elim (λ l. before k l p q) (λ l. ap (λ x. step P c (Step x k p q)) e ∙ no_later P c i k (omega (arith, count, l)) p q) (below_or_not k n)

pub found_step : (P : Parts) (c : Config) (g k : ℕ) (e : Event) → IsFirstOfCase P c g k (Some e) → ((k' : ℕ) → k' < k → IsFirstOfCase P c g k' None) → IsFirstStep P c g (Some e)
found_step P c g k (Step h k' p q) f before =
    let found = found_first P c g k p q f.2 before in
    (f.0, subst (λ n. (d : Config) × IsLeast P c g n p q d) (sym f.1) found)
found_step P c g k (Count h u) f before = absurd f
