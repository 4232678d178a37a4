-- The first step of a goroutine: that with the least clause, partner and clause of the partner, in this order.
use Rattle.std.specs.Prelude.{◌≡◌, ℕ, ◌<◌, ◌⊎◌, true, Option, Some, None, is_some}
use Rattle.go_meaning.specs.declared.config.Config.{Config}
use Rattle.go_meaning.specs.declared.event.Event.{Event}
use Rattle.go_meaning.specs.declared.event.Event.TheVariants.{Step, Count}
use Rattle.go_meaning.specs.Programs.{Parts}
use Rattle.go_meaning.specs.Steps.{step}
use Rattle.go_meaning.specs.Readiness.{IsLeast}

-- goroutine g has a step in its clause k, and none in that clause that comes before it
pub record IsLeastOfCase (P : Parts) (c : Config) (g k p q : ℕ) : Type 0 where
  pub leads : is_some (step P c (Step g k p q)) ≡ true
  pub first : (p' q' : ℕ) → (p' < p) ⊎ ((p' ≡ p) × (q' < q)) → step P c (Step g k p' q') ≡ None

abbrev pub IsFirstOfCase : Parts → Config → ℕ → ℕ → Option Event → Type 0
IsFirstOfCase P c g k None = (p q : ℕ) → step P c (Step g k p q) ≡ None
IsFirstOfCase P c g k (Some (Step h k' p q)) = (h ≡ g) × (k' ≡ k) × IsLeastOfCase P c g k p q
IsFirstOfCase P c g k (Some (Count h u)) = ⊥

abbrev pub IsFirstStep : Parts → Config → ℕ → Option Event → Type 0
IsFirstStep P c g None = (k p q : ℕ) → step P c (Step g k p q) ≡ None
IsFirstStep P c g (Some (Step h k p q)) = (h ≡ g) × ((d : Config) × IsLeast P c g k p q d)
IsFirstStep P c g (Some (Count h u)) = ⊥
