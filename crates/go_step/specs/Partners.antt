-- Partners of goroutines, and which of a goroutine's clauses are ready.
use Rattle.std.specs.Prelude.{◌≡◌, ℕ, ◌<◌, ◌⊎◌, Bool, true, false, not, ◌==◌, ◌&&◌, Option, Some, None, slice_get, is_some}
use Rattle.std.specs.List.{list_any}
use Rattle.go_meaning.specs.declared.config.Config.{Config}
use Rattle.go_meaning.specs.Programs.{Parts}
use Rattle.go_meaning.specs.Channels.{Side, sides_of, side_at, listed, is_ready, lone}
use Rattle.go_meaning.specs.Steps.{alone}
use Rattle.go_step.specs.declared.ways.Way.{Way}
use Rattle.go_step.specs.declared.ways.Way.TheVariants as way
use Rattle.go_step.specs.declared.partners.Partner.{Partner}
use Rattle.go_step.specs.Ways.{way_of, goes_alone, meets}
use Rattle.go_step.specs.Heads.{partner_way}

-- the goroutine with index j is a partner of the one with index i, in its clause q
unfoldable pub joins : Parts → Config → ℕ → Way → ℕ → ℕ → Bool
joins P c i w j q = not (i == j) && meets c w (partner_way P (slice_get c.goroutines j) q)

abbrev pub IsFirstCase : Parts → Config → ℕ → Way → ℕ → Option ℕ → Type 0
IsFirstCase P c i w j None = (q : ℕ) → joins P c i w j q ≡ false
IsFirstCase P c i w j (Some q) = (joins P c i w j q ≡ true) × ((q' : ℕ) → q' < q → joins P c i w j q' ≡ false)

-- the first of these by the index, and then by the clause
abbrev pub IsFirstPartner : Parts → Config → ℕ → Way → Option Partner → Type 0
IsFirstPartner P c i w None = (j q : ℕ) → joins P c i w j q ≡ false
IsFirstPartner P c i w (Some p) =
    (joins P c i w p.index p.case ≡ true) × ((j q : ℕ) → (j < p.index) ⊎ ((j ≡ p.index) × (q < p.case)) → joins P c i w j q ≡ false)

-- ---- readiness

-- whether a side with this way is ready
abbrev pub IsWayReady : Parts → Config → ℕ → Way → Bool → Type 0
IsWayReady P c i w b = (s : Side) → way_of s ≡ w → is_ready P c i s ≡ b

abbrev pub any_ready : Parts → Config → ℕ → Bool
any_ready P c i = list_any (is_ready P c i) (listed (sides_of P (slice_get c.goroutines i)))

-- by whether a clause is ready, so that the default clause isn't taken
abbrev pub lone_by : Config → Bool → Way → Bool
lone_by c b way.Default = not b
lone_by c b w = goes_alone c w

abbrev pub lone_goes : Parts → Config → ℕ → ℕ → Bool
lone_goes P c i k = is_some (lone P c i (sides_of P (slice_get c.goroutines i)) (side_at (sides_of P (slice_get c.goroutines i)) k))

abbrev pub goes : Parts → Config → ℕ → ℕ → Bool
goes P c i k = is_some (alone P c i k (slice_get c.goroutines i))
