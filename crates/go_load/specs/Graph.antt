-- Packages that import each other. Each is known by its number, its place in byte order of import path.
use Rattle.std.specs.Prelude.{◌≡◌, ℕ, ◌<◌, ◌≤◌, Bool, true, false, ◌&&◌, ◌⊎◌, List, [], ◌∷◌, ◌++◌, length, nat_lt}
use Rattle.std.specs.List.{Contains, slice_index_or}

-- For each package a row, which says of each package whether it is imported.
abbrev pub Rows : Type 0
Rows = List (List Bool)

abbrev pub imports : Rows → ℕ → ℕ → Bool
imports graph u v = nat_lt v (length graph) && slice_index_or (slice_index_or graph u []) v false

-- ---- the load order

-- The package isn't among those that came, and all that it imports are.
pub record MayCome (graph : Rows) (come : List ℕ) (u : ℕ) : Type 0 where
  pub is_package : u < length graph
  pub is_new : Contains come u → ⊥
  pub after_imports : (v : ℕ) → imports graph u v ≡ true → Contains come v

-- These come after the packages that came: each is the least that may come, and in the end none may.
abbrev pub ComeAfter : Rows → List ℕ → List ℕ → Type 0
ComeAfter graph come [] = (u : ℕ) → MayCome graph come u → ⊥
ComeAfter graph come (u ∷ us) = MayCome graph come u × ((v : ℕ) → MayCome graph come v → u ≤ v) × ComeAfter graph (come ++ u ∷ []) us

-- all packages in load order: imported ones first, and the least of those that may come next
pub record IsLoadOrder (graph : Rows) (order : List ℕ) : Type 0 where
  pub comes : ComeAfter graph [] order
  pub complete : (u : ℕ) → u < length graph → Contains order u

-- ---- cycles

-- From a package these lead back to the start: each is imported by the one before it, is greater than the start and isn't
-- among those met, and the last imports the start.
abbrev pub LeadsBack : Rows → ℕ → List ℕ → ℕ → List ℕ → Type 0
LeadsBack graph start met u [] = imports graph u start ≡ true
LeadsBack graph start met u (v ∷ vs) = (imports graph u v ≡ true) × (start < v) × (Contains met v → ⊥) × LeadsBack graph start (met ++ v ∷ []) v vs

-- a cycle that starts at its least package: each package is followed by one that it imports, the last by the first, and none
-- stands in it twice
abbrev pub IsCycle : Rows → List ℕ → Type 0
IsCycle graph [] = ⊥
IsCycle graph (u ∷ us) = LeadsBack graph u (u ∷ []) u us

-- a list is the other, or comes before it: the first number that differs decides, and a list comes before those that go on
abbrev pub IsUpTo : List ℕ → List ℕ → Type 0
IsUpTo [] bs = Unit {0}
IsUpTo (a ∷ as') [] = ⊥
IsUpTo (a ∷ as') (b ∷ bs) = (a < b) ⊎ ((a ≡ b) × IsUpTo as' bs)

-- the cycle that is the least list
pub record IsLeastCycle (graph : Rows) (cycle : List ℕ) : Type 0 where
  pub is_cycle : IsCycle graph cycle
  pub least : (other : List ℕ) → IsCycle graph other → IsUpTo cycle other
