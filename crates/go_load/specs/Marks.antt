-- Marks of packages, by number.
use Rattle.std.specs.Prelude.{◌≡◌, ℕ, ◌<◌, ◌≤◌, Bool, true, false, ◌⊎◌, List, [], ◌∷◌, ◌++◌, length, not, count_by, slice_index}
use Rattle.std.specs.List.{Contains, slice_index_or}
use Rattle.go_load.specs.Graph.{Rows, imports, LeadsBack}

abbrev pub is_marked : List Bool → ℕ → Bool
is_marked marks u = slice_index_or marks u false

abbrev pub count_unmarked : List Bool → ℕ
count_unmarked marks = count_by not marks

-- ---- the load order

-- the marked packages are these
pub record AreMarked (marks : List Bool) (come : List ℕ) : Type 0 where
  pub marked : (u : ℕ) → Contains come u → is_marked marks u ≡ true
  pub only : (u : ℕ) → is_marked marks u ≡ true → Contains come u

-- the package isn't marked, and all that it imports are
pub record IsFree (graph : Rows) (marks : List Bool) (u : ℕ) : Type 0 where
  pub is_package : u < length graph
  pub is_new : is_marked marks u ≡ false
  pub after_imports : (v : ℕ) → imports graph u v ≡ true → is_marked marks v ≡ true

-- the package is marked, or imports one that isn't
abbrev pub IsNotFree : Rows → List Bool → ℕ → Type 0
IsNotFree graph marks u = (is_marked marks u ≡ true) ⊎ ((v : ℕ) × (imports graph u v ≡ true) × (is_marked marks v ≡ false))

-- For each package, the number before which all that it imports are marked.
pub record Await (graph : Rows) (marks : List Bool) (awaited : List ℕ) : Type 0 where
  pub many : length awaited ≡ length graph
  pub bounds : (u : ℕ) → slice_index awaited u ≤ length graph
  pub came : (u v : ℕ) → v < slice_index awaited u → imports graph u v ≡ true → is_marked marks v ≡ true

-- no package is free, and one isn't marked
pub record IsBlocked (graph : Rows) (marks : List Bool) : Type 0 where
  pub none : (u : ℕ) → u < length graph → IsNotFree graph marks u
  pub left : (u : ℕ) × (u < length graph) × (is_marked marks u ≡ false)

-- ---- searching a cycle

-- from the last of a path nothing leads back to the start
abbrev pub IsDead : Rows → ℕ → List ℕ → ℕ → Type 0
IsDead graph start met u = (us : List ℕ) → LeadsBack graph start met u us → ⊥

-- what a search has marked is its path behind the start, and packages from which nothing leads back past the path
pub record IsSearched (graph : Rows) (start : ℕ) (path : List ℕ) (marks : List Bool) : Type 0 where
  pub on_path : (u : ℕ) → start < u → Contains path u → is_marked marks u ≡ true
  pub others : (u : ℕ) → is_marked marks u ≡ true → Contains path u ⊎ IsDead graph start (path ++ u ∷ []) u
