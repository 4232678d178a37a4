-- What searches of a cycle find.
use Rattle.std.specs.Prelude.{◌≡◌, ℕ, Bool, true, false, List, [], ◌∷◌, ◌++◌}
use Rattle.go_load.specs.Graph.{Rows, LeadsBack, IsUpTo}
use Rattle.go_load.specs.Marks.{IsDead, IsSearched}

-- of the lists that lead back from a package, this is the least
pub record LeadsFirst (graph : Rows) (start : ℕ) (met : List ℕ) (u : ℕ) (us : List ℕ) : Type 0 where
  pub leads : LeadsBack graph start met u us
  pub least : (vs : List ℕ) → LeadsBack graph start met u vs → IsUpTo us vs

-- A search from the last of a path: the path went on to the start in the least way, or it is as before and there is no way.
abbrev pub Finds : Rows → ℕ → ℕ → List ℕ → Bool → List ℕ → List Bool → Type 0
Finds graph start u path true path' marks' = (us : List ℕ) × (path' ≡ path ++ us) × LeadsFirst graph start path u us
Finds graph start u path false path' marks' = (path' ≡ path) × IsDead graph start path u × IsSearched graph start path marks'

-- the least of the cycles that start at a package
abbrev pub IsFrom : Rows → ℕ → List ℕ → Type 0
IsFrom graph start cycle = (us : List ℕ) × (cycle ≡ start ∷ us) × LeadsFirst graph start (start ∷ []) start us
