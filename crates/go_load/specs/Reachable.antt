-- The packages that the module's directory leads to.
use Rattle.std.specs.Prelude.{◌≡◌, ℕ, List, Ok}
use Rattle.std.specs.List.{Contains}
use Rattle.cov_outside.specs.Tree.{Tree}
use Rattle.go_load.specs.Packages.{PackageAt, own_imports}
use Rattle.go_load.specs.Readings.{Reading}
use Rattle.go_load.specs.declared.contents.Found.{Found}
use Rattle.go_load.specs.declared.contents.Home.{Home}

-- Imports lead to this path: it is the module's, or a package that they lead to imports it.
pub data IsReached (gives : Reading) (t : Tree) (home : Home) : List ℕ → Type 0 where
  first : IsReached gives t home home.path
  imported : (path other : List ℕ) (found : Found) → IsReached gives t home path → PackageAt gives t home path (Ok found) → Contains (own_imports home found) other → IsReached gives t home other

-- the packages are those that imports lead to
pub record AreReached (gives : Reading) (t : Tree) (home : Home) (founds : List Found) : Type 0 where
  pub reached : (found : Found) → Contains founds found → IsReached gives t home found.path
  pub complete : (path : List ℕ) → IsReached gives t home path → (found : Found) × Contains founds found × (found.path ≡ path)
