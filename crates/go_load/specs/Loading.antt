-- The module in a directory, as its files tell it.
use Rattle.std.specs.Prelude.{◌≡◌, ℕ, ◌<◌, ◌≤◌, All, Bool, List, [], ◌∷◌, length, map, take, filter_map, flat_map, Ok, Err, slice_get, IsPermutation}
use Rattle.std.specs.List.{list_any, slice_index_or, Contains}
use Rattle.std.specs.Ordering.{nat_cmp}
use Rattle.std.specs.declared.cmp.Ordering.TheVariants.{Less}
use Rattle.std.specs.Cmp.Lexicographic.{slice_cmp}
use Rattle.cov_outside.specs.Tree.{Tree}
use Rattle.go_ast.specs.declared.file.File.{File}
use Rattle.go_ast.specs.declared.«module».Package.{Package}
use Rattle.go_ast.specs.declared.«module».SourceFile.{SourceFile}
use Rattle.go_load.specs.Graph.{Rows, IsLeastCycle, IsLoadOrder}
use Rattle.go_load.specs.Homes.{HomeAt}
use Rattle.go_load.specs.Packages.{Packages, own_imports}
use Rattle.go_load.specs.Paths.{same}
use Rattle.go_load.specs.Readings.{Reading}
use Rattle.go_load.specs.Refusals.{Outcomes, Then}
use Rattle.go_load.specs.declared.contents.Found.{Found}
use Rattle.go_load.specs.declared.contents.Home.{Home}
use Rattle.go_load.specs.declared.contents.Source.{Source}
use Rattle.go_load.specs.declared.loaded.Loaded.{Loaded}
use Rattle.go_load.specs.declared.refusal.LoadKind.TheVariants as kinds
use Rattle.go_load.specs.declared.refusal.LoadRefusal.{LoadRefusal}
use Rattle.go_load.specs.declared.refusal.LoadRefusal.TheVariants as refusals

-- ---- the import graph

-- packages of which no two have one path
abbrev pub ArePathsApart : List Found → Type 0
ArePathsApart founds = (i j : ℕ) (d : Found) → i < j → j < length founds → (slice_index_or founds i d).path ≡ (slice_index_or founds j d).path → ⊥

-- packages whose paths rise, byte by byte
abbrev pub DoPathsRise : List Found → Type 0
DoPathsRise founds = (i j : ℕ) (d : Found) → i < j → j < length founds → slice_cmp nat_cmp (slice_index_or founds i d).path (slice_index_or founds j d).path ≡ Less

-- the packages in byte order of path
pub record AreSorted (founds sorted : List Found) : Type 0 where
  pub same : IsPermutation founds sorted
  pub rise : DoPathsRise sorted

-- which packages are among these paths
abbrev pub marks_of : List Found → List (List ℕ) → List Bool
marks_of sorted paths = map (λ q. list_any (same q.path) paths) sorted

-- which packages a package imports, and which packages import which
abbrev pub row_of : Home → List Found → Found → List Bool
row_of home sorted found = marks_of sorted (own_imports home found)

abbrev pub rows_of : Home → List Found → Rows
rows_of home sorted = map (row_of home sorted) sorted

-- the packages with these numbers
abbrev pub with_numbers : List Found → List ℕ → List Found
with_numbers sorted numbers = filter_map (slice_get sorted) numbers

-- numbers of which none comes again
abbrev pub ComeOnce : List ℕ → Type 0
ComeOnce numbers = (i d : ℕ) → i < length numbers → Contains (take i numbers) (slice_index_or numbers i d) → ⊥

-- ---- the module

abbrev pub file_of : Source → SourceFile
file_of source = record { name = source.name; tree = source.tree }

abbrev pub module_package : Found → Package
module_package found = record { path = found.path; dir = found.dir; name = found.name; files = map file_of found.sources }

-- the module of these packages, and the texts of their files
abbrev pub texts_of : Found → List (List ℕ)
texts_of found = map (λ s. s.text) found.sources

abbrev pub loaded_of : List ℕ → List Found → Loaded
loaded_of path founds = record { «module» = record { path = path; packages = map module_package founds }; texts = flat_map texts_of founds }

-- the module of some of these packages: of one at least, where there is one
abbrev pub IsMadeOf : List Found → List ℕ → Loaded → Type 0
IsMadeOf founds path loaded = (made : List Found) × All (Contains founds) made × (0 < length founds → 0 < length made) × (loaded ≡ loaded_of path made)

-- the reader gives this tree for some text that isn't too long
abbrev pub IsTreeRead : Reading → File → Type 0
IsTreeRead gives tree = (text : List ℕ) × (length text ≤ 4194304) × gives text (Ok tree)

-- What is loaded, whatever the files are: there is a package, each file has a tree that the reader gives, and no text is too long.
pub record AreRead (gives : Reading) (loaded : Loaded) : Type 0 where
  pub some : 0 < length loaded.«module».packages
  pub trees : All (λ (p : Package). All (λ (f : SourceFile). IsTreeRead gives f.tree) p.files) loaded.«module».packages
  pub short : All (λ (text : List ℕ). length text ≤ 4194304) loaded.texts

abbrev pub first_path : List (List ℕ) → List ℕ
first_path [] = []
first_path (path ∷ paths) = path

-- the refusal of a cycle of these paths
abbrev pub cyclic : List (List ℕ) → LoadRefusal
cyclic paths = refusals.Load (first_path paths) (kinds.Cycle paths)

-- packages come to a module in load order, or to the least cycle
abbrev pub FromPackages : Home → List Found → Outcomes Loaded
FromPackages home founds (Ok loaded) =
    (sorted : List Found) × (order : List ℕ) × AreSorted founds sorted × IsLoadOrder (rows_of home sorted) order × (loaded ≡ loaded_of home.path (with_numbers sorted order))
FromPackages home founds (Err e) =
    (sorted : List Found) × (cycle : List ℕ) × AreSorted founds sorted × IsLeastCycle (rows_of home sorted) cycle
    × (e ≡ cyclic (map (λ f. f.path) (with_numbers sorted cycle)))

-- What loading the module in a directory comes to: its `go.mod` is read, packages are found, and they are put into load order.
abbrev pub Loads : Reading → Tree → List ℕ → Outcomes Loaded
Loads gives t dir = Then (HomeAt t dir) (λ home. Then (Packages gives t home) (FromPackages home))
