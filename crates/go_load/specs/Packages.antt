-- The packages of a module, as its files tell them.
use Rattle.std.specs.Prelude.{◌≡◌, ◌⊎◌, ℕ, ◌<◌, ◌≤◌, ◌&&◌, not, All, List, [], ◌∷◌, ◌++◌, length, map, take, filter, find, flat_map, Option, Some, None, Result, Ok, Err, slice_get, if◌then◌else◌, codes}
use Rattle.std.specs.List.{list_all, slice_index_or, AllZip}
use Rattle.std.specs.FinMap as finmap
use Rattle.std.specs.Str.{IsUtf8}
use Rattle.cov_outside.specs.Tree.{Tree, names_in}
use Rattle.cov_outside.specs.Whole.{whole_file}
use Rattle.cov_outside.specs.declared.limit.Which.TheVariants as limits
use Rattle.cov_outside.specs.declared.whole.WholeFault.{WholeFault}
use Rattle.cov_bytes.specs.Intern.{with_text}
use Rattle.go_ast.specs.Places.{place_at}
use Rattle.go_load.specs.Names.{is_source_name}
use Rattle.go_load.specs.Paths.{dir_of, is_known, is_own, same}
use Rattle.go_load.specs.Readings.{Reading}
use Rattle.go_load.specs.Refusals.{Outcomes, Is, Then, of_whole}
use Rattle.go_load.specs.declared.contents.Source.{Source}
use Rattle.go_load.specs.declared.contents.Found.{Found}
use Rattle.go_load.specs.declared.contents.Home.{Home}
use Rattle.go_load.specs.declared.reader.ReadFault.TheVariants as faults
use Rattle.go_load.specs.declared.refusal.LoadRefusal.{LoadRefusal}
use Rattle.go_load.specs.declared.refusal.LoadRefusal.TheVariants as refusals
use Rattle.go_load.specs.declared.refusal.LoadKind.{LoadKind}
use Rattle.go_load.specs.declared.refusal.LoadKind.TheVariants as kinds

-- ---- a file

abbrev pub path_in : List ℕ → List ℕ → List ℕ
path_in dir name = dir ++ 47 ∷ name

abbrev pub of_file : List ℕ → Result (List ℕ) WholeFault → Result (List ℕ) LoadRefusal
of_file path (Ok text) = Ok text
of_file path (Err fault) = Err (of_whole path fault)

-- the text of a source file or of `go.mod`
abbrev pub text_at : Tree → List ℕ → Result (List ℕ) LoadRefusal
text_at t path = of_file path (whole_file 4194304 (finmap.get t path))

-- what a text of a source file comes to
abbrev pub FromText : Reading → List ℕ → List ℕ → List ℕ → Outcomes Source
FromText gives path name text (Ok source) = gives text (Ok source.tree) × (source.name ≡ name) × (source.text ≡ text)
FromText gives path name text (Err (refusals.Load p kind)) = ⊥
FromText gives path name text (Err (refusals.Source p place kind)) = (offset : ℕ) × gives text (Err (faults.At offset kind)) × (p ≡ path) × (place ≡ place_at text offset)
FromText gives path name text (Err (refusals.Missing p)) = ⊥
FromText gives path name text (Err (refusals.Limit which)) = gives text (Err (faults.Limit which))
FromText gives path name text (Err refusals.Read) = ⊥
FromText gives path name text (Err refusals.NoMemory) = ⊥

-- what a source file comes to: it is read, and then its text
abbrev pub SourceIn : Reading → Tree → List ℕ → List ℕ → Outcomes Source
SourceIn gives t dir name = Then (Is (text_at t (path_in dir name))) (FromText gives (path_in dir name) name)

-- the reader gives the tree of a source file for its text, which isn't too long
abbrev pub IsOf : Reading → Source → Type 0
IsOf gives source = gives source.text (Ok source.tree) × (length source.text ≤ 4194304)

-- ---- a package

-- what all come to, one after the other, up to the first that is refused
abbrev pub EachOf : {A B : Type 0} → (A → Outcomes B) → List A → Outcomes (List B)
EachOf step xs (Ok ys) = AllZip (λ x y. step x (Ok y)) xs ys
EachOf {A} {B} step xs (Err e) = (k : ℕ) × (x : A) × (ys : List B) × (slice_get xs k ≡ Some x) × AllZip (λ x y. step x (Ok y)) (take k xs) ys × step x (Err e)

-- the name that the first file gives its package
abbrev pub package_name : List Source → List ℕ
package_name [] = []
package_name (s ∷ ss) = s.tree.«package».text

-- the paths that are imported, in order of file, then offset
abbrev pub imports_of : List Source → List (List ℕ)
imports_of sources = flat_map (λ s. map (λ i. i.path) s.tree.imports) sources

abbrev pub refused : List ℕ → LoadKind → LoadRefusal
refused path kind = refusals.Load path kind

abbrev pub unknown_import : Option (List ℕ) → Option LoadRefusal
unknown_import None = None
unknown_import (Some path) = Some (refused path kinds.UnknownImport)

-- What is wrong with a package of these files: they don't all name it alike; that of the module's directory isn't `main`, or
-- another is; or it imports what there may not be.
abbrev pub flaw_of : Home → List ℕ → List ℕ → List Source → Option LoadRefusal
flaw_of home dir path sources =
    let name = package_name sources in
    if not (list_all (λ s. same s.tree.«package».text name) sources) then Some (refused dir kinds.TwoPackages)
    else if same path home.path && not (same name (codes "main")) then Some (refused dir kinds.NoMain)
    else if not (same path home.path) && same name (codes "main") then Some (refused path kinds.ImportsMain)
    else unknown_import (find (λ p. not (is_known home.path p)) (imports_of sources))

abbrev pub or_found : Option LoadRefusal → Found → Result Found LoadRefusal
or_found None found = Ok found
or_found (Some flaw) found = Err flaw

-- the package of these files, or what is wrong with it
abbrev pub package_of : Home → List ℕ → List Source → Result Found LoadRefusal
package_of home path sources =
    let dir = dir_of home.dir home.path path in
    or_found (flaw_of home dir path sources) (record { path = path; dir = dir; name = package_name sources; sources = sources })

-- the path of a package that there may be: its directory is UTF-8
pub record IsPackagePath (home : Home) (path : List ℕ) : Type 0 where
  pub long : length home.path ≤ length path
  pub utf8 : IsUtf8 (dir_of home.dir home.path path)

abbrev pub FromNames : Reading → Tree → Home → List ℕ → List (List ℕ) → Outcomes Found
FromNames gives t home path [] = Is (Err (refusals.Load (dir_of home.dir home.path path) kinds.NoSource))
FromNames gives t home path (name ∷ names) =
    Then (EachOf (SourceIn gives t (dir_of home.dir home.path path)) (name ∷ names)) (λ sources. Is (package_of home path sources))

-- what a package comes to: its directory is listed, then its files are read in order of name
abbrev pub PackageAt : Reading → Tree → Home → List ℕ → Outcomes Found
PackageAt gives t home path = FromNames gives t home path (filter is_source_name (names_in (dir_of home.dir home.path path) t))

-- all files of a package are as the reader gives them
abbrev pub IsPackageRead : Reading → Found → Type 0
IsPackageRead gives found = All (IsOf gives) found.sources

-- ---- all packages

-- the packages of the module that a package imports
abbrev pub own_imports : Home → Found → List (List ℕ)
own_imports home found = filter (is_own home.path) (imports_of found.sources)

abbrev pub with_texts : List (List ℕ) → List (List ℕ) → List (List ℕ)
with_texts texts [] = texts
with_texts texts (p ∷ ps) = with_texts (with_text texts p) ps

-- the paths met, each once: that of the module, and what these packages import, in order
abbrev pub met : Home → List Found → List (List ℕ)
met home founds = with_texts (home.path ∷ []) (flat_map (own_imports home) founds)

-- Each of these packages is the first that those before it have met and that isn't among them, as its files tell it.
abbrev pub AreFound : Reading → Tree → Home → List Found → Type 0
AreFound gives t home founds = (k : ℕ) (d : Found) → k < length founds
    → (path : List ℕ) × (slice_get (met home (take k founds)) k ≡ Some path) × PackageAt gives t home path (Ok (slice_index_or founds k d))

-- a package that is met after others: there may be 1,000 of them
abbrev pub RefusedBehind : Reading → Tree → Home → ℕ → List ℕ → LoadRefusal → Type 0
RefusedBehind gives t home n path e = ((n ≡ 1000) × (e ≡ refusals.Limit limits.Packages)) ⊎ ((n < 1000) × PackageAt gives t home path (Err e))

-- what the packages of a module come to
abbrev pub Packages : Reading → Tree → Home → Outcomes (List Found)
Packages gives t home (Ok founds) = AreFound gives t home founds × (slice_get (met home founds) (length founds) ≡ None) × (length founds ≤ 1000)
Packages gives t home (Err e) = (founds : List Found) × (path : List ℕ) × AreFound gives t home founds × (slice_get (met home founds) (length founds) ≡ Some path) × RefusedBehind gives t home (length founds) path e

-- the next of the paths met, behind n packages
abbrev pub NextOf : Reading → Tree → Home → List (List ℕ) → ℕ → Outcomes (Option Found)
NextOf gives t home paths n (Ok None) = slice_get paths n ≡ None
NextOf gives t home paths n (Ok (Some found)) = (path : List ℕ) × (slice_get paths n ≡ Some path) × PackageAt gives t home path (Ok found)
NextOf gives t home paths n (Err e) = (path : List ℕ) × (slice_get paths n ≡ Some path) × RefusedBehind gives t home n path e
