-- A package is read.
use Rattle.std.proofs.Common.{◌≡◌, false, ◌==◌, List, ℕ, [], ◌∷◌, length, Option, Ok, ap, subst, ◌∙◌}
use Rattle.std.specs.Prelude.{IfSome, Result, filter}
use Rattle.cov_outside.specs.Tree.{Tree, names_in}
use Rattle.go_load.specs.Names.{is_source_name}
use Rattle.go_load.specs.Packages.{EachOf, FromNames, PackageAt, SourceIn, package_of}
use Rattle.go_load.specs.Paths.{dir_of}
use Rattle.go_load.specs.Readings.{Reading}
use Rattle.go_load.specs.Refusals.{Answers, Is}
use Rattle.go_load.specs.declared.contents.Found.{Found}
use Rattle.go_load.specs.declared.contents.Home.{Home}
use Rattle.go_load.specs.declared.contents.Source.{Source}
use Rattle.go_load.specs.declared.refusal.LoadRefusal.{LoadRefusal}
use Rattle.go_load.proofs.Steps.{some_both, then_answers}

from_names : (gives : Reading) (t : Tree) (home : Home) (path : List ℕ) (names : List (List ℕ)) (sources : List Source) (r : Result Found LoadRefusal) → (length names == 0) ≡ false
    → EachOf (SourceIn gives t (dir_of home.dir home.path path)) names (Ok sources) → Answers (λ f. f) r (Is (package_of home path sources)) → Answers (λ f. f) r (FromNames gives t home path names)
from_names gives t home path [] sources r some read told = cc
from_names gives t home path (name ∷ names) sources r some read told =
    then_answers r (EachOf (SourceIn gives t (dir_of home.dir home.path path)) (name ∷ names)) (λ s. Is (package_of home path s)) sources read told

-- its directory was listed, and its files were read
pub package_told : (gives : Reading) (home : Home) (path dir text : List ℕ) (o now : Option Tree) (listed names slice : List (List ℕ)) (sources : List Source) (r : Result Found LoadRefusal) → now ≡ o → dir ≡ dir_of home.dir home.path path → text ≡ dir
    → names ≡ filter is_source_name listed → slice ≡ names → (length names == 0) ≡ false → IfSome o (λ t. listed ≡ names_in text t) → IfSome now (λ t. EachOf (SourceIn gives t dir) slice (Ok sources))
    → Answers (λ f. f) r (Is (package_of home path sources)) → IfSome o (λ t. Answers (λ f. f) r (PackageAt gives t home path))
package_told gives home path dir text o now listed names slice sources r same dir_is text_is kept slice_is some list read told =
    some_both (λ t. listed ≡ names_in text t) (λ t. EachOf (SourceIn gives t dir) slice (Ok sources)) (λ t. Answers (λ f. f) r (PackageAt gives t home path)) o both list
    (subst (λ p. IfSome p (λ t. EachOf (SourceIn gives t dir) slice (Ok sources))) same read)
  where
    both : (t : Tree) → listed ≡ names_in text t → EachOf (SourceIn gives t dir) slice (Ok sources) → Answers (λ f. f) r (PackageAt gives t home path)
    both t l each =
        let d = dir_of home.dir home.path path in
        let there : slice ≡ filter is_source_name (names_in d t) = slice_is ∙ kept ∙ ap (filter is_source_name) (l ∙ ap (λ (x : List ℕ). names_in x t) (text_is ∙ dir_is)) in
        let nonempty : (length slice == 0) ≡ false = ap (λ (ns : List (List ℕ)). length ns == 0) slice_is ∙ some in
        let each' : EachOf (SourceIn gives t d) slice (Ok sources) = subst (λ (x : List ℕ). EachOf (SourceIn gives t x) slice (Ok sources)) dir_is each in
        subst (λ (ns : List (List ℕ)). Answers (λ f. f) r (FromNames gives t home path ns)) there (from_names gives t home path slice sources r nonempty each' told)
