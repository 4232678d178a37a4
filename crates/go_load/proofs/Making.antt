-- Modules made of packages that were read.
use Rattle.std.proofs.Common.{◌≡◌, ℕ, zero, suc, ◌<◌, ◌≤◌, inl, inr, All, List, [], ◌∷◌, length, get_or, Option, Some, None, Ok, refl, sym, subst, arith}
use Rattle.std.specs.Prelude.{IfOk, Result, slice_get, IsPermutation}
use Rattle.std.specs.List.{Contains, cons_option, flat_map}
use Rattle.std.proofs.lemmas.List.{length-map}
use Rattle.std.proofs.lemmas.List.Concat.{flat_map-cons}
use Rattle.std.proofs.lemmas.List.Elements.{All-nil, All-cons, All-head, All-tail, All-append, All-get_or, All-map, All-weaker, All-contains, All-contains_itself}
use Rattle.std.proofs.lemmas.List.Sorted.{All-permutation, length_permutation}
use Rattle.std.proofs.lemmas.Option.{get_or_from_slice_get, slice_get_cases, slice_get_within}
use Rattle.std.proofs.lemmas.Result.{IfOk-weaker}
use Rattle.go_ast.specs.declared.file.File.{File}
use Rattle.go_ast.specs.declared.«module».Package.{Package}
use Rattle.go_ast.specs.declared.«module».SourceFile.{SourceFile}
use Rattle.go_load.specs.Graph.{IsLoadOrder, Rows}
use Rattle.go_load.specs.Loading.{AreRead, IsMadeOf, IsTreeRead, file_of, loaded_of, module_package, texts_of, with_numbers}
use Rattle.go_load.specs.Packages.{IsOf, IsPackageRead, met}
use Rattle.go_load.specs.Readings.{Reading}
use Rattle.go_load.specs.declared.contents.Found.{Found}
use Rattle.go_load.specs.declared.contents.Home.{Home}
use Rattle.go_load.specs.declared.contents.Source.{Source}
use Rattle.go_load.specs.declared.loaded.Loaded.{Loaded}
use Rattle.go_load.specs.declared.refusal.LoadRefusal.{LoadRefusal}

-- the path met first is there to be read
pub one_found : (home : Home) (founds : List Found) (paths : List (List ℕ)) → paths ≡ met home founds → length paths ≤ length founds → 0 < length founds
one_found home [] paths is all = let one : length (met home []) ≤ 0 = subst (λ ps. length ps ≤ 0) is all in absurd (omega (arith, one))
one_found home (found ∷ founds) paths is all = omega arith

-- ---- the packages with these numbers

all_kept : {X : Type 0} (P : X → Type 0) (o : Option X) (ys : List X) → ((x : X) → o ≡ Some x → P x) → All P ys → All P (cons_option o ys)
all_kept P None ys this all = all
all_kept P (Some x) ys this all = All-cons P x ys (this x refl) all

all_numbered : (P : Found → Type 0) (sorted : List Found) (numbers : List ℕ) → All P sorted → All P (with_numbers sorted numbers)
all_numbered P sorted [] all = All-nil P
all_numbered P sorted (n ∷ ns) all =
    all_kept P (slice_get sorted n) (with_numbers sorted ns) (λ x there. subst P (get_or_from_slice_get sorted n x x there) (All-get_or P sorted n x (slice_get_within sorted n x there) all))
    (all_numbered P sorted ns all)

one_kept : {X : Type 0} (o : Option X) (ys : List X) → 0 < length ys → 0 < length (cons_option o ys)
one_kept None ys some = some
one_kept (Some x) ys some = omega arith

one_numbered : (sorted : List Found) (numbers : List ℕ) (k u : ℕ) → k < length numbers → get_or numbers k u ≡ u → u < length sorted → 0 < length (with_numbers sorted numbers)
one_numbered sorted [] k u lt is within = absurd (omega (arith, lt))
one_numbered sorted (n ∷ ns) zero u lt is within =
    elim (slice_get_cases sorted n).1 [
      | inl there ↦ subst (λ o. 0 < length (cons_option o (with_numbers sorted ns))) (sym there.2) (omega arith)
      | inr past ↦ absurd (omega (arith, past.0, is, within))
    ]
one_numbered sorted (n ∷ ns) (suc k) u lt is within = one_kept (slice_get sorted n) (with_numbers sorted ns) (one_numbered sorted ns k u (omega (arith, lt)) is within)

-- the module in load order is made of the packages
pub made_in_order : (founds sorted : List Found) (graph : Rows) (order path : List ℕ) (loaded : Loaded) → IsPermutation founds sorted → length graph ≡ length sorted → IsLoadOrder graph order
    → loaded ≡ loaded_of path (with_numbers sorted order) → IsMadeOf founds path loaded
made_in_order founds sorted graph order path loaded same many is this = (
  with_numbers sorted order,
  all_numbered (Contains founds) sorted order (All-permutation (Contains founds) founds sorted same (All-contains_itself founds)),
  (λ some.
      let as_many = length_permutation founds sorted same in
      let first = is.complete 0 (omega (arith, as_many, many, some)) in
      one_numbered sorted order first.0 0 first.1 first.2 (omega (arith, as_many, some))),
  this,
)

-- ---- what was read

all_flat : {X Y : Type 0} (P : Y → Type 0) (f : X → List Y) (xs : List X) → All (λ x. All P (f x)) xs → All P (flat_map f xs)
all_flat P f [] all = All-nil P
all_flat {X} {Y} P f (x ∷ xs) all =
    let Q : X → Type 0 = λ y. All P (f y) in
    subst (All P) (sym (flat_map-cons f x xs)) (All-append P (f x) (flat_map f xs) (All-head Q x xs all) (all_flat P f xs (All-tail Q x xs all)))

-- the trees of a package
package_trees : (gives : Reading) (found : Found) → IsPackageRead gives found → All (λ (f : SourceFile). IsTreeRead gives f.tree) (module_package found).files
package_trees gives found is =
    All-map (λ (f : SourceFile). IsTreeRead gives f.tree) file_of found.sources
    (All-weaker (IsOf gives) (λ (s : Source). IsTreeRead gives s.tree) (λ s of. (s.text, of.1, of.0)) found.sources is)

package_texts : (gives : Reading) (found : Found) → IsPackageRead gives found → All (λ (text : List ℕ). length text ≤ 4194304) (texts_of found)
package_texts gives found is =
    All-map (λ (text : List ℕ). length text ≤ 4194304) (λ (s : Source). s.text) found.sources (All-weaker (IsOf gives) (λ (s : Source). length s.text ≤ 4194304) (λ s of. of.1) found.sources is)

-- a module made of packages that were read
made_read : (gives : Reading) (founds : List Found) (path : List ℕ) (loaded : Loaded) → All (IsPackageRead gives) founds → 0 < length founds → IsMadeOf founds path loaded → AreRead gives loaded
made_read gives founds path loaded read some made =
    let Trees : Package → Type 0 = λ p. All (λ (f : SourceFile). IsTreeRead gives f.tree) p.files in
    let all : All (IsPackageRead gives) made.0 = All-weaker (Contains founds) (IsPackageRead gives) (λ found there. All-contains (IsPackageRead gives) founds found read there) made.0 made.1 in
    subst (AreRead gives) (sym made.3) (record {
      some = subst (λ n. 0 < n) (sym (length-map made.0 module_package)) (made.2 some);
      trees = All-map Trees module_package made.0 (All-weaker (IsPackageRead gives) (λ (found : Found). Trees (module_package found)) (package_trees gives) made.0 all);
      short = all_flat (λ (text : List ℕ). length text ≤ 4194304) texts_of made.0 (All-weaker (IsPackageRead gives) (λ (found : Found). All (λ (text : List ℕ). length text ≤ 4194304) (texts_of found)) (package_texts gives) made.0 all);
    })

pub outcome_read : (gives : Reading) (founds : List Found) (path : List ℕ) (r : Result Loaded LoadRefusal) → All (IsPackageRead gives) founds → 0 < length founds → IfOk r (IsMadeOf founds path) → IfOk r (AreRead gives)
outcome_read gives founds path r read some made = IfOk-weaker r (IsMadeOf founds path) (AreRead gives) (λ loaded is. made_read gives founds path loaded read some is) made

-- ---- another reading

read_also : (gives other : Reading) → ((text : List ℕ) (tree : File) → gives text (Ok tree) → other text (Ok tree)) → (loaded : Loaded) → AreRead gives loaded → AreRead other loaded
read_also gives other implies loaded read =
    let Trees : Reading → Package → Type 0 = λ reads p. All (λ (f : SourceFile). IsTreeRead reads f.tree) p.files in
    record {
      some = read.some;
      trees = All-weaker (Trees gives) (Trees other)
          (λ p trees. All-weaker (λ (f : SourceFile). IsTreeRead gives f.tree) (λ (f : SourceFile). IsTreeRead other f.tree) (λ f is. (is.0, is.1, implies is.0 f.tree is.2)) p.files trees)
          loaded.«module».packages read.trees;
      short = read.short;
    }

pub outcome_read_also : (gives other : Reading) → ((text : List ℕ) (tree : File) → gives text (Ok tree) → other text (Ok tree)) → (r : Result Loaded LoadRefusal) → IfOk r (AreRead gives) → IfOk r (AreRead other)
outcome_read_also gives other implies r read = IfOk-weaker r (AreRead gives) (AreRead other) (read_also gives other implies) read
