-- A module, loaded step by step.
use Rattle.std.proofs.Common.{◌≡◌, ℕ, zero, suc, ◌<◌, List, [], ◌∷◌, ◌++◌, length, take, get_or, Option, Ok, Err, sym, subst, arith}
use Rattle.std.specs.Prelude.{IfSome, Result}
use Rattle.std.specs.List.{Contains}
use Rattle.std.proofs.lemmas.List.{append_assoc, append-nil}
use Rattle.cov_outside.specs.Tree.{Tree}
use Rattle.go_load.specs.Graph.{ComeAfter, IsLoadOrder, Rows}
use Rattle.go_load.specs.Homes.{HomeAt}
use Rattle.go_load.specs.Loading.{ArePathsApart, ComeOnce, FromPackages, Loads}
use Rattle.go_load.specs.Packages.{Packages}
use Rattle.go_load.specs.Readings.{Reading}
use Rattle.go_load.specs.Refusals.{Answers, Refuses, Then}
use Rattle.go_load.specs.declared.contents.Found.{Found}
use Rattle.go_load.specs.declared.contents.Home.{Home}
use Rattle.go_load.specs.declared.loaded.Loaded.{Loaded}
use Rattle.go_load.specs.declared.refusal.LoadRefusal.{LoadRefusal}
use Rattle.go_load.proofs.Meeting.{paths_apart}
use Rattle.go_load.proofs.Steps.{first_refused, some_both, then_answers}

-- ---- a load order has no package twice

new_after : (graph : Rows) (come us : List ℕ) (i d : ℕ) → ComeAfter graph come us → i < length us → Contains (come ++ take i us) (get_or us i d) → ⊥
new_after graph come [] i d after lt there = absurd (omega (arith, lt))
new_after graph come (u ∷ us) zero d after lt there = after.0.is_new (subst (λ ns. Contains ns u) (append-nil come) there)
new_after graph come (u ∷ us) (suc i) d after lt there =
    new_after graph (come ++ u ∷ []) us i d after.2 (omega (arith, lt)) (subst (λ ns. Contains ns (get_or us i d)) (sym (append_assoc come (u ∷ []) (take i us))) there)

pub order_once : (graph : Rows) (order : List ℕ) → IsLoadOrder graph order → ComeOnce order
order_once graph order is i d lt there = new_after graph [] order i d is.comes lt there

-- ---- step by step, over a tree that may not be told

pub founds_refused : (gives : Reading) (o now : Option Tree) (dir : List ℕ) (home : Home) (e : LoadRefusal) → now ≡ o
    → IfSome o (λ t. HomeAt t dir (Ok home)) → IfSome now (λ t. Refuses e (Packages gives t home)) → IfSome o (λ t. Refuses e (Loads gives t dir))
founds_refused gives o now dir home e same at refused =
    some_both (λ t. HomeAt t dir (Ok home)) (λ t. Refuses e (Packages gives t home)) (λ t. Refuses e (Loads gives t dir)) o
    (λ t h r. then_answers (Err e) (HomeAt t dir) (λ x. Then (Packages gives t x) (FromPackages x)) home h (first_refused e (Packages gives t home) (FromPackages home) r))
    at (subst (λ p. IfSome p (λ t. Refuses e (Packages gives t home))) same refused)

pub all_answered : (gives : Reading) (o now : Option Tree) (dir : List ℕ) (home : Home) (founds : List Found) (r : Result Loaded LoadRefusal) → now ≡ o
    → IfSome o (λ t. HomeAt t dir (Ok home)) → IfSome now (λ t. Packages gives t home (Ok founds)) → (ArePathsApart founds → Answers (λ l. l) r (FromPackages home founds))
    → IfSome o (λ t. Answers (λ l. l) r (Loads gives t dir))
all_answered gives o now dir home founds r same at found from =
    some_both (λ t. HomeAt t dir (Ok home)) (λ t. Packages gives t home (Ok founds)) (λ t. Answers (λ l. l) r (Loads gives t dir)) o
    (λ t h p. then_answers r (HomeAt t dir) (λ x. Then (Packages gives t x) (FromPackages x)) home h (then_answers r (Packages gives t home) (FromPackages home) founds p (from (paths_apart gives t home founds p.0))))
    at (subst (λ p. IfSome p (λ t. Packages gives t home (Ok founds))) same found)
