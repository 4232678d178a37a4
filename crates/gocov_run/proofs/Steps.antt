-- Steps that may be refused, one after the other.
use Rattle.std.proofs.Common.{◌≡◌, inl, inr, List, ℕ, Option, Some, None, Ok, Err, sym, ap, subst}
use Rattle.std.specs.Prelude.{IfSome, Result}
use Rattle.cov_outside.specs.Tree.{Tree}
use Rattle.go_load.specs.Loading.{Loads}
use Rattle.go_load.specs.Refusals.{Outcomes, Is, Then, Refuses, Answers}
use Rattle.go_load.specs.Sources.{ReadsSources}
use Rattle.go_load.specs.declared.loaded.Loaded.{Loaded}
use Rattle.go_load.specs.declared.refusal.LoadRefusal.{LoadRefusal}
use Rattle.go_load.specs.declared.refusal.LoadRefusal.TheVariants as refusals
use Rattle.go_meaning.specs.Programs.{Parts}
use Rattle.go_packages.specs.Modules.{ModuleFault, accepted}
use Rattle.gocov_run.specs.Faults.{checked, or_refusal, refusal_of}
use Rattle.gocov_run.specs.Running.{IsSerialRun, RunsLoaded, RunsProgram, RunsSerially}
use Rattle.gocov_run.specs.Units.{within_units}
use Rattle.gocov_run.specs.declared.ran.Ran.{Ran}

-- a refusal of what is refused elsewhere
pub refuses_also : {A B : Type 0} (e : LoadRefusal) (there : Outcomes A) (other : Outcomes B) → (there (Err e) → other (Err e)) → Refuses e there → Refuses e other
refuses_also (refusals.Load path kind) there other f h = f h
refuses_also (refusals.Source path place kind) there other f h = f h
refuses_also (refusals.Missing path) there other f h = f h
refuses_also (refusals.Limit which) there other f h = f h
refuses_also refusals.Read there other f h = tt
refuses_also refusals.NoMemory there other f h = tt

-- the first step is refused
pub first_refused : {A B : Type 0} (e : LoadRefusal) (first : Outcomes A) (next : A → Outcomes B) → Refuses e first → Refuses e (Then first next)
first_refused e first next h = refuses_also e first (Then first next) (λ r. inl r) h

-- the second step answers
pub then_answers : {A B : Type 0} (r : Result B LoadRefusal) (first : Outcomes A) (next : A → Outcomes B) (x : A) → first (Ok x) → Answers (λ y. y) r (next x) → Answers (λ y. y) r (Then first next)
then_answers (Ok y) first next x p h = (x, p, h)
then_answers (Err e) first next x p h = refuses_also e (next x) (Then first next) (λ r. inr (x, p, r)) h

-- ---- over a tree that may not be told

some_also : {T : Type 0} (P Q : T → Type 0) (o : Option T) → ((t : T) → P t → Q t) → IfSome o P → IfSome o Q
some_also P Q None f p = tt
some_also P Q (Some t) f p = f t p

-- the module isn't loaded
pub loading_refused : (o : Option Tree) (dir : List ℕ) (limit : ℕ) (e : LoadRefusal) → IfSome o (λ t. Refuses e (Loads ReadsSources t dir)) → IfSome o (λ t. Refuses e (RunsSerially t dir limit))
loading_refused o dir limit e h =
    some_also (λ t. Refuses e (Loads ReadsSources t dir)) (λ t. Refuses e (RunsSerially t dir limit)) o
    (λ t r. first_refused e (Loads ReadsSources t dir) (RunsLoaded limit) r) h

-- it is, and runs or is refused
pub loaded_answers : (o : Option Tree) (dir : List ℕ) (limit : ℕ) (l : Loaded) (r : Result Ran LoadRefusal) → IfSome o (λ t. Loads ReadsSources t dir (Ok l)) → Answers (λ y. y) r (RunsLoaded limit l)
    → IfSome o (λ t. Answers (λ y. y) r (RunsSerially t dir limit))
loaded_answers o dir limit l r h answers =
    some_also (λ t. Loads ReadsSources t dir (Ok l)) (λ t. Answers (λ y. y) r (RunsSerially t dir limit)) o
    (λ t p. then_answers r (Loads ReadsSources t dir) (RunsLoaded limit) l p answers) h

-- ---- a module that was loaded

-- it is accepted, or this is its fault
pub checked_program : (l : Loaded) (P : Parts) → accepted l.«module» ≡ Ok P → Ok P ≡ checked l
checked_program l P h = sym (ap (or_refusal l) h)

pub checked_fault : (l : Loaded) (fault : ModuleFault) (e : LoadRefusal) → accepted l.«module» ≡ Err fault → e ≡ refusal_of l fault → Refuses e (Is (checked l))
checked_fault l fault e h is =
    let F : LoadRefusal → Type 0 = λ r. Refuses r (Is (checked l)) in
    subst F (sym is) (sym (ap (or_refusal l) h))

-- it isn't accepted
pub checking_refused : (limit : ℕ) (l : Loaded) (e : LoadRefusal) → Refuses e (Is (checked l)) → Refuses e (RunsLoaded limit l)
checking_refused limit l e h = first_refused e (Is (checked l)) (λ P. Then (Is (within_units l.«module»)) (λ units. RunsProgram limit P)) h

-- it has too many units
pub units_refused : (limit : ℕ) (l : Loaded) (P : Parts) (e : LoadRefusal) → Ok P ≡ checked l → Refuses e (Is (within_units l.«module»)) → Refuses e (RunsLoaded limit l)
units_refused limit l P e accepts h =
    then_answers (Err e) (Is (checked l)) (λ Q. Then (Is (within_units l.«module»)) (λ units. RunsProgram limit Q)) P accepts (first_refused e (Is (within_units l.«module»)) (λ units. RunsProgram limit P) h)

-- its program runs
pub program_runs : (limit : ℕ) (l : Loaded) (P : Parts) (units : ℕ) (ran : Ran) → Ok P ≡ checked l → Ok units ≡ within_units l.«module» → IsSerialRun P limit ran → RunsLoaded limit l (Ok ran)
program_runs limit l P units ran accepts few runs = (P, accepts, (units, few, runs))

-- what is accepted once checked is accepted
pub program_accepted : (l : Loaded) (P : Parts) → Ok P ≡ checked l → accepted l.«module» ≡ Ok P
program_accepted l P h = by_cases (accepted l.«module») h
  where
    by_cases : (r : Result Parts ModuleFault) → Ok P ≡ or_refusal l r → r ≡ Ok P
    by_cases (Ok Q) e = cc
    by_cases (Err fault) e = cc
