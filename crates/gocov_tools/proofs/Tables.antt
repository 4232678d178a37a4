-- Tables of pods that are read in order.
use Rattle.std.proofs.Common.{◌≡◌, ℕ, ◌+◌, ◌<◌, ◌≤◌, List, [], ◌∷◌, ◌++◌, length, drop, get_or, Option, Result, Ok, Err, refl, sym, ap, subst, ◌∙◌}
use Rattle.std.specs.Prelude.{IfSome}
use Rattle.cov_bytes.specs.Many.{◌>>=◌, with_front}
use Rattle.cov_meta.specs.Each.{each}
use Rattle.cov_outside.specs.Tree.{Tree}
use Rattle.cov_pods.specs.declared.pod.Pod.{Pod}
use Rattle.cov_pods.specs.CountedPod.{CountedPod}
use Rattle.cov_table.specs.Coverage.{Coverage, empty, with_pod}
use Rattle.gocov_tools.specs.Command.{table_from}
use Rattle.gocov_tools.specs.Reading.{pod_in, pods_in, with_pods}
use Rattle.gocov_tools.specs.Refusals.{Refuses}
use Rattle.gocov_tools.specs.declared.reading.Reading.{Reading}
use Rattle.gocov_tools.specs.declared.refusal.Refusal.{Refusal}
use Rattle.gocov_tools.proofs.Each.{goes_on, ends, is_done, begins}
use Rattle.gocov_tools.proofs.Known.{some_also, some_both}
use Rattle.gocov_tools.proofs.Refusing.{further}

-- the pods before a place were read, and the others are still read
abbrev pub ReadUpTo : Reading → Reading → List CountedPod → List Pod → ℕ → Tree → Type 0
ReadUpTo start reading read pods i t = with_front read (each (pod_in t) (drop i pods) reading) ≡ each (pod_in t) pods start

pub none_read : (start : Reading) (pods : List Pod) (t : Tree) → ReadUpTo start start [] pods 0 t
none_read start pods t = begins (pod_in t) pods start

pub one_read : (start reading next : Reading) (before : List CountedPod) (read : CountedPod) (pods : List Pod) (i : ℕ) (pod : Pod) (t : Tree) → i < length pods → pod ≡ get_or pods i pod → ReadUpTo start reading before pods i t
    → pod_in t pod reading ≡ Ok (read, next) → ReadUpTo start next (before ++ read ∷ []) pods (i + 1) t
one_read start reading next before read pods i pod t lt is so_far h =
    goes_on (pod_in t) before pods i pod reading read next (each (pod_in t) pods start) lt (subst (λ (p : Pod). pod_in t p reading ≡ Ok (read, next)) is h) so_far

pub one_refused : (start reading : Reading) (before : List CountedPod) (pods : List Pod) (i : ℕ) (pod : Pod) (t : Tree) (e : Refusal) → i < length pods → pod ≡ get_or pods i pod → ReadUpTo start reading before pods i t
    → Refuses e (pod_in t pod reading) → Refuses e (pods_in t pods start)
one_refused start reading before pods i pod t e lt is so_far h =
    further e (pod_in t pod reading) (pods_in t pods start) (λ f r. ends (pod_in t) before pods i pod reading f (each (pod_in t) pods start) lt (subst (λ (p : Pod). pod_in t p reading ≡ Err f) is r) so_far) h

pub all_read : (start reading : Reading) (read : List CountedPod) (pods : List Pod) (i : ℕ) (t : Tree) → length pods ≤ i → ReadUpTo start reading read pods i t → pods_in t pods start ≡ Ok (read, reading)
all_read start reading read pods i t le so_far = is_done (pod_in t) read pods i reading (each (pod_in t) pods start) le so_far

-- ---- tables

with_one_more : (table : Coverage) (pods : List CountedPod) (pod : CountedPod) → with_pods table (pods ++ pod ∷ []) ≡ with_pod (with_pods table pods) pod
with_one_more table [] pod = refl
with_one_more table (p ∷ pods) pod = with_one_more (with_pod table p) pods pod

-- a table of the pods before a place
abbrev pub SoFar : Reading → Reading → Coverage → List Pod → ℕ → Tree → Type 0
SoFar start reading table pods i t = (read : List CountedPod) × ReadUpTo start reading read pods i t × (table ≡ with_pods empty read)

pub nothing_yet : (start : Reading) (table : Coverage) (pods : List Pod) (t : Tree) → table ≡ empty → SoFar start start table pods 0 t
nothing_yet start table pods t e = ([], none_read start pods t, e)

pub table_grows : (o now : Option Tree) (start reading next : Reading) (table later : Coverage) (read : CountedPod) (pods : List Pod) (i : ℕ) (pod : Pod) → now ≡ o → i < length pods → pod ≡ get_or pods i pod
    → later ≡ with_pod table read → IfSome o (SoFar start reading table pods i) → IfSome now (λ t. pod_in t pod reading ≡ Ok (read, next)) → IfSome o (SoFar start next later pods (i + 1))
table_grows o now start reading next table later read pods i pod same lt is adds so_far told =
    some_both _ _ _ o (λ t s h. (s.0 ++ read ∷ [], one_read start reading next s.0 read pods i pod t lt is s.1 h, adds ∙ ap (λ (c : Coverage). with_pod c read) s.2 ∙ sym (with_one_more empty s.0 read))) so_far
    (subst (λ (x : Option Tree). IfSome x (λ t. pod_in t pod reading ≡ Ok (read, next))) same told)

table_refused : (t : Tree) (pods : List Pod) (start : Reading) (e : Refusal) → Refuses e (pods_in t pods start) → Refuses e (table_from t pods start)
unfolding table_from
table_refused t pods start e h = further e (pods_in t pods start) _ (λ f is. rw is refl) h

pub table_ends : (o now : Option Tree) (start reading : Reading) (table : Coverage) (pods : List Pod) (i : ℕ) (pod : Pod) (e : Refusal) → now ≡ o → i < length pods → pod ≡ get_or pods i pod
    → IfSome o (SoFar start reading table pods i) → IfSome now (λ t. Refuses e (pod_in t pod reading)) → IfSome o (λ t. Refuses e (table_from t pods start))
table_ends o now start reading table pods i pod e same lt is so_far told =
    some_both _ _ _ o (λ t s h. table_refused t pods start e (one_refused start reading s.0 pods i pod t e lt is s.1 h)) so_far
    (subst (λ (x : Option Tree). IfSome x (λ t. Refuses e (pod_in t pod reading))) same told)

table_is : (t : Tree) (pods : List Pod) (start reading : Reading) (read : List CountedPod) → pods_in t pods start ≡ Ok (read, reading) → table_from t pods start ≡ Ok (with_pods empty read, reading)
unfolding table_from
table_is t pods start reading read h = rw h refl

pub table_done : (o : Option Tree) (start reading : Reading) (table : Coverage) (pods : List Pod) (i : ℕ) → length pods ≤ i → IfSome o (SoFar start reading table pods i) → IfSome o (λ t. table_from t pods start ≡ Ok (table, reading))
table_done o start reading table pods i le so_far =
    some_also _ _ o (λ t s. table_is t pods start reading s.0 (all_read start reading s.0 pods i t le s.1) ∙ ap (λ (c : Coverage). Ok (c, reading)) (sym s.2)) so_far

-- ---- all pods

pub pods_grow : (o now : Option Tree) (start reading next : Reading) (before later : List CountedPod) (read : CountedPod) (pods : List Pod) (i : ℕ) (pod : Pod) → now ≡ o → i < length pods → pod ≡ get_or pods i pod → later ≡ before ++ read ∷ []
    → IfSome o (ReadUpTo start reading before pods i) → IfSome now (λ t. pod_in t pod reading ≡ Ok (read, next)) → IfSome o (ReadUpTo start next later pods (i + 1))
pods_grow o now start reading next before later read pods i pod same lt is push so_far told =
    some_both _ _ _ o (λ t s h. subst (λ (ps : List CountedPod). ReadUpTo start next ps pods (i + 1) t) (sym push) (one_read start reading next before read pods i pod t lt is s h)) so_far
    (subst (λ (x : Option Tree). IfSome x (λ t. pod_in t pod reading ≡ Ok (read, next))) same told)

pub pods_end : (o now : Option Tree) (start reading : Reading) (before : List CountedPod) (pods : List Pod) (i : ℕ) (pod : Pod) (e : Refusal) → now ≡ o → i < length pods → pod ≡ get_or pods i pod
    → IfSome o (ReadUpTo start reading before pods i) → IfSome now (λ t. Refuses e (pod_in t pod reading)) → IfSome o (λ t. Refuses e (pods_in t pods start))
pods_end o now start reading before pods i pod e same lt is so_far told =
    some_both _ _ _ o (λ t s h. one_refused start reading before pods i pod t e lt is s h) so_far
    (subst (λ (x : Option Tree). IfSome x (λ t. Refuses e (pod_in t pod reading))) same told)

pub pods_done : (o : Option Tree) (start reading : Reading) (read : List CountedPod) (pods : List Pod) (i : ℕ) → length pods ≤ i → IfSome o (ReadUpTo start reading read pods i) → IfSome o (λ t. pods_in t pods start ≡ Ok (read, reading))
pods_done o start reading read pods i le so_far = some_also _ _ o (λ t s. all_read start reading read pods i t le s) so_far
