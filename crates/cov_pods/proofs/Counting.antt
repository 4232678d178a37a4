-- What an entry adds to the counts of a pod.
use Rattle.std.proofs.Common.{◌≡◌, ◌≢◌, ℕ, ◌+◌, ◌<◌, Bool, true, false, eqb, List, [], ◌∷◌, ◌++◌, map, length, get_or, set, take, Option, Some, None, Result, Ok, Err, refl, sym, ap, ◌∙◌, subst, arith, min, replicate, cond}
use Rattle.std.specs.Prelude.{slice_get, slice_index, sum_by, ◌&&◌, if◌then◌else◌}
use Rattle.std.specs.List.{enumerate_from, range_with_len}
use Rattle.std.proofs.lemmas.Option.{get_or_from_slice_get, slice_get_within}
use Rattle.std.proofs.lemmas.List.{set-set, map_more}
use Rattle.std.proofs.lemmas.Bool.{eqb-true, eq-eqb, ne_eqb}
use Rattle.std.proofs.lemmas.List.FromFn.{fill_by_all, length-map-range_with_len, get_or-map-range_with_len}
use Rattle.std.proofs.lemmas.List.Sums.{sum_by_push}
use Rattle.cov_bytes.specs.Many.{◌>>=◌}
use Rattle.cov_outside.specs.Mode.{greatest, combined}
use Rattle.cov_outside.specs.declared.mode.Mode.{Mode}
use Rattle.cov_meta.specs.declared.meta.Meta.{Meta}
use Rattle.cov_meta.specs.declared.meta.MetaPackage.{MetaPackage}
use Rattle.cov_meta.specs.declared.meta.MetaFunction.{MetaFunction}
use Rattle.cov_counter.specs.declared.entry.Entry.{Entry}
use Rattle.cov_pods.specs.Fits.{fits, found_or}
use Rattle.cov_pods.specs.PodCounts.{counter_of, unit_count, function_counts, package_counts, pod_counts}
use Rattle.cov_pods.proofs.Made.{map_made, map_same, map_alone, map_constant, set_made, made_at}

-- ---- no entries

least_is_zero : (n : ℕ) → min 0 n ≡ 0
least_is_zero n = omega arith

no_function : (mode : Mode) (place i : ℕ) (f : MetaFunction) → function_counts mode [] place (i, f) ≡ replicate (length f.units) 0
unfolding function_counts
no_function mode place i f = map_constant (unit_count mode [] place i) 0 (λ u. least_is_zero (greatest mode)) 0 (length f.units)

no_package : (mode : Mode) (i : ℕ) (p : MetaPackage) → package_counts mode [] (i, p) ≡ map (λ f. replicate (length f.units) 0) p.functions
unfolding package_counts
no_package mode i p = map_alone (function_counts mode [] i) (λ (f : MetaFunction). replicate (length f.units) 0) (no_function mode i) 0 p.functions

pub no_entries : (meta : Meta) → pod_counts meta [] ≡ map (λ p. map (λ f. replicate (length f.units) 0) p.functions) meta.packages
unfolding pod_counts
no_entries meta = map_alone (package_counts meta.mode []) (λ (p : MetaPackage). map (λ (f : MetaFunction). replicate (length f.units) 0) p.functions) (no_package meta.mode) 0 meta.packages

abbrev pub zeros_in : MetaPackage → List (List ℕ)
zeros_in p = map (λ f. replicate (length f.units) 0) p.functions

-- one more package
pub zeros_more : (items ps : List MetaPackage) (i : ℕ) (p : MetaPackage) (before now : List (List (List ℕ))) (zeros : List (List ℕ)) → items ≡ ps → i < length items → p ≡ get_or items i p
    → before ≡ map zeros_in (take i ps) → zeros ≡ zeros_in p → now ≡ before ++ zeros ∷ [] → now ≡ map zeros_in (take (i + 1) ps)
zeros_more items ps i p before now zeros same lt is so_far zeros_are push =
    let within : i < length ps = subst (λ (xs : List MetaPackage). i < length xs) same lt in
    let here : p ≡ get_or ps i p = is ∙ ap (λ (xs : List MetaPackage). get_or xs i p) same in
    let more = map_more zeros_in ps i p within in
    let z : zeros ≡ zeros_in (get_or ps i p) = zeros_are ∙ ap zeros_in here in
    push ∙ ap (λ (b : List (List (List ℕ))). b ++ zeros ∷ []) so_far ∙ ap (λ (x : List (List ℕ)). map zeros_in (take i ps) ++ x ∷ []) z ∙ sym more

-- ---- where an entry counts

-- the package and the function of an entry that fits
pub record Place (meta : Meta) (e : Entry) : Type 0 where
  pub inside : MetaPackage
  pub function : MetaFunction
  pub inside_is : slice_get meta.packages e.«package» ≡ Some inside
  pub function_is : slice_get inside.functions e.function ≡ Some function
  pub units_are : length e.counts ≡ length function.units

found_is : {A E : Type 0} {B : Type 0} (o : Option A) (fault : E) (f : A → Result B E) (y : B) → (found_or o fault >>= f) ≡ Ok y → (x : A) × (o ≡ Some x) × (f x ≡ Ok y)
found_is None fault f y e = absurd cc
found_is (Some x) fault f y e = (x, refl, e)

abbrev checked : {E : Type 0} → Bool → E → Result (Unit {0}) E
checked b fault = if b then Ok tt else Err fault

passes : {E : Type 0} (b : Bool) (fault : E) → checked b fault ≡ Ok tt → b ≡ true
passes true fault e = refl
passes false fault e = absurd cc

pub place_of : (meta : Meta) (e : Entry) → fits meta e ≡ Ok tt → Place meta e
unfolding fits
place_of meta e h =
    let one = found_is (slice_get meta.packages e.«package») _ _ tt h in
    let two = found_is (slice_get (one.0).functions e.function) _ _ tt one.2 in
    let test = passes (eqb (length e.counts) (length (two.0).units)) _ two.2 in
    record { inside = one.0; function = two.0; inside_is = one.1; function_is = two.1; units_are = eqb-true _ _ test }

-- the counts of a package and of a function after some entries
package_at : (meta : Meta) (seen : List Entry) (e : Entry) (at : Place meta e) → slice_get (pod_counts meta seen) e.«package» ≡ Some (package_counts meta.mode seen (e.«package», at.inside))
unfolding pod_counts
package_at meta seen e at = made_at (package_counts meta.mode seen) 0 e.«package» e.«package» meta.packages at.inside (omega arith) at.inside_is

function_at : (meta : Meta) (seen : List Entry) (e : Entry) (at : Place meta e) → slice_get (package_counts meta.mode seen (e.«package», at.inside)) e.function ≡ Some (function_counts meta.mode seen e.«package» (e.function, at.function))
unfolding package_counts
function_at meta seen e at = made_at (function_counts meta.mode seen e.«package») 0 e.function e.function at.inside.functions at.function (omega arith) at.function_is

pub in_counts : (meta : Meta) (seen : List Entry) (e : Entry) (counts : List (List (List ℕ))) → fits meta e ≡ Ok tt → counts ≡ pod_counts meta seen → e.«package» < length counts
in_counts meta seen e counts fit is = rw is (slice_get_within _ _ _ (package_at meta seen e (place_of meta e fit)))

functions_are : (meta : Meta) (seen : List Entry) (e : Entry) (counts : List (List (List ℕ))) (functions : List (List ℕ)) (at : Place meta e) → counts ≡ pod_counts meta seen
    → functions ≡ get_or counts e.«package» functions → functions ≡ package_counts meta.mode seen (e.«package», at.inside)
functions_are meta seen e counts functions at is got =
    got ∙ ap (λ (cs : List (List (List ℕ))). get_or cs e.«package» functions) is ∙ get_or_from_slice_get (pod_counts meta seen) e.«package» (package_counts meta.mode seen (e.«package», at.inside)) functions (package_at meta seen e at)

pub in_functions : (meta : Meta) (seen : List Entry) (e : Entry) (counts : List (List (List ℕ))) (functions : List (List ℕ)) → fits meta e ≡ Ok tt → counts ≡ pod_counts meta seen
    → functions ≡ get_or counts e.«package» functions → e.function < length functions
in_functions meta seen e counts functions fit is got =
    let at = place_of meta e fit in
    rw (functions_are meta seen e counts functions at is got) (slice_get_within _ _ _ (function_at meta seen e at))

units_are : (meta : Meta) (seen : List Entry) (e : Entry) (counts : List (List (List ℕ))) (functions : List (List ℕ)) (units : List ℕ) (at : Place meta e) → counts ≡ pod_counts meta seen
    → functions ≡ get_or counts e.«package» functions → units ≡ get_or functions e.function units → units ≡ function_counts meta.mode seen e.«package» (e.function, at.function)
units_are meta seen e counts functions units at is got got_units =
    got_units ∙ ap (λ (fs : List (List ℕ)). get_or fs e.function units) (functions_are meta seen e counts functions at is got) ∙ get_or_from_slice_get (package_counts meta.mode seen (e.«package», at.inside)) e.function (function_counts meta.mode seen e.«package» (e.function, at.function)) units (function_at meta seen e at)

unit_length : (mode : Mode) (seen : List Entry) (place : ℕ) (i : ℕ) (f : MetaFunction) → length (function_counts mode seen place (i, f)) ≡ length f.units
unfolding function_counts
unit_length mode seen place i f = length-map-range_with_len (unit_count mode seen place i) 0 (length f.units)

pub same_units : (meta : Meta) (seen : List Entry) (e : Entry) (counts : List (List (List ℕ))) (functions : List (List ℕ)) (units : List ℕ) → fits meta e ≡ Ok tt → counts ≡ pod_counts meta seen
    → functions ≡ get_or counts e.«package» functions → units ≡ get_or functions e.function units → length units ≡ length e.counts
same_units meta seen e counts functions units fit is got got_units =
    let at = place_of meta e fit in
    ap length (units_are meta seen e counts functions units at is got got_units) ∙ unit_length meta.mode seen e.«package» e.function at.function ∙ sym at.units_are

-- ---- what it adds

-- a counter of another function is 0
other_function : (place i u : ℕ) (e : Entry) → i ≢ e.function → counter_of place i u e ≡ 0
other_function place i u e ne = cases (eqb e.«package» place) (eqb e.function i) (ne_eqb e.function i (λ h. ne (sym h)))
  where
    cases : (a b : Bool) → b ≡ false → cond (a && b) (slice_index e.counts u) 0 ≡ 0
    cases true b h = rw h refl
    cases false b h = refl

other_package : (place i u : ℕ) (e : Entry) → place ≢ e.«package» → counter_of place i u e ≡ 0
other_package place i u e ne = cases (eqb e.«package» place) (eqb e.function i) (ne_eqb e.«package» place (λ h. ne (sym h)))
  where
    cases : (a b : Bool) → a ≡ false → cond (a && b) (slice_index e.counts u) 0 ≡ 0
    cases a b h = rw h refl

own_counter : (u : ℕ) (e : Entry) → counter_of e.«package» e.function u e ≡ get_or e.counts u 0
own_counter u e = rw (eq-eqb e.«package» e.«package» refl, eq-eqb e.function e.function refl) refl

one_more : (mode : Mode) (seen : List Entry) (e : Entry) (place i u : ℕ) → unit_count mode (seen ++ e ∷ []) place i u ≡ min (sum_by (counter_of place i u) seen + counter_of place i u e) (greatest mode)
one_more mode seen e place i u = ap (λ (n : ℕ). min n (greatest mode)) (sum_by_push (counter_of place i u) seen e)

no_more : (mode : Mode) (seen : List Entry) (e : Entry) (place i u : ℕ) → counter_of place i u e ≡ 0 → unit_count mode seen place i u ≡ unit_count mode (seen ++ e ∷ []) place i u
no_more mode seen e place i u none =
    let n : sum_by (counter_of place i u) seen ≡ sum_by (counter_of place i u) seen + counter_of place i u e = omega arith in
    ap (λ (n : ℕ). min n (greatest mode)) n ∙ sym (one_more mode seen e place i u)

stops_once : (c x g : ℕ) → min (min c g + x) g ≡ min (c + x) g
stops_once c x g = omega arith

-- the unit's counter is added
added : (mode : Mode) (seen : List Entry) (e : Entry) (u : ℕ) → combined mode (unit_count mode seen e.«package» e.function u) (get_or e.counts u 0) ≡ unit_count mode (seen ++ e ∷ []) e.«package» e.function u
added mode seen e u =
    stops_once (sum_by (counter_of e.«package» e.function u) seen) (get_or e.counts u 0) (greatest mode)
    ∙ ap (λ (n : ℕ). min (sum_by (counter_of e.«package» e.function u) seen + n) (greatest mode)) (sym (own_counter u e))
    ∙ sym (one_more mode seen e e.«package» e.function u)

same_function : (mode : Mode) (seen : List Entry) (e : Entry) (place i : ℕ) (f : MetaFunction) → ((u : ℕ) → counter_of place i u e ≡ 0)
    → function_counts mode seen place (i, f) ≡ function_counts mode (seen ++ e ∷ []) place (i, f)
unfolding function_counts
same_function mode seen e place i f none = map_same _ _ (λ u. no_more mode seen e place i u (none u)) (range_with_len 0 (length f.units))

same_package : (mode : Mode) (seen : List Entry) (e : Entry) (i : ℕ) (p : MetaPackage) → i ≢ e.«package»
    → package_counts mode seen (i, p) ≡ package_counts mode (seen ++ e ∷ []) (i, p)
unfolding package_counts
same_package mode seen e i p ne = map_same (function_counts mode seen i) (function_counts mode (seen ++ e ∷ []) i) (λ f. same_function mode seen e i f.0 f.1 (λ u. other_package i f.0 u e ne)) (enumerate_from 0 p.functions)

sums_are : (mode : Mode) (seen : List Entry) (e : Entry) (f : MetaFunction) (units sums : List ℕ) → units ≡ function_counts mode seen e.«package» (e.function, f) → length sums ≡ length units
    → ((k : ℕ) → k < length units → get_or sums k 0 ≡ combined mode (get_or units k 0) (get_or e.counts k 0))
    → sums ≡ function_counts mode (seen ++ e ∷ []) e.«package» (e.function, f)
unfolding function_counts
sums_are mode seen e f units sums is same each =
    let count = length-map-range_with_len (unit_count mode seen e.«package» e.function) 0 (length f.units) in
    let many : length units ≡ length f.units = ap length is ∙ count in
    fill_by_all (unit_count mode (seen ++ e ∷ []) e.«package» e.function) sums (length f.units) 0 (same ∙ many)
    (λ k lt. each k (rw many lt) ∙ ap (λ (n : ℕ). combined mode n (get_or e.counts k 0)) (unit_at k lt) ∙ added mode seen e k)
  where
    unit_at : (k : ℕ) → k < length f.units → get_or units k 0 ≡ unit_count mode seen e.«package» e.function k
    unit_at k lt = ap (λ (us : List ℕ). get_or us k 0) is ∙ get_or-map-range_with_len (unit_count mode seen e.«package» e.function) 0 (length f.units) k k 0 lt (omega arith)

functions_set : (mode : Mode) (seen : List Entry) (e : Entry) (p : MetaPackage) (f : MetaFunction) (functions : List (List ℕ)) (sums : List ℕ) → slice_get p.functions e.function ≡ Some f
    → functions ≡ package_counts mode seen (e.«package», p) → sums ≡ function_counts mode (seen ++ e ∷ []) e.«package» (e.function, f)
    → set functions e.function sums ≡ package_counts mode (seen ++ e ∷ []) (e.«package», p)
unfolding package_counts
functions_set mode seen e p f functions sums found is sums_is =
    rw is (set_made (function_counts mode seen e.«package») (function_counts mode (seen ++ e ∷ []) e.«package») 0 e.function e.function p.functions f sums (omega arith) found sums_is
    (λ j z ne. same_function mode seen e e.«package» j z (λ u. other_function e.«package» j u e ne)))

packages_set : (meta : Meta) (seen : List Entry) (e : Entry) (p : MetaPackage) (counts : List (List (List ℕ))) (functions : List (List ℕ)) → slice_get meta.packages e.«package» ≡ Some p
    → counts ≡ pod_counts meta seen → functions ≡ package_counts meta.mode (seen ++ e ∷ []) (e.«package», p)
    → set counts e.«package» functions ≡ pod_counts meta (seen ++ e ∷ [])
unfolding pod_counts
packages_set meta seen e p counts functions found is functions_is =
    rw is (set_made (package_counts meta.mode seen) (package_counts meta.mode (seen ++ e ∷ [])) 0 e.«package» e.«package» meta.packages p functions (omega arith) found functions_is
    (λ j z ne. same_package meta.mode seen e j z ne))

-- the counts are taken out, combined with the counters, and put back
pub entry_added : (meta : Meta) (seen : List Entry) (e : Entry) (counts open_counts new : List (List (List ℕ))) (gap functions open_functions new_functions : List (List ℕ)) (no_units units sums : List ℕ)
    → fits meta e ≡ Ok tt → counts ≡ pod_counts meta seen
    → functions ≡ get_or counts e.«package» functions → open_counts ≡ set counts e.«package» gap
    → units ≡ get_or functions e.function units → open_functions ≡ set functions e.function no_units
    → length sums ≡ length units → ((k : ℕ) → k < length units → get_or sums k 0 ≡ combined meta.mode (get_or units k 0) (get_or e.counts k 0))
    → new_functions ≡ set open_functions e.function sums → new ≡ set open_counts e.«package» new_functions
    → new ≡ pod_counts meta (seen ++ e ∷ [])
entry_added meta seen e counts open_counts new gap functions open_functions new_functions no_units units sums fit is got taken got_units taken_units same each put put_all =
    let at = place_of meta e fit in
    let sums_is = sums_are meta.mode seen e at.function units sums (units_are meta seen e counts functions units at is got got_units) same each in
    let functions_is : new_functions ≡ package_counts meta.mode (seen ++ e ∷ []) (e.«package», at.inside) =
    put ∙ ap (λ (fs : List (List ℕ)). set fs e.function sums) taken_units ∙ set-set functions e.function no_units sums
    ∙ functions_set meta.mode seen e at.inside at.function functions sums at.function_is (functions_are meta seen e counts functions at is got) sums_is in
    put_all ∙ ap (λ (cs : List (List (List ℕ))). set cs e.«package» new_functions) taken ∙ set-set counts e.«package» gap new_functions
    ∙ packages_set meta seen e at.inside counts new_functions at.inside_is is functions_is

-- ---- how many counts there are

package_shape : (mode : Mode) (seen : List Entry) (i : ℕ) (p : MetaPackage) → map length (package_counts mode seen (i, p)) ≡ map (λ f. length f.units) p.functions
unfolding package_counts
package_shape mode seen i p = map_made (function_counts mode seen i) length (λ (f : MetaFunction). length f.units) (unit_length mode seen i) 0 p.functions

-- one for each unit
pub one_for_each : (meta : Meta) (seen : List Entry) (counts : List (List (List ℕ))) → counts ≡ pod_counts meta seen
    → map (λ (functions : List (List ℕ)). map length functions) counts ≡ map (λ p. map (λ f. length f.units) p.functions) meta.packages
unfolding pod_counts
one_for_each meta seen counts is =
    rw is (map_made (package_counts meta.mode seen) (λ (functions : List (List ℕ)). map length functions) (λ (p : MetaPackage). map (λ (f : MetaFunction). length f.units) p.functions) (package_shape meta.mode seen) 0 meta.packages)
