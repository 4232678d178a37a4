-- Packages of which each imports another of them make a cycle.
use Rattle.std.proofs.Common.{◌≡◌, ℕ, zero, suc, ◌+◌, ◌<◌, ◌≤◌, ⊎_elim, Bool, true, false, Option, Some, None, Vec, Global, List, [], ◌∷◌, ◌++◌, length, refl, sym, ap, subst, arith, get_or}
use Rattle.std.specs.List.{Contains}
use Rattle.std.specs.Option.{MatchOption}
use Rattle.std.proofs.lemmas.Bool.{cases_eq, cases_lt, both_ways, and_parts, ltb-true}
use Rattle.std.proofs.lemmas.List.{get_or_past}
use Rattle.std.proofs.lemmas.List.Elements.{Contains-push_cases}
use Rattle.go_load.specs.Graph.{Rows, imports, LeadsBack, IsCycle, IsLoadOrder, IsLeastCycle}
use Rattle.go_load.specs.Marks.{is_marked, IsBlocked}

-- who is imported is a package
pub imported_within : (graph : Rows) (u v : ℕ) → imports graph u v ≡ true → v < length graph
imported_within graph u v i = ltb-true v (length graph) (and_parts _ _ i).0

-- who imports is a package
pub importer_within : (graph : Rows) (u v : ℕ) → imports graph u v ≡ true → u < length graph
importer_within graph u v i =
    ⊎_elim (λ lt. lt)
    (λ past.
    absurd (both_ways (get_or (get_or graph u []) v false) (ap (λ (row : List Bool). get_or row v false) (get_or_past graph u [] past)) (and_parts _ _ i).1))
    (cases_lt u (length graph))

-- the list leads from a package to another, past those met and through greater ones than the start
abbrev LeadsTo : Rows → ℕ → List ℕ → ℕ → List ℕ → ℕ → Type 0
LeadsTo graph start met u [] y = u ≡ y
LeadsTo graph start met u (v ∷ vs) y = (imports graph u v ≡ true) × (start < v) × (Contains met v → ⊥) × LeadsTo graph start (met ++ v ∷ []) v vs y

leads_back : (graph : Rows) (start : ℕ) (met : List ℕ) (u : ℕ) (us : List ℕ) (y : ℕ) → LeadsTo graph start met u us y → imports graph y start ≡ true → LeadsBack graph start met u us
leads_back graph start met u [] y h i = subst (λ (z : ℕ). imports graph z start ≡ true) (sym h) i
leads_back graph start met u (v ∷ vs) y h i = (h.0, h.1, h.2, leads_back graph start (met ++ v ∷ []) v vs y h.3 i)

leads_on : (graph : Rows) (start : ℕ) (met : List ℕ) (u : ℕ) (us : List ℕ) (y z : ℕ) → LeadsTo graph start met u us y → imports graph y z ≡ true → start < z → (Contains met z → ⊥)
    → (vs : List ℕ) × LeadsTo graph start met u vs z
leads_on graph start met u [] y z h i lt new = (z ∷ [], (subst (λ (x : ℕ). imports graph x z ≡ true) (sym h) i, lt, new, refl))
leads_on graph start met u (v ∷ vs) y z h i lt new =
    ⊎_elim (λ same. (v ∷ [], (h.0, h.1, h.2, same)))
    (λ other.
    let r = leads_on graph start (met ++ v ∷ []) v vs y z h.3 i lt (λ c. ⊎_elim new other (Contains-push_cases met v z c)) in
    (v ∷ r.0, (h.0, h.1, h.2, r.1)))
    (cases_eq v z)

only_itself : (k z : ℕ) → (k ≡ z → ⊥) → Contains (k ∷ []) z → ⊥
only_itself k z other c = ⊎_elim (λ (e : Contains [] z). let lt : e.0 < 0 = e.1 in absurd (omega arith)) other (Contains-push_cases [] k z c)

-- what is said of packages is so for packages from k on
abbrev AreFrom : Rows → ℕ → (ℕ → Type 0) → Type 0
AreFrom graph k S = (u : ℕ) → S u → (k ≤ u) × (u < length graph)

-- each of them imports another
abbrev AreClosed : Rows → (ℕ → Type 0) → Type 0
AreClosed graph S = (u : ℕ) → S u → (v : ℕ) × S v × (imports graph u v ≡ true)

abbrev HasNoCycle : Rows → Type 0
HasNoCycle graph = (cycle : List ℕ) → IsCycle graph cycle → ⊥

-- one of the packages to which a list leads from k, through greater ones
abbrev IsLedTo : Rows → (ℕ → Type 0) → ℕ → ℕ → Type 0
IsLedTo graph S k y = S y × (k < y) × (us : List ℕ) × LeadsTo graph k (k ∷ []) k us y

greater : (graph : Rows) (S : ℕ → Type 0) (k z : ℕ) → AreFrom graph k S → S z → (k ≡ z → ⊥) → k < z
greater graph S k z within s other = let low : k ≤ z = (within z s).0 in omega (arith, other)

led_on : (graph : Rows) → HasNoCycle graph → (S : ℕ → Type 0) (k : ℕ) → AreFrom graph k S → AreClosed graph S → AreClosed graph (IsLedTo graph S k)
led_on graph none S k within closed y w =
    let c = closed y w.0 in
    ⊎_elim
    (λ same. absurd (none (k ∷ w.2) (leads_back graph k (k ∷ []) k w.2 y w.3 (subst (λ (x : ℕ). imports graph y x ≡ true) (sym same) c.2))))
    (λ other.
    let lt : k < c.0 = greater graph S k c.0 within c.1 other in
    let r = leads_on graph k (k ∷ []) k w.2 y c.0 w.3 c.2 lt (only_itself k c.0 other) in
    (c.0, (c.1, lt, r.0, r.1), c.2))
    (cases_eq k c.0)

not_first : (graph : Rows) → HasNoCycle graph → (S : ℕ → Type 0) (k : ℕ) → AreFrom graph k S → AreClosed graph S → ((T : ℕ → Type 0) → AreFrom graph (k + 1) T → AreClosed graph T → (u : ℕ) → T u → ⊥) → S k → ⊥
not_first graph none S k within closed below s =
    let c = closed k s in
    ⊎_elim
    (λ same. none (k ∷ []) (subst (λ (x : ℕ). imports graph k x ≡ true) (sym same) c.2))
    (λ other.
    let lt : k < c.0 = greater graph S k c.0 within c.1 other in
    below (IsLedTo graph S k) (λ y w. (let above : k < y = w.1 in omega arith, (within y w.0).1)) (led_on graph none S k within closed) c.0
    (c.1, lt, c.0 ∷ [], (c.2, lt, only_itself k c.0 other, refl)))
    (cases_eq k c.0)

above_first : (graph : Rows) (S : ℕ → Type 0) (k : ℕ) → AreFrom graph k S → (S k → ⊥) → AreFrom graph (k + 1) S
above_first graph S k within out u s = (let lt : k < u = greater graph S k u within s (λ e. out (subst S (sym e) s)) in omega arith, (within u s).1)

-- Where there is no cycle, there are no packages from a number on of which each imports another.
none_from : (graph : Rows) → HasNoCycle graph → (m k : ℕ) → length graph ≤ k + m → (S : ℕ → Type 0) → AreFrom graph k S → AreClosed graph S → (u : ℕ) → S u → ⊥
none_from graph none zero k le S within closed u s = let low : k ≤ u = (within u s).0 in let high : u < length graph = (within u s).1 in omega arith
none_from graph none (suc m) k le S within closed u s =
    let le' : length graph ≤ k + 1 + m = omega arith in
    let below : (T : ℕ → Type 0) → AreFrom graph (k + 1) T → AreClosed graph T → (v : ℕ) → T v → ⊥ = λ T. none_from graph none m (k + 1) le' T in
    below S (above_first graph S k within (not_first graph none S k within closed below)) closed u s

-- blocked packages make a cycle
pub blocked_in_circle : (graph : Rows) (marks : List Bool) → ((cycle : List ℕ) → IsCycle graph cycle → ⊥) → IsBlocked graph marks → ⊥
blocked_in_circle graph marks none b =
    none_from graph none (length graph) 0 (omega arith) (λ u. (u < length graph) × (is_marked marks u ≡ false)) (λ u s. (omega arith, s.0))
    (λ u s. ⊎_elim (λ m. absurd (both_ways (is_marked marks u) s.1 m)) (λ w. (w.0, (imported_within graph u w.0 w.1, w.2), w.1)) (b.none u s.0))
    b.left.0 (b.left.1, b.left.2)

-- packages are in load order, or there is a cycle
pub ordered_or_cyclic : (graph : Rows) (order cycle : Option (Vec ℕ Global)) → order ≡ None → cycle ≡ None → MatchOption order ((marks : List Bool) × IsBlocked graph marks) (λ o. IsLoadOrder graph o.items)
    → MatchOption cycle ((c : List ℕ) → IsCycle graph c → ⊥) (λ c. IsLeastCycle graph c.items) → ⊥
ordered_or_cyclic graph None None e e' blocked none = blocked_in_circle graph blocked.0 none blocked.1
ordered_or_cyclic graph None (Some c) e e' blocked least = cc
ordered_or_cyclic graph (Some o) cycle e e' comes least = cc
