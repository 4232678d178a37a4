-- What a search of a cycle finds, step by step.
use Rattle.std.proofs.Common.{◌≡◌, ℕ, ◌+◌, ◌-◌, ◌<◌, ◌≤◌, ◌⊎◌, inl, inr, ⊎_elim, Bool, true, false, List, [], ◌∷◌, ◌++◌, length, take, sym, ap, subst, ◌∙◌, arith, get_or, append_assoc}
use Rattle.std.specs.Prelude.{replicate}
use Rattle.std.specs.List.{Contains}
use Rattle.std.proofs.lemmas.Bool.{cases_eq, cases_lt, cases_order, both_ways}
use Rattle.std.proofs.lemmas.List.{get_or-replicate, get_or_past, length-replicate, length_push, take-append-le, take_all}
use Rattle.go_load.specs.Graph.{Rows, imports, LeadsBack, IsCycle, IsLeastCycle, IsUpTo}
use Rattle.go_load.specs.Marks.{is_marked, IsDead, IsSearched}
use Rattle.go_load.specs.Searching.{LeadsFirst, Finds, IsFrom}
use Rattle.go_load.proofs.Circles.{imported_within, importer_within}

-- each import up to a number was tried: it is on the path, or nothing leads back from it
abbrev pub AreTried : Rows → ℕ → List ℕ → ℕ → ℕ → Type 0
AreTried graph start path u v = (w : ℕ) → start < w → w < v → imports graph u w ≡ true → Contains path w ⊎ IsDead graph start (path ++ w ∷ []) w

-- one more import was tried
pub tried_more : (graph : Rows) (start : ℕ) (path : List ℕ) (u v : ℕ) → AreTried graph start path u v → (imports graph u v ≡ true → Contains path v ⊎ IsDead graph start (path ++ v ∷ []) v) → AreTried graph start path u (v + 1)
tried_more graph start path u v tried this w beyond lt i =
    ⊎_elim
    (λ e.
    subst (λ (z : ℕ). Contains path z ⊎ IsDead graph start (path ++ z ∷ []) z) e
    (this (subst (λ (z : ℕ). imports graph u z ≡ true) (sym e) i)))
    (λ ne. tried w beyond (omega (arith, ne)) i)
    (cases_eq v w)

-- all imports were tried
pub exhausted : (graph : Rows) (start : ℕ) (path : List ℕ) (u v : ℕ) → imports graph u start ≡ false → length graph ≤ v → AreTried graph start path u v → IsDead graph start path u
exhausted graph start path u v no_start end tried [] h = both_ways (imports graph u start) no_start h
exhausted graph start path u v no_start end tried (w ∷ ws) h =
    let within : w < length graph = imported_within graph u w h.0 in
    ⊎_elim (λ c. h.2 c) (λ d. d ws h.3) (tried w h.1 (omega arith) h.0)

-- the way through the first import from which something leads back is the least
pub least_through : (graph : Rows) (start : ℕ) (path : List ℕ) (u v : ℕ) (marks : List Bool) (us : List ℕ) → imports graph u start ≡ false → AreTried graph start path u v → imports graph u v ≡ true → start < v
    → is_marked marks v ≡ false → IsSearched graph start path marks → LeadsFirst graph start (path ++ v ∷ []) v us → LeadsFirst graph start path u (v ∷ us)
least_through graph start path u v marks us no_start tried i beyond unmarked s f = record {
  leads = (i, beyond, λ c. both_ways (is_marked marks v) unmarked (s.on_path v beyond c), f.leads);
  least = least;
}
  where
    least : (vs : List ℕ) → LeadsBack graph start path u vs → IsUpTo (v ∷ us) vs
    least [] h = both_ways (imports graph u start) no_start h
    least (w ∷ ws) h =
        ⊎_elim (λ e. inr (e, f.least ws (subst (λ (z : ℕ). LeadsBack graph start (path ++ z ∷ []) z ws) (sym e) h.3)))
        (λ order. ⊎_elim (λ lt. inl lt) (λ gt. absurd (⊎_elim (λ c. h.2 c) (λ d. d ws h.3) (tried w h.1 gt h.0))) order)
        (cases_order v w)

-- the search from an import found the way
pub found_through : (graph : Rows) (start u v : ℕ) (path held pushed found : List ℕ) (marks marks' : List Bool) (b : Bool) → b ≡ true → Finds graph start v pushed b found marks' → pushed ≡ held ++ v ∷ [] → held ≡ path
    → imports graph u start ≡ false → AreTried graph start held u v → imports graph u v ≡ true → start < v → is_marked marks v ≡ false → IsSearched graph start held marks
    → (us : List ℕ) × (found ≡ path ++ us) × LeadsFirst graph start path u us
found_through graph start u v path held pushed found marks marks' b is finds push same no_start tried i beyond unmarked s =
    let f = subst (λ (t : Bool). Finds graph start v pushed t found marks') is finds in
    let first : LeadsFirst graph start (held ++ v ∷ []) v f.0 = subst (λ (p : List ℕ). LeadsFirst graph start p v f.0) push f.2 in
    let through : LeadsFirst graph start held u (v ∷ f.0) = least_through graph start held u v marks f.0 no_start tried i beyond unmarked s first in (
      v ∷ f.0,
      f.1 ∙ ap (λ (p : List ℕ). p ++ f.0) push ∙ append_assoc held (v ∷ []) f.0 ∙ ap (λ (p : List ℕ). p ++ v ∷ f.0) same,
      subst (λ (p : List ℕ). LeadsFirst graph start p u (v ∷ f.0)) same through,
    )

-- it found none, and the path is as before
pub not_found : (graph : Rows) (start v : ℕ) (held pushed found : List ℕ) (marks' : List Bool) (b : Bool) → b ≡ false → Finds graph start v pushed b found marks' → pushed ≡ held ++ v ∷ []
    → (found ≡ held ++ v ∷ []) × IsDead graph start (held ++ v ∷ []) v × IsSearched graph start (held ++ v ∷ []) marks'
not_found graph start v held pushed found marks' b no_way finds push =
    let f = subst (λ (t : Bool). Finds graph start v pushed t found marks') no_way finds in
    (f.0 ∙ push, subst (λ (p : List ℕ). IsDead graph start p v) push f.1, subst (λ (p : List ℕ). IsSearched graph start p marks') push f.2)

-- nothing was searched
pub unsearched : (graph : Rows) (start n : ℕ) → IsSearched graph start (start ∷ []) (replicate n false)
unsearched graph start n = record {
  on_path = λ u beyond c. absurd (at_start u beyond c);
  others = λ u m. absurd (both_ways (is_marked (replicate n false) u) (unmarked n u) m);
}
  where
    at_start : (u : ℕ) → start < u → Contains (start ∷ []) u → ⊥
    at_start u beyond c = let lt : c.0 < 1 = c.1 in let zero_is : c.0 ≡ 0 = omega arith in let e : start ≡ u = sym (ap (λ (k : ℕ). get_or (start ∷ []) k u) zero_is) ∙ c.2 in omega arith

    unmarked : (n u : ℕ) → get_or (replicate n false) u false ≡ false
    unmarked n u = ⊎_elim (λ lt. get_or-replicate n u false false lt) (λ past. get_or_past (replicate n false) u false (subst (λ (k : ℕ). k ≤ u) (sym (length-replicate n false)) past)) (cases_lt u n)

-- no cycle starts at any package
pub no_cycle : (graph : Rows) (s : ℕ) → length graph ≤ s → ((u : ℕ) → u < s → IsDead graph u (u ∷ []) u) → (cycle : List ℕ) → IsCycle graph cycle → ⊥
no_cycle graph s end dead [] h = h
no_cycle graph s end dead (u ∷ []) h = let lt : u < length graph = importer_within graph u u h in dead u (omega arith) [] h
no_cycle graph s end dead (u ∷ v ∷ vs) h = let lt : u < length graph = importer_within graph u v h.0 in dead u (omega arith) (v ∷ vs) h

-- the first package at which cycles start gives the least
pub least_of_all : (graph : Rows) (start : ℕ) (cycle : List ℕ) → ((u : ℕ) → u < start → IsDead graph u (u ∷ []) u) → IsFrom graph start cycle → IsLeastCycle graph cycle
least_of_all graph start cycle dead from = subst (IsLeastCycle graph) (sym from.1) (record { is_cycle = from.2.leads; least = least })
  where
    least : (other : List ℕ) → IsCycle graph other → IsUpTo (start ∷ from.0) other
    least [] h = absurd h
    least (w ∷ ws) h =
        ⊎_elim (λ e. inr (e, from.2.least ws (subst (λ (z : ℕ). LeadsBack graph z (z ∷ []) z ws) (sym e) h)))
        (λ order. ⊎_elim (λ lt. inl lt) (λ gt. absurd (dead w gt ws h)) order)
        (cases_order start w)

-- what was put on the path is taken off
pub taken_off : (held pushed popped : List ℕ) (v : ℕ) → pushed ≡ held ++ v ∷ [] → popped ≡ take (length pushed - 1) pushed → popped ≡ held
taken_off held pushed popped v push pop =
    let one : length (held ++ v ∷ []) ≡ length held + 1 = length_push held v in
    let n : length (held ++ v ∷ []) - 1 ≡ length held = omega arith in
    let le : length held ≤ length held = omega arith in
    pop ∙ ap (λ (p : List ℕ). take (length p - 1) p) push ∙ ap (λ (k : ℕ). take k (held ++ v ∷ [])) n ∙ take-append-le (length held) held (v ∷ []) le ∙ take_all (length held) held le
