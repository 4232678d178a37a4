-- Packages come to one load order or to one least cycle.
use Rattle.std.proofs.Common.{◌≡◌, ℕ, zero, suc, ◌<◌, ◌⊎◌, inl, inr, true, List, [], ◌∷◌, ◌++◌, length, map, take, get_or, Ok, Err, refl, sym, ap, subst, ◌∙◌, arith}
use Rattle.std.specs.Cmp.Lexicographic.{nat_list_cmp_total}
use Rattle.std.specs.List.{Contains}
use Rattle.std.specs.Ordering.{ordering_reverse}
use Rattle.std.specs.declared.cmp.Ordering.TheVariants.{Less, Equal, Greater}
use Rattle.std.proofs.lemmas.Cmp.{tied_itself}
use Rattle.std.proofs.lemmas.List.{append_assoc, append-nil, get_or-take, get_or_default, length-take-le}
use Rattle.std.proofs.lemmas.List.Sorted.{Contains-permutation, IsPermutation-sym}
use Rattle.go_load.specs.Graph.{ComeAfter, IsCycle, IsLeastCycle, IsLoadOrder, IsUpTo, LeadsBack, Rows, imports}
use Rattle.go_load.specs.Loading.{AreSorted, DoPathsRise, FromPackages, cyclic, loaded_of, rows_of, with_numbers}
use Rattle.go_load.specs.Outcome.{IsSingle}
use Rattle.go_load.specs.declared.contents.Found.{Found}
use Rattle.go_load.specs.declared.contents.Home.{Home}
use Rattle.go_load.proofs.Circles.{importer_within}
use Rattle.go_load.proofs.Marking.{by_path}
use Rattle.go_load.proofs.Whole.{order_once}

-- ---- packages in byte order of path

below_rest : (x : Found) (xs : List Found) (z : Found) → DoPathsRise (x ∷ xs) → Contains xs z → by_path x.path z.path ≡ Less
below_rest x xs z rise (k, lt, is) = ap (λ f. by_path x.path f.path) (sym is) ∙ rise 0 (suc k) z (omega arith) (omega (arith, lt))

rest_rises : (x : Found) (xs : List Found) → DoPathsRise (x ∷ xs) → DoPathsRise xs
rest_rises x xs rise i j d lt in_range = rise (suc i) (suc j) d (omega (arith, lt)) (omega (arith, in_range))

not_both_less : (a b : List ℕ) → by_path a b ≡ Less → by_path b a ≡ Less → ⊥
not_both_less a b p q = let is : Less ≡ Greater = sym p ∙ nat_list_cmp_total.antisymm a b ∙ ap ordering_reverse q in cc

not_itself : (a : List ℕ) → by_path a a ≡ Less → ⊥
not_itself a p = let is : Less ≡ Equal = sym p ∙ tied_itself nat_list_cmp_total a in cc

-- the first or one of the rest
among : (x : Found) (xs : List Found) (z : Found) → Contains (x ∷ xs) z → (x ≡ z) ⊎ Contains xs z
among x xs z (zero, lt, is) = inl is
among x xs z (suc k, lt, is) = inr (k, omega (arith, lt), is)

behind : (x : Found) (xs : List Found) (z : Found) → Contains xs z → Contains (x ∷ xs) z
behind x xs z (k, lt, is) = (suc k, omega (arith, lt), is)

first_same : (x y : Found) (xs ys : List Found) → DoPathsRise (x ∷ xs) → DoPathsRise (y ∷ ys) → (x ≡ y) ⊎ Contains xs y → (y ≡ x) ⊎ Contains ys x → x ≡ y
first_same x y xs ys rise rise' (inl same) q = same
first_same x y xs ys rise rise' (inr p) (inl same) = sym same
first_same x y xs ys rise rise' (inr p) (inr q) = absurd (not_both_less x.path y.path (below_rest x xs y rise p) (below_rest y ys x rise' q))

rest_among : (x y : Found) (xs ys : List Found) → DoPathsRise (x ∷ xs) → x ≡ y → ((z : Found) → Contains (x ∷ xs) z → Contains (y ∷ ys) z) → (z : Found) → Contains xs z → Contains ys z
rest_among x y xs ys rise same all z there =
    elim (among y ys z (all z (behind x xs z there))) [
      | inl is ↦ absurd (not_itself z.path (subst (λ (f : Found). by_path f.path z.path ≡ Less) (same ∙ is) (below_rest x xs z rise there)))
      | inr later ↦ later
    ]

nowhere : (z : Found) → Contains [] z → ⊥
nowhere z (k, lt, is) = omega (arith, lt)

rising_one : (xs ys : List Found) → DoPathsRise xs → DoPathsRise ys → ((z : Found) → Contains xs z → Contains ys z) → ((z : Found) → Contains ys z → Contains xs z) → xs ≡ ys
rising_one [] [] rise rise' to from = refl
rising_one [] (y ∷ ys) rise rise' to from = absurd (nowhere y (from y (0, omega arith, refl)))
rising_one (x ∷ xs) [] rise rise' to from = absurd (nowhere x (to x (0, omega arith, refl)))
rising_one (x ∷ xs) (y ∷ ys) rise rise' to from =
    let same : x ≡ y = first_same x y xs ys rise rise' (among x xs y (from y (0, omega arith, refl))) (among y ys x (to x (0, omega arith, refl))) in
    let rest : xs ≡ ys = rising_one xs ys (rest_rises x xs rise) (rest_rises y ys rise') (rest_among x y xs ys rise same to) (rest_among y x ys xs rise' (sym same) from) in
    λ i. same i ∷ rest i

sorted_one : (founds xs ys : List Found) → AreSorted founds xs → AreSorted founds ys → xs ≡ ys
sorted_one founds xs ys p q =
    rising_one xs ys p.rise q.rise
    (λ z there. Contains-permutation founds ys z q.same (Contains-permutation xs founds z (IsPermutation-sym founds xs p.same) there))
    (λ z there. Contains-permutation founds xs z p.same (Contains-permutation ys founds z (IsPermutation-sym founds ys q.same) there))

-- ---- load orders

after_one : (graph : Rows) (come us vs : List ℕ) → ComeAfter graph come us → ComeAfter graph come vs → us ≡ vs
after_one graph come [] [] p q = refl
after_one graph come [] (v ∷ vs) p q = absurd (p v q.0)
after_one graph come (u ∷ us) [] p q = absurd (q u p.0)
after_one graph come (u ∷ us) (v ∷ vs) p q =
    let same : u ≡ v = omega (arith, p.1 v q.0, q.1 u p.0) in
    let rest : us ≡ vs = after_one graph (come ++ u ∷ []) us vs p.2 (subst (λ n. ComeAfter graph (come ++ n ∷ []) vs) (sym same) q.2) in
    λ i. same i ∷ rest i

-- ---- least cycles

up_to_both : (xs ys : List ℕ) → IsUpTo xs ys → IsUpTo ys xs → xs ≡ ys
up_to_both [] [] p q = refl
up_to_both [] (y ∷ ys) p q = absurd q
up_to_both (x ∷ xs) [] p q = absurd p
up_to_both (x ∷ xs) (y ∷ ys) (inl p) (inl q) = absurd (omega (arith, p, q))
up_to_both (x ∷ xs) (y ∷ ys) (inl p) (inr q) = absurd (omega (arith, p, q.0))
up_to_both (x ∷ xs) (y ∷ ys) (inr p) (inl q) = absurd (omega (arith, p.0, q))
up_to_both (x ∷ xs) (y ∷ ys) (inr p) (inr q) = let rest : xs ≡ ys = up_to_both xs ys p.1 q.1 in λ i. p.0 i ∷ rest i

cycle_one : (graph : Rows) (c d : List ℕ) → IsLeastCycle graph c → IsLeastCycle graph d → c ≡ d
cycle_one graph c d p q = up_to_both c d (p.least d q.is_cycle) (q.least c p.is_cycle)

-- ---- never both

come_before : (graph : Rows) (come us : List ℕ) (i v : ℕ) → ComeAfter graph come us → i < length us → imports graph (get_or us i 0) v ≡ true → Contains (come ++ take i us) v
come_before graph come [] i v after lt is = absurd (omega (arith, lt))
come_before graph come (u ∷ us) zero v after lt is = subst (λ ns. Contains ns v) (sym (append-nil come)) (after.0.after_imports v is)
come_before graph come (u ∷ us) (suc i) v after lt is = subst (λ ns. Contains ns v) (append_assoc come (u ∷ []) (take i us)) (come_before graph (come ++ u ∷ []) us i v after.2 (omega (arith, lt)) is)

module _ (graph : Rows) (order : List ℕ) (is_order : IsLoadOrder graph order) where
  earlier : (i v : ℕ) → i < length order → imports graph (get_or order i 0) v ≡ true → (k : ℕ) × (k < i) × (get_or order k 0 ≡ v)
  earlier i v lt is =
      let (k, lt', at) = come_before graph [] order i v is_order.comes lt is in
      let below : k < i = subst (λ n. k < n) (length-take-le i order (omega (arith, lt))) lt' in
      (k, below, get_or_default order k 0 v (omega (arith, below, lt)) ∙ sym (get_or-take i order k v below) ∙ at)

  led_back : (start : ℕ) (met : List ℕ) (u : ℕ) (us : List ℕ) (i : ℕ) → i < length order → get_or order i 0 ≡ u → LeadsBack graph start met u us → (k : ℕ) × (k < i) × (get_or order k 0 ≡ start)
  led_back start met u [] i lt at leads = earlier i start lt (subst (λ n. imports graph n start ≡ true) (sym at) leads)
  led_back start met u (v ∷ vs) i lt at leads =
      let (k, below, there) = earlier i v lt (subst (λ n. imports graph n v ≡ true) (sym at) leads.0) in
      let (m, below', back) = led_back start (met ++ v ∷ []) v vs k (omega (arith, below, lt)) there leads.3 in
      (m, omega (arith, below, below'), back)

  leads_within : (u : ℕ) (met us : List ℕ) → LeadsBack graph u met u us → u < length graph
  leads_within u met [] leads = importer_within graph u u leads
  leads_within u met (v ∷ vs) leads = importer_within graph u v leads.0

  no_cycle : (cycle : List ℕ) → IsCycle graph cycle → ⊥
  no_cycle [] is = is
  no_cycle (u ∷ us) is =
      let (i, lt, at) = is_order.complete u (leads_within u (u ∷ []) us is) in
      let at_zero : get_or order i 0 ≡ u = get_or_default order i 0 u lt ∙ at in
      let (k, below, back) = led_back u (u ∷ []) u us i lt at_zero is in
      let front : get_or (take i order) k (get_or order i 0) ≡ get_or order i 0 =
      get_or-take i order k (get_or order i 0) below ∙ get_or_default order k (get_or order i 0) 0 (omega (arith, below, lt)) ∙ back ∙ sym at_zero in
      order_once graph order is_order i 0 lt (k, subst (λ n. k < n) (sym (length-take-le i order (omega (arith, lt)))) below, front)

-- ---- the module of packages

pub from_one : (home : Home) (founds : List Found) → IsSingle (FromPackages home founds)
from_one home founds (Ok l) (Ok m) (xs, us, sorted, order, is) (ys, vs, sorted', order', is') =
    let same : xs ≡ ys = sorted_one founds xs ys sorted sorted' in
    let orders : us ≡ vs = after_one (rows_of home xs) [] us vs order.comes (subst (λ fs. ComeAfter (rows_of home fs) [] vs) (sym same) order'.comes) in
    ap (λ r. Ok r) (is ∙ ap (λ fs. loaded_of home.path (with_numbers fs us)) same ∙ ap (λ ns. loaded_of home.path (with_numbers ys ns)) orders ∙ sym is')
from_one home founds (Ok l) (Err e) (xs, us, sorted, order, is) (ys, vs, sorted', cycle, is') =
    absurd (no_cycle (rows_of home xs) us order vs (subst (λ fs. IsCycle (rows_of home fs) vs) (sym (sorted_one founds xs ys sorted sorted')) cycle.is_cycle))
from_one home founds (Err e) (Ok m) (xs, us, sorted, cycle, is) (ys, vs, sorted', order, is') =
    absurd (no_cycle (rows_of home ys) vs order us (subst (λ fs. IsCycle (rows_of home fs) us) (sorted_one founds xs ys sorted sorted') cycle.is_cycle))
from_one home founds (Err d) (Err e) (xs, us, sorted, cycle, is) (ys, vs, sorted', cycle', is') =
    let same : xs ≡ ys = sorted_one founds xs ys sorted sorted' in
    let cycles : us ≡ vs = cycle_one (rows_of home xs) us vs cycle (subst (λ fs. IsLeastCycle (rows_of home fs) vs) (sym same) cycle') in
    let paths = λ (fs : List Found) (ns : List ℕ). cyclic (map (λ f. f.path) (with_numbers fs ns)) in
    ap (λ r. Err r) (is ∙ ap (λ fs. paths fs us) same ∙ ap (paths ys) cycles ∙ sym is')
