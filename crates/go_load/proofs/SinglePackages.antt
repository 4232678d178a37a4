-- The packages of a module are found in one way.
use Rattle.std.proofs.Common.{◌≡◌, ℕ, zero, suc, ◌+◌, ◌<◌, ◌≤◌, inl, inr, List, [], ◌∷◌, length, take, get_or, Some, None, Ok, Err, refl, sym, ap, subst, ◌∙◌, arith}
use Rattle.std.specs.Prelude.{slice_get}
use Rattle.std.proofs.lemmas.Bool.{cases_lt}
use Rattle.std.proofs.lemmas.List.{take_all, take_more_same}
use Rattle.cov_outside.specs.Tree.{Tree}
use Rattle.go_load.specs.Outcome.{IsSingle, ReadsOne}
use Rattle.go_load.specs.Packages.{AreFound, PackageAt, Packages, RefusedBehind, met}
use Rattle.go_load.specs.Readings.{Reading}
use Rattle.go_load.specs.declared.contents.Found.{Found}
use Rattle.go_load.specs.declared.contents.Home.{Home}
use Rattle.go_load.specs.declared.refusal.LoadRefusal.{LoadRefusal}
use Rattle.go_load.proofs.Single.{err_one, never_both, ok_one, package_one, some_same}

module _ (gives : Reading) (reads_one : ReadsOne gives) (t : Tree) (home : Home) where
  one_front : (xs ys : List Found) (d : Found) → AreFound gives t home xs → AreFound gives t home ys → (n : ℕ) → n < length xs → n < length ys → take n xs ≡ take n ys → take (n + 1) xs ≡ take (n + 1) ys
  one_front xs ys d are also n lx ly so_far =
      let this = are n d lx in
      let that = also n d ly in
      let paths : this.0 ≡ that.0 = some_same this.0 that.0 (sym this.1 ∙ ap (λ fs. slice_get (met home fs) n) so_far ∙ that.1) in
      let same : get_or xs n d ≡ get_or ys n d =
      ok_one (PackageAt gives t home that.0) (package_one gives reads_one t home that.0) (get_or xs n d) (get_or ys n d) (subst (λ p. PackageAt gives t home p (Ok (get_or xs n d))) paths this.2) that.2 in
      take_more_same xs ys n d lx ly so_far same

  same_fronts : (xs ys : List Found) (d : Found) → AreFound gives t home xs → AreFound gives t home ys → (n : ℕ) → n ≤ length xs → n ≤ length ys → take n xs ≡ take n ys
  same_fronts xs ys d are also zero lx ly = refl
  same_fronts xs ys d are also (suc n) lx ly =
      let so_far : take n xs ≡ take n ys = same_fronts xs ys d are also n (omega (arith, lx)) (omega (arith, ly)) in
      let one_more : n + 1 ≡ suc n = omega arith in
      subst (λ m. take m xs ≡ take m ys) one_more (one_front xs ys d are also n (omega (arith, lx)) (omega (arith, ly)) so_far)

  -- nothing is found behind these packages
  Stops : List Found → Type 0
  Stops xs = (path : List ℕ) (f : Found) → length xs < 1000 → slice_get (met home xs) (length xs) ≡ Some path → PackageAt gives t home path (Ok f) → ⊥

  not_longer : (xs ys : List Found) → AreFound gives t home xs → AreFound gives t home ys → length ys ≤ 1000 → Stops xs → length xs < length ys → ⊥
  unfolding Stops
  not_longer xs [] are also few stops lt = omega (arith, lt)
  not_longer xs (y ∷ ys) are also few stops lt =
      let n = length xs in
      let this = also n y lt in
      let front : take n (y ∷ ys) ≡ xs = sym (same_fronts xs (y ∷ ys) y are also n (omega arith) (omega (arith, lt))) ∙ take_all n xs (omega arith) in
      stops this.0 (get_or (y ∷ ys) n y) (omega (arith, lt, few)) (subst (λ fs. slice_get (met home fs) n ≡ Some this.0) front this.1) this.2

  all_same : (xs ys : List Found) → AreFound gives t home xs → AreFound gives t home ys → length xs ≤ 1000 → length ys ≤ 1000 → Stops xs → Stops ys → xs ≡ ys
  all_same [] [] are also few fewer stops ends = refl
  all_same [] (y ∷ ys) are also few fewer stops ends = absurd (not_longer [] (y ∷ ys) are also fewer stops (omega arith))
  all_same (x ∷ xs) ys are also few fewer stops ends =
      let n = length (x ∷ xs) in
      elim (cases_lt n (length ys)) [
        | inl longer ↦ absurd (not_longer (x ∷ xs) ys are also fewer stops longer)
        | inr le ↦ elim (cases_lt (length ys) n) [
          | inl longer ↦ absurd (not_longer ys (x ∷ xs) also are few ends longer)
          | inr ge ↦ sym (take_all n (x ∷ xs) (omega arith)) ∙ same_fronts (x ∷ xs) ys x are also n (omega arith) ge ∙ take_all n ys le
        ]
      ]

  none_stops : (xs : List Found) → slice_get (met home xs) (length xs) ≡ None → Stops xs
  unfolding Stops
  none_stops xs none path f few at this = let is : None ≡ Some path = sym none ∙ at in cc

  refused_stops : (xs : List Found) (path : List ℕ) (e : LoadRefusal) → slice_get (met home xs) (length xs) ≡ Some path → RefusedBehind gives t home (length xs) path e → Stops xs
  unfolding Stops
  refused_stops xs path e at (inl full) path' f few at' this = omega (arith, full.0, few)
  refused_stops xs path e at (inr behind) path' f few at' this =
      let paths : path' ≡ path = some_same path' path (sym at' ∙ at) in
      never_both (PackageAt gives t home path) (package_one gives reads_one t home path) f e (subst (λ p. PackageAt gives t home p (Ok f)) paths this) behind.1

  refused_few : (xs : List Found) (path : List ℕ) (e : LoadRefusal) → RefusedBehind gives t home (length xs) path e → length xs ≤ 1000
  refused_few xs path e (inl full) = omega (arith, full.0)
  refused_few xs path e (inr behind) = omega (arith, behind.0)

  refusal_one : (n : ℕ) (path : List ℕ) (d e : LoadRefusal) → RefusedBehind gives t home n path d → RefusedBehind gives t home n path e → d ≡ e
  refusal_one n path d e (inl p) (inl q) = p.1 ∙ sym q.1
  refusal_one n path d e (inl p) (inr q) = absurd (omega (arith, p.0, q.0))
  refusal_one n path d e (inr p) (inl q) = absurd (omega (arith, p.0, q.0))
  refusal_one n path d e (inr p) (inr q) = err_one (PackageAt gives t home path) (package_one gives reads_one t home path) d e p.1 q.1

  pub packages_one : IsSingle (Packages gives t home)
  packages_one (Ok xs) (Ok ys) p q = ap (λ fs. Ok fs) (all_same xs ys p.0 q.0 p.2 q.2 (none_stops xs p.1) (none_stops ys q.1))
  packages_one (Ok xs) (Err e) p (ys, path, also, at, behind) =
      let same : xs ≡ ys = all_same xs ys p.0 also p.2 (refused_few ys path e behind) (none_stops xs p.1) (refused_stops ys path e at behind) in
      let is : None ≡ Some path = sym p.1 ∙ ap (λ fs. slice_get (met home fs) (length fs)) same ∙ at in
      cc
  packages_one (Err e) (Ok ys) (xs, path, are, at, behind) q =
      let same : xs ≡ ys = all_same xs ys are q.0 (refused_few xs path e behind) q.2 (refused_stops xs path e at behind) (none_stops ys q.1) in
      let is : None ≡ Some path = sym q.1 ∙ ap (λ fs. slice_get (met home fs) (length fs)) (sym same) ∙ at in
      cc
  packages_one (Err d) (Err e) (xs, path, are, at, behind) (ys, path', also, at', behind') =
      let same : xs ≡ ys = all_same xs ys are also (refused_few xs path d behind) (refused_few ys path' e behind') (refused_stops xs path d at behind) (refused_stops ys path' e at' behind') in
      let paths : path ≡ path' = some_same path path' (sym at ∙ ap (λ fs. slice_get (met home fs) (length fs)) same ∙ at') in
      let behind'' : RefusedBehind gives t home (length xs) path e = subst (λ n. RefusedBehind gives t home n path e) (sym (ap length same)) (subst (λ p. RefusedBehind gives t home (length ys) p e) (sym paths) behind') in
      ap (λ r. Err r) (refusal_one (length xs) path d e behind behind'')
