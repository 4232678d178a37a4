-- The counts that entries give, where they were made from counts.
use Rattle.std.proofs.Common.{zero, suc, ◌≡◌, ℕ, ◌+◌, ◌<◌, ◌≤◌, min, Bool, true, false, T, cond, not, ◌&&◌, ◌||◌, eqb, List, [], ◌∷◌, ◌++◌, map, length, get_or, All, refl, sym, ap, subst, ◌∙◌, arith, add-zero}
use Rattle.std.specs.Prelude.{sum_by, slice_index, ◌==◌}
use Rattle.std.specs.List.{flat_map, list_any, enumerate_from, range_with_len}
use Rattle.std.proofs.lemmas.Bool.{eqb-true, ne_eqb}
use Rattle.std.proofs.lemmas.List.Sums.{sum_by-append, sum_by-cons}
use Rattle.std.proofs.lemmas.List.FromFn.{fill_by_all}
use Rattle.std.proofs.Math.Dec.{eqb_refl}
use Rattle.cov_outside.specs.declared.mode.Mode.{Mode}
use Rattle.cov_outside.specs.Mode.{greatest}
use Rattle.cov_meta.specs.declared.meta.Meta.{Meta}
use Rattle.cov_meta.specs.declared.meta.MetaPackage.{MetaPackage}
use Rattle.cov_meta.specs.declared.meta.MetaFunction.{MetaFunction}
use Rattle.cov_counter.specs.declared.entry.Entry.{Entry}
use Rattle.cov_pods.specs.PodCounts.{counter_of, unit_count, function_counts, package_counts, pod_counts}
use Rattle.cov_table.specs.PodOf.{entry_out, entries_of, entries_out}

nothing_counted : (counts : List ℕ) (u : ℕ) → list_any (λ n. not (n == 0)) counts ≡ false → slice_index counts u ≡ 0
nothing_counted [] zero h = refl
nothing_counted [] (suc u) h = refl
nothing_counted (n ∷ counts) u h = by (eqb n 0) refl h u (λ v rest. nothing_counted counts v rest)
  where
    by : (b : Bool) → eqb n 0 ≡ b → (not b || list_any (λ n. not (n == 0)) counts) ≡ false → (u : ℕ) → ((v : ℕ) → list_any (λ n. not (n == 0)) counts ≡ false → slice_index counts v ≡ 0) → slice_index (n ∷ counts) u ≡ 0
    by true e h zero rest = eqb-true n 0 e
    by true e h (suc v) rest = rest v h
    by false e h v rest = cc

T_true : (b : Bool) → T b → b ≡ true
T_true true h = refl
T_true false h = absurd h

and_false : (a : Bool) → (a && false) ≡ false
and_false true = refl
and_false false = refl

nothing : (b : Bool) → ◌≡◌ {A = ℕ} (cond b 0 0) 0
nothing true = refl
nothing false = refl

is_same : (a b : ℕ) → a ≡ b → eqb a b ≡ true
is_same a b e = ap (eqb a) (sym e) ∙ T_true (eqb a a) (eqb_refl a)

capped : (sum count most : ℕ) → sum ≡ count → count ≤ most → count ≡ min sum most
capped sum count most e b = omega arith

module _ (place i u : ℕ) where
  one : (n m : ℕ) (c : List ℕ) → sum_by (counter_of place i u) (entry_out n (m, c)) ≡ cond (eqb n place && eqb m i) (slice_index c u) 0
  one n m c = by (list_any (λ n. not (n == 0)) c) refl
    where
      by : (b : Bool) → list_any (λ n. not (n == 0)) c ≡ b → sum_by (counter_of place i u) (cond b (record { «package» = n; function = m; counts = c } ∷ []) []) ≡ cond (eqb n place && eqb m i) (slice_index c u) 0
      by true e = sum_by-cons (counter_of place i u) (record { «package» = n; function = m; counts = c }) [] ∙ add-zero (cond (eqb n place && eqb m i) (slice_index c u) 0)
      by false e = sym (ap (λ v. cond (eqb n place && eqb m i) v 0) (nothing_counted c u e) ∙ nothing (eqb n place && eqb m i))

  abbrev of_functions : ℕ → ℕ → List (List ℕ) → ℕ
  of_functions n m fs = sum_by (counter_of place i u) (flat_map (entry_out n) (enumerate_from m fs))

  step : (n m : ℕ) (c : List ℕ) (fs : List (List ℕ)) → of_functions n m (c ∷ fs) ≡ cond (eqb n place && eqb m i) (slice_index c u) 0 + of_functions n (m + 1) fs
  step n m c fs = sum_by-append (counter_of place i u) (entry_out n (m, c)) (flat_map (entry_out n) (enumerate_from (m + 1) fs)) ∙ ap (λ t. t + of_functions n (m + 1) fs) (one n m c)

  -- functions of another package
  other_package : (n m : ℕ) (fs : List (List ℕ)) → eqb n place ≡ false → of_functions n m fs ≡ 0
  other_package n m [] h = refl
  other_package n m (c ∷ fs) h = step n m c fs ∙ ap (λ b. cond (b && eqb m i) (slice_index c u) 0 + of_functions n (m + 1) fs) h ∙ ap (λ t. 0 + t) (other_package n (m + 1) fs h)

  -- functions behind this one
  behind : (n m : ℕ) (fs : List (List ℕ)) → i < m → of_functions n m fs ≡ 0
  behind n m [] h = refl
  behind n m (c ∷ fs) h =
      step n m c fs
      ∙ ap (λ b. cond (eqb n place && b) (slice_index c u) 0 + of_functions n (m + 1) fs) (ne_eqb m i (λ e. absurd (omega arith)))
      ∙ ap (λ b. cond b (slice_index c u) 0 + of_functions n (m + 1) fs) (and_false (eqb n place))
      ∙ ap (λ t. 0 + t) (behind n (m + 1) fs (omega arith))

  at_function : (n m k : ℕ) (fs : List (List ℕ)) → eqb n place ≡ true → i ≡ m + k → k < length fs → of_functions n m fs ≡ slice_index (get_or fs k []) u
  at_function n m k [] e p h = absurd (omega arith)
  at_function n m zero (c ∷ fs) e p h =
      let same : eqb m i ≡ true = is_same m i (omega arith) in
      let rest : of_functions n (m + 1) fs ≡ 0 = behind n (m + 1) fs (omega arith) in
      step n m c fs ∙ (λ j. cond (e j && same j) (slice_index c u) 0 + rest j) ∙ add-zero (slice_index c u)
  at_function n m (suc k) (c ∷ fs) e p h =
      let apart : eqb m i ≡ false = ne_eqb m i (λ q. absurd (omega arith)) in
      step n m c fs
      ∙ (λ j. cond (e j && apart j) (slice_index c u) 0 + of_functions n (m + 1) fs)
      ∙ (let t : 0 + of_functions n (m + 1) fs ≡ of_functions n (m + 1) fs = omega arith in t)
      ∙ at_function n (m + 1) k fs e (omega arith) (omega arith)

  abbrev of_packages : ℕ → List (List (List ℕ)) → ℕ
  of_packages n cs = sum_by (counter_of place i u) (flat_map entries_of (enumerate_from n cs))

  package_step : (n : ℕ) (fs : List (List ℕ)) (cs : List (List (List ℕ))) → of_packages n (fs ∷ cs) ≡ of_functions n 0 fs + of_packages (n + 1) cs
  package_step n fs cs = sum_by-append (counter_of place i u) (entries_of (n, fs)) (flat_map entries_of (enumerate_from (n + 1) cs))

  packages_behind : (n : ℕ) (cs : List (List (List ℕ))) → place < n → of_packages n cs ≡ 0
  packages_behind n [] h = refl
  packages_behind n (fs ∷ cs) h =
      let a : of_functions n 0 fs ≡ 0 = other_package n 0 fs (ne_eqb n place (λ e. absurd (omega arith))) in
      let b : of_packages (n + 1) cs ≡ 0 = packages_behind (n + 1) cs (omega arith) in
      package_step n fs cs ∙ (λ j. a j + b j)

  at_package : (n k : ℕ) (cs : List (List (List ℕ))) → place ≡ n + k → k < length cs → i < length (get_or cs k []) → of_packages n cs ≡ slice_index (get_or (get_or cs k []) i []) u
  at_package n k [] p h w = absurd (omega arith)
  at_package n zero (fs ∷ cs) p h w =
      let same : eqb n place ≡ true = is_same n place (omega arith) in
      let a : of_functions n 0 fs ≡ slice_index (get_or fs i []) u = at_function n 0 i fs same (omega arith) w in
      let b : of_packages (n + 1) cs ≡ 0 = packages_behind (n + 1) cs (omega arith) in
      package_step n fs cs ∙ (λ j. a j + b j) ∙ add-zero (slice_index (get_or fs i []) u)
  at_package n (suc k) (fs ∷ cs) p h w =
      let a : of_functions n 0 fs ≡ 0 = other_package n 0 fs (ne_eqb n place (λ e. absurd (omega arith))) in
      package_step n fs cs
      ∙ ap (λ t. t + of_packages (n + 1) cs) a
      ∙ (let t : 0 + of_packages (n + 1) cs ≡ of_packages (n + 1) cs = omega arith in t)
      ∙ at_package (n + 1) k cs (omega arith) (omega arith) w

-- ---- the counts by package and function

-- counts for each unit, none above a greatest count
abbrev pub Fits : ℕ → List MetaFunction → List (List ℕ) → Type 0
Fits most [] [] = Unit {0}
Fits most (f ∷ fs) (c ∷ cs) = (length c ≡ length f.units) × ((k : ℕ) → get_or c k 0 ≤ most) × Fits most fs cs
Fits most [] (c ∷ cs) = ⊥
Fits most (f ∷ fs) [] = ⊥

abbrev pub AllFit : ℕ → List MetaPackage → List (List (List ℕ)) → Type 0
AllFit most [] [] = Unit {0}
AllFit most (p ∷ ps) (c ∷ cs) = Fits most p.functions c × AllFit most ps cs
AllFit most [] (c ∷ cs) = ⊥
AllFit most (p ∷ ps) [] = ⊥

functions_recounted : (mode : Mode) (entries : List Entry) (n m : ℕ) (fs : List MetaFunction) (cs : List (List ℕ)) → Fits (greatest mode) fs cs
    → ((k u j : ℕ) → j ≡ m + k → k < length cs → sum_by (counter_of n j u) entries ≡ slice_index (get_or cs k []) u) → map (function_counts mode entries n) (enumerate_from m fs) ≡ cs
unfolding function_counts
functions_recounted mode entries n m [] [] fit is = refl
functions_recounted mode entries n m [] (c ∷ cs) fit is = absurd fit
functions_recounted mode entries n m (f ∷ fs) [] fit is = absurd fit
functions_recounted mode entries n m (f ∷ fs) (c ∷ cs) fit is =
    let here : map (unit_count mode entries n m) (range_with_len 0 (length f.units)) ≡ c =
    sym (fill_by_all (unit_count mode entries n m) c (length f.units) 0 fit.0 (λ k h. let e = is 0 k m (omega arith) (omega arith) in let b = fit.1 k in capped (sum_by (counter_of n m k) entries) (get_or c k 0) (greatest mode) e b)) in
    let rest = functions_recounted mode entries n (m + 1) fs cs fit.2 (λ k u j e h. is (suc k) u j (omega arith) (omega arith)) in
    λ j. here j ∷ rest j

packages_recounted : (mode : Mode) (entries : List Entry) (n : ℕ) (ps : List MetaPackage) (cs : List (List (List ℕ))) → AllFit (greatest mode) ps cs
    → ((k i j u : ℕ) → i ≡ n + k → k < length cs → j < length (get_or cs k []) → sum_by (counter_of i j u) entries ≡ slice_index (get_or (get_or cs k []) j []) u) → map (package_counts mode entries) (enumerate_from n ps) ≡ cs
unfolding package_counts
packages_recounted mode entries n [] [] fit is = refl
packages_recounted mode entries n [] (c ∷ cs) fit is = absurd fit
packages_recounted mode entries n (p ∷ ps) [] fit is = absurd fit
packages_recounted mode entries n (p ∷ ps) (c ∷ cs) fit is =
    let here = functions_recounted mode entries n 0 p.functions c fit.0 (λ k u j e h. let same : j ≡ k = omega arith in is 0 n j u (omega arith) (omega arith) (omega arith) ∙ ap (λ v. slice_index (get_or c v []) u) same) in
    let rest = packages_recounted mode entries (n + 1) ps cs fit.1 (λ k i j u e h w. is (suc k) i j u (omega arith) (omega arith) w) in
    λ j. here j ∷ rest j

-- the entries that were made from counts give them back
pub recounted : (mode : Mode) (ps : List MetaPackage) (cs : List (List (List ℕ))) → AllFit (greatest mode) ps cs → pod_counts (record { mode = mode; packages = ps }) (entries_out cs) ≡ cs
unfolding pod_counts
recounted mode ps cs fit = packages_recounted mode (entries_out cs) 0 ps cs fit (λ k i j u e h w. at_package i j u 0 k cs e h w)
