-- The units of a table's pod are those of the table.
use Rattle.std.proofs.Common.{zero, suc, ◌≡◌, ℕ, ◌+◌, ◌<◌, ◌≤◌, min, Bool, true, false, T, cond, not, ◌&&◌, ◌||◌, List, [], ◌∷◌, ◌++◌, map, length, get_or, All, Option, Some, None, is_some, refl, sym, ap, subst, ◌∙◌, arith, add-zero, true≢false}
use Rattle.std.specs.Prelude.{sum_by, filter}
use Rattle.std.specs.Bool.{beq}
use Rattle.std.specs.List.{zip, flat_map, list_any}
use Rattle.std.specs.Str.{bytes_eq}
use Rattle.std.specs.FinMap as finmap
use Rattle.std.specs.FinMap.Entries.{below_all}
use Rattle.std.specs.Cmp.{tied_itself}
use Rattle.std.specs.Cmp.Lexicographic.{nat_list_cmp_total, bytes_decides}
use Rattle.std.specs.Ordering.{is_eq, eq_by_cmp}
use Rattle.std.specs.declared.cmp.Ordering.TheVariants.{Less, Equal}
use Rattle.std.proofs.lemmas.List.Sums.{sum_by-append, sum_by-cons}
use Rattle.std.proofs.lemmas.List.Elements.{All-head, All-tail}
use Rattle.cov_meta.specs.declared.meta.MetaPackage.{MetaPackage}
use Rattle.cov_meta.specs.declared.meta.MetaFunction.{MetaFunction}
use Rattle.cov_table.specs.Key.{Key, key_cmp, text_cmp}
use Rattle.cov_table.specs.Counts.{has, total}
use Rattle.cov_table.specs.Coverage.{key_of, function_counts, package_counts, counts_of}
use Rattle.cov_table.specs.Functions.{same_function, units_with, first_units, groups_of}
use Rattle.cov_table.specs.PodOf.{Group, unit_out, function_out, group_counts, package_out}
use Rattle.cov_table.specs.PodRows.{units_at}
use Rattle.cov_table.proofs.Counting.{tied, absent}
use Rattle.cov_table.proofs.FirstUnits.{together, together_equiv, met_first, AreApart, first_units_apart}
use Rattle.cov_table.proofs.Keys.{key_same, key_total}
use Rattle.cov_table.proofs.PodRows.{map_map, path_test}
use Rattle.cov_table.proofs.Walk.{both, less}

-- ---- sums and tests over lists of lists

pub any_append : {X : Type 0} (p : X → Bool) (xs ys : List X) → list_any p (xs ++ ys) ≡ (list_any p xs || list_any p ys)
any_append p [] ys = refl
any_append p (x ∷ xs) ys = elim (p x) as (λ b. (b || list_any p (xs ++ ys)) ≡ ((b || list_any p xs) || list_any p ys)) [ true ↦ refl | false ↦ any_append p xs ys ]

module _ {X : Type 0} (q : Key) (f : X → List (Key × ℕ)) where
  pub total_flat : (xs : List X) → total key_cmp q (flat_map f xs) ≡ sum_by (λ x. total key_cmp q (f x)) xs
  total_flat [] = refl
  total_flat (x ∷ xs) = sum_by-append (λ (e : Key × ℕ). cond (eq_by_cmp key_cmp q e.0) e.1 0) (f x) (flat_map f xs) ∙ ap (λ n. total key_cmp q (f x) + n) (total_flat xs) ∙ sym (sum_by-cons (λ x. total key_cmp q (f x)) x xs)

  pub has_flat : (xs : List X) → has key_cmp q (flat_map f xs) ≡ list_any (λ x. has key_cmp q (f x)) xs
  has_flat [] = refl
  has_flat (x ∷ xs) = any_append (λ (e : Key × ℕ). eq_by_cmp key_cmp q e.0) (f x) (flat_map f xs) ∙ ap (λ b. has key_cmp q (f x) || b) (has_flat xs)

pub sum_same : {X : Type 0} (f g : X → ℕ) → ((x : X) → f x ≡ g x) → (xs : List X) → sum_by f xs ≡ sum_by g xs
sum_same f g same [] = refl
sum_same f g same (x ∷ xs) = sum_by-cons f x xs ∙ (λ i. same x i + sum_same f g same xs i) ∙ sym (sum_by-cons g x xs)

pub any_same : {X : Type 0} (f g : X → Bool) → ((x : X) → f x ≡ g x) → (xs : List X) → list_any f xs ≡ list_any g xs
any_same f g same [] = refl
any_same f g same (x ∷ xs) = λ i. same x i || any_same f g same xs i

pub any_and : {X : Type 0} (p : X → Bool) (b : Bool) (xs : List X) → list_any (λ x. p x && b) xs ≡ (list_any p xs && b)
any_and p b [] = refl
any_and p b (x ∷ xs) =
    ap (λ c. (p x && b) || c) (any_and p b xs)
    ∙ elim (p x) as (λ a. ((a && b) || (list_any p xs && b)) ≡ ((a || list_any p xs) && b)) [
      | true ↦ elim b as (λ c. (c || (list_any p xs && c)) ≡ c) [ true ↦ refl | false ↦ elim (list_any p xs) as (λ d. (d && false) ≡ false) [ true ↦ refl | false ↦ refl ] ]
      | false ↦ refl
    ]

-- at most one item passes
abbrev pub AtMostOne : {X : Type 0} → (X → Bool) → List X → Type 0
AtMostOne p [] = Unit {0}
AtMostOne p (x ∷ xs) = (p x ≡ true → list_any p xs ≡ false) × AtMostOne p xs

pub one_of : {X : Type 0} (p : X → Bool) (t : ℕ) (xs : List X) → AtMostOne p xs → sum_by (λ x. cond (p x) t 0) xs ≡ cond (list_any p xs) t 0
one_of p t [] h = refl
one_of p t (x ∷ xs) h =
    sum_by-cons (λ x. cond (p x) t 0) x xs
    ∙ ap (λ n. cond (p x) t 0 + n) (one_of p t xs h.1)
    ∙ elim (p x) as (λ b. (b ≡ true → list_any p xs ≡ false) → cond b t 0 + cond (list_any p xs) t 0 ≡ cond (b || list_any p xs) t 0) [
      | true ↦ λ none. ap (λ b. t + cond b t 0) (none refl) ∙ add-zero t
      | false ↦ λ none. (let e : 0 + cond (list_any p xs) t 0 ≡ cond (list_any p xs) t 0 = omega arith in e)
    ] h.0

-- ---- units that pass a test of their keys

module _ (t : Key → Bool) (q : Key) where
  pub total_filter : (es : List (Key × ℕ)) → total key_cmp q (filter (λ e. t e.0) es) ≡ cond (t q) (total key_cmp q es) 0
  total_filter [] = elim (t q) as (λ b. ◌≡◌ {A = ℕ} 0 (cond b 0 0)) [ true ↦ refl | false ↦ refl ]
  total_filter (e ∷ es) =
      let count : Key × ℕ → ℕ = λ e. cond (eq_by_cmp key_cmp q e.0) e.1 0 in
      let rest : ℕ = total key_cmp q es in
      elim (eq_by_cmp key_cmp q e.0) as (λ b. eq_by_cmp key_cmp q e.0 ≡ b → total key_cmp q (cond (t e.0) (e ∷ filter (λ e. t e.0) es) (filter (λ e. t e.0) es)) ≡ cond (t q) (cond b e.1 0 + rest) 0) [
        | true ↦ λ tie.
            let key : e.0 ≡ q = sym (key_same q e.0 (tied _ tie)) in
            ap (λ k. total key_cmp q (cond (t k) (e ∷ filter (λ e. t e.0) es) (filter (λ e. t e.0) es))) key
            ∙ elim (t q) as (λ b. total key_cmp q (filter (λ e. t e.0) es) ≡ cond b rest 0 → total key_cmp q (cond b (e ∷ filter (λ e. t e.0) es) (filter (λ e. t e.0) es)) ≡ cond b (e.1 + rest) 0) [
              | true ↦ λ h. sum_by-cons count e (filter (λ e. t e.0) es) ∙ (λ i. cond (tie i) e.1 0 + h i)
              | false ↦ λ h. h
            ] (total_filter es)
        | false ↦ λ apart.
            elim (t e.0) as (λ b. total key_cmp q (cond b (e ∷ filter (λ e. t e.0) es) (filter (λ e. t e.0) es)) ≡ cond (t q) rest 0) [
              | true ↦ sum_by-cons count e (filter (λ e. t e.0) es) ∙ (λ i. cond (apart i) e.1 0 + total_filter es i) ∙ (let z : 0 + cond (t q) rest 0 ≡ cond (t q) rest 0 = omega arith in z)
              | false ↦ total_filter es
            ]
            ∙ ap (λ n. cond (t q) n 0) (let z : rest ≡ 0 + rest = omega arith in z)
      ] refl
      ∙ ap (λ n. cond (t q) n 0) (sym (sum_by-cons count e es))

  pub has_filter : (es : List (Key × ℕ)) → has key_cmp q (filter (λ e. t e.0) es) ≡ (t q && has key_cmp q es)
  has_filter [] = elim (t q) as (λ b. false ≡ (b && false)) [ true ↦ refl | false ↦ refl ]
  has_filter (e ∷ es) =
      elim (eq_by_cmp key_cmp q e.0) as (λ b. eq_by_cmp key_cmp q e.0 ≡ b → has key_cmp q (cond (t e.0) (e ∷ filter (λ e. t e.0) es) (filter (λ e. t e.0) es)) ≡ (t q && (b || has key_cmp q es))) [
        | true ↦ λ tie.
            let key : e.0 ≡ q = sym (key_same q e.0 (tied _ tie)) in
            ap (λ k. has key_cmp q (cond (t k) (e ∷ filter (λ e. t e.0) es) (filter (λ e. t e.0) es))) key
            ∙ elim (t q) as (λ b. has key_cmp q (filter (λ e. t e.0) es) ≡ (b && has key_cmp q es) → has key_cmp q (cond b (e ∷ filter (λ e. t e.0) es) (filter (λ e. t e.0) es)) ≡ (b && true)) [
              | true ↦ λ h. ap (λ b. b || has key_cmp q (filter (λ e. t e.0) es)) tie
              | false ↦ λ h. h
            ] (has_filter es)
        | false ↦ λ apart.
            elim (t e.0) as (λ b. has key_cmp q (cond b (e ∷ filter (λ e. t e.0) es) (filter (λ e. t e.0) es)) ≡ (t q && has key_cmp q es)) [
              | true ↦ ap (λ b. b || has key_cmp q (filter (λ e. t e.0) es)) apart ∙ has_filter es
              | false ↦ has_filter es
            ]
      ] refl

-- ---- the units of each function, one function after the other

abbrev pub by_function : List (Key × ℕ) → List (Key × ℕ)
by_function units = flat_map (λ u. units_with u.0 units) (first_units units)

module _ (q : Key) where
  alone : (u : Key × ℕ) (units : List (Key × ℕ)) → together u (q, 0) ≡ true → All (λ v. together u v ≡ false) units → list_any (λ v. same_function v.0 q) units ≡ false
  alone u [] same apart = refl
  alone u (v ∷ units) same apart =
      let other : together v (q, 0) ≡ false = together_equiv.symm v (q, 0) ∙ sym (together_equiv.congr u (q, 0) v same) ∙ All-head (λ v. together u v ≡ false) v units apart in
      ap (λ b. b || list_any (λ v. same_function v.0 q) units) other ∙ alone u units same (All-tail (λ v. together u v ≡ false) v units apart)

  at_most_one : (units : List (Key × ℕ)) → AreApart units → AtMostOne (λ u. same_function u.0 q) units
  at_most_one [] h = tt
  at_most_one (u ∷ units) h = ((λ same. alone u units same h.0), at_most_one units h.1)

  has_function : (units : List (Key × ℕ)) → list_any (together (q, 0)) units ≡ false → has key_cmp q units ≡ false
  has_function [] h = refl
  has_function (e ∷ units) h =
      elim (eq_by_cmp key_cmp q e.0) as (λ b. eq_by_cmp key_cmp q e.0 ≡ b → (b || has key_cmp q units) ≡ false) [
        | true ↦ λ tie. absurd (true≢false (sym (ap (λ b. b || list_any (together (q, 0)) units) (ap (λ k. same_function q k) (sym (key_same q e.0 (tied _ tie))) ∙ together_equiv.refl (q, 0))) ∙ h))
        | false ↦ λ apart. has_function units (later (together (q, 0) e) h)
      ] refl
    where
      later : (b : Bool) → (b || list_any (together (q, 0)) units) ≡ false → list_any (together (q, 0)) units ≡ false
      later true e = cc
      later false e = e

  met : (units : List (Key × ℕ)) → list_any (λ u. same_function u.0 q) (first_units units) ≡ list_any (together (q, 0)) units
  met units = any_same (λ u. same_function u.0 q) (together (q, 0)) (λ u. together_equiv.symm u (q, 0)) (first_units units) ∙ met_first (q, 0) units

  pub total_by_function : (units : List (Key × ℕ)) → total key_cmp q (by_function units) ≡ total key_cmp q units
  total_by_function units =
      total_flat q (λ (u : Key × ℕ). units_with u.0 units) (first_units units)
      ∙ sum_same (λ u. total key_cmp q (units_with u.0 units)) (λ u. cond (same_function u.0 q) (total key_cmp q units) 0) (λ u. total_filter (same_function u.0) q units) (first_units units)
      ∙ one_of (λ (u : Key × ℕ). same_function u.0 q) (total key_cmp q units) (first_units units) (at_most_one (first_units units) (first_units_apart units))
      ∙ ap (λ b. cond b (total key_cmp q units) 0) (met units)
      ∙ elim (list_any (together (q, 0)) units) as (λ b. (b ≡ false → total key_cmp q units ≡ 0) → cond b (total key_cmp q units) 0 ≡ total key_cmp q units) [
        | true ↦ λ none. refl
        | false ↦ λ none. sym (none refl)
      ] (λ none. absent key_cmp q units (has_function units none))

  pub has_by_function : (units : List (Key × ℕ)) → has key_cmp q (by_function units) ≡ has key_cmp q units
  has_by_function units =
      has_flat q (λ (u : Key × ℕ). units_with u.0 units) (first_units units)
      ∙ any_same (λ u. has key_cmp q (units_with u.0 units)) (λ u. same_function u.0 q && has key_cmp q units) (λ u. has_filter (same_function u.0) q units) (first_units units)
      ∙ any_and (λ (u : Key × ℕ). same_function u.0 q) (has key_cmp q units) (first_units units)
      ∙ ap (λ b. b && has key_cmp q units) (met units)
      ∙ elim (list_any (together (q, 0)) units) as (λ b. (b ≡ false → has key_cmp q units ≡ false) → (b && has key_cmp q units) ≡ has key_cmp q units) [
        | true ↦ λ none. refl
        | false ↦ λ none. sym (none refl)
      ] (λ none. has_function units none)
