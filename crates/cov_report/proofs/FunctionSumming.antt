-- The sums of functions, where one more unit comes.
use Rattle.std.proofs.Common.{◌≡◌, ℕ, ◌+◌, ◌≤◌, Bool, true, false, cond, List, [], ◌∷◌, ◌++◌, Option, None, Some, All, map, refl, sym, ap, ◌∙◌, arith, append-nil, add-zero}
use Rattle.std.specs.Prelude.{sum_by, unwrap_or, ◌==◌, ◌||◌, if◌then◌else◌}
use Rattle.std.specs.List.{list_any}
use Rattle.std.specs.Map.{lookup}
use Rattle.std.proofs.lemmas.List.{map-append}
use Rattle.std.proofs.lemmas.List.Elements.{filter-append, All-head, All-tail}
use Rattle.std.proofs.lemmas.List.Filters.{sum_by-filter_both}
use Rattle.std.proofs.lemmas.List.Sums.{sum_by-append}
use Rattle.indexmap.specs.IndexMap.{insert_entry}
use Rattle.cov_table.specs.Key.{Key}
use Rattle.cov_report.specs.declared.function_sums.FunctionName.{FunctionName}
use Rattle.cov_report.specs.declared.function_sums.FunctionSum.{FunctionSum}
use Rattle.cov_report.specs.declared.share.Share.{Share}
use Rattle.cov_report.specs.Shares.{statements_of, covered_of}
use Rattle.cov_report.specs.FunctionLines.{units_with, first_units}
use Rattle.cov_report.specs.FunctionSums.{Function, function_of, is_function, named_function, named_sum, sum_among, sum_over, function_sums, AreSums}
use Rattle.cov_report.proofs.FirstUnits.{together, together_equiv, differs, met_first, first_units_push, AreApart, first_units_apart}

-- a sum with one more unit
abbrev pub added : Key × ℕ → FunctionSum → FunctionSum
added u s = record { start_line = s.start_line; share = record { covered = s.share.covered + covered_of (u ∷ []); statements = s.share.statements + statements_of (u ∷ []) } }

-- the sum of a function of which no unit was met before this one
abbrev pub new_sum : Key × ℕ → FunctionSum
new_sum u = record { start_line = u.0.start_line; share = record { covered = 0; statements = 0 } }

-- ---- what is looked up

pub lookup_named : (name : FunctionName) (entries : List (FunctionName × FunctionSum))
    → lookup (λ k. is_function (named_function name) (named_function k)) entries ≡ sum_among (named_function name) (map named_sum entries)
lookup_named name [] = refl
lookup_named name (e ∷ entries) = ap (λ (o : Option FunctionSum). cond (is_function (named_function name) (named_function e.0)) (Some e.1) o) (lookup_named name entries)

abbrev is_name : FunctionName → FunctionName → Bool
is_name a b = is_function (named_function a) (named_function b)

pub insert_named : (entries : List (FunctionName × FunctionSum)) (name : FunctionName) (sum : FunctionSum)
    → map named_sum (insert_entry is_name entries name sum) ≡ insert_entry is_function (map named_sum entries) (named_function name) sum
insert_named [] name sum = refl
insert_named (e ∷ entries) name sum =
    elim (is_name name e.0) as (λ b. map named_sum (if b then (e.0, sum) ∷ entries else e ∷ insert_entry is_name entries name sum)
    ≡ (if b then (named_function e.0, sum) ∷ map named_sum entries else named_sum e ∷ insert_entry is_function (map named_sum entries) (named_function name) sum)) [
      | true ↦ refl
      | false ↦ ap (λ (t : List (Function × FunctionSum)). named_sum e ∷ t) (insert_named entries name sum)
    ]

-- ---- sums over units

sum_more : (f : Key × ℕ → ℕ) (k : Key) (units : List (Key × ℕ)) (u : Key × ℕ) → sum_by f (units_with k (units ++ u ∷ [])) ≡ sum_by f (units_with k units) + sum_by f (units_with k (u ∷ []))
sum_more f k units u = ap (sum_by f) (filter-append (λ v. together (k, 0) v) units (u ∷ [])) ∙ sum_by-append f (units_with k units) (units_with k (u ∷ []))

pub sum_within : (f : Key × ℕ → ℕ) (k : Key) (units : List (Key × ℕ)) → sum_by f (units_with k units) ≤ sum_by f units
sum_within f k units = let h = sum_by-filter_both (together (k, 0)) (differs (k, 0)) (λ v. refl) f units in omega (arith, h)

abbrev value : List (Key × ℕ) → Key × ℕ → FunctionSum
value units u = (sum_over units u).1

abbrev with_sums : Key × ℕ → ℕ → ℕ → FunctionSum
with_sums u c t = record { start_line = u.0.start_line; share = record { covered = c; statements = t } }

value_same : (units : List (Key × ℕ)) (u v : Key × ℕ) → together v u ≡ true → value (units ++ u ∷ []) v ≡ added u (value units v)
value_same units u v same =
    let c = sum_more (λ w. if w.1 == 0 then 0 else w.0.statements) v.0 units u ∙ ap (λ b. covered_of (units_with v.0 units) + covered_of (cond b (u ∷ []) [])) same in
    let t = sum_more (λ w. w.0.statements) v.0 units u ∙ ap (λ b. statements_of (units_with v.0 units) + statements_of (cond b (u ∷ []) [])) same in
    (λ i. with_sums v (c i) (t i))

value_other : (units : List (Key × ℕ)) (u v : Key × ℕ) → together v u ≡ false → value (units ++ u ∷ []) v ≡ value units v
value_other units u v other =
    let c = sum_more (λ w. if w.1 == 0 then 0 else w.0.statements) v.0 units u ∙ ap (λ b. covered_of (units_with v.0 units) + covered_of (cond b (u ∷ []) [])) other ∙ add-zero (covered_of (units_with v.0 units)) in
    let t = sum_more (λ w. w.0.statements) v.0 units u ∙ ap (λ b. statements_of (units_with v.0 units) + statements_of (cond b (u ∷ []) [])) other ∙ add-zero (statements_of (units_with v.0 units)) in
    (λ i. with_sums v (c i) (t i))

none_with : (u : Key × ℕ) (units : List (Key × ℕ)) → list_any (together u) units ≡ false → units_with u.0 units ≡ []
none_with u [] h = refl
none_with u (v ∷ units) h =
    elim (together u v) as (λ b. (b || list_any (together u) units) ≡ false → cond b (v ∷ units_with u.0 units) (units_with u.0 units) ≡ []) [
      | true ↦ λ e. cc
      | false ↦ λ e. none_with u units e
    ] h

value_new : (units : List (Key × ℕ)) (u : Key × ℕ) → list_any (together u) units ≡ false → value (units ++ u ∷ []) u ≡ added u (new_sum u)
value_new units u new =
    value_same units u u (together_equiv.refl u)
    ∙ ap (λ (t : List (Key × ℕ)). added u (with_sums u (covered_of t) (statements_of t))) (none_with u units new)

-- ---- one more unit

others : (units : List (Key × ℕ)) (u v : Key × ℕ) (firsts : List (Key × ℕ)) → together v u ≡ true → All (λ w. together v w ≡ false) firsts → map (sum_over units) firsts ≡ map (sum_over (units ++ u ∷ [])) firsts
others units u v [] same apart = refl
others units u v (w ∷ firsts) same apart =
    let other : together w u ≡ false = together_equiv.symm w u ∙ sym (together_equiv.congr v u w same) ∙ All-head (λ w. together v w ≡ false) w firsts apart in
    let here : value units w ≡ value (units ++ u ∷ []) w = sym (value_other units u w other) in
    let rest : map (sum_over units) firsts ≡ map (sum_over (units ++ u ∷ [])) firsts = others units u v firsts same (All-tail (λ w. together v w ≡ false) w firsts apart) in
    (λ i. (function_of w.0, here i) ∷ rest i)

abbrev after : List (Key × ℕ) → Key × ℕ → List (Key × ℕ) → Bool → List (Function × FunctionSum)
after units u firsts met = map (sum_over (units ++ u ∷ [])) firsts ++ cond met [] (sum_over (units ++ u ∷ []) u ∷ [])

inserted : (units : List (Key × ℕ)) (u : Key × ℕ) (firsts : List (Key × ℕ)) (o : Option FunctionSum)
    → AreApart firsts
    → sum_among (function_of u.0) (map (sum_over units) firsts) ≡ o
    → (o ≡ None → value (units ++ u ∷ []) u ≡ added u (new_sum u))
    → insert_entry is_function (map (sum_over units) firsts) (function_of u.0) (added u (unwrap_or o (new_sum u))) ≡ after units u firsts (list_any (together u) firsts)
inserted units u [] o apart at new =
    ap (λ (x : Option FunctionSum). (function_of u.0, added u (unwrap_or x (new_sum u))) ∷ []) (sym at)
    ∙ ap (λ (s : FunctionSum). (function_of u.0, s) ∷ []) (sym (new (sym at)))
inserted units u (v ∷ firsts) o apart at new = by (together u v) refl at (inserted units u firsts o apart.1)
  where
    by : (b : Bool) → together u v ≡ b
        → cond b (Some (value units v)) (sum_among (function_of u.0) (map (sum_over units) firsts)) ≡ o
        → (sum_among (function_of u.0) (map (sum_over units) firsts) ≡ o
        → (o ≡ None → value (units ++ u ∷ []) u ≡ added u (new_sum u))
        → insert_entry is_function (map (sum_over units) firsts) (function_of u.0) (added u (unwrap_or o (new_sum u))) ≡ after units u firsts (list_any (together u) firsts))
        → (if b then (function_of v.0, added u (unwrap_or o (new_sum u))) ∷ map (sum_over units) firsts else sum_over units v ∷ insert_entry is_function (map (sum_over units) firsts) (function_of u.0) (added u (unwrap_or o (new_sum u))))
        ≡ after units u (v ∷ firsts) (b || list_any (together u) firsts)
    by true e at rest_inserted =
        let same : together v u ≡ true = together_equiv.symm v u ∙ e in
        let here : added u (unwrap_or o (new_sum u)) ≡ value (units ++ u ∷ []) v = ap (λ (x : Option FunctionSum). added u (unwrap_or x (new_sum u))) (sym at) ∙ sym (value_same units u v same) in
        let rest = others units u v firsts same apart.0 ∙ sym (append-nil (map (sum_over (units ++ u ∷ [])) firsts)) in
        (λ i. (function_of v.0, here i) ∷ rest i)
    by false e at rest_inserted =
        let here : value units v ≡ value (units ++ u ∷ []) v = sym (value_other units u v (together_equiv.symm v u ∙ e)) in
        let rest = rest_inserted at new in
        (λ i. (function_of v.0, here i) ∷ rest i)

none_found : (units : List (Key × ℕ)) (u : Key × ℕ) (firsts : List (Key × ℕ)) → sum_among (function_of u.0) (map (sum_over units) firsts) ≡ None → list_any (together u) firsts ≡ false
none_found units u [] h = refl
none_found units u (v ∷ firsts) h =
    elim (together u v) as (λ b. cond b (Some (value units v)) (sum_among (function_of u.0) (map (sum_over units) firsts)) ≡ None → (b || list_any (together u) firsts) ≡ false) [
      | true ↦ λ e. cc
      | false ↦ λ e. none_found units u firsts e
    ] h

-- the sum of a unit's function grows by that unit, and a new function's goes last
pub sums_push : (units : List (Key × ℕ)) (u : Key × ℕ)
    → insert_entry is_function (function_sums units) (function_of u.0) (added u (unwrap_or (sum_among (function_of u.0) (function_sums units)) (new_sum u))) ≡ function_sums (units ++ u ∷ [])
sums_push units u =
    let firsts = first_units units in
    let found = sum_among (function_of u.0) (function_sums units) in
    inserted units u firsts found (first_units_apart units) refl (λ none. value_new units u (sym (met_first u units) ∙ none_found units u firsts none))
    ∙ ap (after units u firsts) (met_first u units)
    ∙ pushed (list_any (together u) units)
    ∙ ap (map (sum_over (units ++ u ∷ []))) (sym (first_units_push units u))
  where
    pushed : (met : Bool) → after units u (first_units units) met ≡ map (sum_over (units ++ u ∷ [])) (first_units units ++ cond met [] (u ∷ []))
    pushed true = sym (map-append (sum_over (units ++ u ∷ [])) (first_units units) [])
    pushed false = sym (map-append (sum_over (units ++ u ∷ [])) (first_units units) (u ∷ []))

-- ---- no sum is above that of all units

abbrev Within : List (Key × ℕ) → FunctionSum → Type 0
Within units s = (s.share.statements ≤ statements_of units) × (s.share.covered ≤ covered_of units)

pub sum_found_within : (units : List (Key × ℕ)) (u : Key × ℕ) (firsts : List (Key × ℕ)) → Within units (unwrap_or (sum_among (function_of u.0) (map (sum_over units) firsts)) (new_sum u))
sum_found_within units u [] = (omega arith, omega arith)
sum_found_within units u (v ∷ firsts) =
    elim (together u v) as (λ b. Within units (unwrap_or (cond b (Some (value units v)) (sum_among (function_of u.0) (map (sum_over units) firsts))) (new_sum u))) [
      | true ↦ (sum_within (λ w. w.0.statements) v.0 units, sum_within (λ w. if w.1 == 0 then 0 else w.0.statements) v.0 units)
      | false ↦ sum_found_within units u firsts
    ]

-- ---- one more unit, by the entries of a map

pub add_one : (units : List (Key × ℕ)) (u : Key × ℕ) (old new : List (FunctionName × FunctionSum)) (name : FunctionName) (before : FunctionSum) (share : Share)
    → AreSums units old
    → named_function name ≡ function_of u.0
    → before ≡ unwrap_or (sum_among (named_function name) (map named_sum old)) (new_sum u)
    → share.covered ≡ before.share.covered + covered_of (u ∷ [])
    → share.statements ≡ before.share.statements + statements_of (u ∷ [])
    → new ≡ insert_entry is_name old name (record { start_line = before.start_line; share = share })
    → AreSums (units ++ u ∷ []) new
add_one units u old new name before share are named found covered statements inserted =
    let value : record { start_line = before.start_line; share = share } ≡ added u before = (λ i. record { start_line = before.start_line; share = record { covered = covered i; statements = statements i } }) in
    let found_there : before ≡ unwrap_or (sum_among (function_of u.0) (function_sums units)) (new_sum u) = found ∙ (λ i. unwrap_or (sum_among (named i) (are.sums i)) (new_sum u)) in
    record {
      sums =
          ap (map named_sum) inserted
          ∙ insert_named old name (record { start_line = before.start_line; share = share })
          ∙ (λ i. insert_entry is_function (are.sums i) (named i) (value i))
          ∙ ap (λ (s : FunctionSum). insert_entry is_function (function_sums units) (function_of u.0) (added u s)) found_there
          ∙ sums_push units u;
    }
