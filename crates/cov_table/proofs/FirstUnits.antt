-- The first units of each function, where one more unit comes.
use Rattle.std.proofs.Common.{◌≡◌, ℕ, Bool, true, false, cond, not, ◌||◌, List, [], ◌∷◌, ◌++◌, All, refl, sym, ap, ◌∙◌, ⊎_elim}
use Rattle.std.specs.Prelude.{filter}
use Rattle.std.specs.List.{list_any}
use Rattle.std.specs.Cmp.{IsEquivalence, bool_eq_equiv}
use Rattle.std.specs.Cmp.Lexicographic.{on_texts_equal}
use Rattle.std.proofs.lemmas.Cmp.{and_equiv, on_equiv}
use Rattle.std.proofs.lemmas.Bool.{cases_Bool, not-true}
use Rattle.std.proofs.lemmas.List.Elements.{filter-append, filter_passes, All-weaker, All-filter}
use Rattle.std.proofs.lemmas.Map.Views.{any-filter_same}
use Rattle.cov_table.specs.Key.{Key}
use Rattle.cov_table.specs.Functions.{same_function, first_units}
use Rattle.cov_table.specs.Grouping.{Function, function_of, is_function}

-- two units are of one function
abbrev pub together : Key × ℕ → Key × ℕ → Bool
together u v = same_function u.0 v.0

abbrev pub differs : Key × ℕ → Key × ℕ → Bool
differs u v = not (together u v)

functions_equiv : IsEquivalence is_function
functions_equiv =
    and_equiv (on_texts_equal (λ (f : Function). f.0))
    (and_equiv (on_texts_equal (λ (f : Function). f.1.0)) (and_equiv (on_texts_equal (λ (f : Function). f.1.1.0)) (on_equiv (λ (f : Function). f.1.1.1) bool_eq_equiv)))

pub together_equiv : IsEquivalence together
together_equiv = on_equiv (λ (u : Key × ℕ). function_of u.0) functions_equiv

-- a unit of another function finds its own among all units where it finds it among those that differ from one
met_apart : (u v : Key × ℕ) (units : List (Key × ℕ)) → together u v ≡ false → list_any (together v) (filter (differs u) units) ≡ list_any (together v) units
met_apart u v units other =
    any-filter_same (together v) (differs u) true
    (λ m same. ap not (together_equiv.symm u m ∙ sym (together_equiv.congr v m u same) ∙ together_equiv.symm v u ∙ other))
    units

-- the first units have a unit of each function
pub met_first : (v : Key × ℕ) (units : List (Key × ℕ)) → list_any (together v) (first_units units) ≡ list_any (together v) units
met_first v [] = refl
met_first v (u ∷ units) =
    ⊎_elim
    (λ same. ap (λ b. b || list_any (together v) (filter (differs u) (first_units units))) same ∙ ap (λ b. b || list_any (together v) units) (sym same))
    (λ other. ap (λ (b : Bool). together v u || b) (met_apart u v (first_units units) (together_equiv.symm u v ∙ other) ∙ met_first v units))
    (cases_Bool (together v u))

abbrev more : Key × ℕ → Bool → List (Key × ℕ)
more v met = cond met [] (v ∷ [])

filtered : (u v : Key × ℕ) (met : Bool) → filter (differs u) (more v met) ≡ more v (together v u || met)
filtered u v true =
    ⊎_elim (λ same. ap (λ b. more v (b || true)) (sym same)) (λ other. ap (λ b. more v (b || true)) (sym other)) (cases_Bool (together v u))
filtered u v false =
    ap (λ b. cond (not b) (v ∷ []) []) (together_equiv.symm u v)
    ∙ elim (together v u) as (λ b. cond (not b) (v ∷ []) [] ≡ more v (b || false)) [ true ↦ refl | false ↦ refl ]

-- one more unit is a first one where its function is new
pub first_units_push : (units : List (Key × ℕ)) (v : Key × ℕ) → first_units (units ++ v ∷ []) ≡ first_units units ++ cond (list_any (together v) units) [] (v ∷ [])
first_units_push [] v = refl
first_units_push (u ∷ units) v =
    ap (λ t. u ∷ filter (differs u) t) (first_units_push units v)
    ∙ ap (λ t. u ∷ t) (filter-append (differs u) (first_units units) (more v (list_any (together v) units)))
    ∙ ap (λ t. u ∷ (filter (differs u) (first_units units) ++ t)) (filtered u v (list_any (together v) units))

-- no function has two units
abbrev pub AreApart : List (Key × ℕ) → Type 0
AreApart [] = Unit {0}
AreApart (u ∷ units) = All (λ v. together u v ≡ false) units × AreApart units

apart_filter : (p : Key × ℕ → Bool) (units : List (Key × ℕ)) → AreApart units → AreApart (filter p units)
apart_filter p [] h = tt
apart_filter p (u ∷ units) h =
    elim (p u) as (λ b. AreApart (cond b (u ∷ filter p units) (filter p units))) [
      | true ↦ (All-filter p (λ v. together u v ≡ false) units h.0, apart_filter p units h.1)
      | false ↦ apart_filter p units h.1
    ]

pub first_units_apart : (units : List (Key × ℕ)) → AreApart (first_units units)
first_units_apart [] = tt
first_units_apart (u ∷ units) = (
  All-weaker (λ v. differs u v ≡ true) (λ v. together u v ≡ false) (λ v e. not-true (together u v) e) (filter (differs u) (first_units units)) (filter_passes (differs u) (first_units units)),
  apart_filter (differs u) (first_units units) (first_units_apart units),
)
