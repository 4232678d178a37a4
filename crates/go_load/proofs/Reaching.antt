-- The packages that are found are those that imports lead to.
use Rattle.std.proofs.Common.{◌≡◌, ℕ, zero, suc, ◌<◌, ◌≤◌, ◌⊎◌, inl, inr, Bool, true, false, cond, List, [], ◌∷◌, ◌++◌, length, take, get_or, Some, None, Ok, refl, sym, ap, subst, ◌∙◌, arith}
use Rattle.std.specs.Prelude.{◌||◌, slice_get}
use Rattle.std.specs.List.{Contains, flat_map, list_any}
use Rattle.std.specs.Str.{bytes_eq}
use Rattle.std.proofs.lemmas.Bool.{cases_lt}
use Rattle.std.proofs.lemmas.List.{get_or-take, length-take-le, take_all}
use Rattle.std.proofs.lemmas.List.Elements.{Contains-append_cases, Contains-append_left, Contains-append_right, Contains-get_or}
use Rattle.std.proofs.lemmas.Slice.Eq.{bytes_eq-Decides}
use Rattle.cov_outside.specs.Tree.{Tree}
use Rattle.cov_bytes.specs.Intern.{with_text}
use Rattle.go_load.specs.Outcome.{ReadsOne}
use Rattle.go_load.specs.Packages.{AreFound, PackageAt, Packages, met, own_imports, with_texts}
use Rattle.go_load.specs.Reachable.{IsReached, first, imported, AreReached}
use Rattle.go_load.specs.Readings.{Reading}
use Rattle.go_load.specs.declared.contents.Found.{Found}
use Rattle.go_load.specs.declared.contents.Home.{Home}
use Rattle.go_load.proofs.Meeting.{get_push, met_later, names_path, texts_front}
use Rattle.go_load.proofs.Single.{ok_one, package_one, some_same}

-- ---- elements of lists

contains_first : {X : Type 0} (x : X) (xs : List X) → Contains (x ∷ xs) x
contains_first x xs = (0, omega arith, refl)

contains_rest : {X : Type 0} (x y : X) (xs : List X) → Contains xs y → Contains (x ∷ xs) y
contains_rest x y xs at = let lt = at.1 in (suc at.0, omega (arith, lt), at.2)

-- what is in a list made of lists is in one of them
in_one : (of : Found → List (List ℕ)) (founds : List Found) (p : List ℕ) → Contains (flat_map of founds) p → (f : Found) × Contains founds f × Contains (of f) p
in_one of [] p at = let lt = at.1 in absurd (omega (arith, lt))
in_one of (f ∷ founds) p at =
    elim (Contains-append_cases (of f) (flat_map of founds) p at) [
      | inl here ↦ (f, contains_first f founds, here)
      | inr later ↦ let there = in_one of founds p later in (there.0, contains_rest f there.0 founds there.1, there.2)
    ]

in_all : (of : Found → List (List ℕ)) (founds : List Found) (k : ℕ) (d f : Found) (p : List ℕ) → k < length founds → get_or founds k d ≡ f → Contains (of f) p → Contains (flat_map of founds) p
in_all of [] k d f p lt at has = absurd (omega (arith, lt))
in_all of (g ∷ founds) zero d f p lt at has = Contains-append_left (of g) (flat_map of founds) p (subst (λ h. Contains (of h) p) (sym at) has)
in_all of (g ∷ founds) (suc k) d f p lt at has = Contains-append_right (of g) (flat_map of founds) p (in_all of founds k d f p (omega (arith, lt)) at has)

get_at : (xs : List (List ℕ)) (k : ℕ) (p : List ℕ) → slice_get xs k ≡ Some p → k < length xs
get_at [] k p is = cc
get_at (x ∷ xs) zero p is = omega arith
get_at (x ∷ xs) (suc k) p is = let lt = get_at xs k p is in omega (arith, lt)

-- behind the last there is none
get_ends : (xs : List (List ℕ)) (n k : ℕ) (p : List ℕ) → slice_get xs n ≡ None → slice_get xs k ≡ Some p → k < n
get_ends [] n k p none is = cc
get_ends (x ∷ xs) zero k p none is = cc
get_ends (x ∷ xs) (suc n) zero p none is = omega arith
get_ends (x ∷ xs) (suc n) (suc k) p none is = let lt = get_ends xs n k p none is in omega (arith, lt)

-- ---- what is met

with_cases : (xs : List (List ℕ)) (t : List ℕ) (b : Bool) (k : ℕ) (p : List ℕ) → slice_get (cond b xs (xs ++ t ∷ [])) k ≡ Some p → (slice_get xs k ≡ Some p) ⊎ (p ≡ t)
with_cases xs t true k p is = inl is
with_cases xs t false k p is =
    elim (get_push xs t k p is) [
      | inl there ↦ inl there
      | inr last ↦ inr last.1
    ]

-- a path was met before, or it is one of those added
texts_cases : (xs ts : List (List ℕ)) (k : ℕ) (p : List ℕ) → slice_get (with_texts xs ts) k ≡ Some p → (slice_get xs k ≡ Some p) ⊎ Contains ts p
texts_cases xs [] k p is = inl is
texts_cases xs (t ∷ ts) k p is =
    elim (texts_cases (with_text xs t) ts k p is) [
      | inl before ↦ elim (with_cases xs t (list_any (bytes_eq t) xs) k p before) [
        | inl there ↦ inl there
        | inr this ↦ inr (subst (λ q. Contains (q ∷ ts) p) this (contains_first p ts))
      ]
      | inr later ↦ inr (contains_rest t p ts later)
    ]

among_by : (x : List ℕ) (xs : List (List ℕ)) (t : List ℕ) (b : Bool) → bytes_eq t x ≡ b → list_any (bytes_eq t) (x ∷ xs) ≡ true → (list_any (bytes_eq t) xs ≡ true → (k : ℕ) × (slice_get xs k ≡ Some t)) → (k : ℕ) × (slice_get (x ∷ xs) k ≡ Some t)
among_by x xs t true is some later = (0, ap (λ y. Some y) (sym ((bytes_eq-Decides t x).0 is)))
among_by x xs t false is some later = let there = later (subst (λ b. (b || list_any (bytes_eq t) xs) ≡ true) is some) in (suc there.0, there.1)

among : (xs : List (List ℕ)) (t : List ℕ) → list_any (bytes_eq t) xs ≡ true → (k : ℕ) × (slice_get xs k ≡ Some t)
among [] t some = cc
among (x ∷ xs) t some = among_by x xs t (bytes_eq t x) refl some (among xs t)

push_last : (xs : List (List ℕ)) (t : List ℕ) → slice_get (xs ++ t ∷ []) (length xs) ≡ Some t
push_last [] t = refl
push_last (x ∷ xs) t = push_last xs t

with_has : (xs : List (List ℕ)) (t : List ℕ) (b : Bool) → list_any (bytes_eq t) xs ≡ b → (k : ℕ) × (slice_get (cond b xs (xs ++ t ∷ [])) k ≡ Some t)
with_has xs t true is = among xs t is
with_has xs t false is = (length xs, push_last xs t)

-- what is added was met then
texts_have : (xs ts : List (List ℕ)) (i : ℕ) (d p : List ℕ) → i < length ts → get_or ts i d ≡ p → (k : ℕ) × (slice_get (with_texts xs ts) k ≡ Some p)
texts_have xs [] i d p lt at = absurd (omega (arith, lt))
texts_have xs (t ∷ ts) zero d p lt at =
    let this = with_has xs t (list_any (bytes_eq t) xs) refl in
    (this.0, texts_front (with_text xs t) ts this.0 p (this.1 ∙ ap (λ y. Some y) at))
texts_have xs (t ∷ ts) (suc i) d p lt at = texts_have (with_text xs t) ts i d p (omega (arith, lt)) at

-- ---- the packages

module _ (gives : Reading) (t : Tree) (home : Home) (founds : List Found) (are : AreFound gives t home founds) where
  -- the path of a package, and what it comes to
  own_path : (k : ℕ) (d : Found) (lt : k < length founds) → (get_or founds k d).path ≡ (are k d lt).0
  own_path k d lt = names_path gives t home (are k d lt).0 _ (get_or founds k d) (are k d lt).2

  told : (k : ℕ) (d : Found) → k < length founds → PackageAt gives t home (get_or founds k d).path (Ok (get_or founds k d))
  told k d lt = subst (λ p. PackageAt gives t home p (Ok (get_or founds k d))) (sym (own_path k d lt)) (are k d lt).2

  from_front : (n : ℕ) (p : List ℕ) (d : Found) → n ≤ length founds → ((i : ℕ) (e : Found) → i < n → IsReached gives t home (get_or founds i e).path) → slice_get (met home (take n founds)) n ≡ Some p → IsReached gives t home p
  from_front n p d le so_far at =
      elim (texts_cases (home.path ∷ []) (flat_map (own_imports home) (take n founds)) n p at) [
        | inl start ↦ at_start n start
        | inr later ↦ by_import (in_one (own_imports home) (take n founds) p later)
      ]
    where
      at_start : (k : ℕ) → slice_get (home.path ∷ []) k ≡ Some p → IsReached gives t home p
      at_start zero is = subst (IsReached gives t home) (some_same home.path p is) first
      at_start (suc k) is = cc

      by_import : (f : Found) × Contains (take n founds) f × Contains (own_imports home f) p → IsReached gives t home p
      by_import (f, (i, lt, is), has) =
          let long : length (take n founds) ≡ n = length-take-le n founds le in
          let below : i < n = omega (arith, lt, long) in
          let same : get_or founds i f ≡ f = sym (get_or-take n founds i f below) ∙ is in
          imported f.path p f (subst (λ g. IsReached gives t home g.path) same (so_far i f below))
          (subst (λ g. PackageAt gives t home g.path (Ok g)) same (told i f (omega (arith, below, le)))) has

  all_reached : (n : ℕ) → n ≤ length founds → (i : ℕ) (e : Found) → i < n → IsReached gives t home (get_or founds i e).path
  all_reached zero le i e lt = absurd (omega (arith, lt))
  all_reached (suc n) le i e lt =
      elim (cases_lt i n) [
        | inl below ↦ all_reached n (omega (arith, le)) i e below
        | inr above ↦
            let last : n ≡ i = omega (arith, lt, above) in
            let here : n < length founds = omega (arith, le) in
            let this = from_front n (are n e here).0 e (omega (arith, le)) (all_reached n (omega (arith, le))) (are n e here).1 in
            subst (λ k. IsReached gives t home (get_or founds k e).path) last (subst (IsReached gives t home) (sym (own_path n e here)) this)
      ]

  -- where nothing is left, each path that was met is that of a package
  covered : (none : slice_get (met home founds) (length founds) ≡ None) (k : ℕ) (p : List ℕ) → slice_get (met home founds) k ≡ Some p → (f : Found) × Contains founds f × (f.path ≡ p)
  covered none k p is = at_place founds refl
    where
      lt : k < length founds
      lt = get_ends (met home founds) (length founds) k p none is

      at_place : (fs : List Found) → founds ≡ fs → (f : Found) × Contains founds f × (f.path ≡ p)
      at_place [] same = let here = lt in let empty : length founds ≡ 0 = ap length same in absurd (omega (arith, here, empty))
      at_place (d ∷ fs) same =
          let this = are k d lt in
          let whole : take (length founds) founds ≡ founds = take_all (length founds) founds (omega arith) in
          let later : slice_get (met home founds) k ≡ Some this.0 =
          subst (λ gs. slice_get (met home gs) k ≡ Some this.0) whole (met_later home founds k (length founds) k this.0 (let below = lt in omega (arith, below)) this.1) in
          (get_or founds k d, Contains-get_or founds k d lt, own_path k d lt ∙ some_same this.0 p (sym later ∙ is))

  -- where reading has one outcome, what imports lead to is found
  all_found : ReadsOne gives → slice_get (met home founds) (length founds) ≡ None → (p : List ℕ) → IsReached gives t home p → (f : Found) × Contains founds f × (f.path ≡ p)
  all_found reads_one none _ first = covered none 0 home.path (texts_front (home.path ∷ []) (flat_map (own_imports home) founds) 0 home.path refl)
  all_found reads_one none _ (imported path other found reached at has) =
      let this = all_found reads_one none path reached in
      let f = this.0 in
      let i = this.1.0 in
      let lt = this.1.1 in
      let there : PackageAt gives t home path (Ok f) =
      subst (λ q. PackageAt gives t home q (Ok f)) this.2 (subst (λ g. PackageAt gives t home g.path (Ok g)) this.1.2 (told i f lt)) in
      let same : f ≡ found = ok_one (PackageAt gives t home path) (package_one gives reads_one t home path) f found there at in
      let own : Contains (own_imports home f) other = subst (λ g. Contains (own_imports home g) other) (sym same) has in
      let among' = in_all (own_imports home) founds i f f other lt this.1.2 own in
      let met' = texts_have (home.path ∷ []) (flat_map (own_imports home) founds) among'.0 other other among'.1 among'.2 in
      covered none met'.0 other met'.1

pub packages_reached : (gives : Reading) (t : Tree) (home : Home) (founds : List Found) → ReadsOne gives → Packages gives t home (Ok founds) → AreReached gives t home founds
packages_reached gives t home founds reads_one packages = record {
  reached = λ found at. subst (λ f. IsReached gives t home f.path) at.2 (all_reached gives t home founds packages.0 (length founds) (omega arith) at.0 found at.1);
  complete = all_found gives t home founds packages.0 reads_one packages.1;
}
