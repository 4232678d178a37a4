-- Packages that are met have paths apart.
use Rattle.std.proofs.Common.{◌≡◌, ℕ, zero, suc, ◌≤◌, ◌⊎◌, inl, inr, Bool, true, false, cond, List, [], ◌∷◌, ◌++◌, length, take, drop, get_or, Option, Some, None, Ok, refl, sym, ap, subst, ◌∙◌, arith}
use Rattle.std.specs.Prelude.{◌||◌, slice_get}
use Rattle.std.specs.List.{list_any, flat_map}
use Rattle.std.specs.Str.{bytes_eq}
use Rattle.std.proofs.lemmas.List.{take-append-drop, take-take}
use Rattle.std.proofs.lemmas.List.Concat.{flat_map-append}
use Rattle.std.proofs.lemmas.Slice.Eq.{bytes_eq-Decides}
use Rattle.cov_outside.specs.Tree.{Tree}
use Rattle.cov_bytes.specs.Intern.{with_text}
use Rattle.go_load.specs.Loading.{ArePathsApart}
use Rattle.go_load.specs.Packages.{AreFound, FromNames, met, or_found, own_imports, with_texts}
use Rattle.go_load.specs.Readings.{Reading}
use Rattle.go_load.specs.declared.contents.Found.{Found}
use Rattle.go_load.specs.declared.contents.Home.{Home}
use Rattle.go_load.specs.declared.refusal.LoadRefusal.{LoadRefusal}
use Rattle.go_load.proofs.Imports.{with_texts-append}

-- ---- texts of which none comes again

Once : List (List ℕ) → Type 0
Once texts = (i j : ℕ) (p : List ℕ) → slice_get texts i ≡ Some p → slice_get texts j ≡ Some p → i ≡ j

pub get_front : (xs ys : List (List ℕ)) (k : ℕ) (p : List ℕ) → slice_get xs k ≡ Some p → slice_get (xs ++ ys) k ≡ Some p
get_front [] ys k p is = cc
get_front (x ∷ xs) ys zero p is = is
get_front (x ∷ xs) ys (suc k) p is = get_front xs ys k p is

pub get_push : (xs : List (List ℕ)) (t : List ℕ) (k : ℕ) (p : List ℕ) → slice_get (xs ++ t ∷ []) k ≡ Some p → (slice_get xs k ≡ Some p) ⊎ ((k ≡ length xs) × (p ≡ t))
get_push [] t zero p is = inr (refl, cc)
get_push [] t (suc k) p is = cc
get_push (x ∷ xs) t zero p is = inl is
get_push (x ∷ xs) t (suc k) p is =
    elim (get_push xs t k p is) [
      | inl there ↦ inl there
      | inr last ↦ inr (omega (arith, last.0), last.1)
    ]

differs : (a b : Bool) → (a || b) ≡ false → a ≡ true → ⊥
differs true b none is = cc
differs false b none is = cc

rest : (a b : Bool) → (a || b) ≡ false → b ≡ false
rest true b none = cc
rest false b none = none

not_among : (xs : List (List ℕ)) (t : List ℕ) (k : ℕ) → list_any (bytes_eq t) xs ≡ false → slice_get xs k ≡ Some t → ⊥
not_among [] t k none is = cc
not_among (x ∷ xs) t zero none is = differs (bytes_eq t x) (list_any (bytes_eq t) xs) none ((bytes_eq-Decides t x).1 cc)
not_among (x ∷ xs) t (suc k) none is = not_among xs t k (rest (bytes_eq t x) (list_any (bytes_eq t) xs) none) is

push_once : (xs : List (List ℕ)) (t : List ℕ) → list_any (bytes_eq t) xs ≡ false → Once xs → Once (xs ++ t ∷ [])
unfolding Once
push_once xs t none once i j p at_i at_j =
    elim (get_push xs t i p at_i) [
      | inl here ↦ elim (get_push xs t j p at_j) [
        | inl there ↦ once i j p here there
        | inr last ↦ absurd (not_among xs t i none (here ∙ ap (λ q. Some q) last.1))
      ]
      | inr last ↦ elim (get_push xs t j p at_j) [
        | inl there ↦ absurd (not_among xs t j none (there ∙ ap (λ q. Some q) last.1))
        | inr also ↦ last.0 ∙ sym also.0
      ]
    ]

with_once : (xs : List (List ℕ)) (t : List ℕ) (b : Bool) → list_any (bytes_eq t) xs ≡ b → Once xs → Once (cond b xs (xs ++ t ∷ []))
with_once xs t true is once = once
with_once xs t false is once = push_once xs t is once

texts_once : (xs ts : List (List ℕ)) → Once xs → Once (with_texts xs ts)
texts_once xs [] once = once
texts_once xs (t ∷ ts) once = texts_once (with_text xs t) ts (with_once xs t (list_any (bytes_eq t) xs) refl once)

single_once : (t : List ℕ) → Once (t ∷ [])
unfolding Once
single_once t zero zero p at_i at_j = refl
single_once t zero (suc j) p at_i at_j = cc
single_once t (suc i) j p at_i at_j = cc

met_once : (home : Home) (founds : List Found) → Once (met home founds)
met_once home founds = texts_once (home.path ∷ []) (flat_map (own_imports home) founds) (single_once home.path)

-- ---- what was met stays

with_front : (xs : List (List ℕ)) (t : List ℕ) (b : Bool) (k : ℕ) (p : List ℕ) → slice_get xs k ≡ Some p → slice_get (cond b xs (xs ++ t ∷ [])) k ≡ Some p
with_front xs t true k p is = is
with_front xs t false k p is = get_front xs (t ∷ []) k p is

pub texts_front : (xs ts : List (List ℕ)) (k : ℕ) (p : List ℕ) → slice_get xs k ≡ Some p → slice_get (with_texts xs ts) k ≡ Some p
texts_front xs [] k p is = is
texts_front xs (t ∷ ts) k p is = texts_front (with_text xs t) ts k p (with_front xs t (list_any (bytes_eq t) xs) k p is)

met_more : (home : Home) (founds others : List Found) (k : ℕ) (p : List ℕ) → slice_get (met home founds) k ≡ Some p → slice_get (met home (founds ++ others)) k ≡ Some p
met_more home founds others k p is =
    let own = flat_map (own_imports home) in
    let joined : met home (founds ++ others) ≡ with_texts (met home founds) (own others) =
    ap (with_texts (home.path ∷ [])) (flat_map-append (own_imports home) founds others) ∙ with_texts-append (home.path ∷ []) (own founds) (own others) in
    subst (λ ts. slice_get ts k ≡ Some p) (sym joined) (texts_front (met home founds) (own others) k p is)

pub met_later : (home : Home) (founds : List Found) (i j k : ℕ) (p : List ℕ) → i ≤ j → slice_get (met home (take i founds)) k ≡ Some p → slice_get (met home (take j founds)) k ≡ Some p
met_later home founds i j k p le is =
    let parts : take i founds ++ drop i (take j founds) ≡ take j founds = ap (λ fs. fs ++ drop i (take j founds)) (sym (take-take i j founds le)) ∙ take-append-drop i (take j founds) in
    subst (λ fs. slice_get (met home fs) k ≡ Some p) parts (met_more home (take i founds) (drop i (take j founds)) k p is)

-- ---- the path of a package

made_same : (made found : Found) → Ok made ≡ or_found None found → made ≡ found
made_same made found is = cc

path_kept : (flaw : Option LoadRefusal) (found made : Found) → Ok made ≡ or_found flaw found → made.path ≡ found.path
path_kept None found made is = ap (λ f. f.path) (made_same made found is)
path_kept (Some e) found made is = cc

pub names_path : (gives : Reading) (t : Tree) (home : Home) (path : List ℕ) (names : List (List ℕ)) (found : Found) → FromNames gives t home path names (Ok found) → found.path ≡ path
names_path gives t home path [] found is = cc
names_path gives t home path (name ∷ names) found (sources, read, made) = path_kept _ _ found made

-- ---- all packages

pub paths_apart : (gives : Reading) (t : Tree) (home : Home) (founds : List Found) → AreFound gives t home founds → ArePathsApart founds
unfolding Once
paths_apart gives t home founds are i j d lt in_range eq =
    let first = are i d (omega (arith, lt, in_range)) in
    let second = are j d in_range in
    let path_i : (get_or founds i d).path ≡ first.0 = names_path gives t home first.0 _ (get_or founds i d) first.2 in
    let path_j : (get_or founds j d).path ≡ second.0 = names_path gives t home second.0 _ (get_or founds j d) second.2 in
    let at_i : slice_get (met home (take j founds)) i ≡ Some second.0 = met_later home founds i j i first.0 (omega (arith, lt)) first.1 ∙ ap (λ q. Some q) (sym path_i ∙ eq ∙ path_j) in
    let same : i ≡ j = met_once home (take j founds) i j second.0 at_i second.1 in
    omega (arith, same, lt)
