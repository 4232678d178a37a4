-- Packages taken by number, one after the other.
use Rattle.std.proofs.Common.{◌≡◌, ℕ, zero, suc, ◌+◌, ◌<◌, List, [], ◌∷◌, ◌++◌, length, take, map, get_or, set, Option, Some, None, refl, sym, ap, subst, ◌∙◌}
use Rattle.std.specs.Prelude.{slice_get}
use Rattle.std.specs.List.{Contains, cons_option, flat_map}
use Rattle.std.proofs.lemmas.List.{take_more, get_or-set_other, map-append, append-nil}
use Rattle.std.proofs.lemmas.List.Concat.{flat_map-append}
use Rattle.std.proofs.lemmas.List.Elements.{Contains-append_left, Contains-push, filter_map-append}
use Rattle.go_ast.specs.declared.«module».Package.{Package}
use Rattle.go_load.specs.Loading.{module_package, texts_of, with_numbers}
use Rattle.go_load.specs.declared.contents.Found.{Found}

pub slots_get : {X : Type 0} (xs : List X) (k : ℕ) → get_or (map (λ x. Some x) xs) k None ≡ slice_get xs k
slots_get [] k = refl
slots_get (x ∷ xs) zero = refl
slots_get (x ∷ xs) (suc k) = slots_get xs k

-- what is left behind a package that is taken
pub left_more : (slots : List (Option Found)) (founds : List Found) (order : List ℕ) (i n d : ℕ) → i < length order → n ≡ get_or order i d
    → ((k : ℕ) → (Contains (take i order) k → ⊥) → get_or slots k None ≡ slice_get founds k)
    → (k : ℕ) → (Contains (take (i + 1) order) k → ⊥) → get_or (set slots n None) k None ≡ slice_get founds k
left_more slots founds order i n d lt is left k apart =
    let more : take (i + 1) order ≡ take i order ++ n ∷ [] = take_more order i d lt ∙ ap (λ m. take i order ++ m ∷ []) (sym is) in
    let apart' : Contains (take i order ++ n ∷ []) k → ⊥ = subst (λ ns. Contains ns k → ⊥) more apart in
    let other : k ≡ n → ⊥ = λ same. apart' (subst (Contains (take i order ++ n ∷ [])) (sym same) (Contains-push (take i order) n)) in
    get_or-set_other slots n k None None other ∙ left k (λ there. apart' (Contains-append_left (take i order) (n ∷ []) k there))

-- one number more: its package comes last
pub numbers_more : (founds : List Found) (order : List ℕ) (i n d : ℕ) (found : Found) → i < length order → n ≡ get_or order i d → slice_get founds n ≡ Some found
    → with_numbers founds (take (i + 1) order) ≡ with_numbers founds (take i order) ++ found ∷ []
numbers_more founds order i n d found lt is there =
    ap (with_numbers founds) (take_more order i d lt) ∙ filter_map-append (slice_get founds) (take i order) (get_or order i d ∷ [])
    ∙ ap (λ o. with_numbers founds (take i order) ++ cons_option o []) (ap (slice_get founds) (sym is) ∙ there)

-- a number without a package
pub numbers_same : (founds : List Found) (order : List ℕ) (i n d : ℕ) → i < length order → n ≡ get_or order i d → slice_get founds n ≡ None
    → with_numbers founds (take (i + 1) order) ≡ with_numbers founds (take i order)
numbers_same founds order i n d lt is there =
    ap (with_numbers founds) (take_more order i d lt) ∙ filter_map-append (slice_get founds) (take i order) (get_or order i d ∷ [])
    ∙ ap (λ o. with_numbers founds (take i order) ++ cons_option o []) (ap (slice_get founds) (sym is) ∙ there)
    ∙ append-nil (with_numbers founds (take i order))

pub packages_more : (founds later : List Found) (found : Found) (packages : List Package) → later ≡ founds ++ found ∷ [] → packages ≡ map module_package founds → packages ++ module_package found ∷ [] ≡ map module_package later
packages_more founds later found packages more so_far = ap (λ ps. ps ++ module_package found ∷ []) so_far ∙ sym (map-append module_package founds (found ∷ [])) ∙ ap (map module_package) (sym more)

pub texts_more : (founds later : List Found) (found : Found) (texts : List (List ℕ)) → later ≡ founds ++ found ∷ [] → texts ≡ flat_map texts_of founds → texts ++ texts_of found ≡ flat_map texts_of later
texts_more founds later found texts more so_far =
    ap (λ ts. ts ++ texts_of found) so_far ∙ ap (λ t. flat_map texts_of founds ++ t) (sym (append-nil (texts_of found)))
    ∙ sym (flat_map-append texts_of founds (found ∷ [])) ∙ ap (flat_map texts_of) (sym more)
