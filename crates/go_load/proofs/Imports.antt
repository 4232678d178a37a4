-- Imports, one after the other.
use Rattle.std.proofs.Common.{◌≡◌, ℕ, zero, suc, ◌+◌, ◌<◌, ⊎_elim, Bool, true, false, cond, List, [], ◌∷◌, ◌++◌, length, take, drop, map, get_or, Option, Some, None, refl, sym, ap, subst, ◌∙◌, arith, rules}
use Rattle.std.specs.Prelude.{find, filter}
use Rattle.std.specs.List.{flat_map}
use Rattle.std.specs.Option.{option_or}
use Rattle.std.specs.Str.{IsUtf8}
use Rattle.std.proofs.lemmas.Bool.{and_parts, or_cases, eqb-true}
use Rattle.std.proofs.lemmas.List.{take_more, length-take, drop_all, append-nil, map-append}
use Rattle.std.proofs.lemmas.List.Concat.{flat_map-append}
use Rattle.std.proofs.lemmas.List.Elements.{filter-append}
use Rattle.std.proofs.lemmas.List.Folds.{find-append}
use Rattle.std.proofs.lemmas.Slice.Eq.{bytes_eq-Decides}
use Rattle.std.proofs.lemmas.Str.{IsUtf8-append, IsUtf8-from_ascii, IsUtf8-from_is_utf8}
use Rattle.cov_bytes.specs.Intern.{with_text}
use Rattle.go_load.specs.Packages.{with_texts, IsPackagePath}
use Rattle.go_load.specs.Paths.{is_own, leads_below}
use Rattle.go_load.specs.declared.contents.Home.{Home}

-- ---- the first that passes

-- one more that doesn't pass
pub find_none : {X : Type 0} (p : X → Bool) (xs ys : List X) → find p xs ≡ None → find p ys ≡ None → find p (xs ++ ys) ≡ None
find_none {X = X} p xs ys none none' = find-append p xs ys ∙ ap (λ (o : Option X). option_or o (find p ys)) none ∙ none'

-- the first that passes comes in the middle
pub find_some : {X : Type 0} (p : X → Bool) (xs ys zs : List X) (x : X) → find p xs ≡ None → find p ys ≡ Some x → find p (xs ++ (ys ++ zs)) ≡ Some x
find_some {X = X} p xs ys zs x none some =
    find-append p xs (ys ++ zs) ∙ ap (λ (o : Option X). option_or o (find p (ys ++ zs))) none
    ∙ find-append p ys zs ∙ ap (λ (o : Option X). option_or o (find p zs)) some

-- ---- paths that are met

pub with_texts-append : (texts ps qs : List (List ℕ)) → with_texts texts (ps ++ qs) ≡ with_texts (with_texts texts ps) qs
with_texts-append texts [] qs = refl
with_texts-append texts (p ∷ ps) qs = with_texts-append (with_text texts p) ps qs

-- ---- paths of packages

slash : IsUtf8 (47 ∷ [])
slash = IsUtf8-from_ascii (47 ∷ []) (search rules)

pub slash_utf8 : (dir name : List ℕ) → IsUtf8 dir → IsUtf8 name → IsUtf8 (dir ++ 47 ∷ name)
slash_utf8 dir name d n = IsUtf8-append dir (47 ∷ name) d (IsUtf8-append (47 ∷ []) name slash n)

-- the module itself
pub home_path : (home : Home) → IsUtf8 home.dir → IsPackagePath home home.path
home_path home utf8 =
    let all : drop (length home.path) home.path ≡ [] = drop_all (length home.path) home.path (omega arith) in
    record { long = omega arith; utf8 = subst (λ (rest : List ℕ). IsUtf8 (home.dir ++ rest)) (sym all) (subst IsUtf8 (sym (append-nil home.dir)) utf8) }

rest_utf8 : (dir rest : List ℕ) → IsUtf8 dir → leads_below rest ≡ true → IsUtf8 (dir ++ rest)
rest_utf8 dir [] d below = cc
rest_utf8 dir (c ∷ rest) d below =
    let parts = and_parts _ _ below in
    let is_slash' : 47 ≡ c = sym (eqb-true c 47 parts.0) in
    subst (λ (x : ℕ). IsUtf8 (dir ++ x ∷ rest)) is_slash' (slash_utf8 dir rest d (IsUtf8-from_is_utf8 rest (and_parts _ _ parts.1).0))

-- a package that is imported
pub own_path : (home : Home) (path : List ℕ) → IsUtf8 home.dir → is_own home.path path ≡ true → IsPackagePath home path
own_path home path utf8 own =
    ⊎_elim
    (λ root. subst (IsPackagePath home) (sym ((bytes_eq-Decides path home.path).0 root)) (home_path home utf8))
    (λ below.
    let parts = and_parts _ _ below in
    let front : take (length home.path) path ≡ home.path = (bytes_eq-Decides (take (length home.path) path) home.path).0 parts.0 in
    let len : length (take (length home.path) path) ≡ length home.path = ap length front in
    record { long = omega (arith, len, length-take (length home.path) path); utf8 = rest_utf8 home.dir (drop (length home.path) path) utf8 parts.1 })
    (or_cases _ _ (and_parts _ _ own).1)

-- ---- one element and those around it

around : {X : Type 0} (xs : List X) (i : ℕ) (x : X) → i < length xs → x ≡ get_or xs i x → xs ≡ take i xs ++ x ∷ drop (suc i) xs
around [] i x lt is = absurd (omega arith)
around (y ∷ ys) zero x lt is = ap (λ z. z ∷ ys) (sym is)
around (y ∷ ys) (suc i) x lt is = ap (λ zs. y ∷ zs) (around ys i x (omega arith) is)

up_to : {X : Type 0} (xs : List X) (i : ℕ) (x : X) → i < length xs → x ≡ get_or xs i x → take (i + 1) xs ≡ take i xs ++ x ∷ []
up_to xs i x lt is = take_more xs i x lt ∙ ap (λ z. take i xs ++ z ∷ []) (sym is)

-- one more of what a list gives
pub gives_more : {X : Type 0} (g : X → List (List ℕ)) (xs : List X) (i : ℕ) (x : X) → i < length xs → x ≡ get_or xs i x → flat_map g (take (i + 1) xs) ≡ flat_map g (take i xs) ++ g x
gives_more g xs i x lt is = ap (flat_map g) (up_to xs i x lt is) ∙ flat_map-append g (take i xs) (x ∷ []) ∙ ap (λ (t : List (List ℕ)). flat_map g (take i xs) ++ t) (append-nil (g x))

pub maps_more : {X : Type 0} (f : X → List ℕ) (xs : List X) (i : ℕ) (x : X) → i < length xs → x ≡ get_or xs i x → map f (take (i + 1) xs) ≡ map f (take i xs) ++ f x ∷ []
maps_more f xs i x lt is = ap (map f) (up_to xs i x lt is) ∙ map-append f (take i xs) (x ∷ [])

-- the first that passes is given by one of them
pub found_among : {X : Type 0} (p : List ℕ → Bool) (g : X → List (List ℕ)) (xs : List X) (i : ℕ) (x : X) (y : List ℕ) → i < length xs → x ≡ get_or xs i x → find p (flat_map g (take i xs)) ≡ None → find p (g x) ≡ Some y → find p (flat_map g xs) ≡ Some y
found_among p g xs i x y lt is none some =
    let whole : flat_map g xs ≡ flat_map g (take i xs) ++ (g x ++ flat_map g (drop (suc i) xs)) = ap (flat_map g) (around xs i x lt is) ∙ flat_map-append g (take i xs) (x ∷ drop (suc i) xs) in
    ap (find p) whole ∙ find_some p (flat_map g (take i xs)) (g x) (flat_map g (drop (suc i) xs)) y none some

pub found_at : {X : Type 0} (p : List ℕ → Bool) (f : X → List ℕ) (xs : List X) (i : ℕ) (x : X) → i < length xs → x ≡ get_or xs i x → find p (map f (take i xs)) ≡ None → p (f x) ≡ true → find p (map f xs) ≡ Some (f x)
found_at p f xs i x lt is none passes =
    let whole : map f xs ≡ map f (take i xs) ++ (f x ∷ [] ++ map f (drop (suc i) xs)) = ap (map f) (around xs i x lt is) ∙ map-append f (take i xs) (x ∷ drop (suc i) xs) in
    let this : find p (f x ∷ []) ≡ Some (f x) = ap (λ (b : Bool). cond b (Some (f x)) None) passes in
    ap (find p) whole ∙ find_some p (map f (take i xs)) (f x ∷ []) (map f (drop (suc i) xs)) (f x) none this

-- one more that doesn't pass
pub none_more : {X : Type 0} (p : List ℕ → Bool) (f : X → List ℕ) (xs : List X) (i : ℕ) (x : X) → i < length xs → x ≡ get_or xs i x → find p (map f (take i xs)) ≡ None → p (f x) ≡ false → find p (map f (take (i + 1) xs)) ≡ None
none_more p f xs i x lt is none fails =
    ap (find p) (maps_more f xs i x lt is) ∙ find_none p (map f (take i xs)) (f x ∷ []) none (ap (λ (b : Bool). cond b (Some (f x)) None) fails)

pub none_given : {X : Type 0} (p : List ℕ → Bool) (g : X → List (List ℕ)) (xs : List X) (i : ℕ) (x : X) → i < length xs → x ≡ get_or xs i x → find p (flat_map g (take i xs)) ≡ None → find p (g x) ≡ None → find p (flat_map g (take (i + 1) xs)) ≡ None
none_given p g xs i x lt is none none' = ap (find p) (gives_more g xs i x lt is) ∙ find_none p (flat_map g (take i xs)) (g x) none none'

-- one more import is met, or is none of the module
pub met_more : {X : Type 0} (own : List ℕ → Bool) (f : X → List ℕ) (xs : List X) (i : ℕ) (x : X) (texts met met' : List (List ℕ)) → i < length xs → x ≡ get_or xs i x → own (f x) ≡ true → met ≡ with_texts texts (filter own (map f (take i xs))) → met' ≡ with_text met (f x)
    → met' ≡ with_texts texts (filter own (map f (take (i + 1) xs)))
met_more own f xs i x texts met met' lt is yes' so_far meets =
    let front = map f (take i xs) in
    let this : filter own (f x ∷ []) ≡ f x ∷ [] = ap (λ (b : Bool). cond b (f x ∷ []) []) yes' in
    meets ∙ ap (λ (m : List (List ℕ)). with_text m (f x)) so_far
    ∙ sym (with_texts-append texts (filter own front) (f x ∷ []))
    ∙ ap (with_texts texts) (ap (λ (t : List (List ℕ)). filter own front ++ t) (sym this) ∙ sym (filter-append own front (f x ∷ [])) ∙ ap (filter own) (sym (maps_more f xs i x lt is)))

pub not_met : {X : Type 0} (own : List ℕ → Bool) (f : X → List ℕ) (xs : List X) (i : ℕ) (x : X) (texts met : List (List ℕ)) → i < length xs → x ≡ get_or xs i x → own (f x) ≡ false → met ≡ with_texts texts (filter own (map f (take i xs)))
    → met ≡ with_texts texts (filter own (map f (take (i + 1) xs)))
not_met own f xs i x texts met lt is no' so_far =
    let front = map f (take i xs) in
    let this : filter own (f x ∷ []) ≡ [] = ap (λ (b : Bool). cond b (f x ∷ []) []) no' in
    so_far
    ∙ ap (with_texts texts) (sym (append-nil (filter own front)) ∙ ap (λ (t : List (List ℕ)). filter own front ++ t) (sym this) ∙ sym (filter-append own front (f x ∷ [])) ∙ ap (filter own) (sym (maps_more f xs i x lt is)))

-- the imports of one more file are met
pub all_met_more : {X : Type 0} (own : List ℕ → Bool) (g : X → List (List ℕ)) (xs : List X) (i : ℕ) (x : X) (texts met met' : List (List ℕ)) → i < length xs → x ≡ get_or xs i x → met ≡ with_texts texts (filter own (flat_map g (take i xs))) → met' ≡ with_texts met (filter own (g x))
    → met' ≡ with_texts texts (filter own (flat_map g (take (i + 1) xs)))
all_met_more own g xs i x texts met met' lt is so_far meets =
    let front = flat_map g (take i xs) in
    meets ∙ ap (λ (m : List (List ℕ)). with_texts m (filter own (g x))) so_far
    ∙ sym (with_texts-append texts (filter own front) (filter own (g x)))
    ∙ ap (with_texts texts) (sym (filter-append own front (g x)) ∙ ap (filter own) (sym (gives_more g xs i x lt is)))
