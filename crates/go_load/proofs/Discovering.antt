-- Packages that are found one after the other.
use Rattle.std.proofs.Common.{◌≡◌, ℕ, ◌+◌, ◌≤◌, ⊎_elim, Bool, true, false, cond, All, List, [], ◌∷◌, ◌++◌, length, take, get_or, Option, Some, None, Ok, sym, ap, subst, ◌∙◌, arith}
use Rattle.std.specs.Prelude.{IfSome, slice_get}
use Rattle.std.specs.List.{list_any, flat_map}
use Rattle.std.specs.Str.{IsUtf8, bytes_eq}
use Rattle.std.proofs.lemmas.Bool.{cases_lt}
use Rattle.std.proofs.lemmas.List.{take-append-le, take_all, get_or_append_left, get_or_push, length_push, append-nil}
use Rattle.std.proofs.lemmas.List.Concat.{flat_map-append}
use Rattle.std.proofs.lemmas.List.Elements.{All-nil, All-cons, All-head, All-tail, All-push, All-weaker, filter_passes}
use Rattle.cov_outside.specs.Tree.{Tree}
use Rattle.cov_bytes.specs.Intern.{with_text}
use Rattle.go_load.specs.Packages.{AreFound, IsPackagePath, NextOf, PackageAt, Packages, RefusedBehind, met, own_imports, imports_of, with_texts}
use Rattle.go_load.specs.Paths.{is_own}
use Rattle.go_load.specs.Readings.{Reading}
use Rattle.go_load.specs.Refusals.{Refuses}
use Rattle.go_load.specs.declared.contents.Found.{Found}
use Rattle.go_load.specs.declared.contents.Home.{Home}
use Rattle.go_load.specs.declared.refusal.LoadRefusal.{LoadRefusal}
use Rattle.go_load.proofs.Imports.{home_path, own_path, with_texts-append}
use Rattle.go_load.proofs.Steps.{refuses_also, some_both}

-- ---- paths that are met

with_path : (P : List ℕ → Type 0) (texts : List (List ℕ)) (p : List ℕ) (b : Bool) → All P texts → P p → All P (cond b texts (texts ++ p ∷ []))
with_path P texts p true all this = all
with_path P texts p false all this = All-push P texts p all this

with_paths : (P : List ℕ → Type 0) (texts ps : List (List ℕ)) → All P texts → All P ps → All P (with_texts texts ps)
with_paths P texts [] all these = all
with_paths P texts (p ∷ ps) all these =
    with_paths P (with_text texts p) ps (with_path P texts p (list_any (bytes_eq p) texts) all (All-head P p ps these)) (All-tail P p ps these)

-- those of the first package
pub first_met : (home : Home) → IsUtf8 home.dir → (paths : List (List ℕ)) → paths ≡ with_text [] home.path → All (IsPackagePath home) paths
first_met home utf8 paths is = subst (All (IsPackagePath home)) (sym is) (All-cons (IsPackagePath home) home.path [] (home_path home utf8) (All-nil (IsPackagePath home)))

-- and those of one more
pub more_met : (home : Home) (found : Found) (paths paths' : List (List ℕ)) → IsUtf8 home.dir → paths' ≡ with_texts paths (own_imports home found) → All (IsPackagePath home) paths → All (IsPackagePath home) paths'
more_met home found paths paths' utf8 is all =
    let imports = imports_of found.sources in
    subst (All (IsPackagePath home)) (sym is)
    (with_paths (IsPackagePath home) paths (own_imports home found) all
    (All-weaker (λ p. is_own home.path p ≡ true) (IsPackagePath home) (λ p own. own_path home p utf8 own) (own_imports home found) (filter_passes (is_own home.path) imports)))

pub met_one_more : (home : Home) (founds : List Found) (found : Found) (paths paths' : List (List ℕ)) → paths ≡ met home founds → paths' ≡ with_texts paths (own_imports home found) → paths' ≡ met home (founds ++ found ∷ [])
met_one_more home founds found paths paths' so_far is =
    is ∙ ap (λ ps. with_texts ps (own_imports home found)) so_far
    ∙ sym (with_texts-append (home.path ∷ []) (flat_map (own_imports home) founds) (own_imports home found))
    ∙ ap (with_texts (home.path ∷ [])) (sym (flat_map-append (own_imports home) founds (found ∷ []) ∙ ap (λ t. flat_map (own_imports home) founds ++ t) (append-nil (own_imports home found))))

-- ---- packages that are found

one_more_found : (gives : Reading) (t : Tree) (home : Home) (founds : List Found) (found : Found) → AreFound gives t home founds → (path : List ℕ) → slice_get (met home founds) (length founds) ≡ Some path → PackageAt gives t home path (Ok found)
    → AreFound gives t home (founds ++ found ∷ [])
one_more_found gives t home founds found are path next this k d lt =
    ⊎_elim
    (λ below.
    let le : k ≤ length founds = omega arith in
    let front : take k (founds ++ found ∷ []) ≡ take k founds = take-append-le k founds (found ∷ []) le in
    let at : get_or (founds ++ found ∷ []) k d ≡ get_or founds k d = get_or_append_left founds (found ∷ []) d k below in
    subst (λ fs. (p : List ℕ) × (slice_get (met home fs) k ≡ Some p) × PackageAt gives t home p (Ok (get_or (founds ++ found ∷ []) k d))) (sym front)
    (subst (λ f. (p : List ℕ) × (slice_get (met home (take k founds)) k ≡ Some p) × PackageAt gives t home p (Ok f)) (sym at) (are k d below)))
    (λ above.
    let len : length (founds ++ found ∷ []) ≡ length founds + 1 = length_push founds found in
    let last : length founds ≡ k = omega arith in
    let le : k ≤ length founds = omega arith in
    let front : take k (founds ++ found ∷ []) ≡ founds = take-append-le k founds (found ∷ []) le ∙ take_all k founds (omega arith) in
    let at : get_or (founds ++ found ∷ []) k d ≡ found = get_or_push founds found d k last in
    subst (λ fs. (p : List ℕ) × (slice_get (met home fs) k ≡ Some p) × PackageAt gives t home p (Ok (get_or (founds ++ found ∷ []) k d))) (sym front)
    (subst (λ f. (p : List ℕ) × (slice_get (met home founds) k ≡ Some p) × PackageAt gives t home p (Ok f)) (sym at) (path, subst (λ n. slice_get (met home founds) n ≡ Some path) last next, this)))
    (cases_lt k (length founds))

pub none_found : (gives : Reading) (t : Tree) (home : Home) → AreFound gives t home []
none_found gives t home k d lt = absurd (omega arith)

-- the next is found
pub found_grows : (gives : Reading) (home : Home) (o now : Option Tree) (founds later : List Found) (found : Found) (paths : List (List ℕ)) (n : ℕ) → now ≡ o → n ≡ length founds → paths ≡ met home founds → later ≡ founds ++ found ∷ []
    → IfSome o (λ t. AreFound gives t home founds) → IfSome now (λ t. NextOf gives t home paths n (Ok (Some found))) → IfSome o (λ t. AreFound gives t home later)
found_grows gives home o now founds later found paths n same len is push so_far next =
    some_both (λ t. AreFound gives t home founds) (λ t. NextOf gives t home paths n (Ok (Some found))) (λ t. AreFound gives t home later) o
    (λ t are this. subst (AreFound gives t home) (sym push) (one_more_found gives t home founds found are this.0 (subst (λ ps. slice_get ps (length founds) ≡ Some this.0) is (subst (λ k. slice_get paths k ≡ Some this.0) len this.1)) this.2))
    so_far (subst (λ p. IfSome p (λ t. NextOf gives t home paths n (Ok (Some found)))) same next)

-- there is no next
pub found_ends : (gives : Reading) (home : Home) (o now : Option Tree) (founds : List Found) (paths : List (List ℕ)) (n : ℕ) → now ≡ o → n ≡ length founds → paths ≡ met home founds → length founds ≤ 1000
    → IfSome o (λ t. AreFound gives t home founds) → IfSome now (λ t. NextOf gives t home paths n (Ok None)) → IfSome o (λ t. Packages gives t home (Ok founds))
found_ends gives home o now founds paths n same len is few so_far next =
    some_both (λ t. AreFound gives t home founds) (λ t. NextOf gives t home paths n (Ok None)) (λ t. Packages gives t home (Ok founds)) o
    (λ t are this. (are, subst (λ ps. slice_get ps (length founds) ≡ None) is (subst (λ k. slice_get paths k ≡ None) len this), few))
    so_far (subst (λ p. IfSome p (λ t. NextOf gives t home paths n (Ok None))) same next)

-- the next is refused
pub found_refused : (gives : Reading) (home : Home) (o now : Option Tree) (founds : List Found) (paths : List (List ℕ)) (n : ℕ) (e : LoadRefusal) → now ≡ o → n ≡ length founds → paths ≡ met home founds
    → IfSome o (λ t. AreFound gives t home founds) → IfSome now (λ t. Refuses e (NextOf gives t home paths n)) → IfSome o (λ t. Refuses e (Packages gives t home))
found_refused gives home o now founds paths n e same len is so_far next =
    some_both (λ t. AreFound gives t home founds) (λ t. Refuses e (NextOf gives t home paths n)) (λ t. Refuses e (Packages gives t home)) o
    (λ t are this.
    refuses_also e (NextOf gives t home paths n) (Packages gives t home)
    (λ r. (founds, r.0, are, subst (λ ps. slice_get ps (length founds) ≡ Some r.0) is (subst (λ k. slice_get paths k ≡ Some r.0) len r.1), subst (λ k. RefusedBehind gives t home k r.0 e) len r.2))
    this)
    so_far (subst (λ p. IfSome p (λ t. Refuses e (NextOf gives t home paths n))) same next)
