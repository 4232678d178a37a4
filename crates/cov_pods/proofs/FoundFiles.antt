-- The files found, one name or one directory further.
use Rattle.std.proofs.Common.{◌≡◌, ℕ, ◌+◌, ◌<◌, List, [], ◌∷◌, ◌++◌, Option, Some, None, length, get_or, take, sym, ap, ◌∙◌, subst}
use Rattle.std.specs.Prelude.{filter_map, option_map}
use Rattle.std.specs.List.{cons_option}
use Rattle.std.proofs.lemmas.List.{take_more, append-nil, append_assoc}
use Rattle.std.proofs.lemmas.List.Elements.{filter_map-append}
use Rattle.std.proofs.lemmas.List.Concat.{flat_map-append}
use Rattle.cov_pods.specs.declared.pod.DirNames.{DirNames}
use Rattle.cov_pods.specs.Pods.{Found, file_in, found_in, found}

-- the files under the first names of a directory
abbrev pub found_before : (List ℕ → Option (List ℕ)) → DirNames → ℕ → List Found
found_before hash_of d n = filter_map (λ name. option_map (file_in d.dir name) (hash_of name)) (take n d.names)

name_more : (hash_of : List ℕ → Option (List ℕ)) (d : DirNames) (items : List (List ℕ)) (i : ℕ) (name : List ℕ) → items ≡ d.names → i < length items → name ≡ get_or items i name
    → found_before hash_of d (i + 1) ≡ found_before hash_of d i ++ cons_option (option_map (file_in d.dir name) (hash_of name)) []
name_more hash_of d items i name e lt is =
    let h : List ℕ → Option Found = λ n. option_map (file_in d.dir n) (hash_of n) in
    let more : take (i + 1) items ≡ take i items ++ name ∷ [] = take_more items i name lt ∙ ap (λ (x : List ℕ). take i items ++ x ∷ []) (sym is) in
    let there : take (i + 1) d.names ≡ take i d.names ++ name ∷ [] = subst (λ (xs : List (List ℕ)). take (i + 1) xs ≡ take i xs ++ name ∷ []) e more in
    ap (filter_map h) there ∙ filter_map-append h (take i d.names) (name ∷ [])

-- a name with a hash adds its file to those found before
pub named : (before : List Found) (hash_of : List ℕ → Option (List ℕ)) (d : DirNames) (items : List (List ℕ)) (i : ℕ) (name hash : List ℕ) → items ≡ d.names → i < length items → name ≡ get_or items i name
    → Some hash ≡ hash_of name → (before ++ found_before hash_of d i) ++ file_in d.dir name hash ∷ [] ≡ before ++ found_before hash_of d (i + 1)
named before hash_of d items i name hash e lt is has =
    append_assoc before (found_before hash_of d i) (file_in d.dir name hash ∷ [])
    ∙ ap (λ (t : List Found). before ++ t)
    (ap (λ (o : Option (List ℕ)). found_before hash_of d i ++ cons_option (option_map (file_in d.dir name) o) []) has
    ∙ sym (name_more hash_of d items i name e lt is))

-- another name adds nothing
pub unnamed : (before : List Found) (hash_of : List ℕ → Option (List ℕ)) (d : DirNames) (items : List (List ℕ)) (i : ℕ) (name : List ℕ) → items ≡ d.names → i < length items → name ≡ get_or items i name
    → None ≡ hash_of name → before ++ found_before hash_of d i ≡ before ++ found_before hash_of d (i + 1)
unnamed before hash_of d items i name e lt is has =
    ap (λ (t : List Found). before ++ t)
    (sym (append-nil (found_before hash_of d i))
    ∙ ap (λ (o : Option (List ℕ)). found_before hash_of d i ++ cons_option (option_map (file_in d.dir name) o) []) has
    ∙ sym (name_more hash_of d items i name e lt is))

pub dir_more : (hash_of : List ℕ → Option (List ℕ)) (dirs : List DirNames) (i : ℕ) (d : DirNames) → i < length dirs → d ≡ get_or dirs i d
    → found hash_of (take (i + 1) dirs) ≡ found hash_of (take i dirs) ++ found_in hash_of d
dir_more hash_of dirs i d lt is =
    ap (found hash_of) (take_more dirs i d lt ∙ ap (λ (x : DirNames). take i dirs ++ x ∷ []) (sym is))
    ∙ flat_map-append (found_in hash_of) (take i dirs) (d ∷ [])
    ∙ ap (λ (t : List Found). found hash_of (take i dirs) ++ t) (append-nil (found_in hash_of d))
