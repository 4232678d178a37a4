-- Names directly in a directory.
use Rattle.std.proofs.Common.{◌≡◌, ◌≢◌, ℕ, ◌+◌, Bool, true, false, cond, ◌&&◌, eqb, List, [], ◌∷◌, ◌++◌, length, take, drop, get_or, ◌<◌, map, subst, Option, Some, None, MatchOption, Bor, refl, sym, ap, ◌∙◌, arith}
use Rattle.std.specs.Prelude.{nat_eq}
use Rattle.std.proofs.lemmas.Bool.{eqb-true, eq-eqb}
use Rattle.std.proofs.lemmas.Bool.Decides.{Decides-eqb}
use Rattle.std.proofs.lemmas.Slice.Eq.{strip_prefix_is}
use Rattle.std.specs.Cmp.Lexicographic.{pointwise}
use Rattle.std.specs.Str.{IsUtf8}
use Rattle.std.specs.List.{filter_map, cons_option}
use Rattle.std.specs.Option.{option_to_list, option_copied}
use Rattle.std.specs.Prelude.{IfSome, All}
use Rattle.std.proofs.lemmas.List.Elements.{All-push}
use Rattle.std.proofs.lemmas.Str.{IsUtf8-drop, IsCharBoundary-after_ascii}
use Rattle.std.proofs.lemmas.List.{take_more, map_push, length-append, drop_at, append_assoc}
use Rattle.std.proofs.lemmas.List.Elements.{filter_map-append}
use Rattle.cov_outside.specs.Tree.{name_in, is_name}
use Rattle.cov_outside.specs.declared.entries.Entry.{Entry}
use Rattle.cov_outside.specs.Memory.{pairs_of, pair_of}
use Rattle.std.specs.String.{string_bytes}

past_dir : (dir rest : List ℕ) → name_in dir (dir ++ rest) ≡ name_in [] rest
past_dir [] rest = refl
past_dir (d ∷ dir) rest = rw (eq-eqb d d refl) (past_dir dir rest)

not_in : (dir path : List ℕ) → ((rest : List ℕ) → path ≢ dir ++ rest) → name_in dir path ≡ None
not_in [] path h = absurd (h path refl)
not_in (d ∷ dir) [] h = refl
not_in (d ∷ dir) (c ∷ path) h =
    elim (eqb c d) as (λ b. eqb c d ≡ b → cond b (name_in dir path) None ≡ None) [
      | true ↦ λ e. not_in dir path (λ rest same. h rest (ap (λ (x : ℕ). x ∷ path) (eqb-true c d e) ∙ ap (λ (t : List ℕ). d ∷ t) same))
      | false ↦ λ e. refl
    ] refl

stripped : (dir path : List ℕ) (r : Option (Bor (List ℕ))) → MatchOption r ((rest : List ℕ) → path ≢ dir ++ rest) (λ x. path ≡ dir ++ x.now)
    → MatchOption r (name_in dir path ≡ None) (λ x. name_in dir path ≡ name_in [] x.now)
stripped dir path None h = not_in dir path h
stripped dir path (Some x) h = ap (name_in dir) h ∙ past_dir dir x.now

pub behind_dir : (dir path : List ℕ) (r : Option (Bor (List ℕ)))
    → MatchOption r (pointwise nat_eq (take (length dir) path) dir ≡ false) (λ x. (pointwise nat_eq (take (length dir) path) dir ≡ true) × (x.now ≡ drop (length dir) path) × (length x.now + length dir ≡ length path))
    → MatchOption r (name_in dir path ≡ None) (λ x. name_in dir path ≡ name_in [] x.now)
behind_dir dir path r h = stripped dir path r (strip_prefix_is Decides-eqb path dir r h)

some_is : (b : Bool) (x name : List ℕ) → cond b (Some x) None ≡ Some name → (b ≡ true) × (x ≡ name)
some_is true x name e = (refl, cc)
some_is false x name e = absurd cc

and_first : (a b : Bool) → (a && b) ≡ true → a ≡ true
and_first true b e = refl
and_first false b e = absurd cc

-- a path with a name in a directory is the directory, a slash and the name
pub whole_path : (dir path name : List ℕ) → name_in dir path ≡ Some name → path ≡ dir ++ 47 ∷ name
whole_path [] [] name e = absurd cc
whole_path [] (c ∷ path) name e =
    let s = some_is (eqb c 47 && is_name path) path name e in
    ap (λ (x : ℕ). x ∷ path) (eqb-true c 47 (and_first (eqb c 47) (is_name path) s.0)) ∙ ap (λ (t : List ℕ). 47 ∷ t) s.1
whole_path (d ∷ dir) [] name e = absurd cc
whole_path (d ∷ dir) (c ∷ path) name e =
    elim (eqb c d) as (λ b. eqb c d ≡ b → cond b (name_in dir path) None ≡ Some name → c ∷ path ≡ (d ∷ dir) ++ 47 ∷ name) [
      | true ↦ λ same f. ap (λ (x : ℕ). x ∷ path) (eqb-true c d same) ∙ ap (λ (t : List ℕ). d ∷ t) (whole_path dir path name f)
      | false ↦ λ same f. absurd cc
    ] refl e

at_seam : (xs ys : List ℕ) (y : ℕ) → get_or (xs ++ y ∷ ys) (length xs) 0 ≡ y
at_seam [] ys y = refl
at_seam (x ∷ xs) ys y = at_seam xs ys y

past_seam : (xs ys : List ℕ) (y : ℕ) → drop (length xs + 1) (xs ++ y ∷ ys) ≡ ys
past_seam xs ys y = ap (drop (length xs + 1)) (sym (append_assoc xs (y ∷ []) ys)) ∙ drop_at (xs ++ y ∷ []) ys (length xs + 1) (length-append xs (y ∷ []))

pub name_utf8 : (dir path name : List ℕ) → name_in dir path ≡ Some name → IsUtf8 path → IsUtf8 name
name_utf8 dir path name e u =
    let whole = whole_path dir path name e in
    let v : IsUtf8 (dir ++ 47 ∷ name) = subst IsUtf8 whole u in
    let lt : length dir < length (dir ++ 47 ∷ name) = omega (arith, length-append dir (47 ∷ name)) in
    subst IsUtf8 (past_seam dir name 47) (IsUtf8-drop (dir ++ 47 ∷ name) (length dir + 1) v (IsCharBoundary-after_ascii (dir ++ 47 ∷ name) (length dir) v lt (omega (arith, at_seam dir name 47))))

as_list : {Y : Type 0} (o : Option Y) → cons_option o [] ≡ option_to_list o
as_list None = refl
as_list (Some y) = refl

one_more : {X Y : Type 0} (h : X → Option Y) (x : X) → filter_map h (x ∷ []) ≡ option_to_list (h x)
one_more h x = as_list (h x)

abbrev names_of_entries : List ℕ → List Entry → List (List ℕ)
names_of_entries dir es = filter_map (name_in dir) (map (λ e. e.0) (pairs_of es))

pub names_more : (dir : List ℕ) (es : List Entry) (e : Entry) → names_of_entries dir (es ++ e ∷ []) ≡ names_of_entries dir es ++ option_to_list (name_in dir (string_bytes e.path))
names_more dir es e =
    ap (λ (ps : List (List ℕ × List ℕ)). filter_map (name_in dir) (map (λ e. e.0) ps)) (map_push pair_of es e)
    ∙ ap (filter_map (name_in dir)) (map_push (λ (p : List ℕ × List ℕ). p.0) (pairs_of es) (pair_of e))
    ∙ filter_map-append (name_in dir) (map (λ e. e.0) (pairs_of es)) (string_bytes e.path ∷ [])
    ∙ ap (λ (t : List (List ℕ)). names_of_entries dir es ++ t) (one_more (name_in dir) (string_bytes e.path))

pub names_next : (dir : List ℕ) (es : List Entry) (i : ℕ) (e : Entry) (old new : List (List ℕ)) → i < length es → e ≡ get_or es i e → old ≡ names_of_entries dir (take i es)
    → new ≡ old ++ option_to_list (name_in dir (string_bytes e.path)) → new ≡ names_of_entries dir (take (i + 1) es)
names_next dir es i e old new lt is so_far grown =
    grown ∙ ap (λ (t : List (List ℕ)). t ++ option_to_list (name_in dir (string_bytes e.path))) so_far ∙ sym (ap (names_of_entries dir) (take_more es i e lt ∙ ap (λ (x : Entry). take i es ++ x ∷ []) (sym is)) ∙ names_more dir (take i es) e)

pub found_utf8 : (dir path : List ℕ) (r : Option (Bor (List ℕ))) → option_copied r ≡ name_in dir path → IsUtf8 path → IfSome r (λ n. IsUtf8 n.now)
found_utf8 dir path None e u = tt
found_utf8 dir path (Some n) e u = name_utf8 dir path n.now (sym e) u

pub pushed_utf8 : (old new : List (List ℕ)) (name : List ℕ) → new ≡ old ++ name ∷ [] → IsUtf8 name → All IsUtf8 old → All IsUtf8 new
pushed_utf8 old new name e u all = subst (All IsUtf8) (sym e) (All-push IsUtf8 old name all u)
