-- The statements of a package's units, where units stand in the order of their keys.
use Rattle.std.proofs.Common.{◌≡◌, ℕ, ◌+◌, Bool, true, false, T, cond, ◌&&◌, List, [], ◌∷◌, drop, zero, suc, Some, refl, sym, ap, subst, ◌∙◌, arith, zero-add}
use Rattle.std.specs.Prelude.{sum_by, slice_get}
use Rattle.std.specs.Str.{bytes_eq}
use Rattle.std.specs.FinMap as finmap
use Rattle.std.specs.FinMap.Entries.{below_all}
use Rattle.std.specs.Cmp.{tied_itself}
use Rattle.std.specs.Cmp.Lexicographic.{nat_list_cmp_total, bytes_decides}
use Rattle.std.specs.Ordering.{is_lt, ordering_then, ordering_reverse, then_cmp, on, bool_cmp}
use Rattle.std.specs.declared.cmp.Ordering.{Ordering}
use Rattle.std.specs.declared.cmp.Ordering.TheVariants.{Less, Equal, Greater}
use Rattle.std.proofs.lemmas.List.Sums.{sum_by-cons}
use Rattle.cov_table.specs.Key.{Key, text_cmp, place_cmp, key_cmp}
use Rattle.cov_report.proofs.Lines.{one_more}
use Rattle.cov_report.specs.Shares.{units_of}

abbrev path_of : Key × ℕ → List ℕ
path_of u = u.0.package_path

-- ---- one unit and the rest

module _ (f : Key × ℕ → ℕ) (path : List ℕ) where
  pub sum_first : (u : Key × ℕ) (rest : List (Key × ℕ)) → sum_by f (units_of path (u ∷ rest)) ≡ sum_by f (units_of path (u ∷ [])) + sum_by f (units_of path rest)
  sum_first u rest =
      elim (bytes_eq path (path_of u)) as (λ b. sum_by f (cond b (u ∷ units_of path rest) (units_of path rest)) ≡ sum_by f (cond b (u ∷ []) []) + sum_by f (units_of path rest)) [
        | true ↦ let a = sum_by-cons f u (units_of path rest) in let b = sum_by-cons f u [] in omega (arith, a, b)
        | false ↦ sym (zero-add (sum_by f (units_of path rest)))
      ]

  pub sum_none : (u : Key × ℕ) → bytes_eq path (path_of u) ≡ false → sum_by f (units_of path (u ∷ [])) ≡ 0
  sum_none u h = ap (λ b. sum_by f (cond b (u ∷ []) [])) h

  pub sum_one : (u : Key × ℕ) → bytes_eq path (path_of u) ≡ true → sum_by f (units_of path (u ∷ [])) ≡ f u
  sum_one u h = ap (λ b. sum_by f (cond b (u ∷ []) [])) h ∙ (let a = sum_by-cons f u [] in omega (arith, a))

-- ---- paths in order

pub same_path : (a b : List ℕ) → text_cmp a b ≡ Equal → bytes_eq b a ≡ true
same_path a b h = (bytes_decides b a).1 (sym (finmap.slice_cmp-IsAntisymmetric finmap.nat_cmp-IsAntisymmetric a b h))

not_itself : (a : List ℕ) (r : Ordering) → text_cmp a a ≡ r → (Equal ≡ r → ⊥) → ⊥
not_itself a r e h = h (sym (tied_itself nat_list_cmp_total a) ∙ e)

pub other_path : (a b : List ℕ) (r : Ordering) → text_cmp a b ≡ r → (Equal ≡ r → ⊥) → bytes_eq b a ≡ false
other_path a b r e h = go (bytes_eq b a) refl
  where
    go : (t : Bool) → bytes_eq b a ≡ t → t ≡ false
    go false p = refl
    go true p = absurd (not_itself a r (ap (text_cmp a) (sym ((bytes_decides b a).0 p)) ∙ e) h)

-- ---- units in order

sorted_parts : (a b : Bool) → T (a && b) → T a × T b
sorted_parts true b p = (tt, p)
sorted_parts false b p = absurd p

is_less : (o : Ordering) → T (is_lt o) → o ≡ Less
is_less Less p = refl
is_less Equal p = absurd p
is_less Greater p = absurd p

pub sorted_drop : (i : ℕ) (units : List (Key × ℕ)) → T (finmap.is_sorted key_cmp units) → T (finmap.is_sorted key_cmp (drop i units))
sorted_drop zero units s = s
sorted_drop (suc i) [] s = s
sorted_drop (suc i) (u ∷ units) s = sorted_drop i units (sorted_parts _ _ s).1

-- what decides between units of one path
abbrev behind : Key → Key → Ordering
behind = then_cmp (on (λ k. k.file) text_cmp) (then_cmp place_cmp (then_cmp (on (λ k. k.function) text_cmp) (on (λ k. k.literal) bool_cmp)))

-- behind a unit whose path stands behind a path there are no units of that path
none_above : (path : List ℕ) (u : Key × ℕ) (rest : List (Key × ℕ)) → T (below_all key_cmp u.0 rest) → text_cmp (path_of u) path ≡ Greater → units_of path rest ≡ []
none_above path u [] b g = refl
none_above path u (r ∷ rest) b g =
    let p : T (is_lt (key_cmp u.0 r.0)) × T (below_all key_cmp u.0 rest) = sorted_parts _ _ b in
    let less : key_cmp u.0 r.0 ≡ Less = is_less _ p.0 in
    let apart : bytes_eq path (path_of r) ≡ false = go (bytes_eq path (path_of r)) refl less in
    ap (λ t. cond t (r ∷ units_of path rest) (units_of path rest)) apart ∙ none_above path u rest p.1 g
  where
    not_less : (o p : Ordering) → o ≡ Greater → ordering_then o p ≡ Less → ⊥
    not_less Less p e h = cc
    not_less Equal p e h = cc
    not_less Greater p e h = cc

    go : (t : Bool) → bytes_eq path (path_of r) ≡ t → key_cmp u.0 r.0 ≡ Less → t ≡ false
    go false p less = refl
    go true p less =
        let same : path ≡ path_of r = (bytes_decides path (path_of r)).0 p in
        let greater : text_cmp (path_of u) (path_of r) ≡ Greater = ap (text_cmp (path_of u)) (sym same) ∙ g in
        absurd (not_less (text_cmp (path_of u) (path_of r)) (behind u.0 r.0) greater less)

pub none_behind : (path : List ℕ) (u : Key × ℕ) (rest : List (Key × ℕ)) → T (finmap.is_sorted key_cmp (u ∷ rest)) → text_cmp (path_of u) path ≡ Greater → units_of path (u ∷ rest) ≡ []
none_behind path u rest s g =
    ap (λ t. cond t (u ∷ units_of path rest) (units_of path rest)) (other_path (path_of u) path Greater g (λ e. cc))
    ∙ none_above path u rest (sorted_parts _ _ s).0 g

-- a path behind this one has no unit here
pub later_path : (path q : List ℕ) (u : Key × ℕ) (rest : List (Key × ℕ)) → (text_cmp (path_of u) path ≡ Greater → ⊥) → text_cmp path q ≡ Less → units_of q (u ∷ rest) ≡ units_of q rest
later_path path q u rest n l = ap (λ t. cond t (u ∷ units_of q rest) (units_of q rest)) (go (bytes_eq q (path_of u)) refl)
  where
    go : (t : Bool) → bytes_eq q (path_of u) ≡ t → t ≡ false
    go false p = refl
    go true p =
        let same : q ≡ path_of u = (bytes_decides q (path_of u)).0 p in
        absurd (n (nat_list_cmp_total.antisymm (path_of u) path ∙ ap ordering_reverse (ap (text_cmp path) (sym same) ∙ l)))

-- ---- a step past a unit

pub stepped : (f : Key × ℕ → ℕ) (path : List ℕ) (u : Key × ℕ) (units : List (Key × ℕ)) (i sum more all : ℕ) → Some u ≡ slice_get units i → more ≡ sum + sum_by f (units_of path (u ∷ []))
    → sum + sum_by f (units_of path (drop i units)) ≡ all → more + sum_by f (units_of path (drop (i + 1) units)) ≡ all
stepped f path u units i sum more all at is before =
    let here : sum_by f (units_of path (drop i units)) ≡ sum_by f (units_of path (u ∷ [])) + sum_by f (units_of path (drop (i + 1) units)) = ap (λ xs. sum_by f (units_of path xs)) (one_more units i u at) ∙ sum_first f path u (drop (i + 1) units) in
    omega (arith, here, is, before)

pub stopped : (f : Key × ℕ → ℕ) (path : List ℕ) (u : Key × ℕ) (units : List (Key × ℕ)) (i sum all : ℕ) → T (finmap.is_sorted key_cmp units) → Some u ≡ slice_get units i → text_cmp (path_of u) path ≡ Greater
    → sum + sum_by f (units_of path (drop i units)) ≡ all → sum ≡ all
stopped f path u units i sum all s at g before =
    let here = one_more units i u at in
    let none : sum_by f (units_of path (drop i units)) ≡ 0 = ap (λ xs. sum_by f (units_of path xs)) here ∙ ap (λ xs. sum_by f xs) (none_behind path u (drop (i + 1) units) (subst (λ xs. T (finmap.is_sorted key_cmp xs)) here (sorted_drop i units s)) g) in
    omega (arith, none, before)

pub passed : (path q : List ℕ) (u : Key × ℕ) (units all : List (Key × ℕ)) (i : ℕ) → Some u ≡ slice_get units i → (text_cmp (path_of u) path ≡ Greater → ⊥) → text_cmp path q ≡ Less → units_of q (drop i units) ≡ all → units_of q (drop (i + 1) units) ≡ all
passed path q u units all i at n l before = sym (later_path path q u (drop (i + 1) units) n l) ∙ ap (units_of q) (sym (one_more units i u at)) ∙ before
