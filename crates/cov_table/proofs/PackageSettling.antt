-- What sorting packages and keeping the first of each keep, and what stands there then.
use Rattle.std.proofs.Common.{suc, zero, ◌≡◌, ℕ, ◌+◌, ◌-◌, ◌<◌, Bool, true, false, T, cond, not, ◌&&◌, ◌||◌, List, [], ◌∷◌, ◌++◌, map, Option, Some, None, refl, sym, ap, subst, ◌∙◌, length, take, drop, get_or, arith, append_assoc}
use Rattle.std.specs.Prelude.{filter}
use Rattle.std.proofs.lemmas.Grind.{common_steps}
use Rattle.std.proofs.lemmas.List.{map-append}
use Rattle.std.specs.List.{All, list_any}
use Rattle.std.specs.List.Sorted.{IsPermutation, IsStableBy, ties}
use Rattle.std.proofs.lemmas.List.Sorted.{All-permutation, list_any-IsPermutation}
use Rattle.std.specs.FinMap as finmap
use Rattle.std.specs.Cmp.Lexicographic.{nat_list_cmp_total}
use Rattle.std.specs.Ordering.{is_lt, is_eq, eq_by_cmp, ordering_reverse}
use Rattle.std.specs.declared.cmp.Ordering.{Ordering}
use Rattle.std.specs.declared.cmp.Ordering.TheVariants.{Less, Equal, Greater}
use Rattle.cov_table.specs.declared.row.PackageRow.{PackageRow}
use Rattle.cov_table.specs.Key.{text_cmp}
use Rattle.cov_table.specs.Coverage.{Packages}
use Rattle.cov_table.proofs.Counting.{tied}
use Rattle.cov_table.specs.Rows.{package_entry, package_path, packages_in, PackageWithin, AllPackagesWithin, PackagesRise}
use Rattle.cov_table.proofs.Zips.{drop_step}
use Rattle.cov_table.proofs.Keys.{text_same}
use Rattle.cov_table.proofs.Walk.{no_entries, rises_push, entries_firsts}
use Rattle.cov_table.proofs.Pool.{packages_within_append}

-- ---- numbers within the pool

all_from : (n : ℕ) (rows : List PackageRow) → AllPackagesWithin n rows → All (PackageWithin n) rows
all_from n [] w k d h = absurd (omega arith)
all_from n (r ∷ rows) w zero d h = w.0
all_from n (r ∷ rows) w (suc k) d h = all_from n rows w.1 k d (omega arith)

all_to : (n : ℕ) (rows : List PackageRow) → All (PackageWithin n) rows → AllPackagesWithin n rows
all_to n [] a = tt
all_to n (r ∷ rows) a = (a 0 r (omega arith), all_to n rows (λ k d h. a (suc k) d (omega arith)))

pub within_permutation : (n : ℕ) (xs ys : List PackageRow) → IsPermutation xs ys → AllPackagesWithin n xs → AllPackagesWithin n ys
within_permutation n xs ys p w = all_to n ys (All-permutation (PackageWithin n) xs ys p (all_from n xs w))

-- ---- a stable sort keeps the first of each path

abbrev pub path_lt : List (List ℕ) → PackageRow → PackageRow → Bool
path_lt texts x y = is_lt (text_cmp (package_path texts x) (package_path texts y))

-- neither is less: they are equal
tied_is : (texts : List (List ℕ)) (x y : PackageRow) → ties (path_lt texts) x y ≡ eq_by_cmp text_cmp (package_path texts x) (package_path texts y)
tied_is texts x y = go (text_cmp (package_path texts x) (package_path texts y)) (text_cmp (package_path texts y) (package_path texts x)) (nat_list_cmp_total.antisymm (package_path texts y) (package_path texts x))
  where
    go : (a b : Ordering) → b ≡ ordering_reverse a → (not (is_lt a) && not (is_lt b)) ≡ is_eq a
    go Less b p = refl
    go Equal b p = ap (λ o. not (is_lt o)) p
    go Greater b p = ap (λ o. not (is_lt o)) p

abbrev first_of : List (List ℕ) → List PackageRow → Option (List ℕ × List ℕ)
first_of texts [] = None
first_of texts (r ∷ rows) = Some (package_entry texts r).1

find_is : (texts : List (List ℕ)) (x : PackageRow) (rows : List PackageRow) → finmap.find text_cmp (package_path texts x) (map (package_entry texts) rows) ≡ first_of texts (filter (ties (path_lt texts) x) rows)
find_is texts x [] = refl
find_is texts x (r ∷ rows) =
    elim (eq_by_cmp text_cmp (package_path texts x) (package_path texts r)) as (λ b. cond b (Some (package_entry texts r).1) (finmap.find text_cmp (package_path texts x) (map (package_entry texts) rows)) ≡ first_of texts (cond b (r ∷ filter (ties (path_lt texts) x) rows) (filter (ties (path_lt texts) x) rows))) [
      | true ↦ refl
      | false ↦ find_is texts x rows
    ]
    ∙ ap (λ b. first_of texts (cond b (r ∷ filter (ties (path_lt texts) x) rows) (filter (ties (path_lt texts) x) rows))) (sym (tied_is texts x r))

abbrev at_path : List (List ℕ) → List ℕ → PackageRow → Bool
at_path texts q r = eq_by_cmp text_cmp q (package_path texts r)

some_row : (texts : List (List ℕ)) (q : List ℕ) (rows : List PackageRow) → list_any (at_path texts q) rows ≡ true → (x : PackageRow) × (q ≡ package_path texts x)
some_row texts q [] h = cc
some_row texts q (r ∷ rows) h =
    elim (at_path texts q r) as (λ b. at_path texts q r ≡ b → (b || list_any (at_path texts q) rows) ≡ true → (x : PackageRow) × (q ≡ package_path texts x)) [
      | true ↦ λ e h. (r, text_same q (package_path texts r) (tied _ e))
      | false ↦ λ e h. some_row texts q rows h
    ] refl h

no_row : (texts : List (List ℕ)) (q : List ℕ) (rows : List PackageRow) → list_any (at_path texts q) rows ≡ false → finmap.find text_cmp q (map (package_entry texts) rows) ≡ None
no_row texts q [] h = refl
no_row texts q (r ∷ rows) h =
    elim (at_path texts q r) as (λ b. (b || list_any (at_path texts q) rows) ≡ false → cond b (Some (package_entry texts r).1) (finmap.find text_cmp q (map (package_entry texts) rows)) ≡ None) [
      | true ↦ λ h. cc
      | false ↦ λ h. no_row texts q rows h
    ] h

same_find : (texts : List (List ℕ)) (xs ys : List PackageRow) → IsPermutation xs ys → IsStableBy (path_lt texts) xs ys → (q : List ℕ) → finmap.find text_cmp q (map (package_entry texts) ys) ≡ finmap.find text_cmp q (map (package_entry texts) xs)
same_find texts xs ys p s q =
    elim (list_any (at_path texts q) xs) as (λ b. list_any (at_path texts q) xs ≡ b → finmap.find text_cmp q (map (package_entry texts) ys) ≡ finmap.find text_cmp q (map (package_entry texts) xs)) [
      | true ↦ λ e.
          let found = some_row texts q xs e in
          subst (λ (t : List ℕ). finmap.find text_cmp t (map (package_entry texts) ys) ≡ finmap.find text_cmp t (map (package_entry texts) xs)) (sym found.1)
          (find_is texts found.0 ys ∙ ap (first_of texts) (s found.0) ∙ sym (find_is texts found.0 xs))
      | false ↦ λ e. no_row texts q ys (sym (list_any-IsPermutation (at_path texts q) xs ys p) ∙ e) ∙ sym (no_row texts q xs e)
    ] refl

pub packages_stable : (texts : List (List ℕ)) (xs ys : List PackageRow) → IsPermutation xs ys → IsStableBy (path_lt texts) xs ys → packages_in texts ys ≡ packages_in texts xs
packages_stable texts xs ys p s =
    finmap.same_map nat_list_cmp_total text_same _ _ (λ q. finmap.get-from_entries nat_list_cmp_total (map (package_entry texts) ys) q
    ∙ same_find texts xs ys p s q
    ∙ sym (finmap.get-from_entries nat_list_cmp_total (map (package_entry texts) xs) q))

-- ---- packages before the one that is held, the held one, and those that are left

firsts_after : (ps xs ys : List (List ℕ × (List ℕ × List ℕ))) → ◌≡◌ {A = Packages} (finmap.from_entries xs) (finmap.from_entries ys) → ◌≡◌ {A = Packages} (finmap.from_entries (ps ++ xs)) (finmap.from_entries (ps ++ ys))
firsts_after [] xs ys h = h
firsts_after (e ∷ ps) xs ys h = ap (λ (m : Packages). finmap.insert m e.0 e.1) (firsts_after ps xs ys h)

-- a later package of the same path changes nothing
second_is_nothing : (k l : List ℕ) (v w : List ℕ × List ℕ) (es : List (List ℕ × (List ℕ × List ℕ))) → k ≡ l → ◌≡◌ {A = Packages} (finmap.from_entries ((k, v) ∷ es)) (finmap.from_entries ((k, v) ∷ (l, w) ∷ es))
second_is_nothing k l v w es e =
    finmap.same_map nat_list_cmp_total text_same _ _ (λ q. finmap.get-from_entries nat_list_cmp_total ((k, v) ∷ es) q
    ∙ elim (eq_by_cmp text_cmp q k) as (λ b. cond b (Some v) (finmap.find text_cmp q es) ≡ cond b (Some v) (cond b (Some w) (finmap.find text_cmp q es))) [ true ↦ refl | false ↦ refl ]
    ∙ ap (λ (t : List ℕ). cond (eq_by_cmp text_cmp q k) (Some v) (cond (eq_by_cmp text_cmp q t) (Some w) (finmap.find text_cmp q es))) e
    ∙ sym (finmap.get-from_entries nat_list_cmp_total ((k, v) ∷ (l, w) ∷ es) q))

rows_after : (texts : List (List ℕ)) (out xs ys : List PackageRow) → packages_in texts xs ≡ packages_in texts ys → packages_in texts (out ++ xs) ≡ packages_in texts (out ++ ys)
rows_after texts out xs ys h =
    ap (λ (es : List (List ℕ × (List ℕ × List ℕ))). finmap.from_entries es) (map-append (package_entry texts) out xs)
    ∙ firsts_after (map (package_entry texts) out) (map (package_entry texts) xs) (map (package_entry texts) ys) h
    ∙ ap (λ (es : List (List ℕ × (List ℕ × List ℕ))). finmap.from_entries es) (sym (map-append (package_entry texts) out ys))

pub keep_step : (texts : List (List ℕ)) (out here : List PackageRow) (held row : PackageRow) (xs : List PackageRow) (i : ℕ) (d : PackageRow) → i < length xs → row ≡ get_or xs i d → here ≡ out ++ held ∷ []
    → packages_in texts (here ++ row ∷ drop (i + 1) xs) ≡ packages_in texts (out ++ held ∷ drop i xs)
keep_step texts out here held row xs i d h at e =
    ap (λ (t : List PackageRow). packages_in texts (t ++ row ∷ drop (i + 1) xs)) e
    ∙ ap (packages_in texts) (append_assoc out (held ∷ []) (row ∷ drop (i + 1) xs))
    ∙ ap (λ (t : List PackageRow). packages_in texts (out ++ held ∷ t)) (sym (drop_step xs i row d h at))

pub skip_step : (texts : List (List ℕ)) (out : List PackageRow) (held row : PackageRow) (xs : List PackageRow) (i : ℕ) (d : PackageRow) → i < length xs → row ≡ get_or xs i d → text_cmp (package_path texts held) (package_path texts row) ≡ Equal
    → packages_in texts (out ++ held ∷ drop (i + 1) xs) ≡ packages_in texts (out ++ held ∷ drop i xs)
skip_step texts out held row xs i d h at tied =
    rows_after texts out (held ∷ drop (i + 1) xs) (held ∷ row ∷ drop (i + 1) xs)
    (second_is_nothing (package_path texts held) (package_path texts row) (package_entry texts held).1 (package_entry texts row).1 (map (package_entry texts) (drop (i + 1) xs)) (text_same _ _ tied))
    ∙ ap (λ (t : List PackageRow). packages_in texts (out ++ held ∷ t)) (sym (drop_step xs i row d h at))

-- ---- the order

pub rise_push : (texts : List (List ℕ)) (out here : List PackageRow) (held row : PackageRow) → here ≡ out ++ held ∷ [] → text_cmp (package_path texts held) (package_path texts row) ≡ Less → PackagesRise texts (out ++ held ∷ []) → PackagesRise texts (here ++ row ∷ [])
rise_push texts out here held row e l h =
    let front : map (package_entry texts) (out ++ held ∷ []) ≡ map (package_entry texts) out ++ package_entry texts held ∷ [] = map-append (package_entry texts) out (held ∷ []) in
    let whole : map (package_entry texts) (here ++ row ∷ []) ≡ (map (package_entry texts) out ++ package_entry texts held ∷ []) ++ package_entry texts row ∷ [] =
    map-append (package_entry texts) here (row ∷ []) ∙ ap (λ (t : List (List ℕ × (List ℕ × List ℕ))). t ++ package_entry texts row ∷ []) (ap (map (package_entry texts)) e ∙ front) in
    subst (λ (t : List (List ℕ × (List ℕ × List ℕ))). T (finmap.is_sorted text_cmp t)) (sym whole) (rises_push text_cmp nat_list_cmp_total (map (package_entry texts) out) (package_entry texts held) (package_entry texts row) l (subst (λ (t : List (List ℕ × (List ℕ × List ℕ))). T (finmap.is_sorted text_cmp t)) front h))

pub turned : (x y : List ℕ) → is_lt (text_cmp y x) ≡ false → is_eq (text_cmp x y) ≡ false → text_cmp x y ≡ Less
turned x y h e = go (text_cmp x y) (text_cmp y x) (nat_list_cmp_total.antisymm x y) h e
  where
    go : (a b : Ordering) → a ≡ ordering_reverse b → is_lt b ≡ false → is_eq a ≡ false → a ≡ Less
    go a Less p h e = cc
    go a Equal p h e = absurd (subst T (ap is_eq (sym p) ∙ e) tt)
    go a Greater p h e = p

pub entries_are : (texts : List (List ℕ)) (rows : List PackageRow) → PackagesRise texts rows → finmap.entries (packages_in texts rows) ≡ map (package_entry texts) rows
entries_are texts rows r = entries_firsts nat_list_cmp_total (map (package_entry texts) rows) r

pub nothing_is : (texts : List (List ℕ)) (none rows : List PackageRow) → none ≡ [] → length rows < 1 → map (package_entry texts) none ≡ finmap.entries (packages_in texts rows)
nothing_is texts none [] e h = ap (map (package_entry texts)) e ∙ sym (no_entries text_cmp)
nothing_is texts none (r ∷ rows) e h = absurd (omega arith)

-- ---- the first and the rest

abbrev pub zero_row : PackageRow
zero_row = record { path = 0; name = 0; «module» = 0 }

pub within_next : (n : ℕ) (out here rows : List PackageRow) (held row : PackageRow) (k : ℕ) (d : PackageRow) → here ≡ out ++ held ∷ [] → row ≡ get_or rows k d → k < length rows → AllPackagesWithin n rows → AllPackagesWithin n (out ++ held ∷ []) → AllPackagesWithin n (here ++ row ∷ [])
within_next n out here rows held row k d e is h w v =
    packages_within_append n here (row ∷ []) (subst (AllPackagesWithin n) (sym e) v) (subst (PackageWithin n) (sym is) (all_from n rows w k d h), tt)

pub rest_at : (rows : List PackageRow) (i : ℕ) (d : PackageRow) → i < length (take (length rows - 1) (drop 1 rows)) → get_or (take (length rows - 1) (drop 1 rows)) i d ≡ get_or rows (i + 1) d
rest_at rows i d h = grind (arith, common_steps)

pub rest_within : (rows : List PackageRow) (i : ℕ) → i < length (take (length rows - 1) (drop 1 rows)) → i + 1 < length rows
rest_within rows i h = grind (arith, common_steps)
