-- The rows of a package, and what is made of groups of rows.
use Rattle.std.proofs.Common.{zero, suc, ◌≡◌, ℕ, ◌+◌, ◌-◌, ◌<◌, ◌≤◌, Bool, true, false, cond, List, [], ◌∷◌, ◌++◌, map, length, take, drop, get_or, Option, Some, refl, sym, ap, subst, ◌∙◌, append-nil, arith}
use Rattle.std.specs.Prelude.{filter}
use Rattle.std.specs.List.{AllWithin, flat_map, enumerate_from}
use Rattle.std.specs.List.Sorted.{IsNonDecreasingBy, IsPartitionedBy, IsPartitionPoint}
use Rattle.std.specs.Str.{bytes_eq}
use Rattle.std.specs.FinMap as finmap
use Rattle.std.specs.Cmp.{tied_itself}
use Rattle.std.specs.Cmp.Lexicographic.{nat_list_cmp_total, bytes_decides}
use Rattle.std.specs.Ordering.{is_lt, is_eq, ordering_index, ordering_then, ordering_reverse, then_cmp, on, bool_cmp}
use Rattle.std.specs.declared.cmp.Ordering.{Ordering}
use Rattle.std.specs.declared.cmp.Ordering.TheVariants.{Less, Equal, Greater}
use Rattle.std.proofs.lemmas.Grind.{common_steps, flat_map-append}
use Rattle.std.proofs.lemmas.List.{take_more, map-append}
use Rattle.std.proofs.lemmas.List.Sorted.{searchable_from_sorted, IsNonDecreasingBy-drop}
use Rattle.cov_outside.specs.declared.mode.Mode.{Mode}
use Rattle.cov_meta.specs.declared.meta.MetaPackage.{MetaPackage}
use Rattle.cov_table.specs.declared.group.Group.{Group}
use Rattle.cov_table.specs.declared.row.Row.{Row}
use Rattle.cov_table.specs.declared.row.PackageRow.{PackageRow}
use Rattle.cov_table.specs.Key.{Key, text_cmp, place_cmp, key_cmp}
use Rattle.cov_table.specs.Coverage.{Coverage}
use Rattle.cov_table.specs.Functions.{groups_of}
use Rattle.cov_table.specs.Grouping.{group_entry, row_counts}
use Rattle.cov_table.specs.PodOf.{group_counts, package_out, entries_out, pod_in, pod_of}
use Rattle.cov_table.specs.PodRows.{units_at, package_in, counts_in, pod_in_rows}
use Rattle.cov_table.specs.Rows.{Rises, row_key, row_entry, package_entry, text_at}
use Rattle.cov_table.proofs.Counting.{tied}
use Rattle.cov_table.proofs.Keys.{text_same}
use Rattle.cov_table.proofs.Keeping.{rises_at}

-- ---- a filter that keeps a part from one place to another

module _ {X : Type 0} (q : X → Bool) where
  filter_behind : (xs : List X) (n : ℕ) → AllWithin (λ y. q y ≡ false) xs 0 n → filter q xs ≡ filter q (drop n xs)
  filter_behind xs zero all = refl
  filter_behind [] (suc n) all = refl
  filter_behind (x ∷ xs) (suc n) all = ap (λ b. cond b (x ∷ filter q xs) (filter q xs)) (all 0 x (omega arith) (omega arith)) ∙ filter_behind xs n (λ k d low h. all (suc k) d (omega arith) (omega arith))

  filter_front : (xs : List X) (n : ℕ) → AllWithin (λ y. q y ≡ true) xs 0 n → AllWithin (λ y. q y ≡ false) xs n (length xs) → filter q xs ≡ take n xs
  filter_front [] zero kept left = refl
  filter_front [] (suc n) kept left = refl
  filter_front (x ∷ xs) zero kept left = ap (λ b. cond b (x ∷ filter q xs) (filter q xs)) (left 0 x (omega arith) (omega arith)) ∙ filter_front xs zero (λ k d low h. absurd (omega arith)) (λ k d low h. left (suc k) d (omega arith) (omega arith))
  filter_front (x ∷ xs) (suc n) kept left =
      ap (λ b. cond b (x ∷ filter q xs) (filter q xs)) (kept 0 x (omega arith) (omega arith))
      ∙ ap (λ (t : List X). x ∷ t) (filter_front xs n (λ k d low h. kept (suc k) d (omega arith) (omega arith)) (λ k d low h. left (suc k) d (omega arith) (omega arith)))

-- ---- rows in order, by the paths of their packages

same_test : (a b : Bool) → (a ≡ true → b ≡ true) → (b ≡ true → a ≡ true) → a ≡ b
same_test true true p q = refl
same_test true false p q = sym (p refl)
same_test false true p q = q refl
same_test false false p q = refl

pub path_test : (path x : List ℕ) → bytes_eq path x ≡ is_eq (text_cmp x path)
path_test path x =
    same_test (bytes_eq path x) (is_eq (text_cmp x path))
    (λ e. ap is_eq (ap (λ (t : List ℕ). text_cmp t path) (sym ((bytes_decides path x).0 e)) ∙ tied_itself nat_list_cmp_total path))
    (λ e. (bytes_decides path x).1 (sym (text_same x path (tied _ e))))

not_back : (a b : Ordering) → ordering_then a b ≡ Less → is_lt (ordering_reverse a) ≡ false
not_back Less b e = refl
not_back Equal b e = refl
not_back Greater b e = cc

path_before : (a b : Key) → key_cmp a b ≡ Less → is_lt (text_cmp b.package_path a.package_path) ≡ false
path_before a b e =
    ap is_lt (nat_list_cmp_total.antisymm b.package_path a.package_path)
    ∙ not_back (text_cmp a.package_path b.package_path)
    (then_cmp (on (λ (k : Key). k.file) text_cmp) (then_cmp place_cmp (then_cmp (on (λ (k : Key). k.function) text_cmp) (on (λ (k : Key). k.literal) bool_cmp))) a b) e

index_less : (o : Ordering) → ordering_index o ≤ 0 → is_lt o ≡ true
index_less Less h = refl
index_less Equal h = absurd (omega arith)
index_less Greater h = absurd (omega arith)

less_index : (o : Ordering) → is_lt o ≡ true → ordering_index o ≤ 0
less_index Less e = omega arith
less_index Equal e = cc
less_index Greater e = cc

index_equal : (o : Ordering) → is_lt o ≡ false → ordering_index o ≤ 1 → is_eq o ≡ true
index_equal Less e h = cc
index_equal Equal e h = refl
index_equal Greater e h = absurd (omega arith)

equal_index : (o : Ordering) → is_eq o ≡ true → ordering_index o ≤ 1
equal_index Less e = cc
equal_index Equal e = omega arith
equal_index Greater e = cc

less_unequal : (o : Ordering) → is_lt o ≡ true → is_eq o ≡ false
less_unequal Less e = refl
less_unequal Equal e = cc
less_unequal Greater e = refl

units_filter : (texts : List (List ℕ)) (path : List ℕ) (rows : List Row) → units_at (map (row_entry texts) rows) path ≡ map (row_entry texts) (filter (λ (r : Row). is_eq (text_cmp (text_at texts r.package_path) path)) rows)
units_filter texts path [] = refl
units_filter texts path (r ∷ rows) =
    ap (λ b. cond b (row_entry texts r ∷ units_at (map (row_entry texts) rows) path) (units_at (map (row_entry texts) rows) path)) (path_test path (text_at texts r.package_path))
    ∙ elim (is_eq (text_cmp (text_at texts r.package_path) path)) as (λ b. cond b (row_entry texts r ∷ units_at (map (row_entry texts) rows) path) (units_at (map (row_entry texts) rows) path) ≡ map (row_entry texts) (cond b (r ∷ filter (λ (r : Row). is_eq (text_cmp (text_at texts r.package_path) path)) rows) (filter (λ (r : Row). is_eq (text_cmp (text_at texts r.package_path) path)) rows))) [
      | true ↦ ap (λ t. row_entry texts r ∷ t) (units_filter texts path rows)
      | false ↦ units_filter texts path rows
    ]

module _ (texts : List (List ℕ)) (path : List ℕ) (rows : List Row) (rises : Rises texts rows) where
  abbrev order : Row → Ordering
  order r = text_cmp (text_at texts r.package_path) path

  abbrev pub is_before : Row → Bool
  is_before r = is_lt (order r)

  abbrev pub is_there : Row → Bool
  is_there r = is_eq (order r)

  paths_rise : IsNonDecreasingBy (λ r. ordering_index (order r)) rows
  paths_rise =
      searchable_from_sorted nat_list_cmp_total (λ (r : Row). text_at texts r.package_path) rows path
      (λ k d low h. path_before (row_key texts (get_or rows k d)) (row_key texts (get_or rows (k + 1) d)) (rises_at key_cmp (row_key texts) (λ r. r.count) rows k (k + 1) d (omega arith) h rises))

  pub front_parted : IsPartitionedBy is_before rows
  front_parted i j d ij h e = index_less _ (let a = paths_rise i j d ij h in let b = less_index _ e in omega arith)

  module _ (start : ℕ) (split : IsPartitionPoint (λ y. is_before y ≡ true) (λ y. is_before y ≡ false) rows start) where
    abbrev pub behind : List Row
    behind = take (length rows - start) (drop start rows)

    behind_is : behind ≡ drop start rows
    behind_is = grind (arith, common_steps)

    behind_at : (k : ℕ) (d : Row) → k < length (drop start rows) → get_or (drop start rows) k d ≡ get_or rows (start + k) d
    behind_at k d h = grind (arith, common_steps)

    behind_inside : (k : ℕ) → k < length (drop start rows) → start + k < length rows
    behind_inside k h = grind (arith, common_steps)

    not_before : (k : ℕ) (d : Row) → k < length (drop start rows) → is_before (get_or (drop start rows) k d) ≡ false
    not_before k d h = ap is_before (behind_at k d h) ∙ split.1 (start + k) d (omega arith) (behind_inside k h)

    there_parted : IsPartitionedBy is_there (drop start rows)
    there_parted i j d ij h e =
        index_equal _ (not_before i d (omega arith))
        (let a = IsNonDecreasingBy-drop (λ r. ordering_index (order r)) start rows paths_rise i j d ij h in let b = equal_index _ e in omega arith)

    pub behind_parted : IsPartitionedBy is_there behind
    behind_parted = subst (IsPartitionedBy is_there) (sym behind_is) there_parted

    pub rows_there : (n : ℕ) → IsPartitionPoint (λ y. is_there y ≡ true) (λ y. is_there y ≡ false) behind n → map (row_entry texts) (take n behind) ≡ units_at (map (row_entry texts) rows) path
    rows_there n parts =
        let none : filter is_there rows ≡ filter is_there (drop start rows) = filter_behind is_there rows start (λ k d low h. less_unequal _ (split.0 k d low h)) in
        let some : filter is_there behind ≡ take n behind = filter_front is_there behind n parts.0 parts.1 in
        sym (units_filter texts path rows ∙ ap (map (row_entry texts)) (none ∙ ap (filter is_there) (sym behind_is) ∙ some))

-- ---- one more item with its number

enumerate_push : {X : Type 0} (n : ℕ) (xs : List X) (x : X) → enumerate_from n (xs ++ x ∷ []) ≡ enumerate_from n xs ++ (n + length xs, x) ∷ []
enumerate_push {X} n [] x = let e : n ≡ n + length {A = X} [] = omega arith in λ i. (e i, x) ∷ []
enumerate_push n (y ∷ xs) x =
    ap (λ t. (n, y) ∷ t) (enumerate_push (n + 1) xs x)
    ∙ (let e : n + 1 + length xs ≡ n + length (y ∷ xs) = omega arith in λ i. (n, y) ∷ (enumerate_from (n + 1) xs ++ (e i, x) ∷ []))

pub entries_more : {X Y Z : Type 0} (f : ℕ × Y → List Z) (g : X → Y) (xs : List X) (i : ℕ) (d : X) → i < length xs
    → flat_map f (enumerate_from 0 (map g (take (i + 1) xs))) ≡ flat_map f (enumerate_from 0 (map g (take i xs))) ++ f (i, g (get_or xs i d))
entries_more {X} {Y} {Z} f g xs i d h =
    let some : map g (take (i + 1) xs) ≡ map g (take i xs) ++ g (get_or xs i d) ∷ [] = ap (map g) (take_more xs i d h) ∙ map-append g (take i xs) (get_or xs i d ∷ []) in
    let place : 0 + length (map g (take i xs)) ≡ i = grind (arith, common_steps) in
    ap (λ (t : List Y). flat_map f (enumerate_from 0 t)) some
    ∙ ap (flat_map f) (enumerate_push 0 (map g (take i xs)) (g (get_or xs i d)))
    ∙ flat_map-append f (enumerate_from 0 (map g (take i xs))) ((0 + length (map g (take i xs)), g (get_or xs i d)) ∷ [])
    ∙ (λ j. flat_map f (enumerate_from 0 (map g (take i xs))) ++ (f (place j, g (get_or xs i d)) ++ []))
    ∙ ap (λ (t : List Z). flat_map f (enumerate_from 0 (map g (take i xs))) ++ t) (append-nil (f (i, g (get_or xs i d))))

pub map_map : {X Y Z : Type 0} (f : Y → Z) (g : X → Y) (xs : List X) → map f (map g xs) ≡ map (λ x. f (g x)) xs
map_map f g [] = refl
map_map {X} {Y} {Z} f g (x ∷ xs) = ap (λ (t : List Z). f (g x) ∷ t) (map_map f g xs)

pub map_more : {X Y : Type 0} (f : X → Y) (xs : List X) (i : ℕ) (d : X) → i < length xs → map f (take (i + 1) xs) ≡ map f (take i xs) ++ f (get_or xs i d) ∷ []
map_more f xs i d h = ap (map f) (take_more xs i d h) ∙ map-append f (take i xs) (get_or xs i d ∷ [])

pub counts_of_groups : (texts : List (List ℕ)) (gs : List Group) → map row_counts gs ≡ map group_counts (map (group_entry texts) gs)
counts_of_groups texts [] = refl
counts_of_groups texts (g ∷ gs) = let here = sym (map_map (λ (e : Key × ℕ). e.1) (row_entry texts) g.rows.items) in let rest = counts_of_groups texts gs in λ i. here i ∷ rest i

-- ---- the whole

pub pod_is : (mode : Mode) (texts : List (List ℕ)) (rows : List Row) (packages : List PackageRow) (table : Coverage) → map (row_entry texts) rows ≡ finmap.entries table.counts → map (package_entry texts) packages ≡ finmap.entries table.packages → table.mode ≡ Some mode
    → Some (pod_in_rows mode texts rows packages) ≡ pod_of table
pod_is mode texts rows packages table counts paths is =
    let made : List (Key × ℕ) → List ℕ × (List ℕ × List ℕ) → MetaPackage = λ units p. package_out p (groups_of (units_at units p.0)) in
    let counted : List (Key × ℕ) → List ℕ × (List ℕ × List ℕ) → List (List ℕ) = λ units p. map group_counts (groups_of (units_at units p.0)) in
    let a : map (package_in texts rows) packages ≡ map (made (finmap.entries table.counts)) (finmap.entries table.packages) = sym (map_map (made (map (row_entry texts) rows)) (package_entry texts) packages) ∙ (λ i. map (made (counts i)) (paths i)) in
    let b : map (counts_in texts rows) packages ≡ map (counted (finmap.entries table.counts)) (finmap.entries table.packages) = sym (map_map (counted (map (row_entry texts) rows)) (package_entry texts) packages) ∙ (λ i. map (counted (counts i)) (paths i)) in
    (λ i. Some (record { meta = record { mode = mode; packages = a i }; entries = entries_out (b i) }))
    ∙ ap (λ (m : Option Mode). pod_in m table) (sym is)
