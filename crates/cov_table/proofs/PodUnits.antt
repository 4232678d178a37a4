-- The pod of a table gives the table back.
use Rattle.std.proofs.Common.{zero, suc, ◌≡◌, ℕ, ◌+◌, ◌<◌, ◌≤◌, min, Bool, true, false, T, cond, ◌&&◌, ◌||◌, List, [], ◌∷◌, ◌++◌, map, length, get_or, All, Option, Some, None, is_some, refl, sym, ap, subst, ◌∙◌, arith}
use Rattle.std.specs.Prelude.{sum_by, filter}
use Rattle.std.specs.Option.{option_or}
use Rattle.std.specs.Bool.{beq}
use Rattle.std.specs.List.{zip, flat_map, list_any}
use Rattle.std.specs.Str.{bytes_eq}
use Rattle.std.specs.FinMap as finmap
use Rattle.std.specs.FinMap.Entries.{below_all}
use Rattle.std.specs.Cmp.Lexicographic.{nat_list_cmp_total, bytes_decides}
use Rattle.std.specs.Ordering.{is_eq, eq_by_cmp}
use Rattle.std.proofs.lemmas.List.Elements.{All-head, All-tail}
use Rattle.cov_outside.specs.declared.mode.Mode.{Mode}
use Rattle.cov_outside.specs.Mode.{greatest}
use Rattle.cov_meta.specs.declared.meta.MetaPackage.{MetaPackage}
use Rattle.cov_meta.specs.declared.meta.MetaFunction.{MetaFunction}
use Rattle.cov_meta.specs.declared.meta.MetaUnit.{MetaUnit}
use Rattle.cov_pods.specs.PodCounts.{pod_counts}
use Rattle.cov_table.specs.declared.pod_out.PodOut.{PodOut}
use Rattle.cov_table.specs.Key.{Key, key_cmp, text_cmp}
use Rattle.cov_table.specs.Counts.{has, total, with_counts}
use Rattle.cov_table.specs.Firsts.{with_firsts}
use Rattle.cov_table.specs.Coverage.{Coverage, Counts, Packages, empty, extended, key_of, function_counts, package_counts, counts_of, package_of}
use Rattle.cov_table.specs.Functions.{same_function, units_with, first_units, groups_of}
use Rattle.cov_table.specs.PodLaws.{IsSound, decoded, PodIsTable}
use Rattle.cov_table.specs.PodOf.{Group, unit_out, function_out, group_counts, package_out, packages_out, counts_out, entries_out, pod_in, pod_of}
use Rattle.cov_table.specs.PodRows.{units_at}
use Rattle.cov_table.proofs.Counting.{sum_up_to, absent, counts_same}
use Rattle.cov_table.proofs.Decodes.{by_function, total_by_function, has_by_function, AtMostOne, one_of, total_flat, has_flat, sum_same, any_same, any_and, total_filter, has_filter}
use Rattle.cov_table.proofs.Firsts.{get_firsts}
use Rattle.cov_table.proofs.Keys.{key_same, key_total, text_same}
use Rattle.cov_table.proofs.Merging.{has_found}
use Rattle.cov_table.proofs.PodRows.{map_map, path_test}
use Rattle.cov_table.proofs.Recounts.{Fits, AllFit, recounted}
use Rattle.cov_table.proofs.Walk.{Bounded, both, less, entries_counts}

abbrev Paths : Type 0
Paths = List (List ℕ × (List ℕ × List ℕ))

abbrev is_at : List ℕ → List ℕ × (List ℕ × List ℕ) → Bool
is_at path p = bytes_eq p.0 path

abbrev by_package : List (Key × ℕ) → Paths → List (Key × ℕ)
by_package units paths = flat_map (λ p. by_function (units_at units p.0)) paths

path_alone : (path x : List ℕ) (es : Paths) → T (below_all text_cmp x es) → bytes_eq x path ≡ true → list_any (is_at path) es ≡ false
path_alone path x [] b same = refl
path_alone path x (e ∷ es) b same =
    ap (λ b. b || list_any (is_at path) es) (path_test e.0 path ∙ ap (λ (t : List ℕ). is_eq (text_cmp t e.0)) (sym ((bytes_decides x path).0 same)) ∙ ap is_eq (less _ (both _ _ b).0))
    ∙ path_alone path x es (both _ _ b).1 same

paths_once : (path : List ℕ) (es : Paths) → T (finmap.is_sorted text_cmp es) → AtMostOne (is_at path) es
paths_once path [] h = tt
paths_once path (e ∷ es) h = ((λ same. path_alone path e.0 es (both _ _ h).0 same), paths_once path es (both _ _ h).1)

path_there : (path : List ℕ) (es : Paths) → list_any (is_at path) es ≡ is_some (finmap.find text_cmp path es)
path_there path [] = refl
path_there path (e ∷ es) =
    ap (λ b. b || list_any (is_at path) es) (path_test e.0 path)
    ∙ elim (eq_by_cmp text_cmp path e.0) as (λ b. (b || list_any (is_at path) es) ≡ is_some (cond b (Some e.1) (finmap.find text_cmp path es))) [ true ↦ refl | false ↦ path_there path es ]

module _ (q : Key) (units : List (Key × ℕ)) (paths : Paths) (sorted : T (finmap.is_sorted text_cmp paths)) (covered : has key_cmp q units ≡ true → list_any (is_at q.package_path) paths ≡ true) where
  total_by_package : total key_cmp q (by_package units paths) ≡ total key_cmp q units
  total_by_package =
      total_flat q (λ (p : List ℕ × (List ℕ × List ℕ)). by_function (units_at units p.0)) paths
      ∙ sum_same (λ p. total key_cmp q (by_function (units_at units p.0))) (λ p. cond (is_at q.package_path p) (total key_cmp q units) 0) (λ p. total_by_function q (units_at units p.0) ∙ total_filter (λ k. bytes_eq p.0 k.package_path) q units) paths
      ∙ one_of (is_at q.package_path) (total key_cmp q units) paths (paths_once q.package_path paths sorted)
      ∙ elim (has key_cmp q units) as (λ b. (b ≡ true → list_any (is_at q.package_path) paths ≡ true) → (b ≡ false → total key_cmp q units ≡ 0) → cond (list_any (is_at q.package_path) paths) (total key_cmp q units) 0 ≡ total key_cmp q units) [
        | true ↦ λ there none. ap (λ b. cond b (total key_cmp q units) 0) (there refl)
        | false ↦ λ there none. ap (λ n. cond (list_any (is_at q.package_path) paths) n 0) (none refl) ∙ nothing (list_any (is_at q.package_path) paths) ∙ sym (none refl)
      ] covered (absent key_cmp q units)
    where
      nothing : (b : Bool) → ◌≡◌ {A = ℕ} (cond b 0 0) 0
      nothing true = refl
      nothing false = refl

  has_by_package : has key_cmp q (by_package units paths) ≡ has key_cmp q units
  has_by_package =
      has_flat q (λ (p : List ℕ × (List ℕ × List ℕ)). by_function (units_at units p.0)) paths
      ∙ any_same (λ p. has key_cmp q (by_function (units_at units p.0))) (λ p. is_at q.package_path p && has key_cmp q units) (λ p. has_by_function q (units_at units p.0) ∙ has_filter (λ k. bytes_eq p.0 k.package_path) q units) paths
      ∙ any_and (is_at q.package_path) (has key_cmp q units) paths
      ∙ elim (has key_cmp q units) as (λ b. (b ≡ true → list_any (is_at q.package_path) paths ≡ true) → (list_any (is_at q.package_path) paths && b) ≡ b) [
        | true ↦ λ there. ap (λ b. b && true) (there refl)
        | false ↦ λ there. elim (list_any (is_at q.package_path) paths) as (λ b. (b && false) ≡ false) [ true ↦ refl | false ↦ refl ]
      ] covered

-- ---- the units of the meta value, with their counts

zip_maps : {X Y Z : Type 0} (f : X → Y) (g : X → Z) (xs : List X) → zip (map f xs) (map g xs) ≡ map (λ x. (f x, g x)) xs
zip_maps f g [] = refl
zip_maps {X} {Y} {Z} f g (x ∷ xs) = ap (λ (t : List (Y × Z)). (f x, g x) ∷ t) (zip_maps f g xs)

flat_map_map : {X Y Z : Type 0} (h : Y → List Z) (k : X → Y) (xs : List X) → flat_map h (map k xs) ≡ flat_map (λ x. h (k x)) xs
flat_map_map h k [] = refl
flat_map_map {X} {Y} {Z} h k (x ∷ xs) = ap (λ (t : List Z). h (k x) ++ t) (flat_map_map h k xs)

flat_same : {X Z : Type 0} (f g : X → List Z) → ((x : X) → f x ≡ g x) → (xs : List X) → flat_map f xs ≡ flat_map g xs
flat_same f g same [] = refl
flat_same f g same (x ∷ xs) = λ i. same x i ++ flat_same f g same xs i

and_parts : (a b : Bool) → (a && b) ≡ true → (a ≡ true) × (b ≡ true)
and_parts true b h = (refl, h)
and_parts false b h = cc

flag_is : (a b : Bool) → beq a b ≡ true → a ≡ b
flag_is true true h = refl
flag_is true false h = cc
flag_is false true h = cc
flag_is false false h = refl

module _ (p : List ℕ × (List ℕ × List ℕ)) (gs : List Group) (u : Key × ℕ) (us : List (Key × ℕ)) where
  restored_key : (v : Key × ℕ) → same_function u.0 v.0 ≡ true → bytes_eq p.0 v.0.package_path ≡ true → key_of (package_out p gs) (function_out (u, us)) (unit_out v) ≡ v.0
  restored_key v same there =
      let path : p.0 ≡ v.0.package_path = (bytes_decides p.0 v.0.package_path).0 there in
      let a = and_parts _ _ same in
      let b = and_parts _ _ a.1 in
      let c = and_parts _ _ b.1 in
      let file : u.0.file ≡ v.0.file = (bytes_decides u.0.file v.0.file).0 b.0 in
      let function : u.0.function ≡ v.0.function = (bytes_decides u.0.function v.0.function).0 c.0 in
      let literal : u.0.literal ≡ v.0.literal = flag_is u.0.literal v.0.literal c.1 in
      λ i. record v.0 { package_path = path i; file = file i; function = function i; literal = literal i }

  abbrev restore : Key × ℕ → Key × ℕ
  restore v = (key_of (package_out p gs) (function_out (u, us)) (unit_out v), v.1)

  restored_units : (units : List (Key × ℕ)) → map restore (units_with u.0 (units_at units p.0)) ≡ units_with u.0 (units_at units p.0)
  restored_units [] = refl
  restored_units (v ∷ units) =
      elim (bytes_eq p.0 v.0.package_path) as (λ b. bytes_eq p.0 v.0.package_path ≡ b → map restore (units_with u.0 (cond b (v ∷ units_at units p.0) (units_at units p.0))) ≡ units_with u.0 (cond b (v ∷ units_at units p.0) (units_at units p.0))) [
        | true ↦ λ there.
            elim (same_function u.0 v.0) as (λ b. same_function u.0 v.0 ≡ b → map restore (cond b (v ∷ units_with u.0 (units_at units p.0)) (units_with u.0 (units_at units p.0))) ≡ cond b (v ∷ units_with u.0 (units_at units p.0)) (units_with u.0 (units_at units p.0))) [
              | true ↦ λ same. let key = restored_key v same there in let rest = restored_units units in λ i. (key i, v.1) ∷ rest i
              | false ↦ λ same. restored_units units
            ] refl
        | false ↦ λ there. restored_units units
      ] refl

module _ (units : List (Key × ℕ)) where
  abbrev group : List ℕ → Key × ℕ → Group
  group path u = (u, units_with u.0 (units_at units path))

  function_is : (p : List ℕ × (List ℕ × List ℕ)) (gs : List Group) (u : Key × ℕ) → function_counts (package_out p gs) (function_out (group p.0 u)) (group_counts (group p.0 u)) ≡ units_with u.0 (units_at units p.0)
  function_is p gs u =
      let us : List (Key × ℕ) = units_with u.0 (units_at units p.0) in
      ap (map (λ (e : MetaUnit × ℕ). (key_of (package_out p gs) (function_out (u, us)) e.0, e.1))) (zip_maps unit_out (λ (e : Key × ℕ). e.1) us)
      ∙ map_map (λ (e : MetaUnit × ℕ). (key_of (package_out p gs) (function_out (u, us)) e.0, e.1)) (λ (v : Key × ℕ). (unit_out v, v.1)) us
      ∙ restored_units p gs u us units

  package_is : (p : List ℕ × (List ℕ × List ℕ)) → package_counts (package_out p (groups_of (units_at units p.0))) (map group_counts (groups_of (units_at units p.0))) ≡ by_function (units_at units p.0)
  package_is p =
      let gs : List Group = groups_of (units_at units p.0) in
      let made : MetaPackage = package_out p gs in
      ap (flat_map (λ (e : MetaFunction × List ℕ). function_counts made e.0 e.1)) (zip_maps function_out group_counts gs)
      ∙ flat_map_map (λ (e : MetaFunction × List ℕ). function_counts made e.0 e.1) (λ (g : Group). (function_out g, group_counts g)) gs
      ∙ flat_map_map (λ (g : Group). function_counts made (function_out g) (group_counts g)) (group p.0) (first_units (units_at units p.0))
      ∙ flat_same (λ u. function_counts made (function_out (group p.0 u)) (group_counts (group p.0 u))) (λ u. units_with u.0 (units_at units p.0)) (λ u. function_is p gs u) (first_units (units_at units p.0))

  counts_are : (paths : Paths) → counts_of (map (λ p. package_out p (groups_of (units_at units p.0))) paths) (map (λ p. map group_counts (groups_of (units_at units p.0))) paths) ≡ by_package units paths
  counts_are paths =
      let made : List ℕ × (List ℕ × List ℕ) → MetaPackage = λ p. package_out p (groups_of (units_at units p.0)) in
      let counted : List ℕ × (List ℕ × List ℕ) → List (List ℕ) = λ p. map group_counts (groups_of (units_at units p.0)) in
      ap (flat_map (λ (e : MetaPackage × List (List ℕ)). package_counts e.0 e.1)) (zip_maps made counted paths)
      ∙ flat_map_map (λ (e : MetaPackage × List (List ℕ)). package_counts e.0 e.1) (λ (p : List ℕ × (List ℕ × List ℕ)). (made p, counted p)) paths
      ∙ flat_same (λ p. package_counts (made p) (counted p)) (λ p. by_function (units_at units p.0)) package_is paths

-- ---- no count is above the greatest

bounded_filter : (most : ℕ) (t : Key × ℕ → Bool) (es : List (Key × ℕ)) → Bounded most es → Bounded most (filter t es)
bounded_filter most t [] b = tt
bounded_filter most t (e ∷ es) b = elim (t e) as (λ c. Bounded most (cond c (e ∷ filter t es) (filter t es))) [ true ↦ (b.0, bounded_filter most t es b.1) | false ↦ bounded_filter most t es b.1 ]

bounded_at : (most : ℕ) (es : List (Key × ℕ)) → Bounded most es → (k : ℕ) → get_or (map (λ (e : Key × ℕ). e.1) es) k 0 ≤ most
bounded_at most [] b zero = omega arith
bounded_at most [] b (suc k) = omega arith
bounded_at most (e ∷ es) b zero = b.0
bounded_at most (e ∷ es) b (suc k) = bounded_at most es b.1 k

bounded_from : (most : ℕ) (es : List (Key × ℕ)) → All (λ e. e.1 ≤ most) es → Bounded most es
bounded_from most [] a = tt
bounded_from most (e ∷ es) a = (All-head (λ e. e.1 ≤ most) e es a, bounded_from most es (All-tail (λ e. e.1 ≤ most) e es a))

lengths_same : (us : List (Key × ℕ)) → length (map (λ (e : Key × ℕ). e.1) us) ≡ length (map unit_out us)
lengths_same [] = refl
lengths_same (u ∷ us) = ap suc (lengths_same us)

functions_fit : (most : ℕ) (units firsts : List (Key × ℕ)) → Bounded most units → Fits most (map function_out (map (λ (u : Key × ℕ). (u, units_with u.0 units)) firsts)) (map group_counts (map (λ (u : Key × ℕ). (u, units_with u.0 units)) firsts))
functions_fit most units [] b = tt
functions_fit most units (u ∷ firsts) b = (lengths_same (units_with u.0 units), bounded_at most (units_with u.0 units) (bounded_filter most (λ v. same_function u.0 v.0) units b), functions_fit most units firsts b)

packages_fit : (most : ℕ) (units : List (Key × ℕ)) (paths : Paths) → Bounded most units → AllFit most (map (λ p. package_out p (groups_of (units_at units p.0))) paths) (map (λ p. map group_counts (groups_of (units_at units p.0))) paths)
packages_fit most units [] b = tt
packages_fit most units (p ∷ paths) b = (functions_fit most (units_at units p.0) (first_units (units_at units p.0)) (bounded_filter most (λ u. bytes_eq p.0 u.0.package_path) units b), packages_fit most units paths b)

-- ---- the whole

paths_are : (units : List (Key × ℕ)) (paths : Paths) → map package_of (map (λ p. package_out p (groups_of (units_at units p.0))) paths) ≡ paths
paths_are units [] = refl
paths_are units (p ∷ paths) = ap (λ (t : Paths). p ∷ t) (paths_are units paths)

packages_are : (packages : Packages) → with_firsts finmap.empty (finmap.entries packages) ≡ packages
packages_are packages =
    finmap.same_map nat_list_cmp_total text_same _ _ (λ q. get_firsts nat_list_cmp_total finmap.empty (finmap.entries packages) q
    ∙ ap (λ o. option_or o (finmap.find text_cmp q (finmap.entries packages))) (finmap.get-empty text_cmp q)
    ∙ sym (finmap.get-entries packages q))

pub decoded_is : (table : Coverage) (mode : Mode) → IsSound table → table.mode ≡ Some mode → decoded (record { meta = record { mode = mode; packages = packages_out table }; entries = entries_out (counts_out table) }) ≡ table
decoded_is table mode sound is =
    let units : List (Key × ℕ) = finmap.entries table.counts in
    let paths : Paths = finmap.entries table.packages in
    let most : ℕ = greatest mode in
    let bounded : Bounded most units = bounded_from most units (sound.bounded mode is) in
    let again : pod_counts (record { mode = mode; packages = packages_out table }) (entries_out (counts_out table)) ≡ counts_out table = recounted mode (packages_out table) (counts_out table) (packages_fit most units paths bounded) in
    let listed : counts_of (packages_out table) (counts_out table) ≡ by_package units paths = counts_are units paths in
    let covered : (q : Key) → has key_cmp q units ≡ true → list_any (is_at q.package_path) paths ≡ true =
    λ q there.
    path_there q.package_path paths
    ∙ ap is_some (sym (finmap.get-entries table.packages q.package_path))
    ∙ sound.covered q (ap is_some (finmap.get-entries table.counts q) ∙ sym (has_found key_total q units) ∙ there) in
    let same : with_counts (sum_up_to most) finmap.empty (by_package units paths) ≡ with_counts (sum_up_to most) finmap.empty units =
    counts_same key_total most key_same finmap.empty (by_package units paths) units
    (λ q. has_by_package q units paths (finmap.entries_sorted table.packages) (covered q))
    (λ q n. ap (λ t. min (n + t) most) (total_by_package q units paths (finmap.entries_sorted table.packages) (covered q))) in
    let counts : with_counts (sum_up_to most) finmap.empty (counts_of (packages_out table) (pod_counts (record { mode = mode; packages = packages_out table }) (entries_out (counts_out table)))) ≡ table.counts =
    ap (λ (c : List (List (List ℕ))). with_counts (sum_up_to most) finmap.empty (counts_of (packages_out table) c)) again
    ∙ ap (with_counts (sum_up_to most) finmap.empty) listed
    ∙ same
    ∙ finmap.same_entries_map _ _ (entries_counts most key_total units (finmap.entries_sorted table.counts) bounded) in
    let packages : with_firsts finmap.empty (map package_of (packages_out table)) ≡ table.packages = ap (with_firsts finmap.empty) (paths_are units paths) ∙ packages_are table.packages in
    λ i. record { mode = sym is i; counts = counts i; packages = packages i }

pub pod_is_table : PodIsTable
pod_is_table table pod sound made = by table.mode refl made
  where
    by : (m : Option Mode) → table.mode ≡ m → pod_in m table ≡ Some pod → decoded pod ≡ table
    by None e h = cc
    by (Some mode) e h =
        let same : ◌≡◌ {A = PodOut} (record { meta = record { mode = mode; packages = packages_out table }; entries = entries_out (counts_out table) }) pod = cc in
        ap decoded (sym same) ∙ decoded_is table mode sound e
