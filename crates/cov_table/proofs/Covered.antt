-- Units whose packages are there.
use Rattle.std.proofs.Common.{◌≡◌, ℕ, ◌+◌, ◌<◌, ◌≤◌, min, Bool, true, false, T, cond, ◌||◌, List, [], ◌∷◌, ◌++◌, map, length, get_or, All, Option, Some, None, is_some, refl, sym, ap, subst, ◌∙◌, arith}
use Rattle.std.specs.Prelude.{unwrap_or}
use Rattle.std.specs.List.{zip, flat_map}
use Rattle.std.specs.Option.{option_or}
use Rattle.std.specs.FinMap as finmap
use Rattle.std.specs.Cmp.{tied_itself}
use Rattle.std.specs.Cmp.Lexicographic.{nat_list_cmp_total}
use Rattle.std.specs.Ordering.{is_eq, eq_by_cmp}
use Rattle.cov_meta.specs.declared.meta.MetaUnit.{MetaUnit}
use Rattle.cov_meta.specs.declared.meta.MetaFunction.{MetaFunction}
use Rattle.cov_meta.specs.declared.meta.MetaPackage.{MetaPackage}
use Rattle.cov_table.specs.Key.{Key, key_cmp, text_cmp}
use Rattle.cov_table.specs.Counts.{has, total, with_counts}
use Rattle.cov_table.specs.Coverage.{Counts, Packages, key_of, function_counts, package_counts, counts_of, package_of}
use Rattle.cov_table.specs.Rows.{IsCovered}
use Rattle.cov_table.proofs.Counting.{sum_up_to, tied, get_counts}
use Rattle.cov_table.proofs.Decodes.{any_append}
use Rattle.cov_table.proofs.Firsts.{find_append}
use Rattle.cov_table.proofs.Keeping.{find_at}
use Rattle.cov_table.proofs.Keys.{key_same, key_total}

-- ---- units and maps

is_there : (b : Bool) (n : ℕ) (o : Option ℕ) → o ≡ None → is_some (cond b (Some n) o) ≡ b
is_there true n o e = refl
is_there false n o e = ap is_some e

pub contains_counts : (most : ℕ) (es : List (Key × ℕ)) (key : Key) → finmap.contains_key (with_counts {R = key_cmp} (sum_up_to most) finmap.empty es) key ≡ has key_cmp key es
contains_counts most es key = ap is_some (get_counts key_total most finmap.empty es key) ∙ is_there (has key_cmp key es) _ (finmap.get (finmap.empty {X = ℕ} {R = key_cmp}) key) (finmap.get-empty key_cmp key)

pub contains_path : (es : List (List ℕ × (List ℕ × List ℕ))) (path : List ℕ) → finmap.contains_key (finmap.from_entries {R = text_cmp} es) path ≡ is_some (finmap.find text_cmp path es)
contains_path es path = ap is_some (finmap.get-from_entries nat_list_cmp_total es path)

-- ---- more units and more packages

some_or : (a b : Option (List ℕ × List ℕ)) → is_some a ≡ true → is_some (option_or a b) ≡ true
some_or None b h = cc
some_or (Some x) b h = refl

or_some : (a b : Option (List ℕ × List ℕ)) → is_some b ≡ true → is_some (option_or a b) ≡ true
or_some None b h = h
or_some (Some x) b h = refl

pub covered_append : (units more : List (Key × ℕ)) (paths others : List (List ℕ × (List ℕ × List ℕ))) → IsCovered units paths → IsCovered more others → IsCovered (units ++ more) (paths ++ others)
covered_append units more paths others a b key h = ap is_some (find_append text_cmp key.package_path paths others) ∙ by (has key_cmp key units) refl (sym (any_append (λ (e : Key × ℕ). eq_by_cmp key_cmp key e.0) units more) ∙ h)
  where
    by : (c : Bool) → has key_cmp key units ≡ c → (c || has key_cmp key more) ≡ true → is_some (option_or (finmap.find text_cmp key.package_path paths) (finmap.find text_cmp key.package_path others)) ≡ true
    by true e h = some_or _ _ (a key e)
    by false e h = or_some _ _ (b key h)

-- ---- the units of a pod

path_of_function : (p : MetaPackage) (f : MetaFunction) (key : Key) (es : List (MetaUnit × ℕ)) → has key_cmp key (map (λ (e : MetaUnit × ℕ). (key_of p f e.0, e.1)) es) ≡ true → key.package_path ≡ p.path
path_of_function p f key [] h = cc
path_of_function p f key (e ∷ es) h =
    elim (eq_by_cmp key_cmp key (key_of p f e.0)) as (λ b. eq_by_cmp key_cmp key (key_of p f e.0) ≡ b → (b || has key_cmp key (map (λ (e : MetaUnit × ℕ). (key_of p f e.0, e.1)) es)) ≡ true → key.package_path ≡ p.path) [
      | true ↦ λ t h. ap (λ (k : Key). k.package_path) (key_same key (key_of p f e.0) (tied _ t))
      | false ↦ λ t h. path_of_function p f key es h
    ] refl h

path_of_package : (p : MetaPackage) (key : Key) (es : List (MetaFunction × List ℕ)) → has key_cmp key (flat_map (λ (e : MetaFunction × List ℕ). function_counts p e.0 e.1) es) ≡ true → key.package_path ≡ p.path
path_of_package p key [] h = cc
path_of_package p key (e ∷ es) h = by (has key_cmp key (function_counts p e.0 e.1)) refl (sym (any_append (λ (e : Key × ℕ). eq_by_cmp key_cmp key e.0) (function_counts p e.0 e.1) (flat_map (λ (e : MetaFunction × List ℕ). function_counts p e.0 e.1) es)) ∙ h) (path_of_package p key es)
  where
    by : (c : Bool) → has key_cmp key (function_counts p e.0 e.1) ≡ c → (c || has key_cmp key (flat_map (λ (e : MetaFunction × List ℕ). function_counts p e.0 e.1) es)) ≡ true → (has key_cmp key (flat_map (λ (e : MetaFunction × List ℕ). function_counts p e.0 e.1) es) ≡ true → key.package_path ≡ p.path) → key.package_path ≡ p.path
    by true t h rest = path_of_function p e.0 key (zip e.0.units e.1) t
    by false t h rest = rest h

is_first : (b : Bool) (x : List ℕ × List ℕ) (o : Option (List ℕ × List ℕ)) → b ≡ true → is_some (cond b (Some x) o) ≡ true
is_first true x o h = refl
is_first false x o h = cc

is_later : (b : Bool) (x : List ℕ × List ℕ) (o : Option (List ℕ × List ℕ)) → is_some o ≡ true → is_some (cond b (Some x) o) ≡ true
is_later true x o h = refl
is_later false x o h = h

pub covered_pod : (ps : List MetaPackage) (cs : List (List (List ℕ))) → IsCovered (counts_of ps cs) (map package_of ps)
covered_pod [] cs key h = cc
covered_pod (p ∷ ps) [] key h = cc
covered_pod (p ∷ ps) (c ∷ cs) key h = by (has key_cmp key (package_counts p c)) refl (sym (any_append (λ (e : Key × ℕ). eq_by_cmp key_cmp key e.0) (package_counts p c) (counts_of ps cs)) ∙ h) (covered_pod ps cs key)
  where
    by : (b : Bool) → has key_cmp key (package_counts p c) ≡ b → (b || has key_cmp key (counts_of ps cs)) ≡ true → (has key_cmp key (counts_of ps cs) ≡ true → is_some (finmap.find text_cmp key.package_path (map package_of ps)) ≡ true)
        → is_some (cond (eq_by_cmp text_cmp key.package_path p.path) (Some (package_of p).1) (finmap.find text_cmp key.package_path (map package_of ps))) ≡ true
    by true t h rest =
        let same : key.package_path ≡ p.path = path_of_package p key (zip p.functions c) t in
        is_first _ _ _ (ap (λ (x : List ℕ). eq_by_cmp text_cmp x p.path) same ∙ ap is_eq (tied_itself nat_list_cmp_total p.path))
    by false t h rest = is_later _ _ _ (rest h)

-- ---- no count is above the greatest

pairs : (es : List (Key × ℕ)) → map (λ (e : Key × ℕ). (e.0, e.1)) es ≡ es
pairs [] = refl
pairs (e ∷ es) = ap (λ (t : List (Key × ℕ)). e ∷ t) (pairs es)

pub entries_bounded : (most : ℕ) (es : List (Key × ℕ)) → All (λ e. e.1 ≤ most) (finmap.entries (with_counts {R = key_cmp} (sum_up_to most) finmap.empty es))
entries_bounded most es k d h =
    let m : Counts = with_counts (sum_up_to most) finmap.empty es in
    let list : List (Key × ℕ) = finmap.entries m in
    let e : Key × ℕ = get_or list k d in
    let found : finmap.find key_cmp e.0 list ≡ Some e.1 =
    subst (λ (t : List (Key × ℕ)). finmap.find key_cmp e.0 t ≡ Some e.1) (pairs list)
    (find_at key_cmp (λ (e : Key × ℕ). e.0) (λ (e : Key × ℕ). e.1) key_total e.0 list k d h (subst (λ (t : List (Key × ℕ)). T (finmap.is_sorted key_cmp t)) (sym (pairs list)) (finmap.entries_sorted m)) (tied_itself key_total e.0)) in
    under (has key_cmp e.0 es) _ e.1 (finmap.get (finmap.empty {X = ℕ} {R = key_cmp}) e.0) (finmap.get-empty key_cmp e.0) (sym (get_counts key_total most finmap.empty es e.0) ∙ finmap.get-entries m e.0 ∙ found)
  where
    under : (b : Bool) (t n : ℕ) (o : Option ℕ) → o ≡ None → cond b (Some (min t most)) o ≡ Some n → n ≤ most
    under true t n o e h = let same : min t most ≡ n = cc in omega arith
    under false t n o e h = absurd (subst T (ap is_some (sym h ∙ e)) tt)
