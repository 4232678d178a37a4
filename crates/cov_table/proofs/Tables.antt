-- The fields of a table, and what they mean, where texts and rows are added.
use Rattle.std.proofs.Common.{◌≡◌, ℕ, List, [], ◌++◌, map, length, Option, Some, None, Result, Ok, Err, refl, sym, ap, subst, ◌∙◌}
use Rattle.std.specs.Prelude.{OnErr}
use Rattle.std.specs.FinMap as finmap
use Rattle.std.specs.Cmp.Lexicographic.{nat_list_cmp_total}
use Rattle.std.proofs.lemmas.List.{map-append}
use Rattle.cov_outside.specs.declared.mode.Mode.{Mode}
use Rattle.cov_outside.specs.Mode.{greatest}
use Rattle.cov_meta.specs.declared.meta.MetaPackage.{MetaPackage}
use Rattle.cov_table.specs.declared.row.Row.{Row}
use Rattle.cov_table.specs.declared.row.PackageRow.{PackageRow}
use Rattle.cov_table.specs.Key.{Key}
use Rattle.cov_table.specs.Counts.{with_counts}
use Rattle.cov_table.specs.Firsts.{with_firsts}
use Rattle.cov_table.specs.Coverage.{merged, Coverage, Counts, extended, counts_of, package_of}
use Rattle.cov_table.specs.Refusal.{Agree}
use Rattle.cov_table.specs.Rows.{row_entry, package_entry, Extends, AllWithin, AllPackagesWithin, counts_up_to, greatest_of, packages_in, Adds, AddsPackages, Means, IsTable, coverage_of, IsCovered}
use Rattle.cov_table.proofs.Covered.{covered_append}
use Rattle.cov_table.proofs.Keys.{key_total, key_same, text_same}
use Rattle.cov_table.proofs.Counting.{sum_up_to, counts_added}
use Rattle.cov_table.proofs.Firsts.{firsts_added}
use Rattle.cov_table.proofs.Merging.{counts_entries, firsts_entries}
use Rattle.cov_table.proofs.Pool.{within_kept, within_append, entries_kept, packages_within_kept, packages_within_append, packages_kept}

-- ---- rows that were gathered with texts s to t, and packages with texts t to u

pub gathered : (s t u : List (List ℕ)) (rows0 rows : List Row) (packages0 packages : List PackageRow) (from from' : List MetaPackage) (counts counts' : List (List (List ℕ))) → rows0 ≡ [] → packages0 ≡ [] → Extends t u → from ≡ from' → counts ≡ counts'
    → Adds s t rows0 rows (counts_of from counts) → AddsPackages t u packages0 packages (map package_of from) → Means u rows packages (counts_of from' counts') (map package_of from')
gathered s t u rows0 rows packages0 packages from from' counts counts' e f more p q a b =
    let w : AllWithin (length s) rows0 = subst (AllWithin (length s)) (sym e) tt in
    let v : AllPackagesWithin (length t) packages0 = subst (AllPackagesWithin (length t)) (sym f) tt in
    record {
      rows_within = within_kept t u rows more (a.within w);
      packages_within = b.within v;
      counts_are = entries_kept t u rows more (a.within w) ∙ a.entries w ∙ ap (λ (r : List Row). map (row_entry s) r ++ counts_of from counts) e ∙ (λ i. counts_of (p i) (q i));
      packages_are = b.entries v ∙ ap (λ (r : List PackageRow). map (package_entry t) r ++ map package_of from) f ∙ ap (map package_of) p;
    }

-- ---- texts alone

module _ (mode : Option Mode) (texts more : List (List ℕ)) (rows : List Row) (packages : List PackageRow) where
  pub kept_table : Extends texts more → IsTable mode texts rows packages → IsTable mode more rows packages
  kept_table e t = record { rows_within = within_kept texts more rows e t.rows_within; packages_within = packages_within_kept texts more packages e t.packages_within; nothing = t.nothing; covered = subst (λ (es : List (Key × ℕ)). IsCovered es (map (package_entry more) packages)) (sym (entries_kept texts more rows e t.rows_within)) (subst (IsCovered (map (row_entry texts) rows)) (sym (packages_kept texts more packages e t.packages_within)) t.covered) }

  pub kept_coverage : Extends texts more → IsTable mode texts rows packages → coverage_of mode more rows packages ≡ coverage_of mode texts rows packages
  kept_coverage e t =
      let counts : counts_up_to (greatest_of mode) more rows ≡ counts_up_to (greatest_of mode) texts rows = ap (with_counts (sum_up_to (greatest_of mode)) finmap.empty) (entries_kept texts more rows e t.rows_within) in
      let firsts : packages_in more packages ≡ packages_in texts packages = ap (λ (es : List (List ℕ × (List ℕ × List ℕ))). finmap.from_entries es) (packages_kept texts more packages e t.packages_within) in
      λ i. record { mode = mode; counts = counts i; packages = firsts i }

-- ---- texts and rows

-- an earlier mode is the same, or there were no rows
same_most : (mode : Option Mode) (second : Mode) (texts : List (List ℕ)) (rows : List Row) → Agree mode (Some second) → (mode ≡ None → rows ≡ []) → counts_up_to (greatest second) texts rows ≡ counts_up_to (greatest_of mode) texts rows
same_most None second texts rows a n =
    let e : rows ≡ [] = n refl in
    ap (counts_up_to (greatest second) texts) e ∙ sym (ap (counts_up_to 0 texts) e)
same_most (Some first) second texts rows a n = ap (λ (m : Mode). counts_up_to (greatest m) texts rows) (sym (a first second refl refl))

module _ (mode : Option Mode) (second : Mode) (texts more : List (List ℕ)) (rows rows' added : List Row) (packages packages' others : List PackageRow) (counts : List (Key × ℕ)) (paths : List (List ℕ × (List ℕ × List ℕ))) where
  pub more_table : Extends texts more → IsTable mode texts rows packages → Means more added others counts paths → IsCovered counts paths → rows' ≡ rows ++ added → packages' ≡ packages ++ others → IsTable (Some second) more rows' packages'
  more_table e t m covers p q = record {
    rows_within = subst (AllWithin (length more)) (sym p) (within_append (length more) rows added (within_kept texts more rows e t.rows_within) m.rows_within);
    packages_within = subst (AllPackagesWithin (length more)) (sym q) (packages_within_append (length more) packages others (packages_within_kept texts more packages e t.packages_within) m.packages_within);
    nothing = λ none. cc;
    covered =
        let units : map (row_entry more) rows' ≡ map (row_entry texts) rows ++ counts = ap (map (row_entry more)) p ∙ map-append (row_entry more) rows added ∙ (λ i. entries_kept texts more rows e t.rows_within i ++ m.counts_are i) in
        let there : map (package_entry more) packages' ≡ map (package_entry texts) packages ++ paths = ap (map (package_entry more)) q ∙ map-append (package_entry more) packages others ∙ (λ i. packages_kept texts more packages e t.packages_within i ++ m.packages_are i) in
        subst (λ (es : List (Key × ℕ)). IsCovered es (map (package_entry more) packages')) (sym units) (subst (IsCovered (map (row_entry texts) rows ++ counts)) (sym there) (covered_append _ _ _ _ t.covered covers));
  }

  pub more_coverage : Extends texts more → IsTable mode texts rows packages → Means more added others counts paths → Agree mode (Some second) → rows' ≡ rows ++ added → packages' ≡ packages ++ others
      → coverage_of (Some second) more rows' packages' ≡ extended (coverage_of mode texts rows packages) second counts paths
  more_coverage e t m a p q =
      let sum : counts_up_to (greatest second) more rows' ≡ with_counts (sum_up_to (greatest second)) (counts_up_to (greatest_of mode) texts rows) counts =
      ap (counts_up_to (greatest second) more) p
      ∙ ap (with_counts (sum_up_to (greatest second)) finmap.empty) (map-append (row_entry more) rows added)
      ∙ counts_added key_total (greatest second) key_same finmap.empty (map (row_entry more) rows) (map (row_entry more) added)
      ∙ (λ i. with_counts (sum_up_to (greatest second)) (with_counts (sum_up_to (greatest second)) finmap.empty (entries_kept texts more rows e t.rows_within i)) (m.counts_are i))
      ∙ ap (λ (c : Counts). with_counts (sum_up_to (greatest second)) c counts) (same_most mode second texts rows a (λ n. (t.nothing n).0)) in
      let firsts : packages_in more packages' ≡ with_firsts (packages_in texts packages) paths =
      ap (packages_in more) q
      ∙ ap (λ (es : List (List ℕ × (List ℕ × List ℕ))). finmap.from_entries es) (map-append (package_entry more) packages others)
      ∙ firsts_added nat_list_cmp_total text_same (map (package_entry more) packages) (map (package_entry more) others)
      ∙ (λ i. with_firsts (finmap.from_entries (packages_kept texts more packages e t.packages_within i)) (m.packages_are i)) in
      λ i. record { mode = Some second; counts = sum i; packages = firsts i }

pub on_err : {T E : Type 0} (r : Result T E) (P : Type 0) → P → OnErr r P
on_err (Ok x) P p = tt
on_err (Err x) P p = p

module _ (mode : Option Mode) (texts : List (List ℕ)) (rows rows' : List Row) (packages packages' : List PackageRow) where
  pub same_table : IsTable mode texts rows packages → rows' ≡ rows → packages' ≡ packages → IsTable mode texts rows' packages'
  same_table t p q = subst (λ (r : List Row). IsTable mode texts r packages') (sym p) (subst (λ (r : List PackageRow). IsTable mode texts rows r) (sym q) t)

  pub same_coverage : rows' ≡ rows → packages' ≡ packages → coverage_of mode texts rows' packages' ≡ coverage_of mode texts rows packages
  same_coverage p q = λ i. coverage_of mode texts (p i) (q i)

-- another table's rows and its maps add the same
pub merged_rows : (table : Coverage) (mode : Mode) (texts : List (List ℕ)) (rows : List Row) (packages : List PackageRow) (other : Coverage) → coverage_of (Some mode) texts rows packages ≡ other
    → extended table mode (map (row_entry texts) rows) (map (package_entry texts) packages) ≡ merged table other
merged_rows table mode texts rows packages other e =
    (λ i. record {
      mode = Some mode;
      counts = sym (counts_entries key_total (greatest mode) (map (row_entry texts) rows) key_same table.counts) i;
      packages = sym (firsts_entries nat_list_cmp_total text_same table.packages (map (package_entry texts) packages)) i;
    })
    ∙ ap (merged table) e
