-- What a table means in which some counts become 0.
use Rattle.std.proofs.Common.{◌≡◌, ℕ, Bool, true, is_some, List, [], ◌∷◌, map, length, Option, refl, sym, ap, subst, ◌∙◌}
use Rattle.std.specs.Prelude.{unwrap_or}
use Rattle.std.specs.FinMap as finmap
use Rattle.cov_outside.specs.declared.mode.Mode.{Mode}
use Rattle.cov_table.specs.declared.row.Row.{Row}
use Rattle.cov_table.specs.declared.row.PackageRow.{PackageRow}
use Rattle.cov_table.specs.declared.keep.Keeps.{Keeps}
use Rattle.cov_table.specs.Key.{Key, key_cmp, text_cmp}
use Rattle.cov_table.specs.Counts.{count_of, with_counts, has}
use Rattle.cov_table.specs.Coverage.{Coverage}
use Rattle.cov_table.specs.Operations.{only, kept_where}
use Rattle.cov_table.specs.Keeping.{passes, count_among, kept_row}
use Rattle.cov_table.specs.Rows.{row_entry, package_entry, Extends, AllWithin, IsTable, coverage_of, counts_up_to, greatest_of, packages_in}
use Rattle.cov_table.proofs.Keys.{key_total, key_same}
use Rattle.cov_table.proofs.Counting.{sum_up_to}
use Rattle.cov_table.proofs.Keeping.{counts_only, has_only}
use Rattle.cov_table.proofs.Pool.{within_kept, packages_within_kept, entries_kept, packages_kept}
use Rattle.cov_table.proofs.Tables.{kept_coverage}

module _ (keeps : Keeps) (texts : List (List ℕ)) (others : List Row) where
  within : (n : ℕ) (rows : List Row) → AllWithin n rows → AllWithin n (map (kept_row keeps texts others) rows)
  within n [] w = tt
  within n (r ∷ rows) w = (w.0, within n rows w.1)

  entries : (rows : List Row) → map (row_entry texts) (map (kept_row keeps texts others) rows) ≡ only (λ k. passes keeps (count_among texts others k)) (map (row_entry texts) rows)
  entries [] = refl
  entries (r ∷ rows) = ap (λ (es : List (Key × ℕ)). row_entry texts (kept_row keeps texts others r) ∷ es) (entries rows)

module _ (mode : Option Mode) (texts more : List (List ℕ)) (rows rows' others : List Row) (packages : List PackageRow) (keeps : Keeps) where
  pub kept_is_table : Extends texts more → IsTable mode texts rows packages → rows' ≡ map (kept_row keeps more others) rows → IsTable mode more rows' packages
  kept_is_table e t p = record {
    rows_within = subst (AllWithin (length more)) (sym p) (within keeps more others (length more) rows (within_kept texts more rows e t.rows_within));
    packages_within = packages_within_kept texts more packages e t.packages_within;
    nothing = λ none. (p ∙ ap (map (kept_row keeps more others)) (t.nothing none).0, (t.nothing none).1);
    covered =
        λ key h.
        subst (λ (es : List (List ℕ × (List ℕ × List ℕ))). is_some (finmap.find text_cmp key.package_path es) ≡ true) (sym (packages_kept texts more packages e t.packages_within))
        (t.covered key
        (ap (has key_cmp key) (sym (entries_kept texts more rows e t.rows_within))
        ∙ sym (has_only key_total key_same (λ k. passes keeps (count_among more others k)) key (map (row_entry more) rows))
        ∙ ap (has key_cmp key) (sym (ap (map (row_entry more)) p ∙ entries keeps more others rows))
        ∙ h));
  }

  pub kept_means : (table other : Coverage) → Extends texts more → IsTable mode texts rows packages → coverage_of mode texts rows packages ≡ table → map (row_entry more) others ≡ finmap.entries other.counts
      → rows' ≡ map (kept_row keeps more others) rows → coverage_of mode more rows' packages ≡ kept_where (passes keeps) table other
  kept_means table other e t is same p =
      let stays : Key → Bool = λ k. passes keeps (count_of other.counts k) in
      let tests : (k : Key) → passes keeps (count_among more others k) ≡ stays k = λ k. ap (λ (es : List (Key × ℕ)). passes keeps (unwrap_or (finmap.find key_cmp k es) 0)) same ∙ ap (λ v. passes keeps (unwrap_or v 0)) (sym (finmap.get-entries other.counts k)) in
      let before : coverage_of mode more rows packages ≡ table = kept_coverage mode texts more rows packages e t ∙ is in
      let counts : counts_up_to (greatest_of mode) more rows' ≡ finmap.from_entries (only stays (finmap.entries (counts_up_to (greatest_of mode) more rows))) =
      ap (counts_up_to (greatest_of mode) more) p
      ∙ ap (with_counts (sum_up_to (greatest_of mode)) finmap.empty) (entries keeps more others rows ∙ (λ i. only (λ k. tests k i) (map (row_entry more) rows)))
      ∙ counts_only key_total key_same stays (greatest_of mode) (map (row_entry more) rows) in
      (λ i. record { mode = mode; counts = counts i; packages = packages_in more packages })
      ∙ ap (λ (t : Coverage). record t { counts = finmap.from_entries (only stays (finmap.entries t.counts)) }) before
