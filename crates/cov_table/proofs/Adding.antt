-- What rows that are added mean, where texts are added before them.
use Rattle.std.proofs.Common.{◌≡◌, ℕ, List, [], ◌∷◌, ◌++◌, map, length, sym, ap, subst, ◌∙◌}
use Rattle.std.proofs.lemmas.List.{map-append}
use Rattle.cov_meta.specs.declared.meta.MetaFunction.{MetaFunction}
use Rattle.cov_meta.specs.declared.meta.MetaPackage.{MetaPackage}
use Rattle.cov_table.specs.declared.row.Row.{Row}
use Rattle.cov_table.specs.declared.row.PackageRow.{PackageRow}
use Rattle.cov_table.specs.Coverage.{function_counts, package_of}
use Rattle.cov_table.specs.Rows.{Extends, Names, AllWithin, AllPackagesWithin, row_entry, package_entry, unit_rows}
use Rattle.cov_table.proofs.Pool.{extends_trans, names_kept, within_kept, within_append, entries_kept, units_named, units_within, packages_within_kept, packages_within_append, packages_kept}

-- ---- a function, whose file was interned in s to t and whose name in t to u

module _ (p : MetaPackage) (f : MetaFunction) (counts : List ℕ) (s t u : List (List ℕ)) (rows after : List Row) (a b c : ℕ) where
  pub function_within : Extends s t → Extends t u → Names s a p.path → Names t b f.file → Names u c f.name → AllWithin (length s) rows → after ≡ rows ++ unit_rows a b c f counts → AllWithin (length u) after
  function_within d e x y z w h =
      let st : Extends s u = extends_trans s t u d e in
      subst (AllWithin (length u)) (sym h)
      (within_append (length u) rows _ (within_kept s u rows st w) (units_within f (length u) a b c (names_kept s u a p.path st x).0 (names_kept t u b f.file e y).0 z.0 counts))

  pub function_entries : Extends s t → Extends t u → Names s a p.path → Names t b f.file → Names u c f.name → AllWithin (length s) rows → after ≡ rows ++ unit_rows a b c f counts
      → map (row_entry u) after ≡ map (row_entry s) rows ++ function_counts p f counts
  function_entries d e x y z w h =
      let st : Extends s u = extends_trans s t u d e in
      ap (map (row_entry u)) h
      ∙ map-append (row_entry u) rows (unit_rows a b c f counts)
      ∙ (λ i. entries_kept s u rows st w i ++ units_named p f u a b c (names_kept s u a p.path st x) (names_kept t u b f.file e y) z counts i)

-- ---- a package, whose path was interned in s to t, its name in t to u and its module path in u to v

module _ (p : MetaPackage) (s t u v : List (List ℕ)) (rows after : List PackageRow) (row : PackageRow) where
  pub package_within : Extends s t → Extends t u → Extends u v → Names t row.path p.path → Names u row.name p.name → Names v row.module p.module → AllPackagesWithin (length s) rows → after ≡ rows ++ row ∷ [] → AllPackagesWithin (length v) after
  package_within d e g x y z w h =
      let tv : Extends t v = extends_trans t u v e g in
      let sv : Extends s v = extends_trans s t v d tv in
      subst (AllPackagesWithin (length v)) (sym h)
      (packages_within_append (length v) rows (row ∷ []) (packages_within_kept s v rows sv w) (((names_kept t v row.path p.path tv x).0, (names_kept u v row.name p.name g y).0, z.0), tt))

  pub package_entries : Extends s t → Extends t u → Extends u v → Names t row.path p.path → Names u row.name p.name → Names v row.module p.module → AllPackagesWithin (length s) rows → after ≡ rows ++ row ∷ []
      → map (package_entry v) after ≡ map (package_entry s) rows ++ package_of p ∷ []
  package_entries d e g x y z w h =
      let tv : Extends t v = extends_trans t u v e g in
      let sv : Extends s v = extends_trans s t v d tv in
      let a = (names_kept t v row.path p.path tv x).1 in
      let b = (names_kept u v row.name p.name g y).1 in
      ap (map (package_entry v)) h
      ∙ map-append (package_entry v) rows (row ∷ [])
      ∙ (λ i. packages_kept s v rows sv w i ++ (a i, (b i, z.1 i)) ∷ [])
