-- Rows of another table, by the numbers that its texts have here.
use Rattle.std.proofs.Common.{◌≡◌, ℕ, ◌+◌, ◌<◌, List, [], ◌∷◌, ◌++◌, map, length, get_or, refl, sym, ap, subst, ◌∙◌, arith, length-append, below_more}
use Rattle.std.proofs.lemmas.List.{get_or_append_left}
use Rattle.std.proofs.Math.Seq.{get_or-append_seam}
use Rattle.cov_table.specs.declared.row.Row.{Row}
use Rattle.cov_table.specs.declared.row.PackageRow.{PackageRow}
use Rattle.cov_table.specs.Rows.{text_at, row_entry, package_entry, Extends, Names, NamesAll, AllWithin, AllPackagesWithin, Means, renumbered_row, renumbered_package}
use Rattle.cov_table.proofs.Pool.{names_kept}

-- the first of the texts have their numbers
pub record NamesFirst (texts : List (List ℕ)) (numbers : List ℕ) (from : List (List ℕ)) (n : ℕ) : Type 0 where
  pub whole : length numbers ≡ n
  pub names : (i : ℕ) → i < n → Names texts (get_or numbers i 0) (text_at from i)

pub names_more : (texts more : List (List ℕ)) (numbers after : List ℕ) (from : List (List ℕ)) (n j : ℕ) → Extends texts more → Names more j (text_at from n) → after ≡ numbers ++ j ∷ [] → NamesFirst texts numbers from n → NamesFirst more after from (n + 1)
names_more texts more numbers after from n j e here is before = record {
  whole = let k = before.whole in let p = length-append numbers (j ∷ []) in let q = ap (λ (xs : List ℕ). length xs) is in omega arith;
  names =
      below_more (λ (i : ℕ). Names more (get_or after i 0) (text_at from i)) n
      (λ i h.
      let inside : i < length numbers = let k = before.whole in omega arith in
      let at : get_or after i 0 ≡ get_or numbers i 0 = ap (λ (xs : List ℕ). get_or xs i 0) is ∙ get_or_append_left numbers (j ∷ []) 0 i inside in
      subst (λ (m : ℕ). Names more m (text_at from i)) (sym at) (names_kept texts more _ _ e (before.names i h)))
      (let at : get_or after n 0 ≡ j = ap (λ (xs : List ℕ). get_or xs n 0) is ∙ ap (λ (m : ℕ). get_or (numbers ++ j ∷ []) m 0) (sym before.whole) ∙ get_or-append_seam numbers j [] 0 in
      subst (λ (m : ℕ). Names more m (text_at from n)) (sym at) here);
}

module _ (texts : List (List ℕ)) (numbers : List ℕ) (from : List (List ℕ)) (all : NamesAll texts numbers from) where
  pub rows_are : (rows : List Row) → AllWithin (length from) rows → map (row_entry texts) (map (renumbered_row numbers) rows) ≡ map (row_entry from) rows
  rows_are [] w = refl
  rows_are (r ∷ rows) w =
      let a = (all.names r.package_path w.0.0).1 in
      let b = (all.names r.file w.0.1).1 in
      let c = (all.names r.function w.0.2).1 in
      let rest = rows_are rows w.1 in
      λ i. (record { package_path = a i; file = b i; function = c i; literal = r.literal; start_line = r.start_line; start_column = r.start_column; end_line = r.end_line; end_column = r.end_column; statements = r.statements }, r.count) ∷ rest i

  pub rows_within : (rows : List Row) → AllWithin (length from) rows → AllWithin (length texts) (map (renumbered_row numbers) rows)
  rows_within [] w = tt
  rows_within (r ∷ rows) w = (((all.names r.package_path w.0.0).0, (all.names r.file w.0.1).0, (all.names r.function w.0.2).0), rows_within rows w.1)

  pub packages_are : (rows : List PackageRow) → AllPackagesWithin (length from) rows → map (package_entry texts) (map (renumbered_package numbers) rows) ≡ map (package_entry from) rows
  packages_are [] w = refl
  packages_are (r ∷ rows) w =
      let a = (all.names r.path w.0.0).1 in
      let b = (all.names r.name w.0.1).1 in
      let c = (all.names r.module w.0.2).1 in
      let rest = packages_are rows w.1 in
      λ i. (a i, (b i, c i)) ∷ rest i

  pub packages_within : (rows : List PackageRow) → AllPackagesWithin (length from) rows → AllPackagesWithin (length texts) (map (renumbered_package numbers) rows)
  packages_within [] w = tt
  packages_within (r ∷ rows) w = (((all.names r.path w.0.0).0, (all.names r.name w.0.1).0, (all.names r.module w.0.2).0), packages_within rows w.1)

pub meant : (texts : List (List ℕ)) (numbers : List ℕ) (from : List (List ℕ)) (rows rows' : List Row) (packages packages' : List PackageRow) → NamesAll texts numbers from → AllWithin (length from) rows → AllPackagesWithin (length from) packages
    → rows' ≡ map (renumbered_row numbers) rows → packages' ≡ map (renumbered_package numbers) packages → Means texts rows' packages' (map (row_entry from) rows) (map (package_entry from) packages)
meant texts numbers from rows rows' packages packages' all w v p q = record {
  rows_within = subst (AllWithin (length texts)) (sym p) (rows_within texts numbers from all rows w);
  packages_within = subst (AllPackagesWithin (length texts)) (sym q) (packages_within texts numbers from all packages v);
  counts_are = ap (map (row_entry texts)) p ∙ rows_are texts numbers from all rows w;
  packages_are = ap (map (package_entry texts)) q ∙ packages_are texts numbers from all packages v;
}
