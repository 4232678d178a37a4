-- A pool of texts that only grows, and rows that name its texts by number.
use Rattle.std.proofs.Common.{suc, subst, ◌≡◌, ℕ, ◌+◌, ◌<◌, ◌≤◌, true, false, cond, not, ◌||◌, List, [], ◌∷◌, ◌++◌, map, length, refl, sym, ap, ◌∙◌, arith, length-append, append_assoc, append-nil}
use Rattle.std.specs.List.{zip, position_or_len, list_any}
use Rattle.std.specs.Str.{bytes_eq}
use Rattle.std.specs.Cmp.Lexicographic.{bytes_decides}
use Rattle.std.proofs.lemmas.List.{get_or_append_left}
use Rattle.std.proofs.Math.Seq.{get_or-append_seam}
use Rattle.cov_bytes.specs.Intern.{index_of, with_text}
use Rattle.cov_meta.specs.declared.meta.MetaUnit.{MetaUnit}
use Rattle.cov_meta.specs.declared.meta.MetaFunction.{MetaFunction}
use Rattle.cov_meta.specs.declared.meta.MetaPackage.{MetaPackage}
use Rattle.cov_table.specs.declared.row.Row.{Row}
use Rattle.cov_table.specs.declared.row.PackageRow.{PackageRow}
use Rattle.cov_table.specs.Coverage.{key_of, function_counts}
use Rattle.cov_table.specs.Rows.{text_at, row_key, row_entry, package_entry, Extends, Names, Within, AllWithin, PackageWithin, AllPackagesWithin, unit_row, unit_rows}

-- ---- texts

pub extends_same : (xs : List (List ℕ)) → Extends xs xs
extends_same xs = ([], sym (append-nil xs))

pub extends_trans : (xs ys zs : List (List ℕ)) → Extends xs ys → Extends ys zs → Extends xs zs
extends_trans xs ys zs (a, p) (b, q) = (a ++ b, q ∙ ap (λ (t : List (List ℕ)). t ++ b) p ∙ append_assoc xs a b)

pub extends_length : (xs ys : List (List ℕ)) → Extends xs ys → length xs ≤ length ys
extends_length xs ys (a, p) = rw p (omega (arith, length-append xs a))

pub extends_text : (xs ys : List (List ℕ)) (i : ℕ) → i < length xs → Extends xs ys → text_at ys i ≡ text_at xs i
extends_text xs ys i h (a, p) = ap (λ (t : List (List ℕ)). text_at t i) p ∙ get_or_append_left xs a [] i h

pub names_kept : (xs ys : List (List ℕ)) (i : ℕ) (t : List ℕ) → Extends xs ys → Names xs i t → Names ys i t
names_kept xs ys i t e n = (let h = extends_length xs ys e in let k = n.0 in omega arith, extends_text xs ys i n.0 e ∙ n.1)

pub renamed : (xs : List (List ℕ)) (i : ℕ) (t u : List ℕ) → t ≡ u → Names xs i t → Names xs i u
renamed xs i t u e n = (n.0, n.1 ∙ e)

pub extends_with : (xs : List (List ℕ)) (t : List ℕ) → Extends xs (with_text xs t)
extends_with xs t = elim (list_any (bytes_eq t) xs) as (λ b. Extends xs (cond b xs (xs ++ t ∷ []))) [ true ↦ extends_same xs | false ↦ (t ∷ [], refl) ]

-- the place of a text in texts that have it
found : (t : List ℕ) (xs : List (List ℕ)) → list_any (bytes_eq t) xs ≡ true → Names xs (position_or_len (bytes_eq t) xs) t
found t [] h = cc
found t (x ∷ xs) h =
    elim (bytes_eq t x) as (λ b. bytes_eq t x ≡ b → (b || list_any (bytes_eq t) xs) ≡ true → Names (x ∷ xs) (cond (not b) (1 + position_or_len (bytes_eq t) xs) 0) t) [
      | true ↦ λ e h. (omega arith, sym ((bytes_decides t x).0 e))
      | false ↦ λ e h. let rest = found t xs h in subst (λ (n : ℕ). Names (x ∷ xs) n t) (let one : suc (position_or_len (bytes_eq t) xs) ≡ 1 + position_or_len (bytes_eq t) xs = omega arith in one) (let k = rest.0 in omega arith, rest.1)
    ] refl h

-- and its place once it was added
added : (t : List ℕ) (xs : List (List ℕ)) → list_any (bytes_eq t) xs ≡ false → position_or_len (bytes_eq t) xs ≡ length xs
added t [] h = refl
added t (x ∷ xs) h =
    elim (bytes_eq t x) as (λ b. (b || list_any (bytes_eq t) xs) ≡ false → cond (not b) (1 + position_or_len (bytes_eq t) xs) 0 ≡ length (x ∷ xs)) [
      | true ↦ λ h. cc
      | false ↦ λ h. let rest = added t xs h in omega arith
    ] h

pub names_with : (xs : List (List ℕ)) (t : List ℕ) → Names (with_text xs t) (index_of xs t) t
names_with xs t =
    elim (list_any (bytes_eq t) xs) as (λ b. list_any (bytes_eq t) xs ≡ b → Names (cond b xs (xs ++ t ∷ [])) (index_of xs t) t) [
      | true ↦ λ h. found t xs h
      | false ↦ λ h. subst (λ (n : ℕ). Names (xs ++ t ∷ []) n t) (sym (added t xs h)) (omega (arith, length-append xs (t ∷ [])), get_or-append_seam xs t [] [])
    ] refl

-- ---- rows

pub within_more : (m n : ℕ) (rows : List Row) → m ≤ n → AllWithin m rows → AllWithin n rows
within_more m n [] h w = tt
within_more m n (r ∷ rows) h w = ((omega arith, omega arith, omega arith), within_more m n rows h w.1)

pub within_append : (n : ℕ) (rows more : List Row) → AllWithin n rows → AllWithin n more → AllWithin n (rows ++ more)
within_append n [] more w h = h
within_append n (x ∷ rows) more w h = (w.0, within_append n rows more w.1 h)

pub within_push : (n : ℕ) (rows : List Row) (r : Row) → AllWithin n rows → Within n r → AllWithin n (rows ++ r ∷ [])
within_push n rows r w h = within_append n rows (r ∷ []) w (h, tt)

pub within_kept : (xs ys : List (List ℕ)) (rows : List Row) → Extends xs ys → AllWithin (length xs) rows → AllWithin (length ys) rows
within_kept xs ys rows e w = within_more _ _ rows (extends_length xs ys e) w

key_kept : (xs ys : List (List ℕ)) (r : Row) → Extends xs ys → Within (length xs) r → row_key ys r ≡ row_key xs r
key_kept xs ys r e w =
    let a = extends_text xs ys r.package_path w.0 e in
    let b = extends_text xs ys r.file w.1 e in
    let c = extends_text xs ys r.function w.2 e in
    λ i. record (row_key xs r) { package_path = a i; file = b i; function = c i }

pub entries_kept : (xs ys : List (List ℕ)) (rows : List Row) → Extends xs ys → AllWithin (length xs) rows → map (row_entry ys) rows ≡ map (row_entry xs) rows
entries_kept xs ys [] e w = refl
entries_kept xs ys (r ∷ rows) e w = let k = key_kept xs ys r e w.0 in let t = entries_kept xs ys rows e w.1 in λ i. (k i, r.count) ∷ t i

-- ---- the rows of a function

key_named : (p : MetaPackage) (f : MetaFunction) (ys : List (List ℕ)) (a b c : ℕ) (u : MetaUnit) (n : ℕ) → Names ys a p.path → Names ys b f.file → Names ys c f.name → row_key ys (unit_row a b c f (u, n)) ≡ key_of p f u
key_named p f ys a b c u n s t v = λ i. record (key_of p f u) { package_path = s.1 i; file = t.1 i; function = v.1 i }

pub units_named : (p : MetaPackage) (f : MetaFunction) (ys : List (List ℕ)) (a b c : ℕ) → Names ys a p.path → Names ys b f.file → Names ys c f.name → (counts : List ℕ) → map (row_entry ys) (unit_rows a b c f counts) ≡ function_counts p f counts
units_named p f ys a b c s t v counts = go (zip f.units counts)
  where
    go : (es : List (MetaUnit × ℕ)) → map (row_entry ys) (map (unit_row a b c f) es) ≡ map (λ (e : MetaUnit × ℕ). (key_of p f e.0, e.1)) es
    go [] = refl
    go (e ∷ es) = let k = key_named p f ys a b c e.0 e.1 s t v in let rest = go es in λ i. (k i, e.1) ∷ rest i

pub units_within : (f : MetaFunction) (n a b c : ℕ) → a < n → b < n → c < n → (counts : List ℕ) → AllWithin n (unit_rows a b c f counts)
units_within f n a b c s t v counts = go (zip f.units counts)
  where
    go : (es : List (MetaUnit × ℕ)) → AllWithin n (map (unit_row a b c f) es)
    go [] = tt
    go (e ∷ es) = ((s, t, v), go es)

-- ---- packages

pub packages_within_more : (m n : ℕ) (rows : List PackageRow) → m ≤ n → AllPackagesWithin m rows → AllPackagesWithin n rows
packages_within_more m n [] h w = tt
packages_within_more m n (r ∷ rows) h w = ((omega arith, omega arith, omega arith), packages_within_more m n rows h w.1)

pub packages_within_append : (n : ℕ) (rows more : List PackageRow) → AllPackagesWithin n rows → AllPackagesWithin n more → AllPackagesWithin n (rows ++ more)
packages_within_append n [] more w h = h
packages_within_append n (x ∷ rows) more w h = (w.0, packages_within_append n rows more w.1 h)

pub packages_within_kept : (xs ys : List (List ℕ)) (rows : List PackageRow) → Extends xs ys → AllPackagesWithin (length xs) rows → AllPackagesWithin (length ys) rows
packages_within_kept xs ys rows e w = packages_within_more _ _ rows (extends_length xs ys e) w

package_kept : (xs ys : List (List ℕ)) (r : PackageRow) → Extends xs ys → PackageWithin (length xs) r → package_entry ys r ≡ package_entry xs r
package_kept xs ys r e w =
    let a = extends_text xs ys r.path w.0 e in
    let b = extends_text xs ys r.name w.1 e in
    let c = extends_text xs ys r.module w.2 e in
    λ i. (a i, (b i, c i))

pub packages_kept : (xs ys : List (List ℕ)) (rows : List PackageRow) → Extends xs ys → AllPackagesWithin (length xs) rows → map (package_entry ys) rows ≡ map (package_entry xs) rows
packages_kept xs ys [] e w = refl
packages_kept xs ys (r ∷ rows) e w = let k = package_kept xs ys r e w.0 in let t = packages_kept xs ys rows e w.1 in λ i. k i ∷ t i
