-- What keeps the limits fits the fields.
use Rattle.std.proofs.Common.{◌≡◌, ℕ, zero, suc, ◌+◌, ◌*◌, ◌<◌, ◌≤◌, ◌^◌, ◌/◌, List, [], ◌∷◌, ◌++◌, length, get_or, map, flat_map, sum_by, All, refl, arith, length-append}
use Rattle.std.specs.List.{concat}
use Rattle.std.proofs.lemmas.List.Sums.{sum_by-cons}
use Rattle.cov_bytes.specs.Writing.{uleb_of, groups_of, texts_text, table_text}
use Rattle.std.proofs.lemmas.Bool.Decides.{nat_tests}
use Rattle.cov_meta.specs.declared.meta.MetaUnit.{MetaUnit}
use Rattle.cov_meta.specs.declared.meta.MetaFunction.{MetaFunction}
use Rattle.cov_meta.specs.declared.meta.MetaPackage.{MetaPackage}
use Rattle.cov_meta.specs.declared.meta.Meta.{Meta}
use Rattle.cov_meta.specs.Spelling.{unit_numbers}
use Rattle.cov_bytes.specs.Intern.{index_of}
use Rattle.cov_meta.specs.Hash.{flag_number}
use Rattle.cov_meta.specs.Written.{KeepsLimits, texts_of, record_numbers, record_text, records_of, records_start}
use Rattle.cov_meta.specs.Parts.{PackageFits}

groups_short : (k n : ℕ) → length (groups_of k n) ≤ suc k
unfolding groups_of
groups_short zero n = omega arith
groups_short (suc k) n = let rest = groups_short k (n / 128) in grind (arith, nat_tests)

uleb_short : (n : ℕ) → length (uleb_of n) ≤ 5
unfolding uleb_of
uleb_short n = omega (arith, groups_short 4 n)

ulebs_short : (ns : List ℕ) → length (flat_map uleb_of ns) ≤ 5 * length ns
ulebs_short [] = omega arith
ulebs_short (n ∷ ns) = omega (arith, uleb_short n, ulebs_short ns, length-append (uleb_of n) (flat_map uleb_of ns))

units_short : (us : List MetaUnit) → length (flat_map unit_numbers us) ≡ 5 * length us
units_short [] = refl
units_short (u ∷ us) = omega (arith, units_short us)

record_short : (texts : List (List ℕ)) (f : MetaFunction) → length (record_text texts f) ≤ 20 + 25 * length f.units
unfolding record_text
record_short texts f =
    omega (arith, ulebs_short (record_numbers (index_of texts f.name) (index_of texts f.file) f), units_short f.units, length-append (flat_map unit_numbers f.units) (flag_number f.literal ∷ []))

records_short : (texts : List (List ℕ)) (fs : List MetaFunction) → length (concat (map (record_text texts) fs)) ≤ 20 * length fs + 25 * sum_by (λ f. length f.units) fs
records_short texts [] = omega arith
records_short texts (f ∷ fs) =
    omega (arith, record_short texts f, records_short texts fs, length-append (record_text texts f) (concat (map (record_text texts) fs)), sum_by-cons (λ (g : MetaFunction). length g.units) f fs)

texts_short : (texts : List (List ℕ)) → length (texts_text texts) ≤ 5 * length texts + sum_by length texts
texts_short [] = omega arith
texts_short (t ∷ texts) =
    omega (arith, texts_short texts, uleb_short (length t), length-append (uleb_of (length t)) t, length-append (uleb_of (length t) ++ t) (texts_text texts), sum_by-cons length t texts)

table_short : (texts : List (List ℕ)) → length (table_text texts) ≤ 5 + (5 * length texts + sum_by length texts)
unfolding table_text
table_short texts = omega (arith, texts_short texts, uleb_short (length texts), length-append (uleb_of (length texts)) (texts_text texts))

-- one of several is at most all together
pub one_of : {X : Type 0} (f : X → ℕ) (xs : List X) (k : ℕ) (d : X) → k < length xs → f (get_or xs k d) ≤ sum_by f xs
one_of f [] k d lt = absurd (omega arith)
one_of f (x ∷ xs) zero d lt = omega (arith, sum_by-cons f x xs)
one_of f (x ∷ xs) (suc k) d lt = omega (arith, sum_by-cons f x xs, one_of f xs k d (omega arith))

blob_small : (p : MetaPackage) → length p.functions ≤ 1048576 → sum_by (λ f. length f.units) p.functions ≤ 1048576 → length (texts_of p) ≤ 1048576 → sum_by length (texts_of p) ≤ 268435456
    → records_start p + length (concat (records_of p)) < 2 ^ 32
blob_small p functions units texts bytes = omega (arith, table_short (texts_of p), records_short (texts_of p) p.functions)

pub packages_fit : (meta : Meta) → KeepsLimits meta → All PackageFits meta.packages
packages_fit meta keeps k d lt =
    let functions = one_of (λ p. length p.functions) meta.packages k d lt in
    let units = one_of (λ p. sum_by (λ f. length f.units) p.functions) meta.packages k d lt in
    let texts = one_of (λ p. length (texts_of p)) meta.packages k d lt in
    let bytes = one_of (λ p. sum_by length (texts_of p)) meta.packages k d lt in
    record {
      functions = omega (arith, functions, keeps.few_functions);
      units = λ i e within. omega (arith, one_of (λ f. length f.units) (get_or meta.packages k d).functions i e within, units, keeps.few_units);
      texts = omega (arith, texts, keeps.few_texts);
      short = keeps.short_texts k d lt;
      small = blob_small (get_or meta.packages k d) (omega (arith, functions, keeps.few_functions)) (omega (arith, units, keeps.few_units)) (omega (arith, texts, keeps.few_texts)) (omega (arith, bytes, keeps.few_text_bytes));
    }
