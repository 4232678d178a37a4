-- Reading a blob and its spelling.
use Rattle.std.proofs.Common.{◌≡◌, ℕ, suc, ◌+◌, ◌-◌, ◌≤◌, List, [], ◌∷◌, length, Some, Ok, refl, sym, ap, ◌∙◌, subst, arith}
use Rattle.std.specs.Prelude.{sum_by, All, map, slice_get}
use Rattle.std.specs.List.{AllZip}
use Rattle.std.proofs.lemmas.List.{length-map}
use Rattle.cov_bytes.specs.Many.{many}
use Rattle.cov_bytes.specs.Table.{table_at}
use Rattle.cov_meta.specs.declared.entries.Width.TheVariants.{Four}
use Rattle.cov_meta.specs.declared.blob.TextNumbers.{TextNumbers}
use Rattle.cov_meta.specs.declared.blob.PackageNames.{PackageNames}
use Rattle.cov_meta.specs.declared.allowance.Allowance.{Allowance}
use Rattle.cov_meta.specs.declared.meta.MetaPackage.{MetaPackage}
use Rattle.cov_meta.specs.Fault.{table}
use Rattle.cov_meta.specs.Entries.{offset_at}
use Rattle.cov_meta.specs.Function.{named, functions_at}
use Rattle.cov_meta.specs.Blob.{numbers_at, functions_count_at, text_limits, texts_at, names_of, left_behind, blob_at}
use Rattle.cov_meta.specs.Spelling.{InTurn, IsFixed, IsPackage}
use Rattle.cov_meta.proofs.Bind.{bind_ok, table_ok, same_ok}
use Rattle.cov_meta.proofs.SpelledTexts.{table_spells, table_reads}
use Rattle.cov_meta.proofs.SpelledFunction.{named_spells, named_reads}
use Rattle.cov_meta.proofs.SpelledOffsets.{IsOffset, offsets_spell, offsets_read, places_of}
use Rattle.cov_meta.proofs.SpelledHead.{moved, Numbers, numbers_spell, numbers_read, count_spells, count_reads}
use Rattle.cov_meta.proofs.SpelledRecords.{units_of, StandsFrom, functions_spell, functions_read}

-- the names that stand in a table under their numbers
record Named (texts : List (List ℕ)) (numbers : TextNumbers) (names : PackageNames) : Type 0 where
  name : slice_get texts numbers.name ≡ Some names.name
  path : slice_get texts numbers.path ≡ Some names.path
  module_path : slice_get texts numbers.«module» ≡ Some names.«module»

names_spell : (texts : List (List ℕ)) (start : ℕ) (numbers : TextNumbers) (names : PackageNames) → names_of texts start numbers ≡ Ok names → Named texts numbers names
unfolding names_of
names_spell texts start numbers names e =
    let name = bind_ok (named (slice_get texts numbers.name) numbers.name (length texts) (start + 4)) _ _ e in
    let path = bind_ok (named (slice_get texts numbers.path) numbers.path (length texts) (start + 8)) _ _ name.2 in
    let module_path = bind_ok (named (slice_get texts numbers.«module») numbers.«module» (length texts) (start + 12)) _ _ path.2 in
    subst (λ (y : PackageNames). Named texts numbers y) (same_ok _ _ module_path.2)
    (record {
      name = named_spells texts numbers.name (start + 4) name.0 name.1;
      path = named_spells texts numbers.path (start + 8) path.0 path.1;
      module_path = named_spells texts numbers.«module» (start + 12) module_path.0 module_path.1;
    })

names_read : (texts : List (List ℕ)) (start : ℕ) (numbers : TextNumbers) (names : PackageNames) → Named texts numbers names → names_of texts start numbers ≡ Ok names
unfolding names_of
names_read texts start numbers names s =
    rw (named_reads texts numbers.name (start + 4) names.name s.name, named_reads texts numbers.path (start + 8) names.path s.path, named_reads texts numbers.«module» (start + 12) names.«module» s.module_path) refl

-- a package and its texts pass no limit of which so much is left
pub record Fits (left : Allowance) (texts : List (List ℕ)) (p : MetaPackage) : Type 0 where
  pub functions : length p.functions ≤ left.functions
  pub strings : length texts ≤ left.strings
  pub short : All (λ x. length x ≤ 2048) texts
  pub bytes : sum_by length texts ≤ left.string_bytes
  pub units : units_of p.functions ≤ left.units

-- what is left behind a package
abbrev pub left_of : Allowance → List (List ℕ) → MetaPackage → Allowance
left_of left texts p = left_behind left (length p.functions) texts (left.units - units_of p.functions)

-- a package that was read
pub record Read (bytes : List ℕ) (start : ℕ) (left : Allowance) (p : MetaPackage) (after : Allowance) : Type 0 where
  pub texts : List (List ℕ)
  pub spelled : IsPackage texts bytes start p
  pub fits : Fits left texts p
  pub after_is : after ≡ left_of left texts p

-- a blob that was read is spelled
pub blob_spells : (bytes : List ℕ) (start : ℕ) (left : Allowance) (p : MetaPackage) (after : Allowance) → blob_at bytes start left ≡ Ok (p, after) → Read bytes start left p after
unfolding blob_at texts_at
blob_spells bytes start left p after e =
    let numbers = bind_ok (numbers_at bytes start) _ _ e in
    let count = bind_ok (functions_count_at left.functions bytes numbers.0.1) _ _ numbers.2 in
    let places = bind_ok (many (offset_at Four bytes) count.0.0 count.0.1) _ _ count.2 in
    let texts = bind_ok (table (table_at (text_limits left) bytes places.0.1)) _ _ places.2 in
    let names = bind_ok (names_of texts.0.0 start numbers.0.0) _ _ texts.2 in
    let functions = bind_ok (functions_at texts.0.0 bytes start places.0.0 left.units) _ _ names.2 in
    let n = numbers_spell bytes start numbers.0.0 numbers.0.1 numbers.1 in
    let c = count_spells left.functions bytes numbers.0.1 count.0.0 count.0.1 count.1 in
    let o = offsets_spell Four bytes count.0.0 count.0.1 places.0.0 places.0.1 places.1 in
    let t = table_spells (text_limits left) bytes places.0.1 texts.0.0 texts.0.1 (table_ok (table_at (text_limits left) bytes places.0.1) texts.0 texts.1) in
    let m = names_spell texts.0.0 start numbers.0.0 names.0 names.1 in
    let f = functions_spell texts.0.0 bytes start places.0.0 left.units functions.0.0 functions.0.1 functions.1 in
    let counted : count.0.0 ≡ length functions.0.0 = sym o.0 ∙ sym f.1 in
    let table_start : count.0.1 ≡ start + 44 = omega (arith, n.next_is, c.1) in
    let count_start : numbers.0.1 + 24 ≡ start + 40 = omega (arith, n.next_is) in
    let count_end : numbers.0.1 + 28 ≡ start + 44 = omega (arith, n.next_is) in
    let count_number : IsFixed 4 bytes (start + 40) (length functions.0.0) (start + 44) =
    subst (λ (k : ℕ). IsFixed 4 bytes (start + 40) k (start + 44)) counted (subst (λ (k : ℕ). IsFixed 4 bytes k count.0.0 (start + 44)) count_start (subst (λ (k : ℕ). IsFixed 4 bytes (numbers.0.1 + 24) count.0.0 k) count_end c.0)) in
    let offsets = subst (λ (k : ℕ). InTurn (IsFixed 4 bytes) k (map (λ q. q.offset) places.0.0) places.0.1) table_start o.1 in
    subst (λ (y : MetaPackage × Allowance). Read bytes start left y.0 y.1) (same_ok _ _ functions.2)
    (record {
      texts = texts.0.0;
      spelled = record {
        offsets = map (λ q. q.offset) places.0.0;
        table = places.0.1;
        name_is = record { number = numbers.0.0.name; number_stands = moved 4 bytes (start + 4) numbers.0.0.name (start + 8) (start + 4) ((start + 4) + 4) refl (omega arith) n.name; text_is = m.name };
        path_is = record { number = numbers.0.0.path; number_stands = moved 4 bytes (start + 8) numbers.0.0.path (start + 12) (start + 8) ((start + 8) + 4) refl (omega arith) n.path; text_is = m.path };
        module_is = record { number = numbers.0.0.«module»; number_stands = moved 4 bytes (start + 12) numbers.0.0.«module» (start + 16) (start + 12) ((start + 12) + 4) refl (omega arith) n.module_path; text_is = m.module_path };
        count_stands = moved 4 bytes (start + 40) (length functions.0.0) (start + 44) (start + 40) ((start + 40) + 4) refl (omega arith) count_number;
        offsets_stand = offsets;
        texts_stand = t.0;
        functions_are = f.0;
      };
      fits = record { functions = rw (← counted) c.2; strings = t.1; short = t.2; bytes = t.3; units = f.2 };
      after_is = ap (λ (k : ℕ). left_behind left k texts.0.0 functions.0.1) counted ∙ ap (λ (k : ℕ). left_behind left (length functions.0.0) texts.0.0 k) f.3;
    })

pub zipped_length : {A B : Type 0} (R : A → B → Type 0) (xs : List A) (ys : List B) → AllZip R xs ys → length xs ≡ length ys
zipped_length R [] [] z = refl
zipped_length R [] (y ∷ ys) z = absurd z
zipped_length R (x ∷ xs) [] z = absurd z
zipped_length R (x ∷ xs) (y ∷ ys) z = ap suc (zipped_length R xs ys z.1)

-- a blob that is spelled and passes no limit is read
pub blob_reads : (bytes : List ℕ) (start : ℕ) (left : Allowance) (texts : List (List ℕ)) (p : MetaPackage) → IsPackage texts bytes start p → Fits left texts p
    → blob_at bytes start left ≡ Ok (p, left_of left texts p)
unfolding blob_at texts_at
blob_reads bytes start left texts p s fits =
    let numbers : TextNumbers = record { name = s.name_is.number; path = s.path_is.number; «module» = s.module_is.number } in
    let n : Numbers bytes start numbers (start + 16) = record {
      name = moved 4 bytes (start + 4) s.name_is.number ((start + 4) + 4) (start + 4) (start + 8) refl (omega arith) s.name_is.number_stands;
      path = moved 4 bytes (start + 8) s.path_is.number ((start + 8) + 4) (start + 8) (start + 12) refl (omega arith) s.path_is.number_stands;
      module_path = moved 4 bytes (start + 12) s.module_is.number ((start + 12) + 4) (start + 12) (start + 16) refl (omega arith) s.module_is.number_stands;
      next_is = refl;
    } in
    let count_start : start + 40 ≡ (start + 16) + 24 = omega arith in
    let count_end : start + 44 ≡ (start + 16) + 28 = omega arith in
    let c = moved 4 bytes (start + 40) (length p.functions) ((start + 40) + 4) ((start + 16) + 24) ((start + 16) + 28) count_start (omega arith) s.count_stands in
    let o = places_of 4 bytes (start + 44) s.offsets s.table s.offsets_stand in
    let turns = subst (λ (k : ℕ). InTurn (IsOffset 4 bytes) k o.0 s.table) count_end o.1 in
    let many_places = offsets_read Four bytes ((start + 16) + 28) o.0 s.table turns in
    let as_many : length o.0 ≡ length p.functions = sym (length-map o.0 (λ q. q.offset)) ∙ ap length o.2 ∙ zipped_length (StandsFrom texts bytes start) s.offsets p.functions s.functions_are in
    let counted : many (offset_at Four bytes) (length p.functions) ((start + 16) + 28) ≡ Ok (o.0, s.table) = subst (λ (k : ℕ). many (offset_at Four bytes) k ((start + 16) + 28) ≡ Ok (o.0, s.table)) as_many many_places in
    let stand = subst (λ (xs : List ℕ). AllZip (StandsFrom texts bytes start) xs p.functions) (sym o.2) s.functions_are in
    let names : PackageNames = record { name = p.name; path = p.path; «module» = p.«module» } in
    let m : Named texts numbers names = record { name = s.name_is.text_is; path = s.path_is.text_is; module_path = s.module_is.text_is } in
    rw (numbers_read bytes start numbers n, count_reads left.functions bytes (start + 16) (length p.functions) c fits.functions, counted, table_reads (text_limits left) bytes s.table texts s.texts_stand fits.strings fits.short fits.bytes, names_read texts start numbers names m, functions_read texts bytes start o.0 left.units p.functions stand fits.units) refl
