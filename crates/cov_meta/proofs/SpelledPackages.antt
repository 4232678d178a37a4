-- Reading the packages of a file and their spelling.
use Rattle.std.proofs.Common.{◌≡◌, ℕ, ◌+◌, ◌≤◌, List, [], ◌∷◌, length, take, Ok, refl, ap, ◌∙◌, subst, arith}
use Rattle.std.specs.Prelude.{sum_by, All, map, nat_lt}
use Rattle.std.specs.List.{AllZip}
use Rattle.std.proofs.lemmas.Bool.{ltb-false, le-ltb}
use Rattle.std.proofs.lemmas.List.Elements.{All-nil, All-cons, All-head, All-tail}
use Rattle.std.proofs.lemmas.List.Sums.{sum_by-cons}
use Rattle.cov_outside.specs.declared.data_kind.DataKind.TheVariants.{BadRange}
use Rattle.cov_meta.specs.declared.fault.MetaFault.TheVariants.{At}
use Rattle.cov_meta.specs.declared.entries.OffsetField.{OffsetField}
use Rattle.cov_meta.specs.declared.entries.Entry.{Entry}
use Rattle.cov_meta.specs.declared.allowance.Allowance.{Allowance}
use Rattle.cov_meta.specs.declared.meta.MetaPackage.{MetaPackage}
use Rattle.cov_meta.specs.Each.{each}
use Rattle.cov_meta.specs.Blob.{blob_at}
use Rattle.cov_meta.specs.File.{package_at}
use Rattle.cov_meta.specs.Spelling.{Blob, IsBlob}
use Rattle.cov_meta.proofs.Bind.{bind_ok, same_ok, passed}
use Rattle.cov_meta.proofs.SpelledRecords.{units_of}
use Rattle.cov_meta.proofs.SpelledPackage.{Fits, left_of, blob_spells, blob_reads}

-- packages and their texts pass no limit of which so much is left
pub record AllFit (left : Allowance) (blobs : List Blob) (packages : List MetaPackage) : Type 0 where
  pub functions : sum_by (λ p. length p.functions) packages ≤ left.functions
  pub strings : sum_by (λ b. length b.texts) blobs ≤ left.strings
  pub short : All (λ b. All (λ t. length t ≤ 2048) b.texts) blobs
  pub bytes : sum_by (λ b. sum_by length b.texts) blobs ≤ left.string_bytes
  pub units : sum_by (λ p. units_of p.functions) packages ≤ left.units

none_fit : (left : Allowance) → AllFit left [] []
none_fit left = record { functions = omega arith; strings = omega arith; short = All-nil (λ b. All (λ t. length t ≤ 2048) b.texts); bytes = omega arith; units = omega arith }

more_fit : (left : Allowance) (b : Blob) (bs : List Blob) (p : MetaPackage) (ps : List MetaPackage) → Fits left b.texts p → AllFit (left_of left b.texts p) bs ps → AllFit left (b ∷ bs) (p ∷ ps)
more_fit left b bs p ps one rest =
    let functions = sum_by-cons (λ (p : MetaPackage). length p.functions) p ps in
    let strings = sum_by-cons (λ (b : Blob). length b.texts) b bs in
    let bytes = sum_by-cons (λ (b : Blob). sum_by length b.texts) b bs in
    let units = sum_by-cons (λ (p : MetaPackage). units_of p.functions) p ps in
    record {
      functions = omega (arith, one.functions, rest.functions);
      strings = omega (arith, one.strings, rest.strings);
      short = All-cons (λ b. All (λ t. length t ≤ 2048) b.texts) b bs one.short rest.short;
      bytes = omega (arith, one.bytes, rest.bytes);
      units = omega (arith, one.units, rest.units);
    }

first_fits : (left : Allowance) (b : Blob) (bs : List Blob) (p : MetaPackage) (ps : List MetaPackage) → AllFit left (b ∷ bs) (p ∷ ps) → Fits left b.texts p
first_fits left b bs p ps all =
    let functions = sum_by-cons (λ (p : MetaPackage). length p.functions) p ps in
    let strings = sum_by-cons (λ (b : Blob). length b.texts) b bs in
    let bytes = sum_by-cons (λ (b : Blob). sum_by length b.texts) b bs in
    let units = sum_by-cons (λ (p : MetaPackage). units_of p.functions) p ps in
    record {
      functions = omega (arith, all.functions);
      strings = omega (arith, all.strings);
      short = All-head (λ b. All (λ t. length t ≤ 2048) b.texts) b bs all.short;
      bytes = omega (arith, all.bytes);
      units = omega (arith, all.units);
    }

others_fit : (left : Allowance) (b : Blob) (bs : List Blob) (p : MetaPackage) (ps : List MetaPackage) → AllFit left (b ∷ bs) (p ∷ ps) → AllFit (left_of left b.texts p) bs ps
others_fit left b bs p ps all =
    let functions = sum_by-cons (λ (p : MetaPackage). length p.functions) p ps in
    let strings = sum_by-cons (λ (b : Blob). length b.texts) b bs in
    let bytes = sum_by-cons (λ (b : Blob). sum_by length b.texts) b bs in
    let units = sum_by-cons (λ (p : MetaPackage). units_of p.functions) p ps in
    record {
      functions = omega (arith, all.functions);
      strings = omega (arith, all.strings);
      short = All-tail (λ b. All (λ t. length t ≤ 2048) b.texts) b bs all.short;
      bytes = omega (arith, all.bytes);
      units = omega (arith, all.units);
    }

-- an entry that says where a blob stands
abbrev pub Says : Entry → Blob → Type 0
Says entry blob = (entry.place.offset ≡ blob.offset) × (entry.length ≡ blob.size)

-- a package that was read
record ReadPackage (bytes : List ℕ) (entry : Entry) (left : Allowance) (p : MetaPackage) (after : Allowance) : Type 0 where
  blob : Blob
  said : Says entry blob
  is_blob : IsBlob bytes blob p
  fits : Fits left blob.texts p
  after_is : after ≡ left_of left blob.texts p

package_spells : (bytes : List ℕ) (entry : Entry) (left : Allowance) (p : MetaPackage) (after : Allowance) → package_at bytes entry left ≡ Ok (p, after) → ReadPackage bytes entry left p after
unfolding package_at
package_spells bytes entry left p after e =
    let end = entry.place.offset + entry.length in
    let test = passed (nat_lt (length bytes) end) (At entry.place.at BadRange) (blob_at (take end bytes) entry.place.offset left) (p, after) e in
    let read = blob_spells (take end bytes) entry.place.offset left p after test.1 in
    record {
      blob = record { offset = entry.place.offset; size = entry.length; texts = read.texts };
      said = (refl, refl);
      is_blob = record { within = ltb-false (length bytes) end test.0; package_is = read.spelled };
      fits = read.fits;
      after_is = read.after_is;
    }

package_reads : (bytes : List ℕ) (entry : Entry) (left : Allowance) (blob : Blob) (p : MetaPackage) → Says entry blob → IsBlob bytes blob p → Fits left blob.texts p
    → package_at bytes entry left ≡ Ok (p, left_of left blob.texts p)
unfolding package_at
package_reads bytes entry left blob p said s fits =
    rw (said.0, said.1, le-ltb (length bytes) (blob.offset + blob.size) s.within, blob_reads (take (blob.offset + blob.size) bytes) blob.offset left blob.texts p s.package_is fits) refl

-- packages that were read
pub record ReadPackages (bytes : List ℕ) (entries : List Entry) (left : Allowance) (packages : List MetaPackage) : Type 0 where
  pub blobs : List Blob
  pub said : AllZip Says entries blobs
  pub are_blobs : AllZip (IsBlob bytes) blobs packages
  pub fit : AllFit left blobs packages

-- packages that were read are spelled
pub packages_spell : (bytes : List ℕ) (entries : List Entry) (left : Allowance) (ps : List MetaPackage) (after : Allowance) → each (package_at bytes) entries left ≡ Ok (ps, after) → ReadPackages bytes entries left ps
unfolding each
packages_spell bytes [] left ps after e =
    let begin : List MetaPackage × Allowance = ([], left) in
    subst (λ (y : List MetaPackage × Allowance). ReadPackages bytes [] left y.0) (same_ok begin (ps, after) e)
    (record { blobs = []; said = tt; are_blobs = tt; fit = none_fit left })
packages_spell bytes (entry ∷ entries) left ps after e =
    let first = bind_ok (package_at bytes entry left) _ _ e in
    let others = bind_ok (each (package_at bytes) entries first.0.1) _ _ first.2 in
    let one = package_spells bytes entry left first.0.0 first.0.1 first.1 in
    let rest = packages_spell bytes entries first.0.1 others.0.0 others.0.1 others.1 in
    let rest_fit = subst (λ (l : Allowance). AllFit l rest.blobs others.0.0) one.after_is rest.fit in
    subst (λ (y : List MetaPackage × Allowance). ReadPackages bytes (entry ∷ entries) left y.0) (same_ok _ _ others.2)
    (record {
      blobs = one.blob ∷ rest.blobs;
      said = (one.said, rest.said);
      are_blobs = (one.is_blob, rest.are_blobs);
      fit = more_fit left one.blob rest.blobs first.0.0 others.0.0 one.fits rest_fit;
    })

-- packages that are spelled and pass no limit are read
pub packages_read : (bytes : List ℕ) (entries : List Entry) (left : Allowance) (blobs : List Blob) (ps : List MetaPackage) → AllZip Says entries blobs → AllZip (IsBlob bytes) blobs ps → AllFit left blobs ps
    → (after : Allowance) × (each (package_at bytes) entries left ≡ Ok (ps, after))
unfolding each
packages_read bytes [] left [] [] said are fit = (left, refl)
packages_read bytes [] left [] (p ∷ ps) said are fit = absurd are
packages_read bytes [] left (b ∷ bs) ps said are fit = absurd said
packages_read bytes (e ∷ es) left [] ps said are fit = absurd said
packages_read bytes (e ∷ es) left (b ∷ bs) [] said are fit = absurd are
packages_read bytes (e ∷ es) left (b ∷ bs) (p ∷ ps) said are fit =
    let rest = packages_read bytes es (left_of left b.texts p) bs ps said.1 are.1 (others_fit left b bs p ps fit) in
    (rest.0, rw (package_reads bytes e left b p said.0 are.0 (first_fits left b bs p ps fit), rest.1) refl)

-- the entries that say where blobs stand
pub record Entries (places : List OffsetField) (blobs : List Blob) : Type 0 where
  pub entries : List Entry
  pub places_are : map (λ e. e.place) entries ≡ places
  pub lengths_are : map (λ e. e.length) entries ≡ map (λ b. b.size) blobs
  pub said : AllZip Says entries blobs

pub entries_of : (places : List OffsetField) (blobs : List Blob) → map (λ p. p.offset) places ≡ map (λ b. b.offset) blobs → Entries places blobs
entries_of [] [] same = record { entries = []; places_are = refl; lengths_are = refl; said = tt }
entries_of [] (b ∷ bs) same = absurd (cc)
entries_of (p ∷ ps) [] same = absurd (cc)
entries_of (p ∷ ps) (b ∷ bs) same =
    let head : p.offset ≡ b.offset = cc in
    let tail : map (λ p. p.offset) ps ≡ map (λ b. b.offset) bs = cc in
    let rest = entries_of ps bs tail in
    let entry : Entry = record { place = p; length = b.size } in
    record {
      entries = entry ∷ rest.entries;
      places_are = ap (λ (xs : List OffsetField). p ∷ xs) rest.places_are;
      lengths_are = ap (λ (xs : List ℕ). b.size ∷ xs) rest.lengths_are;
      said = ((head, refl), rest.said);
    }

-- what entries say of their blobs
pub said_offsets : (entries : List Entry) (blobs : List Blob) → AllZip Says entries blobs → map (λ e. e.place.offset) entries ≡ map (λ b. b.offset) blobs
said_offsets [] [] said = refl
said_offsets [] (b ∷ bs) said = absurd said
said_offsets (e ∷ es) [] said = absurd said
said_offsets (e ∷ es) (b ∷ bs) said = ap (λ (n : ℕ). n ∷ map (λ e. e.place.offset) es) said.0.0 ∙ ap (λ (ns : List ℕ). b.offset ∷ ns) (said_offsets es bs said.1)

pub said_sizes : (entries : List Entry) (blobs : List Blob) → AllZip Says entries blobs → map (λ e. e.length) entries ≡ map (λ b. b.size) blobs
said_sizes [] [] said = refl
said_sizes [] (b ∷ bs) said = absurd said
said_sizes (e ∷ es) [] said = absurd said
said_sizes (e ∷ es) (b ∷ bs) said = ap (λ (n : ℕ). n ∷ map (λ e. e.length) es) said.0.1 ∙ ap (λ (ns : List ℕ). b.size ∷ ns) (said_sizes es bs said.1)
