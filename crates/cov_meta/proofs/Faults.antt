-- Reading never says that memory ran out.
use Rattle.std.proofs.Common.{◌≡◌, ℕ, zero, suc, ◌+◌, List, [], ◌∷◌, length, take, drop, Option, Some, None, Result, Ok, Err, subst}
use Rattle.std.specs.Prelude.{Bool, true, false, if◌then◌else◌, nat_lt, ◌==◌, slice_get}
use Rattle.cov_outside.specs.declared.data_kind.DataKind.{DataKind}
use Rattle.cov_outside.specs.declared.data_kind.DataKind.TheVariants as kinds
use Rattle.cov_outside.specs.declared.limit.Which.{Which}
use Rattle.cov_outside.specs.declared.limit.Which.TheVariants as which
use Rattle.cov_bytes.specs.declared.cursor.CutFault.{CutFault}
use Rattle.cov_bytes.specs.declared.cursor.CutFault.TheVariants as cut_fault
use Rattle.cov_bytes.specs.declared.text_limits.TableFault.{TableFault}
use Rattle.cov_bytes.specs.declared.text_limits.TableFault.TheVariants as table_fault
use Rattle.cov_bytes.specs.declared.text_limits.WhichText.TheVariants.{Strings, NameBytes, StringBytes}
use Rattle.cov_bytes.specs.declared.text_limits.TextLimits.{TextLimits}
use Rattle.cov_bytes.specs.Reading.{uleb_at, take_at, little_at, byte_at}
use Rattle.cov_bytes.specs.Many.{◌>>=◌, many}
use Rattle.cov_bytes.specs.Table.{cut, text_at as table_text_at, next_text, texts_at as table_texts_at, table_at}
use Rattle.cov_meta.specs.declared.fault.MetaFault.{MetaFault}
use Rattle.cov_meta.specs.declared.fault.MetaFault.TheVariants as faults
use Rattle.cov_meta.specs.declared.entries.Width.{Width}
use Rattle.cov_meta.specs.declared.entries.Width.TheVariants.{Four, Eight}
use Rattle.cov_meta.specs.declared.entries.OffsetField.{OffsetField}
use Rattle.cov_meta.specs.declared.entries.Entry.{Entry}
use Rattle.cov_meta.specs.declared.blob.TextNumbers.{TextNumbers}
use Rattle.cov_meta.specs.declared.allowance.Allowance.{Allowance}
use Rattle.cov_meta.specs.Fault.{fault_of, field, table}
use Rattle.cov_meta.specs.Each.{each}
use Rattle.cov_meta.specs.Header.{mode_of, granularity_of, magic_at, version_at, entries_at as count_entries_at, mode_at, granularity_at, settings_at, header_at}
use Rattle.cov_meta.specs.Entries.{bytes_of, offset_at, length_at, entries_at}
use Rattle.cov_meta.specs.Function.{place_at, unit_at, named, text_at, count_at, function_at, placed_function, functions_at}
use Rattle.cov_meta.specs.Blob.{numbers_at, functions_count_at, text_limits, texts_at, names_of, blob_at}
use Rattle.cov_meta.specs.File.{whole_allowance, package_at, packages_at, file_at, meta_of}

-- a string table's fault that isn't want of memory
abbrev Told : {A : Type 0} → Result A TableFault → Type 0
Told (Ok x) = Unit {0}
Told (Err table_fault.NoMemory) = ⊥
Told (Err (table_fault.Cut f)) = Unit {0}
Told (Err (table_fault.Limit w)) = Unit {0}

-- a fault that isn't want of memory
abbrev Says : {A : Type 0} → Result A MetaFault → Type 0
Says (Ok x) = Unit {0}
Says (Err faults.NoMemory) = ⊥
Says (Err (faults.At offset kind)) = Unit {0}
Says (Err (faults.Limit w)) = Unit {0}

told_then : {A B : Type 0} (r : Result A TableFault) (f : A → Result B TableFault) → Told r → ((x : A) → Told (f x)) → Told (r >>= f)
told_then (Ok x) f t next = next x
told_then (Err table_fault.NoMemory) f t next = t
told_then (Err (table_fault.Cut g)) f t next = tt
told_then (Err (table_fault.Limit w)) f t next = tt

says_then : {A B : Type 0} (r : Result A MetaFault) (f : A → Result B MetaFault) → Says r → ((x : A) → Says (f x)) → Says (r >>= f)
says_then (Ok x) f t next = next x
says_then (Err faults.NoMemory) f t next = t
says_then (Err (faults.At offset kind)) f t next = tt
says_then (Err (faults.Limit w)) f t next = tt

told_if : {A : Type 0} (b : Bool) (r s : Result A TableFault) → Told r → Told s → Told (if b then r else s)
told_if true r s t u = t
told_if false r s t u = u

says_if : {A : Type 0} (b : Bool) (r s : Result A MetaFault) → Says r → Says s → Says (if b then r else s)
says_if true r s t u = t
says_if false r s t u = u

cut_told : {A : Type 0} (r : Result A CutFault) → Told (cut r)
cut_told (Ok x) = tt
cut_told (Err f) = tt

field_says : {A : Type 0} (r : Result A CutFault) → Says (field r)
field_says (Ok x) = tt
field_says (Err (cut_fault.Short at)) = tt
field_says (Err (cut_fault.NumberTooLong at)) = tt
field_says (Err (cut_fault.NumberTooLarge at)) = tt

limit_says : {A : Type 0} (r : Result A TableFault) → Told r → Says (table r)
limit_says (Ok x) t = tt
limit_says (Err table_fault.NoMemory) t = t
limit_says (Err (table_fault.Cut (cut_fault.Short at))) t = tt
limit_says (Err (table_fault.Cut (cut_fault.NumberTooLong at))) t = tt
limit_says (Err (table_fault.Cut (cut_fault.NumberTooLarge at))) t = tt
limit_says (Err (table_fault.Limit w)) t = tt

many_told : {S A : Type 0} (step : S → Result (A × S) TableFault) → ((s : S) → Told (step s)) → (n : ℕ) (s : S) → Told (many step n s)
unfolding many
many_told step one zero s = tt
many_told step one (suc n) s = told_then (step s) _ (one s) (λ first. told_then (many step n first.1) _ (many_told step one n first.1) (λ others. tt))

many_says : {S A : Type 0} (step : S → Result (A × S) MetaFault) → ((s : S) → Says (step s)) → (n : ℕ) (s : S) → Says (many step n s)
unfolding many
many_says step one zero s = tt
many_says step one (suc n) s = says_then (step s) _ (one s) (λ first. says_then (many step n first.1) _ (many_says step one n first.1) (λ others. tt))

each_says : {X S A : Type 0} (step : X → S → Result (A × S) MetaFault) → ((x : X) (s : S) → Says (step x s)) → (xs : List X) (s : S) → Says (each step xs s)
unfolding each
each_says step one [] s = tt
each_says step one (x ∷ xs) s = says_then (step x s) _ (one x s) (λ first. says_then (each step xs first.1) _ (each_says step one xs first.1) (λ others. tt))

next_told : (limits : TextLimits) (bytes : List ℕ) (s : ℕ × ℕ) → Told (next_text limits bytes s)
unfolding next_text table_text_at
next_told limits bytes s =
    told_then (table_text_at limits s.0 bytes s.1) _
    (told_then (cut (uleb_at bytes s.1)) _ (cut_told (uleb_at bytes s.1)) (λ len.
    told_if (nat_lt limits.one len.0) _ _ tt (told_if (nat_lt limits.all (s.0 + len.0)) _ _ tt (cut_told (take_at len.0 bytes len.1)))))
    (λ text. tt)

table_told : (limits : TextLimits) (bytes : List ℕ) (at : ℕ) → Told (table_at limits bytes at)
unfolding table_at table_texts_at
table_told limits bytes at =
    told_then (cut (uleb_at bytes at)) _ (cut_told (uleb_at bytes at)) (λ n.
    told_if (nat_lt limits.strings n.0) _ _ tt
    (told_then (many (next_text limits bytes) n.0 (0, n.1)) _ (many_told (next_text limits bytes) (next_told limits bytes) n.0 (0, n.1)) (λ texts. tt)))

-- ---- the header and the entries

mode_says : (at n : ℕ) → Says (mode_of at n)
mode_says at n = says_if (n == 1) _ _ tt (says_if (n == 2) _ _ tt (says_if (n == 3) _ _ tt (says_if (n == 4) _ _ tt (says_if (n == 5) _ _ tt tt))))

block_says : (at n : ℕ) → Says (granularity_of at n)
block_says at n = says_if (n == 1) _ _ tt (says_if (n == 2) _ _ tt tt)

settings_say : (bytes : List ℕ) (at : ℕ) → Says (settings_at bytes at)
unfolding settings_at mode_at granularity_at
settings_say bytes at =
    says_then (field (little_at 4 bytes at)) _ (field_says (little_at 4 bytes at)) (λ offset.
    says_then (field (little_at 4 bytes offset.1)) _ (field_says (little_at 4 bytes offset.1)) (λ size.
    says_then (mode_at bytes size.1) _
    (says_then (field (byte_at bytes size.1)) _ (field_says (byte_at bytes size.1)) (λ n. says_then (mode_of size.1 n.0) _ (mode_says size.1 n.0) (λ m. tt))) (λ mode.
    says_then (granularity_at bytes mode.1) _
    (says_then (field (byte_at bytes mode.1)) _ (field_says (byte_at bytes mode.1)) (λ n. says_then (granularity_of mode.1 n.0) _ (block_says mode.1 n.0) (λ b. tt))) (λ block.
    says_then (field (take_at 6 bytes block.1)) _ (field_says (take_at 6 bytes block.1)) (λ unused. tt)))))

header_says : (bytes : List ℕ) (at : ℕ) → Says (header_at bytes at)
unfolding header_at magic_at version_at count_entries_at
header_says bytes at =
    says_then (magic_at bytes at) _ (says_then (field (little_at 4 bytes at)) _ (field_says (little_at 4 bytes at)) (λ n. says_if (n.0 == 0x6d766300) _ _ tt tt)) (λ magic.
    says_then (version_at bytes magic.1) _ (says_then (field (little_at 4 bytes magic.1)) _ (field_says (little_at 4 bytes magic.1)) (λ n. says_if (n.0 == 1) _ _ tt tt)) (λ version.
    says_then (count_entries_at bytes version.1) _
    (says_then (field (little_at 8 bytes version.1)) _ (field_says (little_at 8 bytes version.1)) (λ total.
    says_then (field (little_at 8 bytes total.1)) _ (field_says (little_at 8 bytes total.1)) (λ n. says_if (nat_lt 1000 n.0) _ _ tt tt))) (λ entries.
    says_then (field (take_at 16 bytes entries.1)) _ (field_says (take_at 16 bytes entries.1)) (λ hash.
    says_then (settings_at bytes hash.1) _ (settings_say bytes hash.1) (λ mode. tt)))))

offset_says : (width : Width) (bytes : List ℕ) (at : ℕ) → Says (offset_at width bytes at)
unfolding offset_at
offset_says width bytes at = says_then (field (little_at (bytes_of width) bytes at)) _ (field_says (little_at (bytes_of width) bytes at)) (λ offset. tt)

entries_say : (n : ℕ) (bytes : List ℕ) (at : ℕ) → Says (entries_at n bytes at)
unfolding entries_at length_at
entries_say n bytes at =
    says_then (many (offset_at Eight bytes) n at) _ (many_says (offset_at Eight bytes) (offset_says Eight bytes) n at) (λ places.
    each_says (length_at bytes) (λ place next. says_then (field (little_at 8 bytes next)) _ (field_says (little_at 8 bytes next)) (λ size. tt)) places.0 places.1)

-- ---- records and blobs

place_says : (bytes : List ℕ) (at : ℕ) → Says (place_at bytes at)
unfolding place_at
place_says bytes at =
    says_then (field (uleb_at bytes at)) _ (field_says (uleb_at bytes at)) (λ line.
    says_then (field (uleb_at bytes line.1)) _ (field_says (uleb_at bytes line.1)) (λ column. tt))

unit_says : (bytes : List ℕ) (at : ℕ) → Says (unit_at bytes at)
unfolding unit_at
unit_says bytes at =
    says_then (place_at bytes at) _ (place_says bytes at) (λ start.
    says_then (place_at bytes start.1) _ (place_says bytes start.1) (λ end.
    says_then (field (uleb_at bytes end.1)) _ (field_says (uleb_at bytes end.1)) (λ statements. tt)))

named_says : (found : Option (List ℕ)) (index count at : ℕ) → Says (named found index count at)
named_says (Some text) index count at = tt
named_says None index count at = tt

text_says : (texts : List (List ℕ)) (bytes : List ℕ) (at : ℕ) → Says (text_at texts bytes at)
unfolding text_at
text_says texts bytes at =
    says_then (field (uleb_at bytes at)) _ (field_says (uleb_at bytes at)) (λ index.
    says_then (named (slice_get texts index.0) index.0 (length texts) at) _ (named_says (slice_get texts index.0) index.0 (length texts) at) (λ text. tt))

function_says : (texts : List (List ℕ)) (units : ℕ) (bytes : List ℕ) (at : ℕ) → Says (function_at texts units bytes at)
unfolding function_at count_at
function_says texts units bytes at =
    says_then (count_at units bytes at) _ (says_then (field (uleb_at bytes at)) _ (field_says (uleb_at bytes at)) (λ n. says_if (nat_lt units n.0) _ _ tt tt)) (λ count.
    says_then (text_at texts bytes count.1) _ (text_says texts bytes count.1) (λ name.
    says_then (text_at texts bytes name.1) _ (text_says texts bytes name.1) (λ file.
    says_then (many (unit_at bytes) count.0 file.1) _ (many_says (unit_at bytes) (unit_says bytes) count.0 file.1) (λ list.
    says_then (field (uleb_at bytes list.1)) _ (field_says (uleb_at bytes list.1)) (λ literal. tt)))))

placed_says : (texts : List (List ℕ)) (bytes : List ℕ) (start : ℕ) (place : OffsetField) (units : ℕ) → Says (placed_function texts bytes start place units)
unfolding placed_function
placed_says texts bytes start place units =
    says_if (nat_lt (length bytes) (start + place.offset)) _ _ tt
    (says_then (function_at texts units bytes (start + place.offset)) _ (function_says texts units bytes (start + place.offset)) (λ f. tt))

numbers_say : (bytes : List ℕ) (at : ℕ) → Says (numbers_at bytes at)
unfolding numbers_at
numbers_say bytes at =
    says_then (field (little_at 4 bytes at)) _ (field_says (little_at 4 bytes at)) (λ size.
    says_then (field (little_at 4 bytes size.1)) _ (field_says (little_at 4 bytes size.1)) (λ name.
    says_then (field (little_at 4 bytes name.1)) _ (field_says (little_at 4 bytes name.1)) (λ path.
    says_then (field (little_at 4 bytes path.1)) _ (field_says (little_at 4 bytes path.1)) (λ module_path. tt))))

count_says : (functions : ℕ) (bytes : List ℕ) (at : ℕ) → Says (functions_count_at functions bytes at)
unfolding functions_count_at
count_says functions bytes at =
    says_then (field (take_at 16 bytes at)) _ (field_says (take_at 16 bytes at)) (λ hash.
    says_then (field (little_at 4 bytes hash.1)) _ (field_says (little_at 4 bytes hash.1)) (λ unused.
    says_then (field (little_at 4 bytes unused.1)) _ (field_says (little_at 4 bytes unused.1)) (λ files.
    says_then (field (little_at 4 bytes files.1)) _ (field_says (little_at 4 bytes files.1)) (λ count. says_if (nat_lt functions count.0) _ _ tt tt))))

names_say : (texts : List (List ℕ)) (start : ℕ) (n : TextNumbers) → Says (names_of texts start n)
unfolding names_of
names_say texts start n =
    says_then (named (slice_get texts n.name) n.name (length texts) (start + 4)) _ (named_says (slice_get texts n.name) n.name (length texts) (start + 4)) (λ name.
    says_then (named (slice_get texts n.path) n.path (length texts) (start + 8)) _ (named_says (slice_get texts n.path) n.path (length texts) (start + 8)) (λ path.
    says_then (named (slice_get texts n.«module») n.«module» (length texts) (start + 12)) _ (named_says (slice_get texts n.«module») n.«module» (length texts) (start + 12)) (λ module_path. tt)))

blob_says : (bytes : List ℕ) (start : ℕ) (left : Allowance) → Says (blob_at bytes start left)
unfolding blob_at texts_at functions_at
blob_says bytes start left =
    says_then (numbers_at bytes start) _ (numbers_say bytes start) (λ numbers.
    says_then (functions_count_at left.functions bytes numbers.1) _ (count_says left.functions bytes numbers.1) (λ count.
    says_then (many (offset_at Four bytes) count.0 count.1) _ (many_says (offset_at Four bytes) (offset_says Four bytes) count.0 count.1) (λ places.
    says_then (texts_at left bytes places.1) _ (limit_says (table_at (text_limits left) bytes places.1) (table_told (text_limits left) bytes places.1)) (λ texts.
    says_then (names_of texts.0 start numbers.0) _ (names_say texts.0 start numbers.0) (λ names.
    says_then (functions_at texts.0 bytes start places.0 left.units) _ (each_says (placed_function texts.0 bytes start) (placed_says texts.0 bytes start) places.0 left.units) (λ functions. tt))))))

package_says : (bytes : List ℕ) (entry : Entry) (left : Allowance) → Says (package_at bytes entry left)
unfolding package_at
package_says bytes entry left =
    let end = entry.place.offset + entry.length in
    says_if (nat_lt (length bytes) end) _ _ tt (blob_says (take end bytes) entry.place.offset left)

meta_says : (bytes : List ℕ) → Says (meta_of bytes)
unfolding meta_of file_at packages_at
meta_says bytes =
    says_if (nat_lt 268435456 (length bytes)) _ _ tt
    (says_then (header_at bytes 0) _ (header_says bytes 0) (λ header.
    says_then (entries_at header.0.entries bytes header.1) _ (entries_say header.0.entries bytes header.1) (λ entries.
    says_then (packages_at bytes entries.0) _
    (says_then (each (package_at bytes) entries.0 whole_allowance) _ (each_says (package_at bytes) (package_says bytes) entries.0 whole_allowance) (λ list. tt)) (λ packages. tt))))

-- a fault of the bytes is not want of memory
pub never_memory : (bytes : List ℕ) → meta_of bytes ≡ Err faults.NoMemory → ⊥
never_memory bytes e = subst (λ y. Says y) e (meta_says bytes)
