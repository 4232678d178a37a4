-- Reading offsets and lengths, and their spelling.
use Rattle.std.proofs.Common.{◌≡◌, ℕ, List, [], ◌∷◌, length, Result, Ok, refl, sym, ap, ◌∙◌, subst}
use Rattle.std.specs.Prelude.{map}
use Rattle.cov_bytes.specs.Reading.{little_at}
use Rattle.cov_bytes.specs.Many.{many}
use Rattle.cov_meta.specs.declared.fault.MetaFault.{MetaFault}
use Rattle.cov_meta.specs.declared.entries.Width.{Width}
use Rattle.cov_meta.specs.declared.entries.OffsetField.{OffsetField}
use Rattle.cov_meta.specs.declared.entries.Entry.{Entry}
use Rattle.cov_meta.specs.Fault.{field}
use Rattle.cov_meta.specs.Each.{each}
use Rattle.cov_meta.specs.Entries.{bytes_of, offset_at, length_at}
use Rattle.cov_meta.specs.Spelling.{InTurn, IsFixed}
use Rattle.cov_meta.proofs.Bind.{bind_ok, field_ok, same_ok}
use Rattle.cov_meta.proofs.SpelledNumbers.{fixed_spells, fixed_reads}
use Rattle.cov_meta.proofs.Turns.{many_spells, many_reads}

-- a number of fixed width that was read as a field
pub fixed : (width : ℕ) (bytes : List ℕ) (at : ℕ) (x : ℕ × ℕ) → field (little_at width bytes at) ≡ Ok x → IsFixed width bytes at x.0 x.1
fixed width bytes at x e = fixed_spells width bytes at x.0 x.1 (field_ok (little_at width bytes at) x e)

-- an offset that stands where it says
abbrev pub IsOffset : ℕ → List ℕ → ℕ → OffsetField → ℕ → Type 0
IsOffset width bytes at place next = (place.at ≡ at) × IsFixed width bytes at place.offset next

offset_spells : (width : Width) (bytes : List ℕ) (at : ℕ) (place : OffsetField) (next : ℕ) → offset_at width bytes at ≡ Ok (place, next) → IsOffset (bytes_of width) bytes at place next
unfolding offset_at
offset_spells width bytes at place next e =
    let read = bind_ok (field (little_at (bytes_of width) bytes at)) _ _ e in
    subst (λ (y : OffsetField × ℕ). IsOffset (bytes_of width) bytes at y.0 y.1) (same_ok _ _ read.2) (refl, fixed (bytes_of width) bytes at read.0 read.1)

offset_reads : (width : Width) (bytes : List ℕ) (at : ℕ) (place : OffsetField) (next : ℕ) → IsOffset (bytes_of width) bytes at place next → offset_at width bytes at ≡ Ok (place, next)
unfolding offset_at
offset_reads width bytes at place next s =
    rw (fixed_reads (bytes_of width) bytes at place.offset next s.1)
    (let made : ℕ → Result (OffsetField × ℕ) MetaFault = λ n. Ok (record { at = n; offset = place.offset }, next) in ap made (sym s.0))

-- the offsets alone
offsets_alone : (width : ℕ) (bytes : List ℕ) (at : ℕ) (places : List OffsetField) (next : ℕ) → InTurn (IsOffset width bytes) at places next → InTurn (IsFixed width bytes) at (map (λ p. p.offset) places) next
offsets_alone width bytes at [] next t = t
offsets_alone width bytes at (p ∷ ps) next t = (t.0, t.1.1, offsets_alone width bytes t.0 ps next t.2)

-- the offsets with where they stand
pub places_of : (width : ℕ) (bytes : List ℕ) (at : ℕ) (offsets : List ℕ) (next : ℕ) → InTurn (IsFixed width bytes) at offsets next
    → (places : List OffsetField) × InTurn (IsOffset width bytes) at places next × (map (λ p. p.offset) places ≡ offsets)
places_of width bytes at [] next t = ([], t, refl)
places_of width bytes at (o ∷ os) next t =
    let rest = places_of width bytes t.0 os next t.2 in
    (record { at = at; offset = o } ∷ rest.0, (t.0, (refl, t.1), rest.1), ap (λ (xs : List ℕ). o ∷ xs) rest.2)

-- offsets that were read are spelled
pub offsets_spell : (width : Width) (bytes : List ℕ) (n at : ℕ) (places : List OffsetField) (next : ℕ) → many (offset_at width bytes) n at ≡ Ok (places, next)
    → (length places ≡ n) × InTurn (IsFixed (bytes_of width) bytes) at (map (λ p. p.offset) places) next
offsets_spell width bytes n at places next e =
    let all = many_spells (offset_at width bytes) (IsOffset (bytes_of width) bytes) (offset_spells width bytes) n at places next e in
    (all.0, offsets_alone (bytes_of width) bytes at places next all.1)

-- offsets that are spelled are read
pub offsets_read : (width : Width) (bytes : List ℕ) (at : ℕ) (places : List OffsetField) (next : ℕ) → InTurn (IsOffset (bytes_of width) bytes) at places next
    → many (offset_at width bytes) (length places) at ≡ Ok (places, next)
offsets_read width bytes at places next t = many_reads (offset_at width bytes) (IsOffset (bytes_of width) bytes) (offset_reads width bytes) at places next t

-- lengths that were read are spelled, each with the offset before it
pub lengths_spell : (bytes : List ℕ) (places : List OffsetField) (at : ℕ) (entries : List Entry) (next : ℕ) → each (length_at bytes) places at ≡ Ok (entries, next)
    → (map (λ e. e.place) entries ≡ places) × InTurn (IsFixed 8 bytes) at (map (λ e. e.length) entries) next
unfolding each length_at
lengths_spell bytes [] at entries next e =
    let start : List Entry × ℕ = ([], at) in
    subst (λ (y : List Entry × ℕ). (map (λ e. e.place) y.0 ≡ []) × InTurn (IsFixed 8 bytes) at (map (λ e. e.length) y.0) y.1) (same_ok start (entries, next) e) (refl, refl)
lengths_spell bytes (p ∷ ps) at entries next e =
    let first = bind_ok (length_at bytes p at) _ _ e in
    let read = bind_ok (field (little_at 8 bytes at)) _ _ first.1 in
    let others = bind_ok (each (length_at bytes) ps first.0.1) _ _ first.2 in
    let rest = lengths_spell bytes ps first.0.1 others.0.0 others.0.1 others.1 in
    let one : (first.0.0.place ≡ p) × IsFixed 8 bytes at first.0.0.length first.0.1 =
    subst (λ (y : Entry × ℕ). (y.0.place ≡ p) × IsFixed 8 bytes at y.0.length y.1) (same_ok _ _ read.2) (refl, fixed 8 bytes at read.0 read.1) in
    subst (λ (y : List Entry × ℕ). (map (λ e. e.place) y.0 ≡ p ∷ ps) × InTurn (IsFixed 8 bytes) at (map (λ e. e.length) y.0) y.1) (same_ok _ _ others.2)
    (ap (λ (q : OffsetField). q ∷ map (λ e. e.place) others.0.0) one.0 ∙ ap (λ (qs : List OffsetField). p ∷ qs) rest.0, (first.0.1, one.1, rest.1))

-- lengths that are spelled are read
pub lengths_read : (bytes : List ℕ) (entries : List Entry) (at next : ℕ) → InTurn (IsFixed 8 bytes) at (map (λ e. e.length) entries) next
    → each (length_at bytes) (map (λ e. e.place) entries) at ≡ Ok (entries, next)
unfolding each length_at
lengths_read bytes [] at next t = let made : ℕ → Result (List Entry × ℕ) MetaFault = λ n. Ok ([], n) in ap made (sym t)
lengths_read bytes (e ∷ es) at next t = rw (fixed_reads 8 bytes at e.length t.0 t.1, lengths_read bytes es t.0 next t.2) refl
