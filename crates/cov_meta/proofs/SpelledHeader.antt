-- Reading a header and its spelling.
use Rattle.std.proofs.Common.{◌≡◌, ℕ, ◌+◌, ◌<◌, ◌≤◌, List, [], ◌∷◌, length, take, drop, Result, Ok, Err, refl, sym, ap, ◌∙◌, subst, arith}
use Rattle.std.specs.Prelude.{Bool, true, false, nat_lt, if◌then◌else◌, ◌==◌, slice_index, ◌⊎◌}
use Rattle.std.proofs.Common.{inl, inr}
use Rattle.std.proofs.lemmas.Bool.{ltb-false, le-ltb, eqb-true}
use Rattle.std.proofs.lemmas.List.{drop_more}
use Rattle.cov_outside.specs.declared.mode.Mode.{Mode}
use Rattle.cov_outside.specs.declared.mode.Mode.TheVariants.{Set, Count, Atomic}
use Rattle.cov_outside.specs.declared.data_kind.DataKind.TheVariants as kinds
use Rattle.cov_outside.specs.declared.limit.Which.TheVariants.{Packages}
use Rattle.cov_bytes.specs.declared.cursor.CutFault.TheVariants.{Short}
use Rattle.cov_bytes.specs.Reading.{little_at, byte_at, take_at}
use Rattle.cov_meta.specs.declared.fault.MetaFault.{MetaFault}
use Rattle.cov_meta.specs.declared.fault.MetaFault.TheVariants.{At, Limit}
use Rattle.cov_meta.specs.declared.header.Header.{Header}
use Rattle.cov_meta.specs.Fault.{field}
use Rattle.cov_meta.specs.Header.{mode_of, granularity_of, magic_at, version_at, entries_at, hash_at, mode_at, granularity_at, settings_at, header_at}
use Rattle.cov_meta.specs.Spelling.{Holds, IsFixed, mode_number}
use Rattle.cov_meta.proofs.Bind.{bind_ok, field_ok, same_ok, passed, chosen}
use Rattle.cov_meta.proofs.SpelledNumbers.{fixed_reads}
use Rattle.cov_meta.proofs.SpelledTexts.{taken, holds_within}
use Rattle.cov_meta.proofs.SpelledOffsets.{fixed}
use Rattle.cov_meta.proofs.SpelledHead.{moved, skipped, passed_over}

-- a byte
byte_spells : (bytes : List ℕ) (at : ℕ) (x : ℕ × ℕ) → field (byte_at bytes at) ≡ Ok x → Holds bytes at (x.0 ∷ []) × (x.1 ≡ at + 1) × (at + 1 ≤ length bytes)
byte_spells bytes at x e =
    let read = field_ok (byte_at bytes at) x e in
    let got = passed (nat_lt (length bytes) (at + 1)) (Short at) (Ok (slice_index bytes at, at + 1)) x read in
    let byte : ℕ × ℕ = (slice_index bytes at, at + 1) in
    let enough : at + 1 ≤ length bytes = ltb-false (length bytes) (at + 1) got.0 in
    subst (λ (y : ℕ × ℕ). Holds bytes at (y.0 ∷ []) × (y.1 ≡ at + 1) × (at + 1 ≤ length bytes)) (same_ok byte x got.1)
    (ap (take 1) (drop_more bytes at 0 (omega arith)), refl, enough)

abbrev head_or : List ℕ → ℕ
head_or [] = 0
head_or (x ∷ xs) = x

byte_reads : (bytes : List ℕ) (at b : ℕ) → Holds bytes at (b ∷ []) → byte_at bytes at ≡ Ok (b, at + 1)
byte_reads bytes at b h =
    let within = holds_within bytes at (b ∷ []) h in
    let enough : at + 1 ≤ length bytes = omega arith in
    let inside : at < length bytes = omega arith in
    let same : slice_index bytes at ≡ b = ap head_or (sym (ap (take 1) (drop_more bytes at 0 inside)) ∙ h) in
    rw (le-ltb (length bytes) (at + 1) enough, same) refl

picked : {A E : Type 0} (b : Bool) (r s : Result A E) (x : A) → (if b then r else s) ≡ Ok x → ((b ≡ true) × (r ≡ Ok x)) ⊎ (s ≡ Ok x)
picked true r s x e = inl (refl, e)
picked false r s x e = inr e

no_mode : (b c : Bool) (f g h : MetaFault) (m : Mode) {P : Type 0} → (if b then Err f else if c then Err g else Err h) ≡ Ok m → P
no_mode true c f g h m e = absurd (cc)
no_mode false true f g h m e = absurd (cc)
no_mode false false f g h m e = absurd (cc)

same_mode : (n : ℕ) (k l : Mode) → (n == mode_number k) ≡ true → (let r : Result Mode MetaFault = Ok k in r ≡ Ok l) → n ≡ mode_number l
same_mode n k l t e = eqb-true n (mode_number k) t ∙ ap mode_number (same_ok k l e)

mode_spells : (at n : ℕ) (m : Mode) → mode_of at n ≡ Ok m → n ≡ mode_number m
mode_spells at n m e =
    elim (picked (n == 1) (Ok Set) (if n == 2 then Ok Count else if n == 3 then Ok Atomic else if n == 4 then Err (At at kinds.RegOnlyMode) else if n == 5 then Err (At at kinds.TestMainMode) else Err (At at kinds.BadMode)) m e) [
      | inl a ↦ same_mode n Set m a.0 a.1
      | inr b ↦ elim (picked (n == 2) (Ok Count) (if n == 3 then Ok Atomic else if n == 4 then Err (At at kinds.RegOnlyMode) else if n == 5 then Err (At at kinds.TestMainMode) else Err (At at kinds.BadMode)) m b) [
        | inl c ↦ same_mode n Count m c.0 c.1
        | inr d ↦ elim (picked (n == 3) (Ok Atomic) (if n == 4 then Err (At at kinds.RegOnlyMode) else if n == 5 then Err (At at kinds.TestMainMode) else Err (At at kinds.BadMode)) m d) [
          | inl f ↦ same_mode n Atomic m f.0 f.1
          | inr g ↦ no_mode (n == 4) (n == 5) (At at kinds.RegOnlyMode) (At at kinds.TestMainMode) (At at kinds.BadMode) m g
        ]
      ]
    ]

mode_reads : (at : ℕ) (m : Mode) → mode_of at (mode_number m) ≡ Ok m
mode_reads at Set = refl
mode_reads at Count = refl
mode_reads at Atomic = refl

block_spells : (at n : ℕ) (x : Unit {0}) → granularity_of at n ≡ Ok x → n ≡ 1
block_spells at n x e = elim (picked (n == 1) (Ok tt) (if n == 2 then Err (At at kinds.PerFunction) else Err (At at kinds.BadGranularity)) x e) [
  | inl a ↦ eqb-true n 1 a.0
  | inr b ↦ no_block (n == 2) (At at kinds.PerFunction) (At at kinds.BadGranularity) x b
]
  where
    no_block : (b : Bool) (f g : MetaFault) (x : Unit {0}) {P : Type 0} → (if b then Err f else Err g) ≡ Ok x → P
    no_block true f g x e = absurd (cc)
    no_block false f g x e = absurd (cc)

-- what a header spells
pub record Head (bytes : List ℕ) (h : Header) : Type 0 where
  pub whole : 56 ≤ length bytes
  pub magic : IsFixed 4 bytes 0 0x6d766300 4
  pub version : IsFixed 4 bytes 4 1 8
  pub count : IsFixed 8 bytes 16 h.entries 24
  pub few : h.entries ≤ 1000
  pub hash : Holds bytes 24 h.hash
  pub hash_whole : length h.hash ≡ 16
  pub mode : Holds bytes 48 (mode_number h.mode ∷ [])
  pub granularity : Holds bytes 49 (1 ∷ [])

magic_spells : (bytes : List ℕ) (at : ℕ) (x : Unit {0} × ℕ) → magic_at bytes at ≡ Ok x → IsFixed 4 bytes at 0x6d766300 x.1
unfolding magic_at
magic_spells bytes at x e =
    let read = bind_ok (field (little_at 4 bytes at)) _ _ e in
    let test = chosen (read.0.0 == 0x6d766300) (At at kinds.BadMagic) (Ok (tt, read.0.1)) x read.2 in
    let is = eqb-true read.0.0 0x6d766300 test.0 in
    let there = subst (λ (n : ℕ). IsFixed 4 bytes at n read.0.1) is (fixed 4 bytes at read.0 read.1) in
    subst (λ (y : Unit {0} × ℕ). IsFixed 4 bytes at 0x6d766300 y.1) (same_ok _ _ test.1) there

version_spells : (bytes : List ℕ) (at : ℕ) (x : Unit {0} × ℕ) → version_at bytes at ≡ Ok x → IsFixed 4 bytes at 1 x.1
unfolding version_at
version_spells bytes at x e =
    let read = bind_ok (field (little_at 4 bytes at)) _ _ e in
    let test = chosen (read.0.0 == 1) (At at kinds.BadVersion) (Ok (tt, read.0.1)) x read.2 in
    let is = eqb-true read.0.0 1 test.0 in
    let there = subst (λ (n : ℕ). IsFixed 4 bytes at n read.0.1) is (fixed 4 bytes at read.0 read.1) in
    subst (λ (y : Unit {0} × ℕ). IsFixed 4 bytes at 1 y.1) (same_ok _ _ test.1) there

entries_spell : (bytes : List ℕ) (at : ℕ) (x : ℕ × ℕ) → entries_at bytes at ≡ Ok x → IsFixed 8 bytes (at + 8) x.0 x.1 × (x.0 ≤ 1000)
unfolding entries_at
entries_spell bytes at x e =
    let total = bind_ok (field (little_at 8 bytes at)) _ _ e in
    let entries = bind_ok (field (little_at 8 bytes total.0.1)) _ _ total.2 in
    let test = passed (nat_lt 1000 entries.0.0) (Limit Packages) (Ok entries.0) x entries.2 in
    let t = fixed 8 bytes at total.0 total.1 in
    let n = subst (λ (k : ℕ). IsFixed 8 bytes k entries.0.0 entries.0.1) t.next_is (fixed 8 bytes total.0.1 entries.0 entries.1) in
    subst (λ (y : ℕ × ℕ). IsFixed 8 bytes (at + 8) y.0 y.1 × (y.0 ≤ 1000)) (same_ok _ _ test.1) (n, ltb-false 1000 entries.0.0 test.0)

-- the mode, the granularity and the unused bytes
record Settings (bytes : List ℕ) (at : ℕ) (m : Mode) (next : ℕ) : Type 0 where
  mode : Holds bytes (at + 8) (mode_number m ∷ [])
  granularity : Holds bytes (at + 9) (1 ∷ [])
  next_is : next ≡ at + 16
  whole : at + 16 ≤ length bytes

settings_spell : (bytes : List ℕ) (at : ℕ) (m : Mode) (next : ℕ) → settings_at bytes at ≡ Ok (m, next) → Settings bytes at m next
unfolding settings_at mode_at granularity_at
settings_spell bytes at m next e =
    let offset = bind_ok (field (little_at 4 bytes at)) _ _ e in
    let size = bind_ok (field (little_at 4 bytes offset.0.1)) _ _ offset.2 in
    let mode = bind_ok (mode_at bytes size.0.1) _ _ size.2 in
    let mode_byte = bind_ok (field (byte_at bytes size.0.1)) _ _ mode.1 in
    let mode_is = bind_ok (mode_of size.0.1 mode_byte.0.0) _ _ mode_byte.2 in
    let block = bind_ok (granularity_at bytes mode.0.1) _ _ mode.2 in
    let block_byte = bind_ok (field (byte_at bytes mode.0.1)) _ _ block.1 in
    let block_is = bind_ok (granularity_of mode.0.1 block_byte.0.0) _ _ block_byte.2 in
    let unused = bind_ok (field (take_at 6 bytes block.0.1)) _ _ block.2 in
    let o = fixed 4 bytes at offset.0 offset.1 in
    let s = fixed 4 bytes offset.0.1 size.0 size.1 in
    let m1 = byte_spells bytes size.0.1 mode_byte.0 mode_byte.1 in
    let m2 = mode_spells size.0.1 mode_byte.0.0 mode_is.0 mode_is.1 in
    let m3 : (mode_is.0 ≡ mode.0.0) × (mode_byte.0.1 ≡ mode.0.1) = (ap (λ (y : Mode × ℕ). y.0) (same_ok _ _ mode_is.2), ap (λ (y : Mode × ℕ). y.1) (same_ok _ _ mode_is.2)) in
    let g1 = byte_spells bytes mode.0.1 block_byte.0 block_byte.1 in
    let g2 = block_spells mode.0.1 block_byte.0.0 block_is.0 block_is.1 in
    let g3 : block_byte.0.1 ≡ block.0.1 = ap (λ (y : Unit {0} × ℕ). y.1) (same_ok _ _ block_is.2) in
    let u = taken 6 bytes block.0.1 unused.0 (field_ok (take_at 6 bytes block.0.1) unused.0 unused.1) in
    let u_len : length unused.0.0 ≡ 6 = u.0 in
    let u_within = holds_within bytes block.0.1 unused.0.0 u.1 in
    let a8 : size.0.1 ≡ at + 8 = omega (arith, o.next_is, s.next_is) in
    let a9 : mode.0.1 ≡ at + 9 = omega (arith, m1.1, m3.1) in
    let a10 : block.0.1 ≡ at + 10 = omega (arith, g1.1) in
    let a16 : unused.0.1 ≡ at + 16 = omega (arith, u.2) in
    let mode_same : mode_byte.0.0 ≡ mode_number mode.0.0 = m2 ∙ ap mode_number m3.0 in
    subst (λ (y : Mode × ℕ). Settings bytes at y.0 y.1) (same_ok _ _ unused.2)
    (record {
      mode = subst (λ (k : ℕ). Holds bytes k (mode_number mode.0.0 ∷ [])) a8 (subst (λ (b : ℕ). Holds bytes size.0.1 (b ∷ [])) mode_same m1.0);
      granularity = subst (λ (k : ℕ). Holds bytes k (1 ∷ [])) a9 (subst (λ (b : ℕ). Holds bytes mode.0.1 (b ∷ [])) g2 g1.0);
      next_is = a16;
      whole = omega arith;
    })

settings_read : (bytes : List ℕ) (at : ℕ) (m : Mode) → Settings bytes at m (at + 16) → settings_at bytes at ≡ Ok (m, at + 16)
unfolding settings_at mode_at granularity_at
settings_read bytes at m s =
    let first : at + 4 ≤ length bytes = omega (arith, s.whole) in
    let second : (at + 4) + 4 ≤ length bytes = omega (arith, s.whole) in
    let a8 : at + 8 ≡ (at + 4) + 4 = omega arith in
    let a9 : at + 9 ≡ ((at + 4) + 4) + 1 = omega arith in
    let mode = subst (λ (k : ℕ). Holds bytes k (mode_number m ∷ [])) a8 s.mode in
    let block = subst (λ (k : ℕ). Holds bytes k (1 ∷ [])) a9 s.granularity in
    let last : (((at + 4) + 4) + 1 + 1) + 6 ≤ length bytes = omega (arith, s.whole) in
    let end : (((at + 4) + 4) + 1 + 1) + 6 ≡ at + 16 = omega arith in
    rw (skipped 4 bytes at first, skipped 4 bytes (at + 4) second, byte_reads bytes ((at + 4) + 4) (mode_number m) mode, mode_reads ((at + 4) + 4) m, byte_reads bytes (((at + 4) + 4) + 1) 1 block, passed_over 6 bytes (((at + 4) + 4) + 1 + 1) last)
    (let made : ℕ → Result (Mode × ℕ) MetaFault = λ n. Ok (m, n) in ap made end)

-- a header that was read is spelled
pub header_spells : (bytes : List ℕ) (h : Header) (next : ℕ) → header_at bytes 0 ≡ Ok (h, next) → Head bytes h × (next ≡ 56)
unfolding header_at
header_spells bytes h next e =
    let magic = bind_ok (magic_at bytes 0) _ _ e in
    let version = bind_ok (version_at bytes magic.0.1) _ _ magic.2 in
    let entries = bind_ok (entries_at bytes version.0.1) _ _ version.2 in
    let hash = bind_ok (field (take_at 16 bytes entries.0.1)) _ _ entries.2 in
    let settings = bind_ok (settings_at bytes hash.0.1) _ _ hash.2 in
    let m = magic_spells bytes 0 magic.0 magic.1 in
    let v = version_spells bytes magic.0.1 version.0 version.1 in
    let n = entries_spell bytes version.0.1 entries.0 entries.1 in
    let k = taken 16 bytes entries.0.1 hash.0 (field_ok (take_at 16 bytes entries.0.1) hash.0 hash.1) in
    let s = settings_spell bytes hash.0.1 settings.0.0 settings.0.1 settings.1 in
    let k_len : length hash.0.0 ≡ 16 = k.0 in
    let a4 : magic.0.1 ≡ 4 = omega (arith, m.next_is) in
    let a8 : version.0.1 ≡ 8 = omega (arith, v.next_is) in
    let a16 : version.0.1 + 8 ≡ 16 = omega arith in
    let a24 : entries.0.1 ≡ 24 = omega (arith, n.0.next_is) in
    let a40 : hash.0.1 ≡ 40 = omega (arith, k.2) in
    let a48 : hash.0.1 + 8 ≡ 48 = omega arith in
    let a49 : hash.0.1 + 9 ≡ 49 = omega arith in
    let a56 : settings.0.1 ≡ 56 = omega (arith, s.next_is) in
    subst (λ (y : Header × ℕ). Head bytes y.0 × (y.1 ≡ 56)) (same_ok _ _ settings.2) (
      record {
        whole = omega (arith, s.whole);
        magic = moved 4 bytes 0 0x6d766300 magic.0.1 0 4 refl a4 m;
        version = moved 4 bytes magic.0.1 1 version.0.1 4 8 a4 a8 v;
        count = moved 8 bytes (version.0.1 + 8) entries.0.0 entries.0.1 16 24 a16 a24 n.0;
        few = n.1;
        hash = subst (λ (i : ℕ). Holds bytes i hash.0.0) a24 k.1;
        hash_whole = k_len;
        mode = subst (λ (i : ℕ). Holds bytes i (mode_number settings.0.0 ∷ [])) a48 s.mode;
        granularity = subst (λ (i : ℕ). Holds bytes i (1 ∷ [])) a49 s.granularity;
      },
      a56,
    )

magic_reads : (bytes : List ℕ) → IsFixed 4 bytes 0 0x6d766300 4 → magic_at bytes 0 ≡ Ok (tt, 4)
unfolding magic_at
magic_reads bytes s = rw (fixed_reads 4 bytes 0 0x6d766300 4 s) refl

version_reads : (bytes : List ℕ) → IsFixed 4 bytes 4 1 8 → version_at bytes 4 ≡ Ok (tt, 8)
unfolding version_at
version_reads bytes s = rw (fixed_reads 4 bytes 4 1 8 s) refl

entries_read : (bytes : List ℕ) (n : ℕ) → 56 ≤ length bytes → IsFixed 8 bytes 16 n 24 → n ≤ 1000 → entries_at bytes 8 ≡ Ok (n, 24)
unfolding entries_at
entries_read bytes n whole s few =
    let first : 8 + 8 ≤ length bytes = omega arith in
    rw (skipped 8 bytes 8 first, fixed_reads 8 bytes 16 n 24 s, le-ltb 1000 n few) refl

hash_reads : (bytes hash : List ℕ) → 56 ≤ length bytes → Holds bytes 24 hash → length hash ≡ 16 → hash_at bytes 24 ≡ Ok (hash, 40)
hash_reads bytes hash whole h len =
    let enough : 24 + 16 ≤ length bytes = omega arith in
    let is : take 16 (drop 24 bytes) ≡ hash = ap (λ (n : ℕ). take n (drop 24 bytes)) (sym len) ∙ h in
    rw (passed_over 16 bytes 24 enough, is) refl

-- a header that is spelled is read
pub header_reads : (bytes : List ℕ) (h : Header) → Head bytes h → header_at bytes 0 ≡ Ok (h, 56)
unfolding header_at
header_reads bytes h s =
    let settings : Settings bytes 40 h.mode 56 = record { mode = s.mode; granularity = s.granularity; next_is = refl; whole = s.whole } in
    rw (magic_reads bytes s.magic, version_reads bytes s.version, entries_read bytes h.entries s.whole s.count s.few, hash_reads bytes h.hash s.whole s.hash s.hash_whole, settings_read bytes 40 h.mode settings) refl
