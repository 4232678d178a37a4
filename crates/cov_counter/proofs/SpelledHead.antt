-- Reading a header and its spelling.
use Rattle.std.proofs.Common.{◌≡◌, ℕ, ◌+◌, ◌≤◌, List, length, Result, Ok, Err, refl, ap, subst, arith, inl, inr}
use Rattle.std.specs.Prelude.{Bool, true, false, if◌then◌else◌, ◌==◌, ◌⊎◌}
use Rattle.std.proofs.lemmas.Bool.{eqb-true}
use Rattle.cov_bytes.specs.Reading.{take_at, byte_at, little_at}
use Rattle.cov_bytes.specs.Laws.{NumbersAreRead, NumbersAreSpelled}
use Rattle.cov_outside.specs.declared.data_kind.DataKind.TheVariants as kinds
use Rattle.cov_counter.specs.declared.fault.CounterFault.TheVariants.{At}
use Rattle.cov_counter.specs.declared.head.Head.{Head}
use Rattle.cov_counter.specs.File.{Known}
use Rattle.cov_counter.specs.Head.{behind_magic, behind_version, flavour_at, flag_at, form_at, head_at}
use Rattle.cov_counter.specs.Parts.{parts_at}
use Rattle.cov_counter.specs.Spelling.{IsPiece, IsLittle, IsByte, IsParts, IsHead}
use Rattle.cov_counter.proofs.Bind.{bind_ok, field_bind, same_ok, chosen}
use Rattle.cov_counter.proofs.Fields.{little_spells, little_reads, piece_spells, piece_reads, skip_spells, skip_reads, byte_spells, byte_reads}
use Rattle.cov_counter.proofs.SpelledLengths.{parts_spell, parts_read}

pub magic_spells : (file : Known) (at next : ℕ) → behind_magic file at ≡ Ok next → IsLittle 4 file.bytes at 0x6d776300 next
unfolding behind_magic
magic_spells file at next e =
    let magic = field_bind file (little_at 4 file.bytes at) _ next e in
    let got = chosen (magic.0.0 == 0x6d776300) (At at kinds.BadMagic) (Ok magic.0.1) next magic.2 in
    subst (λ (v : ℕ). IsLittle 4 file.bytes at v next) (eqb-true magic.0.0 0x6d776300 got.0)
    (subst (λ (n : ℕ). IsLittle 4 file.bytes at magic.0.0 n) (same_ok magic.0.1 next got.1) (little_spells 4 file.bytes at magic.0 magic.1))

pub magic_reads : (file : Known) (at next : ℕ) → IsLittle 4 file.bytes at 0x6d776300 next → behind_magic file at ≡ Ok next
unfolding behind_magic
magic_reads file at next is = rw (little_reads 4 file.bytes at 0x6d776300 next is) refl

version_spells : (file : Known) (at next : ℕ) → behind_version file at ≡ Ok next → IsLittle 4 file.bytes at 1 next
unfolding behind_version
version_spells file at next e =
    let version = field_bind file (little_at 4 file.bytes at) _ next e in
    let got = chosen (version.0.0 == 1) (At at kinds.BadVersion) (Ok version.0.1) next version.2 in
    subst (λ (v : ℕ). IsLittle 4 file.bytes at v next) (eqb-true version.0.0 1 got.0)
    (subst (λ (n : ℕ). IsLittle 4 file.bytes at version.0.0 n) (same_ok version.0.1 next got.1) (little_spells 4 file.bytes at version.0 version.1))

version_reads : (file : Known) (at next : ℕ) → IsLittle 4 file.bytes at 1 next → behind_version file at ≡ Ok next
unfolding behind_version
version_reads file at next is = rw (little_reads 4 file.bytes at 1 next is) refl

picked : {A E : Type 0} (b : Bool) (r s : Result A E) (x : A) → (if b then r else s) ≡ Ok x → ((b ≡ true) × (r ≡ Ok x)) ⊎ (s ≡ Ok x)
picked true r s x e = inl (refl, e)
picked false r s x e = inr e

flavour_spells : (file : Known) (at : ℕ) (x : ℕ × ℕ) → flavour_at file at ≡ Ok x → IsByte file.bytes at x.0 x.1 × ((x.0 ≡ 1) ⊎ (x.0 ≡ 2))
unfolding flavour_at
flavour_spells file at x e =
    let n = field_bind file (byte_at file.bytes at) _ x e in
    let byte = byte_spells file.bytes at n.0 n.1 in
    let one : ℕ × ℕ = (1, n.0.1) in
    let two : ℕ × ℕ = (2, n.0.1) in
    elim (picked (n.0.0 == 1) (Ok one) (if n.0.0 == 2 then Ok two else Err (At at kinds.BadFlavour)) x n.2) [
      | inl p ↦ subst (λ (y : ℕ × ℕ). IsByte file.bytes at y.0 y.1 × ((y.0 ≡ 1) ⊎ (y.0 ≡ 2))) (same_ok one x p.1) (subst (λ (v : ℕ). IsByte file.bytes at v n.0.1) (eqb-true n.0.0 1 p.0) byte, inl refl)
      | inr q ↦ let got = chosen (n.0.0 == 2) (At at kinds.BadFlavour) (Ok two) x q in subst (λ (y : ℕ × ℕ). IsByte file.bytes at y.0 y.1 × ((y.0 ≡ 1) ⊎ (y.0 ≡ 2))) (same_ok two x got.1) (subst (λ (v : ℕ). IsByte file.bytes at v n.0.1) (eqb-true n.0.0 2 got.0) byte, inr refl)
    ]

flavour_reads : (file : Known) (at v next : ℕ) → IsByte file.bytes at v next → (v ≡ 1) ⊎ (v ≡ 2) → flavour_at file at ≡ Ok (v, next)
unfolding flavour_at
flavour_reads file at v next is (inl one) = rw (byte_reads file.bytes at v next is, one) refl
flavour_reads file at v next is (inr two) = rw (byte_reads file.bytes at v next is, two) refl

-- how a flag is written
abbrev pub flag : Bool → ℕ
flag b = if b then 1 else 0

flag_spells : (file : Known) (at : ℕ) (x : Bool × ℕ) → flag_at file at ≡ Ok x → IsByte file.bytes at (flag x.0) x.1
unfolding flag_at
flag_spells file at x e =
    let n = field_bind file (byte_at file.bytes at) _ x e in
    let byte = byte_spells file.bytes at n.0 n.1 in
    let no : Bool × ℕ = (false, n.0.1) in
    let yes : Bool × ℕ = (true, n.0.1) in
    elim (picked (n.0.0 == 0) (Ok no) (if n.0.0 == 1 then Ok yes else Err (At at kinds.BadFlag)) x n.2) [
      | inl p ↦ subst (λ (y : Bool × ℕ). IsByte file.bytes at (flag y.0) y.1) (same_ok no x p.1) (subst (λ (v : ℕ). IsByte file.bytes at v n.0.1) (eqb-true n.0.0 0 p.0) byte)
      | inr q ↦ let got = chosen (n.0.0 == 1) (At at kinds.BadFlag) (Ok yes) x q in subst (λ (y : Bool × ℕ). IsByte file.bytes at (flag y.0) y.1) (same_ok yes x got.1) (subst (λ (v : ℕ). IsByte file.bytes at v n.0.1) (eqb-true n.0.0 1 got.0) byte)
    ]

flag_reads : (file : Known) (at : ℕ) (b : Bool) (next : ℕ) → IsByte file.bytes at (flag b) next → flag_at file at ≡ Ok (b, next)
unfolding flag_at
flag_reads file at true next is = rw (byte_reads file.bytes at 1 next is) refl
flag_reads file at false next is = rw (byte_reads file.bytes at 0 next is) refl

pub record FormStands (bytes : List ℕ) (at : ℕ) (x : (ℕ × Bool) × ℕ) : Type 0 where
  pub flavour_stands : IsByte bytes at x.0.0 (at + 1)
  pub flavour_is : (x.0.0 ≡ 1) ⊎ (x.0.0 ≡ 2)
  pub flag_stands : IsByte bytes (at + 1) (flag x.0.1) (at + 2)
  pub next_is : x.1 ≡ at + 8
  pub whole : at + 8 ≤ length bytes

form_spells : (file : Known) (at : ℕ) (x : (ℕ × Bool) × ℕ) → form_at file at ≡ Ok x → FormStands file.bytes at x
unfolding form_at
form_spells file at x e =
    let flavour = bind_ok (flavour_at file at) _ x e in
    let big = bind_ok (flag_at file flavour.0.1) _ x flavour.2 in
    let unused = field_bind file (take_at 6 file.bytes big.0.1) _ x big.2 in
    let found : (ℕ × Bool) × ℕ = ((flavour.0.0, big.0.0), unused.0.1) in
    let first = flavour_spells file at flavour.0 flavour.1 in
    let second = flag_spells file flavour.0.1 big.0 big.1 in
    let skipped = skip_spells 6 file.bytes big.0.1 unused.0 unused.1 in
    let one : flavour.0.1 ≡ at + 1 = first.0.next_is in
    let two : big.0.1 ≡ at + 2 = omega (arith, one, second.next_is) in
    subst (λ (y : (ℕ × Bool) × ℕ). FormStands file.bytes at y) (same_ok found x unused.2)
    (record {
      flavour_stands = subst (λ (n : ℕ). IsByte file.bytes at flavour.0.0 n) one first.0;
      flavour_is = first.1;
      flag_stands = subst (λ (n : ℕ). IsByte file.bytes (at + 1) (flag big.0.0) n) two (subst (λ (n : ℕ). IsByte file.bytes n (flag big.0.0) big.0.1) one second);
      next_is = omega (arith, two, skipped.0);
      whole = omega (arith, two, skipped.1);
    })

form_reads : (file : Known) (at flavour : ℕ) (big : Bool) → IsByte file.bytes at flavour (at + 1) → (flavour ≡ 1) ⊎ (flavour ≡ 2) → IsByte file.bytes (at + 1) (flag big) (at + 2) → at + 8 ≤ length file.bytes
    → form_at file at ≡ Ok ((flavour, big), at + 8)
unfolding form_at
form_reads file at flavour big first is second le =
    let eight : at + 2 + 6 ≡ at + 8 = omega arith in
    rw (flavour_reads file at flavour (at + 1) first is, flag_reads file (at + 1) big (at + 2) second, skip_reads 6 file.bytes (at + 2) (omega arith)) (ap (λ (n : ℕ). Ok ((flavour, big), n)) eight)

pub head_spells : NumbersAreSpelled → (file : Known) (x : Head × ℕ) → head_at file 0 ≡ Ok x → IsHead file.bytes x.0 x.1
unfolding head_at
head_spells law file x e =
    let magic = bind_ok (behind_magic file 0) _ x e in
    let version = bind_ok (behind_version file magic.0) _ x magic.2 in
    let hash = field_bind file (take_at 16 file.bytes version.0) _ x version.2 in
    let form = bind_ok (form_at file hash.0.1) _ x hash.2 in
    let entries = field_bind file (little_at 8 file.bytes form.0.1) _ x form.2 in
    let args = bind_ok (parts_at file entries.0.1) _ x entries.2 in
    let found : Head × ℕ = (record { hash = hash.0.0; flavour = form.0.0.0; big = form.0.0.1; entries = entries.0.0; args = args.0.0 }, args.0.1) in
    let one = magic_spells file 0 magic.0 magic.1 in
    let two = version_spells file magic.0 version.0 version.1 in
    let three = piece_spells 16 file.bytes version.0 hash.0 hash.1 in
    let four = form_spells file hash.0.1 form.0 form.1 in
    let five = little_spells 8 file.bytes form.0.1 entries.0 entries.1 in
    let six = parts_spell law file entries.0.1 args.0 args.1 in
    let at4 : magic.0 ≡ 4 = one.next_is in
    let at8 : version.0 ≡ 8 = omega (arith, at4, two.next_is) in
    let at24 : hash.0.1 ≡ 24 = omega (arith, at8, three.0.next_is, three.1) in
    let at32 : form.0.1 ≡ 32 = omega (arith, at24, four.next_is) in
    let at40 : entries.0.1 ≡ 40 = omega (arith, at32, five.next_is) in
    let form_here : FormStands file.bytes 24 form.0 = subst (λ (n : ℕ). FormStands file.bytes n form.0) at24 four in
    subst (λ (y : Head × ℕ). IsHead file.bytes y.0 y.1) (same_ok found x args.2)
    (record {
      magic = subst (λ (n : ℕ). IsLittle 4 file.bytes 0 0x6d776300 n) at4 one;
      version = subst (λ (n : ℕ). IsLittle 4 file.bytes 4 1 n) at8 (subst (λ (n : ℕ). IsLittle 4 file.bytes n 1 version.0) at4 two);
      hash_whole = three.1;
      hash_stands = subst (λ (n : ℕ). IsPiece file.bytes 8 hash.0.0 n) at24 (subst (λ (n : ℕ). IsPiece file.bytes n hash.0.0 hash.0.1) at8 three.0);
      flavour_stands = form_here.flavour_stands;
      flavour_is = form_here.flavour_is;
      flag_stands = form_here.flag_stands;
      entries_stand = subst (λ (n : ℕ). IsLittle 8 file.bytes 32 entries.0.0 n) at40 (subst (λ (n : ℕ). IsLittle 8 file.bytes n entries.0.0 entries.0.1) at32 five);
      parts_are = subst (λ (n : ℕ). IsParts file.bytes n args.0.0 args.0.1) at40 six;
    })

pub head_reads : NumbersAreRead → (file : Known) (head : Head) (first : ℕ) → IsHead file.bytes head first → head_at file 0 ≡ Ok (head, first)
unfolding head_at
head_reads law file head first is =
    let hash : take_at 16 file.bytes 8 ≡ Ok (head.hash, 24) = subst (λ (n : ℕ). take_at n file.bytes 8 ≡ Ok (head.hash, 24)) is.hash_whole (piece_reads file.bytes 8 head.hash 24 is.hash_stands) in
    let enough : 32 ≤ length file.bytes = omega (arith, is.entries_stand.whole) in
    rw (
      magic_reads file 0 4 is.magic,
      version_reads file 4 8 is.version,
      hash,
      form_reads file 24 head.flavour head.big is.flavour_stands is.flavour_is is.flag_stands enough,
      little_reads 8 file.bytes 32 head.entries 40 is.entries_stand,
      parts_read law file 40 head.args first is.parts_are,
    ) refl
