-- Reading the end of a file and its spelling.
use Rattle.std.proofs.Common.{◌≡◌, ℕ, zero, suc, ◌+◌, ◌-◌, ◌≤◌, List, length, take, drop, Ok, Err, refl, ap, ◌∙◌, subst, arith}
use Rattle.std.specs.Prelude.{false, nat_lt, if◌then◌else◌, ◌==◌}
use Rattle.std.proofs.lemmas.Bool.{ltb-false, le-ltb, eqb-true}
use Rattle.cov_bytes.specs.Reading.{take_at, byte_at, little_at}
use Rattle.cov_outside.specs.declared.data_kind.DataKind.TheVariants as kinds
use Rattle.cov_outside.specs.declared.limit.Which.TheVariants.{DataBytes}
use Rattle.cov_counter.specs.declared.fault.CounterFault.TheVariants.{At, Limit}
use Rattle.cov_counter.specs.Each.{each}
use Rattle.cov_counter.specs.File.{Known}
use Rattle.cov_counter.specs.Head.{behind_magic}
use Rattle.cov_counter.specs.Rest.{padding_in, behind_zero, behind_segments, behind_footer, behind_rest}
use Rattle.cov_counter.specs.Spelling.{IsByte, IsLittle, Turns, IsRest}
use Rattle.cov_counter.proofs.Bind.{bind_ok, field_bind, same_ok, chosen, passed}
use Rattle.cov_counter.proofs.Fields.{little_spells, little_reads, skip_spells, skip_reads, byte_spells, byte_reads}
use Rattle.cov_counter.proofs.SpelledHead.{magic_spells, magic_reads}
use Rattle.cov_counter.proofs.Turns.{each_spells, each_reads}

pub record PaddingStands (file : Known) (at zeros : ℕ) : Type 0 where
  pub less : file.more ≡ false
  pub few : zeros ≤ 3
  pub left : length file.bytes - at ≡ zeros + 16

padding_spells : (file : Known) (at zeros : ℕ) → padding_in file at ≡ Ok zeros → PaddingStands file at zeros
padding_spells file at zeros e =
    let left : ℕ = length file.bytes - at in
    let got = passed (nat_lt 19 left) (At at kinds.Trailing) (if file.more then Err (Limit DataBytes) else if nat_lt left 16 then Err (At at kinds.Short) else Ok (left - 16)) zeros e in
    let some = passed file.more (Limit DataBytes) (if nat_lt left 16 then Err (At at kinds.Short) else Ok (left - 16)) zeros got.1 in
    let enough = passed (nat_lt left 16) (At at kinds.Short) (Ok (left - 16)) zeros some.1 in
    let most : length file.bytes - at ≤ 19 = ltb-false 19 left got.0 in
    let least : 16 ≤ length file.bytes - at = ltb-false left 16 enough.0 in
    let same : (length file.bytes - at) - 16 ≡ zeros = same_ok (left - 16) zeros enough.1 in
    record { less = some.0; few = omega (arith, most, least, same); left = omega (arith, most, least, same) }

padding_reads : (file : Known) (at zeros : ℕ) → file.more ≡ false → zeros ≤ 3 → length file.bytes ≡ at + zeros + 16 → padding_in file at ≡ Ok zeros
padding_reads file at zeros less few end =
    let left : length file.bytes - at ≡ zeros + 16 = omega (arith, end) in
    let back : (zeros + 16) - 16 ≡ zeros = omega arith in
    rw (left, le-ltb 19 (zeros + 16) (omega arith), less, le-ltb (zeros + 16) 16 (omega arith), back) refl

zero_spells : (file : Known) (at next : ℕ) → behind_zero file at ≡ Ok next → IsByte file.bytes at 0 next
unfolding behind_zero
zero_spells file at next e =
    let byte = field_bind file (byte_at file.bytes at) _ next e in
    let got = chosen (byte.0.0 == 0) (At at kinds.BadPadding) (Ok byte.0.1) next byte.2 in
    subst (λ (v : ℕ). IsByte file.bytes at v next) (eqb-true byte.0.0 0 got.0)
    (subst (λ (n : ℕ). IsByte file.bytes at byte.0.0 n) (same_ok byte.0.1 next got.1) (byte_spells file.bytes at byte.0 byte.1))

zero_reads : (file : Known) (at next : ℕ) → IsByte file.bytes at 0 next → behind_zero file at ≡ Ok next
unfolding behind_zero
zero_reads file at next is = rw (byte_reads file.bytes at 0 next is) refl

abbrev pub IsZero : List ℕ → ℕ → ℕ → Type 0
IsZero bytes i j = IsByte bytes i 0 j

zeros_end : (bytes : List ℕ) (n at next : ℕ) → Turns (IsZero bytes) n at next → next ≡ at + n
zeros_end bytes zero at next t = omega (arith, t)
zeros_end bytes (suc n) at next t = omega (arith, t.1.next_is, zeros_end bytes n t.0 next t.2)

segments_spell : (file : Known) (at next : ℕ) → behind_segments file at ≡ Ok next → IsLittle 4 file.bytes at 1 next
unfolding behind_segments
segments_spell file at next e =
    let count = field_bind file (little_at 4 file.bytes at) _ next e in
    let got = chosen (count.0.0 == 1) (At at (kinds.Segments count.0.0)) (Ok count.0.1) next count.2 in
    subst (λ (v : ℕ). IsLittle 4 file.bytes at v next) (eqb-true count.0.0 1 got.0)
    (subst (λ (n : ℕ). IsLittle 4 file.bytes at count.0.0 n) (same_ok count.0.1 next got.1) (little_spells 4 file.bytes at count.0 count.1))

segments_read : (file : Known) (at next : ℕ) → IsLittle 4 file.bytes at 1 next → behind_segments file at ≡ Ok next
unfolding behind_segments
segments_read file at next is = rw (little_reads 4 file.bytes at 1 next is) refl

pub record FooterStands (bytes : List ℕ) (at next : ℕ) : Type 0 where
  pub magic : IsLittle 4 bytes at 0x6d776300 (at + 4)
  pub segments : IsLittle 4 bytes (at + 8) 1 (at + 12)
  pub next_is : next ≡ at + 16

footer_spells : (file : Known) (at next : ℕ) → behind_footer file at ≡ Ok next → FooterStands file.bytes at next
unfolding behind_footer
footer_spells file at next e =
    let magic = bind_ok (behind_magic file at) _ next e in
    let unused = field_bind file (take_at 4 file.bytes magic.0) _ next magic.2 in
    let segments = bind_ok (behind_segments file unused.0.1) _ next unused.2 in
    let last = field_bind file (take_at 4 file.bytes segments.0) _ next segments.2 in
    let one = magic_spells file at magic.0 magic.1 in
    let two = skip_spells 4 file.bytes magic.0 unused.0 unused.1 in
    let three = segments_spell file unused.0.1 segments.0 segments.1 in
    let four = skip_spells 4 file.bytes segments.0 last.0 last.1 in
    let at4 : magic.0 ≡ at + 4 = one.next_is in
    let at8 : unused.0.1 ≡ at + 8 = omega (arith, at4, two.0) in
    let at12 : segments.0 ≡ at + 12 = omega (arith, at8, three.next_is) in
    let end : last.0.1 ≡ next = same_ok last.0.1 next last.2 in
    record {
      magic = subst (λ (n : ℕ). IsLittle 4 file.bytes at 0x6d776300 n) at4 one;
      segments = subst (λ (n : ℕ). IsLittle 4 file.bytes (at + 8) 1 n) at12 (subst (λ (n : ℕ). IsLittle 4 file.bytes n 1 segments.0) at8 three);
      next_is = omega (arith, end, four.0, at12);
    }

footer_reads : (file : Known) (at : ℕ) → IsLittle 4 file.bytes at 0x6d776300 (at + 4) → IsLittle 4 file.bytes (at + 8) 1 (at + 12) → at + 16 ≤ length file.bytes → behind_footer file at ≡ Ok (at + 16)
unfolding behind_footer
footer_reads file at magic segments le =
    let eight : at + 4 + 4 ≡ at + 8 = omega arith in
    let sixteen : at + 12 + 4 ≡ at + 16 = omega arith in
    let first : take_at 4 file.bytes (at + 4) ≡ Ok (take 4 (drop (at + 4) file.bytes), at + 8) = skip_reads 4 file.bytes (at + 4) (omega (arith, le)) ∙ ap (λ (n : ℕ). Ok (take 4 (drop (at + 4) file.bytes), n)) eight in
    let last : take_at 4 file.bytes (at + 12) ≡ Ok (take 4 (drop (at + 12) file.bytes), at + 16) = skip_reads 4 file.bytes (at + 12) (omega (arith, le)) ∙ ap (λ (n : ℕ). Ok (take 4 (drop (at + 12) file.bytes), n)) sixteen in
    rw (magic_reads file at (at + 4) magic, first, segments_read file (at + 8) (at + 12) segments, last) refl

-- a file that is read to its end has no more bytes than may be read
pub rest_spells : (file : Known) (at next : ℕ) → behind_rest file at ≡ Ok next → (file.more ≡ false) × IsRest file.bytes at
unfolding behind_rest
rest_spells file at next e =
    let zeros = bind_ok (padding_in file at) _ next e in
    let begin = bind_ok (each (behind_zero file) zeros.0 at) _ next zeros.2 in
    let padding = padding_spells file at zeros.0 zeros.1 in
    let turns = each_spells (behind_zero file) (IsZero file.bytes) (zero_spells file) zeros.0 at begin.0 begin.1 in
    let here : begin.0 ≡ at + zeros.0 = zeros_end file.bytes zeros.0 at begin.0 turns in
    let footer : FooterStands file.bytes (at + zeros.0) next = subst (λ (n : ℕ). FooterStands file.bytes n next) here (footer_spells file begin.0 next begin.2) in (
      padding.less,
      record {
        zeros = zeros.0;
        few = padding.few;
        end_is = omega (arith, padding.left);
        zeros_stand = subst (λ (n : ℕ). Turns (IsZero file.bytes) zeros.0 at n) here turns;
        magic = footer.magic;
        segments = footer.segments;
      },
    )

pub rest_reads : (file : Known) (at : ℕ) → file.more ≡ false → IsRest file.bytes at → (next : ℕ) × (behind_rest file at ≡ Ok next)
unfolding behind_rest
rest_reads file at less is =
    let padding = padding_reads file at is.zeros less is.few is.end_is in
    let zeros = each_reads (behind_zero file) (IsZero file.bytes) (zero_reads file) is.zeros at (at + is.zeros) is.zeros_stand in
    let footer = footer_reads file (at + is.zeros) is.magic is.segments (omega (arith, is.end_is)) in
    (at + is.zeros + 16, rw (padding, zeros, footer) refl)
