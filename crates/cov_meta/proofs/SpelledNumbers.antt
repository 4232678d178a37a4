-- Reading a number and its spelling.
use Rattle.std.proofs.Common.{◌≡◌, ℕ, ◌+◌, ◌^◌, ◌<◌, ◌≤◌, List, [], ◌∷◌, ◌++◌, length, take, drop, get_or, Option, Some, None, Ok, Err, refl, sym, ap, ◌∙◌, arith}
use Rattle.std.specs.Prelude.{Bool, true, false, if◌then◌else◌, nat_lt, ◌==◌, position, All}
use Rattle.std.specs.List.{position_or_len}
use Rattle.std.proofs.lemmas.Bool.{ltb-false, ltb-true, le-ltb, lt-ltb}
use Rattle.std.proofs.lemmas.List.{take_more, take-take, length-take-le, length-take, length-append, take-append-drop, get_or-take}
use Rattle.std.proofs.lemmas.List.Elements.{All-head, All-tail, All-from_get_or}
use Rattle.std.proofs.lemmas.List.Quantifiers.{position-Some}
use Rattle.byteorder.specs.Endian.{little_number}
use Rattle.cov_bytes.specs.declared.cursor.CutFault.{CutFault}
use Rattle.cov_bytes.specs.declared.cursor.CutFault.TheVariants.{Short, NumberTooLong, NumberTooLarge}
use Rattle.cov_bytes.specs.Reading.{little_at, uleb_in, uleb_at, groups_value}
use Rattle.cov_meta.specs.Spelling.{IsFixed, IsUleb}
use Rattle.cov_meta.proofs.Bind.{same_ok, passed, chosen}

pub fixed_spells : (width : ℕ) (bytes : List ℕ) (at value next : ℕ) → little_at width bytes at ≡ Ok (value, next) → IsFixed width bytes at value next
fixed_spells width bytes at value next e =
    let got = passed (nat_lt (length bytes) (at + width)) (Short at) (Ok (little_number width (drop at bytes), at + width)) (value, next) e in
    let same = same_ok (little_number width (drop at bytes), at + width) (value, next) got.1 in
    let next_is : at + width ≡ next = ap (λ (x : ℕ × ℕ). x.1) same in
    let enough : at + width ≤ length bytes = ltb-false (length bytes) (at + width) got.0 in
    record { next_is = sym next_is; whole = omega arith; value_is = ap (λ (x : ℕ × ℕ). x.0) same }

pub fixed_reads : (width : ℕ) (bytes : List ℕ) (at value next : ℕ) → IsFixed width bytes at value next → little_at width bytes at ≡ Ok (value, next)
fixed_reads width bytes at value next s =
    let enough : at + width ≤ length bytes = omega (arith, s.whole, s.next_is) in
    rw (le-ltb (length bytes) (at + width) enough, s.value_is, s.next_is) refl

-- the place of the first unmarked byte
pub place_of_last : (front : List ℕ) (last : ℕ) (rest : List ℕ) → All (λ b. 128 ≤ b) front → last < 128 → position_or_len (λ b. nat_lt b 128) ((front ++ last ∷ []) ++ rest) ≡ length front
place_of_last [] last rest marked unmarked = rw (lt-ltb last 128 unmarked) refl
place_of_last (b ∷ bs) last rest marked unmarked =
    rw (le-ltb b 128 (All-head (λ b. 128 ≤ b) b bs marked), place_of_last bs last rest (All-tail (λ b. 128 ≤ b) b bs marked) unmarked) (omega arith)

-- a byte without the high bit
abbrev is_last : ℕ → Bool
is_last b = nat_lt b 128

neither : (b : Bool) (f g : CutFault) (y : ℕ × ℕ) {P : Type 0} → (if b then Err f else Err g) ≡ Ok y → P
neither true f g y e = absurd (cc)
neither false f g y e = absurd (cc)

found_spells : (bytes : List ℕ) (at value next : ℕ) (found : Option ℕ) → position is_last (take 10 (drop at bytes)) ≡ found → uleb_in at (take 10 (drop at bytes)) found ≡ Ok (value, next)
    → IsUleb bytes at value next
found_spells bytes at value next None p e = neither (length (take 10 (drop at bytes)) == 10) (NumberTooLong at) (Short at) (value, next) e
found_spells bytes at value next (Some last) p e =
    let rest = drop at bytes in
    let ten = take 10 rest in
    let got = groups_value (take (last + 1) ten) in
    let test = chosen (nat_lt got (2 ^ 32)) (NumberTooLarge at) (Ok (got, at + (last + 1))) (value, next) e in
    let same = same_ok (got, at + (last + 1)) (value, next) test.1 in
    let value_same : got ≡ value = ap (λ (x : ℕ × ℕ). x.0) same in
    let next_same : at + (last + 1) ≡ next = ap (λ (x : ℕ × ℕ). x.1) same in
    let small : got < 2 ^ 32 = ltb-true got (2 ^ 32) test.0 in
    let there = position-Some is_last ten last 0 p in
    let inside : last < length ten = there.0 in
    let most : length ten ≤ 10 = omega (arith, length-take 10 rest) in
    let whole : take (last + 1) ten ≡ take last ten ++ get_or ten last 0 ∷ [] = take_more ten last 0 inside in
    let front_len : length (take last ten) ≡ last = length-take-le last ten (omega arith) in
    let whole_len : length (take last ten ++ get_or ten last 0 ∷ []) ≡ last + 1 = simp length-append (omega (arith, front_len)) in
    let from_rest : take (last + 1) ten ≡ take (last + 1) rest = take-take (last + 1) 10 rest (omega arith) in
    record {
      front = take last ten;
      last = get_or ten last 0;
      there = ap (λ (n : ℕ). take n rest) whole_len ∙ sym from_rest ∙ whole;
      next_is = rw front_len (sym next_same);
      few = rw front_len (omega arith);
      marked = All-from_get_or (λ b. 128 ≤ b) (take last ten) 0 (λ i lt.
          let below : i < last = omega (arith, lt, front_len) in
          rw (get_or-take last ten i 0 below) (ltb-false (get_or ten i 0) 128 (there.2 i below)));
      unmarked = ltb-true (get_or ten last 0) 128 there.1;
      value_is = sym (ap groups_value whole) ∙ value_same;
      small = rw (← value_same) small;
    }

pub uleb_spells : (bytes : List ℕ) (at value next : ℕ) → uleb_at bytes at ≡ Ok (value, next) → IsUleb bytes at value next
uleb_spells bytes at value next e = found_spells bytes at value next (position is_last (take 10 (drop at bytes))) refl e

first_last : (front : List ℕ) (last : ℕ) (rest ten : List ℕ) → ten ≡ (front ++ last ∷ []) ++ rest → All (λ b. 128 ≤ b) front → last < 128 → position is_last ten ≡ Some (length front)
first_last front last rest ten split marked unmarked =
    let place : position_or_len is_last ten ≡ length front = ap (position_or_len is_last) split ∙ place_of_last front last rest marked unmarked in
    let long : length ten ≡ length front + 1 + length rest = ap length split ∙ simp length-append (omega arith) in
    let inside : length front < length ten = omega arith in
    rw (place, lt-ltb (length front) (length ten) inside) refl

pub uleb_reads : (bytes : List ℕ) (at value next : ℕ) → IsUleb bytes at value next → uleb_at bytes at ≡ Ok (value, next)
uleb_reads bytes at value next s =
    let rest = drop at bytes in
    let ten = take 10 rest in
    let piece = s.front ++ s.last ∷ [] in
    let piece_len : length piece ≡ length s.front + 1 = simp length-append (omega arith) in
    let few : length piece ≤ 10 = omega (arith, s.few, piece_len) in
    let begins : take (length piece) ten ≡ piece = take-take (length piece) 10 rest few ∙ s.there in
    let split : ten ≡ piece ++ drop (length piece) ten = sym (take-append-drop (length piece) ten) ∙ ap (λ (xs : List ℕ). xs ++ drop (length piece) ten) begins in
    let found : position is_last ten ≡ Some (length s.front) = first_last s.front s.last (drop (length piece) ten) ten split s.marked s.unmarked in
    let front_is : take (length s.front + 1) ten ≡ piece = ap (λ (n : ℕ). take n ten) (sym piece_len) ∙ begins in
    let value_is : groups_value (take (length s.front + 1) ten) ≡ value = ap groups_value front_is ∙ s.value_is in
    ap (uleb_in at ten) found ∙ rw (value_is, lt-ltb value (2 ^ 32) s.small, s.next_is) refl
