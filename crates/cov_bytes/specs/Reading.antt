-- Reading fields of bytes: a value and the offset behind it, or the fault.
use Rattle.std.specs.Prelude.{◌≡◌, ℕ, ◌+◌, ◌*◌, ◌%◌, ◌^◌, ◌≤◌, List, [], ◌∷◌, length, take, drop, slice_index, position, Option, Some, None, Result, Ok, Err, nat_lt, ◌==◌, if◌then◌else◌}
use Rattle.byteorder.specs.Endian.{little_number, big_number}
use Rattle.cov_bytes.specs.declared.cursor.CutFault.{CutFault}
use Rattle.cov_bytes.specs.declared.cursor.CutFault.TheVariants.{Short, NumberTooLong, NumberTooLarge}

-- all the bytes, and the offset of the next
pub record Place : Type 0 where
  pub bytes : List ℕ
  pub at : ℕ

-- n bytes
abbrev pub take_at : ℕ → List ℕ → ℕ → Result (List ℕ × ℕ) CutFault
take_at n bytes at = if nat_lt (length bytes) (at + n) then Err (Short at) else Ok (take n (drop at bytes), at + n)

abbrev pub byte_at : List ℕ → ℕ → Result (ℕ × ℕ) CutFault
byte_at bytes at = if nat_lt (length bytes) (at + 1) then Err (Short at) else Ok (slice_index bytes at, at + 1)

-- a number of n bytes, the lowest first
abbrev pub little_at : ℕ → List ℕ → ℕ → Result (ℕ × ℕ) CutFault
little_at n bytes at = if nat_lt (length bytes) (at + n) then Err (Short at) else Ok (little_number n (drop at bytes), at + n)

-- a number of n bytes, the highest first
abbrev pub big_at : ℕ → List ℕ → ℕ → Result (ℕ × ℕ) CutFault
big_at n bytes at = if nat_lt (length bytes) (at + n) then Err (Short at) else Ok (big_number n (drop at bytes), at + n)

-- what groups of seven bits stand for, the lowest first
abbrev pub groups_value : List ℕ → ℕ
groups_value [] = 0
groups_value (b ∷ bs) = b % 128 + 128 * groups_value bs

-- at most ten bytes, of which all but the last have the high bit
abbrev pub uleb_in : ℕ → List ℕ → Option ℕ → Result (ℕ × ℕ) CutFault
uleb_in at front None = if length front == 10 then Err (NumberTooLong at) else Err (Short at)
uleb_in at front (Some last) =
    let value = groups_value (take (last + 1) front) in
    if nat_lt value (2 ^ 32) then Ok (value, at + (last + 1)) else Err (NumberTooLarge at)

abbrev pub uleb_at : List ℕ → ℕ → Result (ℕ × ℕ) CutFault
uleb_at bytes at = let front = take 10 (drop at bytes) in uleb_in at front (position (λ b. nat_lt b 128) front)

-- a call read what stands there and moved behind it, or answers the fault and stays
abbrev pub Moves : {X Y : Type 0} → (X → Y) → Place → Place → Result X CutFault → Result (Y × ℕ) CutFault → Type 0
Moves view old new (Ok x) there = (there ≡ Ok (view x, new.at)) × (new.bytes ≡ old.bytes)
Moves view old new (Err f) there = (there ≡ Err f) × (new ≡ old)

-- the number at the front of the bytes from an offset on, and its length
abbrev pub IsNumberAt : ℕ → List ℕ → Result (ℕ × ℕ) CutFault → Type 0
IsNumberAt at rest (Ok x) = (uleb_in at (take 10 rest) (position (λ b. nat_lt b 128) (take 10 rest)) ≡ Ok (x.0, at + x.1)) × (x.1 ≤ length rest)
IsNumberAt at rest (Err f) = uleb_in at (take 10 rest) (position (λ b. nat_lt b 128) (take 10 rest)) ≡ Err f
