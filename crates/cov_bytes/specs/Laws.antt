-- What reading and writing have to do with each other.
use Rattle.std.specs.Prelude.{◌≡◌, ℕ, ◌+◌, ◌-◌, ◌^◌, ◌<◌, ◌≤◌, List, ◌++◌, length, take, drop, sum_by, All, Ok, nat_lt}
use Rattle.std.specs.List.{position_or_len}
use Rattle.byteorder.specs.Endian.{little_bytes}
use Rattle.cov_bytes.specs.Reading.{groups_value, uleb_at, little_at}
use Rattle.cov_bytes.specs.Table.{table_at}
use Rattle.cov_bytes.specs.Writing.{uleb_of, table_text}
use Rattle.cov_bytes.specs.declared.text_limits.TextLimits.{TextLimits}

-- a spelling of a number in ULEB128 (DWARF 5, section 7.6), as it is accepted here
pub record IsUleb (spelling : List ℕ) (n : ℕ) : Type 0 where
  -- the first byte without the high bit is the last
  pub ends : position_or_len (λ b. nat_lt b 128) spelling + 1 ≡ length spelling
  pub few : length spelling ≤ 10
  pub value : groups_value spelling ≡ n
  pub small : n < 2 ^ 32

-- every spelling is read, and nothing behind it
abbrev pub NumbersAreRead : Type 0
NumbersAreRead = (bytes rest spelling : List ℕ) (at n : ℕ) → IsUleb spelling n → drop at bytes ≡ spelling ++ rest → uleb_at bytes at ≡ Ok (n, at + length spelling)

-- what is read stands there in a spelling
abbrev pub NumbersAreSpelled : Type 0
NumbersAreSpelled = (bytes : List ℕ) (at n next : ℕ) → uleb_at bytes at ≡ Ok (n, next) → (at < next) × (next ≤ length bytes) × IsUleb (take (next - at) (drop at bytes)) n

-- no bytes begin with spellings of two numbers, nor with two of one
abbrev pub NumbersAreApart : Type 0
NumbersAreApart = (first second rest other : List ℕ) (n m : ℕ) → IsUleb first n → IsUleb second m → first ++ rest ≡ second ++ other → (n ≡ m) × (first ≡ second)

-- what is written is a spelling, and none is shorter
abbrev pub WrittenIsShortest : Type 0
WrittenIsShortest = (n : ℕ) → n < 2 ^ 32 → IsUleb (uleb_of n) n × ((spelling : List ℕ) → IsUleb spelling n → length (uleb_of n) ≤ length spelling)

-- a number of 4 or of 8 bytes is read as it was written
pub record FixedAreRead : Type 0 where
  pub four : (bytes rest : List ℕ) (at n : ℕ) → n < 2 ^ 32 → drop at bytes ≡ little_bytes 4 n ++ rest → little_at 4 bytes at ≡ Ok (n, at + 4)
  pub eight : (bytes rest : List ℕ) (at n : ℕ) → n < 2 ^ 64 → drop at bytes ≡ little_bytes 8 n ++ rest → little_at 8 bytes at ≡ Ok (n, at + 8)

-- these texts keep the limits, and their number and lengths can be spelled
pub record KeepsLimits (limits : TextLimits) (texts : List (List ℕ)) : Type 0 where
  pub count : length texts ≤ limits.strings
  pub each : All (λ text. length text ≤ limits.one) texts
  pub together : sum_by length texts ≤ limits.all
  pub few : length texts < 2 ^ 32
  pub short : All (λ text. length text < 2 ^ 32) texts

-- a table is read as it was written
abbrev pub TablesAreRead : Type 0
TablesAreRead = (limits : TextLimits) (bytes rest : List ℕ) (at : ℕ) (texts : List (List ℕ)) → KeepsLimits limits texts → drop at bytes ≡ table_text texts ++ rest
    → table_at limits bytes at ≡ Ok (texts, at + length (table_text texts))
