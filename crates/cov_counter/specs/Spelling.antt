-- Which bytes spell a counter file: what stands at which offset.
-- The layout is that of internal/coverage/defs.go in Go 1.20, with one segment.
use Rattle.std.specs.Prelude.{◌≡◌, ℕ, zero, suc, ◌+◌, ◌-◌, ◌<◌, ◌≤◌, List, [], ◌∷◌, length, take, drop, MatchBool, ◌⊎◌, if◌then◌else◌, ◌==◌}
use Rattle.byteorder.specs.Endian.{little_number, big_number}
use Rattle.cov_bytes.specs.Laws.{IsUleb}
use Rattle.cov_bytes.specs.Writing.{padding}
use Rattle.cov_counter.specs.declared.head.Head.{Head}
use Rattle.cov_counter.specs.declared.entry.Entry.{Entry}

-- ---- what can stand in bytes at an offset, up to the next offset

-- these very bytes
pub record IsPiece (bytes : List ℕ) (at : ℕ) (piece : List ℕ) (next : ℕ) : Type 0 where
  pub next_is : next ≡ at + length piece
  pub whole : next ≤ length bytes
  pub there : take (length piece) (drop at bytes) ≡ piece

-- a number of so many bytes, the lowest first
pub record IsLittle (width : ℕ) (bytes : List ℕ) (at value next : ℕ) : Type 0 where
  pub next_is : next ≡ at + width
  pub whole : next ≤ length bytes
  pub value_is : little_number width (drop at bytes) ≡ value

-- a number of so many bytes, the highest first
pub record IsBig (width : ℕ) (bytes : List ℕ) (at value next : ℕ) : Type 0 where
  pub next_is : next ≡ at + width
  pub whole : next ≤ length bytes
  pub value_is : big_number width (drop at bytes) ≡ value

-- a ULEB128 number
pub record IsGroups (bytes : List ℕ) (at value next : ℕ) : Type 0 where
  pub after : at ≤ next
  pub whole : next ≤ length bytes
  pub spelled : IsUleb (take (next - at) (drop at bytes)) value

-- a byte
abbrev pub IsByte : List ℕ → ℕ → ℕ → ℕ → Type 0
IsByte bytes at value next = IsPiece bytes at (value ∷ []) next

-- a number in the form that the header names
abbrev pub IsNumber : Head → List ℕ → ℕ → ℕ → ℕ → Type 0
IsNumber head bytes at value next = MatchBool (head.flavour == 2) (IsGroups bytes at value next) (MatchBool head.big (IsBig 4 bytes at value next) (IsLittle 4 bytes at value next))

-- items one after the other, each where the one before it ends
abbrev pub InTurn : {A : Type 0} → (ℕ → A → ℕ → Type 0) → ℕ → List A → ℕ → Type 0
InTurn Is at [] next = next ≡ at
InTurn Is at (x ∷ xs) next = (middle : ℕ) × Is at x middle × InTurn Is middle xs next

-- so many things one after the other
abbrev pub Turns : (ℕ → ℕ → Type 0) → ℕ → ℕ → ℕ → Type 0
Turns Is zero at next = next ≡ at
Turns Is (suc n) at next = (middle : ℕ) × Is at middle × Turns Is n middle next

-- ---- the string table and the arguments

-- a string: its length, and as many bytes
pub record IsString (bytes : List ℕ) (at next : ℕ) : Type 0 where
  pub size : ℕ
  pub begin : ℕ
  pub size_is : IsGroups bytes at size begin
  pub next_is : next ≡ begin + size
  pub whole : next ≤ length bytes

-- a table of so many strings, with anything behind them
pub record IsTable (bytes : List ℕ) (at strings : ℕ) : Type 0 where
  pub begin : ℕ
  pub behind : ℕ
  pub count_is : IsGroups bytes at strings begin
  pub strings_are : Turns (IsString bytes) strings begin behind

-- the number of one of the strings
pub record IsIndex (strings : ℕ) (bytes : List ℕ) (at next : ℕ) : Type 0 where
  pub index : ℕ
  pub index_is : IsGroups bytes at index next
  pub among : index < strings

-- so many pairs of strings, with anything behind them
pub record IsArgs (strings : ℕ) (bytes : List ℕ) (at pairs : ℕ) : Type 0 where
  pub begin : ℕ
  pub behind : ℕ
  pub count_is : IsGroups bytes at pairs begin
  pub pairs_are : Turns (λ i j. (middle : ℕ) × IsIndex strings bytes i middle × IsIndex strings bytes middle j) pairs begin behind

-- ---- the file

-- two lengths, the string table, the arguments, and bytes up to an offset that is a multiple of 4
pub record IsParts (bytes : List ℕ) (at pairs next : ℕ) : Type 0 where
  pub table : ℕ
  pub args : ℕ
  pub strings : ℕ
  pub table_stands : IsLittle 4 bytes at table (at + 4)
  pub args_stand : IsLittle 4 bytes (at + 4) args (at + 8)
  pub table_is : IsTable (take (at + 8 + table) bytes) (at + 8) strings
  pub args_are : IsArgs strings (take (at + 8 + table + args) bytes) (at + 8 + table) pairs
  pub next_is : next ≡ at + 8 + table + args + padding (at + 8 + table + args)
  pub whole : next ≤ length bytes

-- the header and the parts, behind which the entries begin
pub record IsHead (bytes : List ℕ) (head : Head) (first : ℕ) : Type 0 where
  pub magic : IsLittle 4 bytes 0 0x6d776300 4
  pub version : IsLittle 4 bytes 4 1 8
  pub hash_whole : length head.hash ≡ 16
  pub hash_stands : IsPiece bytes 8 head.hash 24
  pub flavour_stands : IsByte bytes 24 head.flavour 25
  pub flavour_is : (head.flavour ≡ 1) ⊎ (head.flavour ≡ 2)
  pub flag_stands : IsByte bytes 25 (if head.big then 1 else 0) 26
  pub entries_stand : IsLittle 8 bytes 32 head.entries 40
  pub parts_are : IsParts bytes 40 head.args first

-- the numbers of an entry: how many counters it has, its package, its function and the counters
abbrev pub entry_numbers : Entry → List ℕ
entry_numbers entry = length entry.counts ∷ entry.«package» ∷ entry.function ∷ entry.counts

-- an entry with at most 1,048,576 counters
pub record IsEntry (head : Head) (bytes : List ℕ) (at : ℕ) (entry : Entry) (next : ℕ) : Type 0 where
  pub few : length entry.counts ≤ 1048576
  pub numbers_are : InTurn (IsNumber head bytes) at (entry_numbers entry) next

-- an entry and its offset
abbrev pub IsEntryAt : Head → List ℕ → ℕ → ℕ × Entry → ℕ → Type 0
IsEntryAt head bytes at x next = (x.0 ≡ at) × IsEntry head bytes at x.1 next

-- at most three zeros and the footer, of 16 bytes
pub record IsRest (bytes : List ℕ) (at : ℕ) : Type 0 where
  pub zeros : ℕ
  pub few : zeros ≤ 3
  pub end_is : length bytes ≡ at + zeros + 16
  pub zeros_stand : Turns (λ i j. IsByte bytes i 0 j) zeros at (at + zeros)
  pub magic : IsLittle 4 bytes (at + zeros) 0x6d776300 (at + zeros + 4)
  pub segments : IsLittle 4 bytes (at + zeros + 8) 1 (at + zeros + 12)

-- a head, and the entries with their offsets
pub record Spells (bytes : List ℕ) (head : Head) (entries : List (ℕ × Entry)) : Type 0 where
  pub first : ℕ
  pub behind : ℕ
  pub small : length bytes ≤ 268435456
  pub head_is : IsHead bytes head first
  pub count_is : length entries ≡ head.entries
  pub entries_are : InTurn (IsEntryAt head bytes) first entries behind
  pub rest_is : IsRest bytes behind
