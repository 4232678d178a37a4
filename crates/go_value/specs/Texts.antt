-- Texts as lists of bytes. Go specification, "Index expressions", "Slice expressions" and "String concatenation".
use Rattle.std.specs.Prelude.{◌≡◌, ℕ, ℤ, pos, negsuc, List, ◌++◌, length, slice_get, slice_range, nat_le, ◌&&◌, if◌then◌else◌, Result, Ok, Err, ok_or}
use Rattle.go_value.specs.declared.fault.OutOfRange.{OutOfRange}
use Rattle.go_value.specs.declared.fault.TextFault.{TextFault}
use Rattle.go_value.specs.declared.fault.TextFault.TheVariants as faults

-- the byte at an index, which is from 0 to below the length
abbrev pub byte_at : List ℕ → ℤ → Result ℕ OutOfRange
byte_at s (pos i) = ok_or (slice_get s i) (record {})
byte_at s (negsuc i) = Err (record {})

-- a text has at most 1,048,576 bytes
abbrev pub within_limit : List ℕ → Result (List ℕ) TextFault
within_limit text = if nat_le (length text) 1048576 then Ok text else Err faults.StringLimit

-- the bytes from lo to before hi, where 0 <= lo <= hi <= length
abbrev pub cut : List ℕ → ℤ → ℤ → Result (List ℕ) TextFault
cut s (pos lo) (pos hi) = if nat_le lo hi && nat_le hi (length s) then within_limit (slice_range s lo hi) else Err faults.OutOfRange
cut s lo hi = Err faults.OutOfRange

-- the bytes of one text, then those of another
abbrev pub joined : List ℕ → List ℕ → Result (List ℕ) TextFault
joined a b = within_limit (a ++ b)

-- what a call answered, seen by view, is this, unless memory ran out
abbrev pub Answers : {X Y : Type 0} → (X → Y) → Result X TextFault → Result Y TextFault → Type 0
Answers view (Ok x) there = there ≡ Ok (view x)
Answers view (Err faults.OutOfRange) there = there ≡ Err faults.OutOfRange
Answers view (Err faults.StringLimit) there = there ≡ Err faults.StringLimit
Answers view (Err faults.NoMemory) there = Unit {0}
