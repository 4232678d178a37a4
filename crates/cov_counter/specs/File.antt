-- The bytes of a data file that may be read, and its fields.
use Rattle.std.specs.Prelude.{◌≡◌, ℕ, Bool, false, List, length, take, ◌<◌, Result, Ok, Err, nat_lt, IsOkAnd}
use Rattle.cov_bytes.specs.declared.cursor.CutFault.{CutFault}
use Rattle.cov_bytes.specs.declared.cursor.CutFault.TheVariants.{Short}
use Rattle.cov_counter.specs.declared.fault.CounterFault.{CounterFault}
use Rattle.cov_counter.specs.Fault.{fault_of, Fails}

-- the bytes of a file up to the limit, and whether it has more
pub record Known : Type 0 where
  pub bytes : List ℕ
  pub more : Bool

-- what may be read of a file: at most 268,435,456 bytes
unfoldable pub known : List ℕ → Known
known content = record { bytes = take 268435456 content; more = nat_lt 268435456 (length content) }

-- a file's bytes up to the end of a part of it
abbrev pub up_to : ℕ → Known → Known
up_to end file = record { bytes = take end file.bytes; more = false }

-- a field of a file
abbrev pub field : {A : Type 0} → Known → Result A CutFault → Result A CounterFault
field file (Ok x) = Ok x
field file (Err f) = Err (fault_of file.more f)

-- a file, and the offset of the next byte
pub record Spot : Type 0 where
  pub file : Known
  pub at : ℕ

-- a call read what stands there and moved behind it, or answers the fault
abbrev pub Reads : {X Y : Type 0} → (X → Y) → Spot → Spot → Result X CounterFault → Result (Y × ℕ) CounterFault → Type 0
Reads view old new (Ok x) there = (there ≡ Ok (view x, new.at)) × (new.file ≡ old.file)
Reads view old new (Err e) there = Fails e there

-- the same for a call that only moves
abbrev pub Passes : {X : Type 0} → Spot → Spot → Result X CounterFault → Result ℕ CounterFault → Type 0
Passes old new (Ok x) there = (there ≡ Ok new.at) × (new.file ≡ old.file)
Passes old new (Err e) there = Fails e there

-- a call went to an offset, or answers that the file ends before it
abbrev pub Seeks : {X : Type 0} → ℕ → Spot → Spot → Result X CounterFault → Type 0
Seeks at old new (Ok x) = new ≡ record old { at = at }
Seeks at old new (Err e) = (length old.file.bytes < at) × (e ≡ fault_of old.file.more (Short at))

-- a call gave a part of the file and moved behind it, or answers the fault
abbrev pub Cuts : Spot → Spot → Result Spot CounterFault → Result (List ℕ × ℕ) CounterFault → Type 0
Cuts old new (Ok part) there = IsOkAnd there (λ x. x.1 ≡ new.at) × (part ≡ record { file = up_to new.at old.file; at = old.at }) × (new.file ≡ old.file)
Cuts old new (Err e) there = Fails e there

-- a call from the bytes alone gave what is there, or the fault
abbrev pub Gives : {X : Type 0} → Result X CounterFault → Result X CounterFault → Type 0
Gives (Ok x) there = there ≡ Ok x
Gives (Err e) there = Fails e there
