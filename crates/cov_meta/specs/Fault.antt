-- Faults of meta files.
use Rattle.std.specs.Prelude.{◌≡◌, ℕ, Result, Ok, Err}
use Rattle.cov_bytes.specs.declared.cursor.CutFault.{CutFault}
use Rattle.cov_bytes.specs.declared.cursor.CutFault.TheVariants as cut_fault
use Rattle.cov_bytes.specs.declared.text_limits.TableFault.{TableFault}
use Rattle.cov_bytes.specs.declared.text_limits.TableFault.TheVariants as table_fault
use Rattle.cov_bytes.specs.declared.text_limits.WhichText.{WhichText}
use Rattle.cov_bytes.specs.declared.text_limits.WhichText.TheVariants as which_text
use Rattle.cov_bytes.specs.Reading.{Place}
use Rattle.cov_outside.specs.declared.data_kind.DataKind.TheVariants as kinds
use Rattle.cov_outside.specs.declared.limit.Which.{Which}
use Rattle.cov_outside.specs.declared.limit.Which.TheVariants.{Strings, NameBytes, StringBytes}
use Rattle.cov_meta.specs.declared.fault.MetaFault.{MetaFault}
use Rattle.cov_meta.specs.declared.fault.MetaFault.TheVariants as faults

-- a field that is cut off or no number, where it begins
abbrev pub fault_of : CutFault → MetaFault
fault_of (cut_fault.Short at) = faults.At at kinds.Short
fault_of (cut_fault.NumberTooLong at) = faults.At at kinds.NumberTooLong
fault_of (cut_fault.NumberTooLarge at) = faults.At at kinds.NumberTooLarge

-- the limits on texts
abbrev pub which_of : WhichText → Which
which_of which_text.Strings = Strings
which_of which_text.NameBytes = NameBytes
which_of which_text.StringBytes = StringBytes

-- a fault of a string table
abbrev pub table_fault_of : TableFault → MetaFault
table_fault_of (table_fault.Cut f) = fault_of f
table_fault_of (table_fault.Limit w) = faults.Limit (which_of w)
table_fault_of table_fault.NoMemory = faults.NoMemory

-- a field that is read
abbrev pub field : {A : Type 0} → Result A CutFault → Result A MetaFault
field (Ok x) = Ok x
field (Err f) = Err (fault_of f)

-- a string table that is read
abbrev pub table : {A : Type 0} → Result A TableFault → Result A MetaFault
table (Ok x) = Ok x
table (Err f) = Err (table_fault_of f)

-- the fault that a call answers is the one that is there, unless memory ran out
abbrev pub Fails : {Y : Type 0} → MetaFault → Result Y MetaFault → Type 0
Fails faults.NoMemory there = Unit {0}
Fails (faults.At offset kind) there = there ≡ Err (faults.At offset kind)
Fails (faults.Limit w) there = there ≡ Err (faults.Limit w)

-- a call answers what is there, or the fault
abbrev pub Answers : {X : Type 0} → Result X MetaFault → Result X MetaFault → Type 0
Answers (Ok x) there = there ≡ Ok x
Answers (Err e) there = Fails e there

-- a call read what stands there and moved behind it, or answers the fault
abbrev pub Reads : {X Y : Type 0} → (X → Y) → Place → Place → Result X MetaFault → Result (Y × ℕ) MetaFault → Type 0
Reads view old new (Ok x) there = (there ≡ Ok (view x, new.at)) × (new.bytes ≡ old.bytes)
Reads view old new (Err e) there = Fails e there

-- a fault of a part is the fault of the whole
pub Fails-further : {A B : Type 0} (e : MetaFault) (r : Result A MetaFault) (total : Result B MetaFault) → Fails e r → ((f : MetaFault) → r ≡ Err f → total ≡ Err f) → Fails e total
Fails-further faults.NoMemory r total h carry = tt
Fails-further (faults.At offset kind) r total h carry = carry (faults.At offset kind) h
Fails-further (faults.Limit w) r total h carry = carry (faults.Limit w) h
