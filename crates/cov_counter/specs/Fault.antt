-- Faults of counter files.
use Rattle.std.specs.Prelude.{◌≡◌, Bool, Result, Err, if◌then◌else◌}
use Rattle.cov_bytes.specs.declared.cursor.CutFault.{CutFault}
use Rattle.cov_bytes.specs.declared.cursor.CutFault.TheVariants as cut_fault
use Rattle.cov_outside.specs.declared.data_kind.DataKind.TheVariants as kinds
use Rattle.cov_outside.specs.declared.limit.Which.TheVariants.{DataBytes}
use Rattle.cov_counter.specs.declared.fault.CounterFault.{CounterFault}
use Rattle.cov_counter.specs.declared.fault.CounterFault.TheVariants as faults

-- Why a field can't be read. Bytes that are there but may not be read are the limit on data files.
abbrev pub fault_of : Bool → CutFault → CounterFault
fault_of more (cut_fault.Short at) = if more then faults.Limit DataBytes else faults.At at kinds.Short
fault_of more (cut_fault.NumberTooLong at) = faults.At at kinds.NumberTooLong
fault_of more (cut_fault.NumberTooLarge at) = faults.At at kinds.NumberTooLarge

-- a fault that comes from the bytes alone is the one that is there, and want of memory may come anywhere
abbrev pub Fails : {Y : Type 0} → CounterFault → Result Y CounterFault → Type 0
Fails faults.NoMemory there = Unit {0}
Fails (faults.At offset kind) there = there ≡ Err (faults.At offset kind)
Fails (faults.Limit w) there = there ≡ Err (faults.Limit w)
Fails faults.Missing there = ⊥
Fails faults.Read there = ⊥
