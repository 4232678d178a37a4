-- What a call on a file of the outside answers.
use Rattle.std.specs.Prelude.{◌≡◌, ℕ, List, Option, Some, None, Result, Ok, Err}
use Rattle.cov_outside.specs.Faults.{Count, Rose}
use Rattle.cov_counter.specs.declared.fault.CounterFault.{CounterFault}
use Rattle.cov_counter.specs.declared.fault.CounterFault.TheVariants as faults
use Rattle.cov_counter.specs.File.{Known, known}

-- what may be read at a path
abbrev pub file_at : Option (List ℕ) → Result Known CounterFault
file_at None = Err faults.Missing
file_at (Some content) = Ok (known content)

-- A fault that the file decides is the one that is there. A read may fail anywhere, and memory may run out anywhere.
abbrev pub IsFaultOf : {Y : Type 0} → CounterFault → Result Y CounterFault → Type 0
IsFaultOf (faults.At offset kind) there = there ≡ Err (faults.At offset kind)
IsFaultOf (faults.Limit w) there = there ≡ Err (faults.Limit w)
IsFaultOf faults.Missing there = there ≡ Err faults.Missing
IsFaultOf faults.Read there = Unit {0}
IsFaultOf faults.NoMemory there = Unit {0}

-- what a call answered is what there is
abbrev pub Answers : {X : Type 0} → Result X CounterFault → Result X CounterFault → Type 0
Answers (Ok x) there = there ≡ Ok x
Answers (Err e) there = IsFaultOf e there

-- the count rose where a read failed, and is as before at every other answer
abbrev pub CountsRead : {X : Type 0} → Count → Count → Result X CounterFault → Type 0
CountsRead before now (Ok x) = now ≡ before
CountsRead before now (Err (faults.At offset kind)) = now ≡ before
CountsRead before now (Err (faults.Limit w)) = now ≡ before
CountsRead before now (Err faults.Missing) = now ≡ before
CountsRead before now (Err faults.Read) = Rose before now
CountsRead before now (Err faults.NoMemory) = now ≡ before
