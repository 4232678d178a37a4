-- Reading a whole file.
use Rattle.std.specs.Prelude.{◌≡◌, ℕ, List, length, Option, Some, None, Result, Ok, Err, nat_lt, if◌then◌else◌}
use Rattle.cov_outside.specs.Faults.{Rose, Count}
use Rattle.cov_outside.specs.declared.whole.WholeFault.{WholeFault}
use Rattle.cov_outside.specs.declared.whole.WholeFault.TheVariants as faults

-- what there is to read at a path: its bytes, at most limit of them
abbrev pub whole_file : ℕ → Option (List ℕ) → Result (List ℕ) WholeFault
whole_file limit None = Err faults.Missing
whole_file limit (Some bytes) = if nat_lt limit (length bytes) then Err faults.Limit else Ok bytes

-- What a call answered, seen by view, is what there is, unless a read failed or memory ran out.
abbrev pub Finds : {X Y : Type 0} → (X → Y) → Result X WholeFault → Result Y WholeFault → Type 0
Finds view (Ok x) there = there ≡ Ok (view x)
Finds view (Err faults.Missing) there = there ≡ Err faults.Missing
Finds view (Err faults.Limit) there = there ≡ Err faults.Limit
Finds view (Err faults.Read) there = Unit {0}
Finds view (Err faults.NoMemory) there = Unit {0}

-- the count rose where a read failed, and is as before at every other answer
abbrev pub CountsRead : {X : Type 0} → Count → Count → Result X WholeFault → Type 0
CountsRead before now (Ok x) = now ≡ before
CountsRead before now (Err faults.Missing) = now ≡ before
CountsRead before now (Err faults.Limit) = now ≡ before
CountsRead before now (Err faults.Read) = Rose before now
CountsRead before now (Err faults.NoMemory) = now ≡ before
