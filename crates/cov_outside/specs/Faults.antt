-- Counts of faults, and what a call does to them.
use Rattle.std.specs.Prelude.{◌≡◌, ℕ, ◌+◌, ◌-◌, ◌^◌, ◌≤◌, min, List, length, take, Option, Result, Ok, Err}
use Rattle.std.specs.Io.KnownBytes.{append_known}
use Rattle.cov_outside.specs.declared.fault.FilesFault.{FilesFault}
use Rattle.cov_outside.specs.declared.fault.FilesFault.TheVariants as files_fault

-- how often an object has failed, or that it never does
pub data Count : Type 0 where
  never : Count
  times : ℕ → Count

-- a count rose: it is greater, or stands at its end
pub record Grown (before now : ℕ) : Type 0 where
  pub later : before ≤ now
  pub risen : min (before + 1) (2 ^ 64 - 1) ≤ now

abbrev pub Rose : Count → Count → Type 0
Rose never now = ⊥
Rose (times a) never = ⊥
Rose (times a) (times b) = Grown a b

-- the count rose where the call failed, and is as before at every other answer
abbrev pub Counts : {T : Type 0} → Count → Count → Result T FilesFault → Type 0
Counts before now (Ok x) = now ≡ before
Counts before now (Err files_fault.Failed) = Rose before now
Counts before now (Err files_fault.NoMemory) = now ≡ before

-- the same for a call whose only error is that it failed
abbrev pub CountsAny : {T E : Type 0} → Count → Count → Result T E → Type 0
CountsAny before now (Ok x) = now ≡ before
CountsAny before now (Err e) = Rose before now

-- the bytes grew by a front of the text
abbrev pub HasPrefix : Option (List ℕ) → Option (List ℕ) → List ℕ → Type 0
HasPrefix old new text = (n : ℕ) × (n ≤ length text) × (new ≡ append_known old (take n text))
