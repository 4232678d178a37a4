-- What checking a part of a package answers: what it becomes, or the first fault and its file.
use Rattle.std.specs.Prelude.{◌≡◌, ℕ, Result, Ok, Err}
use Rattle.go_types.specs.declared.fault.Placed.{Placed}
use Rattle.go_types.specs.declared.fault.PackageRefusal.{PackageRefusal}
use Rattle.go_types.specs.declared.fault.PackageRefusal.TheVariants.{At, NoMemory}
use Rattle.go_types.specs.declared.fault.Refusal.{Refusal}
use Rattle.go_types.specs.declared.fault.Refusal.TheVariants as refusal
use Rattle.go_types.specs.Checking.{Checked}

-- a fault is in the file with a number
abbrev pub placed : {A : Type 0} → ℕ → Checked A → Result A Placed
placed k (Ok a) = Ok a
placed k (Err f) = Err (record { file = k; fault = f })

-- the second where the first has no fault
abbrev pub then_on : {A B : Type 0} → Result A Placed → (A → Result B Placed) → Result B Placed
then_on (Ok a) f = f a
then_on (Err p) f = Err p

abbrev pub refusal_in : ℕ → Refusal → PackageRefusal
refusal_in k (refusal.At f) = At (record { file = k; fault = f })
refusal_in k refusal.NoMemory = NoMemory

-- what a call makes of a state, unless memory ran out
abbrev pub Makes : {S : Type 0} → Result S Placed → Result (Unit {0}) PackageRefusal → S → Type 0
Makes checked (Ok u) new = checked ≡ Ok new
Makes checked (Err (At p)) new = checked ≡ Err p
Makes checked (Err NoMemory) new = Unit {0}

-- the same within a file
abbrev pub Turns : {S : Type 0} → Checked S → Result (Unit {0}) Refusal → S → Type 0
Turns checked (Ok u) new = checked ≡ Ok new
Turns checked (Err (refusal.At f)) new = checked ≡ Err f
Turns checked (Err refusal.NoMemory) new = Unit {0}
