-- Where two tables, or a table and a pod, can't be put together.
use Rattle.std.specs.Prelude.{◌≡◌, ◌≢◌, Option, Some, Result, Ok, Err}
use Rattle.cov_outside.specs.declared.mode.Mode.{Mode}
use Rattle.cov_table.specs.declared.refusal.TableRefusal.{TableRefusal}
use Rattle.cov_table.specs.declared.refusal.TableRefusal.TheVariants.{ModeClash, NoMemory}

-- not both have a mode, or they have the same
abbrev pub Agree : Option Mode → Option Mode → Type 0
Agree first second = (a b : Mode) → first ≡ Some a → second ≡ Some b → a ≡ b

-- the modes of both sides are refused exactly where both have one and they differ
abbrev pub ClashesExactly : {A : Type 0} → Result A TableRefusal → Option Mode → Option Mode → Type 0
ClashesExactly (Err (ModeClash a b)) first second = (first ≡ Some a) × (second ≡ Some b) × (a ≢ b)
ClashesExactly (Err NoMemory) first second = Agree first second
ClashesExactly (Ok x) first second = Agree first second
