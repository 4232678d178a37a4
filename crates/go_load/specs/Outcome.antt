-- That there is one outcome at most.
use Rattle.std.specs.Prelude.{◌≡◌, List, ℕ, Result, Ok, Err}
use Rattle.cov_outside.specs.Tree.{Tree}
use Rattle.go_ast.specs.declared.file.File.{File}
use Rattle.go_load.specs.Loading.{Loads}
use Rattle.go_load.specs.Readings.{Reading}
use Rattle.go_load.specs.Refusals.{Outcomes}
use Rattle.go_load.specs.declared.reader.ReadFault.{ReadFault}
use Rattle.go_load.specs.declared.reader.ReadFault.TheVariants as faults
use Rattle.go_load.specs.declared.refusal.LoadRefusal.{LoadRefusal}

-- two outcomes are one
abbrev pub IsSingle : {A : Type 0} → Outcomes A → Type 0
IsSingle {A} there = (r s : Result A LoadRefusal) → there r → there s → r ≡ s

-- an answer that isn't want of memory
abbrev pub IsSaid : Result File ReadFault → Type 0
IsSaid (Ok file) = Unit {0}
IsSaid (Err (faults.At offset kind)) = Unit {0}
IsSaid (Err (faults.Limit which)) = Unit {0}
IsSaid (Err faults.NoMemory) = ⊥

-- a text has one tree or one fault, where memory suffices
abbrev pub ReadsOne : Reading → Type 0
ReadsOne gives = (text : List ℕ) (a b : Result File ReadFault) → IsSaid a → IsSaid b → gives text a → gives text b → a ≡ b

-- loading a module comes to one module or one refusal
abbrev pub LoadsOne : Reading → Type 0
LoadsOne gives = (t : Tree) (dir : List ℕ) → IsSingle (Loads gives t dir)
