-- What the reader of files answers.
use Rattle.std.specs.Prelude.{◌≡◌, ◌⊎◌, ℕ, ◌-◌, ◌≤◌, ◌<◌, List, length, Result, Ok, Err}
use Rattle.go_ast.specs.declared.file.File.{File}
use Rattle.go_grammar.specs.Words.{Word}
use Rattle.go_grammar.specs.declared.form.Form.{Form}
use Rattle.go_grammar.specs.Files.{SpellsWithin, Spells}
use Rattle.go_grammar.specs.Verdicts.{IsUnexpected, IsTooDeep, IsTooMany}
use Rattle.go_reading.specs.declared.fault.Fault.{Fault}
use Rattle.go_reading.specs.declared.fault.Fault.TheVariants.{Unexpected, TooDeep, TooMany, Exhausted}
use Rattle.go_reading.specs.Input.{Tall}
use Rattle.go_reading.specs.Files.{file}

-- the fault stands at token i
abbrev pub IsFaultAt : Form → (most depth : ℕ) → List Word → ℕ → Fault → Type 0
IsFaultAt form most depth ts i Unexpected = IsUnexpected form most depth ts i
IsFaultAt form most depth ts i TooDeep = IsTooDeep form most depth ts i
IsFaultAt form most depth ts i TooMany = IsTooMany form most depth ts i
IsFaultAt form most depth ts i Exhausted = ⊥

-- a file that all the tokens spell, or the fault at the first token that is left
abbrev pub IsOutcome : Form → (most depth : ℕ) → List Word → Result (Tall File) Fault → List Word → Type 0
IsOutcome form most depth ts (Ok x) rest = SpellsWithin form most depth x.0 ts
IsOutcome form most depth ts (Err f) rest = (length rest ≤ length ts) × IsFaultAt form most depth ts (length ts - length rest) f

-- with more turns than tokens the reader of files finds the tree or the first fault
abbrev pub ReadsFiles : Form → Type 0
ReadsFiles form = (turns most depth : ℕ) (ts : List Word) → 1 ≤ depth → length ts < turns → IsOutcome form most depth ts (file form turns most depth ts).0 (file form turns most depth ts).1

-- tokens spell at most one file
abbrev pub SpellsOne : Form → Type 0
SpellsOne form = (ts : List Word) (x y : File) → Spells form x ts → Spells form y ts → x ≡ y

-- within limits tokens spell a file, or have a first fault
abbrev pub TreeOrFault : Form → Type 0
TreeOrFault form = (most depth : ℕ) (ts : List Word) → 1 ≤ depth → ((file : File) × SpellsWithin form most depth file ts) ⊎ ((i : ℕ) × (f : Fault) × IsFaultAt form most depth ts i f)

-- never both
abbrev pub TreeHasNoFault : Form → Type 0
TreeHasNoFault form = (most depth i : ℕ) (ts : List Word) (file : File) (f : Fault) → SpellsWithin form most depth file ts → IsFaultAt form most depth ts i f → ⊥

-- and one fault alone
abbrev pub OneFault : Form → Type 0
OneFault form = (most depth i j : ℕ) (ts : List Word) (f g : Fault) → IsFaultAt form most depth ts i f → IsFaultAt form most depth ts j g → (i ≡ j) × (f ≡ g)
