-- What reading a source may answer.
use Rattle.std.specs.Prelude.{ℕ, ◌≤◌, List, Result}
use Rattle.go_ast.specs.declared.file.File.{File}
use Rattle.go_load.specs.declared.reader.ReadFault.{ReadFault}
use Rattle.go_load.specs.declared.reader.ReadFault.TheVariants as faults

-- the offset of a fault is one of the text, or its length
abbrev pub IsWithin : ReadFault → ℕ → Type 0
IsWithin (faults.At offset kind) n = offset ≤ n
IsWithin (faults.Limit which) n = Unit {0}
IsWithin faults.NoMemory n = Unit {0}

-- which tree or fault a text has
abbrev pub Reading : Type 1
Reading = List ℕ → Result File ReadFault → Type 0
