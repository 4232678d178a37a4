-- Modules that are accepted are programs.
use Rattle.std.specs.Prelude.{◌≡◌, ◌<◌, length, Ok}
use Rattle.go_ast.specs.declared.module.Module.{Module}
use Rattle.go_ast.specs.declared.module.Package.{Package}
use Rattle.go_ast.specs.declared.«module».SourceFile.{SourceFile}
use Rattle.go_grammar.specs.Sound.{IsSound}
use Rattle.go_meaning.specs.Programs.{Parts}
use Rattle.go_meaning.specs.WellFormed.{IsProgram}
use Rattle.go_packages.specs.Modules.{accepted}
use Rattle.go_bounds.specs.Known.{Each}
use Rattle.go_bounds.specs.PackageBodies.{FileSized}

abbrev pub PackageSized : Package → Type 0
PackageSized p = Each FileSized p.files

-- each counter in a file is one of the file's, and no `select` has more than 1,000 clauses
abbrev pub IsSized : Module → Type 0
IsSized m = Each PackageSized m.packages

-- What a module with a root is accepted as is a program.
abbrev pub ModulesMakePrograms : Type 0
ModulesMakePrograms = (m : Module) (P : Parts) → IsSized m → 0 < length m.packages → accepted m ≡ Ok P → IsProgram P

-- the files of a module are sound
abbrev pub HasSoundFiles : Module → Type 0
HasSoundFiles m = Each (λ (p : Package). Each (λ (f : SourceFile). IsSound f.tree) p.files) m.packages

-- What is read is sized.
abbrev pub SoundModulesAreSized : Type 0
SoundModulesAreSized = (m : Module) → HasSoundFiles m → IsSized m
