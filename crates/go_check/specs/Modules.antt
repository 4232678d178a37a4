-- What checking a module answers: the parts of its program, or its first fault.
use Rattle.std.specs.Prelude.{◌≡◌, ℕ, Result, Ok, Err}
use Rattle.go_meaning.specs.Programs.{Parts}
use Rattle.go_types.specs.declared.fault.PackageRefusal.{PackageRefusal}
use Rattle.go_types.specs.declared.fault.PackageRefusal.TheVariants as package_refusal
use Rattle.go_packages.specs.Modules.{ModuleFault}
use Rattle.go_check.specs.declared.parts.ProgramParts.{ProgramParts}
use Rattle.go_check.specs.declared.refusal.CheckRefusal.{CheckRefusal}
use Rattle.go_check.specs.declared.refusal.CheckRefusal.TheVariants.{At, NoMemory}

abbrev pub refusal_in : ℕ → PackageRefusal → CheckRefusal
refusal_in n (package_refusal.At p) = At n p.file p.fault.offset p.fault.kind
refusal_in n package_refusal.NoMemory = NoMemory

-- an answer is what checking says, unless memory ran out
abbrev pub Answers : {A : Type 0} → Result A ModuleFault → Result A CheckRefusal → Type 0
Answers checked (Ok a) = checked ≡ Ok a
Answers checked (Err (At n k o kind)) = checked ≡ Err (record { number = n; file = k; offset = o; kind = kind })
Answers checked (Err NoMemory) = Unit {0}

abbrev pub parts_in : ProgramParts → Parts
parts_in p = record { packages = p.packages; functions = p.functions; lists = p.lists; globals = p.globals; units = p.units; main = p.main }

-- the same of the parts of a program
abbrev pub GivesParts : Result Parts ModuleFault → Result ProgramParts CheckRefusal → Type 0
GivesParts checked (Ok p) = checked ≡ Ok (parts_in p)
GivesParts checked (Err (At n k o kind)) = checked ≡ Err (record { number = n; file = k; offset = o; kind = kind })
GivesParts checked (Err NoMemory) = Unit {0}
