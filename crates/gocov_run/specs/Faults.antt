-- The first fault of checking a module that was loaded, by the path of its file and the place in its text.
use Rattle.std.specs.Prelude.{ℕ, List, [], take, drop, length, sum_by, Option, Some, None, Result, Ok, Err, slice_get, unwrap_or}
use Rattle.go_ast.specs.Places.{place_at}
use Rattle.go_ast.specs.declared.«module».Module.{Module}
use Rattle.go_ast.specs.declared.«module».Package.{Package}
use Rattle.go_ast.specs.declared.«module».SourceFile.{SourceFile}
use Rattle.go_load.specs.Packages.{path_in}
use Rattle.go_load.specs.declared.loaded.Loaded.{Loaded}
use Rattle.go_load.specs.declared.refusal.LoadRefusal.{LoadRefusal}
use Rattle.go_load.specs.declared.refusal.LoadRefusal.TheVariants as refusals
use Rattle.go_meaning.specs.Programs.{Parts}
use Rattle.go_packages.specs.Modules.{ModuleFault, accepted}

-- ---- the path of a file

-- that of no file is empty
abbrev pub path_of_file : List ℕ → Option SourceFile → List ℕ
path_of_file dir None = []
path_of_file dir (Some file) = path_in dir file.name

abbrev pub path_in_package : ℕ → Option Package → List ℕ
path_in_package k None = []
path_in_package k (Some p) = path_of_file p.dir (slice_get p.files k)

-- the path of the file with a number in the package with a number
abbrev pub path_of : Module → ℕ → ℕ → List ℕ
path_of m n k = path_in_package k (slice_get m.packages n)

-- ---- the text of a file

-- how many files packages have
abbrev pub files_in : List Package → ℕ
files_in packages = sum_by (λ p. length p.files) packages

-- its text: those of the files of earlier packages come first
abbrev pub text_of : Loaded → ℕ → ℕ → List ℕ
text_of l n k = unwrap_or (slice_get (drop (files_in (take n l.«module».packages)) l.texts) k) []

-- ---- checking

-- the refusal of a fault
abbrev pub refusal_of : Loaded → ModuleFault → LoadRefusal
refusal_of l fault =
    refusals.Source (path_of l.«module» fault.number fault.file) (place_at (text_of l fault.number fault.file) fault.offset) fault.kind

abbrev pub or_refusal : Loaded → Result Parts ModuleFault → Result Parts LoadRefusal
or_refusal l (Ok program) = Ok program
or_refusal l (Err fault) = Err (refusal_of l fault)

-- the program of a module that was loaded, or its first fault
abbrev pub checked : Loaded → Result Parts LoadRefusal
checked l = or_refusal l (accepted l.«module»)
