-- The names that packages declare. Go specification, "Packages", "Import declarations", "Declarations and scope".
use Rattle.std.specs.Prelude.{◌≡◌, ℕ, ◌+◌, ◌==◌, Bool, true, false, not, ◌&&◌, ◌||◌, List, [], ◌∷◌, ◌++◌, length, map, flat_map, position, codes, bytes_eq, slice_get, Option, Some, None, unwrap_or, Result, Ok, Err, if◌then◌else◌}
use Rattle.std.specs.List.{list_any}
use Rattle.std.specs.Option.{option_map_or}
use Rattle.go_ast.specs.declared.kind.SourceKind.{SourceKind}
use Rattle.go_ast.specs.declared.kind.SourceKind.TheVariants as source
use Rattle.go_ast.specs.declared.name.Name.{Name}
use Rattle.go_ast.specs.declared.file.File.{File}
use Rattle.go_ast.specs.declared.file.Import.{Import}
use Rattle.go_ast.specs.declared.module.Package.{Package}
use Rattle.go_ast.specs.declared.module.SourceFile.{SourceFile}
use Rattle.go_ast.specs.declared.decl.Decl.{Decl}
use Rattle.go_ast.specs.declared.decl.Decl.TheVariants as decl
use Rattle.go_ast.specs.declared.block.ConstSpec.{ConstSpec}
use Rattle.go_ast.specs.declared.block.VarSpec.{VarSpec}
use Rattle.go_types.specs.declared.names.Standard.{Standard}
use Rattle.go_types.specs.declared.names.Standard.TheVariants.{Fmt, Os, Strconv, Sync}
use Rattle.go_types.specs.declared.names.Imported.{Imported}
use Rattle.go_types.specs.declared.names.Imported.TheVariants as imported
use Rattle.go_types.specs.declared.fault.Placed.{Placed}
use Rattle.go_types.specs.declared.fault.PackageRefusal.{PackageRefusal}
use Rattle.go_types.specs.declared.fault.PackageRefusal.TheVariants.{At, NoMemory}
use Rattle.go_types.specs.declared.package_names.Declared.{Declared}
use Rattle.go_types.specs.Scopes.{is_blank}

-- an answer is what checking a package says, unless memory ran out
abbrev pub Tells : {A : Type 0} → Result A Placed → Result A PackageRefusal → Type 0
Tells checked (Ok a) = checked ≡ Ok a
Tells checked (Err (At p)) = checked ≡ Err p
Tells checked (Err NoMemory) = Unit {0}

-- ---- imports

-- the package of Go's standard library with a path
abbrev pub standard_of : List ℕ → Option Standard
standard_of path =
    if bytes_eq path (codes "fmt") then Some Fmt
    else (if bytes_eq path (codes "os") then Some Os
    else (if bytes_eq path (codes "strconv") then Some Strconv
    else (if bytes_eq path (codes "sync") then Some Sync else None)))

-- the number of the package with a path, among those before
abbrev pub package_at : List Package → List ℕ → Option ℕ
package_at before path = position (λ (p : Package). bytes_eq p.path path) before

abbrev pub imported_from : List Package → List ℕ → Option Standard → Imported
imported_from before path (Some s) = imported.Standard s
imported_from before path None = imported.Package (unwrap_or (package_at before path) (length before))

-- what a path imports
abbrev pub imported_of : List Package → List ℕ → Imported
imported_of before path = imported_from before path (standard_of path)

abbrev pub name_of : List Package → List ℕ → Imported → List ℕ
name_of before path (imported.Standard s) = path
name_of before path (imported.Package k) = option_map_or (λ (p : Package). p.name) (slice_get before k) []

-- the name that an import declares: of the standard library the path, else the name that the package's files give
abbrev pub import_name : List Package → List ℕ → List ℕ
import_name before path = name_of before path (imported_of before path)

-- ---- what the files of a package declare

abbrev pub declared_import : List Package → ℕ → Import → Declared
declared_import before k i = record { name = import_name before i.path; at = i.at; file = k; is_import = true; is_init = false }

abbrev pub declared_name : ℕ → Name → Declared
declared_name k n = record { name = n.text; at = n.at; file = k; is_import = false; is_init = false }

abbrev pub declared_function : ℕ → Name → Declared
declared_function k n = record (declared_name k n) { is_init = bytes_eq n.text (codes "init") }

abbrev pub declared_const : ℕ → ConstSpec → Declared
declared_const k c = declared_name k c.name

abbrev pub declared_vars : ℕ → VarSpec → List Declared
declared_vars k v = map (declared_name k) v.names

abbrev pub declared_by : ℕ → Decl → List Declared
declared_by k (decl.Const cs) = map (declared_const k) cs
declared_by k (decl.Var vs) = flat_map (declared_vars k) vs
declared_by k (decl.Func f) = declared_function k f.name ∷ []

abbrev pub declared_in_file : List Package → ℕ → File → List Declared
declared_in_file before k f = map (declared_import before k) f.imports ++ flat_map (declared_by k) f.decls

-- from the file with a number on
abbrev pub declared_from : List Package → ℕ → List SourceFile → List Declared
declared_from before k [] = []
declared_from before k (f ∷ fs) = declared_in_file before k f.tree ++ declared_from before (k + 1) fs

-- Two equal names clash, but for the imports of two files. The blank identifier declares nothing.
abbrev pub clash : Declared → Declared → Bool
clash a b = bytes_eq a.name b.name && not (is_blank a.name) && (not (a.is_import && b.is_import) || a.file == b.file)

abbrev pub placed : Declared → SourceKind → Placed
placed d kind = record { file = d.file; fault = record { offset = d.at; kind = kind } }

-- a name that clashes with an earlier one, or a function `init`
abbrev pub name_fault : List Declared → Declared → Result (Unit {0}) Placed
name_fault before d =
    if list_any (clash d) before then Err (placed d source.Redeclared)
    else (if d.is_init then Err (placed d source.BadName) else Ok tt)

abbrev pub if_named : Result (Unit {0}) Placed → Result (Unit {0}) Placed → Result (Unit {0}) Placed
if_named (Ok u) rest = rest
if_named (Err p) rest = Err p

-- the first fault of names that stand behind others
abbrev pub names_fault : List Declared → List Declared → Result (Unit {0}) Placed
names_fault before [] = Ok tt
names_fault before (d ∷ ds) = if_named (name_fault before d) (names_fault (before ++ d ∷ []) ds)
