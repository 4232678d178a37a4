-- What the files of a package import. Go specification, "Import declarations", "Declarations and scope".
use Rattle.std.specs.Prelude.{ℕ, ◌+◌, ◌==◌, Bool, true, false, not, ◌&&◌, List, [], ◌∷◌, ◌++◌, map, Result, Ok, Err, if◌then◌else◌}
use Rattle.go_ast.specs.declared.kind.SourceKind.TheVariants.{UnusedImport}
use Rattle.go_ast.specs.declared.file.Import.{Import}
use Rattle.go_ast.specs.declared.module.Package.{Package}
use Rattle.go_ast.specs.declared.module.SourceFile.{SourceFile}
use Rattle.go_types.specs.declared.names.Binding.{Binding}
use Rattle.go_types.specs.declared.names.Imported.{Imported}
use Rattle.go_types.specs.declared.names.Meaning.TheVariants as meaning
use Rattle.go_types.specs.declared.names.Names.{Names}
use Rattle.go_types.specs.declared.fault.Placed.{Placed}
use Rattle.go_types.specs.Scopes.{is_blank}
use Rattle.go_types.specs.Packages.{imported_of, import_name}
use Rattle.go_packages.specs.declared.imports.FileImport.{FileImport}

abbrev pub file_import : List Package → ℕ → Import → FileImport
file_import before k i = record { name = import_name before i.path; at = i.at; file = k; of = imported_of before i.path }

-- the imports of a package by file and offset, from the file with a number on
abbrev pub imports_from : List Package → ℕ → List SourceFile → List FileImport
imports_from before k [] = []
imports_from before k (f ∷ fs) = map (file_import before k) f.tree.imports ++ imports_from before (k + 1) fs

abbrev pub imported : List FileImport → List Imported
imported is = map (λ (i : FileImport). i.of) is

abbrev pub none_used : List FileImport → List Bool
none_used is = map (λ (i : FileImport). false) is

abbrev pub is_named_in : ℕ → FileImport → Bool
is_named_in k i = i.file == k && not (is_blank i.name)

-- The names that the imports of a file declare. Imports are numbered in the whole package.
abbrev pub import_names : ℕ → ℕ → List FileImport → List Binding
import_names k n [] = []
import_names k n (i ∷ is) =
    if is_named_in k i then record { name = i.name; meaning = meaning.Import n } ∷ import_names k (n + 1) is else import_names k (n + 1) is

-- the names at the top of a file
unfoldable pub in_file : List FileImport → ℕ → Names → Names
in_file is k ns = record ns { locals = import_names k 0 is }

abbrev pub unused : FileImport → Placed
unused i = record { file = i.file; fault = record { offset = i.at; kind = UnusedImport } }

-- the first import that isn't used
abbrev pub unused_import : List Bool → List FileImport → Result (Unit {0}) Placed
unused_import [] is = Ok tt
unused_import (u ∷ us) [] = Ok tt
unused_import (u ∷ us) (i ∷ is) = if u then unused_import us is else Err (unused i)
