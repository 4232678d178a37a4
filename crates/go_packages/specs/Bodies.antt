-- The bodies of a package's functions, by file and declaration. Counters of a file follow those of the files before. Go
-- specification, "Function declarations".
use Rattle.std.specs.Prelude.{ℕ, ◌+◌, List, [], ◌∷◌, ◌++◌, length, Result, Ok, Err}
use Rattle.go_ast.specs.declared.decl.Decl.{Decl}
use Rattle.go_ast.specs.declared.decl.Decl.TheVariants as decl
use Rattle.go_ast.specs.declared.decl.Func.{Func}
use Rattle.go_ast.specs.declared.module.SourceFile.{SourceFile}
use Rattle.go_types.specs.declared.walk.Walk.{Walk}
use Rattle.go_types.specs.declared.fault.Placed.{Placed}
use Rattle.go_types.specs.Checking.{Checked, and_then}
use Rattle.go_bodies.specs.Functions.{function}
use Rattle.go_packages.specs.declared.imports.FileImport.{FileImport}
use Rattle.go_packages.specs.declared.bodies.Bodies.{Bodies}
use Rattle.go_packages.specs.Placing.{placed, then_on}
use Rattle.go_packages.specs.Imports.{in_file}

-- functions are numbered in order
unfoldable pub with_body : Func → Bodies → Checked Bodies
with_body f s = and_then (function f (length s.functions) s.walk) (λ r. Ok (record { walk = r.1; functions = s.functions ++ r.0 ∷ [] }))

abbrev pub with_decl : ℕ → Decl → Bodies → Result Bodies Placed
with_decl k (decl.Const cs) s = Ok s
with_decl k (decl.Var vs) s = Ok s
with_decl k (decl.Func f) s = placed k (with_body f s)

abbrev pub with_decls : ℕ → List Decl → Bodies → Result Bodies Placed
with_decls k [] s = Ok s
with_decls k (d ∷ ds) s = then_on (with_decl k d s) (λ t. with_decls k ds t)

abbrev pub enters : List FileImport → ℕ → Bodies → Bodies
enters is k s = record s { walk = record s.walk { names = in_file is k s.walk.names } }

-- the counters of a file are units
abbrev pub counted : ℕ → Bodies → Bodies
counted n s = record s { walk = record s.walk { first_unit = s.walk.first_unit + n } }

abbrev pub with_files : List FileImport → ℕ → List SourceFile → Bodies → Result Bodies Placed
with_files is k [] s = Ok s
with_files is k (f ∷ fs) s = then_on (with_decls k f.tree.decls (enters is k s)) (λ t. with_files is (k + 1) fs (counted f.tree.counts t))
