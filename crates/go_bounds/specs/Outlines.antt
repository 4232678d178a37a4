-- The signatures of a package's functions, as its files outline them.
use Rattle.std.specs.Prelude.{◌≡◌, ℕ, List, ◌++◌, length, Bool, None}
use Rattle.go_ast.specs.declared.decl.Func.{Func}
use Rattle.go_ast.specs.declared.module.SourceFile.{SourceFile}
use Rattle.go_types.specs.declared.names.Signature.{Signature}
use Rattle.go_packages.specs.declared.imports.FileImport.{FileImport}
use Rattle.go_packages.specs.declared.outline.Outline.{Outline}
use Rattle.go_packages.specs.Outlines.{with_files}
use Rattle.go_bounds.specs.PackageBodies.{Signed, funcs_in}

-- signatures of functions, one for each, behind those before
pub record Signs (fs : List Func) (o t : Outline) : Type 0 where
  pub before : o.fault ≡ None
  pub rest : List Signature
  pub signatures : t.names.signatures ≡ o.names.signatures ++ rest
  pub signed : Signed fs rest
  pub count : length rest ≡ length fs

-- Where no signature has a fault, the functions of files have theirs, in order.
abbrev pub OutlinesSign : Type 0
OutlinesSign =
    (root : Bool) (is : List FileImport) (k : ℕ) (fs : List SourceFile) (o : Outline) → (with_files root is k fs o).fault ≡ None → Signs (funcs_in fs) o (with_files root is k fs o)
