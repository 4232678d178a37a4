-- The signatures of a package's functions, and what the names of functions and variables mean while constants and
-- variables are checked. Go specification, "Function declarations", "Function types", "Program execution".
use Rattle.std.specs.Prelude.{ℕ, ◌+◌, nat_lt, Bool, true, false, ◌&&◌, ◌||◌, List, [], ◌∷◌, ◌++◌, length, codes, bytes_eq, Option, Some, None, Result, Ok, Err, if◌then◌else◌}
use Rattle.go_ast.specs.declared.kind.SourceKind.TheVariants.{BadName}
use Rattle.go_ast.specs.declared.name.Name.{Name}
use Rattle.go_ast.specs.declared.expr.TypeExpr.{TypeExpr}
use Rattle.go_ast.specs.declared.block.VarSpec.{VarSpec}
use Rattle.go_ast.specs.declared.decl.Decl.{Decl}
use Rattle.go_ast.specs.declared.decl.Decl.TheVariants as decl
use Rattle.go_ast.specs.declared.decl.Func.{Func}
use Rattle.go_ast.specs.declared.decl.Param.{Param}
use Rattle.go_ast.specs.declared.module.SourceFile.{SourceFile}
use Rattle.go_meaning.specs.declared.expr.Variable.TheVariants.{Global}
use Rattle.go_types.specs.declared.types.ValueType.{ValueType}
use Rattle.go_types.specs.declared.names.Binding.{Binding}
use Rattle.go_types.specs.declared.names.Callee.TheVariants as callee
use Rattle.go_types.specs.declared.names.Meaning.{Meaning}
use Rattle.go_types.specs.declared.names.Meaning.TheVariants as meaning
use Rattle.go_types.specs.declared.names.Marks.{Marks}
use Rattle.go_types.specs.declared.names.Names.{Names}
use Rattle.go_types.specs.declared.names.Signature.{Signature}
use Rattle.go_types.specs.declared.fault.Fault.{Fault}
use Rattle.go_types.specs.declared.fault.Placed.{Placed}
use Rattle.go_types.specs.declared.package_names.Declared.{Declared}
use Rattle.go_types.specs.Types as types
use Rattle.go_types.specs.Names.{either}
use Rattle.go_types.specs.Checking.{Checked, and_then, fault}
use Rattle.go_types.specs.Operands.{no_signature}
use Rattle.go_types.specs.Expressions.{type_of}
use Rattle.go_types.specs.Scopes.{is_blank}
use Rattle.go_types.specs.Statements.{type_if}
use Rattle.go_packages.specs.declared.imports.FileImport.{FileImport}
use Rattle.go_packages.specs.declared.outline.Outline.{Outline}
use Rattle.go_packages.specs.Imports.{in_file}

-- a name of the package; `_` is none
abbrev pub with_name : Name → Meaning → List Binding → List Binding
with_name n m bs = if is_blank n.text then bs else bs ++ record { name = n.text; meaning = m } ∷ []

-- no name that a package declares is a type
abbrev pub no_types : List Declared → List Binding
no_types [] = []
no_types (d ∷ ds) = if d.is_import || is_blank d.name then no_types ds else record { name = d.name; meaning = meaning.Nil } ∷ no_types ds

-- ---- signatures

abbrev pub no_marks : Marks
no_marks = record { read = []; used = [] }

abbrev pub type_written : TypeExpr → Names → Checked ValueType
type_written t ns = and_then (type_of t ns no_marks) (λ r. Ok r.0)

abbrev pub param_types : List Param → Names → Checked (List ValueType)
param_types [] ns = Ok []
param_types (p ∷ ps) ns = and_then (type_written p.kind ns) (λ t. and_then (param_types ps ns) (λ ts. Ok (t ∷ ts)))

abbrev pub result_types : List TypeExpr → Names → Checked (List ValueType)
result_types [] ns = Ok []
result_types (r ∷ rs) ns = and_then (type_written r ns) (λ t. and_then (result_types rs ns) (λ ts. Ok (t ∷ ts)))

abbrev pub is_main : List ℕ → Bool
is_main name = bytes_eq name (codes "main")

-- `main` of the root has neither parameters nor results
abbrev pub main_fits : Bool → Func → Checked (Unit {0})
main_fits root f =
    if root && (is_main f.name.text && (nat_lt 0 (length f.params) || nat_lt 0 (length f.results))) then fault f.name.at BadName else Ok tt

unfoldable pub signature : Bool → Func → Names → Checked Signature
signature root f ns =
    and_then (main_fits root f) (λ _.
    and_then (param_types f.params ns) (λ ps.
    and_then (result_types f.results ns) (λ rs.
    Ok (record { params = ps; results = rs }))))

-- ---- the outline of a package

-- a function takes the next number
abbrev pub with_function : Name → Signature → Outline → Outline
with_function n s o =
    record o { names = record o.names { signatures = o.names.signatures ++ s ∷ [] }; own = with_name n (meaning.Callee (callee.Function (length o.names.signatures))) o.own }

abbrev pub with_fault : ℕ → Fault → Outline → Outline
with_fault k f o = record o { fault = either o.fault (Some (record { file = k; fault = f })) }

-- a signature with a fault counts as one without parameters and results until the fault is met
abbrev pub with_signature : ℕ → Name → Checked Signature → Outline → Outline
with_signature k n (Ok s) o = with_function n s o
with_signature k n (Err f) o = with_fault k f (with_function n no_signature o)

abbrev pub type_or_int : Checked (Option ValueType × Marks) → ValueType
type_or_int (Ok (Some t, m)) = t
type_or_int r = types.int

abbrev pub with_variables : ValueType → List Name → Outline → Outline
with_variables t [] o = o
with_variables t (n ∷ ns) o = with_variables t ns (record o { own = with_name n (meaning.Variable (Global 0) t) o.own })

-- A variable that isn't checked so far counts as one of the type that is written, else as an `int`: a constant or an
-- initialiser that names it has a fault in any case.
unfoldable pub with_spec : VarSpec → Outline → Outline
with_spec v o = with_variables (type_or_int (type_if v.kind o.names no_marks)) v.names o

abbrev pub with_specs : List VarSpec → Outline → Outline
with_specs [] o = o
with_specs (v ∷ vs) o = with_specs vs (with_spec v o)

abbrev pub with_decl : Bool → ℕ → Decl → Outline → Outline
with_decl root k (decl.Const cs) o = o
with_decl root k (decl.Var vs) o = with_specs vs o
with_decl root k (decl.Func f) o = with_signature k f.name (signature root f o.names) o

abbrev pub with_decls : Bool → ℕ → List Decl → Outline → Outline
with_decls root k [] o = o
with_decls root k (d ∷ ds) o = with_decls root k ds (with_decl root k d o)

abbrev pub enters : List FileImport → ℕ → Outline → Outline
enters is k o = record o { names = in_file is k o.names }

abbrev pub with_files : Bool → List FileImport → ℕ → List SourceFile → Outline → Outline
with_files root is k [] o = o
with_files root is k (f ∷ fs) o = with_files root is (k + 1) fs (with_decls root k f.tree.decls (enters is k o))

-- what the files of a package outline, where its names are no types
abbrev pub outline_of : Names → List Declared → Outline
outline_of ns ds = record { names = record ns { own = no_types ds }; own = []; fault = None }
