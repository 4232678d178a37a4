-- What the names of a package mean once its files are outlined: what is there, but for variables.
use Rattle.std.proofs.Common.{Bool, ◌≡◌, ℕ, ◌+◌, ◌≤◌, List, [], ◌∷◌, ◌++◌, length, Ok, Err, refl, ◌∙◌, arith, length-append, inl, inr}
use Rattle.std.proofs.lemmas.Slice.Eq.{bytes_eq-Decides}
use Rattle.go_ast.specs.declared.name.Name.{Name}
use Rattle.go_ast.specs.declared.block.VarSpec.{VarSpec}
use Rattle.go_ast.specs.declared.decl.Decl.{Decl}
use Rattle.go_ast.specs.declared.decl.Decl.TheVariants as decl
use Rattle.go_ast.specs.declared.module.SourceFile.{SourceFile}
use Rattle.go_meaning.specs.Programs.{Parts}
use Rattle.go_meaning.specs.declared.expr.Variable.TheVariants.{Global}
use Rattle.go_types.specs.declared.types.ValueType.{ValueType}
use Rattle.go_types.specs.declared.names.Signature.{Signature}
use Rattle.go_types.specs.declared.names.Callee.TheVariants as callee
use Rattle.go_types.specs.declared.names.Meaning.TheVariants as meaning
use Rattle.go_types.specs.Statements.{type_if}
use Rattle.go_types.specs.Operands.{no_signature}
use Rattle.go_types.specs.Checking.{Checked}
use Rattle.go_packages.specs.declared.imports.FileImport.{FileImport}
use Rattle.go_packages.specs.declared.outline.Outline.{Outline}
use Rattle.go_packages.specs.Imports.{in_file}
use Rattle.go_packages.specs.Outlines.{signature, with_function, with_signature, type_or_int, no_marks, with_variables, with_spec, with_specs, with_decl, with_decls, enters, with_files}
use Rattle.go_bounds.specs.Known.{AreBound}
use Rattle.go_bounds.proofs.PackageBodies.{imports_bound}
use Rattle.go_bounds.proofs.OwnNames.{In, in_left, in_right, Except, except_good, except_open}

-- the names of variables
abbrev pub spec_names : List VarSpec → List Name
spec_names [] = []
spec_names (v ∷ vs) = v.names ++ spec_names vs

abbrev pub vars_by : Decl → List Name
vars_by (decl.Var vs) = spec_names vs
vars_by d = []

abbrev pub vars_of : List Decl → List Name
vars_of [] = []
vars_of (d ∷ ds) = vars_by d ++ vars_of ds

abbrev pub vars_in : List SourceFile → List Name
vars_in [] = []
vars_in (f ∷ fs) = vars_of f.tree.decls ++ vars_in fs

module _ (P : Parts) (vars : List Name) where
  -- signatures are added, own names mean what is there, and other packages and the names of a file are as before
  pub record Keeps (o t : Outline) : Type 0 where
    pub longer : length o.names.signatures ≤ length t.names.signatures
    pub own : length t.names.signatures ≤ length P.functions → Except P vars o.own → Except P vars t.own
    pub packages : t.names.packages ≡ o.names.packages
    pub locals : AreBound P 0 o.names.locals → AreBound P 0 t.names.locals

  keeps_then : (o t u : Outline) → Keeps o t → Keeps t u → Keeps o u
  keeps_then o t u g h = record { longer = omega (arith, g.longer, h.longer); own = λ le e. h.own le (g.own (omega (arith, le, h.longer)) e); packages = h.packages ∙ g.packages; locals = λ l. h.locals (g.locals l) }

  keeps_refl : (o : Outline) → Keeps o o
  keeps_refl o = record { longer = omega arith; own = λ le e. e; packages = refl; locals = λ l. l }

  function_keeps : (n : Name) (s : Signature) (o : Outline) → Keeps o (with_function n s o)
  function_keeps n s o =
      let one : length (o.names.signatures ++ s ∷ []) ≡ length o.names.signatures + 1 = length-append o.names.signatures (s ∷ []) in
      record { longer = omega (arith, one); own = λ le e. except_good P vars n (meaning.Callee (callee.Function (length o.names.signatures))) o.own (omega (arith, le, one)) e; packages = refl; locals = λ l. l }

  signature_keeps : (k : ℕ) (n : Name) (r : Checked Signature) (o : Outline) → Keeps o (with_signature k n r o)
  signature_keeps k n (Ok s) o = function_keeps n s o
  signature_keeps k n (Err f) o = record { longer = (function_keeps n no_signature o).longer; own = (function_keeps n no_signature o).own; packages = refl; locals = λ l. l }

  abbrev Within : List Name → Type 0
  Within ns = (name : List ℕ) → In name ns → In name vars

  variables_keep : (t : ValueType) (ns : List Name) (o : Outline) → Within ns → Keeps o (with_variables t ns o)
  variables_keep t [] o w = keeps_refl o
  variables_keep t (n ∷ ns) o w =
      let h = variables_keep t ns _ (λ name i. w name (inr i)) in
      record { longer = h.longer; own = λ le e. h.own le (except_open P vars n (meaning.Variable (Global 0) t) o.own (w n.text (inl ((bytes_eq-Decides n.text n.text).1 refl))) e); packages = h.packages; locals = h.locals }

  spec_keeps : (v : VarSpec) (o : Outline) → Within v.names → Keeps o (with_spec v o)
  unfolding with_spec
  spec_keeps v o w = variables_keep (type_or_int (type_if v.kind o.names no_marks)) v.names o w

  specs_keep : (vs : List VarSpec) (o : Outline) → Within (spec_names vs) → Keeps o (with_specs vs o)
  specs_keep [] o w = keeps_refl o
  specs_keep (v ∷ vs) o w =
      keeps_then o (with_spec v o) (with_specs vs (with_spec v o)) (spec_keeps v o (λ name i. w name (in_left name v.names (spec_names vs) i)))
      (specs_keep vs (with_spec v o) (λ name i. w name (in_right name v.names (spec_names vs) i)))

  decl_keeps : (root : Bool) (k : ℕ) (d : Decl) (o : Outline) → Within (vars_by d) → Keeps o (with_decl root k d o)
  decl_keeps root k (decl.Const cs) o w = keeps_refl o
  decl_keeps root k (decl.Var vs) o w = specs_keep vs o w
  decl_keeps root k (decl.Func f) o w = signature_keeps k f.name (signature root f o.names) o

  decls_keep : (root : Bool) (k : ℕ) (ds : List Decl) (o : Outline) → Within (vars_of ds) → Keeps o (with_decls root k ds o)
  decls_keep root k [] o w = keeps_refl o
  decls_keep root k (d ∷ ds) o w =
      keeps_then o (with_decl root k d o) (with_decls root k ds (with_decl root k d o)) (decl_keeps root k d o (λ name i. w name (in_left name (vars_by d) (vars_of ds) i)))
      (decls_keep root k ds (with_decl root k d o) (λ name i. w name (in_right name (vars_by d) (vars_of ds) i)))

  entered_keeps : (is : List FileImport) (k : ℕ) (o : Outline) → Keeps o (enters is k o)
  unfolding in_file
  entered_keeps is k o = record { longer = omega arith; own = λ le e. e; packages = refl; locals = λ l. imports_bound P k 0 is }

  pub files_keep : (root : Bool) (is : List FileImport) (k : ℕ) (fs : List SourceFile) (o : Outline) → Within (vars_in fs) → Keeps o (with_files root is k fs o)
  files_keep root is k [] o w = keeps_refl o
  files_keep root is k (f ∷ fs) o w =
      let t = with_decls root k f.tree.decls (enters is k o) in
      keeps_then o t (with_files root is (k + 1) fs t)
      (keeps_then o (enters is k o) t (entered_keeps is k o) (decls_keep root k f.tree.decls (enters is k o) (λ name i. w name (in_left name (vars_of f.tree.decls) (vars_in fs) i))))
      (files_keep root is (k + 1) fs t (λ name i. w name (in_right name (vars_of f.tree.decls) (vars_in fs) i)))
