-- Signatures of a package's functions.
use Rattle.std.proofs.Common.{Bool, ◌≡◌, ℕ, suc, ◌+◌, ◌≤◌, List, [], ◌∷◌, ◌++◌, length, Option, Some, None, Ok, Err, refl, sym, ap, ◌∙◌, arith, length-append, append_assoc, append-nil}
use Rattle.go_ast.specs.declared.name.Name.{Name}
use Rattle.go_ast.specs.declared.block.VarSpec.{VarSpec}
use Rattle.go_ast.specs.declared.decl.Decl.{Decl}
use Rattle.go_ast.specs.declared.decl.Decl.TheVariants as decl
use Rattle.go_ast.specs.declared.decl.Func.{Func}
use Rattle.go_ast.specs.declared.decl.Param.{Param}
use Rattle.go_types.specs.declared.fault.Placed.{Placed}
use Rattle.go_types.specs.declared.types.ValueType.{ValueType}
use Rattle.go_types.specs.declared.names.Names.{Names}
use Rattle.go_types.specs.declared.names.Signature.{Signature}
use Rattle.go_types.specs.Names.{either}
use Rattle.go_types.specs.Statements.{type_if}
use Rattle.go_types.specs.Checking.{Checked}
use Rattle.go_packages.specs.declared.imports.FileImport.{FileImport}
use Rattle.go_packages.specs.declared.outline.Outline.{Outline}
use Rattle.go_packages.specs.Imports.{in_file}
use Rattle.go_packages.specs.Outlines.{param_types, result_types, type_written, main_fits, signature, with_signature, type_or_int, no_marks, with_variables, with_spec, with_specs, with_decl, with_decls, enters, with_files}
use Rattle.go_bounds.specs.PackageBodies.{funcs_by, funcs_of, funcs_in, Signed}
use Rattle.go_bounds.specs.Outlines.{Signs, OutlinesSign}
use Rattle.go_bounds.proofs.Sure.{Sure, sure_ok, sure_then, sure_any}

params_counted : (ps : List Param) (ns : Names) → Sure (param_types ps ns) (λ ts. length ts ≡ length ps)
params_counted [] ns = sure_ok [] refl
params_counted (p ∷ ps) ns = sure_then (sure_any (type_written p.kind ns)) (λ t q. sure_then (params_counted ps ns) (λ ts e. sure_ok (t ∷ ts) (ap suc e)))

signature_fits : (root : Bool) (f : Func) (ns : Names) → Sure (signature root f ns) (λ s. length f.params ≤ length s.params)
unfolding signature
signature_fits root f ns =
    sure_then (sure_any (main_fits root f)) (λ u q.
    sure_then (params_counted f.params ns) (λ ps e.
    sure_then (sure_any (result_types f.results ns)) (λ rs w. sure_ok _ (omega (arith, e)))))

-- ---- one behind the other

signed_both : (fs gs : List Func) (ss ts : List Signature) → length ss ≡ length fs → Signed fs ss → Signed gs ts → Signed (fs ++ gs) (ss ++ ts)
signed_both [] gs [] ts e h k = k
signed_both [] gs (s ∷ ss) ts e h k = cc
signed_both (f ∷ fs) gs [] ts e h k = absurd h
signed_both (f ∷ fs) gs (s ∷ ss) ts e h k = (h.0, signed_both fs gs ss ts (omega (arith, e)) h.1 k)

signs_then : (fs gs : List Func) (o t u : Outline) → (t.fault ≡ None → Signs fs o t) → Signs gs t u → Signs (fs ++ gs) o u
signs_then fs gs o t u f h =
    let g = f h.before in
    record {
      before = g.before;
      rest = g.rest ++ h.rest;
      signatures = h.signatures ∙ ap (λ xs. xs ++ h.rest) g.signatures ∙ append_assoc o.names.signatures g.rest h.rest;
      signed = signed_both fs gs g.rest h.rest g.count g.signed h.signed;
      count = length-append g.rest h.rest ∙ ap (λ n. n + length h.rest) g.count ∙ ap (λ n. length fs + n) h.count ∙ sym (length-append fs gs);
    }

signs_none : (o t : Outline) → t.fault ≡ o.fault → t.names.signatures ≡ o.names.signatures → t.fault ≡ None → Signs [] o t
signs_none o t e f h = record { before = sym e ∙ h; rest = []; signatures = f ∙ sym (append-nil o.names.signatures); signed = tt; count = refl }

not_none : (x : Option Placed) (p : Placed) → either x (Some p) ≡ None → ⊥
not_none None p e = cc
not_none (Some q) p e = cc

func_signs : (k : ℕ) (f : Func) (o : Outline) (r : Checked Signature) → Sure r (λ s. length f.params ≤ length s.params) → (with_signature k f.name r o).fault ≡ None → Signs (f ∷ []) o (with_signature k f.name r o)
func_signs k f o (Ok s) q h = record { before = h; rest = s ∷ []; signatures = refl; signed = (q.holds s refl, tt); count = refl }
func_signs k f o (Err e) q h = absurd (not_none o.fault (record { file = k; fault = e }) h)

abbrev Same : Outline → Outline → Type 0
Same o t = (t.fault ≡ o.fault) × (t.names.signatures ≡ o.names.signatures)

variables_same : (t : ValueType) (ns : List Name) (o : Outline) → Same o (with_variables t ns o)
variables_same t [] o = (refl, refl)
variables_same t (n ∷ ns) o = variables_same t ns _

spec_same : (v : VarSpec) (o : Outline) → Same o (with_spec v o)
unfolding with_spec
spec_same v o = variables_same (type_or_int (type_if v.kind o.names no_marks)) v.names o

specs_same : (vs : List VarSpec) (o : Outline) → Same o (with_specs vs o)
specs_same [] o = (refl, refl)
specs_same (v ∷ vs) o =
    let h = specs_same vs (with_spec v o) in
    let g = spec_same v o in
    (h.0 ∙ g.0, h.1 ∙ g.1)

decl_signs : (root : Bool) (k : ℕ) (d : Decl) (o : Outline) → (with_decl root k d o).fault ≡ None → Signs (funcs_by d) o (with_decl root k d o)
decl_signs root k (decl.Const cs) o h = signs_none o o refl refl h
decl_signs root k (decl.Var vs) o h = signs_none o (with_specs vs o) (specs_same vs o).0 (specs_same vs o).1 h
decl_signs root k (decl.Func f) o h = func_signs k f o (signature root f o.names) (signature_fits root f o.names) h

decls_sign : (root : Bool) (k : ℕ) (ds : List Decl) (o : Outline) → (with_decls root k ds o).fault ≡ None → Signs (funcs_of ds) o (with_decls root k ds o)
decls_sign root k [] o h = signs_none o o refl refl h
decls_sign root k (d ∷ ds) o h =
    signs_then (funcs_by d) (funcs_of ds) o (with_decl root k d o) (with_decls root k ds (with_decl root k d o)) (decl_signs root k d o) (decls_sign root k ds (with_decl root k d o) h)

entered_signs : (is : List FileImport) (k : ℕ) (o : Outline) → Same o (enters is k o)
unfolding in_file
entered_signs is k o = (refl, refl)

pub outlines_sign : OutlinesSign
outlines_sign root is k [] o h = signs_none o o refl refl h
outlines_sign root is k (f ∷ fs) o h =
    signs_then (funcs_of f.tree.decls) (funcs_in fs) o (with_decls root k f.tree.decls (enters is k o)) (with_files root is (k + 1) fs (with_decls root k f.tree.decls (enters is k o)))
    (λ e. signs_then [] (funcs_of f.tree.decls) o (enters is k o) (with_decls root k f.tree.decls (enters is k o)) (λ g. signs_none o (enters is k o) (entered_signs is k o).0 (entered_signs is k o).1 g) (decls_sign root k f.tree.decls (enters is k o) e))
    (outlines_sign root is (k + 1) fs (with_decls root k f.tree.decls (enters is k o)) h)
