-- What the bodies of a package add.
use Rattle.std.proofs.Common.{Bool, true, false, cond, add-zero, ◌≡◌, ℕ, zero, suc, ◌+◌, ◌<◌, ◌≤◌, List, [], ◌∷◌, ◌++◌, length, drop, refl, sym, ap, ◌∙◌, subst, arith, length-append}
use Rattle.std.specs.Prelude.{flat_map, slice_get, slice_index_or}
use Rattle.std.specs.Option.{option_map_or}
use Rattle.go_ast.specs.declared.block.Block.{out-Block}
use Rattle.go_ast.specs.declared.decl.Decl.{Decl}
use Rattle.go_ast.specs.declared.decl.Decl.TheVariants as decl
use Rattle.go_ast.specs.declared.decl.Func.{Func}
use Rattle.go_ast.specs.declared.module.SourceFile.{SourceFile}
use Rattle.go_meaning.specs.declared.program.Function.{Function}
use Rattle.go_meaning.specs.Programs.{Parts}
use Rattle.go_meaning.specs.Lists.{one, within}
use Rattle.go_types.specs.declared.names.Signature.{Signature}
use Rattle.go_types.specs.declared.names.Names.{Names}
use Rattle.go_types.specs.declared.walk.Walk.{Walk}
use Rattle.go_packages.specs.declared.imports.FileImport.{FileImport}
use Rattle.go_packages.specs.declared.bodies.Bodies.{Bodies}
use Rattle.go_packages.specs.Imports.{import_names, in_file, is_named_in}
use Rattle.go_packages.specs.Bodies.{with_body, with_decl, with_decls, enters, counted, with_files}
use Rattle.go_bounds.specs.Known.{Each, AreBound, AreKnown}
use Rattle.go_bounds.specs.Trees.{Held, counter, clauses, held, AreFit}
use Rattle.go_types.specs.declared.names.Meaning.TheVariants as meaning
use Rattle.go_bounds.specs.Pieces.{Stand, Holds, Adds, FunctionsStand}
use Rattle.go_bounds.specs.Laws.{FunctionAdds}
use Rattle.go_bounds.specs.PackageBodies.{funcs_by, funcs_of, funcs_in, Signed, Sits, Grows, Sized, DeclSized, FileSized, DeclFits, counts_of, PackageBodiesStand, BodiesSit}
use Rattle.go_bounds.proofs.Sure.{Sure, sure_ok, sure_then}
use Rattle.go_bounds.proofs.Placed.{Surely, surely_ok, surely_then, surely_placed, surely_more}
use Rattle.go_bounds.proofs.Functions.{functions_add}

-- ---- signatures that have the parameters of functions

signed_left : (fs gs : List Func) (ss : List Signature) → Signed (fs ++ gs) ss → Signed fs ss
signed_left [] gs ss h = tt
signed_left (f ∷ fs) gs [] h = h
signed_left (f ∷ fs) gs (s ∷ ss) h = (h.0, signed_left fs gs ss h.1)

signed_here : (f : Func) (fs : List Func) (ss : List Signature) (n : ℕ) → Signed (f ∷ fs) (drop n ss) → length f.params ≤ length (option_map_or (λ (g : Signature). g.params) (slice_get ss n) [])
signed_here f fs [] zero h = absurd h
signed_here f fs [] (suc n) h = absurd h
signed_here f fs (s ∷ ss) zero h = h.0
signed_here f fs (s ∷ ss) (suc n) h = signed_here f fs ss n h

signed_next : (f : Func) (fs : List Func) (ss : List Signature) (n : ℕ) → Signed (f ∷ fs) (drop n ss) → Signed fs (drop (suc n) ss)
signed_next f fs [] zero h = absurd h
signed_next f fs [] (suc n) h = absurd h
signed_next f fs (s ∷ ss) zero h = h.1
signed_next f fs (s ∷ ss) (suc n) h = signed_next f fs ss n h

-- ---- adding

pub adds_refl : (s : Walk) → Adds s s
adds_refl s = record { longer = omega arith; kept = λ n lt. refl; unit = refl }

module _ (P : Parts) where
  pub holds_before : (from : ℕ) (s t : Walk) → length s.lists ≤ length t.lists → ((n : ℕ) → n < length s.lists → slice_index_or t.lists n [] ≡ slice_index_or s.lists n []) → Holds P from t → Holds P from s
  holds_before from s t le kept h = record { bound = omega (arith, h.bound); lists = λ n p q. h.lists n p (omega arith) ∙ kept n q }

  pub functions_more : (fs : List Function) (a b c : ℕ) (f : Function) → FunctionsStand P a fs b → f.params ≤ f.slots
      → Stand P f.slots b (one (within P (length P.lists)) 0 f.body) c → FunctionsStand P a (fs ++ f ∷ []) c
  functions_more [] a b c f h p k = (c, p, subst (λ n. Stand P f.slots n (one (within P (length P.lists)) 0 f.body) c) (sym h) k, refl)
  functions_more (g ∷ gs) a b c f h p k = (h.0, h.1, h.2, functions_more gs h.0 b c f h.3 p k)

  grows_trans : (m n k : ℕ) (s t u : Bodies) → k ≡ m + n → Grows m s t → Grows n t u → Grows k s u
  grows_trans m n k s t u e g h = record {
    longer = omega (arith, g.longer, h.longer);
    kept = λ i lt. h.kept i (omega (arith, g.longer)) ∙ g.kept i lt;
    signatures = h.signatures ∙ g.signatures;
    own = h.own ∙ g.own;
    packages = h.packages ∙ g.packages;
    functions = omega (arith, g.functions, h.functions);
  }

  abbrev Done : ℕ → Bodies → Bodies → Type 0
  Done count s t = Sits P t × Grows count s t × (t.walk.first_unit ≡ s.walk.first_unit)

  body_made : (f : Func) (fs : List Func) (s : Bodies) → Sits P s → Signed (f ∷ fs) (drop (length s.functions) s.walk.names.signatures) → AreFit P s.walk.first_unit (flat_map held (out-Block f.body).list) → Sure (with_body f s) (Done 1 s)
  unfolding with_body
  body_made f fs s sits signed fit =
      sure_then {Q = λ r. FunctionAdds P s.walk r.0 r.1} (record { holds = λ r e. functions_add P f (length s.functions) s.walk r sits.known (signed_here f fs s.walk.names.signatures (length s.functions) signed) fit e }) (λ r a.
      sure_ok _ (
        record {
          known = subst (AreKnown P 0) (sym a.names) sits.known;
          stand = λ h. functions_more s.functions 0 (length s.walk.lists) (length r.1.lists) r.0 (sits.stand (holds_before 0 s.walk r.1 a.adds.longer a.adds.kept h)) a.params (a.stands (record { bound = h.bound; lists = λ n p q. h.lists n (omega arith) q }));
        },
        record {
          longer = a.adds.longer;
          kept = a.adds.kept;
          signatures = ap (λ (n : Names). n.signatures) a.names;
          own = ap (λ (n : Names). n.own) a.names;
          packages = ap (λ (n : Names). n.packages) a.names;
          functions = length-append s.functions (r.0 ∷ []);
        },
        a.adds.unit,
      ))

  none_made : (s : Bodies) → Sits P s → Done 0 s s
  none_made s sits = (sits, record { longer = omega arith; kept = λ n lt. refl; signatures = refl; own = refl; packages = refl; functions = omega arith }, refl)

  decl_made : (k : ℕ) (d : Decl) (s : Bodies) → Sits P s → Signed (funcs_by d) (drop (length s.functions) s.walk.names.signatures) → DeclFits P s.walk.first_unit d → Surely (with_decl k d s) (Done (length (funcs_by d)) s)
  decl_made k (decl.Const cs) s sits signed fit = surely_ok s (none_made s sits)
  decl_made k (decl.Var vs) s sits signed fit = surely_ok s (none_made s sits)
  decl_made k (decl.Func f) s sits signed fit = surely_placed k (with_body f s) (body_made f [] s sits signed fit)

  signed_right : (fs gs : List Func) (ss : List Signature) (n : ℕ) → Signed (fs ++ gs) (drop n ss) → Signed gs (drop (n + length fs) ss)
  signed_right [] gs ss n h = subst (λ k. Signed gs (drop k ss)) (sym (add-zero n)) h
  signed_right (f ∷ fs) gs ss n h =
      let same : suc n + length fs ≡ n + suc (length fs) = omega arith in
      subst (λ k. Signed gs (drop k ss)) same (signed_right fs gs ss (suc n) (signed_next f (fs ++ gs) ss n h))

  length_funcs : (fs gs : List Func) → length (fs ++ gs) ≡ length fs + length gs
  length_funcs fs gs = length-append fs gs

  -- how many functions there are decides which signature is next
  signed_at : (fs : List Func) (m n : ℕ) (ss ts : List Signature) → m ≡ n → ss ≡ ts → Signed fs (drop m ss) → Signed fs (drop n ts)
  signed_at fs m n ss ts e f h = subst (λ k. Signed fs (drop k ts)) e (subst (λ xs. Signed fs (drop m xs)) f h)

  abbrev DeclsFit : ℕ → List Decl → Type 0
  DeclsFit first ds = Each (DeclFits P first) ds

  decls_made : (k : ℕ) (ds : List Decl) (s : Bodies) → Sits P s → Signed (funcs_of ds) (drop (length s.functions) s.walk.names.signatures) → DeclsFit s.walk.first_unit ds → Surely (with_decls k ds s) (Done (length (funcs_of ds)) s)
  decls_made k [] s sits signed fit = surely_ok s (none_made s sits)
  decls_made k (d ∷ ds) s sits signed fit =
      surely_then (decl_made k d s sits (signed_left (funcs_by d) (funcs_of ds) (drop (length s.functions) s.walk.names.signatures) signed) fit.0) (λ t q.
      surely_more (decls_made k ds t q.0
      (signed_at (funcs_of ds) (length s.functions + length (funcs_by d)) (length t.functions) s.walk.names.signatures t.walk.names.signatures (sym q.1.functions) (sym q.1.signatures) (signed_right (funcs_by d) (funcs_of ds) s.walk.names.signatures (length s.functions) signed))
      (subst (λ n. DeclsFit n ds) (sym q.2) fit.1)) (λ u w.
      (w.0, grows_trans (length (funcs_by d)) (length (funcs_of ds)) (length (funcs_by d ++ funcs_of ds)) s t u (length_funcs (funcs_by d) (funcs_of ds)) q.1 w.1, w.2 ∙ q.2)))

  -- ---- files

  pub imports_bound : (k n : ℕ) (is : List FileImport) → AreBound P 0 (import_names k n is)
  imports_bound k n [] = tt
  imports_bound k n (i ∷ is) = by (is_named_in k i) (imports_bound k (n + 1) is)
    where
      by : (b : Bool) → AreBound P 0 (import_names k (n + 1) is) → AreBound P 0 (cond b (record { name = i.name; meaning = meaning.Import n } ∷ import_names k (n + 1) is) (import_names k (n + 1) is))
      by true h = (tt, h)
      by false h = h

  entered : (is : List FileImport) (k : ℕ) (s : Bodies) → Sits P s → Sits P (enters is k s) × Grows 0 s (enters is k s)
  unfolding in_file
  entered is k s sits = (
    record { known = record { packages = sits.known.packages; own = sits.known.own; locals = imports_bound k 0 is }; stand = λ h. sits.stand (record { bound = h.bound; lists = h.lists }) },
    record { longer = omega arith; kept = λ n lt. refl; signatures = refl; own = refl; packages = refl; functions = omega arith },
  )

  counted_sits : (n : ℕ) (s : Bodies) → Sits P s → Sits P (counted n s)
  counted_sits n s sits = record { known = sits.known; stand = λ h. sits.stand (record { bound = h.bound; lists = h.lists }) }

  sized_fits : (first counts : ℕ) → first + counts ≤ P.units → (hs : List Held) → Each (Sized counts) hs → AreFit P first hs
  sized_fits first counts le [] h = tt
  sized_fits first counts le (counter u ∷ hs) h = (omega (arith, h.0), sized_fits first counts le hs h.1)
  sized_fits first counts le (clauses n ∷ hs) h = (h.0, sized_fits first counts le hs h.1)

  decls_fit : (first counts : ℕ) → first + counts ≤ P.units → (ds : List Decl) → Each (DeclSized counts) ds → DeclsFit first ds
  decls_fit first counts le [] h = tt
  decls_fit first counts le (decl.Const cs ∷ ds) h = (tt, decls_fit first counts le ds h.1)
  decls_fit first counts le (decl.Var vs ∷ ds) h = (tt, decls_fit first counts le ds h.1)
  decls_fit first counts le (decl.Func f ∷ ds) h = (sized_fits first counts le (flat_map held (out-Block f.body).list) h.0, decls_fit first counts le ds h.1)

  files_made : (is : List FileImport) (k : ℕ) (fs : List SourceFile) (s : Bodies) → Sits P s → Signed (funcs_in fs) (drop (length s.functions) s.walk.names.signatures) → Each FileSized fs → s.walk.first_unit + counts_of fs ≤ P.units
      → Surely (with_files is k fs s) (BodiesSit P fs s)
  files_made is k [] s sits signed fit le = surely_ok s (record { sits = sits; grows = (none_made s sits).1; units = omega arith })
  files_made is k (f ∷ fs) s sits signed fit le =
      let here = entered is k s sits in
      surely_then (decls_made k f.tree.decls (enters is k s) here.0
      (signed_at (funcs_of f.tree.decls) (length s.functions) (length s.functions) s.walk.names.signatures (enters is k s).walk.names.signatures refl (sym here.1.signatures) (signed_left (funcs_of f.tree.decls) (funcs_in fs) (drop (length s.functions) s.walk.names.signatures) signed))
      (decls_fit s.walk.first_unit f.tree.counts (omega arith) f.tree.decls fit.0)) (λ t q.
      let so_far : Grows (length (funcs_of f.tree.decls)) s t = grows_trans 0 (length (funcs_of f.tree.decls)) (length (funcs_of f.tree.decls)) s (enters is k s) t (omega arith) here.1 q.1 in
      surely_more (files_made is (k + 1) fs (counted f.tree.counts t) (counted_sits f.tree.counts t q.0)
      (signed_at (funcs_in fs) (length s.functions + length (funcs_of f.tree.decls)) (length t.functions) s.walk.names.signatures t.walk.names.signatures (sym so_far.functions) (sym so_far.signatures) (signed_right (funcs_of f.tree.decls) (funcs_in fs) s.walk.names.signatures (length s.functions) signed))
      fit.1 (omega (arith, q.2))) (λ u w.
      record {
        sits = w.sits;
        grows = grows_trans (length (funcs_of f.tree.decls)) (length (funcs_in fs)) (length (funcs_of f.tree.decls ++ funcs_in fs)) s t u (length_funcs (funcs_of f.tree.decls) (funcs_in fs)) so_far (record { longer = w.grows.longer; kept = w.grows.kept; signatures = w.grows.signatures; own = w.grows.own; packages = w.grows.packages; functions = w.grows.functions });
        units = omega (arith, w.units, q.2);
      }))

pub package_bodies_stand : PackageBodiesStand
package_bodies_stand P is fs s t sits signed fit le e = (files_made P is 0 fs s sits signed fit le).holds t e
