-- A package that is accepted, behind those that are built.
use Rattle.std.proofs.Common.{Bool, true, false, ◌≡◌, ℕ, ◌+◌, ◌≤◌, ◌<◌, List, [], ◌∷◌, ◌++◌, length, drop, Option, Some, None, Ok, refl, sym, ap, ◌∙◌, subst, arith, append-nil, length-append, inl}
use Rattle.std.specs.Prelude.{sum_by, slice_index_or}
use Rattle.go_ast.specs.declared.module.Package.{Package}
use Rattle.go_ast.specs.declared.module.SourceFile.{SourceFile}
use Rattle.go_meaning.specs.declared.program.ProgramPackage.{ProgramPackage}
use Rattle.go_meaning.specs.Programs.{Parts}
use Rattle.go_types.specs.declared.names.Names.{Names}
use Rattle.go_types.specs.declared.names.Signature.{Signature}
use Rattle.go_types.specs.declared.fault.Placed.{Placed}
use Rattle.go_types.specs.declared.package_names.Declared.{Declared}
use Rattle.go_types.specs.Packages.{declared_from, names_fault}
use Rattle.go_packages.specs.declared.constants.Sources.{Sources}
use Rattle.go_packages.specs.declared.draft.Draft.{Draft}
use Rattle.go_packages.specs.declared.draft.Globals.{Globals}
use Rattle.go_packages.specs.declared.outline.Outline.{Outline}
use Rattle.go_packages.specs.declared.bodies.Bodies.{Bodies}
use Rattle.go_packages.specs.declared.packages.Built.{Built}
use Rattle.go_packages.specs.Imports.{imported, unused_import}
use Rattle.go_packages.specs.Outlines.{outline_of}
use Rattle.go_packages.specs.Packages.{sources_of, outlined, draft_of, none_met, drafted, bodies_of, walked, main_of, built_of, package_of, checked_package}
use Rattle.go_bounds.specs.Known.{Each, AreNamed, AreBound, AreKnown}
use Rattle.go_bounds.specs.Pieces.{FunctionsStand}
use Rattle.go_bounds.specs.Outlines.{Signs}
use Rattle.go_bounds.specs.PackageBodies.{Signed, FileSized, funcs_in, counts_of, Sits, BodiesSit}
use Rattle.go_bounds.proofs.Placed.{Surely, surely_ok, surely_err, surely_any, surely_is, surely_then}
use Rattle.go_bounds.proofs.Naming.{each_append}
use Rattle.go_bounds.proofs.OwnNames.{except_none, Except}
use Rattle.go_bounds.proofs.OwnOutlines.{vars_in, Keeps, files_keep}
use Rattle.go_bounds.proofs.Outlines.{outlines_sign}
use Rattle.go_bounds.proofs.Counts.{Counted}
use Rattle.go_bounds.proofs.Mains.{main_there, package_summed}
use Rattle.go_bounds.proofs.PackageBodies.{package_bodies_stand}
use Rattle.go_bounds.proofs.Passes.{Grown, Below, Clears, pass_clears}

none_sure : (x : Option Placed) → Surely (none_met x) (λ u. x ≡ None)
none_sure None = surely_ok tt refl
none_sure (Some p) = surely_err p

drop_behind : (xs ys : List Signature) → drop (length xs) (xs ++ ys) ≡ ys
drop_behind [] ys = refl
drop_behind (x ∷ xs) ys = drop_behind xs ys

-- what the outline of a package starts from
abbrev Start : Sources → Names → List Declared → Outline
Start src ns ds = outline_of (record ns { imports = imported src.imports }) ds

module _ (P : Parts) where
  -- ---- variables are added, whatever they are

  abbrev pub Counts : Globals → Globals → Type 0
  Counts g h = Grown g h × (Counted g → Counted h)

  drafted_sure : (fs : List SourceFile) (src : Sources) (g : Globals) (o : Outline) → Surely (drafted fs src g o) (λ d. Clears P (vars_in fs) (draft_of o src g) d × (o.fault ≡ None))
  unfolding drafted
  drafted_sure fs src g o =
      surely_then (pass_clears P fs src 0 fs (draft_of o src g)) (λ d c. surely_then (none_sure o.fault) (λ u e. surely_ok d (c, e)))

  of_counts : (root : Bool) (p : Package) (src : Sources) (b : Built) (o : Outline) → Surely (package_of root p src b o) (λ c. Counts b.globals c.globals)
  unfolding package_of
  of_counts root p src b o =
      surely_then (drafted_sure p.files src b.globals o) (λ d q.
      surely_then (surely_any (walked p.files src (bodies_of d b))) (λ s u.
      surely_then (surely_any (main_of root s.walk.names.own)) (λ main v.
      surely_ok _ (q.0.grown, q.0.counted))))

  pub package_counts : (root : Bool) (before : List Package) (p : Package) (b : Built) → Surely (checked_package root before p b) (λ c. Counts b.globals c.globals)
  unfolding checked_package
  package_counts root before p b =
      surely_then (surely_any (names_fault [] (declared_from before 0 p.files))) (λ u v.
      of_counts root p (sources_of before p.files) b (outlined root (declared_from before 0 p.files) p.files (sources_of before p.files) b.names))

  -- ---- packages that are built are parts of a program

  pub record Fits (b : Built) : Type 0 where
    pub packages : Each (AreNamed P 0) b.names.packages
    pub locals : AreBound P 0 b.names.locals
    pub signatures : length b.names.signatures ≡ length b.functions
    pub stand : length b.lists ≤ length P.lists → ((n : ℕ) → n < length b.lists → slice_index_or P.lists n [] ≡ slice_index_or b.lists n []) → FunctionsStand P 0 b.functions (length b.lists)
    pub summed : sum_by (λ (p : ProgramPackage). p.functions) b.packages ≡ length b.functions

  pub record Becomes (root : Bool) (fs : List SourceFile) (b c : Built) : Type 0 where
    pub fits : Fits c
    pub units : c.units ≡ b.units + counts_of fs
    pub functions : length c.functions ≡ length b.functions + length (funcs_in fs)
    pub main : root ≡ true → c.main < length P.functions

  main_of_root : (root : Bool) (s : Bodies) (n : ℕ) → Sits P s → main_of root s.walk.names.own ≡ Ok n → root ≡ true → n < length P.functions
  main_of_root true s n sits e is = main_there P s.walk.names.own n sits.known.own e
  main_of_root false s n sits e is = cc

  -- what is known where constants and variables are checked
  record Drafts (fs : List SourceFile) (b : Built) (d : Draft) : Type 0 where
    known : AreKnown P 0 d.names
    signed : Signed (funcs_in fs) (drop (length b.functions) d.names.signatures)
    count : length d.names.signatures ≡ length b.functions + length (funcs_in fs)

  drafts : (fs : List SourceFile) (src : Sources) (ds : List Declared) (b : Built) (o : Outline) (d : Draft) → Fits b → length b.functions + length (funcs_in fs) ≤ length P.functions
      → Keeps P (vars_in fs) (Start src b.names ds) o → Signs (funcs_in fs) (Start src b.names ds) o → Clears P (vars_in fs) (draft_of o src b.globals) d → Below P d.globals → Drafts fs b d
  drafts fs src ds b o d fits le keeps signs c below =
      let all : length o.names.signatures ≡ length b.names.signatures + length signs.rest = ap length signs.signatures ∙ length-append b.names.signatures signs.rest in
      let there : length o.names.signatures ≤ length P.functions = omega (arith, all, signs.count, fits.signatures, le) in
      record {
        known = record {
          packages = subst (λ ps. Each (AreNamed P 0) ps) (sym (c.packages ∙ keeps.packages)) fits.packages;
          own = except_none P d.names.own (c.own below [] (subst (λ ns. Except P ns o.own) (sym (append-nil (vars_in fs))) (keeps.own there (λ name. inl tt))));
          locals = c.locals (keeps.locals fits.locals);
        };
        signed = subst (λ ss. Signed (funcs_in fs) (drop (length b.functions) ss)) (sym (c.signatures ∙ signs.signatures))
            (subst (λ n. Signed (funcs_in fs) (drop n (b.names.signatures ++ signs.rest))) fits.signatures
            (subst (λ ss. Signed (funcs_in fs) ss) (sym (drop_behind b.names.signatures signs.rest)) signs.signed));
        count = ap length c.signatures ∙ omega (arith, all, signs.count, fits.signatures);
      }

  walked_sure : (fs : List SourceFile) (src : Sources) (b : Built) (d : Draft) → Fits b → Drafts fs b d → Each FileSized fs → b.units + counts_of fs ≤ P.units
      → Surely (walked fs src (bodies_of d b)) (BodiesSit P fs (bodies_of d b))
  unfolding walked
  walked_sure fs src b d fits h sized le =
      surely_then (record { holds = λ t e. package_bodies_stand P src.imports fs (bodies_of d b) t sits h.signed sized le e }) (λ t q.
      surely_then (surely_any (unused_import t.walk.marks.used src.imports)) (λ u v. surely_ok t q))
    where
      sits : Sits P (bodies_of d b)
      sits = record { known = h.known; stand = λ k. fits.stand k.bound (λ n lt. k.lists n (omega arith) lt) }

  becomes : (root : Bool) (p : Package) (b : Built) (d : Draft) (s : Bodies) (main : ℕ) → Fits b → Drafts p.files b d → BodiesSit P p.files (bodies_of d b) s → main_of root s.walk.names.own ≡ Ok main
      → Becomes root p.files b (built_of p b d.globals s main)
  becomes root p b d s main fits h w e =
      let count : length s.functions ≡ length b.functions + length (funcs_in p.files) = w.grows.functions in
      record {
        fits = record {
          packages = each_append (AreNamed P 0) s.walk.names.packages (s.walk.names.own ∷ []) w.sits.known.packages (w.sits.known.own, tt);
          locals = tt;
          signatures = ap length w.grows.signatures ∙ omega (arith, h.count, count);
          stand = λ bound lists. w.sits.stand (record { bound = bound; lists = λ n from lt. lists n lt });
          summed = package_summed b.packages p (length b.functions) s.functions fits.summed (omega (arith, count));
        };
        units = w.units;
        functions = count;
        main = main_of_root root s main w.sits e;
      }

  package_becomes : (root : Bool) (p : Package) (src : Sources) (ds : List Declared) (b : Built) (o : Outline) → Fits b → Each FileSized p.files → b.units + counts_of p.files ≤ P.units
      → length b.functions + length (funcs_in p.files) ≤ length P.functions → Keeps P (vars_in p.files) (Start src b.names ds) o → (o.fault ≡ None → Signs (funcs_in p.files) (Start src b.names ds) o)
      → Surely (package_of root p src b o) (λ c. Below P c.globals → Becomes root p.files b c)
  unfolding package_of
  package_becomes root p src ds b o fits sized units functions keeps signs =
      surely_then (drafted_sure p.files src b.globals o) (λ d q.
      surely_then (surely_is (walked p.files src (bodies_of d b))) (λ s e.
      surely_then (surely_is (main_of root s.walk.names.own)) (λ main f.
      surely_ok _ (λ below.
      let h = drafts p.files src ds b o d fits functions keeps (signs q.1) q.0 below in
      becomes root p b d s main fits h ((walked_sure p.files src b d fits h sized units).holds s e) f))))

  pub checked_becomes : (root : Bool) (before : List Package) (p : Package) (b : Built) → Fits b → Each FileSized p.files → b.units + counts_of p.files ≤ P.units
      → length b.functions + length (funcs_in p.files) ≤ length P.functions → Surely (checked_package root before p b) (λ c. Below P c.globals → Becomes root p.files b c)
  unfolding checked_package outlined
  checked_becomes root before p b fits sized units functions =
      surely_then (surely_any (names_fault [] (declared_from before 0 p.files))) (λ u v.
      outlined_becomes (sources_of before p.files) (declared_from before 0 p.files))
    where
      outlined_becomes : (src : Sources) (ds : List Declared) → Surely (package_of root p src b (outlined root ds p.files src b.names)) (λ c. Below P c.globals → Becomes root p.files b c)
      outlined_becomes src ds =
          package_becomes root p src ds b (outlined root ds p.files src b.names) fits sized units functions
          (files_keep P (vars_in p.files) root src.imports 0 p.files (Start src b.names ds) (λ name i. i)) (outlines_sign root src.imports 0 p.files (Start src b.names ds))
