-- Modules that are accepted are programs.
use Rattle.std.proofs.Common.{◌≡◌, ℕ, zero, suc, ◌+◌, ◌==◌, ◌≤◌, ◌<◌, List, [], ◌∷◌, ◌++◌, length, replicate, Result, Ok, Err, refl, ap, subst, arith}
use Rattle.std.specs.Prelude.{count_by}
use Rattle.go_ast.specs.declared.module.Package.{Package}
use Rattle.go_meaning.specs.declared.program.Function.{Function}
use Rattle.go_meaning.specs.Programs.{Parts, no_function}
use Rattle.go_meaning.specs.WellFormed.{is_value, is_mutex, is_group, IsProgram}
use Rattle.go_types.specs.declared.fault.Placed.{Placed}
use Rattle.go_packages.specs.declared.draft.Globals.{Globals}
use Rattle.go_packages.specs.declared.packages.Built.{Built}
use Rattle.go_packages.specs.Modules.{ModuleFault, and_on, nothing, built_behind, built, parts_built, accepted}
use Rattle.go_bounds.specs.Known.{Each}
use Rattle.go_bounds.specs.PackageBodies.{funcs_in, counts_of}
use Rattle.go_bounds.specs.Modules.{PackageSized, ModulesMakePrograms}
use Rattle.go_bounds.proofs.Placed.{Surely}
use Rattle.go_bounds.proofs.Counts.{Counted}
use Rattle.go_bounds.proofs.Passes.{grown_refl, grown_then, Below, below_grown}
use Rattle.go_bounds.proofs.Packages.{Counts, package_counts, Fits, checked_becomes}
use Rattle.go_bounds.proofs.Programs.{functions_make_program}

-- what holds of what checking a module answers, where it answers
record Always {A : Type 0} (r : Result A ModuleFault) (Q : A → Type 0) : Type 0 where
  holds : (a : A) → r ≡ Ok a → Q a

always_ok : {A : Type 0} {Q : A → Type 0} (a : A) → Q a → Always (Ok a) Q
always_ok {Q = Q} a q = record { holds = λ b e. (let h : a ≡ b = cc in subst Q h q) }

always_on : {A : Type 0} {Q R : A → Type 0} {f : A → Result A ModuleFault} (n : ℕ) {r : Result A Placed} → Surely r Q → ((a : A) → Q a → Always (f a) R) → Always (and_on n r f) R
always_on n {r = Ok a} q k = k a (q.holds a refl)
always_on n {r = Err e} q k = record { holds = λ b e. cc }

-- the counters and functions of packages
abbrev counts_in : List Package → ℕ
counts_in [] = 0
counts_in (p ∷ ps) = counts_of p.files + counts_in ps

abbrev functions_in : List Package → ℕ
functions_in [] = 0
functions_in (p ∷ ps) = length (funcs_in p.files) + functions_in ps

module _ (P : Parts) where
  all_count : (before ps : List Package) (b : Built) → Always (built_behind before ps b) (λ f. Counts P b.globals f.globals)
  all_count before [] b = always_ok b (grown_refl b.globals, λ c. c)
  all_count before (p ∷ ps) b =
      always_on (length before) (package_counts P (length ps == 0) before p b) (λ c q.
      record { holds = λ f e. (let h = (all_count (before ++ p ∷ []) ps c).holds f e in (grown_then b.globals c.globals f.globals q.0 h.0, λ k. h.1 (q.1 k))) })

  record Ends (ps : List Package) (b f : Built) : Type 0 where
    fits : Fits P f
    units : f.units ≡ b.units + counts_in ps
    functions : length f.functions ≡ length b.functions + functions_in ps
    main : (length ps ≡ 0 → b.main < length P.functions) → f.main < length P.functions

  all_end : (before ps : List Package) (b : Built) → Fits P b → Each PackageSized ps → b.units + counts_in ps ≤ P.units → length b.functions + functions_in ps ≤ length P.functions
      → Always (built_behind before ps b) (λ f. Below P f.globals → Ends ps b f)
  all_end before [] b fits sized units functions = always_ok b (λ below. record { fits = fits; units = omega arith; functions = omega arith; main = λ k. k refl })
  all_end before (p ∷ ps) b fits sized units functions =
      always_on (length before) (checked_becomes P (length ps == 0) before p b fits sized.0 (omega (arith, units)) (omega (arith, functions))) (λ c q.
      record {
        holds = λ f e below. (
            let w = q (below_grown P c.globals f.globals ((all_count (before ++ p ∷ []) ps c).holds f e).0 below) in
            let h = (all_end (before ++ p ∷ []) ps c w.fits sized.1 (omega (arith, units, w.units)) (omega (arith, functions, w.functions))).holds f e below in
            record {
              fits = h.fits;
              units = omega (arith, h.units, w.units);
              functions = omega (arith, h.functions, w.functions);
              main = λ k. h.main (λ none. w.main (ap (λ n. n == 0) none));
            });
      })

-- ---- the program of a module

fits_nothing : (P : Parts) → Fits P nothing
fits_nothing P = record { packages = tt; locals = tt; signatures = refl; stand = λ bound lists. refl; summed = refl }

counted_nothing : Counted nothing.globals
counted_nothing = record { values = refl; mutexes = refl; groups = refl }

below_counted : (P : Parts) (g : Globals) → P.globals ≡ g.all → Counted g → Below P g
below_counted P g e c =
    let values : count_by is_value P.globals ≡ count_by is_value g.all = ap (λ gs. count_by is_value gs) e in
    let mutexes : count_by is_mutex P.globals ≡ count_by is_mutex g.all = ap (λ gs. count_by is_mutex gs) e in
    let groups : count_by is_group P.globals ≡ count_by is_group g.all = ap (λ gs. count_by is_group gs) e in
    record { values = omega (arith, values, c.values); mutexes = omega (arith, mutexes, c.mutexes); groups = omega (arith, groups, c.groups) }

length_replicate : (n : ℕ) (f : Function) → length (replicate n f) ≡ n
length_replicate zero f = refl
length_replicate (suc n) f = ap suc (length_replicate n f)

-- a program of as many functions and units as packages have
abbrev Guess : List Package → Built → Parts
Guess ps f = record { packages = []; functions = replicate (functions_in ps) no_function; lists = []; globals = f.globals.all; units = counts_in ps; main = 0 }

abbrev Made : List Package → Built → ℕ → Parts
Made ps f units = record { packages = f.packages; functions = f.functions; lists = f.lists; globals = f.globals.all; units = units; main = f.main }

made_program : (ps : List Package) (f : Built) → Each PackageSized ps → 0 < length ps → built_behind [] ps nothing ≡ Ok f → IsProgram (Made ps f f.units)
made_program ps f sized some e =
    let P = Guess ps f in
    let counted : Counted f.globals = ((all_count P [] ps nothing).holds f e).1 counted_nothing in
    let long : length P.functions ≡ functions_in ps = length_replicate (functions_in ps) no_function in
    let g = (all_end P [] ps nothing (fits_nothing P) sized (omega arith) (omega (arith, long))).holds f e (below_counted P f.globals refl counted) in
    let Q = Made ps f (counts_in ps) in
    let h = (all_end Q [] ps nothing (fits_nothing Q) sized (omega arith) (omega (arith, g.functions))).holds f e (below_counted Q f.globals refl counted) in
    let units : counts_in ps ≡ f.units = omega (arith, g.units) in
    subst (λ n. IsProgram (Made ps f n)) units
    (functions_make_program Q (h.fits.stand (omega arith) (λ n lt. refl)) (h.main (λ none. absurd (omega (arith, none, some)))) h.fits.summed)

pub modules_make_programs : ModulesMakePrograms
unfolding accepted built
modules_make_programs m P sized some e = by (built_behind [] m.packages nothing) refl e
  where
    by : (r : Result Built ModuleFault) → built_behind [] m.packages nothing ≡ r → parts_built r ≡ Ok P → IsProgram P
    by (Ok f) is h = (let same : Made m.packages f f.units ≡ P = cc in subst IsProgram same (made_program m.packages f sized some is))
    by (Err x) is h = cc
