-- What the bodies of a package add to a program.
use Rattle.std.specs.Prelude.{◌≡◌, ℕ, ◌+◌, ◌≤◌, ◌<◌, List, [], ◌∷◌, length, drop, flat_map, slice_index_or, Ok}
use Rattle.go_ast.specs.declared.block.Block.{out-Block}
use Rattle.go_ast.specs.declared.decl.Decl.{Decl}
use Rattle.go_ast.specs.declared.decl.Decl.TheVariants as decl
use Rattle.go_ast.specs.declared.decl.Func.{Func}
use Rattle.go_ast.specs.declared.module.SourceFile.{SourceFile}
use Rattle.go_meaning.specs.Programs.{Parts}
use Rattle.go_types.specs.declared.names.Signature.{Signature}
use Rattle.go_packages.specs.declared.imports.FileImport.{FileImport}
use Rattle.go_packages.specs.declared.bodies.Bodies.{Bodies}
use Rattle.go_packages.specs.Bodies.{with_files}
use Rattle.go_bounds.specs.Known.{Each, AreKnown}
use Rattle.go_bounds.specs.Trees.{Held, counter, clauses, held, AreFit}
use Rattle.go_bounds.specs.Pieces.{Holds, FunctionsStand}

-- ---- the functions that files declare

abbrev pub funcs_by : Decl → List Func
funcs_by (decl.Func f) = f ∷ []
funcs_by d = []

abbrev pub funcs_of : List Decl → List Func
funcs_of ds = flat_map funcs_by ds

abbrev pub funcs_in : List SourceFile → List Func
funcs_in fs = flat_map (λ (f : SourceFile). funcs_of f.tree.decls) fs

-- each function has its parameters in a signature, in order
abbrev pub Signed : List Func → List Signature → Type 0
Signed [] ss = Unit {0}
Signed (f ∷ fs) [] = ⊥
Signed (f ∷ fs) (s ∷ ss) = (length f.params ≤ length s.params) × Signed fs ss

-- ---- trees of files: each counter is one of the file's, and a `select` is short enough

abbrev pub Sized : ℕ → Held → Type 0
Sized counts (counter u) = u < counts
Sized counts (clauses n) = n ≤ 1000

abbrev pub DeclSized : ℕ → Decl → Type 0
DeclSized counts (decl.Func f) = Each (Sized counts) (flat_map held (out-Block f.body).list)
DeclSized counts d = Unit {0}

abbrev pub FileSized : SourceFile → Type 0
FileSized f = Each (DeclSized f.tree.counts) f.tree.decls

abbrev pub DeclFits : Parts → ℕ → Decl → Type 0
DeclFits P first (decl.Func f) = AreFit P first (flat_map held (out-Block f.body).list)
DeclFits P first d = Unit {0}

-- the counters of files
abbrev pub counts_of : List SourceFile → ℕ
counts_of [] = 0
counts_of (f ∷ fs) = f.tree.counts + counts_of fs

-- ---- what is checked of a program so far

-- its functions stand, where the program has its lists, and what names mean is there
pub record Sits (P : Parts) (s : Bodies) : Type 0 where
  pub known : AreKnown P 0 s.walk.names
  pub stand : Holds P 0 s.walk → FunctionsStand P 0 s.functions (length s.walk.lists)

-- so many functions more, and lists behind those before, while the names of packages stay
pub record Grows (count : ℕ) (s t : Bodies) : Type 0 where
  pub longer : length s.walk.lists ≤ length t.walk.lists
  pub kept : (n : ℕ) → n < length s.walk.lists → slice_index_or t.walk.lists n [] ≡ slice_index_or s.walk.lists n []
  pub signatures : t.walk.names.signatures ≡ s.walk.names.signatures
  pub own : t.walk.names.own ≡ s.walk.names.own
  pub packages : t.walk.names.packages ≡ s.walk.names.packages
  pub functions : length t.functions ≡ length s.functions + count

pub record BodiesSit (P : Parts) (fs : List SourceFile) (s t : Bodies) : Type 0 where
  pub sits : Sits P t
  pub grows : Grows (length (funcs_in fs)) s t
  pub units : t.walk.first_unit ≡ s.walk.first_unit + counts_of fs

-- The bodies of a package that are accepted add functions that stand.
abbrev pub PackageBodiesStand : Type 0
PackageBodiesStand =
    (P : Parts) (is : List FileImport) (fs : List SourceFile) (s t : Bodies) → Sits P s → Signed (funcs_in fs) (drop (length s.functions) s.walk.names.signatures) → Each FileSized fs
    → s.walk.first_unit + counts_of fs ≤ P.units → with_files is 0 fs s ≡ Ok t → BodiesSit P fs s t
