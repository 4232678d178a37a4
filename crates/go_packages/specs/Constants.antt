-- The constants of a package. One may name only constants before it. Go specification, "Constant declarations",
-- "Declarations and scope", "Package initialization".
use Rattle.std.specs.Prelude.{ℕ, ◌+◌, nat_lt, Bool, true, false, not, ◌&&◌, List, [], ◌∷◌, ◌++◌, length, take, drop, slice_get, bytes_eq, Option, Some, None, is_some, Result, Ok, Err, if◌then◌else◌}
use Rattle.std.specs.List.{list_any}
use Rattle.go_ast.specs.declared.kind.SourceKind.TheVariants.{Undeclared}
use Rattle.go_ast.specs.declared.name.Name.{Name}
use Rattle.go_ast.specs.declared.block.ConstSpec.{ConstSpec}
use Rattle.go_ast.specs.declared.decl.Decl.{Decl}
use Rattle.go_ast.specs.declared.decl.Decl.TheVariants as decl
use Rattle.go_ast.specs.declared.module.SourceFile.{SourceFile}
use Rattle.go_types.specs.declared.names.Marks.{Marks}
use Rattle.go_types.specs.declared.names.Meaning.{Meaning}
use Rattle.go_types.specs.declared.fault.Placed.{Placed}
use Rattle.go_types.specs.Names.{predeclared}
use Rattle.go_types.specs.Checking.{Checked, and_then, fault}
use Rattle.go_types.specs.Statements.{const_value}
use Rattle.go_packages.specs.declared.constants.ConstAt.{ConstAt}
use Rattle.go_packages.specs.declared.constants.Hiding.{Hiding}
use Rattle.go_packages.specs.declared.constants.Sources.{Sources}
use Rattle.go_packages.specs.declared.draft.Draft.{Draft}
use Rattle.go_packages.specs.Placing.{placed, then_on}
use Rattle.go_packages.specs.Imports.{in_file}
use Rattle.go_packages.specs.Outlines.{with_name}
use Rattle.go_packages.specs.Mentions.{names_if, names_in}

-- ---- the constants of a package by file and offset

abbrev pub consts_of : ℕ → ℕ → ℕ → List ConstSpec → List ConstAt
consts_of k d n [] = []
consts_of k d n (c ∷ cs) = record { name = c.name.text; file = k; decl = d; index = n } ∷ consts_of k d (n + 1) cs

abbrev pub consts_by : ℕ → ℕ → Decl → List ConstAt
consts_by k d (decl.Const cs) = consts_of k d 0 cs
consts_by k d x = []

abbrev pub consts_in : ℕ → ℕ → List Decl → List ConstAt
consts_in k d [] = []
consts_in k d (x ∷ xs) = consts_by k d x ++ consts_in k (d + 1) xs

abbrev pub consts_from : ℕ → List SourceFile → List ConstAt
consts_from k [] = []
consts_from k (f ∷ fs) = consts_in k 0 f.tree.decls ++ consts_from (k + 1) fs

abbrev pub decl_in : Option SourceFile → ℕ → Option Decl
decl_in None d = None
decl_in (Some f) d = slice_get f.tree.decls d

abbrev pub const_in : Option Decl → ℕ → Option ConstSpec
const_in (Some (decl.Const cs)) n = slice_get cs n
const_in x n = None

-- the constant at a place
abbrev pub const_at : List SourceFile → ConstAt → Option ConstSpec
const_at fs c = const_in (decl_in (slice_get fs c.file) c.decl) c.index

-- those that hide a predeclared name, with their numbers
abbrev pub hiding_from : ℕ → List ConstAt → List Hiding
hiding_from n [] = []
hiding_from n (c ∷ cs) = if is_some (predeclared c.name) then record { name = c.name; number = n } ∷ hiding_from (n + 1) cs else hiding_from (n + 1) cs

-- ---- a constant

abbrev pub names_of_const : ConstSpec → List Name
names_of_const c = names_if c.kind ++ names_in c.value

-- a constant that isn't known, where so many are, hides the name
abbrev pub hides : ℕ → Name → Hiding → Bool
hides known n h = bytes_eq h.name n.text && not (nat_lt h.number known)

-- no name means a constant that isn't known and hides a predeclared one
abbrev pub none_hidden : ℕ → List Hiding → List Name → Checked (Unit {0})
none_hidden known hs [] = Ok tt
none_hidden known hs (n ∷ ns) = if list_any (hides known n) hs then fault n.at Undeclared else none_hidden known hs ns

-- the next constant is known
abbrev pub with_const : Name → Meaning → Marks → Draft → Draft
with_const n m marks s = record s { marks = marks; names = record s.names { own = with_name n m s.names.own }; known = s.known + 1 }

unfoldable pub const_spec : List Hiding → ConstSpec → Draft → Checked Draft
const_spec hs c s =
    and_then (none_hidden s.known hs (names_of_const c)) (λ _.
    and_then (const_value c s.names s.marks) (λ r. Ok (with_const c.name r.0 r.1 s)))

abbrev pub enters : Sources → ℕ → Draft → Draft
enters src k s = record s { names = in_file src.imports k s.names }

abbrev pub const_if : Sources → ℕ → Option ConstSpec → Draft → Result Draft Placed
const_if src k None s = Ok s
const_if src k (Some c) s = placed k (const_spec src.hiding c (enters src k s))

abbrev pub know : List SourceFile → Sources → ConstAt → Draft → Result Draft Placed
know fs src c s = const_if src c.file (const_at fs c) s

abbrev pub know_each : List SourceFile → Sources → List ConstAt → Draft → Result Draft Placed
know_each fs src [] s = Ok s
know_each fs src (c ∷ cs) s = then_on (know fs src c s) (λ t. know_each fs src cs t)

-- the first constants, so many, are known
unfoldable pub know_first : List SourceFile → Sources → ℕ → Draft → Result Draft Placed
know_first fs src n s = know_each fs src (drop s.known (take n src.consts)) s
