-- The variables of a package, which begin with constants or channels that are made, and mutexes and wait groups. One pass
-- goes by file, then offset; the constants that a variable names are checked before it. Go specification, "Variable
-- declarations", "Package initialization", "Making slices, maps and channels".
use Rattle.std.specs.Prelude.{ℕ, ◌+◌, Bool, true, false, not, ◌&&◌, List, [], ◌∷◌, ◌++◌, length, drop, replicate, flat_map, bytes_eq, Option, Some, None, Result, Ok, Err, if◌then◌else◌}
use Rattle.std.specs.List.{list_any}
use Rattle.go_ast.specs.declared.kind.SourceKind.TheVariants.{NotConstant}
use Rattle.go_ast.specs.declared.name.Name.{Name}
use Rattle.go_ast.specs.declared.expr.Expr.{Expr as Written}
use Rattle.go_ast.specs.declared.expr.TypeExpr.{TypeExpr}
use Rattle.go_ast.specs.declared.expr.TypeForm.{TypeForm, out-TypeForm}
use Rattle.go_ast.specs.declared.expr.TypeForm.TheOpen.{TypeForm-F}
use Rattle.go_ast.specs.declared.block.ConstSpec.{ConstSpec}
use Rattle.go_ast.specs.declared.block.VarSpec.{VarSpec}
use Rattle.go_ast.specs.declared.decl.Decl.{Decl}
use Rattle.go_ast.specs.declared.decl.Decl.TheVariants as decl
use Rattle.go_ast.specs.declared.module.SourceFile.{SourceFile}
use Rattle.go_meaning.specs.declared.value.Value.{Value}
use Rattle.go_meaning.specs.declared.value.Value.TheVariants as value'
use Rattle.go_meaning.specs.declared.expr.Variable.TheVariants as variable
use Rattle.go_meaning.specs.declared.expr.Op.{Op}
use Rattle.go_meaning.specs.declared.expr.Op.TheVariants as op
use Rattle.go_meaning.specs.declared.expr.Expr.{Expr, out-Expr}
use Rattle.go_meaning.specs.declared.expr.Expr.TheOpen.{Expr-F}
use Rattle.go_meaning.specs.declared.program.Global.{Global}
use Rattle.go_meaning.specs.declared.program.Global.TheVariants as global
use Rattle.go_types.specs.declared.types.ValueType.{ValueType}
use Rattle.go_types.specs.declared.names.Shared.{Shared}
use Rattle.go_types.specs.declared.names.Shared.TheVariants as shared'
use Rattle.go_types.specs.declared.names.Marks.{Marks}
use Rattle.go_types.specs.declared.names.Names.{Names}
use Rattle.go_types.specs.declared.names.Meaning.{Meaning}
use Rattle.go_types.specs.declared.names.Meaning.TheVariants as meaning
use Rattle.go_types.specs.declared.operand.Term.{Term}
use Rattle.go_types.specs.declared.operand.Term.TheVariants.{Constant as Fixed}
use Rattle.go_types.specs.declared.operand.Argument.{Argument}
use Rattle.go_types.specs.declared.given.Given.{Given}
use Rattle.go_types.specs.declared.given.Given.TheVariants.{Each, Whole}
use Rattle.go_types.specs.declared.fault.Placed.{Placed}
use Rattle.go_types.specs.Names.{member}
use Rattle.go_types.specs.Checking.{Checked, and_then, fault, Checking, ◌>>=◌, pure}
use Rattle.go_types.specs.Operands.{zero_value}
use Rattle.go_types.specs.Scopes.{is_blank}
use Rattle.go_types.specs.Statements.{given, fill, type_if, wanted_code, wanted_type}
use Rattle.go_packages.specs.declared.constants.ConstAt.{ConstAt}
use Rattle.go_packages.specs.declared.constants.Sources.{Sources}
use Rattle.go_packages.specs.declared.draft.Draft.{Draft}
use Rattle.go_packages.specs.declared.initial.Initial.{Initial}
use Rattle.go_packages.specs.Placing.{placed, then_on}
use Rattle.go_packages.specs.Outlines.{with_name}
use Rattle.go_packages.specs.Mentions.{names_if, names_in, size_at}
use Rattle.go_packages.specs.Constants.{enters, know_first}

-- ---- what a variable begins with

abbrev pub is_fixed : Term → Bool
is_fixed (Fixed k c) = true
is_fixed t = false

-- the size of a channel is constant; the offset is where it is written
abbrev pub sized : Value → ℕ → Expr-F Expr → Checked Global
sized zero at (Expr-F.Value (value'.Number i)) = Ok (global.Make zero i.bits)
sized zero at x = fault at NotConstant

abbrev pub made : Value → List Expr → ℕ → Checked Global
made zero [] at = Ok (global.Make zero 0)
made zero (x ∷ xs) at = sized zero at (out-Expr x)

abbrev pub made_by : Op → List Expr → ℕ → ℕ → Checked Global
made_by (op.Make zero b) xs at size = made zero xs size
made_by o xs at size = fault at NotConstant

-- a constant, or a channel that is made; the first offset is that of the value, the second that of a size
abbrev pub global_of : Bool → ℕ → ℕ → Expr-F Expr → Checked Global
global_of true at size (Expr-F.Value v) = Ok (global.Value v)
global_of false at size (Expr-F.Apply o xs) = made_by o xs at size
global_of b at size x = fault at NotConstant

unfoldable pub global_in : Bool → ℕ → Written → Expr → Checked Global
global_in b at e x = global_of b at (size_at e) (out-Expr x)

unfoldable pub initial_of : Option ValueType → Argument → Written → Checked Initial
initial_of w a e =
    and_then (wanted_code w a) (λ x.
    and_then (global_in (is_fixed a.term) a.at e x) (λ g. Ok (record { of = wanted_type w a; global = g })))

-- ---- variables are numbered among those that are no mutex and no wait group

abbrev pub with_global : Name → Meaning → Global → Draft → Draft
with_global n m g s = record s { names = record s.names { own = with_name n m s.names.own }; globals = record s.globals { all = s.globals.all ++ g ∷ [] } }

abbrev pub next_value : Draft → Draft
next_value s = record s { globals = record s.globals { values = s.globals.values + 1 } }

abbrev pub next_mutex : Draft → Draft
next_mutex s = record s { globals = record s.globals { mutexes = s.globals.mutexes + 1 } }

abbrev pub next_group : Draft → Draft
next_group s = record s { globals = record s.globals { groups = s.globals.groups + 1 } }

abbrev pub with_value : Name → ValueType → Global → Draft → Draft
with_value n t g s = next_value (with_global n (meaning.Variable (variable.Global s.globals.values) t) g s)

abbrev pub with_mutex : Name → Draft → Draft
with_mutex n s = next_mutex (with_global n (meaning.Mutex s.globals.mutexes) global.Mutex s)

abbrev pub with_group : Name → Draft → Draft
with_group n s = next_group (with_global n (meaning.Group s.globals.groups) global.Group s)

abbrev pub with_shared : Shared → Name → Draft → Draft
with_shared shared'.Mutex n s = with_mutex n s
with_shared shared'.Group n s = with_group n s

abbrev pub share : Shared → List Name → Draft → Draft
share x [] s = s
share x (n ∷ ns) s = share x ns (with_shared x n s)

abbrev pub zero : ValueType → List Name → Draft → Draft
zero t [] s = s
zero t (n ∷ ns) s = zero t ns (with_value n t (global.Value (zero_value t)) s)

-- each variable with its value
abbrev pub begin_each : Option ValueType → List Name → List Argument → List Written → Draft → Checked Draft
begin_each w (n ∷ ns) (a ∷ as') (e ∷ es) s = and_then (initial_of w a e) (λ i. begin_each w ns as' es (with_value n i.of i.global s))
begin_each w ns as' es s = Ok s

abbrev pub begin_with : Option ValueType → List Name → List Written → Given → Draft → Checked Draft
begin_with w ns es (Each as') s = begin_each w ns as' es s
begin_with w ns es (Whole at ts x) s = and_then (fill (replicate (length ns) w) (Whole at ts x)) (λ _. fault at NotConstant)

abbrev pub first_at : List Name → ℕ
first_at [] = 0
first_at (n ∷ ns) = n.at

abbrev pub with_marks : Marks → Draft → Draft
with_marks m s = record s { marks = m }

unfoldable pub begin_given : Option ValueType → List Name → List Written → Draft → Checked Draft
begin_given w ns es s =
    and_then (given true (first_at ns) (length ns) es s.names s.marks) (λ r. begin_with w ns es r.0 (with_marks r.1 s))

-- without values they begin with the zero value of their type
abbrev pub begin : Option ValueType → List Name → List Written → Draft → Checked Draft
begin (Some t) ns [] s = Ok (zero t ns s)
begin w ns es s = begin_given w ns es s

abbrev pub begin_typed : VarSpec → Draft → Checked Draft
begin_typed v s = and_then (type_if v.kind s.names s.marks) (λ r. begin r.0 v.names v.values (with_marks r.1 s))

-- ---- mutexes and wait groups have no initialiser

abbrev pub shared_meant : Meaning → Option Shared
shared_meant (meaning.Shared x) = Some x
shared_meant m = None

abbrev pub shared_named : {F E : Type 0} → TypeForm-F F E → Names → Checking (Option Shared)
shared_named (TypeForm-F.Member p n) ns = member ns p n >>= (λ m. pure (shared_meant m))
shared_named x ns = pure None

abbrev pub shared_of : Option TypeExpr → List Written → Names → Checking (Option Shared)
shared_of (Some t) [] ns = shared_named (out-TypeForm t.form) ns
shared_of k es ns = pure None

abbrev pub begin_if : Option Shared → VarSpec → Draft → Checked Draft
begin_if (Some x) v s = Ok (share x v.names s)
begin_if None v s = begin_typed v s

unfoldable pub var_spec : VarSpec → Draft → Checked Draft
var_spec v s = and_then (shared_of v.kind v.values s.names s.marks) (λ r. begin_if r.0 v (with_marks r.1 s))

-- ---- the constants that a variable names

abbrev pub names_of_var : VarSpec → List Name
names_of_var v = names_if v.kind ++ flat_map names_in v.values

abbrev pub is_among : List Name → ConstAt → Bool
is_among ns c = list_any (λ (n : Name). bytes_eq n.text c.name) ns

-- a constant `_` has no name
abbrev pub is_named : List Name → ConstAt → Bool
is_named ns c = not (is_blank c.name) && is_among ns c

-- the number behind the last constant that is named, where the first has a number
abbrev pub behind : List Name → ℕ → ℕ → List ConstAt → ℕ
behind ns last n [] = last
behind ns last n (c ∷ cs) = behind ns (if is_named ns c then n + 1 else last) (n + 1) cs

abbrev pub needed : Sources → List Name → Draft → ℕ
needed src ns s = behind ns s.known s.known (drop s.known src.consts)

unfoldable pub var_at : List SourceFile → Sources → ℕ → VarSpec → Draft → Result Draft Placed
var_at fs src k v s =
    then_on (know_first fs src (needed src (names_of_var v) s) s) (λ t. placed k (var_spec v (enters src k t)))

abbrev pub vars_at : List SourceFile → Sources → ℕ → List VarSpec → Draft → Result Draft Placed
vars_at fs src k [] s = Ok s
vars_at fs src k (v ∷ vs) s = then_on (var_at fs src k v s) (λ t. vars_at fs src k vs t)

-- ---- the pass

abbrev pub pass_consts : List SourceFile → Sources → ℕ → Draft → Result Draft Placed
pass_consts fs src n s = know_first fs src (s.passed + n) (record s { passed = s.passed + n })

abbrev pub pass_decl : List SourceFile → Sources → ℕ → Decl → Draft → Result Draft Placed
pass_decl fs src k (decl.Const cs) s = pass_consts fs src (length cs) s
pass_decl fs src k (decl.Var vs) s = vars_at fs src k vs s
pass_decl fs src k (decl.Func f) s = Ok s

abbrev pub pass_decls : List SourceFile → Sources → ℕ → List Decl → Draft → Result Draft Placed
pass_decls fs src k [] s = Ok s
pass_decls fs src k (d ∷ ds) s = then_on (pass_decl fs src k d s) (λ t. pass_decls fs src k ds t)

abbrev pub pass_from : List SourceFile → Sources → ℕ → List SourceFile → Draft → Result Draft Placed
pass_from all src k [] s = Ok s
pass_from all src k (f ∷ fs) s = then_on (pass_decls all src k f.tree.decls s) (λ t. pass_from all src (k + 1) fs t)
