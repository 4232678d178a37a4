-- Statements without lists in them: their operands from left to right, then the numbers of values, then types from left
-- to right, then what is declared. Go specification, "Statements", "Assignment statements", "Return statements", "Go
-- statements", "Defer statements", "Constant declarations", "Variable declarations", "Short variable declarations".
use Rattle.std.specs.Prelude.{ℕ, ◌+◌, ◌==◌, nat_lt, pos, Bool, true, false, not, ◌&&◌, List, [], ◌∷◌, ◌++◌, length, map, replicate, slice_get, bytes_eq, codes, Option, Some, None, Ok, if◌then◌else◌}
use Rattle.go_ast.specs.declared.kind.SourceKind.TheVariants as source
use Rattle.go_ast.specs.declared.name.Name.{Name}
use Rattle.go_ast.specs.declared.expr.BinaryOp.{BinaryOp}
use Rattle.go_ast.specs.declared.expr.Expr.{Expr as Written}
use Rattle.go_ast.specs.declared.expr.ExprForm.{ExprForm, out-ExprForm}
use Rattle.go_ast.specs.declared.expr.ExprForm.TheOpen.{ExprForm-F}
use Rattle.go_ast.specs.declared.expr.TypeExpr.{TypeExpr}
use Rattle.go_ast.specs.declared.block.Target.{Target as WrittenTarget}
use Rattle.go_ast.specs.declared.block.Target.TheVariants as written
use Rattle.go_ast.specs.declared.block.ConstSpec.{ConstSpec}
use Rattle.go_ast.specs.declared.block.VarSpec.{VarSpec}
use Rattle.go_meaning.specs.declared.expr.Expr.{Expr, out-Expr}
use Rattle.go_meaning.specs.declared.expr.Expr.TheOpen.{Expr-F}
use Rattle.go_meaning.specs.declared.expr.Expr.TheVariants as expr
use Rattle.go_meaning.specs.declared.expr.Op.{Op}
use Rattle.go_meaning.specs.declared.expr.Op.TheVariants as op
use Rattle.go_meaning.specs.declared.expr.Variable.{Variable}
use Rattle.go_meaning.specs.declared.expr.Target.{Target}
use Rattle.go_meaning.specs.declared.node.Assignment.{Assignment}
use Rattle.go_meaning.specs.declared.node.Simple.{Simple}
use Rattle.go_meaning.specs.declared.node.Simple.TheVariants as simple
use Rattle.go_meaning.specs.declared.node.Deferral.{Deferral}
use Rattle.go_meaning.specs.declared.node.Deferral.TheVariants as deferral
use Rattle.go_meaning.specs.declared.node.NodeForm.{NodeForm}
use Rattle.go_meaning.specs.declared.node.NodeForm.TheVariants as node
use Rattle.go_value.specs.declared.operation.IntOp.TheVariants as int
use Rattle.go_types.specs.declared.types.ValueType.{ValueType}
use Rattle.go_types.specs.declared.kinds.Untyped.TheVariants as untyped
use Rattle.go_types.specs.declared.kinds.OperandKind.{OperandKind}
use Rattle.go_types.specs.declared.kinds.OperandKind.TheVariants as kind
use Rattle.go_types.specs.declared.operator.Operator.{Operator}
use Rattle.go_types.specs.declared.operator.Operator.TheVariants.{Arithmetic}
use Rattle.go_types.specs.declared.constant.Constant.{Constant}
use Rattle.go_types.specs.declared.constant.Constant.TheVariants.{Number}
use Rattle.go_types.specs.declared.names.Names.{Names}
use Rattle.go_types.specs.declared.names.Meaning.{Meaning}
use Rattle.go_types.specs.declared.names.Meaning.TheVariants as meaning
use Rattle.go_types.specs.declared.operand.Term.{Term}
use Rattle.go_types.specs.declared.operand.Term.TheVariants.{Constant as Fixed, Nil, Value as Computed}
use Rattle.go_types.specs.declared.operand.Operand.{Operand}
use Rattle.go_types.specs.declared.operand.Operand.TheVariants as operand
use Rattle.go_types.specs.declared.operand.Part.{Part}
use Rattle.go_types.specs.declared.operand.Argument.{Argument}
use Rattle.go_types.specs.declared.given.Given.{Given}
use Rattle.go_types.specs.declared.given.Given.TheVariants.{Each, Whole}
use Rattle.go_types.specs.declared.given.Filled.{Filled}
use Rattle.go_types.specs.declared.given.Deferred.{Deferred}
use Rattle.go_types.specs.declared.given.Typed.{Typed}
use Rattle.go_types.specs.declared.walk.Place.{Place}
use Rattle.go_types.specs.declared.walk.Place.TheVariants as place
use Rattle.go_types.specs.declared.walk.Walk.{Walk}
use Rattle.go_types.specs.Types as types
use Rattle.go_types.specs.Kinds.{is_assignable}
use Rattle.go_types.specs.Constants.{within}
use Rattle.go_types.specs.Operators.{operator_of}
use Rattle.go_types.specs.Operands as rules
use Rattle.go_types.specs.Checking.{Checked, and_then, fault, Checking, ◌>>=◌, pure, lift}
use Rattle.go_types.specs.Expressions.{check, value_of, values_of, type_of}
use Rattle.go_types.specs.Walking.{Walking, ◌>>>◌, done, as_walking, stop, here}
use Rattle.go_types.specs.Scopes as scopes

-- ---- values that are given to places

abbrev pub received_types : ValueType → List ValueType
received_types t = t ∷ types.flag ∷ []

abbrev pub whole_code : ℕ → ℕ → ℕ → ValueType → Expr-F Expr → Checked Given
whole_code at n i t (Expr-F.Receive c) = if n == 2 then Ok (Whole i (received_types t) (expr.ReceiveOk c)) else fault at source.WrongCount
whole_code at n i t x = fault at source.WrongCount

abbrev pub whole_term : Bool → ℕ → ℕ → ℕ → Term → Checked Given
whole_term true at n i (Computed t e) = whole_code at n i t (out-Expr e)
whole_term ok at n i t = fault at source.WrongCount

-- one value gives all of several
abbrev pub whole_operand : Bool → ℕ → ℕ → ℕ → Operand → Checked Given
whole_operand ok at n i (operand.Results ts e) = if length ts == n then Ok (Whole i ts e) else fault at source.WrongCount
whole_operand ok at n i (operand.Term t) = whole_term ok at n i t
whole_operand ok at n i o = fault i source.WrongType

abbrev pub given_whole : Bool → ℕ → ℕ → Written → Names → Checking Given
given_whole ok at n e ns = check e ns >>= (λ p. lift (whole_operand ok at n p.at p.operand))

abbrev pub counted : ℕ → ℕ → List Argument → Checked Given
counted at n as' = if length as' == n then Ok (Each as') else fault at source.WrongCount

abbrev pub given_each : ℕ → ℕ → List Written → Names → Checking Given
given_each at n es ns = values_of Written check es ns >>= (λ as'. lift (counted at n as'))

-- The values for so many places of a statement at an offset. A receive gives a value, and where two may be given also
-- whether it was sent.
abbrev pub given : Bool → ℕ → ℕ → List Written → Names → Checking Given
given ok at n [] ns = given_each at n [] ns
given ok at n (e ∷ []) ns = if nat_lt 1 n then given_whole ok at n e ns else given_each at n (e ∷ []) ns
given ok at n es ns = given_each at n es ns

abbrev pub is_nil : Term → Bool
is_nil Nil = true
is_nil t = false

-- a value takes the type that is wanted, or where none is its own; `nil` has none
abbrev pub wanted_code : Option ValueType → Argument → Checked Expr
wanted_code (Some t) a = rules.into t a
wanted_code None a = if is_nil a.term then rules.wrong a else rules.in_own_type a

abbrev pub wanted_type : Option ValueType → Argument → ValueType
wanted_type (Some t) a = t
wanted_type None a = rules.own_type (rules.kind_at a)

abbrev pub filled : Expr → ValueType → Filled → Filled
filled x t f = record { codes = x ∷ f.codes; types = t ∷ f.types }

abbrev pub nothing : Filled
nothing = record { codes = []; types = [] }

abbrev pub fill_each : List (Option ValueType) → List Argument → Checked Filled
fill_each ws [] = Ok nothing
fill_each [] (a ∷ as') = Ok nothing
fill_each (w ∷ ws) (a ∷ as') = and_then (wanted_code w a) (λ x. and_then (fill_each ws as') (λ f. Ok (filled x (wanted_type w a) f)))

abbrev pub is_wanted : Option ValueType → ValueType → Bool
is_wanted None t = true
is_wanted (Some u) t = types.same t u

-- a type of what a value at an offset gives is the one that is wanted
unfoldable pub fit : ℕ → ValueType → Option ValueType → Checked (Unit {0})
fit at t w = if is_wanted w t then Ok tt else fault at source.WrongType

abbrev pub fit_all : ℕ → List ValueType → List (Option ValueType) → Checked (Unit {0})
fit_all at [] ws = Ok tt
fit_all at (t ∷ ts) [] = Ok tt
fit_all at (t ∷ ts) (w ∷ ws) = and_then (fit at t w) (λ _. fit_all at ts ws)

-- the values with the types that are wanted
abbrev pub fill : List (Option ValueType) → Given → Checked Filled
fill ws (Each as') = fill_each ws as'
fill ws (Whole i ts e) = and_then (fit_all i ts ws) (λ _. Ok (record { codes = e ∷ []; types = ts }))

-- ---- assignments

abbrev pub wanted_by : Place → Option ValueType
wanted_by (place.Variable x t) = Some t
wanted_by p = None

abbrev pub assignment : List Target → List Expr → Assignment
assignment ts es = record { targets = ts; values = es }

unfoldable pub assign : ℕ → List WrittenTarget → List Written → Walking Simple
assign at ts es =
    scopes.places_of ts >>> (λ ps.
    here (given true at (length ps) es) >>> (λ g.
    as_walking (fill (map wanted_by ps) g) >>> (λ f.
    done (simple.Assign (assignment (map scopes.old_target ps) f.codes)))))

abbrev pub some_new : ℕ → List Place → Walking (Unit {0})
some_new at ps = if scopes.any_new ps then done tt else stop at source.Redeclared

-- `:=`
unfoldable pub define : ℕ → List Name → List Written → Walking Simple
define at ns es =
    scopes.defined_places ns >>> (λ ps.
    here (given true at (length ps) es) >>> (λ g.
    some_new at ps >>> (λ _.
    as_walking (fill (map wanted_by ps) g) >>> (λ f.
    scopes.targets_defined ns ps f.types >>> (λ ts.
    done (simple.Assign (assignment ts f.codes)))))))

-- ---- declarations

abbrev pub type_if : Option TypeExpr → Names → Checking (Option ValueType)
type_if None ns = pure None
type_if (Some t) ns = type_of t ns >>= (λ u. pure (Some u))

abbrev pub zeros : ℕ → ValueType → Filled
zeros n t = record { codes = replicate n (expr.Value (rules.zero_value t)); types = replicate n t }

abbrev pub given_values : ℕ → Option ValueType → ℕ → List Written → Names → Checking Filled
given_values at w n es ns = given true at n es ns >>= (λ g. lift (fill (replicate n w) g))

-- the values of variables of a declaration: without values they begin with the zero value of their type
abbrev pub initial : ℕ → Option ValueType → ℕ → List Written → Names → Checking Filled
initial at (Some t) n [] ns = pure (zeros n t)
initial at w n es ns = given_values at w n es ns

unfoldable pub var_spec : ℕ → VarSpec → Walking Assignment
var_spec at v =
    here (type_if v.kind) >>> (λ w.
    here (initial at w (length v.names) v.values) >>> (λ f.
    scopes.declare_all v.names f.types >>> (λ ts.
    done (assignment ts f.codes))))

abbrev pub var_specs : ℕ → List VarSpec → Walking (List Assignment)
var_specs at [] = done []
var_specs at (v ∷ vs) = var_spec at v >>> (λ a. var_specs at vs >>> (λ as'. done (a ∷ as')))

abbrev pub const_kind : Option ValueType → OperandKind → OperandKind
const_kind None k = k
const_kind (Some t) k = kind.Typed t

abbrev pub can_be : Option ValueType → OperandKind → Bool
can_be None k = true
can_be (Some t) k = is_assignable t k

abbrev pub const_term : ℕ → Option ValueType → Term → Checked Meaning
const_term at w (Fixed k c) = and_then (within at (const_kind w k) c) (λ d. Ok (meaning.Constant (const_kind w k) d))
const_term at w t = fault at source.NotConstant

-- what the name of a constant means: its value, with the type that is written, if any
abbrev pub const_meaning : Option ValueType → Argument → Checked Meaning
const_meaning w a = if can_be w (rules.kind_at a) then const_term a.at w a.term else rules.wrong a

abbrev pub const_value : ConstSpec → Names → Checking Meaning
const_value c ns = type_if c.kind ns >>= (λ w. value_of Written check c.value ns >>= (λ a. lift (const_meaning w a)))

unfoldable pub const_spec : ConstSpec → Walking (Unit {0})
const_spec c = here (const_value c) >>> (λ m. scopes.declare_const c.name m)

abbrev pub const_specs : List ConstSpec → Walking (Unit {0})
const_specs [] = done tt
const_specs (c ∷ cs) = const_spec c >>> (λ _. const_specs cs)

-- ---- expression statements, `go` and `defer`

abbrev pub is_name_panic : ExprForm-F ExprForm Written → Bool
is_name_panic (ExprForm-F.Plain n) = bytes_eq n.text (codes "panic")
is_name_panic x = false

-- a call that is written with the name `panic` and one argument
abbrev pub is_panic : ExprForm-F ExprForm Written → Bool
is_panic (ExprForm-F.Call f es) = is_name_panic (out-ExprForm f.form) && (length es == 1)
is_panic x = false

-- a call of a function, or a receive
abbrev pub is_done_alone : Expr-F Expr → Bool
is_done_alone (Expr-F.Call f es) = true
is_done_alone (Expr-F.Receive c) = true
is_done_alone e = false

abbrev pub eval_term : ℕ → Bool → Term → Checked Simple
eval_term at b (Computed t e) = if is_done_alone (out-Expr e) then Ok (simple.Eval e 1 b) else fault at source.BadCall
eval_term at b t = fault at source.BadCall

abbrev pub eval_operand : ℕ → Bool → ℕ → Operand → Checked Simple
eval_operand at b i (operand.Results ts e) = Ok (simple.Eval e (length ts) b)
eval_operand at b i (operand.Term t) = eval_term at b t
eval_operand at b i o = fault i source.WrongType

unfoldable pub eval : ℕ → Written → Walking Simple
eval at e = here (check e) >>> (λ p. as_walking (eval_operand at (is_panic (out-ExprForm e.form)) p.at p.operand))

abbrev pub code_of_term : ℕ → Term → Checked Expr
code_of_term at (Computed t e) = Ok e
code_of_term at t = fault at source.BadCall

-- what an operand that is a call computes
abbrev pub code_of : ℕ → ℕ → Operand → Checked Expr
code_of at i (operand.Results ts e) = Ok e
code_of at i (operand.Term t) = code_of_term at t
code_of at i o = fault i source.WrongType

-- parentheses around a call make it no call of `go` and `defer`
abbrev pub is_call : ExprForm-F ExprForm Written → Bool
is_call (ExprForm-F.Call f es) = true
is_call x = false

unfoldable pub called : ℕ → Written → Walking Expr
called at e = here (check e) >>> (λ p. as_walking (and_then (code_of at p.at p.operand) (λ x. if is_call (out-ExprForm e.form) then Ok x else fault at source.BadCall)))

abbrev pub spawned : ℕ → Expr-F Expr → Checked NodeForm
spawned at (Expr-F.Call f es) = Ok (node.Go f es)
spawned at e = fault at source.BadCall

abbrev pub deferred : ℕ → Expr-F Expr → Checked NodeForm
deferred at (Expr-F.Call f es) = Ok (node.Defer (deferral.Call f) es)
deferred at (Expr-F.Apply (op.Done g) es) = Ok (node.Defer (deferral.Done g) es)
deferred at (Expr-F.Apply (op.Unlock m) es) = Ok (node.Defer (deferral.Unlock m) es)
deferred at (Expr-F.Apply op.Close es) = Ok (node.Defer deferral.Close es)
deferred at (Expr-F.Apply (op.Println n) es) = Ok (node.Defer (deferral.Println n) es)
deferred at e = fault at source.BadCall

-- ---- sends and updates

-- a channel and the type of its values
abbrev pub channel_typed : Argument → Checked Typed
channel_typed a =
    and_then (rules.or_wrong a.at (rules.channel_of (rules.kind_at a))) (λ t.
    and_then (rules.fitted a.at t a.term) (λ x. Ok (record { of = types.element t; code = x })))

abbrev pub sent : Argument → Argument → Checked (Expr × Expr)
sent c a = and_then (channel_typed c) (λ x. and_then (rules.into x.of a) (λ y. Ok (x.code, y)))

abbrev pub send_values : Written → Written → Names → Checking (Expr × Expr)
send_values e f ns = value_of Written check e ns >>= (λ c. value_of Written check f ns >>= (λ a. lift (sent c a)))

unfoldable pub send : Written → Written → Walking Simple
send e f = here (send_values e f) >>> (λ p. done (simple.Send p.0 p.1))

abbrev pub second_of : ℕ → Variable → Op → Option Expr → Checked Simple
second_of at x o None = fault at source.WrongType
second_of at x o (Some y) = Ok (simple.Update x o y)

abbrev pub update_code : ℕ → Variable → Expr-F Expr → Checked Simple
update_code at x (Expr-F.Apply o es) = second_of at x o (slice_get es 1)
update_code at x e = fault at source.WrongType

-- an assignment with an operator does what the operator does with the variable
abbrev pub update_term : ℕ → Variable → Term → Checked Simple
update_term at x (Computed t e) = update_code at x (out-Expr e)
update_term at x t = fault at source.WrongType

abbrev pub as_argument : ℕ → Variable → ValueType → Argument
as_argument at x t = record { at = at; term = Computed t (expr.Variable x) }

abbrev pub updated : ℕ → Operator → Place → Argument → Checked Simple
updated at o (place.Variable x t) a = and_then (rules.binary at o (as_argument at x t) a) (λ r. update_term at x r)
updated at o p a = fault at source.WrongType

-- `_` can't be read
abbrev pub read_place : WrittenTarget → Walking Place
read_place (written.Plain n) = scopes.place_named n
read_place (written.Member p n) = scopes.place_of (written.Member p n)

unfoldable pub update : ℕ → WrittenTarget → BinaryOp → Written → Walking Simple
update at t o e =
    read_place t >>> (λ p. scopes.read_at p >>> (λ _. here (value_of Written check e) >>> (λ a. as_walking (updated at (operator_of o) p a))))

abbrev pub one : ℕ → Argument
one at = record { at = at; term = Fixed (kind.Untyped untyped.Int) (Number (pos 1)) }

-- `++` and `--`
unfoldable pub step : ℕ → WrittenTarget → Operator → Walking Simple
step at t o = read_place t >>> (λ p. scopes.read_at p >>> (λ _. as_walking (updated at o p (one at))))

-- ---- `return`

unfoldable pub return_of : ℕ → List Written → Walking NodeForm
return_of at es = λ s.
    (here (given false at (length s.results) es) >>> (λ g.
    as_walking (fill (map (λ t. Some t) s.results) g) >>> (λ f.
    done (node.Return f.codes (length s.results))))) s
