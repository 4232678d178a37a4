-- What holds of every program: its numbers are in range, and its lists stand in order.
use Rattle.std.specs.Prelude.{◌≡◌, ℕ, ◌≤◌, ◌<◌, List, [], ◌∷◌, ◌++◌, Option, Some, None, length, sum_by, flat_map, count_by, Bool, true, false, slice_get}
use Rattle.std.specs.Option.{MatchOption}
use Rattle.go_meaning.specs.declared.expr.Variable.{Variable}
use Rattle.go_meaning.specs.declared.expr.Variable.TheVariants.{Slot, Global as Package}
use Rattle.go_meaning.specs.declared.expr.Target.{Target}
use Rattle.go_meaning.specs.declared.expr.Target.TheVariants as target
use Rattle.go_meaning.specs.declared.expr.Op.{Op}
use Rattle.go_meaning.specs.declared.expr.Op.TheVariants as op
use Rattle.go_meaning.specs.declared.expr.Expr.{Expr, fold-Expr}
use Rattle.go_meaning.specs.declared.expr.Expr.TheOpen.{Expr-F}
use Rattle.go_meaning.specs.declared.node.Assignment.{Assignment}
use Rattle.go_meaning.specs.declared.node.Simple.{Simple}
use Rattle.go_meaning.specs.declared.node.Simple.TheVariants as simple
use Rattle.go_meaning.specs.declared.node.Deferral.{Deferral}
use Rattle.go_meaning.specs.declared.node.Deferral.TheVariants as deferral
use Rattle.go_meaning.specs.declared.node.CaseClause.{CaseClause}
use Rattle.go_meaning.specs.declared.node.CommClause.{CommClause}
use Rattle.go_meaning.specs.declared.node.Comm.{Comm}
use Rattle.go_meaning.specs.declared.node.Comm.TheVariants as comm
use Rattle.go_meaning.specs.declared.node.NodeForm.{NodeForm}
use Rattle.go_meaning.specs.declared.node.NodeForm.TheVariants as node
use Rattle.go_meaning.specs.declared.program.Function.{Function}
use Rattle.go_meaning.specs.declared.program.ProgramPackage.{ProgramPackage}
use Rattle.go_meaning.specs.declared.program.Global.{Global}
use Rattle.go_meaning.specs.declared.program.Global.TheVariants as global
use Rattle.go_meaning.specs.Programs.{Parts, form_at, owner_of}
use Rattle.go_meaning.specs.Lists.{Nest, cutting_order, AreOrdered}

-- what a statement uses by a number
pub data Use : Type 0 where
  variable : Variable → Use
  mutex : ℕ → Use
  group : ℕ → Use
  function : ℕ → Use

abbrev pub uses_of_op : Op → List Use
uses_of_op (op.Lock m) = mutex m ∷ []
uses_of_op (op.Unlock m) = mutex m ∷ []
uses_of_op (op.Add g) = group g ∷ []
uses_of_op (op.Done g) = group g ∷ []
uses_of_op (op.Wait g) = group g ∷ []
uses_of_op o = []

abbrev pub joined : List (List Use) → List Use
joined us = flat_map (λ u. u) us

abbrev pub uses_layer : Expr-F (List Use) → List Use
uses_layer (Expr-F.Value v) = []
uses_layer (Expr-F.Variable x) = variable x ∷ []
uses_layer (Expr-F.And a b) = a ++ b
uses_layer (Expr-F.Or a b) = a ++ b
uses_layer (Expr-F.Apply o es) = uses_of_op o ++ joined es
uses_layer (Expr-F.Receive a) = a
uses_layer (Expr-F.ReceiveOk a) = a
uses_layer (Expr-F.Call f es) = function f ∷ joined es

unfoldable pub uses : Expr → List Use
uses e = fold-Expr (List Use) uses_layer e

abbrev pub all_uses : List Expr → List Use
all_uses es = flat_map uses es

abbrev pub uses_of_target : Target → List Use
uses_of_target target.Blank = []
uses_of_target (target.Variable x) = variable x ∷ []

abbrev pub uses_of_assignment : Assignment → List Use
uses_of_assignment a = flat_map uses_of_target a.targets ++ all_uses a.values

abbrev pub uses_of_simple : Simple → List Use
uses_of_simple (simple.Eval e n b) = uses e
uses_of_simple (simple.Send a b) = uses a ++ uses b
uses_of_simple (simple.Update x o e) = variable x ∷ uses_of_op o ++ uses e
uses_of_simple (simple.Assign a) = uses_of_assignment a

abbrev pub uses_of_first : Option Simple → List Use
uses_of_first None = []
uses_of_first (Some s) = uses_of_simple s

abbrev pub uses_of_test : Option Expr → List Use
uses_of_test None = []
uses_of_test (Some e) = uses e

abbrev pub uses_of_values : Option (List Expr) → List Use
uses_of_values None = []
uses_of_values (Some es) = all_uses es

abbrev pub uses_of_deferral : Deferral → List Use
uses_of_deferral (deferral.Call f) = function f ∷ []
uses_of_deferral (deferral.Done g) = group g ∷ []
uses_of_deferral (deferral.Unlock m) = mutex m ∷ []
uses_of_deferral d = []

abbrev pub uses_of_comm : Comm → List Use
uses_of_comm comm.Default = []
uses_of_comm (comm.Send a b) = uses a ++ uses b
uses_of_comm (comm.Receive e ts) = uses e ++ flat_map uses_of_target ts

abbrev pub uses_of_form : NodeForm → List Use
uses_of_form node.Const = []
uses_of_form (node.Var as') = flat_map uses_of_assignment as'
uses_of_form (node.Simple s) = uses_of_simple s
uses_of_form (node.Block l b) = []
uses_of_form (node.If first e a o) = uses_of_first first ++ uses e
uses_of_form (node.For first e last l) = uses_of_first first ++ uses_of_test e ++ uses_of_first last
uses_of_form (node.RangeText o r e l) = uses_of_target o ++ uses_of_target r ++ uses e
uses_of_form (node.RangeChannel v e l) = uses_of_target v ++ uses e
uses_of_form (node.Switch first e cs) = uses_of_first first ++ uses e ++ flat_map (λ (c : CaseClause). uses_of_values c.values) cs
uses_of_form (node.Select cs) = flat_map (λ (c : CommClause). uses_of_comm c.comm) cs
uses_of_form (node.Return es n) = all_uses es
uses_of_form (node.Break k) = []
uses_of_form (node.Continue k) = []
uses_of_form (node.Fallthrough l) = []
uses_of_form (node.Go f es) = function f ∷ all_uses es
uses_of_form (node.Defer d es) = uses_of_deferral d ++ all_uses es
uses_of_form (node.Count u) = []

-- how many package variables are values, mutexes, wait groups
abbrev pub is_value : Global → Bool
is_value (global.Value v) = true
is_value (global.Make v n) = true
is_value global.Mutex = false
is_value global.Group = false

abbrev pub is_mutex : Global → Bool
is_mutex global.Mutex = true
is_mutex g = false

abbrev pub is_group : Global → Bool
is_group global.Group = true
is_group g = false

-- what is used is there, within a function of so many slots
abbrev pub IsThere : Parts → ℕ → Use → Type 0
IsThere P slots (variable (Slot s)) = s < slots
IsThere P slots (variable (Package g)) = g < count_by is_value P.globals
IsThere P slots (mutex m) = m < count_by is_mutex P.globals
IsThere P slots (group g) = g < count_by is_group P.globals
IsThere P slots (function f) = f < length P.functions

abbrev pub AreThere : Parts → ℕ → List Use → Type 0
AreThere P slots [] = Unit {0}
AreThere P slots (u ∷ us) = IsThere P slots u × AreThere P slots us

-- `break` and `continue` leave statements that are there, `fallthrough` leads to a list, a `select` is short enough, and a
-- counter is that of a unit
abbrev pub IsWithin : Parts → ℕ → NodeForm → Type 0
IsWithin P marks (node.Break k) = k < marks
IsWithin P marks (node.Continue k) = k < marks
IsWithin P marks (node.Fallthrough l) = l < length P.lists
IsWithin P marks (node.Select cs) = length cs ≤ 1000
IsWithin P marks (node.Count u) = u < P.units
IsWithin P marks form = Unit {0}

pub record IsStatement (P : Parts) (at : Nest) (form : NodeForm) : Type 0 where
  pub uses : AreThere P (owner_of P at.list).slots (uses_of_form form)
  pub within : IsWithin P at.marks form

pub record IsProgram (P : Parts) : Type 0 where
  pub ordered : AreOrdered P
  -- each statement of each list
  pub statements : (k i : ℕ) → MatchOption (slice_get (cutting_order P) k) (Unit {0}) (λ at. MatchOption (form_at P at.list i) (Unit {0}) (IsStatement P at))
  pub params : (f : ℕ) → MatchOption (slice_get P.functions f) (Unit {0}) (λ (g : Function). g.params ≤ g.slots)
  pub main : P.main < length P.functions
  pub packages : sum_by (λ (p : ProgramPackage). p.functions) P.packages ≡ length P.functions
