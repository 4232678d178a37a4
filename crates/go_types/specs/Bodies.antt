-- Statements with lists in them, and the bodies of functions. Lists are numbered in the order in which they are cut: all
-- clauses of a `switch` or `select` before the lists nested in them. Go specification, "Blocks", "Declarations and scope",
-- "If statements", "For statements", "Switch statements", "Select statements", "Labeled statements".
use Rattle.std.specs.Prelude.{ℕ, suc, ◌+◌, ◌==◌, nat_lt, Bool, true, false, not, ◌&&◌, List, [], ◌∷◌, ◌++◌, length, map, slice_get, Option, Some, None, Ok, unwrap_or, if◌then◌else◌}
use Rattle.std.specs.List.{list_all}
use Rattle.std.specs.Option.{option_map_or}
use Rattle.go_ast.specs.declared.span.Span.{Span}
use Rattle.go_ast.specs.declared.kind.SourceKind.TheVariants as source
use Rattle.go_ast.specs.declared.name.Name.{Name}
use Rattle.go_ast.specs.declared.expr.BinaryOp.TheVariants as binary
use Rattle.go_ast.specs.declared.expr.Expr.{Expr as Written}
use Rattle.go_ast.specs.declared.block.Target.{Target as WrittenTarget}
use Rattle.go_ast.specs.declared.block.Comm.{Comm as WrittenComm}
use Rattle.go_ast.specs.declared.block.Comm.TheVariants as written
use Rattle.go_ast.specs.declared.block.Block.{Block, out-Block}
use Rattle.go_ast.specs.declared.block.Other.{Other, out-Other}
use Rattle.go_ast.specs.declared.block.CaseClause.{CaseClause, out-CaseClause}
use Rattle.go_ast.specs.declared.block.CommClause.{CommClause, out-CommClause}
use Rattle.go_ast.specs.declared.block.Stmt.{Stmt, fold-Stmt}
use Rattle.go_ast.specs.declared.block.StmtForm.{StmtForm}
use Rattle.go_ast.specs.declared.block.StmtForm.TheOpen.{StmtForm-F, Stmt-F, Block-F, Other-F, CaseClause-F, CommClause-F}
use Rattle.go_value.specs.declared.operation.IntOp.TheVariants as int
use Rattle.go_meaning.specs.declared.value.Value.TheVariants as value'
use Rattle.go_meaning.specs.declared.expr.Expr.{Expr, out-Expr}
use Rattle.go_meaning.specs.declared.expr.Expr.TheVariants as expr
use Rattle.go_meaning.specs.declared.expr.Target.{Target}
use Rattle.go_meaning.specs.declared.expr.Target.TheVariants as target
use Rattle.go_meaning.specs.declared.node.Simple.{Simple}
use Rattle.go_meaning.specs.declared.node.CaseClause.{CaseClause as CaseNode}
use Rattle.go_meaning.specs.declared.node.CommClause.{CommClause as CommNode}
use Rattle.go_meaning.specs.declared.node.Comm.{Comm}
use Rattle.go_meaning.specs.declared.node.Comm.TheVariants as comm
use Rattle.go_meaning.specs.declared.node.Node.{Node}
use Rattle.go_meaning.specs.declared.node.NodeForm.{NodeForm}
use Rattle.go_meaning.specs.declared.node.NodeForm.TheVariants as node
use Rattle.go_types.specs.declared.types.Basic.TheVariants as basic'
use Rattle.go_types.specs.declared.types.ValueType.{ValueType}
use Rattle.go_types.specs.declared.kinds.OperandKind.{OperandKind}
use Rattle.go_types.specs.declared.kinds.OperandKind.TheVariants as kind
use Rattle.go_types.specs.declared.operator.Operator.TheVariants.{Arithmetic}
use Rattle.go_types.specs.declared.constant.Constant.{Constant}
use Rattle.go_types.specs.declared.constant.Constant.TheVariants.{Flag, Number, Text}
use Rattle.go_types.specs.declared.operand.Term.{Term}
use Rattle.go_types.specs.declared.operand.Term.TheVariants.{Constant as Fixed}
use Rattle.go_types.specs.declared.operand.Argument.{Argument}
use Rattle.go_types.specs.declared.given.Typed.{Typed}
use Rattle.go_types.specs.declared.given.Ranged.{Ranged}
use Rattle.go_types.specs.declared.cases.Seen.{Seen}
use Rattle.go_types.specs.declared.walk.Place.{Place}
use Rattle.go_types.specs.declared.walk.Place.TheVariants as place
use Rattle.go_types.specs.declared.walk.Position.{Position}
use Rattle.go_types.specs.declared.walk.Walk.{Walk}
use Rattle.go_types.specs.Types as types
use Rattle.go_types.specs.Kinds.{is_text}
use Rattle.go_types.specs.Cases.{seen_with, with_default, no_case}
use Rattle.go_types.specs.Operands as rules
use Rattle.go_types.specs.Checking.{Checked, and_then, fault, Checking, ◌>>=◌, pure, lift}
use Rattle.go_types.specs.Expressions.{check, value_of}
use Rattle.go_types.specs.Walking.{Walking, ◌>>>◌, done, as_walking, stop, here, scoped, within, new_lists, set_list}
use Rattle.go_types.specs.Scopes as scopes
use Rattle.go_types.specs.Statements as statements

-- ---- where a statement stands

abbrev pub alone : Position
alone = record { colon = None; next = None; label = None }

abbrev pub bearing : ℕ → Position → Position
bearing l p = record p { label = Some l }

-- a block whose brace follows its clause's colon
abbrev pub is_at_colon : Position → ℕ → Bool
is_at_colon p left = option_map_or (λ colon. left == colon + 1) p.colon false

-- ---- conditions, tags and ranges

abbrev pub condition : Written → Walking Expr
condition e = here (value_of Written check e) >>> (λ a. as_walking (rules.into types.flag a))

unfoldable pub condition_if : Option Written → Walking (Option Expr)
condition_if None = done None
condition_if (Some e) = condition e >>> (λ x. done (Some x))

abbrev pub tag_value : Argument → Checked Typed
tag_value a = and_then (statements.wanted_code None a) (λ x. Ok (record { of = statements.wanted_type None a; code = x }))

-- without an expression the tag is `true`
abbrev pub tag : Option Written → Walking Typed
tag None = done (record { of = types.flag; code = expr.Value (value'.Flag true) })
tag (Some e) = here (value_of Written check e) >>> (λ a. as_walking (tag_value a))

-- the types of what a `range` gives, and of what it goes over
abbrev pub ranged_types : OperandKind → List ValueType
ranged_types k = if is_text k then types.int ∷ types.basic basic'.Int32 ∷ [] else option_map_or (λ t. types.element t ∷ []) (rules.channel_of k) (types.int ∷ types.int ∷ [])

abbrev pub ranged_over : Argument → Checked Expr
ranged_over a = rules.measurable a

abbrev pub all_blank : List Name → Bool
all_blank ns = list_all (λ (n : Name). scopes.is_blank n.text) ns

-- names that are declared: not more than there are values, and not all blank
abbrev pub count_names : ℕ → ℕ → List Name → Checked (Unit {0})
count_names at n [] = Ok tt
count_names at n ns =
    if nat_lt n (length ns) then fault at source.WrongCount else (if all_blank ns then fault at source.Redeclared else Ok tt)

abbrev pub target_at : List Target → ℕ → Target
target_at ts k = unwrap_or (slice_get ts k) target.Blank

abbrev pub range_node : Bool → List Target → Expr → ℕ → NodeForm
range_node true ts x l = node.RangeText (target_at ts 0) (target_at ts 1) x l
range_node false ts x l = node.RangeChannel (target_at ts 0) x l

-- what stands behind `range`
unfoldable pub ranged : ℕ → List Name → Written → Walking Ranged
ranged at ns e =
    here (value_of Written check e) >>> (λ a.
    as_walking (count_names at (length (ranged_types (rules.kind_at a))) ns) >>> (λ _.
    as_walking (ranged_over a) >>> (λ x.
    scopes.declare_all ns (ranged_types (rules.kind_at a)) >>> (λ ts.
    done (record { text = is_text (rules.kind_at a); targets = ts; code = x })))))

-- ---- what the clauses of a `select` wait for

abbrev pub first_at : List WrittenTarget → ℕ
first_at [] = 0
first_at (t ∷ ts) = scopes.at_target t

abbrev pub first_name_at : List Name → ℕ
first_name_at [] = 0
first_name_at (n ∷ ns) = n.at

-- a target has the type of what it takes
abbrev pub take_fits : List WrittenTarget → List Place → List ValueType → Checked (Unit {0})
take_fits (w ∷ ws) (p ∷ ps) (t ∷ ts) =
    if statements.is_wanted (statements.wanted_by p) t then take_fits ws ps ts else fault (scopes.at_target w) source.WrongType
take_fits ws ps ts = Ok tt

abbrev pub take_count : List WrittenTarget → Checked (Unit {0})
take_count ts = if nat_lt 2 (length ts) then fault (first_at ts) source.WrongCount else Ok tt

unfoldable pub take_of : List WrittenTarget → Written → Walking Comm
take_of ts e =
    scopes.places_of ts >>> (λ ps.
    here (value_of Written check e) >>> (λ a.
    as_walking (take_count ts) >>> (λ _.
    as_walking (statements.channel_typed a) >>> (λ c.
    as_walking (take_fits ts ps (statements.received_types c.of)) >>> (λ _.
    done (comm.Receive c.code (map scopes.old_target ps)))))))

unfoldable pub take_new_of : List Name → Written → Walking Comm
take_new_of ns e =
    here (value_of Written check e) >>> (λ a.
    as_walking (count_names (first_name_at ns) 2 ns) >>> (λ _.
    as_walking (statements.channel_typed a) >>> (λ c.
    scopes.declare_all ns (statements.received_types c.of) >>> (λ ts.
    done (comm.Receive c.code ts)))))

abbrev pub comm_of : WrittenComm → Walking Comm
comm_of written.Default = done comm.Default
comm_of (written.Send e f) = here (statements.send_values e f) >>> (λ p. done (comm.Send p.0 p.1))
comm_of (written.Take ts e) = take_of ts e
comm_of (written.TakeNew ns e) = take_new_of ns e

-- ---- the values of a clause of a `switch`

abbrev pub case_constant : Term → Option Constant
case_constant (Fixed k (Number z)) = Some (Number z)
case_constant (Fixed k (Text s)) = Some (Text s)
case_constant t = None

unfoldable pub case_value : ValueType → Seen → Written → Walking (Expr × Seen)
case_value t seen e =
    here (value_of Written check e) >>> (λ a.
    as_walking (rules.into t a) >>> (λ x.
    as_walking (seen_with a.at (case_constant a.term) seen) >>> (λ more. done (x, more))))

abbrev pub case_values : ValueType → Seen → List Written → Walking (List Expr × Seen)
case_values t seen [] = done ([], seen)
case_values t seen (e ∷ es) = case_value t seen e >>> (λ r. case_values t r.1 es >>> (λ q. done (r.0 ∷ q.0, q.1)))

-- `at` is the offset of the `switch`
abbrev pub case_head : ℕ → ValueType → Seen → Option (List Written) → Walking (Option (List Expr) × Seen)
case_head at t seen None = as_walking (with_default at seen) >>> (λ more. done (None, more))
case_head at t seen (Some es) = case_values t seen es >>> (λ r. done (Some r.0, r.1))

-- ---- statements without lists

abbrev pub fall : ℕ → Option ℕ → Checked NodeForm
fall at (Some l) = Ok (node.Fallthrough l)
fall at None = fault at source.BadLabel

-- a counter of the file is a unit of the program
abbrev pub count : ℕ → Walking NodeForm
count u = λ s. Ok (node.Count (s.first_unit + u), s)

unfoldable pub simple_form : {F B C M O S : Type 0} → StmtForm-F F B C M O S → ℕ → Walking Simple
simple_form (StmtForm-F.Eval e) at = statements.eval at e
simple_form (StmtForm-F.Send e f) at = statements.send e f
simple_form (StmtForm-F.Up t) at = statements.step at t (Arithmetic int.Add)
simple_form (StmtForm-F.Down t) at = statements.step at t (Arithmetic int.Sub)
simple_form (StmtForm-F.Update t o e) at = statements.update at t o e
simple_form (StmtForm-F.Assign ts es) at = statements.assign at ts es
simple_form (StmtForm-F.Define ns es) at = statements.define at ns es
simple_form x at = stop at source.BadCall

unfoldable pub plain_form : {F B C M O S : Type 0} → StmtForm-F F B C M O S → ℕ → Position → Walking NodeForm
plain_form (StmtForm-F.Const cs) at p = statements.const_specs cs >>> (λ _. done node.Const)
plain_form (StmtForm-F.Var vs) at p = statements.var_specs at vs >>> (λ as'. done (node.Var as'))
plain_form (StmtForm-F.Return es) at p = statements.return_of at es
plain_form (StmtForm-F.Break n) at p = scopes.jump false at n >>> (λ k. done (node.Break k))
plain_form (StmtForm-F.Continue n) at p = scopes.jump true at n >>> (λ k. done (node.Continue k))
plain_form StmtForm-F.Fallthrough at p = as_walking (fall at p.next)
plain_form (StmtForm-F.Go e) at p = statements.called at e >>> (λ x. as_walking (statements.spawned at (out-Expr x)))
plain_form (StmtForm-F.Defer e) at p = statements.called at e >>> (λ x. as_walking (statements.deferred at (out-Expr x)))
plain_form (StmtForm-F.Count u) at p = count u
plain_form x at p = simple_form x at >>> (λ y. done (node.Simple y))

-- the simple statement before a condition or behind it
abbrev pub simple_in : NodeForm → Option Simple
simple_in (node.Simple x) = Some x
simple_in form = None

abbrev pub simple_if : ℕ → Option Simple → Checked Simple
simple_if at (Some x) = Ok x
simple_if at None = fault at source.BadCall

abbrev pub simple_of : Node → Checked Simple
simple_of n = simple_if n.span.start (simple_in n.form)

-- ---- a layer of the tree, with what checks its parts

pub record CaseParts : Type 0 where
  pub values : Option (List Written)
  pub list : Option ℕ → Walking (List Node)

pub record CommParts : Type 0 where
  pub comm : WrittenComm
  pub list : Walking (List Node)

pub record BlockParts : Type 0 where
  pub left : ℕ
  pub list : Walking ℕ

abbrev pub Checks : Type 0
Checks = Position → Walking Node

-- a list under its number
abbrev pub numbered : ℕ → Walking (List Node) → Walking ℕ
numbered l p = p >>> (λ ns. set_list l ns >>> (λ _. done l))

-- a list in a scope of its own, under the next number
abbrev pub braced : Walking (List Node) → Walking ℕ
braced p = new_lists 1 >>> (λ l. numbered l (scoped p))

-- what is said of the last statement of a list, where so many follow
abbrev pub next_at : ℕ → Option ℕ → Option ℕ
next_at n next = if n == 0 then next else None

module _ (S : Type 0) (stmt : S → Checks) where
  -- the statements of a list: what is said of the first, and of the last
  abbrev pub list_of : Option ℕ → Option ℕ → List S → Walking (List Node)
  list_of colon next [] = done []
  list_of colon next (s ∷ ss) =
      stmt s (record { colon = colon; next = next_at (length ss) next; label = None }) >>> (λ n. list_of None next ss >>> (λ ns. done (n ∷ ns)))

  abbrev pub first_of : Option S → Walking (Option Simple)
  first_of None = done None
  first_of (Some s) = stmt s alone >>> (λ n. as_walking (simple_of n) >>> (λ x. done (Some x)))

abbrev pub FormChecks : Type 0
FormChecks = ℕ → Position → Walking NodeForm

abbrev pub node_at : Span → NodeForm → Walking Node
node_at span form = done (record { span = span; form = form })

-- a clause, its list under a number; `at` is the offset of the `switch`
unfoldable pub clause : ℕ → ValueType → ℕ → Option ℕ → Seen → CaseParts → Walking (CaseNode × Seen)
clause at t l next seen c =
    case_head at t seen c.values >>> (λ r. numbered l (scoped (c.list next)) >>> (λ _. done (record { values = r.0; list = l }, r.1)))

abbrev pub none_seen : Seen
none_seen = no_case

abbrev pub after : ℕ → ℕ
after l = l + 1

-- the list of the next clause, where so many follow
abbrev pub next_clause : ℕ → ℕ → Option ℕ
next_clause l n = if n == 0 then None else Some (l + 1)

module _ (C : Type 0) (parts : C → CaseParts) where
  abbrev pub clauses_of : ℕ → ValueType → ℕ → Seen → List C → Walking (List CaseNode)
  clauses_of at t l seen [] = done []
  clauses_of at t l seen (c ∷ cs) =
      clause at t l (next_clause l (length cs)) seen (parts c) >>> (λ r. clauses_of at t (l + 1) r.1 cs >>> (λ rs. done (r.0 ∷ rs)))

-- at most one clause of a `select` is its `default`
abbrev pub comm_seen : ℕ → Seen → WrittenComm → Checked Seen
comm_seen at seen written.Default = with_default at seen
comm_seen at seen x = Ok seen

-- what a clause of a `select` declares is known in its list
unfoldable pub comm_clause : ℕ → ℕ → Seen → CommParts → Walking (CommNode × Seen)
comm_clause at l seen m =
    as_walking (comm_seen at seen m.comm) >>> (λ more.
    scoped (comm_of m.comm >>> (λ x. numbered l m.list >>> (λ _. done x))) >>> (λ x.
    done (record { comm = x; list = l }, more)))

module _ (M : Type 0) (parts : M → CommParts) where
  abbrev pub comm_clauses_of : ℕ → ℕ → Seen → List M → Walking (List CommNode)
  comm_clauses_of at l seen [] = done []
  comm_clauses_of at l seen (m ∷ ms) =
      comm_clause at l seen (parts m) >>> (λ r. comm_clauses_of at (l + 1) r.1 ms >>> (λ rs. done (r.0 ∷ rs)))

abbrev pub block_at : ℕ → Position → Walking ℕ → Walking NodeForm
block_at left p block = block >>> (λ l. done (node.Block l (is_at_colon p left)))

unfoldable pub if_parts : Written → Walking (Option Simple) → Walking ℕ → Walking (Option ℕ) → Walking NodeForm
if_parts e first then_list other = first >>> (λ f. condition e >>> (λ x. then_list >>> (λ l. other >>> (λ k. done (node.If f x l k)))))

-- what the last part of a `for` declares is known nowhere else
unfoldable pub last_part : Walking (Option Simple) → Walking (Option Simple)
last_part p = scoped p

-- the list of a loop, which `break` and `continue` can leave
unfoldable pub repeated : Option ℕ → Walking ℕ → Walking ℕ
repeated label p = within (record { label = label; repeats = true }) p

unfoldable pub for_parts : Option Written → Walking (Option Simple) → Walking (Option Simple) → Walking ℕ → Walking NodeForm
for_parts e first last body = first >>> (λ f. condition_if e >>> (λ x. last >>> (λ g. body >>> (λ l. done (node.For f x g l)))))

unfoldable pub range_parts : ℕ → List Name → Written → Walking ℕ → Walking NodeForm
range_parts at ns e body = ranged at ns e >>> (λ r. body >>> (λ l. done (range_node r.text r.targets r.code l)))

-- all clauses have their numbers before the lists that are nested in them
unfoldable pub switch_parts : Option ℕ → ℕ → Option Written → Walking (Option Simple) → (ValueType → ℕ → Walking (List CaseNode)) → Walking NodeForm
switch_parts label n e first clauses =
    first >>> (λ f.
    tag e >>> (λ t.
    new_lists n >>> (λ l.
    within (record { label = label; repeats = false }) (clauses t.of l) >>> (λ xs. done (node.Switch f t.code xs)))))

unfoldable pub select_parts : Option ℕ → ℕ → (ℕ → Walking (List CommNode)) → Walking NodeForm
select_parts label n clauses =
    new_lists n >>> (λ l. within (record { label = label; repeats = false }) (clauses l) >>> (λ xs. done (node.Select xs)))

abbrev pub labelled : Name → Position → Checks → Walking NodeForm
labelled n p stmt = scopes.new_label n >>> (λ l. stmt (bearing l p) >>> (λ x. done x.form))

module _ (B C M O S : Type 0) (block : B → BlockParts) (case : C → CaseParts) (comm : M → CommParts) (other : O → Walking ℕ) (stmt : S → Checks) where
  abbrev pub other_of : Option O → Walking (Option ℕ)
  other_of None = done None
  other_of (Some o) = other o >>> (λ l. done (Some l))

  abbrev pub loop_layer : {F : Type 0} → StmtForm-F F B C M O S → FormChecks
  loop_layer (StmtForm-F.For first e last b) at p =
      scoped (for_parts e (first_of S stmt first) (last_part (first_of S stmt last)) (repeated p.label (block b).list))
  loop_layer (StmtForm-F.Range ns e b) at p = scoped (range_parts at ns e (repeated p.label (block b).list))
  loop_layer x at p = plain_form x at p

  abbrev pub branch_layer : {F : Type 0} → StmtForm-F F B C M O S → FormChecks
  branch_layer (StmtForm-F.If first e b o) at p = scoped (if_parts e (first_of S stmt first) (block b).list (other_of o))
  branch_layer (StmtForm-F.Switch first e left cs) at p =
      scoped (switch_parts p.label (length cs) e (first_of S stmt first) (λ t l. clauses_of C case at t l none_seen cs))
  branch_layer x at p = loop_layer x at p

  abbrev pub form_layer : {F : Type 0} → StmtForm-F F B C M O S → FormChecks
  form_layer (StmtForm-F.Block b) at p = block_at (block b).left p (block b).list
  form_layer (StmtForm-F.Label n s) at p = labelled n p (stmt s)
  form_layer (StmtForm-F.Select left ms) at p = select_parts p.label (length ms) (λ l. comm_clauses_of M comm at l none_seen ms)
  form_layer x at p = branch_layer x at p

-- ---- the tree

abbrev pub form_step : StmtForm-F FormChecks BlockParts CaseParts CommParts (Walking ℕ) Checks → FormChecks
form_step = form_layer BlockParts CaseParts CommParts (Walking ℕ) Checks (λ b. b) (λ c. c) (λ m. m) (λ o. o) (λ s. s)

abbrev pub block_step : Block-F FormChecks BlockParts CaseParts CommParts (Walking ℕ) Checks → BlockParts
block_step b = record { left = b.left; list = braced (list_of Checks (λ s. s) None None b.list) }

abbrev pub case_step : CaseClause-F FormChecks BlockParts CaseParts CommParts (Walking ℕ) Checks → CaseParts
case_step c = record { values = c.values; list = λ next. list_of Checks (λ s. s) (Some c.colon) next c.list }

abbrev pub comm_step : CommClause-F FormChecks BlockParts CaseParts CommParts (Walking ℕ) Checks → CommParts
comm_step c = record { comm = c.comm; list = list_of Checks (λ s. s) (Some c.colon) None c.list }

abbrev pub other_step : Other-F FormChecks BlockParts CaseParts CommParts (Walking ℕ) Checks → Walking ℕ
other_step o = o.block.list

abbrev pub stmt_step : Stmt-F FormChecks BlockParts CaseParts CommParts (Walking ℕ) Checks → Checks
stmt_step s = λ p. s.form s.span.start p >>> (λ f. node_at s.span f)

-- what a statement is checked to be, at its place in its list
unfoldable pub check_stmt : Stmt → Checks
check_stmt = fold-Stmt FormChecks BlockParts CaseParts CommParts (Walking ℕ) Checks form_step block_step case_step comm_step other_step stmt_step

-- ---- one layer, where the parts are trees

abbrev pub block_parts : Block → BlockParts
block_parts b = record { left = (out-Block b).left; list = braced (list_of Stmt check_stmt None None (out-Block b).list) }

abbrev pub case_parts : CaseClause → CaseParts
case_parts c = record { values = (out-CaseClause c).values; list = λ next. list_of Stmt check_stmt (Some (out-CaseClause c).colon) next (out-CaseClause c).list }

abbrev pub comm_parts_of : CommClause → CommParts
comm_parts_of c = record { comm = (out-CommClause c).comm; list = list_of Stmt check_stmt (Some (out-CommClause c).colon) None (out-CommClause c).list }

abbrev pub other_parts : Other → Walking ℕ
other_parts o = (block_parts (out-Other o).block).list

abbrev pub other_of_tree : Option Other → Walking (Option ℕ)
other_of_tree o = other_of Block CaseClause CommClause Other Stmt block_parts case_parts comm_parts_of other_parts check_stmt o

abbrev pub form_of : StmtForm-F StmtForm Block CaseClause CommClause Other Stmt → FormChecks
form_of = form_layer Block CaseClause CommClause Other Stmt block_parts case_parts comm_parts_of other_parts check_stmt

abbrev pub branch_of : StmtForm-F StmtForm Block CaseClause CommClause Other Stmt → FormChecks
branch_of = branch_layer Block CaseClause CommClause Other Stmt block_parts case_parts comm_parts_of other_parts check_stmt

abbrev pub loop_of : StmtForm-F StmtForm Block CaseClause CommClause Other Stmt → FormChecks
loop_of = loop_layer Block CaseClause CommClause Other Stmt block_parts case_parts comm_parts_of other_parts check_stmt

-- the statements of a function, whose parameters share their scope
abbrev pub body : List Stmt → Walking ℕ
body ss = new_lists 1 >>> (λ l. numbered l (list_of Stmt check_stmt None None ss))
