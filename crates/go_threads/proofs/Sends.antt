-- Which types may cross threads.
use denote.RattleType.{RattleType}
use denote.Plain.{UInt}
use denote.Enum.Declared as declared
use denote.Enum.Enum.{Enum}
use denote.Struct.Struct.{Struct}
use denote.Struct.Declared as structs
use Rattle.go_meaning.specs.contracts.node.Node as Node
use Rattle.go_meaning.specs.contracts.node.NodeForm as NodeForm
use Rattle.go_meaning.specs.contracts.node.Simple as Simple
use Rattle.go_meaning.specs.contracts.node.CaseClause as CaseClause
use Rattle.go_meaning.specs.contracts.node.CommClause as CommClause
use Rattle.go_meaning.specs.contracts.node.Assignment as Assignment
use Rattle.go_meaning.specs.contracts.program.Program as Program
use Rattle.go_meaning.specs.contracts.program.Program.TheInside as ProgramInside
use Rattle.go_meaning.specs.contracts.program.ProgramPackage as ProgramPackage
use Rattle.go_meaning.specs.contracts.program.Function as Function
use Rattle.go_meaning.specs.contracts.program.Global as Global
use Rattle.atomic_table.specs.contracts.shared.Seat as Inner
use Rattle.atomic_table.proofs.shared.Seat.TheSendSync.{the_send as inner_send}
use Rattle.cov_cells.specs.contracts.view.View as View
use Rattle.cov_cells.specs.contracts.cells.Seat as Seat
use Rattle.cov_cells.specs.contracts.cells.Cells as Cells
use Rattle.go_threads.specs.contracts.back.Back as Back
use Rattle.atomic_table.specs.contracts.shared.Shared as Shared
use Rattle.cov_cells.specs.contracts.start.Start as Start
use Rattle.atomic_table.proofs.send_lease.SendLease.TheSendSync.{the_sync as lease_sync}
use Rattle.cov_cells.specs.contracts.rule.Rule as Rule
use Rattle.cov_cells.specs.contracts.rule.RuleTableRuleOptionRunViewStart.TheImpl as RuleOf
use Rattle.atomic_table.proofs.shared.Shared.TheSendSync.{the_sync as shared_sync}
use Rattle.std.proofs.Common.{w64}
use Rattle.go_state.specs.contracts.run.Run.TheInside as Inside
use denote.Param.Send.{IsSend, IsSync, sendable, recorded_send, struct_send, enum_send, view_send, view_sync, recorded_sync}
use Rattle.std.proofs.Crossing.{crosses}
use Rattle.std.specs.contracts.option.Option as Option
use Rattle.sqlite_items.specs.contracts.items.Items as Items
use Rattle.go_ast.specs.contracts.text.Text as Text
use Rattle.go_meaning.specs.contracts.row.Row as Row
use Rattle.go_meaning.specs.contracts.stack.Stack as Stack
use Rattle.go_meaning.specs.contracts.queue.Queue as Queue
use Rattle.go_meaning.specs.contracts.value.Value as Value
use Rattle.go_meaning.specs.contracts.value.Channel as Channel
use Rattle.go_meaning.specs.contracts.config.Call as Call
use Rattle.go_meaning.specs.contracts.config.Deferred as Deferred
use Rattle.go_meaning.specs.contracts.config.Frame as Frame
use Rattle.go_meaning.specs.contracts.config.Goroutine as Goroutine
use Rattle.go_meaning.specs.contracts.config.Config as Config
use Rattle.go_meaning.specs.contracts.item.Item as Item
use Rattle.go_meaning.specs.contracts.event.End as End
use Rattle.go_meaning.specs.contracts.event.Event as Event
use Rattle.go_meaning.specs.contracts.expr.Expr as Expr
use Rattle.go_meaning.specs.contracts.expr.Op as Op
use Rattle.go_meaning.specs.contracts.node.Deferral as Deferral
use Rattle.std.specs.contracts.vec.Vec as Vec
use Rattle.std.specs.contracts.alloc.Global as H
use Rattle.std.below.std_heap.specs.contracts.GlobalAllocator.TheImpl.{ghosts}
use Rattle.sqlite_items.specs.contracts.boxed.Boxed as Boxed
use Rattle.go_meaning.specs.contracts.expr.Target as Target
use Rattle.go_meaning.proofs.expr.Expr.TheLaws.TheKnot as knot
use Rattle.go_state.specs.contracts.run.Run as Run

pub text : IsSend Text.the_row
text = search (sendable, crosses) depth 30

pub row : (T : RattleType) → IsSend T → IsSend (Row.the_row T)
row T t = search (sendable, crosses) depth 30

pub stack : (T : RattleType) → IsSend T → IsSend (Stack.the_row T)
stack T t = search (sendable, crosses) depth 30

pub queue : (T : RattleType) → IsSend T → IsSend (Queue.the_row T)
queue T t = search (sendable, crosses) depth 30

pub items : (T : RattleType) → IsSend T → IsSend (Items.the_row T)
items T t = search (sendable, crosses) depth 30

pub value : IsSend Value.the_row
value = search (sendable, crosses, text) depth 30

pub op : IsSend Op.the_row
op = search (sendable, crosses, value) depth 60 fits 20000

pub boxed : (T : RattleType) → IsSend T → IsSend (Boxed.the_row T)
boxed T t = search (sendable, crosses) depth 30

pub expr : IsSend Expr.the_row
expr = search (sendable, crosses, knot.crosses, value, items, boxed) depth 60 fits 20000

pub target : IsSend Target.the_row
target = search (sendable, crosses, knot.crosses, expr) depth 30

pub channel : IsSend Channel.the_row
channel = search (sendable, crosses, value, queue) depth 30

pub call : IsSend Call.the_row
call = search (sendable, crosses, value, row) depth 30

pub deferred : IsSend Deferred.the_row
deferred = search (sendable, crosses, value, call, row) depth 30

pub deferral : IsSend Deferral.the_row
deferral = search (sendable, crosses) depth 40

pub targets : IsSend (Stack.the_row Target.the_row)
targets = search (sendable, crosses, stack, target) depth 30

pub number : IsSend (UInt w64)
number = search (sendable, crosses) depth 30

pub branch : IsSend (Option.the_row (UInt w64))
branch = search (sendable, crosses) depth 30

pub expr_field : IsSend (Enum (declared.shape Expr.the_type))
expr_field = search (sendable, crosses, knot.crosses, items, boxed) depth 60 fits 20000

pub item : IsSend Item.the_row
item = search (sendable, crosses, text, expr_field, targets) depth 80 fits 50000

pub frame : IsSend Frame.the_row
frame = search (sendable, crosses, value, deferred, item, items, stack) depth 30

pub goroutine : IsSend Goroutine.the_row
goroutine = search (sendable, crosses, call, frame, stack) depth 30

pub end : IsSend End.the_row
end = search (sendable, crosses, text) depth 30

pub config : IsSend Config.the_row
config = search (sendable, crosses, text, value, channel, goroutine, end, row, items) depth 30

pub event : IsSend Event.the_row
event = search (sendable, crosses) depth 30

pub events : IsSend (Vec.the_row Event.the_row H.the_row ghosts)
events = search (crosses, event) depth 10

pub ends : IsSend (Option.the_row End.the_row)
ends = search (sendable, crosses, end) depth 30

pub config_field : IsSend (Struct (structs.shape Config.the_type))
config_field = search (sendable, crosses, text, value, channel, goroutine, end, row, items) depth 60 fits 20000

pub inside : IsSend Inside.the_row
inside = search (sendable, crosses, config_field, ends, events) depth 80 fits 50000

pub run : IsSend Run.the_row
run = view_send _ _ _ _ _ inside

pub maybe_run : IsSend (Option.the_row Run.the_row)
maybe_run = search (sendable, run) depth 30

pub inner : IsSend (Inner.the_row (Option.the_row Run.the_row) View.the_row)
inner = inner_send (Option.the_row Run.the_row) View.the_row maybe_run

pub seat : IsSend Seat.the_row
seat = search (sendable, inner) depth 30

pub back : IsSend Back.the_row
back = search (sendable, inner) depth 30

pub shared : IsSync (Shared.the_row (Option.the_row Run.the_row) View.the_row Start.the_row Rule.the_row RuleOf.ghosts)
shared = shared_sync (Option.the_row Run.the_row) View.the_row Start.the_row Rule.the_row RuleOf.ghosts maybe_run

pub cells : IsSync Cells.the_row
cells = search (sendable, crosses, shared, lease_sync) depth 60 fits 20000

-- ---- a program is lent

pub text_sync : IsSync Text.the_row
text_sync = search (sendable, crosses) depth 30

pub items_sync : (T : RattleType) → IsSync T → IsSync (Items.the_row T)
items_sync T t = search (sendable, crosses) depth 30

pub boxed_sync : (T : RattleType) → IsSync T → IsSync (Boxed.the_row T)
boxed_sync T t = search (sendable, crosses) depth 30

pub expr_sync : IsSync Expr.the_row
expr_sync = search (sendable, crosses, knot.crosses, text_sync, items_sync, boxed_sync) depth 60 fits 20000

pub expr_field_sync : IsSync (Enum (declared.shape Expr.the_type))
expr_field_sync = search (sendable, crosses, knot.crosses, text_sync, items_sync, boxed_sync) depth 60 fits 20000

pub clause_sync : IsSync CaseClause.the_row
clause_sync = search (sendable, crosses, text_sync, items_sync, expr_sync, expr_field_sync) depth 60 fits 20000

pub comm_sync : IsSync CommClause.the_row
comm_sync = search (sendable, crosses, text_sync, items_sync, expr_sync, expr_field_sync) depth 60 fits 20000

pub assignment_sync : IsSync Assignment.the_row
assignment_sync = search (sendable, crosses, text_sync, items_sync, expr_sync, expr_field_sync) depth 60 fits 20000

pub assignment_field : IsSync (Struct (structs.shape Assignment.the_type))
assignment_field = search (sendable, crosses, items_sync, expr_sync) depth 60 fits 20000

pub simple_field : IsSync (Enum (declared.shape Simple.the_type))
simple_field = search (sendable, crosses, expr_field_sync, assignment_field) depth 60 fits 20000

pub simple_sync : IsSync Simple.the_row
simple_sync = recorded_sync _ _ (Simple.the_type).to (Simple.the_type).to_one simple_field

pub maybe_expr : IsSync (Option.the_row Expr.the_row)
maybe_expr = search (sendable, crosses, expr_sync) depth 30

pub maybe_simple : IsSync (Option.the_row Simple.the_row)
maybe_simple = search (sendable, crosses, simple_sync) depth 30

pub maybe_number : IsSync (Option.the_row (UInt w64))
maybe_number = search (sendable, crosses) depth 30

pub assignments : IsSync (Items.the_row Assignment.the_row)
assignments = items_sync Assignment.the_row assignment_sync

pub clauses : IsSync (Items.the_row CaseClause.the_row)
clauses = items_sync CaseClause.the_row clause_sync

pub comms : IsSync (Items.the_row CommClause.the_row)
comms = items_sync CommClause.the_row comm_sync

pub exprs : IsSync (Items.the_row Expr.the_row)
exprs = items_sync Expr.the_row expr_sync

pub form_field : IsSync (Enum (declared.shape NodeForm.the_type))
form_field = search (sendable, crosses, simple_field, maybe_simple, maybe_expr, maybe_number, assignments, clauses, comms, exprs, expr_field_sync) depth 80 fits 100000

pub node_sync : IsSync Node.the_row
node_sync = search (sendable, form_field) depth 40

pub list_sync : IsSync (Items.the_row Node.the_row)
list_sync = items_sync Node.the_row node_sync

pub package_sync : IsSync ProgramPackage.the_row
package_sync = search (sendable, crosses, text_sync) depth 30

pub function_sync : IsSync Function.the_row
function_sync = search (sendable, crosses, text_sync) depth 30

pub global_sync : IsSync Global.the_row
global_sync = search (sendable, crosses, text_sync) depth 30

pub program_inside : IsSync ProgramInside.the_row
program_inside = search (sendable, crosses, items_sync, list_sync, package_sync, function_sync, global_sync) depth 60 fits 20000

pub program : IsSync Program.the_row
program = view_sync _ _ _ _ _ program_inside
