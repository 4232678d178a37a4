use denote.Param.Send.{IsSend, IsSync, sendable, param_send, arg_send}
use Rattle.std.proofs.Crossing.{crosses}
use denote.Exit.{yes}
use denote.Param.{param}
use contract.Lifetimes.{Lfts}
use Rattle.go_threads.specs.contracts.serving.start.{R-row, G-row}
use Rattle.go_threads.proofs.serving.start.Given as Given
use Rattle.go_threads.proofs.serving.start.Lts.{arg-2-2}
use Rattle.go_threads.proofs.Sends.{back, cells, inner, program, seat}
use Rattle.go_threads.proofs.serving.start.Goals as goal

closure_sends : (g : Given.Over) (κs : Lfts 10) → IsSync (R-row g.row.E g.row.R g.row.G) → IsSync (G-row g.row.E g.row.R g.row.G)
    → IsSend (param 2 (arg-2-2 g.row.E g.row.R g.row.G g.E.laws g.R.laws g.G.laws g.R.Threads-dict g.R.Wait-dict g.G.Gate-dict κs))
closure_sends g κs r q = search (sendable, crosses, inner, seat, cells, program) depth 60 fits 20000

pub spawn_with-requires-send-F : goal.spawn_with-requires-send-F
spawn_with-requires-send-F g c κs within = closure_sends g κs c.type_bounds.sync-R c.type_bounds.sync-G

pub spawn_with-requires-send-T : goal.spawn_with-requires-send-T
spawn_with-requires-send-T g c κs within = param_send _ _ (arg_send _ yes _ back)
