use Rattle.std.proofs.Common.{◌≡◌, ◌<◌, ◌≤◌, length, Some, slice_get, sym, arith}
use Rattle.go_meaning.specs.Moves.{goroutine_limit}
use Rattle.go_step.proofs.Spawning.{spawn_joins, stop_joins}
use Rattle.go_step.proofs.goroutines.spawns.Goals as goal

pub returns-then-len-ge-GOROUTINE_LIMIT : goal.returns-then-len-ge-GOROUTINE_LIMIT
returns-then-len-ge-GOROUTINE_LIMIT c =
    let has : c.params_of-count.result ≤ length c.in-Some.top.now.stack = omega (arith, c.if-count-len.false, c.len.ensures) in
    let full : goroutine_limit ≤ length c.args.config.now.goroutines = omega (arith, c.if-len-ge-GOROUTINE_LIMIT.true, c.len-2.ensures) in
    stop_joins c.args.program.now c.args.config.now c.args.index c.args.frames.now c.args.function c.params_of-count.result c.in-Some.top.now c.params_of-count.ensures (sym c.in-Some.ensures) has full

pub returns : goal.returns
returns c =
    let has : c.params_of-count.result ≤ length c.in-Some.top.now.stack = omega (arith, c.if-count-len.false, c.len.ensures) in
    let room : length c.args.config.now.goroutines < goroutine_limit = omega (arith, c.if-len-ge-GOROUTINE_LIMIT.false, c.len-2.ensures) in
    spawn_joins c.args.program.now c.args.config.now c.push_goroutine.new.config c.args.index c.args.frames.now c.push_goroutine.new.frames c.args.function c.params_of-count.result c.in-Some.top.now c.params_of-count.ensures (sym c.in-Some.ensures) has room c.in_ok-push_goroutine.ensures.born c.in_ok-push_goroutine.ensures.ok
