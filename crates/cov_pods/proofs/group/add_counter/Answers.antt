use Rattle.std.proofs.Common.{◌≤◌, length, refl, arith}
use Rattle.cov_bytes.specs.Intern.{index_of}
use Rattle.cov_pods.specs.Pods.{file_in}
use Rattle.cov_pods.proofs.Passes.{counter_taken, counter_skipped}
use Rattle.cov_pods.proofs.group.add_counter.Goals as goal

pub returns-in_ok-push : goal.returns-in_ok-push
returns-in_ok-push c = λ metas seen h.
    let file = file_in c.args.dir.now c.args.name.now c.args.hash.now in
    rw (c.in_ok-number.ensures.texts, c.in_ok-push.ensures.ok, c.in_ok-path.ensures)
    (counter_taken metas seen c.args.hashes.now c.args.pods.now.items file c.in_ok-number.number c.index_mut-pod.result.now _ c.in_ok-number.ensures.index (omega arith) c.index_mut-pod.ensures.value refl refl refl h)

pub returns-else-number-len : goal.returns-else-number-len
returns-else-number-len c = λ metas seen h.
    let file = file_in c.args.dir.now c.args.name.now c.args.hash.now in
    let past : length c.args.pods.now.items ≤ index_of c.args.hashes.now file.hash = omega (arith, c.in_ok-number.ensures.index) in
    rw c.in_ok-number.ensures.texts (counter_skipped metas seen c.args.hashes.now c.args.pods.now.items file past h)
