use Rattle.std.proofs.Common.{◌≡◌, ◌≢◌, length, rules}
use Rattle.cov_bytes.specs.Intern.{index_of}
use Rattle.cov_pods.specs.Pods.{file_in}
use Rattle.cov_pods.proofs.Passes.{meta_new, meta_known}
use Rattle.cov_pods.proofs.group.add_meta.Goals as goal

pub returns-in_ok-push : goal.returns-in_ok-push
returns-in_ok-push c = λ metas h.
    let file = file_in c.args.dir.now c.args.name.now c.args.hash.now in
    let new : index_of c.args.hashes.now file.hash ≡ length c.args.pods.now.items = search rules in
    rw (c.in_ok-number_of.ensures.texts, c.in_ok-push.ensures.items, c.in_ok-bare_pod.ensures) (meta_new metas c.args.hashes.now c.args.pods.now.items file new h)

pub returns-else-branch-len : goal.returns-else-branch-len
returns-else-branch-len c = λ metas h.
    let file = file_in c.args.dir.now c.args.name.now c.args.hash.now in
    let known : index_of c.args.hashes.now file.hash ≢ length c.args.pods.now.items = search rules in
    rw c.in_ok-number_of.ensures.texts (meta_known metas c.args.hashes.now c.args.pods.now.items file known h)
