use Rattle.std.proofs.Common.{◌≡◌, ◌++◌, ◌<◌, ◌∙◌, true, false, [], ◌∷◌, List, length, take, sym, ap, rules}
use Rattle.std.proofs.lemmas.List.{append-nil}
use Rattle.go_meaning.specs.Erasing.{drop_counts, is_count}
use Rattle.go_meaning.specs.declared.node.Node.{Node}
use Rattle.cov_erase.proofs.Dropping.{drop_more}
use Rattle.cov_erase.proofs.erasing.drop_counters.Goals.{then-not-is_counter+in_ok-copy_node+in_ok-push, else-not-is_counter}
use Rattle.cov_erase.proofs.erasing.drop_counters.Goals as goal

pub loop-node-preserved : goal.loop-node-preserved
loop-node-preserved c =
    let list = c.args.list.now in
    let i = c.loop-node.node-index in
    let node = c.node-item.result in
    let lt : i < length list = search rules in
    elim c.if-not-is_counter.branch [
      | then-not-is_counter+in_ok-copy_node+in_ok-push w ↦
          let other : is_count node.form ≡ false = search rules in
          let pushed : w.push.new.self ≡ c.loop-node.rest ++ node ∷ [] = search rules in
          rw (w.rest-is) (pushed ∙ ap (λ (rest : List Node). rest ++ node ∷ []) c.loop-node.invariant ∙ sym (drop_more list i node false lt c.node-item.is other))
      | else-not-is_counter w ↦
          let counter : is_count node.form ≡ true = search rules in
          rw (w.rest-is) (c.loop-node.invariant ∙ sym (drop_more list i node true lt c.node-item.is counter ∙ append-nil (drop_counts (take i list))))
    ]
