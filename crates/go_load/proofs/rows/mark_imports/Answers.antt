use Rattle.std.proofs.Common.{◌≡◌, ◌++◌, ◌<◌, ◌∙◌, true, false, length, map, take, rules}
use Rattle.std.specs.Prelude.{filter}
use Rattle.go_load.specs.Paths as paths
use Rattle.go_load.proofs.Marking.{marks_more, marks_same}
use Rattle.go_load.proofs.rows.mark_imports.Goals.{then-is_own, else-is_own}
use Rattle.go_load.proofs.rows.mark_imports.Goals as goal

pub loop-import-preserved : goal.loop-import-preserved
loop-import-preserved c =
    let founds = c.args.founds.now in
    let imports = c.args.imports.now in
    let i = c.loop-import.import-index in
    let this = c.import-item.result in
    let own = paths.is_own c.args.home.now.path in
    let lt : i < length imports = search rules in
    let inv = c.loop-import.invariant in
    elim c.if-is_own.branch [
      | then-is_own w ↦
          let is_own' : own this.path ≡ true = search rules in
          rw (w.row-is) (record {
            many = w.mark_import.ensures.many;
            marked = λ rise seen is. w.mark_import.ensures.marked rise (seen ++ filter own (map (λ x. x.path) (take i imports))) (inv.marked rise seen is) ∙ marks_more founds own imports i this seen lt c.import-item.is is_own';
          })
      | else-is_own w ↦
          let is_other : own this.path ≡ false = search rules in
          rw (w.row-is) (record {
            many = inv.many;
            marked = λ rise seen is. inv.marked rise seen is ∙ marks_same founds own imports i this seen lt c.import-item.is is_other;
          })
    ]
