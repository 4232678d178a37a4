use Rattle.std.proofs.Common.{◌≡◌, ap, sym, ◌∙◌, true, false, Some, rules}
use Rattle.std.specs.Prelude.{not}
use Rattle.go_load.specs.Paths as paths
use Rattle.go_load.proofs.Imports.{found_at, none_more}
use Rattle.go_load.proofs.visit.unknown_in.Goals as goal

pub returns-then-not-is_known : goal.returns-then-not-is_known
returns-then-not-is_known c =
    let x = c.import-item.result in
    let passes : not (paths.is_known c.args.home.now.path x.path) ≡ true = search rules in
    ap Some c.bytes-path.ensures ∙ sym (found_at (λ p. not (paths.is_known c.args.home.now.path p)) (λ i. i.path) c.args.imports.now c.loop-import.import-index x c.loop-import-test.true c.import-item.is c.loop-import.invariant passes)

pub loop-import-preserved : goal.loop-import-preserved
loop-import-preserved c =
    let x = c.import-item.result in
    let fails : not (paths.is_known c.args.home.now.path x.path) ≡ false = search rules in
    none_more (λ p. not (paths.is_known c.args.home.now.path p)) (λ i. i.path) c.args.imports.now c.loop-import.import-index x c.loop-import-test.true c.import-item.is c.loop-import.invariant fails
