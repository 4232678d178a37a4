use Rattle.std.proofs.Common.{◌≡◌, ap, sym, ◌∙◌, List, ℕ, None, map, rules}
use Rattle.std.specs.Prelude.{find, not}
use Rattle.go_ast.specs.declared.file.Import.{Import}
use Rattle.go_load.specs.Paths as paths
use Rattle.go_load.proofs.Imports.{found_among, none_given}
use Rattle.go_load.proofs.visit.unknown_of.Goals as goal

pub returns-in-Some : goal.returns-in-Some
returns-in-Some c =
    let p = λ (q : List ℕ). not (paths.is_known c.args.home.now.path q) in
    sym (found_among p (λ s. map (λ i. i.path) s.tree.imports) c.args.sources.now c.loop-source.source-index c.source-item.result c.in-Some.path.now c.loop-source-test.true c.source-item.is c.loop-source.invariant
    (sym (c.in-Some.ensures ∙ ap (λ (t : List Import). find p (map (λ i. i.path) t)) c.as_slice.ensures)))

pub loop-source-preserved : goal.loop-source-preserved
loop-source-preserved c =
    let p = λ (q : List ℕ). not (paths.is_known c.args.home.now.path q) in
    let none : None ≡ find p (map (λ i. i.path) c.as_slice.result.now) = search rules in
    none_given p (λ s. map (λ i. i.path) s.tree.imports) c.args.sources.now c.loop-source.source-index c.source-item.result c.loop-source-test.true c.source-item.is c.loop-source.invariant
    (ap (λ (t : List Import). find p (map (λ i. i.path) t)) (sym c.as_slice.ensures) ∙ sym none)
