use Rattle.std.proofs.Common.{◌≡◌, ◌<◌, ap, subst, ◌∙◌, List, length, get_or, map}
use Rattle.std.specs.Prelude.{filter}
use Rattle.go_ast.specs.declared.file.Import.{Import}
use Rattle.go_load.specs.Packages.{with_texts}
use Rattle.go_load.specs.Paths as paths
use Rattle.go_load.specs.declared.contents.Source.{Source}
use Rattle.go_load.proofs.Imports.{all_met_more}
use Rattle.go_load.proofs.discovery.meet_package.Goals as goal

pub loop-source-preserved : goal.loop-source-preserved
loop-source-preserved c =
    let own = paths.is_own c.args.home.now.path in
    let x = c.source-item.result in
    let i = c.loop-source.source-index in
    let all = c.as_slice-source-items.ensures in
    let lt : i < length c.args.found.now.sources = subst (λ (t : List Source). i < length t) all c.loop-source-test.true in
    let is : x ≡ get_or c.args.found.now.sources i x = subst (λ (t : List Source). x ≡ get_or t i x) all c.source-item.is in
    all_met_more own (λ s. map (λ j. j.path) s.tree.imports) c.args.found.now.sources i x c.args.met.now c.loop-source.met c.meet_imports.new.met lt is c.loop-source.invariant
    (c.in_ok-meet_imports.ensures ∙ ap (λ (t : List Import). with_texts c.loop-source.met (filter own (map (λ j. j.path) t))) c.as_slice.ensures)
