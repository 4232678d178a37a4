use Rattle.std.proofs.Common.{◌≡◌, ◌<◌, ◌++◌, ◌∙◌, ap, map, false, get_or, length, replicate, take, rules}
use Rattle.std.specs.Prelude.{filter}
use Rattle.go_load.specs.Loading.{marks_of}
use Rattle.go_load.specs.Packages.{imports_of}
use Rattle.go_load.specs.Paths as paths
use Rattle.go_load.proofs.Marking.{none_yet, sources_more}
use Rattle.go_load.proofs.rows.row_of.Goals as goal

pub loop-source-init : goal.loop-source-init
loop-source-init c =
    let zeros : c.in_ok-row.row.items ≡ replicate (length c.args.founds.now) false = search rules in
    record { many = search rules; marked = λ rise. zeros ∙ none_yet c.args.founds.now }

pub loop-source-preserved : goal.loop-source-preserved
loop-source-preserved c =
    let founds = c.args.founds.now in
    let sources = c.args.found.now.sources in
    let i = c.loop-source.source-index in
    let own = paths.is_own c.args.home.now.path in
    let lt : i < length sources = search rules in
    let imports : c.as_slice.result.now ≡ c.source-item.result.tree.imports = search rules in
    let before = filter own (imports_of (take i sources)) in
    let is : c.source-item.result ≡ get_or sources i c.source-item.result = search rules in
    record {
      many = c.mark_imports.ensures.many;
      marked = λ rise. c.mark_imports.ensures.marked rise (filter own (imports_of (take i sources))) (c.loop-source.invariant.marked rise)
          ∙ ap (λ xs. marks_of founds (before ++ filter own (map (λ x. x.path) xs))) imports ∙ ap (marks_of founds) (sources_more own sources i c.source-item.result lt is);
    }
