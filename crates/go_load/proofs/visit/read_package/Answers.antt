use Rattle.std.proofs.Common.{◌≡◌, false, ◌==◌, All, length, sym, subst, ◌∙◌, rules}
use Rattle.std.specs.Str.{IsUtf8}
use Rattle.std.proofs.lemmas.List.Elements.{All-filter}
use Rattle.go_load.specs.Names.{is_source_name}
use Rattle.go_load.proofs.Visiting.{package_told}
use Rattle.go_load.proofs.visit.read_package.Goals as goal

pub read_sources-requires-clause-names : goal.read_sources-requires-clause-names
read_sources-requires-clause-names g c =
    let listed = c.in_ok-list.field-0.items in
    subst (All IsUtf8) (sym (c.deref.ensures.value ∙ c.in_ok-names.ensures)) (All-filter is_source_name IsUtf8 listed c.in_ok-list.ensures.utf8)

pub returns-clause-told : goal.returns-clause-told
returns-clause-told g c =
    let some : (length c.in_ok-names.names.items == 0) ≡ false = search rules in
    package_told (g.S.ReadsSource.gives c.args.reader.now) c.args.home.now c.args.path.now c.in_ok-dir.dir c.as_str.result.now _ _ c.in_ok-list.field-0.items c.in_ok-names.names.items c.deref.result.now c.in_ok-sources.sources.items c.package_of.result
    c.in_ok-list.ensures.same c.in_ok-dir.ensures c.as_str.ensures c.in_ok-names.ensures c.deref.ensures.value some c.in_ok-list.ensures.names c.in_ok-sources.ensures.told c.package_of.ensures.told
