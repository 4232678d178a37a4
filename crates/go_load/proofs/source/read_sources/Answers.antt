use Rattle.std.proofs.Common.{◌∙◌, sym, subst}
use Rattle.std.specs.Str.{IsUtf8}
use Rattle.std.proofs.lemmas.List.Elements.{All-push, All-same}
use Rattle.std.proofs.lemmas.Result.{err_from_is_err_and}
use Rattle.go_load.specs.Packages.{IsOf, SourceIn}
use Rattle.go_load.proofs.Steps.{reading_ends, reading_grows}
use Rattle.go_load.proofs.source.read_sources.Goals as goal

pub read_source-requires-clause-name : goal.read_source-requires-clause-name
read_source-requires-clause-name g c = subst IsUtf8 (sym c.name-item.is) (c.requires.names c.loop-name.name-index c.name-item.result c.loop-name-test.true)

pub returns-in_err-read_source-clause-told : goal.returns-in_err-read_source-clause-told
returns-in_err-read_source-clause-told g c =
    let p = err_from_is_err_and c.from_residual.result c.from_residual.ensures.1 in
    rw (p.1, p.2)
    (reading_ends _ _ (λ t name. SourceIn (g.S.ReadsSource.gives c.args.reader.now) t c.args.dir.now name) c.args.names.now c.loop-name.name-index c.name-item.result c.loop-name.sources.items c.in_err-read_source.field-0.0 c.loop-name.invariant.same
    c.loop-name-test.true c.name-item.is c.loop-name.invariant.told c.in_err-read_source.ensures.told)

pub loop-name-preserved : goal.loop-name-preserved
loop-name-preserved g c =
    let i = c.loop-name.invariant in
    let e = c.in_ok-read_source.ensures in
    let IsRead = IsOf (g.S.ReadsSource.gives c.args.reader.now) in
    record {
      told = reading_grows _ _ (λ t name. SourceIn (g.S.ReadsSource.gives c.args.reader.now) t c.args.dir.now name) c.args.names.now c.loop-name.name-index c.name-item.result c.loop-name.sources.items c.push.new.self.items c.in_ok-read_source.field-0
          i.same c.loop-name-test.true c.name-item.is c.in_ok-push.ensures.items i.told e.told;
      read = All-same IsRead c.push.new.self.items _ c.in_ok-push.ensures.items (All-push IsRead c.loop-name.sources.items c.in_ok-read_source.field-0 i.read e.read);
      same = e.same ∙ i.same;
      reads = e.cause ∙ i.reads;
      puts = e.puts ∙ i.puts;
    }
