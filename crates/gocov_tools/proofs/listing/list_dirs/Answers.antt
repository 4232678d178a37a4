use Rattle.std.proofs.Common.{subst, sym, ap, ◌∙◌, ◌+◌, All, ℕ, length}
use Rattle.std.specs.Str.{IsUtf8}
use Rattle.std.proofs.lemmas.List.{length_push}
use Rattle.std.proofs.lemmas.List.Elements.{All-push}
use Rattle.cov_pods.specs.Paths.{HasTextDir}
use Rattle.gocov_tools.proofs.Dirs.{one_more}
use Rattle.gocov_tools.proofs.listing.list_dirs.Goals as goal

pub list_dir-requires : goal.list_dir-requires
list_dir-requires g c = subst IsUtf8 (sym c.dir-item.is) (c.requires c.loop-dir.dir-index c.dir-item.result c.loop-dir-test.true).utf8

pub loop-dir-preserved : goal.loop-dir-preserved
loop-dir-preserved g c =
    let i = c.loop-dir.invariant in
    let e = c.in_ok-list_dir.ensures in
    record {
      count = ap length c.in_ok-push.ensures.items ∙ length_push c.loop-dir.names.items c.in_ok-list_dir.field-0 ∙ ap (λ (n : ℕ). n + 1) i.count;
      utf8 = subst (All HasTextDir) (sym c.in_ok-push.ensures.items) (All-push HasTextDir c.loop-dir.names.items c.in_ok-list_dir.field-0 i.utf8 e.utf8);
      told = one_more (g.F.Files.tree c.args.files.now) _ c.args.dirs.now c.loop-dir.dir-index c.dir-item.result c.loop-dir.names.items c.push.new.self.items c.in_ok-list_dir.field-0
          i.same c.loop-dir-test.true c.dir-item.is c.in_ok-push.ensures.items i.told e.told;
      same = e.same ∙ i.same;
      reads = e.cause ∙ i.reads;
      puts = e.puts ∙ i.puts;
    }
