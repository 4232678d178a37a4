use Rattle.std.proofs.Common.{◌≡◌, ◌+◌, ◌<◌, ◌∙◌, ◌++◌, ◌∷◌, [], ◌≤◌, length, Option, Some, Ok, ap, sym, subst, arith}
use Rattle.std.specs.Prelude.{IfSome, MatchOption}
use Rattle.std.proofs.lemmas.List.{length_push}
use Rattle.std.proofs.lemmas.List.Elements.{All-push, All-same}
use Rattle.std.proofs.lemmas.Result.{err_from_is_err_and}
use Rattle.go_load.specs.Packages.{IsPackageRead, NextOf, met}
use Rattle.go_load.specs.declared.contents.Found.{Found}
use Rattle.go_load.proofs.Discovering.{found_grows, found_refused, met_one_more, more_met}
use Rattle.go_load.proofs.discovery.discover.Goals as goal

pub returns-in_err-found-clause-told : goal.returns-in_err-found-clause-told
returns-in_err-found-clause-told g c =
    let i = c.loop-founds.invariant in
    let p = err_from_is_err_and c.from_residual-in_err-found.result c.from_residual-in_err-found.ensures.1 in
    let len : c.len.result ≡ length c.loop-founds.founds.items = omega arith in
    rw (p.1, p.2)
    (found_refused (g.S.ReadsSource.gives c.args.reader.now) c.args.home.now _ _ c.loop-founds.founds.items c.loop-founds.met c.len.result c.in_err-found.field-0.0 i.same len i.met_are i.told c.in_err-found.ensures.told)

pub loop-founds-preserved : goal.loop-founds-preserved
loop-founds-preserved g c =
    let i = c.loop-founds.invariant in
    let e = c.in_ok-found.ensures in
    let gives = g.S.ReadsSource.gives c.args.reader.now in
    let home = c.args.home.now in
    let founds = c.loop-founds.founds.items in
    let found = c.in-Some.found in
    let n = c.len.result in
    let len : n ≡ length founds = omega arith in
    let push : c.push.new.self.items ≡ founds ++ found ∷ [] = c.in_ok-push.ensures.items in
    let few : n < 1000 = subst (λ (o : Option Found). IfSome o (λ _. n < 1000)) c.in-Some.is e.few in
    let longer : length c.push.new.self.items ≡ length founds + 1 = ap length push ∙ length_push founds found in
    let next : IfSome (g.F.Files.tree c.loop-founds.files) (λ t. NextOf gives t home c.loop-founds.met n (Ok (Some found))) =
    subst (λ (o : Option Found). IfSome (g.F.Files.tree c.loop-founds.files) (λ t. NextOf gives t home c.loop-founds.met n (Ok o))) c.in-Some.is e.told in
    let read : IsPackageRead gives found = subst (λ (o : Option Found). MatchOption o (length c.loop-founds.met ≤ n) (IsPackageRead gives)) c.in-Some.is e.read in
    record {
      few = omega arith;
      paths = more_met home found c.loop-founds.met c.meet_package.new.met c.requires c.in_ok-meet_package.ensures i.paths;
      met_are = met_one_more home founds found c.loop-founds.met c.meet_package.new.met i.met_are c.in_ok-meet_package.ensures ∙ ap (met home) (sym push);
      told = found_grows gives home _ _ founds c.push.new.self.items found c.loop-founds.met n i.same len i.met_are push i.told next;
      read = All-same (IsPackageRead gives) c.push.new.self.items _ push (All-push (IsPackageRead gives) founds found i.read read);
      same = e.same ∙ i.same;
      reads = e.cause ∙ i.reads;
      puts = e.puts ∙ i.puts;
    }
