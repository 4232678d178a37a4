use Rattle.std.proofs.Common.{◌≡◌, List, ℕ, Ok, subst, rules}
use Rattle.std.specs.Prelude.{IfSome}
use Rattle.std.proofs.lemmas.Result.{err_from_is_err_and}
use Rattle.go_load.specs.Homes.{HomeAt}
use Rattle.go_load.proofs.Making.{outcome_read}
use Rattle.go_load.proofs.Whole.{founds_refused, all_answered}
use Rattle.go_load.proofs.by_reader.load_by.Goals as goal

pub returns-in_err-founds-clause-told : goal.returns-in_err-founds-clause-told
returns-in_err-founds-clause-told g c =
    let root = c.args.root.now in
    let home = c.in_ok-home.home in
    let dir : c.in_ok-of.field-0 ≡ root = search rules in
    let at_home = subst (λ (d : List ℕ). IfSome (g.F.Files.tree c.args.files.now) (λ t. HomeAt t d (Ok home))) dir c.in_ok-home.ensures.told in
    let p = err_from_is_err_and c.from_residual-in_err-founds.result c.from_residual-in_err-founds.ensures.1 in
    rw (p.1, p.2)
    (founds_refused (g.S.ReadsSource.gives c.args.reader.now) _ _ root home c.in_err-founds.field-0.0 c.find_home.ensures.same at_home c.in_err-founds.ensures.told)

pub returns-clause-told : goal.returns-clause-told
returns-clause-told g c =
    let root = c.args.root.now in
    let home = c.in_ok-home.home in
    let dir : c.in_ok-of.field-0 ≡ root = search rules in
    let at_home = subst (λ (d : List ℕ). IfSome (g.F.Files.tree c.args.files.now) (λ t. HomeAt t d (Ok home))) dir c.in_ok-home.ensures.told in
    all_answered (g.S.ReadsSource.gives c.args.reader.now) _ _ root home c.in_ok-founds.founds.items c.from_packages.result c.find_home.ensures.same at_home c.in_ok-founds.ensures.told c.from_packages.ensures.told

pub returns-clause-read : goal.returns-clause-read
returns-clause-read g c = outcome_read (g.S.ReadsSource.gives c.args.reader.now) c.in_ok-founds.founds.items c.in_ok-home.home.path c.from_packages.result c.in_ok-founds.ensures.read c.in_ok-founds.ensures.some c.from_packages.ensures.of
