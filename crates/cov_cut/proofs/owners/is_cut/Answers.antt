use Rattle.std.proofs.Common.{◌≡◌, ◌<◌, ◌-◌, ◌∙◌, ℕ, get_or, ap, subst, arith, rules}
use Rattle.std.specs.Prelude.{not, bytes_eq, codes}
use Rattle.std.proofs.lemmas.List.{get_or_default}
use Rattle.go_meaning.specs.Programs.{no_function}
use Rattle.cov_cut.specs.Owners.{HaveBegun}
use Rattle.cov_cut.proofs.Owned.{first_owner, later_owner}
use Rattle.cov_cut.proofs.owners.is_cut.Goals as goal

pub returns-then-begun-eq0 : goal.returns-then-begun-eq0
returns-then-begun-eq0 c = λ list have. first_owner c.args.functions.now list (subst (λ (n : ℕ). HaveBegun c.args.functions.now n list) c.if-begun-eq0.true have)

pub returns : goal.returns
returns c = λ list have.
    let functions = c.args.functions.now in
    let some : 0 < c.args.begun = omega (arith, c.if-begun-eq0.false) in
    let last : c.index-functions-begun.result ≡ get_or functions (c.args.begun - 1) no_function =
    c.index-functions-begun.is ∙ get_or_default functions (c.args.begun - 1) c.index-functions-begun.result no_function (omega (arith, some, c.requires)) in
    let differs : c.ne.result ≡ not (bytes_eq c.index-functions-begun.result.name (codes "_")) = search rules in
    differs ∙ ap (λ f. not (bytes_eq f.name (codes "_"))) last ∙ later_owner functions c.args.begun list some have
