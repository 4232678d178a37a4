use Rattle.std.proofs.Common.{◌≡◌, ◌-◌, ◌<◌, ap, ◌∙◌, ◌∷◌, length, drop, reverse, arith}
use Rattle.std.specs.Prelude.{slice_set}
use Rattle.std.proofs.lemmas.List.{length-reverse}
use Rattle.go_meaning.proofs.Lists.{top_set}
use Rattle.go_meaning.proofs.stack.Stack.swap_top.Goals as goal

pub returns-clause-new : goal.returns-clause-new
returns-clause-new g c =
    let xs = c.self.inside.items.items in
    let n = ap length c.self.view_is in
    let some : 0 < length xs = omega (arith, length-reverse xs, n, c.requires) in
    let at : c.len-at.result - 1 ≡ length xs - 1 = omega (arith, c.len-at.ensures, c.self.inside.items.ok) in
    ap (λ v. reverse (slice_set xs (c.len-at.result - 1) v)) c.replace.ensures.after
    ∙ top_set xs c.args.top (c.len-at.result - 1) some at
    ∙ ap (λ l. c.args.top ∷ drop 1 l) c.self.view_is
