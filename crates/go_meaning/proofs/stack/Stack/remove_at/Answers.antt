use Rattle.std.proofs.Common.{◌≡◌, ◌+◌, ◌-◌, ◌<◌, ◌++◌, ap, ◌∙◌, length, take, drop, reverse, arith}
use Rattle.std.proofs.lemmas.List.{length-reverse}
use Rattle.go_meaning.proofs.Lists.{without_below}
use Rattle.go_meaning.proofs.stack.Stack.remove_at.Goals as goal

pub returns-clause-new : goal.returns-clause-new
returns-clause-new g c =
    let xs = c.self.inside.items.items in
    let n = ap length c.self.view_is in
    let within : c.args.below < length xs = omega (arith, length-reverse xs, n, c.requires) in
    let at : c.len.result - 1 - c.args.below ≡ length xs - 1 - c.args.below = omega (arith, c.len.ensures, c.self.inside.items.ok) in
    ap reverse c.remove.ensures.items
    ∙ without_below xs c.args.below (c.len.result - 1 - c.args.below) within at
    ∙ ap (λ l. take c.args.below l ++ drop (c.args.below + 1) l) c.self.view_is
