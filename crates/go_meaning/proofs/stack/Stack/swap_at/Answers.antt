use Rattle.std.proofs.Common.{◌≡◌, ◌-◌, ◌<◌, ap, ◌∙◌, length, reverse, arith}
use Rattle.std.specs.Prelude.{slice_set}
use Rattle.std.proofs.lemmas.List.{length-reverse}
use Rattle.go_meaning.proofs.Lists.{set_below}
use Rattle.go_meaning.proofs.stack.Stack.swap_at.Goals as goal

pub returns-clause-new : goal.returns-clause-new
returns-clause-new g c =
    let xs = c.self.inside.items.items in
    let n = ap length c.self.view_is in
    let within : c.args.below < length xs = omega (arith, length-reverse xs, n, c.requires) in
    let at : c.len.result - 1 - c.args.below ≡ length xs - 1 - c.args.below = omega (arith, c.len.ensures, c.self.inside.items.ok) in
    ap (λ v. reverse (slice_set xs (c.len.result - 1 - c.args.below) v)) c.replace.ensures.after
    ∙ set_below xs c.args.item c.args.below (c.len.result - 1 - c.args.below) within at
    ∙ ap (λ l. slice_set l c.args.below c.args.item) c.self.view_is
