use Rattle.std.proofs.Common.{◌≡◌, ◌-◌, ◌≤◌, ap, ◌∙◌, sym, length, take, drop, reverse, arith}
use Rattle.std.proofs.lemmas.List.{length-reverse}
use Rattle.go_meaning.proofs.Lists.{cut_reversed}
use Rattle.go_meaning.proofs.stack.Stack.cut.Goals as goal

pub returns : goal.returns
returns g c =
    let xs = c.self.inside.items.items in
    let len : c.len-len.result ≡ length xs = c.len-len.ensures ∙ ap length (sym c.self.view_is) ∙ length-reverse xs in
    let fits : c.args.count ≤ length xs = omega (arith, len, c.len-len.ensures, c.requires) in
    ap reverse c.truncate.ensures.items
    ∙ ap (λ n. reverse (take (n - c.args.count) xs)) len
    ∙ cut_reversed c.args.count xs fits
    ∙ ap (drop c.args.count) c.self.view_is
