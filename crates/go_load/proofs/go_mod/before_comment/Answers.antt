use Rattle.std.proofs.Common.{◌≡◌, ℕ, false, List, drop, sym, ap, ◌∙◌, add-one}
use Rattle.std.specs.Prelude.{nat_eq, codes}
use Rattle.std.specs.List.{starts_with}
use Rattle.go_load.proofs.Comments.{comment_later}
use Rattle.go_load.proofs.Lines.{rest_is}
use Rattle.go_load.proofs.go_mod.before_comment.Goals as goal

pub loop-i-preserved : goal.loop-i-preserved
loop-i-preserved c =
    let none : starts_with nat_eq (drop c.loop-i.i c.args.line.now) (codes "//") ≡ false =
    sym (c.if-starts_with.ensures.value ∙ ap (λ (t : List ℕ). starts_with nat_eq t (codes "//")) (rest_is c.args.line.now c.loop-i.i)) in
    rw add-one (c.loop-i.invariant ∙ comment_later c.args.line.now c.loop-i.i c.loop-i-test.true none)
