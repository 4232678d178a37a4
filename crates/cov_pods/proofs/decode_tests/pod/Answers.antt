use Rattle.std.proofs.Common.{All, [], subst, sym, arith}
use Rattle.std.specs.Str.{IsUtf8}
use Rattle.std.proofs.lemmas.List.Elements.{All-push}
use Rattle.cov_pods.proofs.decode_tests.pod.Goals as goal

none : All IsUtf8 []
none = λ k d lt. absurd (omega arith)

pub returns : goal.returns
returns c =
    let one = subst (All IsUtf8) (sym c.in_ok-push.ensures.ok) (All-push IsUtf8 _ _ (subst (All IsUtf8) (sym c.new-counters.ensures) none) c.in_ok-text.ensures) in
    let two = subst (All IsUtf8) (sym c.in_ok-push-2.ensures.ok) (All-push IsUtf8 _ _ one c.in_ok-text-2.ensures) in
    (c.in_ok-text-4.ensures, two)
