use Rattle.std.proofs.Common.{◌≡◌, ◌++◌, ℕ, List, append_assoc}
use Rattle.std.specs.Prelude.{codes, decimal}
use Rattle.cov_report.specs.FunctionLines.{part_text}
use Rattle.cov_report.proofs.function_report.push_function.Goals as goal

put_together : (text a b c d e f g h file line function part : List ℕ)
    → a ≡ text ++ file → b ≡ a ++ codes ":" → c ≡ b ++ line → d ≡ c ++ codes ":\t" → e ≡ d ++ function → f ≡ e ++ codes "\t" → g ≡ f ++ part → h ≡ g ++ codes "\n"
    → h ≡ text ++ (file ++ codes ":" ++ line ++ codes ":\t" ++ function ++ codes "\t" ++ part ++ codes "\n")
put_together text a b c d e f g h file line function part p q r s t u v w = rw (w, v, u, t, s, r, q, p) (simp append_assoc)

pub returns : goal.returns
returns c =
    let name = c.args.name.now in
    let sum = c.args.sum.now in
    put_together c.args.text.now.items _ _ _ _ _ _ _ _ name.file.now (decimal sum.start_line) name.function.now (part_text sum.share.covered sum.share.statements)
    c.in_ok-extend_from_slice.ensures.items c.in_ok-push.ensures.items c.in_ok-push_number.ensures c.in_ok-extend_from_slice-2.ensures.items c.in_ok-extend_from_slice-3.ensures.items c.in_ok-push-2.ensures.items c.in_ok-push_part.ensures c.in_ok-push-3.ensures.items
