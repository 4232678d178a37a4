use Rattle.std.proofs.Common.{◌≡◌, ◌++◌, ℕ, List, append_assoc}
use Rattle.std.specs.Prelude.{codes}
use Rattle.cov_report.specs.Shares.{share_text}
use Rattle.cov_report.proofs.percent_report.push_line.Goals as goal

put_together : (text a b c d e path share : List ℕ) → a ≡ text ++ codes "\t" → b ≡ a ++ path → c ≡ b ++ codes "\t\tcoverage: " → d ≡ c ++ share → e ≡ d ++ codes "\n" → e ≡ text ++ (codes "\t" ++ path ++ codes "\t\tcoverage: " ++ share ++ codes "\n")
put_together text a b c d e path share p q r s t = rw (t, s, r, q, p) (simp append_assoc)

pub returns : goal.returns
returns c =
    put_together c.args.text.now.items _ _ _ _ _ c.args.path.now (share_text c.args.share.now.covered c.args.share.now.statements) c.in_ok-push.ensures.items c.in_ok-extend_from_slice.ensures.items c.in_ok-extend_from_slice-2.ensures.items c.in_ok-push_share.ensures c.in_ok-push-2.ensures.items
