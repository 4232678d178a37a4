use Rattle.std.proofs.Common.{◌≡◌, ◌++◌, ℕ, List, append_assoc, ap, ◌∙◌}
use Rattle.std.specs.Prelude.{codes}
use Rattle.cov_report.specs.Dump.{numbered_word}
use Rattle.cov_report.proofs.dump.push_package_head.Goals as goal

put_together : (text head a b c d e f name path unit : List ℕ)
    → a ≡ text ++ head → b ≡ a ++ name → c ≡ b ++ codes " " → d ≡ c ++ path → e ≡ d ++ codes " " → f ≡ e ++ unit
    → f ++ codes "\n" ≡ text ++ (head ++ name ++ codes " " ++ path ++ codes " " ++ unit ++ codes "\n")
put_together text head a b c d e f name path unit p q r s t u = rw (u, t, s, r, q, p) (simp append_assoc)

with : (old new bytes text : List ℕ) → new ≡ old ++ bytes → bytes ≡ text → new ≡ old ++ text
with old new bytes text e h = e ∙ ap (λ (t : List ℕ). old ++ t) h

pub returns : goal.returns
returns c =
    let p = c.args.«package».now in
    c.in_ok-push-3.ensures.items
    ∙ put_together c.args.text.now.items (numbered_word (codes "package") c.args.i) _ _ _ _ _ _ p.name p.path p.«module»
    c.in_ok-push_numbered.ensures (with _ _ _ p.name c.in_ok-extend_from_slice.ensures.items c.bytes.ensures) c.in_ok-push.ensures.items
    (with _ _ _ p.path c.in_ok-extend_from_slice-2.ensures.items c.bytes-2.ensures) c.in_ok-push-2.ensures.items (with _ _ _ p.«module» c.in_ok-extend_from_slice-3.ensures.items c.bytes-3.ensures)
