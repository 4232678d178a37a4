use Rattle.std.proofs.Common.{◌≡◌, ◌++◌, ℕ, List, append_assoc, ap, ◌∙◌}
use Rattle.std.specs.Prelude.{codes, decimal}
use Rattle.cov_report.specs.Dump.{file_name}
use Rattle.cov_report.proofs.dump.push_counter_file.Goals as goal

put_together : (text a b c d e f g h name flavour entries pairs : List ℕ)
    → a ≡ text ++ codes "counters " → b ≡ a ++ name → c ≡ b ++ codes " flavour " → d ≡ c ++ flavour → e ≡ d ++ codes " functions " → f ≡ e ++ entries → g ≡ f ++ codes " args " → h ≡ g ++ pairs
    → h ++ codes "\n" ≡ text ++ (codes "counters " ++ name ++ codes " flavour " ++ flavour ++ codes " functions " ++ entries ++ codes " args " ++ pairs ++ codes "\n")
put_together text a b c d e f g h name flavour entries pairs p q r s t u v w = rw (w, v, u, t, s, r, q, p) (simp append_assoc)

pub returns : goal.returns
returns c =
    let head = c.args.head.now in
    c.in_ok-push.ensures.items
    ∙ put_together c.args.text.now.items _ _ _ _ _ _ _ _ (file_name c.args.path.now) (decimal head.flavour) (decimal head.entries) (decimal head.args)
    c.in_ok-extend_from_slice.ensures.items (c.in_ok-extend_from_slice-2.ensures.items ∙ ap (λ (t : List ℕ). c.extend_from_slice.new.self.items ++ t) c.file_name.ensures) c.in_ok-extend_from_slice-3.ensures.items c.in_ok-push_number.ensures c.in_ok-extend_from_slice-4.ensures.items c.in_ok-push_number-2.ensures c.in_ok-extend_from_slice-5.ensures.items c.in_ok-push_number-3.ensures
