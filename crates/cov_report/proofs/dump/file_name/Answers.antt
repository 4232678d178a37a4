use Rattle.std.proofs.Common.{◌≡◌, ℕ, ◌-◌, ◌≤◌, ◌<◌, List, true, false, not, length, take, drop, get_or, sym, ap, ◌∙◌, arith}
use Rattle.std.specs.Prelude.{◌==◌}
use Rattle.std.specs.List.{suffix_len}
use Rattle.std.proofs.lemmas.List.{take_rest}
use Rattle.std.proofs.lemmas.List.Sums.{suffix_len_is}
use Rattle.std.proofs.lemmas.Bool.{eq-eqb}
use Rattle.std.proofs.lemmas.Bool.Decides.{nat_tests}
use Rattle.cov_report.specs.Dump.{file_name}
use Rattle.cov_report.proofs.dump.file_name.Goals.{then-loop-start-test+else-path-start-ne47, else-loop-start-test}
use Rattle.cov_report.proofs.dump.file_name.Goals as goal

no_slash : (c : ℕ) → (c ≡ 47 → ⊥) → not (c == 47) ≡ true
no_slash c h = grind (arith, nat_tests)

slash : (c : ℕ) → c ≡ 47 → not (c == 47) ≡ false
slash c h = ap not (eq-eqb c 47 h)

-- no slash stands from a place on, and one before it
behind : (path : List ℕ) (start : ℕ) → start ≤ length path → ((k : ℕ) → start ≤ k → k < length path → get_or path k 0 ≡ 47 → ⊥) → (0 < start → get_or path (start - 1) 0 ≡ 47)
    → take (length path - start) (drop start path) ≡ file_name path
behind path start within passed before =
    let rest : length path - suffix_len (λ c. not (c == 47)) path ≡ start =
    (let e = suffix_len_is (λ c. not (c == 47)) path start 0 within (λ k p q. no_slash _ (passed k p q)) (λ p. slash _ (before p)) in omega (arith, e))
    in
    take_rest path start ∙ ap (λ n. drop n path) (sym rest)

pub returns : goal.returns
returns c =
    elim c.loop-start-test.branch [
      | then-loop-start-test+else-path-start-ne47 w ↦ behind _ _ c.loop-start.invariant.within c.loop-start.invariant.passed (λ p. w.if-path-start-ne47.false)
      | else-loop-start-test w ↦ behind _ _ c.loop-start.invariant.within c.loop-start.invariant.passed (λ p. absurd (omega (arith, w.loop-start-test.false)))
    ]
