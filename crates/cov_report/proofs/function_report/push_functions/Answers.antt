use Rattle.std.proofs.Common.{◌≡◌, ◌++◌, ◌∷◌, ℕ, List, All, map, ap, sym, subst, ◌∙◌, append_assoc}
use Rattle.std.specs.List.{flat_map}
use Rattle.std.proofs.lemmas.List.Elements.{All-tail}
use Rattle.cov_report.specs.declared.function_sums.FunctionName.{FunctionName}
use Rattle.cov_report.specs.declared.function_sums.FunctionSum.{FunctionSum}
use Rattle.cov_report.specs.FunctionSums.{named_sum, sum_line, IsSmall}
use Rattle.cov_report.proofs.function_report.push_functions.Goals as goal

abbrev lines_of : List (FunctionName × FunctionSum) → List ℕ
lines_of entries = flat_map sum_line (map named_sum entries)

one_line : (before after all : List ℕ) (e : FunctionName × FunctionSum) (entries rest : List (FunctionName × FunctionSum)) → entries ≡ e ∷ rest
    → after ≡ before ++ sum_line (named_sum e) → before ++ lines_of entries ≡ all → after ++ lines_of rest ≡ all
one_line before after all e entries rest steps more h =
    ap (λ (t : List ℕ). t ++ lines_of rest) more ∙ append_assoc before (sum_line (named_sum e)) (lines_of rest) ∙ ap (λ t. before ++ lines_of t) (sym steps) ∙ h

pub loop-name-preserved : goal.loop-name-preserved
loop-name-preserved c =
    let e : FunctionName × FunctionSum = (c.in-Some.name.now, c.in-Some.sum.now) in
    let small : All (λ (x : FunctionName × FunctionSum). IsSmall x.1) (e ∷ c.next.new.self) = subst (All (λ (x : FunctionName × FunctionSum). IsSmall x.1)) c.in-Some.ensures.steps c.loop-name.invariant.small in
    record {
      lines = one_line c.loop-name.text.items _ _ e c.loop-name.name-iterator c.next.new.self c.in-Some.ensures.steps c.in_ok-push_function.ensures c.loop-name.invariant.lines;
      small = All-tail (λ x. IsSmall x.1) e c.next.new.self small;
    }
