-- The lines of functions, from the entries of their sums.
use Rattle.std.proofs.Common.{◌≡◌, ℕ, ◌<◌, ◌^◌, List, [], ◌∷◌, ◌++◌, All, map, ap, sym, subst, ◌∙◌, arith}
use Rattle.std.specs.Prelude.{◌==◌, if◌then◌else◌, slice_index_or}
use Rattle.std.specs.List.{flat_map}
use Rattle.std.proofs.lemmas.List.Elements.{All-nil, All-cons, All-head, All-tail, All-map}
use Rattle.std.proofs.lemmas.List.Folds.{flat_map-map}
use Rattle.cov_table.specs.Key.{Key}
use Rattle.cov_report.specs.declared.function_sums.FunctionName.{FunctionName}
use Rattle.cov_report.specs.declared.function_sums.FunctionSum.{FunctionSum}
use Rattle.cov_report.specs.Shares.{statements_of, covered_of}
use Rattle.cov_report.specs.FunctionLines.{first_units, total_text, func_text}
use Rattle.cov_report.specs.FunctionSums.{Function, named_sum, sum_over, AreSums, sum_line, IsSmall}
use Rattle.cov_report.proofs.FunctionSumming.{sum_within}

abbrev AllSmall : List (Function × FunctionSum) → Type 0
AllSmall sums = All (λ s. IsSmall s.1) sums

unnamed : (entries : List (FunctionName × FunctionSum)) → AllSmall (map named_sum entries) → All (λ e. IsSmall e.1) entries
unnamed [] h = All-nil (λ e. IsSmall e.1)
unnamed (e ∷ entries) h =
    All-cons (λ e. IsSmall e.1) e entries (All-head (λ s. IsSmall s.1) (named_sum e) (map named_sum entries) h)
    (unnamed entries (All-tail (λ s. IsSmall s.1) (named_sum e) (map named_sum entries) h))

-- no function has more statements than all together
pub small_sums : (units : List (Key × ℕ)) (entries : List (FunctionName × FunctionSum)) → AreSums units entries → (statements_of units < 2 ^ 100) × (covered_of units < 2 ^ 100) → All (λ e. IsSmall e.1) entries
small_sums units entries are small =
    unnamed entries (subst AllSmall (sym are.sums) (All-map (λ s. IsSmall s.1) (sum_over units) (first_units units) (λ k d l. each (get k d))))
  where
    get : ℕ → Key × ℕ → Key × ℕ
    get k d = slice_index_or (first_units units) k d

    each : (u : Key × ℕ) → IsSmall (sum_over units u).1
    each u =
        let t = sum_within (λ w. w.0.statements) u.0 units in
        let c = sum_within (λ w. if w.1 == 0 then 0 else w.0.statements) u.0 units in
        (omega (arith, t, small.0), omega (arith, c, small.1))

pub text_of_sums : (units : List (Key × ℕ)) (entries : List (FunctionName × FunctionSum)) (c t : ℕ) (empty lines text : List ℕ)
    → AreSums units entries → c ≡ covered_of units → t ≡ statements_of units
    → empty ≡ [] → lines ≡ empty ++ flat_map sum_line (map named_sum entries) → text ≡ lines ++ total_text c t → text ≡ func_text units
text_of_sums units entries c t empty lines text are covered statements none some all =
    all
    ∙ (λ i. lines ++ total_text (covered i) (statements i))
    ∙ ap (λ (x : List ℕ). x ++ total_text (covered_of units) (statements_of units))
    (some ∙ (λ i. none i ++ flat_map sum_line (are.sums i)) ∙ flat_map-map sum_line (sum_over units) (first_units units))
