-- Units that are kept, one after the other, and their sums.
use Rattle.std.proofs.Common.{◌≡◌, ℕ, ◌+◌, ◌≤◌, Bool, List, [], ◌∷◌, ◌++◌, drop, take, Some, sym, ap, ◌∙◌, arith}
use Rattle.std.specs.Prelude.{slice_get, sum_by, filter}
use Rattle.std.proofs.lemmas.List.{take_more, take-append-drop}
use Rattle.std.proofs.lemmas.List.Elements.{filter-append}
use Rattle.std.proofs.lemmas.List.Sums.{sum_by-append}
use Rattle.std.proofs.lemmas.Option.{slice_get_within, get_or_from_slice_get}
use Rattle.cov_report.proofs.Lines.{one_more}

module _ {A : Type 0} (keep : A → Bool) where
  -- a unit that comes, where those before it were kept
  pub kept_more : (units : List A) (i : ℕ) (u : A) → Some u ≡ slice_get units i → filter keep (take (i + 1) units) ≡ filter keep (take i units) ++ filter keep (u ∷ [])
  kept_more units i u at =
      ap (filter keep) (take_more units i u (slice_get_within units i u (sym at)) ∙ ap (λ (v : A). take i units ++ v ∷ []) (get_or_from_slice_get units i u u (sym at)))
      ∙ filter-append keep (take i units) (u ∷ [])

  -- a unit that is added to a sum, where those behind it are left
  pub sum_more : (f : A → ℕ) (units : List A) (i : ℕ) (u : A) (all before after : ℕ) → Some u ≡ slice_get units i
      → after ≡ before + sum_by f (filter keep (u ∷ []))
      → before + sum_by f (filter keep (drop i units)) ≡ all
      → after + sum_by f (filter keep (drop (i + 1) units)) ≡ all
  sum_more f units i u all before after at e h =
      let parts : sum_by f (filter keep (drop i units)) ≡ sum_by f (filter keep (u ∷ [])) + sum_by f (filter keep (drop (i + 1) units)) =
      ap (λ (t : List A). sum_by f (filter keep t)) (one_more units i u at)
      ∙ ap (sum_by f) (filter-append keep (u ∷ []) (drop (i + 1) units))
      ∙ sum_by-append f (filter keep (u ∷ [])) (filter keep (drop (i + 1) units))
      in
      omega (arith, parts, e, h)

  pub sum_before : (f : A → ℕ) (units : List A) (i : ℕ) → sum_by f (filter keep (take i units)) ≤ sum_by f (filter keep units)
  sum_before f units i =
      let parts : sum_by f (filter keep units) ≡ sum_by f (filter keep (take i units)) + sum_by f (filter keep (drop i units)) =
      ap (λ (t : List A). sum_by f (filter keep t)) (sym (take-append-drop i units))
      ∙ ap (sum_by f) (filter-append keep (take i units) (drop i units))
      ∙ sum_by-append f (filter keep (take i units)) (filter keep (drop i units))
      in
      omega (arith, parts)
