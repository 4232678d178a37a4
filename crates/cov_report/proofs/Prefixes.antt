-- Whether a path is at or below another, by what stands behind that other.
use Rattle.std.proofs.Common.{◌≡◌, ℕ, ◌<◌, ◌≤◌, Bool, true, false, nat_eq, ◌||◌, ◌&&◌, List, [], ◌∷◌, length, take, drop, refl, ap, ◌∙◌, arith}
use Rattle.std.specs.Prelude.{slice_index_or}
use Rattle.std.specs.List.{list_any}
use Rattle.std.specs.Cmp.Lexicographic.{pointwise}
use Rattle.std.proofs.lemmas.Bool.Decides.{nat_tests}
use Rattle.cov_report.specs.Filter.{is_at_or_below, matches, keeps}

same_number : (a : ℕ) → nat_eq a a ≡ true
same_number a = grind (arith, nat_tests)

turned_number : (a b : ℕ) → nat_eq a b ≡ nat_eq b a
turned_number a b = grind (arith, nat_tests)

and_true : (b : Bool) → (b && true) ≡ b
and_true true = refl
and_true false = refl

common : (b x y : Bool) → ((b && x) || (b && y)) ≡ (b && (x || y))
common true x y = refl
common false x y = refl

both : (b x : Bool) → (b && x) ≡ true → (b ≡ true) × (x ≡ true)
both true x h = (refl, h)
both false x h = cc

-- what stands behind a path that is below another begins with a slash
abbrev pub goes_on : List ℕ → Bool
goes_on [] = true
goes_on (c ∷ rest) = nat_eq c 47

pub under : (above path : List ℕ) → pointwise nat_eq (take (length above) path) above ≡ true → is_at_or_below above path ≡ goes_on (drop (length above) path)
under [] [] h = refl
under [] (c ∷ path) h = and_true (nat_eq 47 c) ∙ turned_number 47 c
under (a ∷ above) [] h = cc
under (a ∷ above) (c ∷ path) h =
    let p = both (nat_eq c a) _ h in
    common (nat_eq a c) _ _ ∙ ap (λ b. b && is_at_or_below above path) (turned_number a c ∙ p.0) ∙ under above path p.1

pub not_under : (above path : List ℕ) → pointwise nat_eq (take (length above) path) above ≡ false → is_at_or_below above path ≡ false
not_under [] path h = cc
not_under (a ∷ above) [] h = refl
not_under (a ∷ above) (c ∷ path) h =
    common (nat_eq a c) _ _
    ∙ elim (nat_eq c a) as (λ b. nat_eq c a ≡ b → (b && pointwise nat_eq (take (length above) path) above) ≡ false → (nat_eq a c && is_at_or_below above path) ≡ false) [
      | true ↦ λ e h. ap (λ b. b && is_at_or_below above path) (turned_number a c ∙ e) ∙ not_under above path h
      | false ↦ λ e h. ap (λ b. b && is_at_or_below above path) (turned_number a c ∙ e)
    ] refl h

pub goes_on_nowhere : (rest : List ℕ) → length rest < 1 → goes_on rest ≡ true
goes_on_nowhere [] h = refl
goes_on_nowhere (c ∷ rest) h = absurd (omega arith)

pub goes_on_by : (rest : List ℕ) → 1 ≤ length rest → goes_on rest ≡ nat_eq (slice_index_or rest 0 0) 47
goes_on_by [] h = absurd (omega arith)
goes_on_by (c ∷ rest) h = refl

pub keeps_some : (patterns : List (List ℕ)) (path : List ℕ) → (patterns ≡ [] → ⊥) → keeps patterns path ≡ list_any (λ pattern. matches pattern path) patterns
keeps_some [] path h = absurd (h refl)
keeps_some (p ∷ patterns) path h = refl
