-- The entries of a unit are those by each goroutine.
use Rattle.std.proofs.Common.{◌≡◌, ℕ, zero, suc, ◌+◌, ◌<◌, ◌≤◌, Bool, true, false, cond, ◌||◌, List, [], ◌∷◌, Option, Some, None, refl, sym, ap, ap₂, ◌∙◌, length, ⊎_elim, arith}
use mathlib.Core.Path.{fun_ext}
use Rattle.std.specs.Prelude.{slice_get, ◌==◌}
use Rattle.std.proofs.lemmas.Bool.{eqb-true, eq-eqb, cases_lt}
use Rattle.go_meaning.specs.declared.config.Goroutine.{Goroutine}
use Rattle.go_meaning.specs.declared.config.Config.{Config}
use Rattle.go_meaning.specs.declared.event.Event.{Event}
use Rattle.go_meaning.specs.declared.event.Event.TheVariants.{Step, Count}
use Rattle.go_meaning.specs.Programs.{Parts}
use Rattle.go_meaning.specs.Steps.{step, numbered}
use Rattle.go_meaning.specs.Histories.{start}
use Rattle.go_meaning.specs.Entries.{unit_of, is_unit, entered, entered_by, entries_from, entered_by_both, unit_entered_by, unit_entries_from}
use Rattle.go_meaning.specs.Laws.{AreFew, GoroutinesStayFew}
use Rattle.cov_erase.specs.Laws.{sum_to, EntriesAddUp}
use Rattle.cov_erase.proofs.Weaving.{apart_step}

-- ---- sums

sum_add : (n : ℕ) (f h : ℕ → ℕ) → sum_to n (λ g. f g + h g) ≡ sum_to n f + sum_to n h
sum_add zero f h = omega arith
sum_add (suc n) f h = let i = sum_add n f h in omega (arith, i)

sum_none : (n : ℕ) → sum_to n (λ g. 0) ≡ 0
sum_none zero = refl
sum_none (suc n) = let i = sum_none n in omega (arith, i)

-- one term
abbrev at_one : ℕ → (ℕ → ℕ) → ℕ → ℕ
at_one a x g = cond (g == a) (x g) 0

miss : (a g : ℕ) (x : ℕ → ℕ) → (g ≡ a → ⊥) → at_one a x g ≡ 0
miss a g x h = by (g == a) (eqb-true g a)
  where
    by : (b : Bool) → (b ≡ true → g ≡ a) → cond b (x g) 0 ≡ 0
    by true k = absurd (h (k refl))
    by false k = refl

hit : (a : ℕ) (x : ℕ → ℕ) → at_one a x a ≡ x a
hit a x = ap (λ b. cond b (x a) 0) (eq-eqb a a refl)

sum_beyond : (n a : ℕ) (x : ℕ → ℕ) → n < a → sum_to n (at_one a x) ≡ 0
sum_beyond zero a x h = refl
sum_beyond (suc n) a x h =
    let m = miss a (suc n) x (λ e. omega (arith, e, h)) in
    let i = sum_beyond n a x (omega (arith, h)) in
    omega (arith, m, i)

sum_within : (n a : ℕ) (x : ℕ → ℕ) → a < n → sum_to n (at_one (suc a) x) ≡ x (suc a)
sum_within zero a x h = absurd (omega (arith, h))
sum_within (suc n) a x h = ⊎_elim (λ k. inside k (sum_within n a x k)) last (cases_lt a n)
  where
    inside : a < n → sum_to n (at_one (suc a) x) ≡ x (suc a) → sum_to (suc n) (at_one (suc a) x) ≡ x (suc a)
    inside k i =
        let m = miss (suc a) (suc n) x (λ e. omega (arith, e, k)) in
        omega (arith, m, i)

    last : n ≤ a → sum_to (suc n) (at_one (suc a) x) ≡ x (suc a)
    last k =
        let e : a ≡ n = omega (arith, h, k) in
        let i = sum_beyond n (suc a) x (omega (arith, k)) in
        let m : at_one (suc a) x (suc n) ≡ x (suc a) = ap (λ j. at_one (suc a) x (suc j)) (sym e) ∙ hit (suc a) x in
        omega (arith, m, i)

sum_nowhere : (n : ℕ) (x : ℕ → ℕ) → sum_to n (at_one 0 x) ≡ 0
sum_nowhere zero x = refl
sum_nowhere (suc n) x =
    let m = miss 0 (suc n) x (λ e. omega (arith, e)) in
    let i = sum_nowhere n x in
    omega (arith, m, i)

module _ (P : Parts) (u : ℕ) where
  abbrev there : Config → ℕ → ℕ
  there c g = is_unit (unit_of P (numbered c g)) u

  gone : (gos : List Goroutine) (i : ℕ) → length gos ≤ i → is_unit (unit_of P (slice_get gos i)) u ≡ 0
  gone [] zero h = refl
  gone [] (suc i) h = refl
  gone (go ∷ gos) zero h = absurd (omega (arith, h))
  gone (go ∷ gos) (suc i) h = gone gos i (omega (arith, h))

  sum_one : (c : Config) (a : ℕ) → AreFew c → sum_to 256 (at_one a (there c)) ≡ there c a
  sum_one c zero h = sum_nowhere 256 (there c)
  sum_one c (suc i) h = ⊎_elim (λ k. sum_within 256 i (there c) k) (λ k. sum_beyond 256 (suc i) (there c) (omega (arith, k)) ∙ sym (gone c.goroutines i (omega (arith, h, k)))) (cases_lt i 256)

  either : (c : Config) (a b g : ℕ) → (a ≡ b → ⊥) → entered P c a b g u ≡ at_one a (there c) g + at_one b (there c) g
  either c a b g ne = by (g == a) (g == b) (eqb-true g a) (eqb-true g b)
    where
      by : (x y : Bool) → (x ≡ true → g ≡ a) → (y ≡ true → g ≡ b) → cond (x || y) (there c g) 0 ≡ cond x (there c g) 0 + cond y (there c g) 0
      by true true p q = absurd (ne (sym (p refl) ∙ q refl))
      by true false p q = omega arith
      by false true p q = omega arith
      by false false p q = omega arith

  entered_sum : (c : Config) (a b : ℕ) → (a ≡ b → ⊥) → AreFew c → sum_to 256 (λ g. entered P c a b g u) ≡ entered_by_both P c a b u
  entered_sum c a b ne h =
      ap (sum_to 256) (fun_ext (λ g. either c a b g ne))
      ∙ sum_add 256 (at_one a (there c)) (at_one b (there c))
      ∙ ap₂ (λ x y. x + y) (sum_one c a h) (sum_one c b h)

  add_up : GoroutinesStayFew → (es : List Event) (c : Config) → AreFew c → sum_to 256 (λ g. entries_from P c es g u) ≡ unit_entries_from P c es u
  unfolding entries_from unit_entries_from
  add_up stay [] c h = sum_none 256
  add_up stay (Step a k b q ∷ es) c h = by (step P c (Step a k b q)) refl (λ d w. add_up stay es d w)
    where
      by : (o : Option Config) → step P c (Step a k b q) ≡ o → ((d : Config) → AreFew d → sum_to 256 (λ g. entries_from P d es g u) ≡ unit_entries_from P d es u) → sum_to 256 (λ g. entered_by P (Step a k b q) g u (λ d. entries_from P d es g u) o) ≡ unit_entered_by P (Step a k b q) u (λ d. unit_entries_from P d es u) o
      by None e more = sum_none 256
      by (Some d) e more =
          let few = stay P c d (Step a k b q) e h in
          sum_add 256 (λ g. entered P d a b g u) (λ g. entries_from P d es g u)
          ∙ ap₂ (λ x y. x + y) (entered_sum d a b (λ w. apart_step P c d a k b q w e) few) (more d few)
  add_up stay (Count a w ∷ es) c h = by (step P c (Count a w)) refl (λ d x. add_up stay es d x)
    where
      by : (o : Option Config) → step P c (Count a w) ≡ o → ((d : Config) → AreFew d → sum_to 256 (λ g. entries_from P d es g u) ≡ unit_entries_from P d es u) → sum_to 256 (λ g. entered_by P (Count a w) g u (λ d. entries_from P d es g u) o) ≡ unit_entered_by P (Count a w) u (λ d. unit_entries_from P d es u) o
      by None e more = sum_none 256
      by (Some d) e more = more d (stay P c d (Count a w) e h)

pub entries_add_up : GoroutinesStayFew → EntriesAddUp
entries_add_up stay P h u = sym (add_up P u stay h (start P) (omega arith))
