-- Histories that go on, their counter steps, and goroutines that stand at counters.
use Rattle.std.proofs.Common.{◌≡◌, ◌≢◌, ℕ, zero, suc, ◌+◌, ◌<◌, ◌≤◌, cond, eqb, List, [], ◌∷◌, ◌++◌, length, Option, Some, None, option_and_then, append_assoc, append-nil, refl, sym, ap, ◌∙◌, subst, arith}
use Rattle.go_meaning.specs.declared.event.Event.{Event}
use Rattle.go_meaning.specs.declared.event.Event.TheVariants.{Step, Count}
use Rattle.go_meaning.specs.declared.config.Config.{Config}
use Rattle.go_meaning.specs.Programs.{Parts}
use Rattle.go_meaning.specs.Steps.{step, due, numbered}
use Rattle.go_meaning.specs.Histories.{start, replay_from, replay, Goes, IsHistory}
use Rattle.go_meaning.specs.Laws.{StandsUntilCounted}
use Rattle.go_meaning.specs.Entries.{is_unit, unit_counts, count_at}
use Rattle.cov_cells.specs.Rule.{due_after, Begins}
use Rattle.cov_cells.specs.Steps.{counter_steps}

-- ---- beginnings

pub begins_self : (a : List Event) → Begins a a
begins_self a = ([], sym (append-nil a))

pub begins_trans : (a b c : List Event) → Begins a b → Begins b c → Begins a c
begins_trans a b c p q = (p.0 ++ q.0, q.1 ∙ ap (λ x. x ++ q.0) p.1 ∙ append_assoc a p.0 q.0)

-- ---- counter steps

pub unit_counts-append : (a b : List Event) (u : ℕ) → unit_counts (a ++ b) u ≡ unit_counts a u + unit_counts b u
unit_counts-append [] b u = omega arith
unit_counts-append (Step g k p q ∷ es) b u = unit_counts-append es b u
unit_counts-append (Count g w ∷ es) b u = omega (arith, unit_counts-append es b u)

pub unit_counts-steps : (es : List Event) (u : ℕ) → unit_counts (counter_steps es) u ≡ unit_counts es u
unit_counts-steps [] u = refl
unit_counts-steps (Step g k p q ∷ es) u = unit_counts-steps es u
unit_counts-steps (Count g w ∷ es) u = ap (λ n. cond (eqb w u) 1 0 + n) (unit_counts-steps es u)

pub unit_counts-one : (o : Option ℕ) (g u : ℕ) → unit_counts (count_at o g) u ≡ is_unit o u
unit_counts-one None g u = refl
unit_counts-one (Some w) g u = omega arith

-- no counter step of goroutine g
abbrev pub NoneOf : ℕ → List Event → Type 0
NoneOf g [] = Unit {0}
NoneOf g (Step a k p q ∷ es) = NoneOf g es
NoneOf g (Count a u ∷ es) = (a ≢ g) × NoneOf g es

none_of_steps : (g : ℕ) (es : List Event) → NoneOf g (counter_steps es) → NoneOf g es
none_of_steps g [] n = tt
none_of_steps g (Step a k p q ∷ es) n = none_of_steps g es n
none_of_steps g (Count a u ∷ es) n = (n.0, none_of_steps g es n.1)

none_at : (o : Option ℕ) (a g : ℕ) → a ≢ g → NoneOf g (count_at o a)
none_at None a g ne = tt
none_at (Some u) a g ne = (ne, tt)

pub none_of : (es : List Event) (o : Option ℕ) (a g : ℕ) → counter_steps es ≡ count_at o a → a ≢ g → NoneOf g es
none_of es o a g e ne = none_of_steps g es (subst (NoneOf g) (sym e) (none_at o a g ne))

-- ---- a goroutine that stands at a counter stays there while others go on

module _ (law : StandsUntilCounted) (P : Parts) (limit g u : ℕ) where
  stood : Option Config → Option ℕ
  stood o = option_and_then (λ (c : Config). due P (numbered c g)) o

  stays_from : (c : Config) (n : ℕ) (es : List Event) → Goes P limit c n es → due P (numbered c g) ≡ Some u → NoneOf g es → stood (replay_from P c es) ≡ Some u
  unfolding Goes replay_from stood
  stays_from c n [] ok at none = at
  stays_from c n (Step a k p q ∷ es) ok at none = let d = ok.1.0 in
      subst (λ o. stood (option_and_then (λ x. replay_from P x es) o) ≡ Some u) (sym ok.1.1) (stays_from d (suc n) es ok.1.2 (law P c d (Step a k p q) g u ok.1.1 at (λ e. cc)) none)
  stays_from c n (Count a w ∷ es) ok at none = let d = ok.0 in let ne = none.0 in
      subst (λ o. stood (option_and_then (λ x. replay_from P x es) o) ≡ Some u) (sym ok.1) (stays_from d n es ok.2 (law P c d (Count a w) g u ok.1 at (λ e. ne (let same : a ≡ g = cc in same))) none.1)

  stays_over : (c : Config) (n : ℕ) (h es : List Event) → Goes P limit c n (h ++ es) → stood (replay_from P c h) ≡ Some u → NoneOf g es → stood (replay_from P c (h ++ es)) ≡ Some u
  unfolding Goes replay_from stood
  stays_over c n [] es ok at none = stays_from c n es ok at none
  stays_over c n (Step a k p q ∷ h) es ok at none =
      subst (λ o. stood (option_and_then (λ x. replay_from P x (h ++ es)) o) ≡ Some u) (sym ok.1.1)
      (stays_over ok.1.0 (suc n) h es ok.1.2 (subst (λ o. stood (option_and_then (λ x. replay_from P x h) o) ≡ Some u) ok.1.1 at) none)
  stays_over c n (Count a w ∷ h) es ok at none =
      subst (λ o. stood (option_and_then (λ x. replay_from P x (h ++ es)) o) ≡ Some u) (sym ok.1)
      (stays_over ok.0 n h es ok.2 (subst (λ o. stood (option_and_then (λ x. replay_from P x h) o) ≡ Some u) ok.1 at) none)

  pub stays : (h es : List Event) → IsHistory P limit (h ++ es) → due_after P h g ≡ Some u → NoneOf g es → due_after P (h ++ es) g ≡ Some u
  unfolding due_after stood
  stays h es ok at none = stays_over (start P) 0 h es ok at none
