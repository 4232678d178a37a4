-- The entries of a unit by all goroutines, and its counter events.
use Rattle.std.proofs.Common.{◌≡◌, ℕ, suc, ◌+◌, cond, List, [], ◌∷◌, Option, Some, None, refl, sym, ap, ◌∙◌, subst, arith, inl, inr}
use Rattle.std.specs.Prelude.{slice_get, ◌==◌, IfSome}
use Rattle.std.proofs.lemmas.Option.{same_Some}
use Rattle.go_meaning.specs.declared.config.Goroutine.{Goroutine}
use Rattle.go_meaning.specs.declared.config.Config.{Config}
use Rattle.go_meaning.specs.declared.event.Event.{Event}
use Rattle.go_meaning.specs.declared.event.Event.TheVariants.{Step, Count}
use Rattle.go_meaning.specs.Programs.{Parts}
use Rattle.go_meaning.specs.Steps.{due, step, numbered}
use Rattle.go_meaning.specs.Erasing.{erase_config, erase_events, IsUncounted}
use Rattle.go_meaning.specs.Units.{counted}
use Rattle.go_meaning.specs.Histories.{start, replay_from, replay, IsAtRest, EndsAtRest}
use Rattle.go_meaning.specs.Entries.{unit_of, is_unit, entered_by_both, unit_entered_by, unit_entries_from, unit_entries, unit_counts}
use Rattle.cov_erase.proofs.Settled.{AllSound}
use Rattle.cov_erase.proofs.Stepped.{due_new, stepped}
use Rattle.cov_erase.proofs.Counted.{counts}
use Rattle.cov_erase.proofs.Totals.{sum_of, total, share, step_changes, count_changes}
use Rattle.cov_erase.proofs.Histories.{and_then_some, apart_Q, step_erased, unit_due, numbered_erased, sound_start}

module _ (P : Parts) (un : IsUncounted P) (u : ℕ) where
  abbrev Q : Parts
  Q = counted P

  abbrev er : Config → Config
  er = erase_config Q

  -- whether it stands at the counter of the unit
  abbrev at_unit : Goroutine → ℕ
  at_unit go = is_unit (due Q (Some go)) u

  new_at : (go : Goroutine) → go.frames ≡ [] → at_unit go ≡ 0
  new_at go e = ap (λ o. is_unit o u) (due_new Q go.begin go.frames e)

  share_is : (o : Option Goroutine) → share at_unit o ≡ is_unit (due Q o) u
  share_is None = refl
  share_is (Some go) = refl

  entered_is : (c d : Config) (a k b q : ℕ) → AllSound Q c.goroutines → step Q c (Step a k b q) ≡ Some d → total at_unit d ≡ total at_unit c + entered_by_both P (er d) a b u
  entered_is c d a k b q h e =
      let s = stepped Q c d a k b q h e in
      let t = step_changes at_unit Q new_at c d a k b q h e in
      let x : share at_unit (numbered c a) ≡ 0 = share_is (numbered c a) ∙ ap (λ o. is_unit o u) (s.before a (inl refl)) in
      let y : share at_unit (numbered c b) ≡ 0 = share_is (numbered c b) ∙ ap (λ o. is_unit o u) (s.before b (inr refl)) in
      let z : is_unit (unit_of P (numbered (er d) a)) u ≡ share at_unit (numbered d a) = ap (λ o. is_unit o u) (ap (unit_of P) (numbered_erased P un d a) ∙ unit_due P un (numbered d a) (s.after a (inl refl))) ∙ sym (share_is (numbered d a)) in
      let w : is_unit (unit_of P (numbered (er d) b)) u ≡ share at_unit (numbered d b) = ap (λ o. is_unit o u) (ap (unit_of P) (numbered_erased P un d b) ∙ unit_due P un (numbered d b) (s.after b (inr refl))) ∙ sym (share_is (numbered d b)) in
      omega (arith, t, x, y, z, w)

  counted_is : (c d : Config) (a w : ℕ) → AllSound Q c.goroutines → step Q c (Count a w) ≡ Some d → total at_unit c ≡ (cond (w == u) 1 0) + total at_unit d
  counted_is c d a w h e =
      let s = counts Q (apart_Q P un) c d a w h e in
      let t = count_changes at_unit Q new_at c d a w e in
      let x : share at_unit (numbered c a) ≡ cond (w == u) 1 0 = share_is (numbered c a) ∙ ap (λ o. is_unit o u) s.before in
      let y : share at_unit (numbered d a) ≡ 0 = share_is (numbered d a) ∙ ap (λ o. is_unit o u) s.after in
      omega (arith, t, x, y)

  units_are : (es : List Event) (c d : Config) → AllSound Q c.goroutines → replay_from Q c es ≡ Some d → unit_entries_from P (er c) (erase_events es) u + total at_unit c ≡ unit_counts es u + total at_unit d
  unfolding replay_from unit_entries_from
  units_are [] c d h e = let w : total at_unit c ≡ total at_unit d = ap (total at_unit) (same_Some c d e) in omega (arith, w)
  units_are (Step a k b q ∷ es) c d h e =
      let f = and_then_some (λ z. replay_from Q z es) (step Q c (Step a k b q)) d e in
      let ih = units_are es f.0 d (stepped Q c f.0 a k b q h f.1).sound f.2 in
      let i = entered_is c f.0 a k b q h f.1 in
      let one : unit_entries_from P (er c) (Step a k b q ∷ erase_events es) u ≡ entered_by_both P (er f.0) a b u + unit_entries_from P (er f.0) (erase_events es) u = ap (unit_entered_by P (Step a k b q) u (λ z. unit_entries_from P z (erase_events es) u)) (step_erased P un c f.0 a k b q h f.1) in
      omega (arith, ih, i, one)
  units_are (Count a w ∷ es) c d h e =
      let f = and_then_some (λ z. replay_from Q z es) (step Q c (Count a w)) d e in
      let s = counts Q (apart_Q P un) c f.0 a w h f.1 in
      let ih = units_are es f.0 d s.sound f.2 in
      let i = counted_is c f.0 a w h f.1 in
      let one : unit_entries_from P (er f.0) (erase_events es) u ≡ unit_entries_from P (er c) (erase_events es) u = ap (λ x. unit_entries_from P x (erase_events es) u) s.erased in
      omega (arith, ih, i, one)

  none_at : (gos : List Goroutine) → ((i : ℕ) → due Q (slice_get gos i) ≡ None) → sum_of at_unit gos ≡ 0
  none_at [] h = refl
  none_at (go ∷ gos) h =
      let a : at_unit go ≡ 0 = ap (λ o. is_unit o u) (h 0) in
      let b = none_at gos (λ i. h (suc i)) in
      let c : sum_of at_unit (go ∷ gos) ≡ at_unit go + sum_of at_unit gos = refl in
      omega (arith, a, b, c)

  pub unit_at_rest : (es : List Event) (d : Config) → replay Q es ≡ Some d → EndsAtRest Q es → unit_entries P (erase_events es) u ≡ unit_counts es u
  unfolding counted
  unit_at_rest es d e s =
      let i = units_are es (start Q) d (sound_start P un) e in
      let F : Option Config → Type 0 = λ x. IfSome x (IsAtRest Q) in
      let t : IsAtRest Q d = subst F e s in
      let z = none_at d.goroutines (λ i. t (suc i)) in
      omega (arith, i, z)
