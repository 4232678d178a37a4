-- Erasing a covered history.
use Rattle.std.proofs.Common.{◌≡◌, ℕ, zero, suc, ◌+◌, List, [], Option, Some, refl, sym, ap, ◌∙◌, subst, arith}
use Rattle.std.specs.Prelude.{slice_get, option_map, IfSome}
use Rattle.go_meaning.specs.declared.config.Goroutine.{Goroutine}
use Rattle.go_meaning.specs.declared.config.Config.{Config}
use Rattle.go_meaning.specs.declared.event.End.{End}
use Rattle.go_meaning.specs.declared.event.Event.{Event}
use Rattle.go_meaning.specs.Programs.{Parts}
use Rattle.go_meaning.specs.Steps.{due}
use Rattle.go_meaning.specs.Erasing.{erase_config, erase_events, IsUncounted}
use Rattle.go_meaning.specs.Units.{counted}
use Rattle.go_meaning.specs.Histories.{start, replay, steps_in, EndIs, IsHistory, EndAfter, IsAtRest, EndsAtRest}
use Rattle.go_meaning.specs.Entries.{is_unit, entries, counts_in, stands_in, stands_at, stands}
use Rattle.cov_erase.specs.Laws.{Erased, ErasureHolds}
use Rattle.cov_erase.proofs.Histories.{end_erased, end_covered, goes_erased, Reached, reached, entries_are, sound_start, goes_reaches, steps_erased}
use Rattle.cov_erase.proofs.Units.{unit_at_rest}

module _ (P : Parts) (un : IsUncounted P) where
  abbrev Q : Parts
  Q = counted P

  abbrev er : Config → Config
  er = erase_config Q

  pub erasure : (limit : ℕ) (es : List Event) → IsHistory Q limit es → Erased P limit es
  unfolding counted
  erasure limit es g =
      let r = goes_reaches P un limit 0 es (start Q) g in
      let d = r.0 in
      let k = reached P un es (start Q) d (sound_start P un) r.1 in
      record {
        history = goes_erased P un limit 0 es (start Q) (sound_start P un) g;
        output = ap (option_map (λ (c : Config). c.output)) k.erased ∙ ap (option_map (λ (c : Config). c.output)) (sym r.1);
        end = λ o. (to_covered d r.1 k o, to_source d r.1 k o);
        counted_once = λ a u. counted_entries d r.1 a u;
        at_rest = λ s a u. rested d r.1 s a u;
        units_at_rest = λ s u. unit_at_rest P un u es d r.1 s;
      }
    where
      to_covered : (d : Config) → replay Q es ≡ Some d → Reached P un (start Q) d es → (o : Option End) → EndAfter P limit (erase_events es) o → EndAfter Q limit es o
      to_covered d e k o h =
          let F : Option Config → Type 0 = λ x. IfSome x (λ c. EndIs P limit c (steps_in (erase_events es)) o) in
          let G : Option Config → Type 0 = λ x. IfSome x (λ c. EndIs Q limit c (steps_in es) o) in
          let N : ℕ → Type 0 = λ n. EndIs P limit (er d) n o in
          subst G (sym e) (end_covered P un limit (steps_in es) d o k.sound (subst N (steps_erased P un es) (subst F k.erased h)))

      to_source : (d : Config) → replay Q es ≡ Some d → Reached P un (start Q) d es → (o : Option End) → EndAfter Q limit es o → EndAfter P limit (erase_events es) o
      to_source d e k o h =
          let F : Option Config → Type 0 = λ x. IfSome x (λ c. EndIs P limit c (steps_in (erase_events es)) o) in
          let G : Option Config → Type 0 = λ x. IfSome x (λ c. EndIs Q limit c (steps_in es) o) in
          let N : ℕ → Type 0 = λ n. EndIs P limit (er d) n o in
          subst F (sym k.erased) (subst N (sym (steps_erased P un es)) (end_erased P un limit (steps_in es) d o k.sound (subst G e h)))

      counted_entries : (d : Config) → replay Q es ≡ Some d → (g u : ℕ) → entries P (erase_events es) g u ≡ counts_in es g u + stands Q es g u
      counted_entries d e a u =
          let i = entries_are P un es (start Q) d a u (sound_start P un) e in
          let z : stands_in Q (start Q) a u ≡ 0 = nothing a in
          let s : stands Q es a u ≡ stands_in Q d a u = ap (λ x. stands_at Q x a u) e in
          omega (arith, i, z, s)
        where
          nothing : (a : ℕ) → stands_in Q (start Q) a u ≡ 0
          nothing zero = refl
          nothing (suc zero) = refl
          nothing (suc (suc n)) = nowhere n
            where
              nowhere : (n : ℕ) → is_unit (due Q (slice_get {X = Goroutine} [] n)) u ≡ 0
              nowhere zero = refl
              nowhere (suc n) = refl

      rested : (d : Config) → replay Q es ≡ Some d → EndsAtRest Q es → (g u : ℕ) → entries P (erase_events es) g u ≡ counts_in es g u
      rested d e s a u =
          let i = counted_entries d e a u in
          let F : Option Config → Type 0 = λ x. IfSome x (IsAtRest Q) in
          let t : IsAtRest Q d = subst F e s in
          let z : stands Q es a u ≡ 0 = ap (λ x. stands_at Q x a u) e ∙ ap (λ o. is_unit o u) (t a) in
          omega (arith, i, z)

pub erasure_holds : ErasureHolds
erasure_holds P limit c un h = erasure P un limit c h
