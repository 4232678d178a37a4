-- A run after one event more.
use Rattle.std.proofs.Common.{◌≡◌, ℕ, ◌+◌, ◌<◌, true, List, [], ◌∷◌, ◌++◌, Option, Some, None, refl, sym, ap, ◌∙◌, subst, length, arith}
use Rattle.std.specs.Prelude.{is_some}
use Rattle.std.specs.Option.{option_or}
use Rattle.std.proofs.lemmas.Option.{none-some}
use Rattle.go_meaning.specs.declared.event.End.{End}
use Rattle.go_meaning.specs.declared.event.Event.{Event}
use Rattle.go_meaning.specs.declared.event.Event.TheVariants.{Step, Count}
use Rattle.go_meaning.specs.declared.config.Config.{Config}
use Rattle.go_meaning.specs.Programs.{Parts}
use Rattle.go_meaning.specs.Steps.{step}
use Rattle.go_meaning.specs.Histories.{start, replay_from, EndIs, Goes, IsHistory}
use Rattle.go_meaning.specs.Laws.{GoroutinesStay, GoroutinesStayFew}
use Rattle.go_state.specs.Runs.{step_of, IsRun}
use Rattle.go_state.proofs.Replays.{Follows, steps_more, replay_more, history_more, history_last, no_end}

-- a run that has just been started
pub run_start : (P Q : Parts) (limit : ℕ) (h : List Event) (c : Config) (e : Option End) → Q ≡ P → h ≡ [] → c ≡ start P → EndIs P limit c 0 (option_or c.end e) → IsRun Q limit h c 0 e 0
unfolding replay_from Goes
run_start P Q limit h c e p i j w =
    let F : Parts → List Event → Type 0 = λ R l. IsRun R limit l c 0 e 0 in
    let few : length c.goroutines ≡ 1 = ap (λ (x : Config). length x.goroutines) j in
    let is : IsRun P limit [] c 0 e 0 = record {
      history = tt;
      replays = ap Some (sym j);
      steps = refl;
      ends = w;
      served = omega arith;
      few = omega (arith, few);
      some = omega (arith, few);
    } in
    let G : Parts → Type 0 = λ R. F R [] in
    let H : List Event → Type 0 = F Q in
    subst H (sym i) (subst G (sym p) is)

module _ (P : Parts) (limit : ℕ) (h : List Event) (c : Config) (k : ℕ) (e : Option End) (n : ℕ) (r : IsRun P limit h c k e n) (v : Event) where
  follows : (d : Config) → (0 < step_of v → option_or c.end e ≡ None) → step P c v ≡ Some d → Follows P limit c k v d
  follows d free s = by v free s
    where
      by : (x : Event) → (0 < step_of x → option_or c.end e ≡ None) → step P c x ≡ Some d → Follows P limit c k x d
      by (Step a i p q) f t = let F : Option End → Type 0 = EndIs P limit c k in (subst F (f (omega arith)) r.ends, t)
      by (Count a u) f t = t

  -- the step is taken
  pub run_more : (d : Config) (Q : Parts) (h' : List Event) (t : ℕ) (e' : Option End) → Q ≡ P → h' ≡ h ++ v ∷ [] → t ≡ step_of v → (0 < t → option_or c.end e ≡ None) → step Q c v ≡ Some d → EndIs Q limit d (k + t) (option_or d.end e') → GoroutinesStay → GoroutinesStayFew → IsRun P limit h' d (k + t) e' n
  run_more d Q h' t e' p i j free s ends stay few =
      let F : List Event → Type 0 = λ l. IsRun P limit l d (k + t) e' n in
      let S : Parts → Type 0 = λ R. step R c v ≡ Some d in
      let E : Parts → Type 0 = λ R. EndIs R limit d (k + t) (option_or d.end e') in
      let here = subst S p s in
      let free' : 0 < step_of v → option_or c.end e ≡ None = λ w. free (omega (arith, w, j)) in
      let more = steps_more h v in
      let old = r.steps in
      let kept = stay P c d v here in
      let served = r.served in
      let some = r.some in
      subst F (sym i) (record {
        history = history_more P limit h c d k v r.history r.replays r.steps (follows d free' here);
        replays = replay_more P h c v r.replays ∙ here;
        steps = omega (arith, more, old, j);
        ends = subst E p ends;
        served = omega (arith, kept, served);
        few = few P c d v here r.few;
        some = omega (arith, kept, some);
      })

  -- the events with this one are no history, where there is no step
  pub no_step : (Q : Parts) → Q ≡ P → step Q c v ≡ None → IsHistory P limit (h ++ v ∷ []) → ⊥
  no_step Q p s w =
      let l = history_last P limit h c k v w r.replays r.steps in
      by v l.1 (ap (λ R. step R c v) (sym p) ∙ s)
    where
      l : (d : Config) × Follows P limit c k v d
      l = history_last P limit h c k v w r.replays r.steps

      by : (x : Event) → Follows P limit c k x l.0 → step P c x ≡ None → ⊥
      by (Step a i p q) f t = none-some l.0 (sym t ∙ f.1)
      by (Count a u) f t = none-some l.0 (sym t ∙ f)

  -- or where there is an end before a step of the program
  pub no_late : (t : ℕ) → t ≡ step_of v → 0 < t → is_some (option_or c.end e) ≡ true → IsHistory P limit (h ++ v ∷ []) → ⊥
  no_late t j l s w = by v m.1 (omega (arith, j, l))
    where
      m : (d : Config) × Follows P limit c k v d
      m = history_last P limit h c k v w r.replays r.steps

      ended : (o : Option End) → EndIs P limit c k o → EndIs P limit c k None → is_some o ≡ true → ⊥
      ended None a b x = cc
      ended (Some y) a b x = no_end P limit k c y b a

      by : (x : Event) → Follows P limit c k x m.0 → 0 < step_of x → ⊥
      by (Step a i p q) f t = ended (option_or c.end e) r.ends f.0 s
      by (Count a u) f t = omega (arith, t)
