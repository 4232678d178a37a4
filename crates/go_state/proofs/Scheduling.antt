-- The serial schedule, an event or a turn at a time.
use Rattle.std.proofs.Common.{◌≡◌, ℕ, suc, ◌+◌, ◌<◌, ◌≤◌, List, [], ◌∷◌, ◌++◌, Option, Some, None, refl, sym, ap, ◌∙◌, subst, length, arith, ⊎_elim, inl, inr, ◌⊎◌}
use Rattle.std.specs.Prelude.{IfSome}
use Rattle.std.specs.Option.{option_map_or}
use Rattle.std.proofs.lemmas.Option.{same_Some}
use Rattle.go_meaning.specs.declared.event.Event.{Event}
use Rattle.go_meaning.specs.declared.event.Event.TheVariants.{Step, Count}
use Rattle.go_meaning.specs.declared.config.Config.{Config}
use Rattle.go_meaning.specs.Programs.{Parts}
use Rattle.go_meaning.specs.Steps.{due, numbered, step}
use Rattle.go_meaning.specs.Readiness.{IsFirst, IsIdle}
use Rattle.go_meaning.specs.Histories.{start, replay_from, replay, steps_in, EndIs, IsHistory}
use Rattle.go_meaning.specs.Laws.{GoroutinesStay, GoroutinesStayFew}
use Rattle.go_meaning.specs.Serial.{IsNext, Turn, turn_limit, first_turn, Leads, stays, steps, counts, passes}
use Rattle.go_state.specs.declared.limits.Limits.{Limits}
use Rattle.go_state.specs.Runs.{RunState, goroutines_after, step_of}
use Rattle.go_state.specs.Remaining.{remaining}
use Rattle.go_state.specs.Schedule.{Extends, IsAt, IsIdleIn, EndsBy, CanPass, IsNumber}
use Rattle.go_state.proofs.Activity.{count_steps}
use Rattle.go_state.proofs.Replays.{Follows, steps_more, replay_more, history_more}
use Rattle.go_state.proofs.Remainder.{run_less}

-- ---- the schedule goes on

module _ (P : Parts) (limit : ℕ) where
  pub leads_append : (t u v : Turn) (es fs : List Event) → Leads P limit t es u → Leads P limit u fs v → Leads P limit t (es ++ fs) v
  leads_append t u v es fs (stays w) m = m
  leads_append t u v es fs (steps a b d k p q hs e n l m') m = steps t v d k p q (hs ++ fs) e n l (leads_append (record { config = d; now = t.now; taken = suc t.taken; steps = suc t.steps }) u v hs fs m' m)
  leads_append t u v es fs (counts a b d w hs e n k m') m = counts t v d w (hs ++ fs) e n k (leads_append (record t { config = d }) u v hs fs m' m)
  leads_append t u v es fs (passes a b h hs e i n m') m = passes t v h (hs ++ fs) e i n (leads_append (record t { now = h; taken = 0 }) u v hs fs m' m)

  abbrev turn_at : Config → ℕ → ℕ → ℕ → Turn
  turn_at c g n k = record { config = c; now = g; taken = n; steps = k }

  -- what goroutine g does first
  record Goes-on (c : Config) (g n k : ℕ) (e : Event) : Type 0 where
    config : Config
    follows : Follows P limit c k e config
    leads : Leads P limit (turn_at c g n k) (e ∷ []) (turn_at config g (n + step_of e) (k + step_of e))

  first_goes : (c : Config) (g n k : ℕ) (e : Event) → IsFirst P c g (Some e) → EndIs P limit c k None → n < turn_limit → Goes-on c g n k e
  first_goes c g n k (Step h a p q) f o l =
      let d = f.1.0 in
      let G : ℕ → Type 0 = λ x. Goes-on c g n k (Step x a p q) in
      let w : Leads P limit (turn_at c g n k) (Step g a p q ∷ []) (turn_at d g (suc n) (suc k)) = steps (turn_at c g n k) (turn_at d g (suc n) (suc k)) d a p q [] o l f.1.1 (stays (turn_at d g (suc n) (suc k))) in
      let i : suc n ≡ n + 1 = omega arith in
      let j : suc k ≡ k + 1 = omega arith in
      let F : ℕ → Type 0 = λ x. Leads P limit (turn_at c g n k) (Step g a p q ∷ []) (turn_at d g x (suc k)) in
      let H : ℕ → Type 0 = λ x. Leads P limit (turn_at c g n k) (Step g a p q ∷ []) (turn_at d g (n + 1) x) in
      subst G (sym f.0) (record { config = d; follows = (o, f.1.1.leads); leads = subst H j (subst F i w) })
  first_goes c g n k (Count h u) f o l =
      let s = count_steps P c g u f.1 in
      let d = s.0 in
      let G : ℕ → Type 0 = λ x. Goes-on c g n k (Count x u) in
      let w : Leads P limit (turn_at c g n k) (Count g u ∷ []) (turn_at d g n k) = counts (turn_at c g n k) (turn_at d g n k) d u [] o l s.1 (stays (turn_at d g n k)) in
      let i : n ≡ n + 0 = omega arith in
      let j : k ≡ k + 0 = omega arith in
      let F : ℕ → Type 0 = λ x. Leads P limit (turn_at c g n k) (Count g u ∷ []) (turn_at d g x k) in
      let H : ℕ → Type 0 = λ x. Leads P limit (turn_at c g n k) (Count g u ∷ []) (turn_at d g (n + 0) x) in
      subst G (sym f.0) (record { config = d; follows = s.1; leads = subst H j (subst F i w) })

follows_step : (P : Parts) (limit : ℕ) (c d : Config) (k : ℕ) (e : Event) → Follows P limit c k e d → step P c e ≡ Some d
follows_step P limit c d k (Step g i p q) f = f.1
follows_step P limit c d k (Count g u) f = f

-- ---- a run in its turn

-- what holds of a run in which goroutine g takes its first event
pub record Advances (r n : RunState) (g t : ℕ) (e : Event) : Type 0 where
  pub at : IsAt n g (t + step_of e)
  pub less : remaining n < remaining r
  pub number : IsNumber n g

pub ends_in : (r : RunState) (c : Config) (o : Option _) → replay r.program r.history ≡ Some c → EndsBy r o → EndIs r.program r.limits.steps c (steps_in r.history) o
ends_in r c o w e = let F : Option Config → Type 0 = λ x. IfSome x (λ d. EndIs r.program r.limits.steps d (steps_in r.history) o) in subst F w e

pub many : (P : Parts) (h : List Event) (c : Config) → replay P h ≡ Some c → goroutines_after P h ≡ length c.goroutines
many P h c w = ap (λ o. option_map_or (λ (x : Config). length x.goroutines) o 0) w

module _ (r : RunState) (g t : ℕ) (c : Config) (e : Event) (at : IsAt r g t) (w : replay r.program r.history ≡ Some c) (goes : EndsBy r None) (within : t < turn_limit) (first : IsFirst r.program c g (Some e)) where
  on : Goes-on r.program r.limits.steps c g t (steps_in r.history) e
  on = first_goes r.program r.limits.steps c g t (steps_in r.history) e first (ends_in r c None w goes) within

  pub can_take : IsHistory r.program r.limits.steps r.history → IsHistory r.program r.limits.steps (r.history ++ e ∷ [])
  can_take h = history_more r.program r.limits.steps r.history c on.config (steps_in r.history) e h w refl on.follows

  pub taken : (n : RunState) → Extends r n → n.history ≡ r.history ++ e ∷ [] → IsNumber r g → length c.goroutines ≤ 256 → GoroutinesStay → GoroutinesStayFew → Advances r n g t e
  taken n x h number few stay stay_few =
      let P = r.program in
      let d = on.config in
      let s = follows_step P r.limits.steps c d (steps_in r.history) e on.follows in
      let p : n.program ≡ r.program = ap (λ (y : RunState). y.program) x in
      let l : n.limits ≡ r.limits = ap (λ (y : RunState). y.limits) x in
      let rd : replay P (r.history ++ e ∷ []) ≡ Some d = replay_more P r.history c e w ∙ s in
      let nd : replay n.program n.history ≡ Some d = ap (λ Q. replay Q n.history) p ∙ ap (replay P) h ∙ rd in
      let same : at.config ≡ c = same_Some at.config c (sym at.replays ∙ w) in
      let A : Config → Type 0 = λ y. Leads P r.limits.steps (first_turn P) r.history (record { config = y; now = g; taken = t; steps = steps_in r.history }) in
      let led = leads_append P r.limits.steps (first_turn P) (record { config = c; now = g; taken = t; steps = steps_in r.history }) (record { config = d; now = g; taken = t + step_of e; steps = steps_in r.history + step_of e }) r.history (e ∷ []) (subst A same at.leads) on.leads in
      let B : ℕ → Type 0 = λ y. Leads P r.limits.steps (first_turn P) (r.history ++ e ∷ []) (record { config = d; now = g; taken = t + step_of e; steps = y }) in
      let C : List Event → Type 0 = λ y. Leads P r.limits.steps (first_turn P) y (record { config = d; now = g; taken = t + step_of e; steps = steps_in y }) in
      let D : Parts → Type 0 = λ y. Leads y r.limits.steps (first_turn y) n.history (record { config = d; now = g; taken = t + step_of e; steps = steps_in n.history }) in
      let E : Limits → Type 0 = λ y. Leads n.program y.steps (first_turn n.program) n.history (record { config = d; now = g; taken = t + step_of e; steps = steps_in n.history }) in
      let more = stay P c d e s in
      let a = many P r.history c w in
      let b = many n.program n.history d nd in
      let y = number.1 in
      record {
        at = record { config = d; replays = nd; leads = subst E (sym l) (subst D (sym p) (subst C (sym h) (subst B (sym (steps_more r.history e)) led))) };
        less = run_less r n c d e p l h w s on.follows (stay_few P c d e s few);
        number = (number.0, omega (arith, more, a, b, y));
      }

pub step_small : (e : Event) → step_of e ≤ 1
step_small (Step g k p q) = omega arith
step_small (Count g u) = omega arith

-- ---- the turn is given on

append_none : (es : List Event) → es ++ [] ≡ es
append_none [] = refl
append_none (e ∷ es) = ap (λ l. e ∷ l) (append_none es)

pub pass_on : (r : RunState) (g t h : ℕ) (c : Config) → replay r.program r.history ≡ Some c → IsAt r g t → CanPass r g t → EndsBy r None → IsNext c g h → IsAt r h 0
pass_on r g t h c w at can goes next =
    let P = r.program in
    let k = steps_in r.history in
    let same : at.config ≡ c = same_Some at.config c (sym at.replays ∙ w) in
    let A : Config → Type 0 = λ y. Leads P r.limits.steps (first_turn P) r.history (record { config = y; now = g; taken = t; steps = k }) in
    let I : Option Config → Type 0 = λ o. IfSome o (λ y. IsIdle P y g) in
    let idle : IsIdle P c g ⊎ (turn_limit ≤ t) = ⊎_elim (λ (x : IsIdleIn r g). inl (subst I w x)) (λ x. inr x) can in
    let here : Turn = record { config = c; now = g; taken = t; steps = k } in
    let there : Turn = record { config = c; now = h; taken = 0; steps = k } in
    let led = leads_append P r.limits.steps (first_turn P) here there r.history [] (subst A same at.leads) (passes here there h [] (ends_in r c None w goes) idle next (stays there)) in
    let B : List Event → Type 0 = λ es. Leads P r.limits.steps (first_turn P) es there in
    record { config = c; replays = w; leads = subst B (append_none r.history) led }

-- goroutine 1 has the first turn
pub at_start : (r : RunState) → r.history ≡ [] → IsAt r 1 0
unfolding replay_from
at_start r e =
    let P = r.program in
    let F : List Event → Type 0 = λ h. (c : Config) × (replay P h ≡ Some c) × Leads P r.limits.steps (first_turn P) h (record { config = c; now = 1; taken = 0; steps = steps_in h }) in
    let w = subst F (sym e) (start P, refl, stays (first_turn P)) in
    record { config = w.0; replays = w.1; leads = w.2 }

pub extends_on : (a b c : RunState) → Extends a b → Extends b c → Extends a c
extends_on a b c p q = q ∙ ap (λ (x : RunState). record x { history = c.history; spare = c.spare }) p

-- the counter step of a goroutine that stands at a counter
pub can_count : (r : RunState) (c : Config) (g u : ℕ) → IsHistory r.program r.limits.steps r.history → replay r.program r.history ≡ Some c → due r.program (numbered c g) ≡ Some u → IsHistory r.program r.limits.steps (r.history ++ Count g u ∷ [])
can_count r c g u h w e = let s = count_steps r.program c g u e in history_more r.program r.limits.steps r.history c s.0 (steps_in r.history) (Count g u) h w refl s.1
