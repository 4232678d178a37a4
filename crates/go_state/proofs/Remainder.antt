-- Each event leaves less to come.
use Rattle.std.proofs.Common.{◌≡◌, ℕ, zero, suc, ◌+◌, ◌-◌, ◌*◌, ◌<◌, ◌≤◌, Bool, true, false, cond, List, [], ◌∷◌, ◌++◌, Option, Some, None, refl, sym, ap, ◌∙◌, subst, length, arith, ⊎_elim, get_or}
use Rattle.std.specs.Prelude.{slice_get, slice_index_or, sum_by, ◌==◌, option_map}
use Rattle.std.specs.Option.{option_map_or}
use Rattle.std.proofs.Math.Nat.{suc-mul, mul-le-mul_right}
use Rattle.std.proofs.lemmas.Option.{none-some, same_Some, slice_get_within, get_or_from_slice_get}
use Rattle.std.proofs.lemmas.Bool.{cases_lt}
use Rattle.std.proofs.lemmas.List.Sums.{sum_by-le, sum_by-set, get_or-le-sum_by}
use Rattle.go_meaning.specs.declared.node.Node.{Node}
use Rattle.go_meaning.specs.declared.item.Item.{Item}
use Rattle.go_meaning.specs.declared.item.Item.TheVariants.{Run}
use Rattle.go_meaning.specs.declared.config.Call.{Call}
use Rattle.go_meaning.specs.declared.config.Frame.{Frame}
use Rattle.go_meaning.specs.declared.config.Goroutine.{Goroutine}
use Rattle.go_meaning.specs.declared.config.Config.{Config}
use Rattle.go_meaning.specs.declared.event.Event.{Event}
use Rattle.go_meaning.specs.declared.event.Event.TheVariants.{Step, Count}
use Rattle.go_meaning.specs.Programs.{Parts, list_at, form_of}
use Rattle.go_meaning.specs.Steps.{count_of, due_item, due_frames, due, past_item, past_frames, counted_at, arrive_one, step}
use Rattle.go_meaning.specs.Histories.{replay, steps_in, EndBy, IsDead, EndIs}
use Rattle.go_state.specs.Runs.{RunState, step_of}
use Rattle.go_state.specs.Remaining.{ahead_of_control, ahead_of_frames, ahead, statements, remaining_in, remaining}
use Rattle.go_state.proofs.Replays.{Follows, steps_more, replay_more}

map_some : {A B : Type 0} (f : A → B) (o : Option A) (y : B) → option_map f o ≡ Some y → (x : A) × (o ≡ Some x) × (f x ≡ y)
map_some f None y e = absurd (none-some y e)
map_some f (Some x) y e = (x, refl, same_Some (f x) y e)

module _ (P : Parts) where
  -- ---- within a list

  past_end : (ls : List (List Node)) (n : ℕ) → length ls ≤ n → length (slice_index_or ls n []) ≡ 0
  past_end [] zero h = refl
  past_end [] (suc n) h = refl
  past_end (l ∷ ls) zero h = absurd (omega arith)
  past_end (l ∷ ls) (suc n) h = past_end ls n (omega (arith, h))

  list_small : (n : ℕ) → length (list_at P n) ≤ statements P
  list_small n = ⊎_elim (λ l. get_or-le-sum_by length P.lists n [] l) (λ l. let e = past_end P.lists n l in omega (arith, e)) (cases_lt n (length P.lists))

  pub ahead_small : (go : Goroutine) → ahead P go ≤ statements P
  ahead_small go = by go.begin go.frames
    where
      at : (is : List Item) → ahead_of_control P is ≤ statements P
      at (Run n i ∷ is) = let l = list_small n in omega (arith, l)
      at [] = omega arith
      at (it ∷ is) = omega arith

      by : (b : Option Call) (fs : List Frame) → ahead_of_frames P b fs ≤ statements P
      by (Some call) fs = omega arith
      by None [] = omega arith
      by None (f ∷ fs) = at f.control

  pub all_small : (c : Config) → length c.goroutines ≤ 256 → sum_by (ahead P) c.goroutines ≤ 256 * statements P
  all_small c few =
      let a = sum_by-le (ahead P) (statements P) c.goroutines (λ k d h. ahead_small (get_or c.goroutines k d)) in
      let b = mul-le-mul_right (statements P) few in
      omega (arith, a, b)

  -- ---- a counter step leaves one statement less ahead

  there : (o : Option Node) (u : ℕ) → count_of (form_of o) ≡ Some u → (x : Node) × (o ≡ Some x)
  there None u e = absurd (none-some u e)
  there (Some x) u e = (x, refl)

  past_less : (is : List Item) (u : ℕ) → due_item P is ≡ Some u → suc (ahead_of_control P (past_item is)) ≡ ahead_of_control P is
  past_less (Run n i ∷ is) u e =
      let x = there (slice_get (list_at P n) i) u e in
      let l = slice_get_within (list_at P n) i x.0 x.1 in
      omega (arith, l)
  past_less [] u e = absurd (none-some u e)
  past_less (it ∷ is) u e = cc

  go_less : (go : Goroutine) (u : ℕ) → due P (Some go) ≡ Some u → suc (ahead P (record go { frames = past_frames go.frames })) ≡ ahead P go
  go_less go u e = by go.begin go.frames e
    where
      by : (b : Option Call) (fs : List Frame) → due_frames P b fs ≡ Some u → suc (ahead_of_frames P b (past_frames fs)) ≡ ahead_of_frames P b fs
      by (Some call) fs h = absurd (none-some u h)
      by None [] h = absurd (none-some u h)
      by None (f ∷ fs) h = past_less f.control u h

  counted_is : (u : ℕ) (o : Option Goroutine) (x : Goroutine) → counted_at u o (due P o) ≡ Some x → (go : Goroutine) × (o ≡ Some go) × (suc (ahead P x) ≡ ahead P go)
  counted_is u None x e = absurd (none-some x e)
  counted_is u (Some go) x e = (go, refl, by (due P (Some go)) refl e)
    where
      by : (w : Option ℕ) → due P (Some go) ≡ w → counted_at u (Some go) w ≡ Some x → suc (ahead P x) ≡ ahead P go
      by None d h = absurd (none-some x h)
      by (Some v) d h = at (v == u) h
        where
          at : (b : Bool) → cond b (Some (record go { frames = past_frames go.frames })) None ≡ Some x → suc (ahead P x) ≡ ahead P go
          at true k = ap (λ y. suc (ahead P y)) (sym (same_Some (record go { frames = past_frames go.frames }) x k)) ∙ go_less go v d
          at false k = absurd (none-some x k)

  pub count_less : (c d : Config) (g u : ℕ) → step P c (Count g u) ≡ Some d → suc (sum_by (ahead P) d.goroutines) ≡ sum_by (ahead P) c.goroutines
  unfolding step
  count_less c d zero u e = absurd (none-some d e)
  count_less c d (suc i) u e =
      let m = map_some (arrive_one c i) (counted_at u (slice_get c.goroutines i) (due P (slice_get c.goroutines i))) d e in
      let x = counted_is u (slice_get c.goroutines i) m.0 m.1 in
      let l = slice_get_within c.goroutines i x.0 x.1 in
      let s = sum_by-set (ahead P) c.goroutines i m.0 x.0 l in
      let w : ahead P (get_or c.goroutines i x.0) ≡ ahead P x.0 = ap (ahead P) (get_or_from_slice_get c.goroutines i x.0 x.0 x.1) in
      let y = x.2 in
      let F : Config → Type 0 = λ z. suc (sum_by (ahead P) z.goroutines) ≡ sum_by (ahead P) c.goroutines in
      subst F m.2 (omega (arith, s, w, y))

  -- ---- a step of the program leaves one step less

  before_end : (limit k : ℕ) (c : Config) → EndIs P limit c k None → k < limit
  before_end limit k c h = by c.end h
    where
      by : (o : Option _) → EndBy o (IsDead P c) (limit ≤ k) None → k < limit
      by None x = let n = x.1 in ⊎_elim (λ l. l) (λ l. absurd (n l)) (cases_lt k limit)
      by (Some e) x = absurd (none-some e x)

  step_less : (limit k a b : ℕ) → k < limit → a ≤ 256 * statements P → (limit - (k + 1)) * (256 * statements P + 1) + a < (limit - k) * (256 * statements P + 1) + b
  step_less limit k a b l s =
      let m : limit - k ≡ suc (limit - (k + 1)) = omega (arith, l) in
      let e : (limit - k) * (256 * statements P + 1) ≡ (limit - (k + 1)) * (256 * statements P + 1) + (256 * statements P + 1) = ap (λ n. n * (256 * statements P + 1)) m ∙ suc-mul (limit - (k + 1)) (256 * statements P + 1) in
      omega (arith, e, s)

  pub event_less : (limit k : ℕ) (c d : Config) (e : Event) → Follows P limit c k e d → length d.goroutines ≤ 256 → remaining_in P limit (k + step_of e) d < remaining_in P limit k c
  event_less limit k c d (Step g i p q) f few = step_less limit k (sum_by (ahead P) d.goroutines) (sum_by (ahead P) c.goroutines) (before_end limit k c f.0) (all_small d few)
  event_less limit k c d (Count g u) f few =
      let s = count_less c d g u f in
      let m : k + 0 ≡ k = omega arith in
      let F : ℕ → Type 0 = λ n. remaining_in P limit n d < remaining_in P limit k c in
      subst F (sym m) (omega (arith, s))

-- a run that has gone on by one event
pub run_less : (r n : RunState) (c d : Config) (e : Event) → n.program ≡ r.program → n.limits ≡ r.limits → n.history ≡ r.history ++ e ∷ [] → replay r.program r.history ≡ Some c → step r.program c e ≡ Some d → Follows r.program r.limits.steps c (steps_in r.history) e d → length d.goroutines ≤ 256 → remaining n < remaining r
unfolding remaining
run_less r n c d e p l h w s f few =
    let a : remaining_in n.program n.limits.steps (steps_in n.history) d ≡ remaining_in r.program r.limits.steps (steps_in r.history + step_of e) d =
    ap (λ P. remaining_in P n.limits.steps (steps_in n.history) d) p ∙ ap (λ x. remaining_in r.program x.steps (steps_in n.history) d) l ∙ ap (λ x. remaining_in r.program r.limits.steps x d) (ap steps_in h ∙ steps_more r.history e) in
    let b : remaining n ≡ remaining_in n.program n.limits.steps (steps_in n.history) d = ap (λ o. option_map_or (remaining_in n.program n.limits.steps (steps_in n.history)) o 0) (ap (λ P. replay P n.history) p ∙ ap (replay r.program) h ∙ replay_more r.program r.history c e w ∙ s) in
    let y : remaining r ≡ remaining_in r.program r.limits.steps (steps_in r.history) c = ap (λ o. option_map_or (remaining_in r.program r.limits.steps (steps_in r.history)) o 0) w in
    let z = event_less r.program r.limits.steps (steps_in r.history) c d e f few in
    omega (arith, a, b, y, z)
