-- What stays as it is after an end, and of a goroutine that is over.
use Rattle.std.proofs.Common.{◌≡◌, ℕ, zero, suc, ◌+◌, ◌<◌, ◌≤◌, ⊎_elim, Bool, true, false, List, [], ◌∷◌, ◌++◌, length, Option, Some, None, option_and_then, append_assoc, refl, sym, ap, ◌∙◌, subst, arith}
use Rattle.std.specs.Prelude.{slice_get, slice_set, ◌==◌, option_map, if◌then◌else◌}
use Rattle.std.proofs.lemmas.Option.{none-some, same_Some, slice_get_past}
use mathlib.Core.Logic.{dite}
use native.Mathlib.Decide.{ℕ_discrete}
use Rattle.go_meaning.specs.declared.event.End.{End}
use Rattle.go_meaning.specs.declared.event.Event.{Event}
use Rattle.go_meaning.specs.declared.event.Event.TheVariants.{Step, Count}
use Rattle.go_meaning.specs.declared.config.Call.{Call}
use Rattle.go_meaning.specs.declared.config.Frame.{Frame}
use Rattle.go_meaning.specs.declared.config.Goroutine.{Goroutine}
use Rattle.go_meaning.specs.declared.config.Config.{Config}
use Rattle.go_meaning.specs.Programs.{Parts}
use Rattle.go_meaning.specs.Steps.{step, due, due_frames, numbered, counted_at, past_frames, arrive_one}
use Rattle.go_meaning.specs.Readiness.{is_over, is_over_by}
use Rattle.go_meaning.specs.Histories.{start, replay_from, replay, steps_in, IsDead, EndBy, EndIs, EndAfter, Goes, IsHistory}
use Rattle.go_meaning.specs.Laws.{StaysOver}
use Rattle.go_state.specs.Laws.{OneEnd}
use Rattle.go_state.specs.Runs.{goroutines_after}
use Rattle.cov_cells.specs.Rule.{due_after, Begins}
use Rattle.go_threads.specs.declared.turning.Turned.TheVariants.{Ended}
use Rattle.go_threads.specs.Turns.{Finds, HasEnd, IsOverAfter, RestsFrom}
use Rattle.go_threads.proofs.Standing.{after, at, due_numbered, many}

-- ---- histories in two parts

steps_append : (xs ys : List Event) → steps_in (xs ++ ys) ≡ steps_in xs + steps_in ys
steps_append [] ys = omega arith
steps_append (Step a i p q ∷ xs) ys = let e = steps_append xs ys in omega (arith, e)
steps_append (Count a u ∷ xs) ys = steps_append xs ys

via : (P : Parts) (d : Config) (h es : List Event) (o : Option Config) → ((x : Config) → replay_from P x h ≡ Some d → replay_from P x (h ++ es) ≡ replay_from P d es) → option_and_then (λ x. replay_from P x h) o ≡ Some d
    → option_and_then (λ x. replay_from P x (h ++ es)) o ≡ replay_from P d es
via P d h es None next s = absurd (none-some d s)
via P d h es (Some x) next s = next x s

replays_on : (P : Parts) (c d : Config) (h es : List Event) → replay_from P c h ≡ Some d → replay_from P c (h ++ es) ≡ replay_from P d es
unfolding replay_from
replays_on P c d [] es r = ap (λ x. replay_from P x es) (same_Some c d r)
replays_on P c d (e ∷ h) es r = via P d h es (step P c e) (λ x. replays_on P x d h es) r

goes_on : (P : Parts) (limit k n : ℕ) (c d : Config) (h es : List Event) → Goes P limit c k (h ++ es) → replay_from P c h ≡ Some d → n ≡ k + steps_in h → Goes P limit d n es
unfolding Goes replay_from
goes_on P limit k n c d [] es g r e =
    let m : k ≡ n = omega (arith, e) in
    subst (λ x. Goes P limit x n es) (same_Some c d r) (subst (λ l. Goes P limit c l es) m g)
goes_on P limit k n c d (Step a i p q ∷ h) es g r e = goes_on P limit (suc k) n g.1.0 d h es g.1.2 (ap (option_and_then (λ x. replay_from P x h)) (sym g.1.1) ∙ r) (omega (arith, e))
goes_on P limit k n c d (Count a u ∷ h) es g r e = goes_on P limit k n g.0 d h es g.2 (ap (option_and_then (λ x. replay_from P x h)) (sym g.1) ∙ r) e

pub replays : (P : Parts) (limit n : ℕ) (c : Config) (h : List Event) → Goes P limit c n h → (d : Config) × (replay_from P c h ≡ Some d)
unfolding Goes replay_from
replays P limit n c [] g = (c, refl)
replays P limit n c (Step a k p q ∷ h) g = let r = replays P limit (suc n) g.1.0 h g.1.2 in (r.0, ap (option_and_then (λ y. replay_from P y h)) g.1.1 ∙ r.1)
replays P limit n c (Count a u ∷ h) g = let r = replays P limit n g.0 h g.2 in (r.0, ap (option_and_then (λ y. replay_from P y h)) g.1 ∙ r.1)

-- ---- a counter step

set_length : {A : Type 0} (xs : List A) (i : ℕ) (v : A) → length (slice_set xs i v) ≡ length xs
set_length [] zero v = refl
set_length [] (suc i) v = refl
set_length (x ∷ xs) zero v = refl
set_length (x ∷ xs) (suc i) v = ap suc (set_length xs i v)

get_other : {A : Type 0} (xs : List A) (i j : ℕ) (v : A) → (i ≡ j → ⊥) → slice_get (slice_set xs i v) j ≡ slice_get xs j
get_other [] zero j v h = refl
get_other [] (suc i) j v h = refl
get_other (y ∷ ys) zero zero v h = absurd (h refl)
get_other (y ∷ ys) zero (suc j) v h = refl
get_other (y ∷ ys) (suc i) zero v h = refl
get_other (y ∷ ys) (suc i) (suc j) v h = get_other ys i j v (λ e. h (ap suc e))

-- what changes none of these: how many goroutines there are, its own end, and whether a goroutine stands at no counter
record Stays (P : Parts) (c d : Config) : Type 0 where
  count : length d.goroutines ≡ length c.goroutines
  end : d.end ≡ c.end
  clear : (g : ℕ) → due P (numbered c g) ≡ None → due P (numbered d g) ≡ None

stays_same : (P : Parts) (c d : Config) → c ≡ d → Stays P c d
stays_same P c d e = subst (Stays P c) e (record { count = refl; end = refl; clear = λ g n. n })

stays_on : (P : Parts) (c d f : Config) → Stays P c d → Stays P d f → Stays P c f
stays_on P c d f s t = record { count = t.count ∙ s.count; end = t.end ∙ s.end; clear = λ g n. t.clear g (s.clear g n) }

arrived : (P : Parts) (c : Config) (i u : ℕ) (x : Goroutine) → due P (slice_get c.goroutines i) ≡ Some u → Stays P c (arrive_one c i x)
arrived P c i u x stands = record {
  count = set_length c.goroutines i x;
  end = refl;
  clear = clear;
}
  where
    clear : (g : ℕ) → due P (numbered c g) ≡ None → due P (numbered (arrive_one c i x) g) ≡ None
    clear zero n = refl
    clear (suc j) n = dite (ℕ_discrete i j) (λ same. absurd (none-some u (sym n ∙ ap (λ k. due P (slice_get c.goroutines k)) (sym same) ∙ stands))) (λ other. ap (due P) (get_other c.goroutines i j x other) ∙ n)

counter_by : (P : Parts) (c d : Config) (i v : ℕ) (x : Goroutine) (b : Bool) → due P (slice_get c.goroutines i) ≡ Some v → option_map (arrive_one c i) (if b then Some x else None) ≡ Some d → Stays P c d
counter_by P c d i v x false stands s = absurd (none-some d s)
counter_by P c d i v x true stands s = subst (Stays P c) (same_Some _ d s) (arrived P c i v x stands)

counter_at : (P : Parts) (c d : Config) (i u : ℕ) (o : Option Goroutine) (w : Option ℕ) → slice_get c.goroutines i ≡ o → due P o ≡ w → option_map (arrive_one c i) (counted_at u o w) ≡ Some d → Stays P c d
counter_at P c d i u None w here stands e = absurd (none-some d e)
counter_at P c d i u (Some go) None here stands e = absurd (none-some d e)
counter_at P c d i u (Some go) (Some v) here stands e = counter_by P c d i v (record go { frames = past_frames go.frames }) (v == u) (ap (due P) here ∙ stands) e

counter_stays : (P : Parts) (c d : Config) (a u : ℕ) → step P c (Count a u) ≡ Some d → Stays P c d
unfolding step
counter_stays P c d zero u e = absurd (none-some d e)
counter_stays P c d (suc i) u e = counter_at P c d i u (slice_get c.goroutines i) (due P (slice_get c.goroutines i)) refl refl e

-- ---- after an end

kept : (e f : Option End) (dead dead' late : Type 0) → f ≡ e → (dead → ⊥) → (EndBy e dead late None → ⊥) → EndBy f dead' late None → ⊥
kept None None dead dead' late same alive ended now = ended (alive, now.1)
kept None (Some y) dead dead' late same alive ended now = none-some y now
kept (Some x) None dead dead' late same alive ended now = none-some x same
kept (Some x) (Some y) dead dead' late same alive ended now = none-some y now

end_stays : (P : Parts) (limit k : ℕ) (c d : Config) (a u : ℕ) → step P c (Count a u) ≡ Some d → (EndIs P limit c k None → ⊥) → EndIs P limit d k None → ⊥
end_stays P limit k c d a u e ended now = kept c.end d.end (IsDead P c) (IsDead P d) (limit ≤ k) (counter_stays P c d a u e).end (λ dead. none-some d (sym (dead (Count a u)) ∙ e)) ended now

-- only counter steps follow
record Follows (P : Parts) (limit k : ℕ) (c d : Config) (es : List Event) : Type 0 where
  stays : Stays P c d
  ended : EndIs P limit d k None → ⊥
  steps : steps_in es ≡ 0

follow : (P : Parts) (limit k : ℕ) (c d : Config) (es : List Event) → Goes P limit c k es → replay_from P c es ≡ Some d → (EndIs P limit c k None → ⊥) → Follows P limit k c d es
unfolding Goes replay_from
follow P limit k c d [] g r ended = record { stays = stays_same P c d (same_Some c d r); ended = subst (λ x. EndIs P limit x k None → ⊥) (same_Some c d r) ended; steps = refl }
follow P limit k c d (Step a i p q ∷ es) g r ended = absurd (ended g.0)
follow P limit k c d (Count a u ∷ es) g r ended =
    let f = follow P limit k g.0 d es g.2 (ap (option_and_then (λ x. replay_from P x es)) (sym g.1) ∙ r) (end_stays P limit k c g.0 a u g.1 ended) in
    record { stays = stays_on P c g.0 d (counter_stays P c g.0 a u g.1) f.stays; ended = f.ended; steps = f.steps }

-- ---- a goroutine that is over

over_due : (P : Parts) (begin : Option Call) (frames : List Frame) → is_over_by begin frames ≡ true → due_frames P begin frames ≡ None
over_due P (Some call) fs e = cc
over_due P None [] e = refl
over_due P None (f ∷ fs) e = cc

over_stays : (P : Parts) (limit k : ℕ) (c d : Config) (es : List Event) (g : ℕ) (go : Goroutine) → StaysOver → Goes P limit c k es → replay_from P c es ≡ Some d → numbered c g ≡ Some go → is_over (Some go) ≡ true → numbered d g ≡ Some go
unfolding Goes replay_from
over_stays P limit k c d [] g go law w r here over = ap (λ x. numbered x g) (sym (same_Some c d r)) ∙ here
over_stays P limit k c d (Step a i p q ∷ es) g go law w r here over =
    over_stays P limit (suc k) w.1.0 d es g go law w.1.2 (ap (option_and_then (λ x. replay_from P x es)) (sym w.1.1) ∙ r) (law P c w.1.0 (Step a i p q) g go w.1.1 here over) over
over_stays P limit k c d (Count a u ∷ es) g go law w r here over =
    over_stays P limit k w.0 d es g go law w.2 (ap (option_and_then (λ x. replay_from P x es)) (sym w.1) ∙ r) (law P c w.0 (Count a u) g go w.1 here over) over

-- ---- whatever follows

-- a history that goes on from another
record Goes_on (P : Parts) (limit : ℕ) (h h' : List Event) : Type 0 where
  rest : List Event
  before : Config
  reached : replay P h ≡ Some before
  goes : Goes P limit before (steps_in h) rest
  now : Config
  leads : replay_from P before rest ≡ Some now
  reaches : replay P h' ≡ Some now

go_on : (P : Parts) (limit : ℕ) (h h' : List Event) → IsHistory P limit h → Begins h h' → IsHistory P limit h' → Goes_on P limit h h'
go_on P limit h h' is b ok =
    let r = replays P limit 0 (start P) h is in
    let w = goes_on P limit 0 (steps_in h) (start P) r.0 h b.0 (subst (IsHistory P limit) b.1 ok) r.1 (omega arith) in
    let s = replays P limit (steps_in h) r.0 b.0 w in
    record {
      rest = b.0;
      before = r.0;
      reached = r.1;
      goes = w;
      now = s.0;
      leads = s.1;
      reaches = ap (replay P) b.1 ∙ replays_on P (start P) r.0 h b.0 r.1 ∙ s.1;
    }

-- an end is no absence of an end
no_end : (P : Parts) (limit : ℕ) (h : List Event) (c : Config) → OneEnd → IsHistory P limit h → replay P h ≡ Some c → HasEnd P limit h → EndIs P limit c (steps_in h) None → ⊥
no_end P limit h c one is r end now = none-some end.0 (one P limit h None (Some end.0) is (after (λ x. EndIs P limit x (steps_in h) None) (replay P h) c r now) end.1)

rests_end : (P : Parts) (limit : ℕ) (h : List Event) (g : ℕ) → OneEnd → IsHistory P limit h → due_after P h g ≡ None → HasEnd P limit h → RestsFrom P limit h g
rests_end P limit h g one is none end h' b ok =
    let w = go_on P limit h h' is b ok in
    let f = follow P limit (steps_in h) w.before w.now w.rest w.goes w.leads (no_end P limit h w.before one is w.reached end) in
    due_numbered P h' w.now g w.reaches ∙ f.stays.clear g (sym (due_numbered P h w.before g w.reached) ∙ none)

rests_over : (P : Parts) (limit : ℕ) (h : List Event) (g : ℕ) → StaysOver → IsHistory P limit h → IsOverAfter P h g → RestsFrom P limit h g
rests_over P limit h g law is over h' b ok =
    let w = go_on P limit h h' is b ok in
    let o = at (λ c. (go : Goroutine) × (numbered c g ≡ Some go) × (is_over (Some go) ≡ true)) (replay P h) w.before w.reached over in
    let s = over_stays P limit (steps_in h) w.before w.now w.rest g o.0 law w.goes w.leads o.1 o.2 in
    due_numbered P h' w.now g w.reaches ∙ ap (due P) s ∙ over_due P o.0.begin o.0.frames o.2

-- a goroutine whose turn found nothing more to do stands at no counter, whatever follows
pub rests : (P : Parts) (limit : ℕ) (h : List Event) (g : ℕ) → StaysOver → OneEnd → IsHistory P limit h → Finds P limit h g Ended → RestsFrom P limit h g
rests P limit h g law one is found = ⊎_elim (λ end. rests_end P limit h g one is found.0 end) (λ over. rests_over P limit h g law is over) found.1

-- ---- an end stays, and no goroutine is started after it

pub ended_after : (P : Parts) (limit : ℕ) (h h' : List Event) → OneEnd → IsHistory P limit h → HasEnd P limit h → Begins h h' → IsHistory P limit h' → (goroutines_after P h' ≡ goroutines_after P h) × (EndAfter P limit h' None → ⊥)
unfolding go_on
ended_after P limit h h' one is end b ok =
    let w = go_on P limit h h' is b ok in
    let f = follow P limit (steps_in h) w.before w.now w.rest w.goes w.leads (no_end P limit h w.before one is w.reached end) in
    let k : steps_in h' ≡ steps_in h = (let a = ap steps_in b.1 in let s = steps_append h b.0 in let z : steps_in b.0 ≡ 0 = f.steps in omega (arith, a, s, z)) in
    (many P h' w.now w.reaches ∙ f.stays.count ∙ sym (many P h w.before w.reached), λ none. f.ended (subst (λ n. EndIs P limit w.now n None) k (at (λ c. EndIs P limit c (steps_in h') None) (replay P h') w.now w.reaches none)))

-- ---- what a turn leaves

pub rests_later : (P : Parts) (limit : ℕ) (h h' : List Event) (g : ℕ) → Begins h h' → RestsFrom P limit h g → RestsFrom P limit h' g
rests_later P limit h h' g b r h'' b' ok = r h'' (b.0 ++ b'.0, b'.1 ∙ ap (λ l. l ++ b'.0) b.1 ∙ append_assoc h b.0 b'.0) ok
