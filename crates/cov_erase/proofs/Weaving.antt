-- A covered history for each history.
use Rattle.std.proofs.Common.{◌≡◌, ℕ, zero, suc, Bool, true, false, cond, List, [], ◌∷◌, ◌++◌, Option, Some, None, refl, sym, ap, ◌∙◌, subst, inl, inr, ◌⊎◌, ⊎_elim, append_assoc}
use Rattle.std.specs.Prelude.{slice_get, option_and_then, nat_lt, IfSome}
use Rattle.std.proofs.lemmas.Option.{none-some}
use Rattle.std.proofs.lemmas.Bool.{cases_eq, eq-eqb}
use Rattle.go_meaning.specs.declared.config.Goroutine.{Goroutine}
use Rattle.go_meaning.specs.declared.config.Config.{Config}
use Rattle.go_meaning.specs.declared.event.Event.{Event}
use Rattle.go_meaning.specs.declared.event.Event.TheVariants.{Step, Count}
use Rattle.go_meaning.specs.Programs.{Parts}
use Rattle.go_meaning.specs.Steps.{due, step, numbered}
use Rattle.go_meaning.specs.Erasing.{erase_config, erase_events, IsUncounted}
use Rattle.go_meaning.specs.Units.{counted}
use Rattle.go_meaning.specs.Histories.{start, replay_from, Goes, IsHistory, IsAtRest}
use Rattle.go_meaning.specs.Entries.{unit_of, count_at, counts_after, woven_by, woven_from}
use Rattle.cov_erase.specs.Laws.{Woven, WeavingHolds}
use Rattle.cov_erase.proofs.Settled.{AllSound}
use Rattle.cov_erase.proofs.Stepped.{map_some, Stepped, stepped}
use Rattle.cov_erase.proofs.Counted.{counts}
use Rattle.cov_erase.proofs.Histories.{cases_option, apart_Q, sim, can_count, no_counter, unit_due, numbered_erased, end_covered, sound_start}

-- no step is of one goroutine with itself
apart_ends : (Q : Parts) (c d : Config) (a k q : ℕ) → step Q c (Step a k a q) ≡ Some d → ⊥
unfolding step
apart_ends Q c d zero k q e = none-some d e
apart_ends Q c d (suc i) k q e = none-some d (sym (rw (eq-eqb i i refl) refl) ∙ e)

pub apart_step : (Q : Parts) (c d : Config) (a k b q : ℕ) → a ≡ b → step Q c (Step a k b q) ≡ Some d → ⊥
apart_step Q c d a k b q w e = apart_ends Q c d a k q (ap (λ j. step Q c (Step a k j q)) w ∙ e)

erase_counts : (o : Option ℕ) (g : ℕ) (es : List Event) → erase_events (count_at o g ++ es) ≡ erase_events es
erase_counts None g es = refl
erase_counts (Some u) g es = refl

module _ (P : Parts) (un : IsUncounted P) (limit : ℕ) where
  abbrev Q : Parts
  Q = counted P

  abbrev er : Config → Config
  er = erase_config Q

  -- goroutine g has done its counter step, if one was due
  record Cleared (y z : Config) (o : Option ℕ) (g : ℕ) : Type 0 where
    sound : AllSound Q z.goroutines
    erased : er z ≡ er y
    here : due Q (numbered z g) ≡ None
    others : (j : ℕ) → (j ≡ g → ⊥) → due Q (numbered z j) ≡ due Q (numbered y j)
    goes : (k : ℕ) (es : List Event) → Goes Q limit z k es → Goes Q limit y k (count_at o g ++ es)
    replays : (es : List Event) → replay_from Q y (count_at o g ++ es) ≡ replay_from Q z es

  clear : (y : Config) (g : ℕ) → AllSound Q y.goroutines → (z : Config) × Cleared y z (due Q (numbered y g)) g
  unfolding Goes replay_from
  clear y g h = ⊎_elim nothing due_one (cases_option (due Q (numbered y g)))
    where
      nothing : due Q (numbered y g) ≡ None → (z : Config) × Cleared y z (due Q (numbered y g)) g
      nothing e = (y, rw e (record { sound = h; erased = refl; here = e; others = λ j n. refl; goes = λ k es q. q; replays = λ es. refl }))

      due_one : ((u : ℕ) × (due Q (numbered y g) ≡ Some u)) → (z : Config) × Cleared y z (due Q (numbered y g)) g
      due_one e =
          let s = can_count P un y g e.0 e.1 in
          let t = counts Q (apart_Q P un) y s.0 g e.0 h s.1 in
          (s.0, rw e.1 (record { sound = t.sound; erased = t.erased; here = t.after; others = t.others; goes = λ k es q. (s.0, s.1, q); replays = λ es. ap (option_and_then (λ x. replay_from Q x es)) s.1 }))

  -- both goroutines of an event
  record Settled (y z : Config) (new : List Event) : Type 0 where
    sound : AllSound Q z.goroutines
    erased : er z ≡ er y
    rest : IsAtRest Q z
    goes : (k : ℕ) (es : List Event) → Goes Q limit z k es → Goes Q limit y k (new ++ es)
    replays : (es : List Event) → replay_from Q y (new ++ es) ≡ replay_from Q z es

  settle : (x y : Config) (a b c d : ℕ) → ((g : ℕ) → (g ≡ c) ⊎ (g ≡ d) → (g ≡ a) ⊎ (g ≡ b)) → ((g : ℕ) → (g ≡ a) ⊎ (g ≡ b) → (g ≡ c) ⊎ (g ≡ d)) → (d ≡ c → ⊥) → Stepped Q x y a b → IsAtRest Q x → (z : Config) × Settled y z (count_at (unit_of P (numbered (er y) c)) c ++ count_at (unit_of P (numbered (er y) d)) d)
  settle x y a b c d to from ne s r = done
    where
      unit_is : (g : ℕ) → (g ≡ c) ⊎ (g ≡ d) → unit_of P (numbered (er y) g) ≡ due Q (numbered y g)
      unit_is g h = ap (unit_of P) (numbered_erased P un y g) ∙ unit_due P un (numbered y g) (s.after g (to g h))

      one : (z : Config) × Cleared y z (due Q (numbered y c)) c
      one = clear y c s.sound

      two : (w : Config) × Cleared one.0 w (due Q (numbered one.0 d)) d
      two = clear one.0 d one.1.sound

      new_is : count_at (unit_of P (numbered (er y) c)) c ++ count_at (unit_of P (numbered (er y) d)) d ≡ count_at (due Q (numbered y c)) c ++ count_at (due Q (numbered one.0 d)) d
      new_is =
          ap (λ o. count_at o c ++ count_at (unit_of P (numbered (er y) d)) d) (unit_is c (inl refl))
          ∙ ap (λ o. count_at (due Q (numbered y c)) c ++ count_at o d) (unit_is d (inr refl) ∙ sym (one.1.others d ne))

      at_rest : IsAtRest Q two.0
      at_rest g = ⊎_elim (λ e. let F : ℕ → Type 0 = λ n. due Q (numbered two.0 n) ≡ None in subst F (sym e) two.1.here)
          (λ n. two.1.others g n ∙ ⊎_elim (λ e. let F : ℕ → Type 0 = λ n. due Q (numbered one.0 n) ≡ None in subst F (sym e) one.1.here)
          (λ m. one.1.others g m ∙ ⊎_elim (λ h. absurd (⊎_elim m n (from g h))) (λ h. s.others g (λ e. h (inl e)) (λ e. h (inr e)) ∙ r g) (either g)) (cases_eq g c)) (cases_eq g d)
        where
          either : (g : ℕ) → ((g ≡ a) ⊎ (g ≡ b)) ⊎ ((g ≡ a) ⊎ (g ≡ b) → ⊥)
          either g = ⊎_elim (λ e. inl (inl e)) (λ n. ⊎_elim (λ e. inl (inr e)) (λ m. inr (λ h. ⊎_elim n m h)) (cases_eq g b)) (cases_eq g a)

      goes_on : (k : ℕ) (es : List Event) → Goes Q limit two.0 k es → Goes Q limit y k ((count_at (due Q (numbered y c)) c ++ count_at (due Q (numbered one.0 d)) d) ++ es)
      goes_on k es q =
          let F : List Event → Type 0 = Goes Q limit y k in
          subst F (sym (append_assoc (count_at (due Q (numbered y c)) c) (count_at (due Q (numbered one.0 d)) d) es)) (one.1.goes k _ (two.1.goes k es q))

      replays_on : (es : List Event) → replay_from Q y ((count_at (due Q (numbered y c)) c ++ count_at (due Q (numbered one.0 d)) d) ++ es) ≡ replay_from Q two.0 es
      replays_on es =
          ap (replay_from Q y) (append_assoc (count_at (due Q (numbered y c)) c) (count_at (due Q (numbered one.0 d)) d) es)
          ∙ one.1.replays (count_at (due Q (numbered one.0 d)) d ++ es)
          ∙ two.1.replays es

      done : (z : Config) × Settled y z (count_at (unit_of P (numbered (er y) c)) c ++ count_at (unit_of P (numbered (er y) d)) d)
      done =
          let F : List Event → Type 0 = λ l. (z : Config) × Settled y z l in
          subst F (sym new_is) (two.0, record { sound = two.1.sound; erased = two.1.erased ∙ one.1.erased; rest = at_rest; goes = goes_on; replays = replays_on })

  settle_event : (x y : Config) (a b : ℕ) → (b ≡ a → ⊥) → Stepped Q x y a b → IsAtRest Q x → (z : Config) × Settled y z (counts_after P (er y) a b)
  settle_event x y a b ne s r = by (nat_lt a b)
    where
      by : (t : Bool) → (z : Config) × Settled y z (cond t (count_at (unit_of P (numbered (er y) a)) a ++ count_at (unit_of P (numbered (er y) b)) b) (count_at (unit_of P (numbered (er y) b)) b ++ count_at (unit_of P (numbered (er y) a)) a))
      by true = settle x y a b a b (λ g h. h) (λ g h. h) ne s r
      by false = settle x y a b b a (λ g h. ⊎_elim (λ e. inr e) (λ e. inl e) h) (λ g h. ⊎_elim (λ e. inr e) (λ e. inl e) h) (λ e. ne (sym e)) s r

  erase_counts_after : (c : Config) (a b : ℕ) (es : List Event) → erase_events (counts_after P c a b ++ es) ≡ erase_events es
  erase_counts_after c a b es = by (nat_lt a b)
    where
      two : (o w : Option ℕ) (g h : ℕ) → erase_events ((count_at o g ++ count_at w h) ++ es) ≡ erase_events es
      two o w g h = ap erase_events (append_assoc (count_at o g) (count_at w h) es) ∙ erase_counts o g (count_at w h ++ es) ∙ erase_counts w h es

      by : (t : Bool) → erase_events (cond t (count_at (unit_of P (numbered c a)) a ++ count_at (unit_of P (numbered c b)) b) (count_at (unit_of P (numbered c b)) b ++ count_at (unit_of P (numbered c a)) a) ++ es) ≡ erase_events es
      by true = two _ _ a b
      by false = two _ _ b a

  record Weaves (x : Config) (k : ℕ) (es : List Event) : Type 0 where
    history : Goes Q limit x k (woven_from P (er x) es)
    rest : IfSome (replay_from Q x (woven_from P (er x) es)) (IsAtRest Q)
    erased : erase_events (woven_from P (er x) es) ≡ es

  weaves : (es : List Event) (k : ℕ) (x : Config) → AllSound Q x.goroutines → IsAtRest Q x → Goes P limit (er x) k es → Weaves x k es
  unfolding Goes woven_from replay_from
  weaves [] k x h r g = record { history = tt; rest = r; erased = refl }
  weaves (Count a u ∷ es) k x h r g = absurd (none-some g.0 (sym (no_counter P un (er x) a u) ∙ g.1))
  weaves (Step a m b n ∷ es) k x h r g =
      let f = map_some er (step Q x (Step a m b n)) g.1.0 (sym (sim P un x a m b n h (r a)) ∙ g.1.1) in
      let y = f.0 in
      let s = stepped Q x y a m b n h f.1 in
      let ne = λ (e : b ≡ a). apart_step Q x y a m b n (sym e) f.1 in
      let t = settle_event x y a b ne s r in
      let z = t.0 in
      let G : Config → Type 0 = λ c. Goes P limit c (suc k) es in
      let ih = weaves es (suc k) z t.1.sound t.1.rest (subst G (sym (t.1.erased ∙ f.2)) g.1.2) in
      let next : step P (er x) (Step a m b n) ≡ Some (er y) = g.1.1 ∙ ap Some (sym f.2) in
      let W : List Event → Type 0 = λ l. Goes Q limit y (suc k) l in
      let same : woven_from P (er z) es ≡ woven_from P (er y) es = ap (λ c. woven_from P c es) t.1.erased in
      let list : woven_from P (er x) (Step a m b n ∷ es) ≡ Step a m b n ∷ (counts_after P (er y) a b ++ woven_from P (er z) es) =
      ap (λ o. Step a m b n ∷ woven_by P (Step a m b n) (λ d. woven_from P d es) o) next ∙ ap (λ l. Step a m b n ∷ (counts_after P (er y) a b ++ l)) (sym same) in
      let H : List Event → Type 0 = λ l. Goes Q limit x k l in
      let R : List Event → Type 0 = λ l. IfSome (replay_from Q x l) (IsAtRest Q) in
      let O : Option Config → Type 0 = λ o. IfSome o (IsAtRest Q) in
      record {
        history = subst H (sym list) (end_covered P un limit k x None h g.0, (y, f.1, t.1.goes (suc k) _ ih.history));
        rest = subst R (sym list) (subst O (sym (ap (option_and_then (λ d. replay_from Q d (counts_after P (er y) a b ++ woven_from P (er z) es))) f.1 ∙ t.1.replays (woven_from P (er z) es))) ih.rest);
        erased = ap erase_events list ∙ ap (λ l. Step a m b n ∷ l) (erase_counts_after (er y) a b (woven_from P (er z) es) ∙ ih.erased);
      }

  start_rests : IsAtRest Q (start Q)
  start_rests zero = refl
  start_rests (suc zero) = refl
  start_rests (suc (suc n)) = nowhere n
    where
      nowhere : (n : ℕ) → due Q (slice_get {X = Goroutine} [] n) ≡ None
      nowhere zero = refl
      nowhere (suc n) = refl

  pub weaving : (h : List Event) → IsHistory P limit h → Woven P limit h
  unfolding counted
  weaving h g = let w = weaves h 0 (start Q) (sound_start P un) start_rests g in record { history = w.history; rest = w.rest; erased = w.erased }

pub weaving_holds : WeavingHolds
weaving_holds P limit h un g = weaving P un limit h g
