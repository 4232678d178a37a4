-- Sums over the goroutines of a configuration, before and after a step.
use Rattle.std.proofs.Common.{◌≡◌, ℕ, zero, suc, ◌+◌, Bool, true, false, cond, List, [], ◌∷◌, ◌++◌, Option, Some, None, refl, sym, ap, ◌∙◌, subst, arith}
use Rattle.std.specs.Prelude.{slice_get, slice_set, ◌==◌, option_map}
use Rattle.std.proofs.lemmas.Option.{none-some, same_Some}
use Rattle.std.proofs.lemmas.Bool.{eqb-false}
use Rattle.go_meaning.specs.declared.config.Goroutine.{Goroutine}
use Rattle.go_meaning.specs.declared.config.Config.{Config}
use Rattle.go_meaning.specs.declared.event.Event.TheVariants.{Step, Count}
use Rattle.go_meaning.specs.Programs.{Parts}
use Rattle.go_meaning.specs.Moves.{Move}
use Rattle.go_meaning.specs.Steps.{alone, together, due, counted_at, step, arrive, arrive_both, arrive_one, numbered}
use Rattle.cov_erase.proofs.Settled.{AllSound}
use Rattle.cov_erase.proofs.Sound.{AreNew, MoveSettled, fine_alone}
use Rattle.cov_erase.proofs.Waiting.{plain_due, alone_due, together_there}
use Rattle.cov_erase.proofs.Stepped.{get_set_same, get_set_other, get_append, map_some, at_some, sound_get, alone_some}
use Rattle.cov_erase.proofs.Counted.{count_some}

module _ (f : Goroutine → ℕ) where
  abbrev pub sum_of : List Goroutine → ℕ
  sum_of [] = 0
  sum_of (go ∷ gos) = f go + sum_of gos

  sum_cons : (go : Goroutine) (gos : List Goroutine) → sum_of (go ∷ gos) ≡ f go + sum_of gos
  sum_cons go gos = refl

  sum_set : (gos : List Goroutine) (i : ℕ) (x y : Goroutine) → slice_get gos i ≡ Some x → sum_of (slice_set gos i y) + f x ≡ sum_of gos + f y
  sum_set [] zero x y e = absurd (none-some x e)
  sum_set [] (suc i) x y e = absurd (none-some x e)
  sum_set (go ∷ gos) zero x y e = let k : f go ≡ f x = ap f (same_Some go x e) in omega (arith, k, sum_cons go gos, sum_cons y gos)
  sum_set (go ∷ gos) (suc i) x y e = let h = sum_set gos i x y e in omega (arith, h, sum_cons go gos, sum_cons go (slice_set gos i y))

  sum_append : (xs ys : List Goroutine) → sum_of (xs ++ ys) ≡ sum_of xs + sum_of ys
  sum_append [] ys = omega arith
  sum_append (x ∷ xs) ys = let h = sum_append xs ys in omega (arith, h, sum_cons x xs, sum_cons x (xs ++ ys))

  -- of all goroutines, and of one that may not be there
  abbrev pub total : Config → ℕ
  total c = sum_of c.goroutines

  abbrev pub share : Option Goroutine → ℕ
  share None = 0
  share (Some go) = f go

  share_some : (o : Option Goroutine) (go : Goroutine) → o ≡ Some go → share o ≡ f go
  share_some o go e = ap share e

  module _ (Q : Parts) (new : (go : Goroutine) → go.frames ≡ [] → f go ≡ 0) where
    sum_new : (gos : List Goroutine) → AreNew Q gos → sum_of gos ≡ 0
    sum_new [] h = refl
    sum_new (go ∷ gos) h = let a = new go h.0 in let b = sum_new gos h.1 in omega (arith, a, b, sum_cons go gos)

    -- the shares of the goroutines that an event advances are exchanged
    pub Changes : Config → Config → ℕ → ℕ → Type 0
    Changes c d a b = total d + (share (numbered c a) + share (numbered c b)) ≡ total c + (share (numbered d a) + share (numbered d b))

    changes_alone : (c d : Config) (i k : ℕ) → AllSound Q c.goroutines → option_map (arrive c i) (alone Q c i k (slice_get c.goroutines i)) ≡ Some d → Changes c d (suc i) 0
    unfolding Changes
    changes_alone c d i k h e =
        let m = map_some (arrive c i) (alone Q c i k (slice_get c.goroutines i)) d e in
        let go = alone_some Q c i k (slice_get c.goroutines i) m.0 m.1 in
        let none = alone_due Q c i k (slice_get c.goroutines i) m.0 m.1 in
        let sound = sound_get Q c.goroutines i h in
        let s = at_some (MoveSettled Q) (alone Q c i k (slice_get c.goroutines i)) m.0 m.1 (fine_alone Q c i k (slice_get c.goroutines i) sound (plain_due Q (slice_get c.goroutines i) sound none)) in
        let R : Config → Type 0 = λ x. Changes c x (suc i) 0 in
        subst R m.2 (moves m.0 go.0 go.1 s.born)
      where
        moves : (m : Move) (go : Goroutine) → slice_get c.goroutines i ≡ Some go → AreNew Q m.born → Changes c (arrive c i m) (suc i) 0
        moves m go e n =
            let a = sum_set c.goroutines i go m.after e in
            let b = sum_append (slice_set c.goroutines i m.after) m.born in
            let z = sum_new m.born n in
            let x : share (slice_get c.goroutines i) ≡ f go = ap share e in
            let y : share (slice_get (slice_set c.goroutines i m.after ++ m.born) i) ≡ f m.after = ap share (get_append (slice_set c.goroutines i m.after) m.born i m.after (get_set_same c.goroutines i go m.after e)) in
            omega (arith, a, b, z, x, y)

    changes_pair : (c : Config) (i j k q : ℕ) (p : Goroutine × Goroutine) → (i ≡ j → ⊥) → together Q c k q (slice_get c.goroutines i) (slice_get c.goroutines j) ≡ Some p → Changes c (arrive_both c i j p) (suc i) (suc j)
    unfolding Changes
    changes_pair c i j k q p ne e =
        let t = together_there Q c k q (slice_get c.goroutines i) (slice_get c.goroutines j) p e in
        let a = sum_set c.goroutines i t.0.0 p.0 t.0.1 in
        let there : slice_get (slice_set c.goroutines i p.0) j ≡ Some t.1.0 = get_set_other c.goroutines i j p.0 ne ∙ t.1.1 in
        let b = sum_set (slice_set c.goroutines i p.0) j t.1.0 p.1 there in
        let x : share (slice_get c.goroutines i) ≡ f t.0.0 = ap share t.0.1 in
        let y : share (slice_get c.goroutines j) ≡ f t.1.0 = ap share t.1.1 in
        let x' : share (slice_get (slice_set (slice_set c.goroutines i p.0) j p.1) i) ≡ f p.0 = ap share (get_set_other (slice_set c.goroutines i p.0) j i p.1 (λ w. ne (sym w)) ∙ get_set_same c.goroutines i t.0.0 p.0 t.0.1) in
        let y' : share (slice_get (slice_set (slice_set c.goroutines i p.0) j p.1) j) ≡ f p.1 = ap share (get_set_same (slice_set c.goroutines i p.0) j t.1.0 p.1 there) in
        omega (arith, a, b, x, y, x', y')

    changes_both : (c d : Config) (i j k q : ℕ) → cond (i == j) None (option_map (arrive_both c i j) (together Q c k q (slice_get c.goroutines i) (slice_get c.goroutines j))) ≡ Some d → Changes c d (suc i) (suc j)
    changes_both c d i j k q e = by (i == j) (λ w. eqb-false i j w) e
      where
        by : (b : Bool) → (b ≡ false → i ≡ j → ⊥) → cond b None (option_map (arrive_both c i j) (together Q c k q (slice_get c.goroutines i) (slice_get c.goroutines j))) ≡ Some d → Changes c d (suc i) (suc j)
        by true n w = absurd (none-some d w)
        by false n w =
            let m = map_some (arrive_both c i j) (together Q c k q (slice_get c.goroutines i) (slice_get c.goroutines j)) d w in
            let R : Config → Type 0 = λ x. Changes c x (suc i) (suc j) in
            subst R m.2 (changes_pair c i j k q m.0 (n refl) m.1)

    changes : (c d : Config) (a k b q : ℕ) → AllSound Q c.goroutines → step Q c (Step a k b q) ≡ Some d → Changes c d a b
    unfolding step
    changes c d zero k b q h e = absurd (none-some d e)
    changes c d (suc i) k zero zero h e = changes_alone c d i k h e
    changes c d (suc i) k zero (suc q) h e = absurd (none-some d e)
    changes c d (suc i) k (suc j) q h e = changes_both c d i j k q e

    pub step_changes : (c d : Config) (a k b q : ℕ) → AllSound Q c.goroutines → step Q c (Step a k b q) ≡ Some d → total d + (share (numbered c a) + share (numbered c b)) ≡ total c + (share (numbered d a) + share (numbered d b))
    unfolding Changes
    step_changes c d a k b q h e = changes c d a k b q h e

    pub count_changes : (c d : Config) (a w : ℕ) → step Q c (Count a w) ≡ Some d → total d + share (numbered c a) ≡ total c + share (numbered d a)
    unfolding step
    count_changes c d zero w e = absurd (none-some d e)
    count_changes c d (suc i) w e =
        let m = map_some (arrive_one c i) (counted_at w (slice_get c.goroutines i) (due Q (slice_get c.goroutines i))) d e in
        let g = count_some Q w (slice_get c.goroutines i) (due Q (slice_get c.goroutines i)) m.0 m.1 in
        let R : Config → Type 0 = λ x. total x + share (numbered c (suc i)) ≡ total c + share (numbered x (suc i)) in
        let a = sum_set c.goroutines i g.0 m.0 g.1 in
        let x : share (slice_get c.goroutines i) ≡ f g.0 = ap share g.1 in
        let y : share (slice_get (slice_set c.goroutines i m.0) i) ≡ f m.0 = ap share (get_set_same c.goroutines i g.0 m.0 g.1) in
        subst R m.2 (omega (arith, a, x, y))
