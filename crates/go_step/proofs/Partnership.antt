-- Which goroutines are partners, and which clauses are ready, by their ways.
use Rattle.std.proofs.Common.{◌≡◌, ℕ, zero, suc, ◌+◌, ◌<◌, ◌≤◌, ◌==◌, Bool, true, false, not, cond, List, [], ◌∷◌, Option, Some, None, refl, sym, ap, ◌∙◌, length, inl, inr, ⊎_elim, arith}
use Rattle.std.specs.Prelude.{◌⊎◌, ◌&&◌, ◌||◌, is_some, slice_get, slice_index_or}
use Rattle.std.specs.List.{list_any}
use Rattle.std.specs.Option.{option_or}
use Rattle.go_meaning.specs.declared.item.Item.{Item}
use Rattle.go_meaning.specs.declared.config.Call.{Call}
use Rattle.go_meaning.specs.declared.config.Frame.{Frame}
use Rattle.go_meaning.specs.declared.config.Goroutine.{Goroutine}
use Rattle.go_meaning.specs.declared.config.Config.{Config}
use Rattle.go_meaning.specs.Programs.{Parts}
use Rattle.go_meaning.specs.Acts.{act_of}
use Rattle.go_meaning.specs.Moves.{Move, moved, running, new_frame, put}
use Rattle.go_meaning.specs.Channels.{Side, Neither, Offers, Wants, Defaults, Sides, Plain, Choice, item_sides, control_sides, frame_sides, sides_of, side_at, listed, partner_sides, exchange, by_itself, has_partner, is_ready, lone}
use Rattle.go_meaning.specs.Steps.{at_zero, on_control, on_frames, alone}
use Rattle.go_step.specs.declared.ways.Way.{Way}
use Rattle.go_step.specs.declared.ways.Way.TheVariants as way
use Rattle.go_step.specs.declared.partners.Partner.{Partner}
use Rattle.go_step.specs.Ways.{way_of, goes_alone, meets}
use Rattle.go_step.specs.Heads.{control_head, frames_head, can_act_at_head, way_of_head, count_of_head, partner_way, begins_by, flag_at_zero, acts}
use Rattle.go_step.specs.Partners.{joins, IsFirstPartner, IsWayReady, any_ready, lone_by, lone_goes, goes}
use Rattle.go_step.proofs.Waits.{alone_way, meet_ways}
use Rattle.go_step.proofs.Needed.{of_item, of_put}
use Rattle.go_step.proofs.HeadWays.{side_way, partner_side_way, past_count, partner_past, no_goroutine}

false_true : {A : Type 0} → ◌≡◌ {A = Bool} false true → A
false_true e = absurd cc

or_false : (b : Bool) → (b || false) ≡ b
or_false true = refl
or_false false = refl

or_true : (b : Bool) → (b || true) ≡ true
or_true true = refl
or_true false = refl

pub and_false : (b : Bool) → (b && false) ≡ false
and_false true = refl
and_false false = refl

pub below_or_not : (a b : ℕ) → (a < b) ⊎ (b ≤ a)
below_or_not a zero = inr (omega arith)
below_or_not zero (suc b) = inl (omega arith)
below_or_not (suc a) (suc b) = ⊎_elim (λ h. inl (omega (arith, h))) (λ h. inr (omega (arith, h))) (below_or_not a b)

-- ---- no side meets one that is neither

meets_neither : (c : Config) (w : Way) → meets c w way.Neither ≡ false
meets_neither c way.Neither = refl
meets_neither c (way.Offers o) = refl
meets_neither c (way.Wants o) = refl
meets_neither c way.Default = refl

pub neither_meets : (c : Config) (w : Way) → meets c way.Neither w ≡ false
neither_meets c w = refl

joins_neither : (P : Parts) (c : Config) (i : ℕ) (w : Way) (j q : ℕ) → partner_way P (slice_get c.goroutines j) q ≡ way.Neither → joins P c i w j q ≡ false
unfolding joins
joins_neither P c i w j q e = ap (λ x. not (i == j) && meets c w x) e ∙ ap (λ b. not (i == j) && b) (meets_neither c w) ∙ and_false (not (i == j))

-- ---- the search for the first partner ends where there are no more clauses, or goroutines

pub no_later_case : (P : Parts) (c : Config) (i : ℕ) (w : Way) (j n : ℕ) → n ≡ count_of_head P (slice_get c.goroutines j) → ((q : ℕ) → q < n → joins P c i w j q ≡ false) → (q : ℕ) → joins P c i w j q ≡ false
no_later_case P c i w j n e none q = ⊎_elim (none q) (λ h. joins_neither P c i w j q (partner_past P (slice_get c.goroutines j) q (omega (arith, e, h)))) (below_or_not q n)

none_past : {A : Type 0} (xs : List A) (k : ℕ) → length xs ≤ k → slice_get xs k ≡ None
none_past [] zero h = refl
none_past [] (suc k) h = refl
none_past (x ∷ xs) zero h = absurd (omega (arith, h))
none_past (x ∷ xs) (suc k) h = none_past xs k (omega (arith, h))

pub no_later_partner : (P : Parts) (c : Config) (i : ℕ) (w : Way) (n : ℕ) → n ≡ length c.goroutines → ((j q : ℕ) → j < n → joins P c i w j q ≡ false) → (j q : ℕ) → joins P c i w j q ≡ false
no_later_partner P c i w n e none j q =
    ⊎_elim (none j q) (λ h. joins_neither P c i w j q (ap (λ o. partner_way P o q) (none_past c.goroutines j (omega (arith, e, h))) ∙ no_goroutine P q)) (below_or_not j n)

pub no_earlier : (P : Parts) (c : Config) (i : ℕ) (w : Way) (j q : ℕ) → ((j' q' : ℕ) → j' < j → joins P c i w j' q' ≡ false) → ((q' : ℕ) → q' < q → joins P c i w j q' ≡ false) → (j' q' : ℕ) → (j' < j) ⊎ ((j' ≡ j) × (q' < q)) → joins P c i w j' q' ≡ false
no_earlier P c i w j q before here j' q' h = ⊎_elim (before j' q') (λ s. ap (λ x. joins P c i w x q') s.0 ∙ here q' s.1) h

-- ---- a side by its number, and the list of sides

none_of : (f : Side → Bool) (ss : List Side) → ((k : ℕ) → f (slice_index_or ss k Neither) ≡ false) → list_any f ss ≡ false
none_of f [] h = refl
none_of f (s ∷ ss) h = ap (λ b. b || list_any f ss) (h 0) ∙ none_of f ss (λ k. h (suc k))

none_listed : (f : Side → Bool) (S : Sides) → ((k : ℕ) → f (side_at S k) ≡ false) → list_any f (listed S) ≡ false
none_listed f (Plain s) h = or_false (f s) ∙ h 0
none_listed f (Choice ss) h = none_of f ss (λ k. h (suc k))

some_of : (f : Side → Bool) (ss : List Side) (k : ℕ) → f Neither ≡ false → f (slice_index_or ss k Neither) ≡ true → list_any f ss ≡ true
some_of f [] zero n h = false_true (sym n ∙ h)
some_of f [] (suc k) n h = false_true (sym n ∙ h)
some_of f (s ∷ ss) zero n h = ap (λ b. b || list_any f ss) h
some_of f (s ∷ ss) (suc k) n h = ap (λ b. f s || b) (some_of f ss k n h) ∙ or_true (f s)

some_listed : (f : Side → Bool) (S : Sides) (k : ℕ) → f Neither ≡ false → f (side_at S k) ≡ true → list_any f (listed S) ≡ true
some_listed f (Plain s) zero n h = or_false (f s) ∙ h
some_listed f (Plain s) (suc k) n h = false_true (sym n ∙ h)
some_listed f (Choice ss) zero n h = false_true (sym n ∙ h)
some_listed f (Choice ss) (suc k) n h = some_of f ss k n h

-- ---- partners of a side

module _ (P : Parts) (c : Config) (i : ℕ) (s : Side) where
  -- goroutine j of these, of which the first has index n, is one in its clause q
  joins_from : ℕ → List Goroutine → ℕ → ℕ → Bool
  joins_from n gos j q = not (i == n + j) && meets c (way_of s) (partner_way P (slice_get gos j) q)

  meets_side : (go : Goroutine) (q : ℕ) → is_some (exchange c s (side_at (partner_sides (sides_of P (Some go))) q)) ≡ meets c (way_of s) (partner_way P (Some go) q)
  meets_side go q = meet_ways c s (side_at (partner_sides (sides_of P (Some go))) q) ∙ ap (meets c (way_of s)) (partner_side_way P (Some go) q)

  none_here : (b : Bool) (go : Goroutine) → ((q : ℕ) → (b && meets c (way_of s) (partner_way P (Some go) q)) ≡ false) → (b && list_any (λ t. is_some (exchange c s t)) (listed (partner_sides (sides_of P (Some go))))) ≡ false
  none_here true go h = none_listed (λ t. is_some (exchange c s t)) (partner_sides (sides_of P (Some go))) (λ q. meets_side go q ∙ h q)
  none_here false go h = refl

  next_index : (n j : ℕ) → n + suc j ≡ suc n + j
  next_index n j = omega arith

  first_index : (n : ℕ) → n + 0 ≡ n
  first_index n = omega arith

  none_from : (n : ℕ) (gos : List Goroutine) → ((j q : ℕ) → joins_from n gos j q ≡ false) → has_partner P c i s n gos ≡ false
  unfolding joins_from
  none_from n [] h = refl
  none_from n (go ∷ gos) h =
      let here : (q : ℕ) → (not (i == n) && meets c (way_of s) (partner_way P (Some go) q)) ≡ false = λ q. sym (ap (λ x. not (i == x) && meets c (way_of s) (partner_way P (Some go) q)) (first_index n)) ∙ h 0 q in
      let rest : (j q : ℕ) → joins_from (suc n) gos j q ≡ false = λ j q. sym (ap (λ x. not (i == x) && meets c (way_of s) (partner_way P (slice_get gos j) q)) (next_index n j)) ∙ h (suc j) q in
      ap (λ b. b || has_partner P c i s (suc n) gos) (none_here (not (i == n)) go here) ∙ none_from (suc n) gos rest

  some_here : (b : Bool) (go : Goroutine) (q : ℕ) → (b && meets c (way_of s) (partner_way P (Some go) q)) ≡ true → (b && list_any (λ t. is_some (exchange c s t)) (listed (partner_sides (sides_of P (Some go))))) ≡ true
  some_here true go q h = some_listed (λ t. is_some (exchange c s t)) (partner_sides (sides_of P (Some go))) q (meet_ways c s Neither ∙ meets_neither c (way_of s)) (meets_side go q ∙ h)
  some_here false go q h = h

  some_from : (n : ℕ) (gos : List Goroutine) (j q : ℕ) → joins_from n gos j q ≡ true → has_partner P c i s n gos ≡ true
  unfolding joins_from
  some_from n [] j q h = false_true (sym (nobody j) ∙ h)
    where
      nobody : (j : ℕ) → (not (i == n + j) && meets c (way_of s) (partner_way P (slice_get [] j) q)) ≡ false
      nobody zero = ap (λ x. not (i == n + 0) && meets c (way_of s) x) (no_goroutine P q) ∙ ap (λ b. not (i == n + 0) && b) (meets_neither c (way_of s)) ∙ and_false (not (i == n + 0))
      nobody (suc j) = ap (λ x. not (i == n + suc j) && meets c (way_of s) x) (no_goroutine P q) ∙ ap (λ b. not (i == n + suc j) && b) (meets_neither c (way_of s)) ∙ and_false (not (i == n + suc j))
  some_from n (go ∷ gos) zero q h =
      ap (λ b. b || has_partner P c i s (suc n) gos) (some_here (not (i == n)) go q (sym (ap (λ x. not (i == x) && meets c (way_of s) (partner_way P (Some go) q)) (first_index n)) ∙ h))
  some_from n (go ∷ gos) (suc j) q h =
      ap (λ b. (not (i == n) && list_any (λ t. is_some (exchange c s t)) (listed (partner_sides (sides_of P (Some go))))) || b) (some_from (suc n) gos j q (sym (ap (λ x. not (i == x) && meets c (way_of s) (partner_way P (slice_get gos j) q)) (next_index n j)) ∙ h))
      ∙ or_true (not (i == n) && list_any (λ t. is_some (exchange c s t)) (listed (partner_sides (sides_of P (Some go)))))

  no_offset : (j : ℕ) → 0 + j ≡ j
  no_offset j = omega arith

  no_partner : ((j q : ℕ) → joins P c i (way_of s) j q ≡ false) → has_partner P c i s 0 c.goroutines ≡ false
  unfolding joins_from joins
  no_partner h = none_from 0 c.goroutines (λ j q. ap (λ x. not (i == x) && meets c (way_of s) (partner_way P (slice_get c.goroutines j) q)) (no_offset j) ∙ h j q)

  a_partner : (j q : ℕ) → joins P c i (way_of s) j q ≡ true → has_partner P c i s 0 c.goroutines ≡ true
  unfolding joins_from joins
  a_partner j q h = some_from 0 c.goroutines j q (ap (λ x. not (i == x) && meets c (way_of s) (partner_way P (slice_get c.goroutines j) q)) (no_offset j) ∙ h)

-- ---- a way is ready

pub ready_alone : (P : Parts) (c : Config) (i : ℕ) (w : Way) → goes_alone c w ≡ true → IsWayReady P c i w true
ready_alone P c i w h s e = ap (λ b. b || has_partner P c i s 0 c.goroutines) (alone_way c s ∙ ap (goes_alone c) e ∙ h)

pub ready_joined : (P : Parts) (c : Config) (i : ℕ) (w : Way) (p : Partner) → IsFirstPartner P c i w (Some p) → IsWayReady P c i w true
ready_joined P c i w p h s e =
    ap (λ b. is_some (by_itself c s) || b) (a_partner P c i s p.index p.case (ap (λ x. joins P c i x p.index p.case) e ∙ h.0)) ∙ or_true (is_some (by_itself c s))

pub not_ready : (P : Parts) (c : Config) (i : ℕ) (w : Way) → goes_alone c w ≡ false → IsFirstPartner P c i w None → IsWayReady P c i w false
not_ready P c i w h n s e =
    ap (λ b. b || has_partner P c i s 0 c.goroutines) (alone_way c s ∙ ap (goes_alone c) e ∙ h) ∙ no_partner P c i s (λ j q. ap (λ x. joins P c i x j q) e ∙ n j q)

neither_ready : (P : Parts) (c : Config) (i : ℕ) → IsWayReady P c i way.Neither false
unfolding joins
neither_ready P c i = not_ready P c i way.Neither refl (λ j q. and_false (not (i == j)))

-- ---- a clause is ready

pub some_ready : (P : Parts) (c : Config) (i k : ℕ) (w : Way) → w ≡ way_of_head P (slice_get c.goroutines i) k → IsWayReady P c i w true → any_ready P c i ≡ true
some_ready P c i k w e r =
    some_listed (is_ready P c i) (sides_of P (slice_get c.goroutines i)) k (neither_ready P c i Neither refl) (r (side_at (sides_of P (slice_get c.goroutines i)) k) (side_way P (slice_get c.goroutines i) k ∙ sym e))

pub none_ready : (P : Parts) (c : Config) (i n : ℕ) → n ≡ count_of_head P (slice_get c.goroutines i) → ((k : ℕ) → k < n → IsWayReady P c i (way_of_head P (slice_get c.goroutines i) k) false) → any_ready P c i ≡ false
none_ready P c i n e none = none_listed (is_ready P c i) S (λ k. ⊎_elim (λ h. none k h (side_at S k) (side_way P o k)) (λ h. neither_ready P c i (side_at S k) (side_way P o k ∙ past_count P o k (omega (arith, e, h)))) (below_or_not k n))
  where
    o : Option Goroutine
    o = slice_get c.goroutines i

    S : Sides
    S = sides_of P o

-- ---- a clause goes on without a partner

lone_is : (P : Parts) (c : Config) (i : ℕ) (S : Sides) (s : Side) → is_some (lone P c i S s) ≡ lone_by c (list_any (is_ready P c i) (listed S)) (way_of s)
unfolding lone
lone_is P c i S Neither = refl
lone_is P c i S (Offers o v a p) = alone_way c (Offers o v a p)
lone_is P c i S (Wants o t) = alone_way c (Wants o t)
lone_is P c i S (Defaults a) = by (list_any (is_ready P c i) (listed S))
  where
    by : (b : Bool) → is_some {T = Move} (cond b None (Some (moved c a))) ≡ not b
    by true = refl
    by false = refl

pub lone_way : (P : Parts) (c : Config) (i k : ℕ) → lone_by c (any_ready P c i) (way_of_head P (slice_get c.goroutines i) k) ≡ lone_goes P c i k
lone_way P c i k =
    sym (lone_is P c i (sides_of P (slice_get c.goroutines i)) (side_at (sides_of P (slice_get c.goroutines i)) k) ∙ ap (lone_by c (any_ready P c i)) (side_way P (slice_get c.goroutines i) k))

-- ---- a step of one goroutine alone

some_or : {A : Type 0} (o p : Option A) → is_some (option_or o p) ≡ (is_some o || is_some p)
some_or None p = refl
some_or (Some x) p = refl

some_zero : {A : Type 0} (k : ℕ) (o : Option A) → is_some (at_zero k o) ≡ flag_at_zero k (is_some o)
some_zero zero o = refl
some_zero (suc k) o = refl

none_zero : (k : ℕ) → false ≡ flag_at_zero k false
none_zero zero = refl
none_zero (suc k) = refl

module _ (P : Parts) (c : Config) (i k : ℕ) where
  -- nothing to send or to receive
  lone_plain : is_some (lone P c i (Plain Neither) (side_at (Plain Neither) k)) ≡ false
  unfolding lone
  lone_plain = by k
    where
      by : (n : ℕ) → is_some (lone P c i (Plain Neither) (side_at (Plain Neither) n)) ≡ false
      by zero = refl
      by (suc n) = refl

  goes_by : Sides → Bool → Bool
  goes_by S b = is_some (lone P c i S (side_at S k)) || flag_at_zero k b

  of_control : (f : Frame) (fs : List Frame) (is : List Item) → is_some (on_control P c i k f fs is) ≡ goes_by (control_sides P f fs is) (can_act_at_head P c (control_head f is))
  unfolding goes_by
  of_control f fs [] = none_zero k ∙ sym (ap (λ b. b || flag_at_zero k false) lone_plain)
  of_control f fs (item ∷ is) =
      some_or (lone P c i (item_sides P item f fs is) (side_at (item_sides P item f fs is) k)) (at_zero k (put P c i f fs is (act_of P c item f.slots f.stack)))
      ∙ ap (λ b. is_some (lone P c i (item_sides P item f fs is) (side_at (item_sides P item f fs is) k)) || b)
      (some_zero k (put P c i f fs is (act_of P c item f.slots f.stack)) ∙ ap (flag_at_zero k) (of_put P c i f fs is (act_of P c item f.slots f.stack) ∙ of_item P f.stack c item f.slots))

  of_frames : (b : Option Call) (fs : List Frame) → is_some (on_frames P c i k b fs) ≡ goes_by (frame_sides P b fs) (begins_by b || can_act_at_head P c (frames_head b fs))
  unfolding goes_by
  of_frames (Some call) fs = some_zero k (Some (moved c (running (new_frame P call.function call.args false ∷ [])))) ∙ sym (ap (λ b. b || flag_at_zero k true) lone_plain)
  of_frames None [] = none_zero k ∙ sym (ap (λ b. b || flag_at_zero k false) lone_plain)
  of_frames None (f ∷ fs) = of_control f fs f.control

  alone_is : (o : Option Goroutine) → is_some (alone P c i k o) ≡ goes_by (sides_of P o) (acts P c o)
  unfolding goes_by acts
  alone_is None = none_zero k ∙ sym (ap (λ b. b || flag_at_zero k false) lone_plain)
  alone_is (Some go) = of_frames go.begin go.frames

  pub goes_is : (lone_goes P c i k || flag_at_zero k (acts P c (slice_get c.goroutines i))) ≡ goes P c i k
  unfolding goes_by
  goes_is = sym (alone_is (slice_get c.goroutines i))

pub lone_other : (P : Parts) (c : Config) (i k : ℕ) (w : Way) → w ≡ way_of_head P (slice_get c.goroutines i) k → (w ≡ way.Default → ⊥) → goes_alone c w ≡ lone_goes P c i k
lone_other P c i k w e h = by w h ∙ ap (lone_by c (any_ready P c i)) e ∙ lone_way P c i k
  where
    by : (x : Way) → (x ≡ way.Default → ⊥) → goes_alone c x ≡ lone_by c (any_ready P c i) x
    by way.Neither n = refl
    by (way.Offers o) n = refl
    by (way.Wants o) n = refl
    by way.Default n = absurd (n refl)

pub goes_zero : (P : Parts) (c : Config) (i k : ℕ) → k ≡ 0 → false ≡ lone_goes P c i k → acts P c (slice_get c.goroutines i) ≡ goes P c i k
goes_zero P c i k e h =
    ap (λ n. flag_at_zero n (acts P c (slice_get c.goroutines i))) (sym e) ∙ ap (λ b. b || flag_at_zero k (acts P c (slice_get c.goroutines i))) h ∙ goes_is P c i k
