-- The reader of a counter, or of a statement that begins as one, is good if the two are.
use Rattle.std.proofs.Common.{◌≡◌, ◌⊎◌, inl, inr, ℕ, ◌-◌, ◌≤◌, ◌<◌, Bool, true, false, List, [], ◌∷◌, ◌++◌, Option, Some, None, Result, Ok, Err, refl, sym, ap, subst, ◌∙◌, append_assoc, arith, length, nat_le, if◌then◌else◌}
use Rattle.std.proofs.lemmas.List.{length-append}
use Rattle.std.proofs.lemmas.Bool.{leb-true, leb-false, le-leb}
use Rattle.std.proofs.Math.Seq.{take-append_seam}
use Rattle.go_ast.specs.declared.block.Stmt.{Stmt}
use Rattle.go_grammar.specs.Words.{Word}
use Rattle.go_reading.specs.declared.fault.Fault.{Fault}
use Rattle.go_reading.specs.declared.fault.Fault.TheVariants.{Unexpected, TooDeep, Exhausted}
use Rattle.go_reading.specs.Input.{Reader, Tall}
use Rattle.go_reading.specs.Counters.{is_stop, is_empty, front_of, short, by_other, by_alone, by_counter, counted_or}
use Rattle.go_reading.proofs.Good.{Room, ◌⊑◌, room, Form, At, Good, Filled, first, first_append}

-- ---- lists of tokens

pub front_is : (ts front rest : List Word) → ts ≡ front ++ rest → front_of ts rest ≡ front
front_is ts front rest e =
    let l = length-append front rest in
    let m : length ts ≡ length (front ++ rest) = ap length e in
    let n : length ts - length rest ≡ length front = omega arith in
    rw (n, e) (take-append_seam front rest)

pub heads : (x y : Word) (u v : List Word) → x ∷ u ≡ y ∷ v → x ≡ y
heads x y u v e = cc

pub tails : (x y : Word) (u v : List Word) → x ∷ u ≡ y ∷ v → u ≡ v
tails x y u v e = cc

cons_same : (x y : Word) (u v : List Word) → x ≡ y → u ≡ v → y ∷ u ≡ x ∷ v
cons_same x y u v h t = cc

-- of two cuts the later one has more in front
pub later_cut : (a b r s : List Word) → a ++ r ≡ b ++ s → length s ≤ length r → (z : List Word) × (b ≡ a ++ z) × (r ≡ z ++ s)
later_cut [] b r s e le = (b, refl, e)
later_cut (x ∷ a) [] r s e le =
    let l = length-append (x ∷ a) r in
    let m : length (x ∷ a ++ r) ≡ length s = ap length e in
    absurd (omega arith)
later_cut (x ∷ a) (y ∷ b) r s e le =
    let h = heads x y (a ++ r) (b ++ s) e in
    let t = later_cut a b r s (tails x y (a ++ r) (b ++ s) e) le in
    (t.0, cons_same x y b (a ++ t.0) h t.1, t.2)

abbrev some_of : Word → Option Word
some_of w = Some w

some_word : (b a : Word) → some_of b ≡ some_of a → b ≡ a
some_word b a e = cc

pub same_first : (a : Word) (r' r : List Word) → first r' ≡ first (a ∷ r) → (s : List Word) × (r' ≡ a ∷ s)
same_first a [] r e = absurd cc
same_first a (b ∷ s) r e = let h : b ≡ a = some_word b a e in (s, rw h refl)

pub no_first : (r : List Word) → first r ≡ first [] → r ≡ []
no_first [] e = refl
no_first (b ∷ s) e = absurd cc

pub joined : (g f z r' w : List Word) → g ≡ f ++ z → z ++ r' ≡ w → g ++ r' ≡ f ++ w
joined g f z r' w e i = rw (e, append_assoc, i) refl

pub emptied : (ws : List Word) → is_empty ws ≡ true → ws ≡ []
emptied [] e = refl
emptied (w ∷ ws) e = absurd cc

not_le : (m n : ℕ) → n < m → nat_le m n ≡ false
not_le m n lt = go (nat_le m n) refl
  where
    go : (b : Bool) → nat_le m n ≡ b → b ≡ false
    go true e = let l = leb-true m n e in absurd (omega arith)
    go false e = refl

-- ---- the reader

module _ (N : ℕ) (K : Fault → Type 0) (never : K Exhausted → ⊥) (d d' : Room) (R : Form (Tall Stmt)) (C : Form Stmt) (c : Reader Stmt) (c_good : (ts : List Word) → Good N d (λ _. Unit {0}) C c c ts)
    (counts : (b : Room) → d ⊑ b → (x : Stmt) (w : List Word) → C b x w → R b (x, 0) w) (alone : List Word → Option (Tall Stmt))
    (alone_is : (ts : List Word) (e : Fault) (a : Word) (r front : List Word) → c ts ≡ (Err e, a ∷ r) → ts ≡ front ++ a ∷ r → (x : Tall Stmt) → is_stop (Some a.kind) ≡ true → alone (front ++ a ∷ []) ≡ Some x → R d x front)
    (far : Reader (Tall Stmt)) (far_goes : (s : List Word) → (far s).1 ≡ [] → (b : ℕ) × (x : Tall Stmt) × (m : List Word) × (d.0 ≤ b) × R (b, d.1) x (s ++ m))
    (p q : Reader (Tall Stmt)) (other_good : (ts : List Word) → Good N d K R p q ts)
    (short_is : (ts : List Word) (e : Fault) (a : Word) (r front : List Word) → c ts ≡ (Err e, a ∷ r) → ts ≡ front ++ a ∷ r → (far (front ++ a ∷ [])).1 ≡ [] → length (a ∷ r) < length (p ts).1 → ((p ts).0 ≡ Err TooDeep) ⊎ ((p ts).0 ≡ Err Exhausted)) where
  over : Reader (Tall Stmt) → Reader (Tall Stmt)
  over o = counted_or c alone far o

  -- where a counter breaks off
  at_break : (o : Reader (Tall Stmt)) (ts front : List Word) (e : Fault) (a : Word) (r : List Word) → c ts ≡ (Err e, a ∷ r) → ts ≡ front ++ a ∷ r → over o ts ≡ by_alone c alone far o ts front a r (if is_stop (Some a.kind) then alone (front ++ a ∷ []) else None)
  unfolding over counted_or
  at_break o ts front e a r is cut = rw (is, front_is ts front (a ∷ r) cut) refl

  at_end : (o : Reader (Tall Stmt)) (ts : List Word) (e : Fault) → c ts ≡ (Err e, []) → over o ts ≡ (Err Unexpected, [])
  unfolding over counted_or
  at_end o ts e is = rw is refl

  at_counter : (o : Reader (Tall Stmt)) (ts : List Word) (x : Stmt) (r : List Word) → c ts ≡ (Ok x, r) → over o ts ≡ (Ok (x, 0), r)
  unfolding over counted_or
  at_counter o ts x r is = rw is refl

  -- the rest of another text, behind what the counter took
  breaks_alike : (ts : List Word) (e : Fault) (a : Word) (r : List Word) → (f : At N d (λ _. Unit {0}) C c ts (Err e) (a ∷ r)) → (r' : List Word) → first r' ≡ first (a ∷ r) → c (f.front ++ r') ≡ (Err e, r')
  breaks_alike ts e a r f r' k = f.same tt r' k

  module _ (ts : List Word) (e : Fault) (a : Word) (r : List Word) (is : c ts ≡ (Err e, a ∷ r)) (f : At N d (λ _. Unit {0}) C c ts (Err e) (a ∷ r)) where
    -- on another text the reader does the same up to there
    over_at : (s : List Word) → over q (f.front ++ a ∷ s) ≡ by_alone c alone far q (f.front ++ a ∷ s) f.front a s (if is_stop (Some a.kind) then alone (f.front ++ a ∷ []) else None)
    over_at s = at_break q (f.front ++ a ∷ s) f.front e a s (f.same tt (a ∷ s) refl) refl

    some_counter : (b : Room) → d ⊑ b → Filled b R
    some_counter b le = let x = f.filled b le in ((x.0, 0), x.1, counts b le x.0 x.1 x.2)

    -- where no statement goes on
    refused : (o : Option (Tall Stmt)) → (if is_stop (Some a.kind) then alone (f.front ++ a ∷ []) else None) ≡ o → is_empty (far (f.front ++ a ∷ [])).1 ≡ false → o ≡ None → At N d K R (over q) ts (Err Unexpected) (a ∷ r)
    refused o i empty none =
        let m = f.means in
        record {
          front = f.front;
          cut = f.cut;
          same = λ s r' k. let p = same_first a r' r k in rw p.1 (over_at p.0 ∙ rw (i, none) (rw empty refl));
          means = (m.0, (m.1, 0), counts d (room d) m.1 (f.front ++ m.0) m.2, tt);
          filled = some_counter;
          enough = λ lt x. cc;
        }

    standing : (x : Tall Stmt) → (if is_stop (Some a.kind) then alone (f.front ++ a ∷ []) else None) ≡ Some x → is_stop (Some a.kind) ≡ true → alone (f.front ++ a ∷ []) ≡ Some x → At N d K R (over q) ts (Ok x) (a ∷ r)
    standing x i stop some = record {
      front = f.front;
      cut = f.cut;
      same = λ s r' k. let p = same_first a r' r k in rw p.1 (over_at p.0 ∙ rw i refl);
      means = alone_is ts e a r f.front is f.cut x stop some;
      filled = some_counter;
      enough = λ lt x. cc;
    }

    -- where another goes on with the token
    goes_on_at : (s : List Word) → (if is_stop (Some a.kind) then alone (f.front ++ a ∷ []) else None) ≡ None → is_empty (far (f.front ++ a ∷ [])).1 ≡ true
        → over q (f.front ++ a ∷ s) ≡ by_other c alone far q (a ∷ s) (q (f.front ++ a ∷ s)).0 (q (f.front ++ a ∷ s)).1
    goes_on_at s none empty = over_at s ∙ rw none (rw empty refl)

    -- the other reader went as far, or farther
    other_at : (v : Result (Tall Stmt) Fault) (behind : List Word) → At N d K R q ts v behind → (if is_stop (Some a.kind) then alone (f.front ++ a ∷ []) else None) ≡ None → is_empty (far (f.front ++ a ∷ [])).1 ≡ true → length behind ≤ length (a ∷ r) → At N d K R (over q) ts v behind
    other_at v behind g none empty le =
        let z = later_cut f.front g.front (a ∷ r) behind (sym f.cut ∙ g.cut) le in
        record {
          front = g.front;
          cut = g.cut;
          same = λ s r' k.
              let start : first (z.0 ++ r') ≡ first (a ∷ r) = first_append z.0 r' behind k ∙ ap first (sym z.2) in
              let p' = same_first a (z.0 ++ r') r start in
              let len = length-append z.0 r' in
              let whole : g.front ++ r' ≡ f.front ++ a ∷ p'.0 = joined g.front f.front z.0 r' (a ∷ p'.0) z.1 p'.1 in
              let here : q (f.front ++ a ∷ p'.0) ≡ (v, r') = ap q (sym whole) ∙ g.same s r' k in
              let same-length : length (z.0 ++ r') ≡ length (a ∷ p'.0) = ap length p'.1 in
              let small : length r' ≤ length (a ∷ p'.0) = omega arith in
              ap (over q) whole ∙ goes_on_at p'.0 none empty ∙ rw here (rw (le-leb (length r') (length (a ∷ p'.0)) small) refl);
          means = g.means;
          filled = g.filled;
          enough = g.enough;
        }

    -- it stopped before, since it has too few levels
    deep_at : (behind : List Word) → At N d K R q ts (Err TooDeep) behind → (if is_stop (Some a.kind) then alone (f.front ++ a ∷ []) else None) ≡ None → is_empty (far (f.front ++ a ∷ [])).1 ≡ true → length (a ∷ r) < length behind → At N d K R (over q) ts (Err TooDeep) (a ∷ r)
    deep_at behind g none empty lt =
        let z = later_cut g.front f.front behind (a ∷ r) (sym g.cut ∙ f.cut) (omega arith) in
        let m = f.means in
        let goes = far_goes (f.front ++ a ∷ []) (emptied (far (f.front ++ a ∷ [])).1 empty) in
        let lenz = length-append z.0 (a ∷ r) in
        let lenb : length behind ≡ length (z.0 ++ a ∷ r) = ap length z.2 in
        record {
          front = f.front;
          cut = f.cut;
          same = λ s r' k.
              let p' = same_first a r' r k in
              let len = length-append z.0 (a ∷ p'.0) in
              let k' : first (z.0 ++ a ∷ p'.0) ≡ first behind = first_append z.0 (a ∷ p'.0) (a ∷ r) refl ∙ ap first (sym z.2) in
              let whole : f.front ++ a ∷ p'.0 ≡ g.front ++ (z.0 ++ a ∷ p'.0) = joined f.front g.front z.0 (a ∷ p'.0) (z.0 ++ a ∷ p'.0) z.1 refl in
              let here : q (f.front ++ a ∷ p'.0) ≡ (Err TooDeep, z.0 ++ a ∷ p'.0) = ap q whole ∙ g.same s (z.0 ++ a ∷ p'.0) k' in
              rw p'.1 (goes_on_at p'.0 none empty ∙ rw here (rw (not_le (length (z.0 ++ a ∷ p'.0)) (length (a ∷ p'.0)) (omega arith)) refl));
          means = (m.0, (m.1, 0), counts d (room d) m.1 (f.front ++ m.0) m.2, (goes.0, a, goes.2, r, goes.1, goes.3, refl, rw append_assoc at goes.4));
          filled = some_counter;
          enough = λ l x. cc;
        }

    -- or it has no turns left
    exhausted_at : (behind : List Word) → At N d K R q ts (Err Exhausted) behind → At N d K R (over q) ts (Err Exhausted) behind
    exhausted_at behind g = record { front = g.front; cut = g.cut; same = λ s. absurd (never s); means = g.means; filled = g.filled; enough = g.enough }

    by_lengths : (v : Result (Tall Stmt) Fault) (behind : List Word) → At N d K R q ts v behind → (if is_stop (Some a.kind) then alone (f.front ++ a ∷ []) else None) ≡ None → is_empty (far (f.front ++ a ∷ [])).1 ≡ true → (b : Bool) → nat_le (length behind) (length (a ∷ r)) ≡ b
        → (length (a ∷ r) < length behind → (v ≡ Err TooDeep) ⊎ (v ≡ Err Exhausted))
        → At N d K R (over q) ts (if b then (v, behind) else short c alone far p (a ∷ r) v behind).0 (if b then (v, behind) else short c alone far p (a ∷ r) v behind).1
    by_lengths v behind g none empty true le why = other_at v behind g none empty (leb-true (length behind) (length (a ∷ r)) le)
    by_lengths v behind g none empty false le why = let lt = leb-false (length behind) (length (a ∷ r)) le in by_fault v g (why lt) lt
      where
        by_fault : (v : Result (Tall Stmt) Fault) → At N d K R q ts v behind → (v ≡ Err TooDeep) ⊎ (v ≡ Err Exhausted) → length (a ∷ r) < length behind → At N d K R (over q) ts (short c alone far p (a ∷ r) v behind).0 (short c alone far p (a ∷ r) v behind).1
        by_fault v g (inl i) lt = rw i (deep_at behind (subst (λ (w : Result (Tall Stmt) Fault). At N d K R q ts w behind) i g) none empty lt)
        by_fault v g (inr i) lt = rw i (exhausted_at behind (subst (λ (w : Result (Tall Stmt) Fault). At N d K R q ts w behind) i g))

    broken_at : (o : Option (Tall Stmt)) → (if is_stop (Some a.kind) then alone (f.front ++ a ∷ []) else None) ≡ o → (b : Bool) → is_empty (far (f.front ++ a ∷ [])).1 ≡ b
        → At N d K R (over q) ts (by_alone c alone far p ts f.front a r o).0 (by_alone c alone far p ts f.front a r o).1
    broken_at (Some x) i b empty = standing x i (stops x i) (stands x i)
      where
        stops : (x : Tall Stmt) → (if is_stop (Some a.kind) then alone (f.front ++ a ∷ []) else None) ≡ Some x → is_stop (Some a.kind) ≡ true
        stops x i = by_stop (is_stop (Some a.kind)) i
          where
            by_stop : (s : Bool) → (if s then alone (f.front ++ a ∷ []) else None) ≡ Some x → s ≡ true
            by_stop true i = refl
            by_stop false i = absurd cc

        stands : (x : Tall Stmt) → (if is_stop (Some a.kind) then alone (f.front ++ a ∷ []) else None) ≡ Some x → alone (f.front ++ a ∷ []) ≡ Some x
        stands x i = by_stop (is_stop (Some a.kind)) i
          where
            by_stop : (s : Bool) → (if s then alone (f.front ++ a ∷ []) else None) ≡ Some x → alone (f.front ++ a ∷ []) ≡ Some x
            by_stop true i = i
            by_stop false i = absurd cc
    broken_at None i false empty = rw empty (refused None i empty refl)
    broken_at None i true empty = rw empty (by_lengths (p ts).0 (p ts).1 (other_good ts) i empty (nat_le (length (p ts).1) (length (a ∷ r))) refl (λ lt. short_is ts e a r f.front is f.cut (emptied (far (f.front ++ a ∷ [])).1 empty) lt))

  by_outcome : (ts : List Word) (v : Result Stmt Fault) (rest : List Word) → c ts ≡ (v, rest) → At N d (λ _. Unit {0}) C c ts v rest → At N d K R (over q) ts (by_counter c alone far p ts v rest).0 (by_counter c alone far p ts v rest).1
  by_outcome ts (Ok x) rest is f = record {
    front = f.front;
    cut = f.cut;
    same = λ s r' k. at_counter q (f.front ++ r') x r' (f.same tt r' k);
    means = counts d (room d) x f.front f.means;
    filled = λ b le. let y = f.filled b le in ((y.0, 0), y.1, counts b le y.0 y.1 y.2);
    enough = λ lt y. cc;
  }
  by_outcome ts (Err e) [] is f =
      let m = f.means in
      record {
        front = f.front;
        cut = f.cut;
        same = λ s r' k. let n = no_first r' k in rw n (at_end q (f.front ++ []) e (f.same tt [] refl));
        means = (m.0, (m.1, 0), counts d (room d) m.1 (f.front ++ m.0) m.2, tt);
        filled = λ b le. let y = f.filled b le in ((y.0, 0), y.1, counts b le y.0 y.1 y.2);
        enough = λ lt y. cc;
      }
  by_outcome ts (Err e) (a ∷ r) is f = rw (front_is ts f.front (a ∷ r) f.cut) (broken_at ts e a r is f (if is_stop (Some a.kind) then alone (f.front ++ a ∷ []) else None) refl (is_empty (far (f.front ++ a ∷ [])).1) refl)

  pub counted_or_good : (ts : List Word) → Good N d K R (counted_or c alone far p) (counted_or c alone far q) ts
  unfolding counted_or over
  counted_or_good ts = by_outcome ts (c ts).0 (c ts).1 refl (c_good ts)
