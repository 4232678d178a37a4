-- Control past marks, an item at a time, under a head item.
use Rattle.std.proofs.Common.{◌≡◌, ℕ, zero, suc, ◌+◌, ◌-◌, ◌<◌, List, [], ◌∷◌, drop, Option, Some, None, slice_get, unwrap_or, refl, sym, ap, ◌∙◌, arith}
use Rattle.std.proofs.lemmas.Option.{none-some, same_Some}
use Rattle.std.proofs.lemmas.List.{drop-drop}
use Rattle.go_meaning.specs.declared.value.Value.{Value}
use Rattle.go_meaning.specs.declared.item.Item.{Item}
use Rattle.go_meaning.specs.Moves.{Cut, mark, cut_at, cut_past, past_mark, broken}

under : (xs : List Item) (x : Item) → slice_get xs 1 ≡ Some x → drop 1 xs ≡ x ∷ drop 1 (drop 1 xs)
under [] x h = absurd cc
under (a ∷ []) x h = absurd cc
under (a ∷ b ∷ xs) x h = ap (λ y. y ∷ xs) (same_Some b x h)

cut_under : (xs : List Item) (x : Item) (k : ℕ) (o : Option ℕ) → slice_get xs 1 ≡ Some x → mark x ≡ o → cut_past (drop 1 xs) k ≡ cut_at o k x (drop 1 (drop 1 xs)) (cut_past (drop 1 (drop 1 xs)))
cut_under xs x k o h m = ap (λ l. cut_past l k) (under xs x h) ∙ ap (λ p. cut_at p k x (drop 1 (drop 1 xs)) (cut_past (drop 1 (drop 1 xs)))) m

pub past_other : (xs : List Item) (x : Item) (k : ℕ) → slice_get xs 1 ≡ Some x → mark x ≡ None → cut_past (drop 1 xs) k ≡ cut_past (drop 1 (drop 1 xs)) k
past_other xs x k h m = cut_under xs x k None h m

pub past_one_control : (xs : List Item) (x : Item) (k v : ℕ) → slice_get xs 1 ≡ Some x → mark x ≡ Some v → 0 < k → (cut_past (drop 1 xs) k).control ≡ (cut_past (drop 1 (drop 1 xs)) (k - 1)).control
past_one_control xs x zero v h m some = absurd (omega arith)
past_one_control xs x (suc k) v h m some = let e : suc k - 1 ≡ k = omega arith in rw e (ap (λ (c : Cut). c.control) (cut_under xs x (suc k) (Some v) h m))

pub past_one_values : (xs : List Item) (x : Item) (k v : ℕ) (st : List Value) → slice_get xs 1 ≡ Some x → mark x ≡ Some v → 0 < k → drop (cut_past (drop 1 (drop 1 xs)) (k - 1)).values (drop v st) ≡ drop (cut_past (drop 1 xs) k).values st
past_one_values xs x zero v st h m some = absurd (omega arith)
past_one_values xs x (suc k) v st h m some =
    let e : suc k - 1 ≡ k = omega arith in
    rw e (drop-drop (cut_past (drop 1 (drop 1 xs)) k).values v st ∙ ap (λ (c : Cut). drop c.values st) (sym (cut_under xs x (suc k) (Some v) h m)))

pub at_last : (xs : List Item) (x : Item) (v : ℕ) → slice_get xs 1 ≡ Some x → mark x ≡ Some v → cut_past (drop 1 xs) 0 ≡ record { values = 0; control = drop 1 xs }
at_last xs x v h m = cut_under xs x 0 (Some v) h m ∙ ap (λ l. record { values = 0; control = l }) (sym (under xs x h))

pub at_end : (xs : List Item) (k : ℕ) → slice_get xs 1 ≡ None → cut_past (drop 1 xs) k ≡ record { values = 0; control = drop 1 xs }
at_end [] k h = refl
at_end (a ∷ []) k h = refl
at_end (a ∷ b ∷ xs) k h = absurd cc

-- the mark goes too
pub broken_control : (xs : List Item) (is : List Item) (k : ℕ) → drop 1 xs ≡ (cut_past is k).control → drop 2 xs ≡ (broken is k).control
broken_control [] is k h = sym (ap (λ l. (past_mark l).control) (sym h))
broken_control (a ∷ []) is k h = sym (ap (λ l. (past_mark l).control) (sym h))
broken_control (a ∷ b ∷ xs) is k h = sym (ap (λ l. (past_mark l).control) (sym h))

pub broken_values : (xs : List Item) (is : List Item) (k : ℕ) (st : List Value) → drop 1 xs ≡ (cut_past is k).control → drop (past_mark (drop 1 xs)).values (drop (cut_past is k).values st) ≡ drop (broken is k).values st
broken_values xs is k st h = drop-drop (past_mark (drop 1 xs)).values (cut_past is k).values st ∙ ap (λ l. drop ((cut_past is k).values + (past_mark l).values) st) h

pub past_of : (xs : List Item) (x : Item) (o : Option ℕ) → slice_get xs 1 ≡ Some x → mark x ≡ o → (past_mark (drop 1 xs)).values ≡ unwrap_or o 0
past_of xs x o h m = ap (λ l. (past_mark l).values) (under xs x h) ∙ by o m
  where
    by : (o : Option ℕ) → mark x ≡ o → (past_mark (x ∷ drop 1 (drop 1 xs))).values ≡ unwrap_or o 0
    by None m = ap (λ p. elim p as (λ _. ℕ) [ None ↦ 0 | Some v ↦ v ]) m
    by (Some v) m = ap (λ p. elim p as (λ _. ℕ) [ None ↦ 0 | Some w ↦ w ]) m

pub past_none : (xs : List Item) → slice_get xs 1 ≡ None → (past_mark (drop 1 xs)).values ≡ 0
past_none [] h = refl
past_none (a ∷ []) h = refl
past_none (a ∷ b ∷ xs) h = absurd cc

-- no values go before the first mark
pub fallen_values : (is : List Item) → (cut_past is 0).values ≡ 0
fallen_values [] = refl
fallen_values (item ∷ is) = fallen_at (mark item) item is (fallen_values is)
  where
    fallen_at : (o : Option ℕ) (item : Item) (is : List Item) → (cut_past is 0).values ≡ 0 → (cut_at o 0 item is (cut_past is)).values ≡ 0
    fallen_at None item is h = h
    fallen_at (Some v) item is h = refl
