-- What the checks of parts of statements make.
use Rattle.std.proofs.Common.{◌≡◌, ℕ, suc, ◌+◌, ◌<◌, ◌≢◌, Bool, true, false, cond, List, [], ◌∷◌, ◌++◌, length, Option, None, refl, sym, ◌∙◌, subst, arith, replicate, get_or-set_other, get_or-set_same, length-set}
use Rattle.std.specs.Prelude.{slice_set, ◌==◌}
use Rattle.go_meaning.specs.declared.node.Node.{Node}
use Rattle.go_meaning.specs.Programs.{Parts, list_at}
use Rattle.go_types.specs.declared.walk.Position.{Position}
use Rattle.go_types.specs.declared.walk.Walk.{Walk}
use Rattle.go_types.specs.Walking.{Walking, ◌>>>◌, opened, scoped, new_lists}
use Rattle.go_types.specs.Bodies.{Checks, FormChecks, numbered, braced, next_at, list_of}
use Rattle.go_bounds.specs.Known.{Each}
use Rattle.go_bounds.proofs.Sure.{Sure, sure_ok, sure_then, sure_more}
use Rattle.go_bounds.proofs.Naming.{Perhaps}
use Rattle.go_bounds.proofs.Calm.{around_refl, Ready, opened_ready}
use Rattle.go_bounds.proofs.Pieces.{FormStands, ListStands, BlockStands, list_none, list_more, block_stands}
use Rattle.go_bounds.proofs.Goes.{Ends, held_at, Goes, goes_calm, goes_trans, goes_none, goes_all, ends_before, ends_after, goes_made, made_length, goes_scoped}

module _ (P : Parts) (first : ℕ) where
  -- there is a next clause's list, if one is told
  abbrev pub IsNext : Option ℕ → Type 0
  IsNext next = Perhaps (λ l. l < length P.lists) next

  -- the lists that are made stand in the program, where it has what is made
  pub record MakesForm (c : FormChecks) : Type 0 where
    pub makes : (at : ℕ) (p : Position) (m : ℕ) (s : Walk) → Ready P first m s → Sure (c at p s) (λ r. Goes P first m 0 0 s r.1 × ((S : ℕ) → Ends P S (length s.lists) r.1 → IsNext p.next → FormStands P S m r.0 (length s.lists) (length r.1.lists)))

  pub record MakesStmt (c : Checks) : Type 0 where
    pub makes : (p : Position) (m : ℕ) (s : Walk) → Ready P first m s → Sure (c p s) (λ r. Goes P first m 0 0 s r.1 × ((S : ℕ) → Ends P S (length s.lists) r.1 → IsNext p.next → FormStands P S m r.0.form (length s.lists) (length r.1.lists)))

  pub record MakesList (N : Type 0) (p : Walking (List Node)) : Type 0 where
    pub makes : (m : ℕ) (s : Walk) → Ready P first m s → Sure (p s) (λ r. Goes P first m 0 0 s r.1 × ((S : ℕ) → Ends P S (length s.lists) r.1 → N → ListStands P S m r.0 (length s.lists) (length r.1.lists)))

  pub record MakesBlock (p : Walking ℕ) : Type 0 where
    pub makes : (m : ℕ) (s : Walk) → Ready P first m s → Sure (p s) (λ r. Goes P first m 0 0 s r.1 × ((S : ℕ) → Ends P S (length s.lists) r.1 → BlockStands P S m r.0 (length s.lists) (length r.1.lists)))

  -- a list under a number that is there
  pub record MakesNumbered (N : Type 0) (l : ℕ) (p : Walking ℕ) : Type 0 where
    pub makes : (m : ℕ) (s : Walk) → Ready P first m s → l < length s.lists → Sure (p s) (λ r. Goes P first m l (suc l) s r.1 × (r.0 ≡ l) × ((S : ℕ) → Ends P S (length s.lists) r.1 → list_at P l ≡ held_at r.1 l → N → ListStands P S m (list_at P l) (length s.lists) (length r.1.lists)))

  pub makes_scoped : {N : Type 0} {p : Walking (List Node)} → MakesList N p → MakesList N (scoped p)
  makes_scoped h = record {
    makes = λ m s r.
        sure_then (h.makes m (opened s) (opened_ready P first m s r)) (λ x q.
        sure_ok _ (goes_scoped P first m 0 0 s x.1 q.0, λ S e n. q.1 S (record { declared = e.declared; bound = e.bound; lists = e.lists }) n));
  }

  -- ---- a list under a number

  abbrev set_at : Walk → ℕ → List Node → Walk
  set_at t l ns = record t { lists = slice_set t.lists l ns }

  goes_set : (m l : ℕ) (s t : Walk) (ns : List Node) → Goes P first m 0 0 s t → Goes P first m l (suc l) s (set_at t l ns)
  goes_set m l s t ns h = record {
    ready = record { known = h.ready.known; unit = h.ready.unit; around = h.ready.around };
    slots = h.slots;
    lists = omega (arith, h.lists, length-set t.lists l ns);
    names = h.names;
    kept = λ n lt x. (let other : n ≢ l = (λ e. x (omega arith) (omega arith)) in get_or-set_other t.lists l n ns [] other ∙ h.kept n lt (λ p q. omega arith));
  }

  ends_set : (S a l : ℕ) (t : Walk) (ns : List Node) → l < a → Ends P S a (set_at t l ns) → Ends P S a t
  ends_set S a l t ns lt e = record {
    declared = e.declared;
    bound = omega (arith, e.bound, length-set t.lists l ns);
    lists = λ n p q. (let other : n ≢ l = (λ w. omega arith) in e.lists n p (omega (arith, length-set t.lists l ns)) ∙ get_or-set_other t.lists l n ns [] other);
  }

  list_set : (S m a b l : ℕ) (t : Walk) (ns : List Node) → l < length t.lists → list_at P l ≡ held_at (set_at t l ns) l → length t.lists ≡ b → ListStands P S m ns a (length t.lists) → ListStands P S m (list_at P l) a b
  list_set S m a b l t ns lt e f h =
      subst (λ k. ListStands P S m (list_at P l) a k) f (subst (λ xs. ListStands P S m xs a (length t.lists)) (sym (e ∙ get_or-set_same t.lists l ns [] lt)) h)

  pub makes_numbered : {N : Type 0} (l : ℕ) {p : Walking (List Node)} → MakesList N p → MakesNumbered N l (numbered l p)
  makes_numbered l h = record {
    makes = λ m s r lt.
        sure_then (h.makes m s r) (λ x q.
        sure_ok (l, set_at x.1 l x.0) (
          goes_set m l s x.1 x.0 q.0,
          refl,
          λ S e is n.
              list_set S m (length s.lists) (length (set_at x.1 l x.0).lists) l x.1 x.0 (omega (arith, q.0.lists, lt)) is (sym (length-set x.1.lists l x.0)) (q.1 S (ends_set S (length s.lists) l x.1 x.0 lt e) n),
        ));
  }

  -- ---- a list under the next number

  abbrev pub grown : ℕ → Walk → Walk
  grown n s = record s { lists = s.lists ++ replicate n [] }

  block_made : (S m : ℕ) (s t : Walk) (k : ℕ) → k ≡ length s.lists → Goes P first m 0 0 s (grown 1 s) → length s.lists < length t.lists → Ends P S (length s.lists) t
      → (Ends P S (length (grown 1 s).lists) t → list_at P (length s.lists) ≡ held_at t (length s.lists) → ListStands P S m (list_at P (length s.lists)) (length (grown 1 s).lists) (length t.lists))
      → BlockStands P S m k (length s.lists) (length t.lists)
  block_made S m s t k is g lt e h =
      let more : length (grown 1 s).lists ≡ suc (length s.lists) = omega (arith, made_length P first 1 s) in
      let stands : ListStands P S m (list_at P (length s.lists)) (length (grown 1 s).lists) (length t.lists) = h (ends_after P first S (length s.lists) (length (grown 1 s).lists) t (omega (arith, more)) e) (e.lists (length s.lists) (omega arith) lt) in
      block_stands P S m k (length s.lists) (length t.lists) is
      (subst (λ a. ListStands P S m (list_at P k) a (length t.lists)) more (subst (λ l. ListStands P S m (list_at P l) (length (grown 1 s).lists) (length t.lists)) (sym is) stands))

  pub makes_next : {p : Walking (List Node)} → MakesList (Unit {0}) p → MakesBlock (new_lists 1 >>> (λ l. numbered l p))
  makes_next {p} h = record { makes = λ m s r. by m s r (goes_made P first m 1 s r) (made_length P first 1 s) }
    where
      by : (m : ℕ) (s : Walk) → Ready P first m s → Goes P first m 0 0 s (grown 1 s) → length (grown 1 s).lists ≡ length s.lists + 1
          → Sure (numbered (length s.lists) p (grown 1 s)) (λ r. Goes P first m 0 0 s r.1 × ((S : ℕ) → Ends P S (length s.lists) r.1 → BlockStands P S m r.0 (length s.lists) (length r.1.lists)))
      by m s r g e =
          sure_more ((makes_numbered (length s.lists) h).makes m (grown 1 s) g.ready (omega arith)) (λ x q. (
            goes_all P first m (length s.lists) (suc (length s.lists)) s x.1 (omega arith) (goes_trans P first m (length s.lists) (suc (length s.lists)) s (grown 1 s) x.1 (goes_none P first m (length s.lists) (suc (length s.lists)) s (grown 1 s) g) q.0),
            λ S ends. block_made S m s x.1 x.0 q.1 g (omega (arith, q.0.lists, e)) ends (λ f is. q.2 S f is tt),
          ))

  pub makes_braced : {p : Walking (List Node)} → MakesList (Unit {0}) p → MakesBlock (braced p)
  makes_braced h = makes_next (makes_scoped h)

  -- ---- lists of statements

  module _ (T : Type 0) (f : T → Checks) (good : T → Type 0) (goods : (x : T) → good x → MakesStmt (f x)) where
    next_told : (n : ℕ) (next : Option ℕ) → IsNext next → IsNext (next_at n next)
    next_told n next h = by (n == 0)
      where
        by : (b : Bool) → IsNext (cond b next None)
        by true = h
        by false = tt

    more_made : (S m : ℕ) (s t u : Walk) (n : Node) (ns : List Node) → Goes P first m 0 0 s t → Goes P first m 0 0 t u → Ends P S (length s.lists) u
        → (Ends P S (length s.lists) t → FormStands P S m n.form (length s.lists) (length t.lists)) → (Ends P S (length t.lists) u → ListStands P S m ns (length t.lists) (length u.lists))
        → ListStands P S m (n ∷ ns) (length s.lists) (length u.lists)
    more_made S m s t u n ns g g' e h k =
        list_more P S m n ns (length s.lists) (length t.lists) (length u.lists) (h (ends_before P first S (length s.lists) 0 0 m t u (omega arith) g' e)) (k (ends_after P first S (length s.lists) (length t.lists) u g.lists e))

    pub makes_list : (colon next : Option ℕ) (xs : List T) → Each good xs → MakesList (IsNext next) (list_of T f colon next xs)
    makes_list colon next [] g = record {
      makes = λ m s r.
          sure_ok ([], s) (goes_calm P first m s s (record { ready = r; slots = omega arith; lists = refl; names = around_refl s.names }), λ S e n. list_none P S m (length s.lists) (length s.lists) refl);
    }
    makes_list colon next (x ∷ xs) g = record {
      makes = λ m s r.
          sure_then ((goods x g.0).makes _ m s r) (λ a q.
          sure_then ((makes_list None next xs g.1).makes m a.1 q.0.ready) (λ b w.
          sure_ok (a.0 ∷ b.0, b.1) (
            goes_trans P first m 0 0 s a.1 b.1 q.0 w.0,
            λ S e n.
                more_made S m s a.1 b.1 a.0 b.0 q.0 w.0 e (λ f. q.1 S f (next_told (length xs) next n)) (λ f. w.1 S f n),
          )));
    }
