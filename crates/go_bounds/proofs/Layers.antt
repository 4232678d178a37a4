-- What each layer of a statement makes.
use Rattle.std.proofs.Common.{◌≡◌, ℕ, suc, ◌+◌, ◌≤◌, Bool, true, false, List, ◌++◌, length, map, Option, Some, None, refl, sym, ap, ◌∙◌, subst, arith}
use Rattle.std.proofs.lemmas.List.{length-map}
use Rattle.std.specs.Prelude.{flat_map}
use Rattle.go_ast.specs.declared.kind.SourceKind.TheVariants as source
use Rattle.go_ast.specs.declared.name.Name.{Name}
use Rattle.go_ast.specs.declared.expr.Expr.{Expr as Written}
use Rattle.go_ast.specs.declared.block.StmtForm.TheOpen.{StmtForm-F}
use Rattle.go_meaning.specs.declared.expr.Expr.{Expr}
use Rattle.go_meaning.specs.declared.expr.Target.{Target}
use Rattle.go_meaning.specs.declared.node.Simple.{Simple}
use Rattle.go_meaning.specs.declared.node.CaseClause.{CaseClause as CaseNode}
use Rattle.go_meaning.specs.declared.node.CommClause.{CommClause as CommNode}
use Rattle.go_meaning.specs.declared.node.NodeForm.{NodeForm}
use Rattle.go_meaning.specs.declared.node.NodeForm.TheVariants as node
use Rattle.go_meaning.specs.Programs.{Parts}
use Rattle.go_meaning.specs.Lists.{one, one_if_any, clauses, nest, within as inner}
use Rattle.go_meaning.specs.WellFormed.{AreThere, uses, uses_of_first, uses_of_test, uses_of_target, uses_of_values, uses_of_comm}
use Rattle.go_types.specs.declared.types.ValueType.{ValueType}
use Rattle.go_types.specs.declared.walk.Enclosing.{Enclosing}
use Rattle.go_types.specs.declared.walk.Position.{Position}
use Rattle.go_types.specs.declared.walk.Walk.{Walk}
use Rattle.go_types.specs.Checking.{Checked}
use Rattle.go_types.specs.Walking.{Walking, ◌>>>◌, done, as_walking, opened, scoped, new_lists, within}
use Rattle.go_types.specs.Scopes.{new_label}
use Rattle.go_types.specs.Bodies.{CaseParts, CommParts, Checks, alone, bearing, target_at, range_node, plain_form, simple_in, simple_if, first_of, block_at, if_parts, last_part, repeated, for_parts, range_parts, clauses_of, switch_parts, comm_clauses_of, select_parts, labelled, none_seen}
use Rattle.go_bounds.specs.Known.{Each}
use Rattle.go_bounds.specs.Pieces.{Stand}
use Rattle.go_bounds.proofs.Sure.{Sure, sure_ok, sure_err, sure_then, sure_if, sure_more}
use Rattle.go_bounds.proofs.Uses.{Computes, there_stays, there_append}
use Rattle.go_bounds.proofs.Naming.{Perhaps, each_more}
use Rattle.go_bounds.proofs.Calm.{around_refl, Ready, Calms, opened_ready}
use Rattle.go_bounds.proofs.Values.{computes_stays, IsTarget, target_stays}
use Rattle.go_bounds.proofs.Simples.{IsTyped}
use Rattle.go_types.specs.declared.given.Typed.{Typed}
use Rattle.go_bounds.proofs.Heads as heads
use Rattle.go_bounds.proofs.Heads.{IsTest}
use Rattle.go_bounds.proofs.Plain.{IsFit, plain_does}
use Rattle.go_bounds.proofs.Pieces.{FormStands, BlockStands, ClausesStand, stand_le, stand_length, stand_join, clauses_join}
use Rattle.go_bounds.proofs.Goes.{Ends, Goes, goes_calm, goes_trans, goes_none, goes_all, ends_before, ends_after, goes_made, made_length, goes_scoped, inside, inside_ready, goes_outside}
use Rattle.go_bounds.proofs.Making.{IsNext, MakesStmt, grown}
use Rattle.go_bounds.proofs.Clauses.{MakesCase, MakesComm, Has, cases_made, comms_made}

module _ (P : Parts) (first : ℕ) where
  abbrev Made : {A : Type 0} → ℕ → Walk → (ℕ → A → ℕ → ℕ → Type 0) → A × Walk → Type 0
  Made m s T r = Goes P first m 0 0 s r.1 × ((S : ℕ) → Ends P S (length s.lists) r.1 → T S r.0 (length s.lists) (length r.1.lists))

  -- what is checked makes what stands in the program
  pub record Makes {A : Type 0} (m : ℕ) (p : Walking A) (T : ℕ → A → ℕ → ℕ → Type 0) : Type 0 where
    pub makes : (s : Walk) → Ready P first m s → Sure (p s) (Made m s T)

  module _ (m : ℕ) where
    pub makes_then : {A B : Type 0} {T : ℕ → A → ℕ → ℕ → Type 0} {U : ℕ → B → ℕ → ℕ → Type 0} {p : Walking A} {f : A → Walking B} → Makes m p T
        → ((a : A) → Makes m (f a) (λ S b at to. (from : ℕ) → T S a from at → U S b from to)) → Makes m (p >>> f) U
    makes_then h k = record {
      makes = λ s r.
          sure_then (h.makes s r) (λ x q.
          sure_more ((k x.0).makes x.1 q.0.ready) (λ y w. (
            goes_trans P first m 0 0 s x.1 y.1 q.0 w.0,
            λ S e. w.1 S (ends_after P first S (length s.lists) (length x.1.lists) y.1 q.0.lists e) (length s.lists) (q.1 S (ends_before P first S (length s.lists) 0 0 m x.1 y.1 (omega arith) w.0 e)),
          )));
    }

    pub makes_done : {A : Type 0} {T : ℕ → A → ℕ → ℕ → Type 0} (a : A) → ((S n : ℕ) → T S a n n) → Makes m (done a) T
    makes_done a k = record { makes = λ s r. sure_ok (a, s) (goes_calm P first m s s (record { ready = r; slots = omega arith; lists = refl; names = around_refl s.names }), λ S e. k S (length s.lists)) }

    -- what makes no list
    pub makes_calm : {A : Type 0} {Q : ℕ → A → Type 0} {p : Walking A} → Calms P first m 0 p Q → ((s t : ℕ) → s ≤ t → (a : A) → Q s a → Q t a) → Makes m p (λ S a from to. Q S a × (from ≡ to))
    makes_calm h k = record {
      makes = λ s r.
          sure_more (h.calms s r (omega arith)) (λ x q. (goes_calm P first m s x.1 q.0, λ S e. (k (length x.1.declared) S e.declared x.0 q.1, sym (ap length q.0.lists))));
    }

    pub makes_scoped : {A : Type 0} {T : ℕ → A → ℕ → ℕ → Type 0} {p : Walking A} → Makes m p T → Makes m (scoped p) T
    makes_scoped h = record {
      makes = λ s r.
          sure_then (h.makes (opened s) (opened_ready P first m s r)) (λ x q.
          sure_ok _ (goes_scoped P first m 0 0 s x.1 q.0, λ S e. q.1 S (record { declared = e.declared; bound = e.bound; lists = e.lists })));
    }

    pub makes_more : {A : Type 0} {T U : ℕ → A → ℕ → ℕ → Type 0} {p : Walking A} → Makes m p T → ((S : ℕ) (a : A) (from to : ℕ) → T S a from to → U S a from to) → Makes m p U
    makes_more h k = record { makes = λ s r. sure_more (h.makes s r) (λ x q. (q.0, λ S e. k S x.0 (length s.lists) (length x.1.lists) (q.1 S e))) }

  pub makes_within : {A : Type 0} (m : ℕ) {T : ℕ → A → ℕ → ℕ → Type 0} {p : Walking A} (e : Enclosing) → Makes (suc m) p T → Makes m (within e p) T
  makes_within m e h = record {
    makes = λ s r.
        sure_then (h.makes (inside P first s e) (inside_ready P first m s e r)) (λ x q.
        sure_ok _ (goes_outside P first m 0 0 s e x.1 r q.0, λ S f. q.1 S (record { declared = f.declared; bound = f.bound; lists = f.lists })));
  }

  -- lists under new numbers, within a statement that `break` can leave
  module _ {X : Type 0} (m n : ℕ) (e : Enclosing) (p : ℕ → Walking X) (T : ℕ → X → ℕ → ℕ → ℕ → ℕ → Type 0) where
    abbrev Clauses : Type 0
    Clauses = (l : ℕ) (s : Walk) → Ready P first (suc m) s → l + n ≤ length s.lists
        → Sure (p l s) (λ r. Goes P first (suc m) l (l + n) s r.1 × ((S : ℕ) → Ends P S (length s.lists) r.1 → Has P first r.1 l (l + n) → l + n ≤ length P.lists → T S r.0 l (l + n) (length s.lists) (length r.1.lists)))

    pub makes_numbers : Clauses → Makes m (new_lists n >>> (λ l. within e (p l))) (λ S x a b. T S x a (a + n) (a + n) b)
    makes_numbers h = record {
      makes = λ s r.
          let more : length (grown P first n s).lists ≡ length s.lists + n = made_length P first n s in
          let g : Goes P first m 0 0 s (grown P first n s) = goes_made P first m n s r in
          sure_then (h (length s.lists) (inside P first (grown P first n s) e) (inside_ready P first m (grown P first n s) e g.ready) (omega arith)) (λ x q.
          sure_ok _ (
            goes_all P first m (length s.lists) (length s.lists + n) s _ (omega arith)
                (goes_trans P first m (length s.lists) (length s.lists + n) s (grown P first n s) _ (goes_none P first m (length s.lists) (length s.lists + n) s (grown P first n s) g)
                (goes_outside P first m (length s.lists) (length s.lists + n) (grown P first n s) e x.1 g.ready q.0)),
            λ S f. numbered S s x.0 x.1 more q.0.lists (q.1 S) (record { declared = f.declared; bound = f.bound; lists = f.lists }),
          ));
    }
      where
        numbered : (S : ℕ) (s : Walk) (x : X) (t : Walk) → length (grown P first n s).lists ≡ length s.lists + n → length (grown P first n s).lists ≤ length t.lists
            → (Ends P S (length (grown P first n s).lists) t → Has P first t (length s.lists) (length s.lists + n) → length s.lists + n ≤ length P.lists → T S x (length s.lists) (length s.lists + n) (length (grown P first n s).lists) (length t.lists))
            → Ends P S (length s.lists) t → T S x (length s.lists) (length s.lists + n) (length s.lists + n) (length t.lists)
        numbered S s x t more le k f =
            subst (λ a. T S x (length s.lists) (length s.lists + n) a (length t.lists)) more
            (k (ends_after P first S (length s.lists) (length (grown P first n s).lists) t (omega arith) f) (λ i lo hi. f.lists i lo (omega arith)) (omega (arith, f.bound)))

  -- ---- parts

  abbrev pub First : ℕ → Option Simple → ℕ → ℕ → Type 0
  First S o a b = AreThere P S (uses_of_first o) × (a ≡ b)

  simple_is : (at : ℕ) (x : NodeForm) → Sure (simple_if at (simple_in x)) (λ y. x ≡ node.Simple y)
  simple_is at (node.Simple y) = sure_ok y refl
  simple_is at x = sure_err at source.BadCall

  makes_pure : {A : Type 0} (m : ℕ) {Q : A → Type 0} {r : Checked A} → Sure r Q → Makes m (as_walking r) (λ S a from to. Q a × (from ≡ to))
  makes_pure m h = record { makes = λ s r. sure_then h (λ a q. sure_ok (a, s) (goes_calm P first m s s (record { ready = r; slots = omega arith; lists = refl; names = around_refl s.names }), λ S e. (q, refl))) }

  first_simple : (S m : ℕ) (x : NodeForm) (y : Simple) (a b : ℕ) → x ≡ node.Simple y → FormStands P S m x a b → First S (Some y) a b
  first_simple S m x y a b e h =
      let k : FormStands P S m (node.Simple y) a b = subst (λ z. FormStands P S m z a b) e h in
      (k.sound.uses, k.nests b (omega arith))

  module _ (T : Type 0) (f : T → Checks) (good : T → Type 0) (goods : (x : T) → good x → MakesStmt P first (f x)) where
    pub makes_first : (m : ℕ) (o : Option T) → Perhaps good o → Makes m (first_of T f o) First
    makes_first m None g = makes_done m None (λ S n. (tt, refl))
    makes_first m (Some x) g =
        makes_then m {T = λ S n a b. IsNext P first None → FormStands P S m n.form a b} (record { makes = λ s r. (goods x g).makes alone m s r }) (λ n.
        makes_then m (makes_pure m {Q = λ y. n.form ≡ node.Simple y} (simple_is n.span.start n.form)) (λ y.
        makes_done m (Some y) (λ S to at h from k. first_simple S m n.form y from to h.0 (subst (λ b. FormStands P S m n.form from b) h.1 (k tt)))))

  abbrev pub BlockT : ℕ → ℕ → ℕ → ℕ → ℕ → Type 0
  BlockT m S l a b = BlockStands P S m l a b

  -- the list of `else`, if there is one
  pub record OtherStands (m S : ℕ) (o : Option ℕ) (a b : ℕ) : Type 0 where
    pub nests : (d : ℕ) → b ≤ a + d → Stand P S a (one_if_any (inner P d) m o) b

  abbrev pub FormT : Position → ℕ → ℕ → NodeForm → ℕ → ℕ → Type 0
  FormT p m S x a b = IsNext P first p.next → FormStands P S m x a b

  computes : (m : ℕ) {p : Walking Expr} → Calms P first m 0 p (Computes P) → Makes m p (λ S x a b. Computes P S x × (a ≡ b))
  computes m h = makes_calm m h (λ s t le e k. computes_stays P s t le e k)

  test_stays : (s t : ℕ) → s ≤ t → (o : Option Expr) → IsTest P s o → IsTest P t o
  test_stays s t le o h = record { uses = there_stays P s t le (uses_of_test o) h.uses }

  -- ---- forms

  if_stands : (S m : ℕ) (f : Option Simple) (x : Expr) (l : ℕ) (k : Option ℕ) (a b c d : ℕ) → First S f a b → Computes P S x × (b ≡ c) → (to : ℕ) → BlockStands P S m l c d → OtherStands m S k d to → FormStands P S m (node.If f x l k) a to
  if_stands S m f x l k a b c d hf hx to hl hk = record {
    sound = record { uses = there_append P S (uses_of_first f) (uses x) hf.0 hx.0.there; within = tt };
    nests = λ i le.
        let same : a ≡ c = hf.1 ∙ hx.1 in
        let one' : c ≤ d = stand_le P S c (one (inner P d) m l) d (hl.nests d (omega arith)) in
        let two : d ≤ to = stand_le P S d (one_if_any (inner P to) m k) to (hk.nests to (omega arith)) in
        subst (λ n. Stand P S n (one (inner P i) m l ++ one_if_any (inner P i) m k) to) (sym same)
        (stand_join P S c (one (inner P i) m l) d (one_if_any (inner P i) m k) to (hl.nests i (omega arith)) (hk.nests i (omega arith)));
  }

  pub makes_if : (m : ℕ) (e : Written) (p : Position) {f : Walking (Option Simple)} {b : Walking ℕ} {o : Walking (Option ℕ)} → Makes m f First → Makes m b (BlockT m) → Makes m o (OtherStands m) → Makes m (if_parts e f b o) (FormT p m)
  unfolding if_parts
  makes_if m e p hf hb ho =
      makes_then m hf (λ f.
      makes_then m (computes m (heads.condition_does P first m 0 e)) (λ x.
      makes_then m hb (λ l.
      makes_then m ho (λ k.
      makes_done m (node.If f x l k) (λ S to d hk c hl b hx a hf next. if_stands S m f x l k a b c d hf hx to hl hk)))))

  for_stands : (S m : ℕ) (f : Option Simple) (x : Option Expr) (g : Option Simple) (l a b c d to : ℕ) → First S f a b → IsTest P S x × (b ≡ c) → First S g c d → BlockStands P S (suc m) l d to → FormStands P S m (node.For f x g l) a to
  for_stands S m f x g l a b c d to hf hx hg hl = record {
    sound = record { uses = there_append P S (uses_of_first f ++ uses_of_test x) (uses_of_first g) (there_append P S (uses_of_first f) (uses_of_test x) hf.0 hx.0.uses) hg.0; within = tt };
    nests = λ i le.
        let same : a ≡ d = hf.1 ∙ (hx.1 ∙ hg.1) in
        subst (λ n. Stand P S n (one (inner P i) (suc m) l) to) (sym same) (hl.nests i (omega arith));
  }

  pub makes_for : (m : ℕ) (e : Option Written) (p : Position) {f g : Walking (Option Simple)} {b : Walking ℕ} → Makes m f First → Makes m g First → Makes m b (BlockT (suc m)) → Makes m (for_parts e f g b) (FormT p m)
  unfolding for_parts
  makes_for m e p hf hg hb =
      makes_then m hf (λ f.
      makes_then m (makes_calm m (heads.condition_if_does P first m 0 e) test_stays) (λ x.
      makes_then m hg (λ g.
      makes_then m hb (λ l.
      makes_done m (node.For f x g l) (λ S to d hl c hg b hx a hf next. for_stands S m f x g l a b c d to hf hx hg hl)))))

  ranged_stays : (m s t : ℕ) → s ≤ t → (r : Rattle.go_types.specs.declared.given.Ranged.Ranged) → heads.IsRanged P first m s r → heads.IsRanged P first m t r
  ranged_stays m s t le r h = record { code = computes_stays P s t le r.code h.code; targets = each_more (IsTarget P s) (IsTarget P t) (target_stays P s t le) r.targets h.targets }

  range_stands : (S m : ℕ) (text : Bool) (ts : List Target) (x : Expr) (l a b to : ℕ) → Each (IsTarget P S) ts → Computes P S x → a ≡ b → BlockStands P S (suc m) l b to → FormStands P S m (range_node text ts x l) a to
  range_stands S m true ts x l a b to ht hx same hl = record {
    sound = record { uses = there_append P S (uses_of_target (target_at ts 0) ++ uses_of_target (target_at ts 1)) (uses x) (there_append P S (uses_of_target (target_at ts 0)) (uses_of_target (target_at ts 1)) (heads.target_there P S ts 0 ht) (heads.target_there P S ts 1 ht)) hx.there; within = tt };
    nests = λ i le. subst (λ n. Stand P S n (one (inner P i) (suc m) l) to) (sym same) (hl.nests i (omega arith));
  }
  range_stands S m false ts x l a b to ht hx same hl = record {
    sound = record { uses = there_append P S (uses_of_target (target_at ts 0)) (uses x) (heads.target_there P S ts 0 ht) hx.there; within = tt };
    nests = λ i le. subst (λ n. Stand P S n (one (inner P i) (suc m) l) to) (sym same) (hl.nests i (omega arith));
  }

  pub makes_range : (m at : ℕ) (ns : List Name) (e : Written) (p : Position) {b : Walking ℕ} → Makes m b (BlockT (suc m)) → Makes m (range_parts at ns e b) (FormT p m)
  unfolding range_parts
  makes_range m at ns e p hb =
      makes_then m (makes_calm m (heads.ranged_does P first m 0 at ns e) (ranged_stays m)) (λ r.
      makes_then m hb (λ l.
      makes_done m (range_node r.text r.targets r.code l) (λ S to b hl a hr next. range_stands S m r.text r.targets r.code l a b to hr.0.targets hr.0.code hr.1 hl)))

  pub makes_repeated : (m : ℕ) (label : Option ℕ) {b : Walking ℕ} → Makes (suc m) b (BlockT (suc m)) → Makes m (repeated label b) (BlockT (suc m))
  unfolding repeated
  makes_repeated m label h = makes_within m (record { label = label; repeats = true }) h

  pub makes_last : (m : ℕ) {f : Walking (Option Simple)} → Makes m f First → Makes m (last_part f) First
  unfolding last_part
  makes_last m h = makes_scoped m h

  pub makes_block_at : (m left : ℕ) (p : Position) {b : Walking ℕ} → Makes m b (BlockT m) → Makes m (block_at left p b) (FormT p m)
  makes_block_at m left p hb =
      makes_then m hb (λ l. makes_done m _ (λ S to a hl next. record { sound = record { uses = tt; within = tt }; nests = hl.nests }))

  pub makes_label : (m : ℕ) (n : Name) (p : Position) (f : Checks) → MakesStmt P first f → Makes m (labelled n p f) (FormT p m)
  makes_label m n p f h =
      makes_then m (makes_calm m {Q = λ k l. Unit {0}} named (λ s t le a q. tt)) (λ l.
      makes_then m {T = λ S x a b. FormT p m S x.form a b} (record { makes = λ s r. h.makes (bearing l p) m s r }) (λ x.
      makes_done m x.form (λ S to b hx a hl next. subst (λ k. FormStands P S m x.form k to) (sym hl.1) (hx next))))
    where
      named : Calms P first m 0 (new_label n) (λ k l. Unit {0})
      named = record { calms = λ s r le. sure_if _ (sure_err n.at source.BadLabel) (sure_ok _ (record { ready = record { known = r.known; unit = r.unit; around = r.around }; slots = omega arith; lists = refl; names = around_refl s.names }, tt)) }

  pub makes_flat : {F B C M O S : Type 0} (m at : ℕ) (p : Position) (x : StmtForm-F F B C M O S) → IsFit P first m x → Makes m (plain_form x at p) (FormT p m)
  makes_flat m at p x fit =
      makes_more m (makes_calm m (plain_does P first m 0 x at p fit) (λ s t le y h. record { uses = there_stays P s t le _ h.uses; within = h.within; none = h.none })) (λ S y a b h next.
      record { sound = record { uses = h.0.uses; within = h.0.within next }; nests = λ i le. subst (λ ns. Stand P S a ns b) (sym (h.0.none (inner P i) m)) h.1 })

  -- ---- `switch` and `select`

  length_numbers : (S m : ℕ) (ls : List ℕ) (a n to : ℕ) → to ≡ a + n → Stand P S a (map (nest m) ls) to → length ls ≡ n
  length_numbers S m ls a n to e h = omega (arith, stand_length P S a (map (nest m) ls) to h, length-map ls (nest m))

  typed_stays : (s t : ℕ) → s ≤ t → (x : Typed) → IsTyped P s x → IsTyped P t x
  typed_stays s t le x h = computes_stays P s t le x.code h

  pub record CasesStand (m S : ℕ) (xs : List CaseNode) (l to a b : ℕ) : Type 0 where
    pub uses : AreThere P S (flat_map (λ (c : CaseNode). uses_of_values c.values) xs)
    pub stand : ClausesStand P S (suc m) (map (λ (c : CaseNode). c.list) xs) l to a b

  switch_stands : (S m n : ℕ) (f : Option Simple) (x : Expr) (xs : List CaseNode) (a b c to : ℕ) → First S f a b → Computes P S x → b ≡ c → CasesStand m S xs c (c + n) (c + n) to → FormStands P S m (node.Switch f x xs) a to
  switch_stands S m n f x xs a b c to hf hx e h = record {
    sound = record { uses = there_append P S (uses_of_first f ++ uses x) _ (there_append P S (uses_of_first f) (uses x) hf.0 hx.there) h.uses; within = tt };
    nests = λ i le.
        let same : a ≡ c = hf.1 ∙ e in
        subst (λ k. Stand P S k (clauses (inner P i) (suc m) (map (λ (c : CaseNode). c.list) xs)) to) (sym same)
        (clauses_join P S (suc m) (map (λ (c : CaseNode). c.list) xs) c (c + n) to h.stand i (omega arith));
  }

  module _ (C : Type 0) (parts : C → CaseParts) (good : C → Type 0) (goods : (c : C) → good c → MakesCase P first (parts c)) where
    pub makes_switch : (m at : ℕ) (p : Position) (e : Option Written) (cs : List C) {f : Walking (Option Simple)} → Each good cs → Makes m f First
        → Makes m (switch_parts p.label (length cs) e f (λ t l. clauses_of C parts at t l none_seen cs)) (FormT p m)
    unfolding switch_parts
    makes_switch m at p e cs g hf =
        makes_then m hf (λ f.
        makes_then m (makes_calm m (heads.tag_does P first m 0 e) typed_stays) (λ t.
        record {
          makes = λ s r. (makes_then m {U = λ S y b to. (a : ℕ) → IsTyped P S t × (a ≡ b) → (o : ℕ) → First S f o a → FormT p m S y o to} (numbers t.of) (λ xs.
              makes_done m (node.Switch f t.code xs) (λ S to c h b ht a ha next. switch_stands S m (length cs) f t.code xs a b c to ha ht.0 ht.1 h))).makes s r;
        }))
      where
        numbers : (t : ValueType) → Makes m (new_lists (length cs) >>> (λ l. within (record { label = p.label; repeats = false }) (clauses_of C parts at t l none_seen cs))) (λ S xs a b. CasesStand m S xs a (a + length cs) (a + length cs) b)
        numbers t = makes_numbers m (length cs) (record { label = p.label; repeats = false }) (λ l. clauses_of C parts at t l none_seen cs) (λ S xs l to a b. CasesStand m S xs l to a b)
            (λ l s r le. sure_more (cases_made P first C parts good goods at t l none_seen cs (l + length cs) refl g (suc m) s r le) (λ x q. (q.0, λ S f has bound. record { uses = q.1 S f; stand = q.2 S f has bound })))

  pub record CommsStand (m S : ℕ) (xs : List CommNode) (l to a b : ℕ) : Type 0 where
    pub uses : AreThere P S (flat_map (λ (c : CommNode). uses_of_comm c.comm) xs)
    pub stand : ClausesStand P S (suc m) (map (λ (c : CommNode). c.list) xs) l to a b

  select_stands : (S m n : ℕ) (xs : List CommNode) (a to : ℕ) → n ≤ 1000 → CommsStand m S xs a (a + n) (a + n) to → FormStands P S m (node.Select xs) a to
  select_stands S m n xs a to few h = record {
    sound = record { uses = h.uses; within = omega (arith, length_numbers S (suc m) (map (λ (c : CommNode). c.list) xs) a n (a + n) refl h.stand.numbers, length-map xs (λ (c : CommNode). c.list)) };
    nests = λ i le. clauses_join P S (suc m) (map (λ (c : CommNode). c.list) xs) a (a + n) to h.stand i le;
  }

  module _ (M : Type 0) (parts : M → CommParts) (good : M → Type 0) (goods : (c : M) → good c → MakesComm P first (parts c)) where
    pub makes_select : (m at : ℕ) (p : Position) (ms : List M) → length ms ≤ 1000 → Each good ms → Makes m (select_parts p.label (length ms) (λ l. comm_clauses_of M parts at l none_seen ms)) (FormT p m)
    unfolding select_parts
    makes_select m at p ms few g =
        record { makes = λ s r. (makes_then m {U = FormT p m} numbers (λ xs. makes_done m (node.Select xs) (λ S to a h next. select_stands S m (length ms) xs a to few h))).makes s r }
      where
        numbers : Makes m (new_lists (length ms) >>> (λ l. within (record { label = p.label; repeats = false }) (comm_clauses_of M parts at l none_seen ms))) (λ S xs a b. CommsStand m S xs a (a + length ms) (a + length ms) b)
        numbers = makes_numbers m (length ms) (record { label = p.label; repeats = false }) (λ l. comm_clauses_of M parts at l none_seen ms) (λ S xs l to a b. CommsStand m S xs l to a b)
            (λ l s r le. sure_more (comms_made P first M parts good goods at l none_seen ms (l + length ms) refl g (suc m) s r le) (λ x q. (q.0, λ S f has bound. record { uses = q.1 S f; stand = q.2 S f has })))
