-- Forms of statements without lists in them.
use Rattle.std.proofs.Common.{◌≡◌, ℕ, ◌+◌, ◌<◌, ◌≤◌, Bool, true, false, cond, List, [], ◌∷◌, length, reverse, Option, Some, None, refl, sym, ◌∙◌, subst, arith, position}
use Rattle.std.specs.List.{position_or_len}
use borrow.Author.Tests.{ltb-true}
use Rattle.std.specs.Prelude.{nat_lt}
use mathlib.Core.List.{reverse_aux}
use Rattle.go_ast.specs.declared.kind.SourceKind.TheVariants as source
use Rattle.go_ast.specs.declared.name.Name.{Name}
use Rattle.go_ast.specs.declared.block.StmtForm.TheOpen.{StmtForm-F}
use Rattle.go_value.specs.declared.operation.IntOp.TheVariants as int
use Rattle.go_meaning.specs.declared.node.NodeForm.{NodeForm}
use Rattle.go_meaning.specs.declared.node.NodeForm.TheVariants as node
use Rattle.go_meaning.specs.Programs.{Parts}
use Rattle.go_meaning.specs.Lists.{Walk as Nesting, nested_in}
use Rattle.go_meaning.specs.WellFormed.{AreThere, IsWithin, uses_of_form}
use Rattle.go_types.specs.declared.operator.Operator.TheVariants.{Arithmetic}
use Rattle.go_types.specs.declared.walk.Enclosing.{Enclosing}
use Rattle.go_types.specs.declared.walk.Position.{Position}
use Rattle.go_types.specs.Walking.{◌>>>◌, done}
use Rattle.go_types.specs.Scopes.{label_at, innermost, bearing, found, jump_label, jump}
use Rattle.go_types.specs.Bodies.{fall, simple_form, plain_form}
use Rattle.go_bounds.proofs.Sure.{Sure, sure_ok, sure_err, sure_then}
use Rattle.go_bounds.proofs.Uses.{there_stays}
use Rattle.go_bounds.proofs.Naming.{Perhaps}
use Rattle.go_bounds.proofs.Calm.{around_refl, Calms, calm_then, calm_done, calm_pure, calm_stop, calm_more}
use Rattle.go_bounds.proofs.Simples as simples
use Rattle.go_bounds.proofs.Simples.{IsSimple, IsPlain, simple_stays}

-- ---- where `break` leads

below : (n m : ℕ) (b : Bool) → nat_lt n m ≡ b → Perhaps (λ k. k < m) (cond b (Some n) None)
below n m true e = omega (arith, ltb-true n m e)
below n m false e = tt

position_below : {A : Type 0} (t : A → Bool) (xs : List A) → Perhaps (λ k. k < length xs) (position t xs)
position_below t xs = below (position_or_len t xs) (length xs) (nat_lt (position_or_len t xs) (length xs)) refl

reversed : {A : Type 0} (xs ys : List A) → length (reverse_aux xs ys) ≡ length xs + length ys
reversed [] ys = omega arith
reversed (x ∷ xs) ys = reversed xs (x ∷ ys) ∙ more
  where
    more : length xs + length (x ∷ ys) ≡ length (x ∷ xs) + length ys
    more = omega arith

module _ (P : Parts) (first marks : ℕ) where
  around_below : (t : Enclosing → Bool) (es : List Enclosing) → length es ≡ marks → Perhaps (λ k. k < marks) (position t (reverse es))
  around_below t es e = by (position t (reverse es)) (position_below t (reverse es)) (reversed es [])
    where
      by : (o : Option ℕ) → Perhaps (λ k. k < length (reverse es)) o → length (reverse es) ≡ length es + 0 → Perhaps (λ k. k < marks) o
      by None h q = tt
      by (Some k) h q = omega arith

  found_sure : (at : ℕ) (o : Option ℕ) → Perhaps (λ k. k < marks) o → Sure (found at o) (λ k. k < marks)
  found_sure at None h = sure_err at source.BadLabel
  found_sure at (Some k) h = sure_ok k h

  labelled_jump : (n : ℕ) (must : Bool) (x : Name) (o : Option ℕ) → Calms P first marks n (jump_label must x o) (λ m k. k < marks)
  labelled_jump n must x None = calm_stop P first marks x.at source.BadLabel
  labelled_jump n must x (Some l) = record {
    calms = λ s r le.
        sure_then (found_sure x.at (bearing must l s.around) (around_below _ s.around r.around)) (λ k h.
        sure_ok _ (record { ready = record { known = r.known; unit = r.unit; around = r.around }; slots = omega arith; lists = refl; names = around_refl s.names }, h));
  }

  jump_does : (n : ℕ) (must : Bool) (at : ℕ) (o : Option Name) → Calms P first marks n (jump must at o) (λ m k. k < marks)
  unfolding jump
  jump_does n must at None = record {
    calms = λ s r le.
        sure_then (found_sure at (innermost must s.around) (around_below _ s.around r.around)) (λ k h.
        sure_ok (k, s) (record { ready = r; slots = omega arith; lists = refl; names = around_refl s.names }, h));
  }
  jump_does n must at (Some x) = record { calms = λ s r le. (labelled_jump n must x (label_at x.text s.labels)).calms s r le }

  -- ---- forms

  abbrev pub HasNext : Position → Type 0
  HasNext p = Perhaps (λ l. l < length P.lists) p.next

  -- a form without lists in it, at a place
  pub record IsFlat (p : Position) (n : ℕ) (x : NodeForm) : Type 0 where
    pub uses : AreThere P n (uses_of_form x)
    pub within : HasNext p → IsWithin P marks x
    pub none : (w : Nesting) (m : ℕ) → nested_in w m x ≡ []

  simple_does : {F B C M O S : Type 0} (n : ℕ) (x : StmtForm-F F B C M O S) (at : ℕ) → Calms P first marks n (simple_form x at) (IsSimple P)
  unfolding simple_form
  simple_does n (StmtForm-F.Eval e) at = simples.eval_does P first marks n at e
  simple_does n (StmtForm-F.Send e f) at = simples.send_does P first marks n e f
  simple_does n (StmtForm-F.Up t) at = simples.step_does P first marks n at t (Arithmetic int.Add)
  simple_does n (StmtForm-F.Down t) at = simples.step_does P first marks n at t (Arithmetic int.Sub)
  simple_does n (StmtForm-F.Update t o e) at = simples.update_does P first marks n at t o e
  simple_does n (StmtForm-F.Assign ts es) at = simples.assign_does P first marks n at ts es
  simple_does n (StmtForm-F.Define ns es) at = simples.define_does P first marks n at ns es
  simple_does n x at = calm_stop P first marks at source.BadCall

  fall_sure : (p : Position) (n at : ℕ) (o : Option ℕ) → o ≡ p.next → Sure (fall at o) (IsFlat p n)
  fall_sure p n at (Some l) e = sure_ok _ (record { uses = tt; within = λ h. subst (Perhaps (λ l. l < length P.lists)) (sym e) h; none = λ w m. refl })
  fall_sure p n at None e = sure_err at source.BadLabel

  -- a counter is that of a unit, and a `select` is short enough
  abbrev pub IsFit : {F B C M O S : Type 0} → StmtForm-F F B C M O S → Type 0
  IsFit (StmtForm-F.Count u) = first + u < P.units
  IsFit (StmtForm-F.Select left ms) = length ms ≤ 1000
  IsFit x = Unit {0}

  by_simple : {F B C M O S : Type 0} (n : ℕ) (x : StmtForm-F F B C M O S) (at : ℕ) (p : Position) → Calms P first marks n (simple_form x at >>> (λ y. done (node.Simple y))) (IsFlat p)
  by_simple n x at p = calm_then P first marks (simple_does n x at) (λ y m le h. calm_done P first marks (node.Simple y) (λ k z. record { uses = (simple_stays P m k z y h).uses; within = λ q. tt; none = λ w j. refl }))

  of_plain : (p : Position) (n : ℕ) (x : NodeForm) → IsPlain P n x → IsFlat p n x
  of_plain p n x h = record { uses = h.uses; within = λ q. h.within marks; none = h.none }

  pub plain_does : {F B C M O S : Type 0} (n : ℕ) (x : StmtForm-F F B C M O S) (at : ℕ) (p : Position) → IsFit x → Calms P first marks n (plain_form x at p) (IsFlat p)
  unfolding plain_form
  plain_does n (StmtForm-F.Const cs) at p fit = calm_then P first marks (simples.consts_do P first marks n cs) (λ u m le h. calm_done P first marks node.Const (λ k z. record { uses = tt; within = λ q. tt; none = λ w j. refl }))
  plain_does n (StmtForm-F.Var vs) at p fit = calm_then P first marks (simples.vars_do P first marks n at vs) (λ as' m le h. calm_done P first marks (node.Var as') (λ k z. record { uses = there_stays P m k z _ h; within = λ q. tt; none = λ w j. refl }))
  plain_does n (StmtForm-F.Return es) at p fit = calm_more P first marks (simples.return_does P first marks n at es) (λ m x le h. of_plain p m x h)
  plain_does n (StmtForm-F.Break o) at p fit = calm_then P first marks (jump_does n false at o) (λ k m le h. calm_done P first marks (node.Break k) (λ j z. record { uses = tt; within = λ q. h; none = λ w i. refl }))
  plain_does n (StmtForm-F.Continue o) at p fit = calm_then P first marks (jump_does n true at o) (λ k m le h. calm_done P first marks (node.Continue k) (λ j z. record { uses = tt; within = λ q. h; none = λ w i. refl }))
  plain_does n StmtForm-F.Fallthrough at p fit = calm_pure P first marks (λ k z. fall_sure p k at p.next refl)
  plain_does n (StmtForm-F.Go e) at p fit = calm_more P first marks (simples.go_does P first marks n at e) (λ m x le h. of_plain p m x h)
  plain_does n (StmtForm-F.Defer e) at p fit = calm_more P first marks (simples.defer_does P first marks n at e) (λ m x le h. of_plain p m x h)
  plain_does n (StmtForm-F.Count u) at p fit = record {
    calms = λ s r le.
        sure_ok _ (record { ready = r; slots = omega arith; lists = refl; names = around_refl s.names }, record { uses = tt; within = λ q. omega (arith, r.unit, fit); none = λ w j. refl });
  }
  plain_does n (StmtForm-F.Eval e) at p fit = by_simple n (StmtForm-F.Eval e) at p
  plain_does n x at p fit = by_simple n x at p
