-- What an expression is found to be is there.
use Rattle.std.proofs.Common.{ℕ, Bool, true, false, List, [], ◌∷◌, Option, Some, None, sym, ap, subst}
use denote.Hole.Holds.{Such}
use Rattle.go_ast.specs.declared.kind.SourceKind.TheVariants.{WrongType}
use Rattle.go_ast.specs.declared.expr.TypeExpr.{TypeExpr}
use Rattle.go_ast.specs.declared.expr.Expr.{Expr, fold-Expr, ind-Expr, fold_out-Expr}
use Rattle.go_ast.specs.declared.expr.ExprForm.{ExprForm, fold-ExprForm, roll-ExprForm, fold-roll-ExprForm}
use Rattle.go_ast.specs.declared.expr.ExprForm.TheOpen.{ExprForm-F, Expr-F}
use Rattle.go_ast.specs.declared.expr.ExprForm.TheFolds.{map-ExprForm, map-Expr, claims}
use Rattle.go_ast.specs.declared.expr.ExprForm.TheShapes.{former-ExprForm-Call-1}
use Rattle.go_ast.specs.declared.expr.ExprForm.TheBlock.{the_family, member-ExprForm, member-Expr}
use Rattle.go_ast.specs.declared.expr.ExprForm.TheViews.{roll-Expr}
use Rattle.go_meaning.specs.Programs.{Parts}
use Rattle.go_types.specs.declared.names.Callee.{Callee}
use Rattle.go_types.specs.declared.names.Callee.TheVariants as callees
use Rattle.go_types.specs.declared.names.Meaning.{Meaning}
use Rattle.go_types.specs.declared.names.Meaning.TheVariants as meaning
use Rattle.go_types.specs.declared.names.Names.{Names}
use Rattle.go_types.specs.declared.operand.Term.{Term}
use Rattle.go_types.specs.declared.operand.Operand.{Operand}
use Rattle.go_types.specs.declared.operand.Operand.TheVariants as operand
use Rattle.go_types.specs.declared.operand.Part.{Part}
use Rattle.go_types.specs.declared.operand.Argument.{Argument}
use Rattle.go_types.specs.Checking.{Checked, ◌>>=◌, lift, fail}
use Rattle.go_types.specs.Operands as rules
use Rattle.go_types.specs.Expressions.{type_of, noted, Finding, term_at, operand_at, leaf, allowed, value_of, values_of, bound_of, parts_of, call_of, layer, check}
use Rattle.go_bounds.specs.Known.{Each, IsMeant, IsTerm, IsOperand, IsCallable, AreKnown}
use Rattle.go_bounds.proofs.Sure.{Sure, Finds, sure_ok, sure_then, sure_any, finds_then, finds_pure, finds_lift, finds_fail}
use Rattle.go_bounds.proofs.Uses.{c_variable}
use Rattle.go_bounds.proofs.Naming as naming
use Rattle.go_bounds.proofs.Naming.{Perhaps}
use Rattle.go_bounds.proofs.Operands as operands
use Rattle.go_bounds.proofs.Calls as calls

module _ (P : Parts) (slots : ℕ) where
  abbrev IsPart : Part → Type 0
  IsPart = operands.IsPart P slots

  abbrev IsArgument : Argument → Type 0
  IsArgument = operands.IsArgument P slots

  -- an expression is found to be something that is there, among names that are known
  pub record IsFound (f : Finding) : Type 0 where
    pub finds : (names : Names) → AreKnown P slots names → Finds (f names) IsPart

  any_type : (t : TypeExpr) (ns : Names) → Finds (type_of t ns) (λ u. Unit {0})
  any_type t ns = record { sure = λ m. record { holds = λ r e. tt } }

  part_sure : (at : ℕ) (r : Checked Term) → Sure r (IsTerm P slots) → Finds (term_at at r) IsPart
  part_sure at r h = finds_lift (sure_then h (λ t k. sure_ok _ k))

  operand_sure : (at : ℕ) (r : Checked Operand) → Sure r (IsOperand P slots) → Finds (operand_at at r) IsPart
  operand_sure at r h = finds_lift (sure_then h (λ t k. sure_ok _ k))

  noted_finds : (names : Names) → AreKnown P slots names → (m : Meaning) → IsMeant P slots m → Finds (noted m) (IsOperand P slots)
  noted_finds names k (meaning.Constant c d) h = finds_pure _ tt
  noted_finds names k meaning.Nil h = finds_pure _ tt
  noted_finds names k (meaning.Variable x t) h = finds_then (naming.finds_read P slots names k x) (λ u v. finds_pure _ (c_variable P slots x h).there)
  noted_finds names k (meaning.Type t) h = finds_pure _ tt
  noted_finds names k (meaning.Callee c) h = finds_pure _ h
  noted_finds names k m h = finds_pure _ tt

  allowed_sure : (b : Bool) (p : Part) → IsPart p → Sure (allowed b p) IsPart
  allowed_sure true p h = sure_ok p h
  allowed_sure false p h = operands.valued_part_sure P slots p h

  leaf_found : {F E : Type 0} (x : ExprForm-F F E) (at : ℕ) → IsFound (leaf x at)
  leaf_found (ExprForm-F.Int b) at = record { finds = λ ns k. finds_then (finds_lift (sure_any _)) (λ c u. finds_pure _ tt) }
  leaf_found (ExprForm-F.Rune c) at = record { finds = λ ns k. finds_pure _ tt }
  leaf_found (ExprForm-F.Text s) at = record { finds = λ ns k. finds_pure _ tt }
  leaf_found (ExprForm-F.Plain n) at = record { finds = λ ns k. finds_then (finds_then (finds_lift (naming.meaning_sure P slots ns k n)) (noted_finds ns k)) (λ o h. finds_pure _ h) }
  leaf_found (ExprForm-F.Member p n) at = record { finds = λ ns k. finds_then (finds_then (naming.finds_member P slots ns k p n) (noted_finds ns k)) (λ o h. finds_pure _ h) }
  leaf_found (ExprForm-F.Chan t) at = record { finds = λ ns k. finds_then (any_type t ns) (λ u h. finds_pure _ tt) }
  leaf_found x at = record { finds = λ ns k. finds_fail at WrongType }

  module _ (E : Type 0) (f : E → Finding) (good : E → Type 0) (goods : (e : E) → good e → IsFound (f e)) where
    pub value_finds : (e : E) → good e → (ns : Names) → AreKnown P slots ns → Finds (value_of E f e ns) IsArgument
    value_finds e g ns k = finds_then ((goods e g).finds ns k) (λ p h. finds_lift (operands.value_sure P slots p h))

    pub values_find : (es : List E) → Each good es → (ns : Names) → AreKnown P slots ns → Finds (values_of E f es ns) (Each IsArgument)
    values_find [] g ns k = finds_pure [] tt
    values_find (e ∷ es) g ns k = finds_then (value_finds e g.0 ns k) (λ a h. finds_then (values_find es g.1 ns k) (λ as' hs. finds_pure (a ∷ as') (h, hs)))

    bound_finds : (o : Option E) → Perhaps good o → (ns : Names) → AreKnown P slots ns → Finds (bound_of E f o ns) (Perhaps IsArgument)
    bound_finds None g ns k = finds_pure None tt
    bound_finds (Some e) g ns k = finds_then (value_finds e g ns k) (λ a h. finds_pure (Some a) h)

    parts_find : (b : Bool) (es : List E) → Each good es → (ns : Names) → AreKnown P slots ns → Finds (parts_of E f b es ns) (Each IsPart)
    parts_find b [] g ns k = finds_pure [] tt
    parts_find b (e ∷ es) g ns k =
        finds_then (finds_then ((goods e g.0).finds ns k) (λ p h. finds_lift (allowed_sure b p h))) (λ p h.
        finds_then (parts_find false es g.1 ns k) (λ ps hs. finds_pure (p ∷ ps) (h, hs)))

    called_finds : (at at' : ℕ) (c : Callee) → IsCallable P slots c → (es : List E) → Each good es → (ns : Names) → AreKnown P slots ns → Finds (values_of E f es ns >>= (λ as'. operand_at at (rules.call ns.signatures at' c as'))) IsPart
    called_finds at at' c h es g ns k = finds_then (values_find es g ns k) (λ as' hs. operand_sure at _ (calls.call_sure P slots ns.signatures at' c as' h hs))

    refused_finds : (at at' : ℕ) (o : Operand) (es : List E) (ns : Names) → Finds (lift (rules.valued at' o) >>= (λ _. values_of E f es ns >>= (λ _. fail at' WrongType))) IsPart
    refused_finds at at' o es ns = finds_then (finds_lift (sure_any _)) (λ a u. finds_then any (λ as' v. finds_fail at' WrongType))
      where
        any : Finds (values_of E f es ns) (λ u. Unit {0})
        any = record { sure = λ m. record { holds = λ r e. tt } }

    call_finds : (at at' : ℕ) (o : Operand) → IsOperand P slots o → (es : List E) → Each good es → (ns : Names) → AreKnown P slots ns → Finds (call_of E f at at' o es ns) IsPart
    call_finds at at' (operand.Type t) h es g ns k = finds_then (values_find es g ns k) (λ as' hs. operand_sure at _ (calls.call_type_sure P slots at at' t as' hs))
    call_finds at at' (operand.Callee callees.Make) h es g ns k = finds_then (parts_find true es g ns k) (λ ps hs. part_sure at _ (calls.make_sure P slots at' ps hs))
    call_finds at at' (operand.Callee c) h es g ns k = called_finds at at' c h es g ns k
    call_finds at at' o h es g ns k = refused_finds at at' o es ns

    -- what each layer has to be given
    abbrev Given : {F : Type 0} → ExprForm-F F E → Type 0
    Given (ExprForm-F.Binary o a b) = good a × good b
    Given (ExprForm-F.Unary o a) = good a
    Given (ExprForm-F.Call e es) = good e × Each good es
    Given (ExprForm-F.Index s i) = good s × good i
    Given (ExprForm-F.Cut s low high) = good s × Perhaps good low × Perhaps good high
    Given (ExprForm-F.Paren e) = good e
    Given x = Unit {0}

    layer_found : {F : Type 0} (x : ExprForm-F F E) (at : ℕ) → Given x → IsFound (layer E f x at)
    layer_found (ExprForm-F.Binary o a b) at g = record {
      finds = λ ns k.
          finds_then (value_finds a g.0 ns k) (λ x h. finds_then (value_finds b g.1 ns k) (λ y l. part_sure at _ (operands.binary_sure P slots at _ x y h l)));
    }
    layer_found (ExprForm-F.Unary o a) at g = record { finds = λ ns k. finds_then (value_finds a g ns k) (λ x h. part_sure at _ (operands.unary_sure P slots at o x h)) }
    layer_found (ExprForm-F.Call e es) at g = record { finds = λ ns k. finds_then ((goods e g.0).finds ns k) (λ p h. call_finds at p.at p.operand h es g.1 ns k) }
    layer_found (ExprForm-F.Index s i) at g = record {
      finds = λ ns k.
          finds_then (value_finds s g.0 ns k) (λ x h. finds_then (value_finds i g.1 ns k) (λ y l. part_sure at _ (operands.index_sure P slots at x y h l)));
    }
    layer_found (ExprForm-F.Cut s low high) at g = record {
      finds = λ ns k.
          finds_then (value_finds s g.0 ns k) (λ x h. finds_then (bound_finds low g.1 ns k) (λ i l. finds_then (bound_finds high g.2 ns k) (λ j m. part_sure at _ (operands.cut_sure P slots at x i j h l m))));
    }
    layer_found (ExprForm-F.Paren e) at g = goods e g
    layer_found {F} (ExprForm-F.Int b) at g = leaf_found {F = F} {E = E} (ExprForm-F.Int b) at
    layer_found {F} (ExprForm-F.Rune c) at g = leaf_found {F = F} {E = E} (ExprForm-F.Rune c) at
    layer_found {F} (ExprForm-F.Text s) at g = leaf_found {F = F} {E = E} (ExprForm-F.Text s) at
    layer_found {F} (ExprForm-F.Plain n) at g = leaf_found {F = F} {E = E} (ExprForm-F.Plain n) at
    layer_found {F} (ExprForm-F.Member p n) at g = leaf_found {F = F} {E = E} (ExprForm-F.Member p n) at
    layer_found {F} (ExprForm-F.Chan t) at g = leaf_found {F = F} {E = E} (ExprForm-F.Chan t) at

  -- ---- every tree

  abbrev foldF : ExprForm → ℕ → Finding
  foldF = fold-ExprForm (ℕ → Finding) Finding (layer Finding (λ m. m)) (λ e. e.form e.span.start)

  abbrev foldE : Expr → Finding
  foldE = fold-Expr (ℕ → Finding) Finding (layer Finding (λ m. m)) (λ e. e.form e.span.start)

  abbrev A : ExprForm → Type 0
  A x = (at : ℕ) → IsFound (foldF x at)

  abbrev B : Expr → Type 0
  B e = IsFound (foldE e)

  abbrev SuchF : Type 0
  SuchF = Such the_family (claims A B) member-ExprForm

  abbrev SuchE : Type 0
  SuchE = Such the_family (claims A B) member-Expr

  abbrev Lay : ExprForm-F (ℕ → Finding) Finding → Type 0
  Lay x = Given Finding (λ m. m) IsFound (λ e g. g) x

  at_roll : (x : ExprForm-F ExprForm Expr) → Lay (map-ExprForm ExprForm Expr (ℕ → Finding) Finding foldF foldE x) → A (roll-ExprForm x)
  at_roll x g at =
      subst IsFound (sym (ap (λ (m : ℕ → Finding). m at) (fold-roll-ExprForm (ℕ → Finding) Finding (layer Finding (λ m. m)) (λ e. e.form e.span.start) x)))
      (layer_found Finding (λ m. m) IsFound (λ e g. g) (map-ExprForm ExprForm Expr (ℕ → Finding) Finding foldF foldE x) at g)

  eaches : (es : List SuchE) → Each IsFound ((former-ExprForm-Call-1).map Expr Finding foldE ((former-ExprForm-Call-1).map SuchE Expr (λ e. e.0) es))
  eaches [] = tt
  eaches (e ∷ es) = (e.1, eaches es)

  made : (y : ExprForm-F SuchF SuchE) → A (roll-ExprForm (map-ExprForm SuchF SuchE ExprForm Expr (λ e. e.0) (λ e. e.0) y))
  made (ExprForm-F.Binary o a b) = at_roll (ExprForm-F.Binary o a.0 b.0) (a.1, b.1)
  made (ExprForm-F.Unary o a) = at_roll (ExprForm-F.Unary o a.0) a.1
  made (ExprForm-F.Call e es) = at_roll (ExprForm-F.Call e.0 ((former-ExprForm-Call-1).map SuchE Expr (λ e. e.0) es)) (e.1, eaches es)
  made (ExprForm-F.Index s i) = at_roll (ExprForm-F.Index s.0 i.0) (s.1, i.1)
  made (ExprForm-F.Cut s None None) = at_roll (ExprForm-F.Cut s.0 None None) (s.1, tt, tt)
  made (ExprForm-F.Cut s None (Some j)) = at_roll (ExprForm-F.Cut s.0 None (Some j.0)) (s.1, tt, j.1)
  made (ExprForm-F.Cut s (Some i) None) = at_roll (ExprForm-F.Cut s.0 (Some i.0) None) (s.1, i.1, tt)
  made (ExprForm-F.Cut s (Some i) (Some j)) = at_roll (ExprForm-F.Cut s.0 (Some i.0) (Some j.0)) (s.1, i.1, j.1)
  made (ExprForm-F.Int b) = at_roll (ExprForm-F.Int b) tt
  made (ExprForm-F.Rune c) = at_roll (ExprForm-F.Rune c) tt
  made (ExprForm-F.Text s) = at_roll (ExprForm-F.Text s) tt
  made (ExprForm-F.Plain n) = at_roll (ExprForm-F.Plain n) tt
  made (ExprForm-F.Member p n) = at_roll (ExprForm-F.Member p n) tt
  made (ExprForm-F.Chan t) = at_roll (ExprForm-F.Chan t) tt
  made (ExprForm-F.Paren e) = at_roll (ExprForm-F.Paren e.0) e.1

  made_expr : (y : Expr-F SuchF SuchE) → B (roll-Expr (map-Expr SuchF SuchE ExprForm Expr (λ e. e.0) (λ e. e.0) y))
  made_expr y =
      let x = roll-Expr (map-Expr SuchF SuchE ExprForm Expr (λ e. e.0) (λ e. e.0) y) in
      subst IsFound (sym (fold_out-Expr (ℕ → Finding) Finding (layer Finding (λ m. m)) (λ e. e.form e.span.start) x)) (y.form.1 y.span.start)

  pub check_found : (e : Expr) → IsFound (check e)
  unfolding check
  check_found e = ind-Expr A B (λ x y e. subst (λ (z : ExprForm-F ExprForm Expr). A (roll-ExprForm z)) e (made y)) (λ x y e. subst (λ (z : Expr-F ExprForm Expr). B (roll-Expr z)) e (made_expr y)) e

  pub check_value_finds : (e : Expr) (ns : Names) → AreKnown P slots ns → Finds (value_of Expr check e ns) IsArgument
  check_value_finds e ns k = value_finds Expr check (λ e. IsFound (check e)) (λ e g. g) e (check_found e) ns k

  all_found : (es : List Expr) → Each (λ e. IsFound (check e)) es
  all_found [] = tt
  all_found (e ∷ es) = (check_found e, all_found es)

  pub check_values_find : (es : List Expr) (ns : Names) → AreKnown P slots ns → Finds (values_of Expr check es ns) (Each IsArgument)
  check_values_find es ns k = values_find Expr check (λ e. IsFound (check e)) (λ e g. g) es (all_found es) ns k
