-- The spans of statements without lists in them.
use Rattle.std.proofs.Common.{◌≡◌, ℕ, ◌<◌, ◌≤◌, Bool, true, false, List, [], ◌∷◌, ◌++◌, Option, Some, None, refl, sym, ap, ◌∙◌, subst, arith}
use Rattle.go_ast.specs.declared.token.TokenKind.TheVariants as kind
use Rattle.go_ast.specs.declared.expr.TypeExpr.{TypeExpr}
use Rattle.go_ast.specs.declared.expr.ExprForm.{out-ExprForm}
use Rattle.go_ast.specs.declared.block.ConstSpec.{ConstSpec}
use Rattle.go_ast.specs.declared.block.VarSpec.{VarSpec}
use Rattle.go_ast.specs.declared.block.Target.{Target}
use Rattle.go_ast.specs.declared.block.Stmt.{Stmt}
use Rattle.go_ast.specs.declared.block.StmtForm.{StmtForm, out-StmtForm}
use Rattle.go_ast.specs.declared.block.StmtForm.TheVariants as stmt
use Rattle.go_ast.specs.declared.expr.BinaryOp.{BinaryOp}
use Rattle.go_ast.specs.declared.expr.BinaryOp.TheVariants as op
use Rattle.go_ast.specs.declared.token.TokenKind.{TokenKind}
use Rattle.go_grammar.specs.Words.{Word}
use Rattle.go_grammar.specs.Terminals as t
use Rattle.go_grammar.specs.Lists.{IsRow, IsGroup, MayBe}
use Rattle.go_grammar.specs.Lists as lists
use Rattle.go_grammar.specs.Types.{IsMaybeType, no_type, some_type}
use Rattle.go_grammar.specs.Simple as simple
use Rattle.go_grammar.specs.Simple.{IsConstSpec, IsVarSpec, IsTarget, IsTargets, IsSimple}
use Rattle.go_grammar.specs.Trees.{stmt_node, stmt_end, expr_start, expr_end, exprs_end, option_end, const_end, var_end, target_start, targets_start, update_kind}
use Rattle.cov_cut.specs.Outline.{Node, mark_of, Lists, no_list}
use Rattle.cov_cut.specs.Outlining.{Shape, evaluated, is_panic, node_of, outline}
use Rattle.cov_cut.specs.Layers.{form_layer}
use Rattle.cov_cut.specs.Placement.{IsMark, IsNode, AreLists}
use Rattle.cov_cut.proofs.Opened.{outline_is, form_is}
use Rattle.cov_cut.proofs.Spread.{is_semicolon, Spread, spread_le, halves, opened, Between, EndsIn, StartsIn}
use Rattle.cov_cut.proofs.ExprSpans.{type_in, names_in, expr_in, exprs_in}

-- a statement in a part of a text, with the lists in it in their places
pub record Placed (low high : ℕ) (n : Node) : Type 0 where
  pub from : low ≤ (mark_of n).start
  pub mark : IsMark (mark_of n)
  pub upto : (mark_of n).stop ≤ high
  pub inside : IsNode n

pub node_outline : (start end : ℕ) (form : StmtForm) → outline (stmt_node start end form) ≡ node_of start end (form_layer (out-StmtForm form))
unfolding stmt_node
node_outline start end form = outline_is (stmt_node start end form) ∙ ap (node_of start end) (form_is form)

pub stops : (x : Stmt) → (mark_of (outline x)).stop ≡ stmt_end x
stops x = ap (λ n. (mark_of n).stop) (outline_is x)

-- a shape without lists
abbrev pub quiet : Bool → Shape
quiet b = record { boundary = None; breaks = b; together = false; inside = no_list }

pub leaf_placed : (low high start end : ℕ) (form : StmtForm) (b : Bool) → form_layer (out-StmtForm form) ≡ quiet b → Between low high start end → Placed low high (outline (stmt_node start end form))
leaf_placed low high start end form b e w =
    subst (Placed low high) (sym (node_outline start end form ∙ ap (node_of start end) e))
    (record { from = w.from; mark = record { some = w.some; from = omega (arith, w.some); upto = omega arith }; upto = w.upto; inside = tt })

-- a shape with lists
abbrev pub bodied_by : Bool → ℕ → Lists → Shape
bodied_by together left inside = record { boundary = Some left; breaks = true; together = together; inside = inside }

pub bodied_placed : (low high start end left : ℕ) (form : StmtForm) (together : Bool) (inside : Lists) → form_layer (out-StmtForm form) ≡ bodied_by together left inside
    → low ≤ start → start ≤ left → left < end → end ≤ high → AreLists start end inside → Placed low high (outline (stmt_node start end form))
bodied_placed low high start end left form together inside e a b c d h =
    subst (Placed low high) (sym (node_outline start end form ∙ ap (node_of start end) e))
    (record { from = a; mark = record { some = omega arith; from = b; upto = omega arith }; upto = d; inside = h })

-- ---- declarations

option_in : (h : ℕ) (of : Option TypeExpr) (w : List Word) → IsMaybeType h of w → (low high : ℕ) → Spread low high w → option_end of ≤ high
option_in h of w no_type low high s = omega arith
option_in h of w (some_type g x v inner) low high s = (type_in g x v inner low high s).upto

const_in : (h : ℕ) (x : ConstSpec) (w : List Word) → IsConstSpec h x w → (low high : ℕ) → Spread low high w → EndsIn low high (const_end x)
const_in h x w (simple.const_spec n e l g g' of y u v k types m value) low high s =
    let a = opened kind.Name low high n (u ++ e ∷ v) refl k s in
    let p = halves u (e ∷ v) n.span.end high a.rest in
    let b = opened t.assign p.mid high e v refl m p.back in
    let r = expr_in l g' y v value e.span.end high b.rest in
    let le : n.span.end ≤ p.mid = spread_le n.span.end p.mid u p.front in
    record { behind = omega arith; upto = r.upto }

var_in : (h : ℕ) (x : VarSpec) (w : List Word) → IsVarSpec h x w → (low high : ℕ) → Spread low high w → EndsIn low high (var_end x)
var_in h x w (simple.typed_var g ns of u v names types) low high s =
    let p = halves u v low high s in
    let r = type_in g of v types p.mid high p.back in
    let le : low ≤ p.mid = spread_le low p.mid u p.front in
    record { behind = omega arith; upto = r.upto }
var_in h x w (simple.valued_var e g g' ns of es u v z names types k values) low high s =
    let p = halves u (v ++ e ∷ z) low high s in
    let q = halves v (e ∷ z) p.mid high p.back in
    let b = opened t.assign q.mid high e z refl k q.back in
    let r = exprs_in g' es z values (option_end of) e.span.end high b.rest in
    let le : low ≤ p.mid = spread_le low p.mid u p.front in
    let le' : p.mid ≤ q.mid = spread_le p.mid q.mid v q.front in
    record { behind = omega arith; upto = r.upto }

module _ {A : Type 0} (Item : ℕ → A → List Word → Type 0) (end_of : A → ℕ) (item_in : (h : ℕ) (x : A) (w : List Word) → Item h x w → (low high : ℕ) → Spread low high w → EndsIn low high (end_of x)) where
  pub group_in : (h : ℕ) (xs : List A) (end : ℕ) (w : List Word) → IsGroup Item end_of h xs end w → (low high : ℕ) → Spread low high w → EndsIn low high end
  group_in h xs end w (lists.single g x v inner) low high s = item_in g x v inner low high s
  group_in h xs end w (lists.no_group l r k m) low high s =
      let a = opened t.left_parenthesis low high l (r ∷ []) refl k s in
      let b = opened t.right_parenthesis l.span.end high r [] refl m a.rest in
      record { behind = omega arith; upto = b.upto }
  group_in h xs end w (lists.group l r g ys u v k row may m) low high s =
      let a = opened t.left_parenthesis low high l (u ++ (v ++ r ∷ [])) refl k s in
      let p = halves u (v ++ r ∷ []) l.span.end high a.rest in
      let q = halves v (r ∷ []) p.mid high p.back in
      let b = opened t.right_parenthesis q.mid high r [] refl m q.back in
      let le : l.span.end ≤ p.mid = spread_le l.span.end p.mid u p.front in
      let le' : p.mid ≤ q.mid = spread_le p.mid q.mid v q.front in
      record { behind = omega arith; upto = b.upto }

pub consts_in : (h : ℕ) (xs : List ConstSpec) (end : ℕ) (w : List Word) → IsGroup IsConstSpec const_end h xs end w → (low high : ℕ) → Spread low high w → EndsIn low high end
consts_in = group_in IsConstSpec const_end const_in

pub vars_in : (h : ℕ) (xs : List VarSpec) (end : ℕ) (w : List Word) → IsGroup IsVarSpec var_end h xs end w → (low high : ℕ) → Spread low high w → EndsIn low high end
vars_in = group_in IsVarSpec var_end var_in

-- ---- simple statements

target_in : (h : ℕ) (g : Target) (w : List Word) → IsTarget h g w → (low high : ℕ) → Spread low high w → StartsIn low high (target_start g)
target_in h g w (simple.plain_target n k) low high s = let a = opened kind.Name low high n [] refl k s in record { from = a.from; before = omega arith }
target_in h g w (simple.member_target p d n k l m) low high s = let a = opened kind.Name low high p (d ∷ n ∷ []) refl k s in record { from = a.from; before = omega arith }

targets_in : (h : ℕ) (gs : List Target) (w : List Word) → IsRow t.comma IsTarget h gs w → (low high : ℕ) → Spread low high w → StartsIn low high (targets_start gs)
targets_in h gs w (lists.one_item i g v inner) low high s = target_in i g v inner low high s
targets_in h gs w (lists.more_items c i j g xs u v inner k more) low high s =
    let p = halves u (c ∷ v) low high s in
    let a = target_in i g u inner low p.mid p.front in
    let le : p.mid ≤ high = spread_le p.mid high (c ∷ v) p.back in
    record { from = a.from; before = omega arith }

by_panic : (b : Bool) → evaluated b ≡ quiet b
by_panic true = refl
by_panic false = refl

carried : (j k : TokenKind) → Some j ≡ Some k → is_semicolon j ≡ false → is_semicolon k ≡ false
carried j k e h = let same : j ≡ k = cc in subst (λ x. is_semicolon x ≡ false) same h

update_full : (o : BinaryOp) (k : TokenKind) → update_kind o ≡ Some k → is_semicolon k ≡ false
update_full op.Mul k e = carried t.star_assign k e refl
update_full op.Div k e = carried t.slash_assign k e refl
update_full op.Rem k e = carried t.percent_assign k e refl
update_full op.Shl k e = carried t.shift_left_assign k e refl
update_full op.Shr k e = carried t.shift_right_assign k e refl
update_full op.And k e = carried t.ampersand_assign k e refl
update_full op.AndNot k e = carried t.and_not_assign k e refl
update_full op.Add k e = carried t.plus_assign k e refl
update_full op.Sub k e = carried t.minus_assign k e refl
update_full op.Or k e = carried t.bar_assign k e refl
update_full op.Xor k e = carried t.caret_assign k e refl
update_full op.Equal k e = absurd cc
update_full op.NotEqual k e = absurd cc
update_full op.Less k e = absurd cc
update_full op.LessEqual k e = absurd cc
update_full op.Greater k e = absurd cc
update_full op.GreaterEqual k e = absurd cc
update_full op.BothOf k e = absurd cc
update_full op.EitherOf k e = absurd cc

pub simple_in : (h : ℕ) (x : Stmt) (w : List Word) → IsSimple h x w → (low high : ℕ) → Spread low high w → Placed low high (outline x)
unfolding out-StmtForm denote.Hole.Carrier.out
simple_in h x w (simple.evaluated l g y v inner) low high s =
    leaf_placed low high (expr_start y) (expr_end y) (stmt.Eval y) (is_panic (out-ExprForm y.form)) (by_panic (is_panic (out-ExprForm y.form))) (expr_in l g y v inner low high s)
simple_in h x w (simple.sent o l l' g g' a b u v left k right) low high s =
    let p = halves u (o ∷ v) low high s in
    let y = expr_in l g a u left low p.mid p.front in
    let c = opened t.arrow p.mid high o v refl k p.back in
    let z = expr_in l' g' b v right o.span.end high c.rest in
    leaf_placed low high (expr_start a) (expr_end b) (stmt.Send a b) false refl (record { from = y.from; some = omega arith; upto = z.upto })
simple_in h x w (simple.raised o g u inner k) low high s =
    let p = halves u (o ∷ []) low high s in
    let y = target_in 0 g u inner low p.mid p.front in
    let c = opened t.increment p.mid high o [] refl k p.back in
    leaf_placed low high (target_start g) o.span.end (stmt.Up g) false refl (record { from = y.from; some = omega arith; upto = c.upto })
simple_in h x w (simple.lowered o g u inner k) low high s =
    let p = halves u (o ∷ []) low high s in
    let y = target_in 0 g u inner low p.mid p.front in
    let c = opened t.decrement p.mid high o [] refl k p.back in
    leaf_placed low high (target_start g) o.span.end (stmt.Down g) false refl (record { from = y.from; some = omega arith; upto = c.upto })
simple_in h x w (simple.updated o b l g d y u v inner k value) low high s =
    let p = halves u (o ∷ v) low high s in
    let q = target_in 0 d u inner low p.mid p.front in
    let c = opened o.kind p.mid high o v (update_full b o.kind k) refl p.back in
    let z = expr_in l g y v value o.span.end high c.rest in
    leaf_placed low high (target_start d) (expr_end y) (stmt.Update d b y) false refl (record { from = q.from; some = omega arith; upto = z.upto })
simple_in h x w (simple.assigned o g gs es u v inner k values) low high s =
    let p = halves u (o ∷ v) low high s in
    let q = targets_in 0 gs u inner low p.mid p.front in
    let c = opened t.assign p.mid high o v refl k p.back in
    let z = exprs_in g es v values 0 o.span.end high c.rest in
    leaf_placed low high (targets_start gs) (exprs_end 0 es) (stmt.Assign gs es) false refl (record { from = q.from; some = omega arith; upto = z.upto })
simple_in h x w (simple.defined o g ns es u v inner k values) low high s =
    let p = halves u (o ∷ v) low high s in
    let q = names_in 0 ns u inner low p.mid p.front in
    let c = opened t.define p.mid high o v refl k p.back in
    let z = exprs_in g es v values 0 o.span.end high c.rest in
    leaf_placed low high _ (exprs_end 0 es) (stmt.Define ns es) false refl (record { from = q.from; some = omega arith; upto = z.upto })
