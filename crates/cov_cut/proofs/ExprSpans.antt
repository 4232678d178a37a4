-- The spans of types and expressions.
use Rattle.std.proofs.Common.{◌≡◌, ℕ, ◌≤◌, false, List, [], ◌∷◌, ◌++◌, refl, arith}
use Rattle.go_ast.specs.declared.token.TokenKind.{TokenKind}
use Rattle.go_ast.specs.declared.token.TokenKind.TheVariants as kind
use Rattle.go_ast.specs.declared.name.Name.{Name}
use Rattle.go_ast.specs.declared.expr.TypeExpr.{TypeExpr}
use Rattle.go_ast.specs.declared.expr.TypeForm.{TypeForm}
use Rattle.go_ast.specs.declared.expr.Expr.{Expr}
use Rattle.go_ast.specs.declared.expr.ExprForm.{ExprForm}
use Rattle.go_ast.specs.declared.expr.UnaryOp.{UnaryOp}
use Rattle.go_ast.specs.declared.expr.UnaryOp.TheVariants as sign
use Rattle.go_ast.specs.declared.expr.BinaryOp.{BinaryOp}
use Rattle.go_ast.specs.declared.expr.BinaryOp.TheVariants as op
use Rattle.go_grammar.specs.Words.{Word}
use Rattle.go_grammar.specs.Terminals as t
use Rattle.go_grammar.specs.Lists.{IsRow}
use Rattle.go_grammar.specs.Types.{IsName, IsType, name, plain, member, channel}
use Rattle.go_grammar.specs.Lists as lists
use Rattle.go_grammar.specs.Exprs as e
use Rattle.go_grammar.specs.Exprs.{IsExpr, IsExprs}
use Rattle.go_grammar.specs.Trees.{type_start, type_end, type_node, expr_start, expr_end, exprs_end, expr_node, names_start, unary_kind, binary_kind}
use Rattle.cov_cut.proofs.Spread.{is_semicolon, Spread, spread_le, halves, opened, Between, EndsIn, StartsIn}

-- ---- nodes

type_started : (start end : ℕ) (form : TypeForm) → type_start (type_node start end form) ≡ start
unfolding type_node
type_started start end form = refl

type_ended : (start end : ℕ) (form : TypeForm) → type_end (type_node start end form) ≡ end
unfolding type_node
type_ended start end form = refl

expr_started : (start end : ℕ) (form : ExprForm) → expr_start (expr_node start end form) ≡ start
unfolding expr_node
expr_started start end form = refl

expr_ended : (start end : ℕ) (form : ExprForm) → expr_end (expr_node start end form) ≡ end
unfolding expr_node
expr_ended start end form = refl

-- ---- types

pub type_in : (h : ℕ) (x : TypeExpr) (w : List Word) → IsType h x w → (low high : ℕ) → Spread low high w → Between low high (type_start x) (type_end x)
unfolding type_node
type_in h x w (plain n k) low high s =
    let a = opened kind.Name low high n [] refl k s in
    record { from = a.from; some = a.some; upto = a.upto }
type_in h x w (member p d n k l m) low high s =
    let a = opened kind.Name low high p (d ∷ n ∷ []) refl k s in
    let b = opened t.point p.span.end high d (n ∷ []) refl l a.rest in
    let c = opened kind.Name d.span.end high n [] refl m b.rest in
    record { from = a.from; some = omega arith; upto = c.upto }
type_in h x w (channel c g of v k inner) low high s =
    let a = opened t.chan_word low high c v refl k s in
    let b = type_in g of v inner c.span.end high a.rest in
    record { from = a.from; some = omega arith; upto = b.upto }

-- ---- names

pub names_in : (h : ℕ) (ns : List Name) (w : List Word) → IsRow t.comma IsName h ns w → (low high : ℕ) → Spread low high w → StartsIn low high (names_start ns)
names_in h ns w (lists.one_item g x v (name n k)) low high s =
    let a = opened kind.Name low high n [] refl k s in
    record { from = a.from; before = omega arith }
names_in h ns w (lists.more_items c g i x xs v u (name n k) l more) low high s =
    let a = opened kind.Name low high n (c ∷ u) refl k s in
    record { from = a.from; before = omega arith }

-- ---- expressions

unary_no : (o : UnaryOp) → is_semicolon (unary_kind o) ≡ false
unary_no sign.Plus = refl
unary_no sign.Minus = refl
unary_no sign.Not = refl
unary_no sign.Flip = refl
unary_no sign.Receive = refl

binary_no : (o : BinaryOp) → is_semicolon (binary_kind o) ≡ false
binary_no op.Mul = refl
binary_no op.Div = refl
binary_no op.Rem = refl
binary_no op.Shl = refl
binary_no op.Shr = refl
binary_no op.And = refl
binary_no op.AndNot = refl
binary_no op.Add = refl
binary_no op.Sub = refl
binary_no op.Or = refl
binary_no op.Xor = refl
binary_no op.Equal = refl
binary_no op.NotEqual = refl
binary_no op.Less = refl
binary_no op.LessEqual = refl
binary_no op.Greater = refl
binary_no op.GreaterEqual = refl
binary_no op.BothOf = refl
binary_no op.EitherOf = refl

leaf_in : (k : TokenKind) (n : Word) (low high : ℕ) → is_semicolon k ≡ false → n.kind ≡ k → Spread low high (n ∷ []) → Between low high n.span.start n.span.end
leaf_in k n low high full e s = let a = opened k low high n [] full e s in record { from = a.from; some = a.some; upto = a.upto }

-- from an expression to a token at the end
closed : (low high start end : ℕ) (w v : List Word) (a b : Word) (j k : TokenKind) → is_semicolon j ≡ false → is_semicolon k ≡ false → a.kind ≡ j → b.kind ≡ k
    → ((low high : ℕ) → Spread low high w → Between low high start end) → Spread low high (w ++ a ∷ (v ++ b ∷ [])) → Between low high start b.span.end
closed low high start end w v a b j k full not is same inner s =
    let p = halves w (a ∷ (v ++ b ∷ [])) low high s in
    let x = inner low p.mid p.front in
    let y = opened j p.mid high a (v ++ b ∷ []) full is p.back in
    let q = halves v (b ∷ []) a.span.end high y.rest in
    let z = opened k q.mid high b [] not same q.back in
    let m : a.span.end ≤ q.mid = spread_le a.span.end q.mid v q.front in
    record { from = x.from; some = omega arith; upto = z.upto }

pub expr_in : (l h : ℕ) (x : Expr) (w : List Word) → IsExpr l h x w → (low high : ℕ) → Spread low high w → Between low high (expr_start x) (expr_end x)
unfolding expr_node
expr_in l h x w (e.int n k) low high s = leaf_in kind.Int n low high refl k s
expr_in l h x w (e.rune n k) low high s = leaf_in kind.Rune n low high refl k s
expr_in l h x w (e.text n k) low high s = leaf_in kind.Text n low high refl k s
expr_in l h x w (e.plain n k) low high s = leaf_in kind.Name n low high refl k s
expr_in l h x w (e.member p d n k m o) low high s =
    let a = opened kind.Name low high p (d ∷ n ∷ []) refl k s in
    let b = opened t.point p.span.end high d (n ∷ []) refl m a.rest in
    let c = opened kind.Name d.span.end high n [] refl o b.rest in
    record { from = a.from; some = omega arith; upto = c.upto }
expr_in l h x w (e.channel c g of v k inner) low high s =
    let a = opened t.chan_word low high c v refl k s in
    let b = type_in g of v inner c.span.end high a.rest in
    record { from = a.from; some = omega arith; upto = b.upto }
expr_in l h x w (e.parens a b m g y v k inner o) low high s =
    let p = opened t.left_parenthesis low high a (v ++ b ∷ []) refl k s in
    let q = halves v (b ∷ []) a.span.end high p.rest in
    let z = opened t.right_parenthesis q.mid high b [] refl o q.back in
    let m : a.span.end ≤ q.mid = spread_le a.span.end q.mid v q.front in
    record { from = p.from; some = omega arith; upto = z.upto }
expr_in l h x w (e.called a b g g' y ys u v inner k arguments o) low high s =
    closed low high (expr_start y) (expr_end y) u v a b t.left_parenthesis t.right_parenthesis refl refl k o (expr_in 7 g y u inner) s
expr_in l h x w (e.indexed a b m g g' y i u v inner k index o) low high s =
    closed low high (expr_start y) (expr_end y) u v a b t.left_bracket t.right_bracket refl refl k o (expr_in 7 g y u inner) s
expr_in l h x w (e.cut a c b g i j y first last u v z inner k firsts m lasts o) low high s =
    let p = halves u (a ∷ (v ++ c ∷ (z ++ b ∷ []))) low high s in
    let r = expr_in 7 g y u inner low p.mid p.front in
    let q = opened t.left_bracket p.mid high a (v ++ c ∷ (z ++ b ∷ [])) refl k p.back in
    let f = halves v (c ∷ (z ++ b ∷ [])) a.span.end high q.rest in
    let d = opened t.colon f.mid high c (z ++ b ∷ []) refl m f.back in
    let n = halves z (b ∷ []) c.span.end high d.rest in
    let last_token = opened t.right_bracket n.mid high b [] refl o n.back in
    let le : a.span.end ≤ f.mid = spread_le a.span.end f.mid v f.front in
    let le' : c.span.end ≤ n.mid = spread_le c.span.end n.mid z n.front in
    record { from = r.from; some = omega arith; upto = last_token.upto }
expr_in l h x w (e.signed a o m g y v k inner tight) low high s =
    let p = opened (unary_kind o) low high a v (unary_no o) k s in
    let q = expr_in m g y v inner a.span.end high p.rest in
    record { from = p.from; some = omega arith; upto = q.upto }
expr_in l h x w (e.operated o p m m' g g' a b u v left loose k right tight) low high s =
    let r = halves u (o ∷ v) low high s in
    let y = expr_in m g a u left low r.mid r.front in
    let c = opened (binary_kind p) r.mid high o v (binary_no p) k r.back in
    let z = expr_in m' g' b v right o.span.end high c.rest in
    record { from = y.from; some = omega arith; upto = z.upto }

pub exprs_in : (h : ℕ) (xs : List Expr) (w : List Word) → IsExprs h xs w → (d low high : ℕ) → Spread low high w → EndsIn low high (exprs_end d xs)
exprs_in h xs w (e.one_expr l g x v inner) d low high s = let a = expr_in l g x v inner low high s in record { behind = omega arith; upto = a.upto }
exprs_in h xs w (e.more_exprs c l g g' x ys u v inner k more) d low high s =
    let p = halves u (c ∷ v) low high s in
    let a = expr_in l g x u inner low p.mid p.front in
    let b = opened t.comma p.mid high c v refl k p.back in
    let r = exprs_in g' ys v more (expr_end x) c.span.end high b.rest in
    record { behind = omega arith; upto = r.upto }
