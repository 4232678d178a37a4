-- Expressions: which tokens spell which tree.
use Rattle.std.specs.Prelude.{◌≡◌, ℕ, ◌+◌, ◌≤◌, ◌<◌, max, List, [], ◌∷◌, ◌++◌, Option, Some, None}
use Rattle.go_ast.specs.declared.token.TokenKind.TheVariants as kind
use Rattle.go_ast.specs.declared.expr.TypeExpr.{TypeExpr}
use Rattle.go_ast.specs.declared.expr.Expr.{Expr}
use Rattle.go_ast.specs.declared.expr.BinaryOp.{BinaryOp}
use Rattle.go_ast.specs.declared.expr.UnaryOp.{UnaryOp}
use Rattle.go_grammar.specs.Words.{Word}
use Rattle.go_grammar.specs.Terminals as t
use Rattle.go_grammar.specs.Lists.{MayBe}
use Rattle.go_grammar.specs.Types.{IsType}
use Rattle.go_grammar.specs.Trees.{int_expr, rune_expr, text_expr, plain_expr, member_expr, chan_expr, paren_expr, call_expr, index_expr, cut_expr, unary_expr, binary_expr, unary_kind, binary_kind, level}

-- IsExpr l h e w: the tokens w spell e, an expression of level l and height h. The level is 7 for a Primary, 6 for a Unary
-- with an operator, and below that the level of the operator.
--
-- Unary   = ( "+" | "-" | "!" | "^" | "<-" ) Unary | Primary
-- Primary = Operand { "(" [ Exprs [","] ] ")" | "[" Expr "]" | "[" [ Expr ] ":" [ Expr ] "]" }
-- Operand = Int | Rune | Text | Name | Name "." Name | "chan" Type | "(" Expr ")"
mutual
  pub data IsExpr : ℕ → ℕ → Expr → List Word → Type 0 where
    int : (n : Word) → n.kind ≡ kind.Int → IsExpr 7 1 (int_expr n) (n ∷ [])
    rune : (n : Word) → n.kind ≡ kind.Rune → IsExpr 7 1 (rune_expr n) (n ∷ [])
    text : (n : Word) → n.kind ≡ kind.Text → IsExpr 7 1 (text_expr n) (n ∷ [])
    plain : (n : Word) → n.kind ≡ kind.Name → IsExpr 7 1 (plain_expr n) (n ∷ [])
    member : (p d n : Word) → p.kind ≡ kind.Name → d.kind ≡ t.point → n.kind ≡ kind.Name → IsExpr 7 1 (member_expr p n) (p ∷ d ∷ n ∷ [])
    channel : (c : Word) (h : ℕ) (of : TypeExpr) (w : List Word) → c.kind ≡ t.chan_word → IsType h of w → IsExpr 7 (h + 1) (chan_expr c of) (c ∷ w)
    parens : (a b : Word) (l h : ℕ) (e : Expr) (w : List Word) → a.kind ≡ t.left_parenthesis → IsExpr l h e w → b.kind ≡ t.right_parenthesis
        → IsExpr 7 (h + 1) (paren_expr a e b) (a ∷ (w ++ b ∷ []))
    called : (a b : Word) (h h' : ℕ) (e : Expr) (es : List Expr) (w v : List Word) → IsExpr 7 h e w → a.kind ≡ t.left_parenthesis → IsArgs h' es v → b.kind ≡ t.right_parenthesis
        → IsExpr 7 (max h h' + 1) (call_expr e es b) (w ++ a ∷ (v ++ b ∷ []))
    indexed : (a b : Word) (l h h' : ℕ) (e i : Expr) (w v : List Word) → IsExpr 7 h e w → a.kind ≡ t.left_bracket → IsExpr l h' i v → b.kind ≡ t.right_bracket
        → IsExpr 7 (max h h' + 1) (index_expr e i b) (w ++ a ∷ (v ++ b ∷ []))
    cut : (a c b : Word) (h i j : ℕ) (e : Expr) (low high : Option Expr) (w u v : List Word) → IsExpr 7 h e w → a.kind ≡ t.left_bracket → IsMaybe i low u → c.kind ≡ t.colon → IsMaybe j high v → b.kind ≡ t.right_bracket
        → IsExpr 7 (max h (max i j) + 1) (cut_expr e low high b) (w ++ a ∷ (u ++ c ∷ (v ++ b ∷ [])))
    signed : (a : Word) (op : UnaryOp) (l h : ℕ) (e : Expr) (w : List Word) → a.kind ≡ unary_kind op → IsExpr l h e w → 6 ≤ l → IsExpr 6 (h + 1) (unary_expr a op e) (a ∷ w)
    -- to the left an operator of the same level may stand, to the right none
    operated : (o : Word) (op : BinaryOp) (l l' h h' : ℕ) (a b : Expr) (w v : List Word) → IsExpr l h a w → level op ≤ l → o.kind ≡ binary_kind op → IsExpr l' h' b v → level op < l'
        → IsExpr (level op) (max h h' + 1) (binary_expr op a b) (w ++ o ∷ v)

  -- [ Exprs [","] ]
  pub data IsArgs : ℕ → List Expr → List Word → Type 0 where
    no_args : IsArgs 0 [] []
    args : (h : ℕ) (es : List Expr) (w c : List Word) → IsExprs h es w → MayBe t.comma c → IsArgs h es (w ++ c)

  -- Exprs = Expr { "," Expr }
  pub data IsExprs : ℕ → List Expr → List Word → Type 0 where
    one_expr : (l h : ℕ) (e : Expr) (w : List Word) → IsExpr l h e w → IsExprs h (e ∷ []) w
    more_exprs : (c : Word) (l h h' : ℕ) (e : Expr) (es : List Expr) (w v : List Word) → IsExpr l h e w → c.kind ≡ t.comma → IsExprs h' es v → IsExprs (max h h') (e ∷ es) (w ++ c ∷ v)

  -- [ Expr ]
  pub data IsMaybe : ℕ → Option Expr → List Word → Type 0 where
    no_expr : IsMaybe 0 None []
    some_expr : (l h : ℕ) (e : Expr) (w : List Word) → IsExpr l h e w → IsMaybe h (Some e) w
