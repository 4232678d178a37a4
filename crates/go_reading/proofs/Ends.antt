-- What may follow an expression, and what expressions begin with.
use Rattle.std.proofs.Common.{◌≡◌, ℕ, ◌≤◌, ◌<◌, Bool, true, false, List, [], ◌∷◌, ◌++◌, Option, Some, None, refl, sym, ap, ◌∙◌, append_assoc}
use Rattle.go_ast.specs.declared.token.TokenKind.{TokenKind}
use Rattle.go_ast.specs.declared.expr.Expr.{Expr}
use Rattle.go_ast.specs.declared.expr.BinaryOp.{BinaryOp}
use Rattle.go_ast.specs.declared.expr.UnaryOp.TheVariants as sign
use Rattle.go_grammar.specs.Words.{Word}
use Rattle.go_grammar.specs.Terminals as t
use Rattle.go_grammar.specs.Trees.{level}
use Rattle.go_grammar.specs.Lists.{IsRow, one_item, more_items}
use Rattle.go_grammar.specs.Exprs.{IsExpr, int, rune, text, plain, member, channel, parens, called, indexed, cut, signed, operated, IsExprs, one_expr, more_exprs}
use Rattle.go_reading.specs.Kinds.{same, is, binary_op, begins}
use Rattle.go_reading.specs.Input.{kind_of}
use Rattle.go_reading.proofs.Good.{is_is}
use Rattle.go_reading.proofs.RowsRead.{is_other}
use Rattle.go_reading.proofs.ExprsGood.{AnyExpr}

-- ---- what may follow

-- nothing that goes on with an operand follows
pub record NoSuffix (rest : List Word) : Type 0 where
  pub no_point : is (kind_of rest) t.point ≡ false
  pub no_call : is (kind_of rest) t.left_parenthesis ≡ false
  pub no_index : is (kind_of rest) t.left_bracket ≡ false

-- nothing that goes on with an expression of this level
pub record Ends (least : ℕ) (rest : List Word) : Type 0 where
  pub suffix : NoSuffix rest
  pub lower : (op : BinaryOp) → binary_op (kind_of rest) ≡ Some op → level op < least

-- what goes on with it has at most this level
pub record Follows (l : ℕ) (rest : List Word) : Type 0 where
  pub suffix : NoSuffix rest
  pub lower : (op : BinaryOp) → binary_op (kind_of rest) ≡ Some op → level op ≤ l

-- a kind that goes on with no expression
pub record Plain (k : TokenKind) : Type 0 where
  pub no_point : same k t.point ≡ false
  pub no_call : same k t.left_parenthesis ≡ false
  pub no_index : same k t.left_bracket ≡ false
  pub no_operator : binary_op (Some k) ≡ None

pub ends_by : (least : ℕ) (rest : List Word) (k : TokenKind) → kind_of rest ≡ Some k → Plain k → Ends least rest
ends_by least rest k e p = record {
  suffix = record { no_point = is_other (kind_of rest) k t.point e p.no_point; no_call = is_other (kind_of rest) k t.left_parenthesis e p.no_call; no_index = is_other (kind_of rest) k t.left_bracket e p.no_index };
  lower = λ op o. let f : binary_op (Some k) ≡ Some op = ap binary_op (sym e) ∙ o in let g = p.no_operator in absurd cc;
}

pub plain_comma : Plain t.comma
unfolding binary_op
plain_comma = record { no_point = refl; no_call = refl; no_index = refl; no_operator = refl }

pub plain_parenthesis : Plain t.right_parenthesis
unfolding binary_op
plain_parenthesis = record { no_point = refl; no_call = refl; no_index = refl; no_operator = refl }

pub plain_bracket : Plain t.right_bracket
unfolding binary_op
plain_bracket = record { no_point = refl; no_call = refl; no_index = refl; no_operator = refl }

pub plain_colon : Plain t.colon
unfolding binary_op
plain_colon = record { no_point = refl; no_call = refl; no_index = refl; no_operator = refl }

pub plain_semicolon : Plain t.semicolon
unfolding binary_op
plain_semicolon = record { no_point = refl; no_call = refl; no_index = refl; no_operator = refl }

pub plain_brace : Plain t.right_brace
unfolding binary_op
plain_brace = record { no_point = refl; no_call = refl; no_index = refl; no_operator = refl }

pub plain_left_brace : Plain t.left_brace
unfolding binary_op
plain_left_brace = record { no_point = refl; no_call = refl; no_index = refl; no_operator = refl }

pub plain_assign : Plain t.assign
unfolding binary_op
plain_assign = record { no_point = refl; no_call = refl; no_index = refl; no_operator = refl }

pub plain_define : Plain t.define
unfolding binary_op
plain_define = record { no_point = refl; no_call = refl; no_index = refl; no_operator = refl }

pub plain_arrow : Plain t.arrow
unfolding binary_op
plain_arrow = record { no_point = refl; no_call = refl; no_index = refl; no_operator = refl }

-- ---- what an expression begins with

pub begins_expr : (l h : ℕ) (e : Expr) (w : List Word) → IsExpr l h e w → (rest : List Word) → begins (kind_of (w ++ rest)) ≡ true
unfolding begins
begins_expr _ _ _ _ (int n k) rest = rw k refl
begins_expr _ _ _ _ (rune n k) rest = rw k refl
begins_expr _ _ _ _ (text n k) rest = rw k refl
begins_expr _ _ _ _ (plain n k) rest = rw k refl
begins_expr _ _ _ _ (member p d n kp kd kn) rest = rw kp refl
begins_expr _ _ _ _ (channel c h of w k i) rest = rw k refl
begins_expr _ _ _ _ (parens a b l h e w ka i kb) rest = rw ka refl
begins_expr _ _ _ _ (called a b h h' e es w v i ka j kb) rest = rw append_assoc (begins_expr 7 h e w i (a ∷ (v ++ b ∷ []) ++ rest))
begins_expr _ _ _ _ (indexed a b l h h' e x w v i ka j kb) rest = rw append_assoc (begins_expr 7 h e w i (a ∷ (v ++ b ∷ []) ++ rest))
begins_expr _ _ _ _ (cut a c b h i j e low high w u v x ka y kc z kb) rest = rw append_assoc (begins_expr 7 h e w x (a ∷ (u ++ c ∷ (v ++ b ∷ [])) ++ rest))
begins_expr _ _ _ _ (signed a sign.Plus l h e w ka i le) rest = rw ka refl
begins_expr _ _ _ _ (signed a sign.Minus l h e w ka i le) rest = rw ka refl
begins_expr _ _ _ _ (signed a sign.Not l h e w ka i le) rest = rw ka refl
begins_expr _ _ _ _ (signed a sign.Flip l h e w ka i le) rest = rw ka refl
begins_expr _ _ _ _ (signed a sign.Receive l h e w ka i le) rest = rw ka refl
begins_expr _ _ _ _ (operated o op l l' h h' a b w v i le k j lt) rest = rw append_assoc (begins_expr l h a w i (o ∷ v ++ rest))

begins_not : (o : Option TokenKind) (k : TokenKind) → begins o ≡ true → begins (Some k) ≡ false → is o k ≡ false
begins_not o k b f = go (is o k) refl
  where
    go : (v : Bool) → is o k ≡ v → v ≡ false
    go false e = refl
    go true e = let s : o ≡ Some k = is_is o k e in let g : begins (Some k) ≡ true = ap begins (sym s) ∙ b in absurd cc

pub not_begun : (l h : ℕ) (e : Expr) (w : List Word) → IsExpr l h e w → (k : TokenKind) → begins (Some k) ≡ false → (rest : List Word) → is (kind_of (w ++ rest)) k ≡ false
not_begun l h e w i k f rest = begins_not (kind_of (w ++ rest)) k (begins_expr l h e w i rest) f

pub exprs_row : (h : ℕ) (es : List Expr) (w : List Word) → IsExprs h es w → IsRow t.comma AnyExpr h es w
exprs_row _ _ _ (one_expr l h e w i) = one_item h e w (l, i)
exprs_row _ _ _ (more_exprs c l h h' e es w v i k j) = more_items c h h' e es w v (l, i) k (exprs_row h' es v j)

pub parenthesis_no : begins (Some t.right_parenthesis) ≡ false
unfolding begins
parenthesis_no = refl

pub bracket_no : begins (Some t.right_bracket) ≡ false
unfolding begins
bracket_no = refl

pub colon_no : begins (Some t.colon) ≡ false
unfolding begins
colon_no = refl
