-- What begins with a token that an expression may begin with.
use Rattle.std.proofs.Common.{◌≡◌, ◌≢◌, ◌||◌, ◌==◌, ℕ, Bool, true, false, List, [], ◌∷◌, Option, Some, None, refl, ap, ◌∙◌, arith}
use Rattle.std.proofs.lemmas.Bool.{eqb-true}
use Rattle.go_ast.specs.declared.token.TokenKind.{TokenKind}
use Rattle.go_ast.specs.declared.token.TokenKind.TheVariants as kind
use Rattle.go_ast.specs.declared.expr.Expr.{Expr}
use Rattle.go_ast.specs.declared.expr.UnaryOp.{UnaryOp}
use Rattle.go_ast.specs.declared.expr.UnaryOp.TheVariants as sign
use Rattle.go_grammar.specs.Words.{Word}
use Rattle.go_grammar.specs.Terminals as t
use Rattle.go_grammar.specs.Trees.{plain_expr, int_expr, rune_expr, text_expr, chan_expr, paren_expr, unary_expr, unary_kind}
use Rattle.go_grammar.specs.Exprs.{int, rune, text, plain, channel, parens, signed}
use Rattle.go_reading.specs.Kinds.{begins}
use Rattle.go_reading.specs.Input.{Tall}
use Rattle.go_reading.proofs.Good.{a_word}
use Rattle.go_reading.proofs.TypesGood.{a_type, is_a_type}
use Rattle.go_reading.proofs.ExprsGood.{AnyExpr, an_expr, is_an_expr}

-- ---- what begins an expression

pub pick : {P : Type 0} (a b : Bool) → (a || b) ≡ true → (a ≡ true → P) → (b ≡ true → P) → P
pick true b e f g = f refl
pick false b e f g = g e

Begun : Word → Type 0
Begun a = (x : Tall Expr) × (w : List Word) × AnyExpr x.1 x.0 (a ∷ w)

begun_unary : (a : Word) (op : UnaryOp) → a.kind ≡ unary_kind op → Begun a
unfolding Begun
begun_unary a op k = ((unary_expr a op an_expr, 2), a_word kind.Name ∷ [], (6, signed a op 7 1 an_expr (a_word kind.Name ∷ []) k is_an_expr (omega arith)))

begun_parens : (a : Word) → a.kind ≡ t.left_parenthesis → Begun a
unfolding Begun
begun_parens a k = let q = a_word t.right_parenthesis in ((paren_expr a an_expr q, 2), a_word kind.Name ∷ q ∷ [], (7, parens a q 7 1 an_expr (a_word kind.Name ∷ []) k is_an_expr refl))

begun_channel : (a : Word) → a.kind ≡ t.chan_word → Begun a
unfolding Begun
begun_channel a k = ((chan_expr a a_type, 2), a_word kind.Name ∷ [], (7, channel a 1 a_type (a_word kind.Name ∷ []) k is_a_type))

operator_is : (a : Word) (place n : ℕ) → a.kind ≡ kind.Operator place → (place == n) ≡ true → a.kind ≡ kind.Operator n
operator_is a place n k e = k ∙ ap kind.Operator (eqb-true place n e)

begun_operator : (a : Word) (place : ℕ) → a.kind ≡ kind.Operator place → begins (Some (kind.Operator place)) ≡ true → Begun a
unfolding begins
begun_operator a place k b =
    pick _ (place == 38) b (λ b.
    pick _ (place == 31) b (λ b.
    pick _ (place == 24) b (λ b.
    pick _ (place == 7) b (λ b.
    pick (place == 0) (place == 1) b (λ e. begun_unary a sign.Plus (operator_is a place 0 k e)) (λ e. begun_unary a sign.Minus (operator_is a place 1 k e)))
    (λ e. begun_unary a sign.Flip (operator_is a place 7 k e)))
    (λ e. begun_unary a sign.Receive (operator_is a place 24 k e)))
    (λ e. begun_unary a sign.Not (operator_is a place 31 k e)))
    (λ e. begun_parens a (operator_is a place 38 k e))

begun_at : (a : Word) (k : TokenKind) → a.kind ≡ k → begins (Some k) ≡ true → Begun a
unfolding begins Begun
begun_at a kind.Name e b = ((plain_expr a, 1), [], (7, plain a e))
begun_at a kind.Int e b = ((int_expr a, 1), [], (7, int a e))
begun_at a kind.Rune e b = ((rune_expr a, 1), [], (7, rune a e))
begun_at a kind.Text e b = ((text_expr a, 1), [], (7, text a e))
begun_at a (kind.Keyword place) e b = begun_channel a (e ∙ ap kind.Keyword (eqb-true place 2 b))
begun_at a (kind.Operator place) e b = begun_operator a place e b

pub begun_expr : (a : Word) → begins (Some a.kind) ≡ true → (x : Tall Expr) × (w : List Word) × AnyExpr x.1 x.0 (a ∷ w)
unfolding Begun
begun_expr a b = begun_at a a.kind refl b

pub begins_some : (o : Option TokenKind) → begins o ≡ true → o ≢ None
unfolding begins
begins_some None b e = absurd cc
begins_some (Some k) b e = cc
