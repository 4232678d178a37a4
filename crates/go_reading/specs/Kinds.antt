-- Kinds of tokens, compared and sorted.
use Rattle.std.specs.Prelude.{◌==◌, ◌||◌, Bool, true, false, if◌then◌else◌, List, [], ◌∷◌, Option, Some, None}
use Rattle.go_ast.specs.declared.token.TokenKind.{TokenKind}
use Rattle.go_ast.specs.declared.token.TokenKind.TheVariants as kind
use Rattle.go_ast.specs.declared.expr.BinaryOp.{BinaryOp}
use Rattle.go_ast.specs.declared.expr.BinaryOp.TheVariants as op
use Rattle.go_ast.specs.declared.expr.UnaryOp.{UnaryOp}
use Rattle.go_ast.specs.declared.expr.UnaryOp.TheVariants as sign
use Rattle.go_grammar.specs.Terminals as t
use Rattle.go_reading.specs.declared.sign.Sign.{Sign}
use Rattle.go_reading.specs.declared.sign.Sign.TheVariants as s

abbrev pub same : TokenKind → TokenKind → Bool
same kind.Name kind.Name = true
same kind.Int kind.Int = true
same kind.Rune kind.Rune = true
same kind.Text kind.Text = true
same (kind.Keyword a) (kind.Keyword b) = a == b
same (kind.Operator a) (kind.Operator b) = a == b
same _ _ = false

-- whether a token comes next, and has the kind
abbrev pub is : Option TokenKind → TokenKind → Bool
is None wanted = false
is (Some kind) wanted = same kind wanted

-- what a table has for the next kind
abbrev pub find_in : {A : Type 0} → List (TokenKind × A) → Option TokenKind → Option A
find_in [] kind = None
find_in (entry ∷ entries) kind = if is kind entry.0 then Some entry.1 else find_in entries kind

abbrev pub binaries : List (TokenKind × BinaryOp)
binaries =
    (t.plus, op.Add) ∷ (t.minus, op.Sub) ∷ (t.star, op.Mul) ∷ (t.slash, op.Div) ∷ (t.percent, op.Rem) ∷ (t.ampersand, op.And)
    ∷ (t.bar, op.Or) ∷ (t.caret, op.Xor) ∷ (t.shift_left, op.Shl) ∷ (t.shift_right, op.Shr) ∷ (t.and_not, op.AndNot)
    ∷ (t.both, op.BothOf) ∷ (t.either, op.EitherOf) ∷ (t.equal, op.Equal) ∷ (t.less, op.Less) ∷ (t.greater, op.Greater)
    ∷ (t.not_equal, op.NotEqual) ∷ (t.less_equal, op.LessEqual) ∷ (t.greater_equal, op.GreaterEqual) ∷ []

-- the operator that the token is between two operands
unfoldable pub binary_op : Option TokenKind → Option BinaryOp
binary_op kind = find_in binaries kind

abbrev pub unaries : List (TokenKind × UnaryOp)
unaries = (t.plus, sign.Plus) ∷ (t.minus, sign.Minus) ∷ (t.caret, sign.Flip) ∷ (t.arrow, sign.Receive) ∷ (t.bang, sign.Not) ∷ []

-- the operator that it is before one operand
unfoldable pub unary_op : Option TokenKind → Option UnaryOp
unary_op kind = find_in unaries kind

abbrev pub signs : List (TokenKind × Sign)
signs =
    (t.plus_assign, s.Update op.Add) ∷ (t.minus_assign, s.Update op.Sub) ∷ (t.star_assign, s.Update op.Mul)
    ∷ (t.slash_assign, s.Update op.Div) ∷ (t.percent_assign, s.Update op.Rem) ∷ (t.ampersand_assign, s.Update op.And)
    ∷ (t.bar_assign, s.Update op.Or) ∷ (t.caret_assign, s.Update op.Xor) ∷ (t.shift_left_assign, s.Update op.Shl)
    ∷ (t.shift_right_assign, s.Update op.Shr) ∷ (t.and_not_assign, s.Update op.AndNot) ∷ (t.arrow, s.Arrow)
    ∷ (t.increment, s.Up) ∷ (t.decrement, s.Down) ∷ (t.assign, s.Assign) ∷ (t.define, s.Define) ∷ (t.comma, s.Comma) ∷ []

abbrev pub or_other : Option Sign → Sign
or_other None = s.Other
or_other (Some sign) = sign

-- what a token behind an expression makes of it at the front of a statement
unfoldable pub sign_of : Option TokenKind → Sign
sign_of kind = or_other (find_in signs kind)

-- whether an expression may begin with the token
unfoldable pub begins : Option TokenKind → Bool
begins (Some kind.Name) = true
begins (Some kind.Int) = true
begins (Some kind.Rune) = true
begins (Some kind.Text) = true
begins (Some (kind.Keyword place)) = place == 2
begins (Some (kind.Operator place)) = place == 0 || place == 1 || place == 7 || place == 24 || place == 31 || place == 38
begins None = false

-- whether a type may begin with it
unfoldable pub begins_type : Option TokenKind → Bool
begins_type (Some kind.Name) = true
begins_type (Some (kind.Keyword place)) = place == 2
begins_type _ = false

-- whether it is of one of these kinds
abbrev pub is_one_of : List TokenKind → Option TokenKind → Bool
is_one_of [] kind = false
is_one_of (one ∷ more) kind = is kind one || is_one_of more kind

-- the tokens that statements begin with, besides expressions
abbrev pub starts : List TokenKind
starts =
    t.break_word ∷ t.const_word ∷ t.continue_word ∷ t.defer_word ∷ t.fallthrough_word ∷ t.for_word ∷ t.go_word ∷ t.if_word
    ∷ t.return_word ∷ t.select_word ∷ t.switch_word ∷ t.var_word ∷ t.left_brace ∷ []

-- whether a statement may begin with it
unfoldable pub begins_stmt : Option TokenKind → Bool
begins_stmt kind = begins kind || is_one_of starts kind

-- whether a list of statements may end before it: in a block at the `}`, in a clause also where the next clause begins
unfoldable pub ends_list : Bool → Option TokenKind → Bool
ends_list false kind = is kind t.right_brace
ends_list true kind = is kind t.right_brace || is kind t.case_word || is kind t.default_word
