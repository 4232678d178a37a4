-- Trees with their spans. A span goes from the start of a tree's first part to the end of its last.
use Rattle.std.specs.Prelude.{ℕ, false, true, List, [], ◌∷◌, Option, Some, None}
use Rattle.go_ast.specs.declared.token.TokenKind.{TokenKind}
use Rattle.go_ast.specs.declared.name.Name.{Name}
use Rattle.go_ast.specs.declared.expr.TypeExpr.{TypeExpr, roll-TypeExpr, out-TypeExpr}
use Rattle.go_ast.specs.declared.expr.TypeForm.{TypeForm}
use Rattle.go_ast.specs.declared.expr.TypeForm.TheVariants as type_form
use Rattle.go_ast.specs.declared.expr.Expr.{Expr, roll-Expr, out-Expr}
use Rattle.go_ast.specs.declared.expr.ExprForm.{ExprForm}
use Rattle.go_ast.specs.declared.expr.ExprForm.TheVariants as form
use Rattle.go_ast.specs.declared.expr.BinaryOp.{BinaryOp}
use Rattle.go_ast.specs.declared.expr.BinaryOp.TheVariants as op
use Rattle.go_ast.specs.declared.expr.UnaryOp.{UnaryOp}
use Rattle.go_ast.specs.declared.expr.UnaryOp.TheVariants as sign
use Rattle.go_ast.specs.declared.block.Target.{Target}
use Rattle.go_ast.specs.declared.block.Target.TheVariants as target
use Rattle.go_ast.specs.declared.block.ConstSpec.{ConstSpec}
use Rattle.go_ast.specs.declared.block.VarSpec.{VarSpec}
use Rattle.go_ast.specs.declared.block.Block.{Block, roll-Block, out-Block}
use Rattle.go_ast.specs.declared.block.Stmt.{Stmt, roll-Stmt, out-Stmt}
use Rattle.go_ast.specs.declared.block.StmtForm.{StmtForm}
use Rattle.go_ast.specs.declared.block.Other.{Other, roll-Other}
use Rattle.go_ast.specs.declared.block.CaseClause.{CaseClause, roll-CaseClause}
use Rattle.go_ast.specs.declared.block.CommClause.{CommClause, roll-CommClause}
use Rattle.go_ast.specs.declared.block.Comm.{Comm}
use Rattle.go_grammar.specs.Words.{Word}
use Rattle.go_grammar.specs.Values.{rune_value, text_value}
use Rattle.go_grammar.specs.Terminals as t

-- ---- names and types

abbrev pub name_of : Word → Name
name_of word = record { text = word.bytes; at = word.span.start }

abbrev pub type_start : TypeExpr → ℕ
type_start tree = (out-TypeExpr tree).span.start

abbrev pub type_end : TypeExpr → ℕ
type_end tree = (out-TypeExpr tree).span.end

unfoldable pub type_node : ℕ → ℕ → TypeForm → TypeExpr
type_node start end form = roll-TypeExpr (record { span = record { start = start; end = end }; form = form })

abbrev pub plain_type : Word → TypeExpr
plain_type word = type_node word.span.start word.span.end (type_form.Plain (name_of word))

abbrev pub member_type : Word → Word → TypeExpr
member_type package_name word = type_node package_name.span.start word.span.end (type_form.Member (name_of package_name) (name_of word))

abbrev pub chan_type : Word → TypeExpr → TypeExpr
chan_type word of = type_node word.span.start (type_end of) (type_form.Chan of)

-- ---- expressions

abbrev pub expr_start : Expr → ℕ
expr_start tree = (out-Expr tree).span.start

abbrev pub expr_end : Expr → ℕ
expr_end tree = (out-Expr tree).span.end

-- the end of the last expression, or an offset
abbrev pub exprs_end : ℕ → List Expr → ℕ
exprs_end end [] = end
exprs_end end (tree ∷ trees) = exprs_end (expr_end tree) trees

unfoldable pub expr_node : ℕ → ℕ → ExprForm → Expr
expr_node start end form = roll-Expr (record { span = record { start = start; end = end }; form = form })

abbrev pub leaf : Word → ExprForm → Expr
leaf word form = expr_node word.span.start word.span.end form

abbrev pub plain_expr : Word → Expr
plain_expr word = leaf word (form.Plain (name_of word))

abbrev pub int_expr : Word → Expr
int_expr word = leaf word (form.Int word.bytes)

abbrev pub rune_expr : Word → Expr
rune_expr word = leaf word (form.Rune (rune_value word.bytes))

abbrev pub text_expr : Word → Expr
text_expr word = leaf word (form.Text (text_value word.bytes))

abbrev pub member_expr : Word → Word → Expr
member_expr package_name word = expr_node package_name.span.start word.span.end (form.Member (name_of package_name) (name_of word))

abbrev pub chan_expr : Word → TypeExpr → Expr
chan_expr word of = expr_node word.span.start (type_end of) (form.Chan of)

abbrev pub paren_expr : Word → Expr → Word → Expr
paren_expr left inner right = expr_node left.span.start right.span.end (form.Paren inner)

abbrev pub call_expr : Expr → List Expr → Word → Expr
call_expr callee args right = expr_node (expr_start callee) right.span.end (form.Call callee args)

abbrev pub index_expr : Expr → Expr → Word → Expr
index_expr of at right = expr_node (expr_start of) right.span.end (form.Index of at)

abbrev pub cut_expr : Expr → Option Expr → Option Expr → Word → Expr
cut_expr of low high right = expr_node (expr_start of) right.span.end (form.Cut of low high)

abbrev pub unary_expr : Word → UnaryOp → Expr → Expr
unary_expr word op inner = expr_node word.span.start (expr_end inner) (form.Unary op inner)

abbrev pub binary_expr : BinaryOp → Expr → Expr → Expr
binary_expr op left right = expr_node (expr_start left) (expr_end right) (form.Binary op left right)

-- the token of an operator between two operands
abbrev pub binary_kind : BinaryOp → TokenKind
binary_kind op.Mul = t.star
binary_kind op.Div = t.slash
binary_kind op.Rem = t.percent
binary_kind op.Shl = t.shift_left
binary_kind op.Shr = t.shift_right
binary_kind op.And = t.ampersand
binary_kind op.AndNot = t.and_not
binary_kind op.Add = t.plus
binary_kind op.Sub = t.minus
binary_kind op.Or = t.bar
binary_kind op.Xor = t.caret
binary_kind op.Equal = t.equal
binary_kind op.NotEqual = t.not_equal
binary_kind op.Less = t.less
binary_kind op.LessEqual = t.less_equal
binary_kind op.Greater = t.greater
binary_kind op.GreaterEqual = t.greater_equal
binary_kind op.BothOf = t.both
binary_kind op.EitherOf = t.either

-- how tightly it binds
abbrev pub level : BinaryOp → ℕ
level op.Mul = 5
level op.Div = 5
level op.Rem = 5
level op.Shl = 5
level op.Shr = 5
level op.And = 5
level op.AndNot = 5
level op.Add = 4
level op.Sub = 4
level op.Or = 4
level op.Xor = 4
level op.Equal = 3
level op.NotEqual = 3
level op.Less = 3
level op.LessEqual = 3
level op.Greater = 3
level op.GreaterEqual = 3
level op.BothOf = 2
level op.EitherOf = 1

-- the token of an assignment with an operator, if it has one
abbrev pub update_kind : BinaryOp → Option TokenKind
update_kind op.Mul = Some t.star_assign
update_kind op.Div = Some t.slash_assign
update_kind op.Rem = Some t.percent_assign
update_kind op.Shl = Some t.shift_left_assign
update_kind op.Shr = Some t.shift_right_assign
update_kind op.And = Some t.ampersand_assign
update_kind op.AndNot = Some t.and_not_assign
update_kind op.Add = Some t.plus_assign
update_kind op.Sub = Some t.minus_assign
update_kind op.Or = Some t.bar_assign
update_kind op.Xor = Some t.caret_assign
update_kind _ = None

-- the token of an operator before one operand
abbrev pub unary_kind : UnaryOp → TokenKind
unary_kind sign.Plus = t.plus
unary_kind sign.Minus = t.minus
unary_kind sign.Not = t.bang
unary_kind sign.Flip = t.caret
unary_kind sign.Receive = t.arrow

-- ---- statements

abbrev pub target_start : Target → ℕ
target_start (target.Plain name) = name.at
target_start (target.Member package_name name) = package_name.at

-- the start of the first target, or 0
abbrev pub targets_start : List Target → ℕ
targets_start [] = 0
targets_start (target ∷ targets) = target_start target

abbrev pub names_start : List Name → ℕ
names_start [] = 0
names_start (name ∷ names) = name.at

abbrev pub stmt_end : Stmt → ℕ
stmt_end tree = (out-Stmt tree).span.end

unfoldable pub stmt_node : ℕ → ℕ → StmtForm → Stmt
stmt_node start end form = roll-Stmt (record { span = record { start = start; end = end }; form = form })

unfoldable pub block_node : ℕ → ℕ → List Stmt → Block
block_node left right list = roll-Block (record { left = left; right = right; hidden = false; list = list })

abbrev pub block_left : Block → ℕ
block_left tree = (out-Block tree).left

-- the block of an `if` behind an `else` that ends at an offset
unfoldable pub hidden_block : ℕ → Stmt → Block
hidden_block after tree = roll-Block (record { left = after; right = stmt_end tree; hidden = true; list = tree ∷ [] })

unfoldable pub other_node : ℕ → Block → Other
other_node after tree = roll-Other (record { after = after; block = tree })

unfoldable pub case_node : Option (List Expr) → ℕ → List Stmt → CaseClause
case_node values colon list = roll-CaseClause (record { values = values; colon = colon; list = list })

unfoldable pub comm_node : Comm → ℕ → List Stmt → CommClause
comm_node comm colon list = roll-CommClause (record { comm = comm; colon = colon; list = list })

abbrev pub const_end : ConstSpec → ℕ
const_end spec = expr_end spec.value

abbrev pub option_end : Option TypeExpr → ℕ
option_end None = 0
option_end (Some tree) = type_end tree

abbrev pub var_end : VarSpec → ℕ
var_end spec = exprs_end (option_end spec.kind) spec.values
