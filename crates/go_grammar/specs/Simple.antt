-- Statements without statements in them: which tokens spell which tree.
use Rattle.std.specs.Prelude.{◌≡◌, ℕ, ◌+◌, ◌≤◌, max, List, [], ◌∷◌, ◌++◌, Option, Some}
use Rattle.go_ast.specs.declared.token.TokenKind.TheVariants as kind
use Rattle.go_ast.specs.declared.name.Name.{Name}
use Rattle.go_ast.specs.declared.expr.TypeExpr.{TypeExpr}
use Rattle.go_ast.specs.declared.expr.Expr.{Expr}
use Rattle.go_ast.specs.declared.expr.BinaryOp.{BinaryOp}
use Rattle.go_ast.specs.declared.block.Target.{Target}
use Rattle.go_ast.specs.declared.block.Target.TheVariants as target
use Rattle.go_ast.specs.declared.block.ConstSpec.{ConstSpec}
use Rattle.go_ast.specs.declared.block.VarSpec.{VarSpec}
use Rattle.go_ast.specs.declared.block.Stmt.{Stmt}
use Rattle.go_ast.specs.declared.block.StmtForm.TheVariants as stmt
use Rattle.go_ast.specs.declared.block.Comm.{Comm}
use Rattle.go_ast.specs.declared.block.Comm.TheVariants as comm
use Rattle.go_grammar.specs.Words.{Word}
use Rattle.go_grammar.specs.Terminals as t
use Rattle.go_grammar.specs.Lists.{IsRow, IsGroup}
use Rattle.go_grammar.specs.Types.{IsNames, IsType, IsMaybeType}
use Rattle.go_grammar.specs.Exprs.{IsExpr, IsExprs}
use Rattle.go_grammar.specs.Trees.{name_of, stmt_node, expr_start, expr_end, exprs_end, target_start, targets_start, names_start, update_kind, const_end, var_end}

-- ---- declarations

-- CSpec = Name [ Type ] "=" Expr
pub data IsConstSpec : ℕ → ConstSpec → List Word → Type 0 where
  const_spec : (n e : Word) (l h h' : ℕ) (of : Option TypeExpr) (x : Expr) (u v : List Word) → n.kind ≡ kind.Name → IsMaybeType h of u → e.kind ≡ t.assign → IsExpr l h' x v
      → IsConstSpec (max h h') (record { name = name_of n; kind = of; value = x }) (n ∷ (u ++ e ∷ v))

-- VSpec = Names ( Type [ "=" Exprs ] | "=" Exprs )
pub data IsVarSpec : ℕ → VarSpec → List Word → Type 0 where
  typed_var : (h : ℕ) (ns : List Name) (of : TypeExpr) (u w : List Word) → IsNames ns u → IsType h of w
      → IsVarSpec h (record { names = ns; kind = Some of; values = [] }) (u ++ w)
  valued_var : (e : Word) (h h' : ℕ) (ns : List Name) (of : Option TypeExpr) (es : List Expr) (u w v : List Word) → IsNames ns u → IsMaybeType h of w → e.kind ≡ t.assign → IsExprs h' es v
      → IsVarSpec (max h h') (record { names = ns; kind = of; values = es }) (u ++ (w ++ e ∷ v))

-- CSpec | "(" { CSpec ";" } ")"
abbrev pub IsConsts : ℕ → List ConstSpec → ℕ → List Word → Type 0
IsConsts = IsGroup IsConstSpec const_end

-- VSpec | "(" { VSpec ";" } ")"
abbrev pub IsVars : ℕ → List VarSpec → ℕ → List Word → Type 0
IsVars = IsGroup IsVarSpec var_end

-- ---- simple statements

-- Target = Name | Name "." Name
pub data IsTarget : ℕ → Target → List Word → Type 0 where
  plain_target : (n : Word) → n.kind ≡ kind.Name → IsTarget 0 (target.Plain (name_of n)) (n ∷ [])
  member_target : (p d n : Word) → p.kind ≡ kind.Name → d.kind ≡ t.point → n.kind ≡ kind.Name → IsTarget 0 (target.Member (name_of p) (name_of n)) (p ∷ d ∷ n ∷ [])

-- Target { "," Target }
abbrev pub IsTargets : List Target → List Word → Type 0
IsTargets targets w = IsRow t.comma IsTarget 0 targets w

-- Simple = Expr | Expr "<-" Expr | Target "++" | Target "--" | Target OpAssign Expr
--        | Target { "," Target } "=" Exprs | Names ":=" Exprs
pub data IsSimple : ℕ → Stmt → List Word → Type 0 where
  evaluated : (l h : ℕ) (e : Expr) (w : List Word) → IsExpr l h e w → IsSimple (h + 1) (stmt_node (expr_start e) (expr_end e) (stmt.Eval e)) w
  sent : (s : Word) (l l' h h' : ℕ) (a b : Expr) (u v : List Word) → IsExpr l h a u → s.kind ≡ t.arrow → IsExpr l' h' b v
      → IsSimple (max h h' + 1) (stmt_node (expr_start a) (expr_end b) (stmt.Send a b)) (u ++ s ∷ v)
  raised : (s : Word) (g : Target) (u : List Word) → IsTarget 0 g u → s.kind ≡ t.increment → IsSimple 1 (stmt_node (target_start g) s.span.end (stmt.Up g)) (u ++ s ∷ [])
  lowered : (s : Word) (g : Target) (u : List Word) → IsTarget 0 g u → s.kind ≡ t.decrement → IsSimple 1 (stmt_node (target_start g) s.span.end (stmt.Down g)) (u ++ s ∷ [])
  updated : (s : Word) (op : BinaryOp) (l h : ℕ) (g : Target) (e : Expr) (u v : List Word) → IsTarget 0 g u → update_kind op ≡ Some s.kind → IsExpr l h e v
      → IsSimple (h + 1) (stmt_node (target_start g) (expr_end e) (stmt.Update g op e)) (u ++ s ∷ v)
  assigned : (s : Word) (h : ℕ) (gs : List Target) (es : List Expr) (u v : List Word) → IsTargets gs u → s.kind ≡ t.assign → IsExprs h es v
      → IsSimple (h + 1) (stmt_node (targets_start gs) (exprs_end 0 es) (stmt.Assign gs es)) (u ++ s ∷ v)
  defined : (s : Word) (h : ℕ) (ns : List Name) (es : List Expr) (u v : List Word) → IsNames ns u → s.kind ≡ t.define → IsExprs h es v
      → IsSimple (h + 1) (stmt_node (names_start ns) (exprs_end 0 es) (stmt.Define ns es)) (u ++ s ∷ v)

-- ---- what a clause of a select waits for

-- Comm = Expr "<-" Expr | [ Target { "," Target } "=" | Names ":=" ] "<-" Unary
pub data IsComm : ℕ → Comm → List Word → Type 0 where
  send : (s : Word) (l l' h h' : ℕ) (a b : Expr) (u v : List Word) → IsExpr l h a u → s.kind ≡ t.arrow → IsExpr l' h' b v → IsComm (max h h') (comm.Send a b) (u ++ s ∷ v)
  take_ : (r : Word) (l h : ℕ) (e : Expr) (w : List Word) → r.kind ≡ t.arrow → IsExpr l h e w → 6 ≤ l → IsComm h (comm.Take [] e) (r ∷ w)
  take_into : (s r : Word) (l h : ℕ) (gs : List Target) (e : Expr) (u w : List Word) → IsTargets gs u → s.kind ≡ t.assign → r.kind ≡ t.arrow → IsExpr l h e w → 6 ≤ l → IsComm h (comm.Take gs e) (u ++ s ∷ r ∷ w)
  take_new : (s r : Word) (l h : ℕ) (ns : List Name) (e : Expr) (u w : List Word) → IsNames ns u → s.kind ≡ t.define → r.kind ≡ t.arrow → IsExpr l h e w → 6 ≤ l → IsComm h (comm.TakeNew ns e) (u ++ s ∷ r ∷ w)
