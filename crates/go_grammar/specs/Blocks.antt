-- Statements and blocks: which tokens spell which tree.
use Rattle.std.specs.Prelude.{◌≡◌, ℕ, ◌+◌, ◌≤◌, ◌<◌, max, List, [], ◌∷◌, ◌++◌, length, Option, Some, None}
use Rattle.go_ast.specs.declared.token.TokenKind.TheVariants as kind
use Rattle.go_ast.specs.declared.name.Name.{Name}
use Rattle.go_ast.specs.declared.expr.Expr.{Expr}
use Rattle.go_ast.specs.declared.block.ConstSpec.{ConstSpec}
use Rattle.go_ast.specs.declared.block.VarSpec.{VarSpec}
use Rattle.go_ast.specs.declared.block.Stmt.{Stmt}
use Rattle.go_ast.specs.declared.block.StmtForm.TheVariants as stmt
use Rattle.go_ast.specs.declared.block.Block.{Block}
use Rattle.go_ast.specs.declared.block.Other.{Other}
use Rattle.go_ast.specs.declared.block.CaseClause.{CaseClause}
use Rattle.go_ast.specs.declared.block.CommClause.{CommClause}
use Rattle.go_ast.specs.declared.block.Comm.{Comm}
use Rattle.go_ast.specs.declared.block.Comm.TheVariants as comm
use Rattle.go_grammar.specs.declared.form.CounterForm.{CounterForm}
use Rattle.go_grammar.specs.declared.form.Form.{Form}
use Rattle.go_grammar.specs.declared.form.Form.TheVariants as form
use Rattle.go_grammar.specs.Words.{Word}
use Rattle.go_grammar.specs.Terminals as t
use Rattle.go_grammar.specs.Patterns.{AllFit}
use Rattle.go_grammar.specs.Covering.{counter}
use Rattle.go_grammar.specs.Lists.{MayBe}
use Rattle.go_grammar.specs.Types.{IsNames}
use Rattle.go_grammar.specs.Exprs.{IsExpr, IsExprs, IsMaybe}
use Rattle.go_grammar.specs.Simple.{IsConsts, IsVars, IsSimple, IsComm}
use Rattle.go_grammar.specs.Trees.{name_of, stmt_node, stmt_end, expr_end, exprs_end, block_node, block_left, hidden_block, other_node, case_node, comm_node}

-- the form of a text as its author wrote it
abbrev pub source : Form
source = form.Source

-- and with the counters of a number of units
abbrev pub covered : List ℕ → CounterForm → ℕ → Form
covered var mode count = form.Covered var mode count

-- the end of the last token
abbrev pub last_end : Word → List Word → ℕ
last_end a [] = a.span.end
last_end a (b ∷ w) = last_end b w

-- [ Simple ";" ]
pub data IsFirst : ℕ → Option Stmt → List Word → Type 0 where
  no_first : IsFirst 0 None []
  some_first : (s : Word) (h : ℕ) (x : Stmt) (w : List Word) → IsSimple h x w → s.kind ≡ t.semicolon → IsFirst h (Some x) (w ++ s ∷ [])

-- [ Simple ]
pub data IsMaybeSimple : ℕ → Option Stmt → List Word → Type 0 where
  no_simple : IsMaybeSimple 0 None []
  some_simple : (h : ℕ) (x : Stmt) (w : List Word) → IsSimple h x w → IsMaybeSimple h (Some x) w

-- [ [ Names ":=" ] ]
pub data IsRangeNames : List Name → List Word → Type 0 where
  no_names : IsRangeNames [] []
  range_names : (s : Word) (ns : List Name) (w : List Word) → IsNames ns w → s.kind ≡ t.define → IsRangeNames ns (w ++ s ∷ [])

-- The tokens w spell a statement of height h in the form, and no `select` in it has more clauses than `most`. The end of a
-- block, a statement or what follows one is the end of its last token.
mutual
  -- Stmt = Const | Var | Simple | Block | If | For | Switch | Select | Label | "return" [ Exprs ]
  --      | "break" [ Name ] | "continue" [ Name ] | "fallthrough" | "go" Expr | "defer" Expr
  -- and in a covered text the counter of a unit, which isn't counted in a height.
  -- Label = Name ":" ( For | Switch | Select )
  pub data IsStmt (form : Form) (most : ℕ) : ℕ → Stmt → List Word → Type 0 where
    constants : (k : Word) (h end : ℕ) (cs : List ConstSpec) (w : List Word) → k.kind ≡ t.const_word → IsConsts h cs end w → IsStmt form most (h + 1) (stmt_node k.span.start end (stmt.Const cs)) (k ∷ w)
    variables : (k : Word) (h end : ℕ) (vs : List VarSpec) (w : List Word) → k.kind ≡ t.var_word → IsVars h vs end w → IsStmt form most (h + 1) (stmt_node k.span.start end (stmt.Var vs)) (k ∷ w)
    simple : (h : ℕ) (x : Stmt) (w : List Word) → IsSimple h x w → IsStmt form most h x w
    nested : (h end : ℕ) (b : Block) (w : List Word) → IsBlock form most h b end w → IsStmt form most (h + 1) (stmt_node (block_left b) end (stmt.Block b)) w
    branch : (h : ℕ) (x : Stmt) (w : List Word) → IsIf form most h x w → IsStmt form most h x w
    breakable : (h : ℕ) (x : Stmt) (w : List Word) → IsBreakable form most h x w → IsStmt form most h x w
    labelled : (n c : Word) (h : ℕ) (x : Stmt) (w : List Word) → n.kind ≡ kind.Name → c.kind ≡ t.colon → IsBreakable form most h x w
        → IsStmt form most (h + 1) (stmt_node n.span.start (stmt_end x) (stmt.Label (name_of n) x)) (n ∷ c ∷ w)
    return_none : (k : Word) → k.kind ≡ t.return_word → IsStmt form most 1 (stmt_node k.span.start k.span.end (stmt.Return [])) (k ∷ [])
    return_some : (k : Word) (h : ℕ) (es : List Expr) (w : List Word) → k.kind ≡ t.return_word → IsExprs h es w → IsStmt form most (h + 1) (stmt_node k.span.start (exprs_end 0 es) (stmt.Return es)) (k ∷ w)
    breaks : (k : Word) → k.kind ≡ t.break_word → IsStmt form most 1 (stmt_node k.span.start k.span.end (stmt.Break None)) (k ∷ [])
    breaks_to : (k n : Word) → k.kind ≡ t.break_word → n.kind ≡ kind.Name → IsStmt form most 1 (stmt_node k.span.start n.span.end (stmt.Break (Some (name_of n)))) (k ∷ n ∷ [])
    continues : (k : Word) → k.kind ≡ t.continue_word → IsStmt form most 1 (stmt_node k.span.start k.span.end (stmt.Continue None)) (k ∷ [])
    continues_to : (k n : Word) → k.kind ≡ t.continue_word → n.kind ≡ kind.Name → IsStmt form most 1 (stmt_node k.span.start n.span.end (stmt.Continue (Some (name_of n)))) (k ∷ n ∷ [])
    falls : (k : Word) → k.kind ≡ t.fallthrough_word → IsStmt form most 1 (stmt_node k.span.start k.span.end stmt.Fallthrough) (k ∷ [])
    goes : (k : Word) (l h : ℕ) (e : Expr) (w : List Word) → k.kind ≡ t.go_word → IsExpr l h e w → IsStmt form most (h + 1) (stmt_node k.span.start (expr_end e) (stmt.Go e)) (k ∷ w)
    defers : (k : Word) (l h : ℕ) (e : Expr) (w : List Word) → k.kind ≡ t.defer_word → IsExpr l h e w → IsStmt form most (h + 1) (stmt_node k.span.start (expr_end e) (stmt.Defer e)) (k ∷ w)
    counted : (a : Word) (var : List ℕ) (mode : CounterForm) (count i : ℕ) (w : List Word) → form ≡ covered var mode count → i < count → AllFit (counter var mode i) (a ∷ w)
        → IsStmt form most 0 (stmt_node a.span.start (last_end a w) (stmt.Count i)) (a ∷ w)

  -- If = "if" [ Simple ";" ] Expr Block [ "else" ( If | Block ) ]
  pub data IsIf (form : Form) (most : ℕ) : ℕ → Stmt → List Word → Type 0 where
    if_ : (k : Word) (l i j m n end end' : ℕ) (first : Option Stmt) (test : Expr) (then : Block) (other : Option Other) (u v w z : List Word)
        → k.kind ≡ t.if_word → IsFirst i first u → IsExpr l j test v → IsBlock form most m then end w → IsElse form most n other end end' z
        → IsIf form most (max (max i j) (max m n) + 1) (stmt_node k.span.start end' (stmt.If first test then other)) (k ∷ (u ++ (v ++ (w ++ z))))

  -- what follows a block that ends at an offset, and where that ends
  pub data IsElse (form : Form) (most : ℕ) : ℕ → Option Other → ℕ → ℕ → List Word → Type 0 where
    no_else : (end : ℕ) → IsElse form most 0 None end end []
    else_block : (k : Word) (h end end' : ℕ) (b : Block) (w : List Word) → k.kind ≡ t.else_word → IsBlock form most h b end' w → IsElse form most h (Some (other_node k.span.end b)) end end' (k ∷ w)
    else_if : (k : Word) (h end : ℕ) (x : Stmt) (w : List Word) → k.kind ≡ t.else_word → IsIf form most h x w
        → IsElse form most (h + 1) (Some (other_node k.span.end (hidden_block k.span.end x))) end (stmt_end x) (k ∷ w)

  -- For    = "for" ( [ Expr ] | [ Simple ] ";" [ Expr ] ";" [ Simple ] | [ Names ":=" ] "range" Expr ) Block
  -- Switch = "switch" [ Simple ";" ] [ Expr ] "{" { ( "case" Exprs | "default" ) ":" List } "}"
  -- Select = "select" "{" { ( "case" Comm | "default" ) ":" List } "}"
  pub data IsBreakable (form : Form) (most : ℕ) : ℕ → Stmt → List Word → Type 0 where
    for_test : (k : Word) (i j end : ℕ) (test : Option Expr) (body : Block) (u v : List Word) → k.kind ≡ t.for_word → IsMaybe i test u → IsBlock form most j body end v
        → IsBreakable form most (max i j + 1) (stmt_node k.span.start end (stmt.For None test None body)) (k ∷ (u ++ v))
    for_parts : (k a b : Word) (i j m n end : ℕ) (first last : Option Stmt) (test : Option Expr) (body : Block) (u v w z : List Word)
        → k.kind ≡ t.for_word → IsMaybeSimple i first u → a.kind ≡ t.semicolon → IsMaybe j test v → b.kind ≡ t.semicolon → IsMaybeSimple m last w → IsBlock form most n body end z
        → IsBreakable form most (max (max i j) (max m n) + 1) (stmt_node k.span.start end (stmt.For first test last body)) (k ∷ (u ++ a ∷ (v ++ b ∷ (w ++ z))))
    for_range : (k r : Word) (l i j end : ℕ) (ns : List Name) (over : Expr) (body : Block) (u v w : List Word)
        → k.kind ≡ t.for_word → IsRangeNames ns u → r.kind ≡ t.range_word → IsExpr l i over v → IsBlock form most j body end w
        → IsBreakable form most (max i j + 1) (stmt_node k.span.start end (stmt.Range ns over body)) (k ∷ (u ++ r ∷ (v ++ w)))
    switch : (k a b : Word) (i j m : ℕ) (first : Option Stmt) (tag : Option Expr) (cs : List CaseClause) (u v w : List Word)
        → k.kind ≡ t.switch_word → IsFirst i first u → IsMaybe j tag v → a.kind ≡ t.left_brace → IsCases form most m cs w → b.kind ≡ t.right_brace
        → IsBreakable form most (max (max i j) m + 1) (stmt_node k.span.start b.span.end (stmt.Switch first tag a.span.start cs)) (k ∷ (u ++ (v ++ a ∷ (w ++ b ∷ []))))
    select : (k a b : Word) (h : ℕ) (cs : List CommClause) (w : List Word)
        → k.kind ≡ t.select_word → a.kind ≡ t.left_brace → IsComms form most h cs w → length cs ≤ most → b.kind ≡ t.right_brace
        → IsBreakable form most (h + 1) (stmt_node k.span.start b.span.end (stmt.Select a.span.start cs)) (k ∷ a ∷ (w ++ b ∷ []))

  -- { ( "case" Exprs | "default" ) ":" List }
  pub data IsCases (form : Form) (most : ℕ) : ℕ → List CaseClause → List Word → Type 0 where
    no_cases : IsCases form most 0 [] []
    more_cases : (h h' : ℕ) (c : CaseClause) (cs : List CaseClause) (w v : List Word) → IsCase form most h c w → IsCases form most h' cs v → IsCases form most (max h h') (c ∷ cs) (w ++ v)

  pub data IsCase (form : Form) (most : ℕ) : ℕ → CaseClause → List Word → Type 0 where
    case_ : (k c : Word) (h h' : ℕ) (es : List Expr) (ss : List Stmt) (w v : List Word) → k.kind ≡ t.case_word → IsExprs h es w → c.kind ≡ t.colon → IsList form most h' ss v
        → IsCase form most (max h h') (case_node (Some es) c.span.start ss) (k ∷ (w ++ c ∷ v))
    default_ : (k c : Word) (h : ℕ) (ss : List Stmt) (v : List Word) → k.kind ≡ t.default_word → c.kind ≡ t.colon → IsList form most h ss v → IsCase form most h (case_node None c.span.start ss) (k ∷ c ∷ v)

  -- { ( "case" Comm | "default" ) ":" List }
  pub data IsComms (form : Form) (most : ℕ) : ℕ → List CommClause → List Word → Type 0 where
    no_comms : IsComms form most 0 [] []
    more_comms : (h h' : ℕ) (c : CommClause) (cs : List CommClause) (w v : List Word) → IsCommClause form most h c w → IsComms form most h' cs v → IsComms form most (max h h') (c ∷ cs) (w ++ v)

  pub data IsCommClause (form : Form) (most : ℕ) : ℕ → CommClause → List Word → Type 0 where
    comm_case : (k c : Word) (h h' : ℕ) (m : Comm) (ss : List Stmt) (w v : List Word) → k.kind ≡ t.case_word → IsComm h m w → c.kind ≡ t.colon → IsList form most h' ss v
        → IsCommClause form most (max h h') (comm_node m c.span.start ss) (k ∷ (w ++ c ∷ v))
    comm_default : (k c : Word) (h : ℕ) (ss : List Stmt) (v : List Word) → k.kind ≡ t.default_word → c.kind ≡ t.colon → IsList form most h ss v
        → IsCommClause form most h (comm_node comm.Default c.span.start ss) (k ∷ c ∷ v)

  -- Block = "{" List "}"
  pub data IsBlock (form : Form) (most : ℕ) : ℕ → Block → ℕ → List Word → Type 0 where
    braces : (a b : Word) (h : ℕ) (ss : List Stmt) (w : List Word) → a.kind ≡ t.left_brace → IsList form most h ss w → b.kind ≡ t.right_brace
        → IsBlock form most (h + 1) (block_node a.span.start b.span.start ss) b.span.end (a ∷ (w ++ b ∷ []))

  -- List = [ Stmt { ";" Stmt } [ ";" ] ]
  pub data IsList (form : Form) (most : ℕ) : ℕ → List Stmt → List Word → Type 0 where
    no_stmts : IsList form most 0 [] []
    stmts : (h : ℕ) (ss : List Stmt) (w s : List Word) → IsStmts form most h ss w → MayBe t.semicolon s → IsList form most h ss (w ++ s)

  pub data IsStmts (form : Form) (most : ℕ) : ℕ → List Stmt → List Word → Type 0 where
    one_stmt : (h : ℕ) (x : Stmt) (w : List Word) → IsStmt form most h x w → IsStmts form most h (x ∷ []) w
    more_stmts : (s : Word) (h h' : ℕ) (x : Stmt) (xs : List Stmt) (w v : List Word) → IsStmt form most h x w → s.kind ≡ t.semicolon → IsStmts form most h' xs v
        → IsStmts form most (max h h') (x ∷ xs) (w ++ s ∷ v)
