-- What is proved of the readers of the parts of statements.
use Rattle.std.proofs.Common.{◌≡◌, ◌⊎◌, inl, inr, ℕ, ◌≤◌, max, Bool, true, List, [], ◌∷◌, ◌++◌, Option, Some, None, refl, arith}
use Rattle.go_ast.specs.declared.name.Name.{Name}
use Rattle.go_ast.specs.declared.expr.Expr.{Expr}
use Rattle.go_ast.specs.declared.expr.ExprForm.{out-ExprForm}
use Rattle.go_ast.specs.declared.block.Target.{Target}
use Rattle.go_ast.specs.declared.block.Stmt.{Stmt, out-Stmt}
use Rattle.go_ast.specs.declared.block.StmtForm.{out-StmtForm}
use Rattle.go_ast.specs.declared.block.StmtForm.TheOpen.{StmtForm-F}
use Rattle.go_ast.specs.declared.block.Comm.{Comm}
use Rattle.go_ast.specs.declared.block.Comm.TheVariants as comm
use Rattle.go_grammar.specs.Words.{Word}
use Rattle.go_grammar.specs.Terminals as t
use Rattle.go_grammar.specs.Exprs.{IsExpr, IsExprs, IsMaybe}
use Rattle.go_grammar.specs.Trees.{stmt_node, expr_node}
use Rattle.go_grammar.specs.Simple.{IsTarget, IsSimple, IsComm}
use Rattle.go_grammar.specs.Blocks.{IsFirst, IsMaybeSimple, IsRangeNames}
use Rattle.go_reading.specs.declared.header.Header.{Header}
use Rattle.go_reading.specs.declared.header.ForHead.{ForHead}
use Rattle.go_reading.specs.declared.header.ForHead.TheVariants as f
use Rattle.go_reading.specs.declared.qualified.Qualified.{Qualified}
use Rattle.go_reading.specs.Types.{expr_of, expr_form_by, target_of as target_of_qualified, target_by as target_by'}
use Rattle.go_reading.specs.Simple.{target_by, target_of, eval_stmt}
use Rattle.go_reading.specs.Input.{Tall}
use Rattle.go_reading.proofs.Good.{Room, ◌⊑◌, Form, Rises}

-- ---- statements

abbrev target_in_by : {A B C D E F : Type 0} → StmtForm-F A B C D E F → Option Target
target_in_by (StmtForm-F.Eval e) = target_of e
target_in_by _ = None

-- the target that a statement is, if it is nothing else
unfoldable pub target_in : Stmt → Option Target
target_in x = target_in_by (out-StmtForm (out-Stmt x).form)

pub target_in_eval : (q : Qualified) → target_in (eval_stmt (expr_of q)) ≡ Some (target_of_qualified q)
unfolding target_in stmt_node expr_node out-StmtForm out-ExprForm denote.Hole.Carrier.out
target_in_eval q = by q.member
  where
    by : (m : Option Name) → target_by (out-ExprForm (expr_form_by q.name m)) ≡ Some (target_by' q.name m)
    by None = refl
    by (Some n) = refl

-- a target, of which `++` makes a statement of one level, stands where it is alone
pub record IsBare (b : Room) (x : Stmt) (w : List Word) : Type 0 where
  pub target : Target
  pub is : target_in x ≡ Some target
  pub spells : IsTarget 0 target w
  pub some : 1 ≤ b.0

pub bare_rises : (b c : Room) → b ⊑ c → (x : Tall Stmt) (w : List Word) → ((x.1 ≤ b.0) ⊎ IsBare b x.0 w) → (x.1 ≤ c.0) ⊎ IsBare c x.0 w
bare_rises b c le x w (inl h) = inl (let l = le.0 in omega arith)
bare_rises b c le x w (inr i) = inr (record { target = i.target; is = i.is; spells = i.spells; some = let s = i.some in let l = le.0 in omega arith })

-- a simple statement, in the room or a target alone
abbrev pub SimpleLoose : Form (Tall Stmt)
SimpleLoose b x w = IsSimple x.1 x.0 w × ((x.1 ≤ b.0) ⊎ IsBare b x.0 w)

pub simple_loose_rises : Rises SimpleLoose
simple_loose_rises b c le x w s = (s.0, bare_rises b c le x w s.1)

-- ---- headers

-- what stands between `if` or `switch` and its `{`; a test has to be there, or may be
pub record HeaderOf (tests : Bool) (b : Room) (x : Tall Header) (w : List Word) : Type 0 where
  pub low : ℕ
  pub high : ℕ
  pub front : List Word
  pub back : List Word
  pub both : w ≡ front ++ back
  pub begins : IsFirst low x.0.first front
  pub test : IsMaybe high x.0.test back
  pub tall : x.1 ≡ max low high
  pub fits : x.1 ≤ b.0
  pub some : tests ≡ true → (e : Expr) × (x.0.test ≡ Some e)

pub header_rises : (tests : Bool) → Rises (HeaderOf tests)
header_rises tests b c le x w s = record { low = s.low; high = s.high; front = s.front; back = s.back; both = s.both; begins = s.begins; test = s.test; tall = s.tall; fits = let h = s.fits in let l = le.0 in omega arith; some = s.some }

-- what stands between `for` and its `{`
pub data IsForHead : ℕ → ForHead → List Word → Type 0 where
  test_is : (h : ℕ) (o : Option Expr) (w : List Word) → IsMaybe h o w → IsForHead h (f.Test o) w
  parts_are : (a b : Word) (i j m : ℕ) (first last : Option Stmt) (test : Option Expr) (u v w : List Word) → IsMaybeSimple i first u → a.kind ≡ t.semicolon → IsMaybe j test v → b.kind ≡ t.semicolon → IsMaybeSimple m last w
      → IsForHead (max (max i j) m) (f.Parts first test last) (u ++ a ∷ (v ++ b ∷ w))
  range_is : (r : Word) (l h : ℕ) (ns : List Name) (over : Expr) (u v : List Word) → IsRangeNames ns u → r.kind ≡ t.range_word → IsExpr l h over v → IsForHead h (f.Range ns over) (u ++ r ∷ v)

-- ---- clauses, up to their colons

pub data IsCaseHead : ℕ → Option (List Expr) × ℕ → List Word → Type 0 where
  case_is : (k c : Word) (h : ℕ) (es : List Expr) (w : List Word) → k.kind ≡ t.case_word → IsExprs h es w → c.kind ≡ t.colon → IsCaseHead h (Some es, c.span.start) (k ∷ (w ++ c ∷ []))
  default_is : (k c : Word) → k.kind ≡ t.default_word → c.kind ≡ t.colon → IsCaseHead 0 (None, c.span.start) (k ∷ c ∷ [])

pub data IsCommHead : ℕ → Comm × ℕ → List Word → Type 0 where
  comm_is : (k c : Word) (h : ℕ) (m : Comm) (w : List Word) → k.kind ≡ t.case_word → IsComm h m w → c.kind ≡ t.colon → IsCommHead h (m, c.span.start) (k ∷ (w ++ c ∷ []))
  none_is : (k c : Word) → k.kind ≡ t.default_word → c.kind ≡ t.colon → IsCommHead 0 (comm.Default, c.span.start) (k ∷ c ∷ [])
