-- A statement starts where the first of its tokens does.
use Rattle.std.proofs.Common.{◌≡◌, ℕ, List, [], ◌∷◌, ◌++◌, refl, sym, ap, subst}
use Rattle.go_ast.specs.declared.expr.Expr.{Expr}
use Rattle.go_ast.specs.declared.block.Target.{Target}
use Rattle.go_ast.specs.declared.block.Stmt.{Stmt}
use Rattle.go_ast.specs.declared.block.StmtForm.{StmtForm}
use Rattle.go_ast.specs.declared.name.Name.{Name}
use Rattle.go_grammar.specs.Words.{Word}
use Rattle.go_grammar.specs.Terminals as t
use Rattle.go_grammar.specs.Lists as lists
use Rattle.go_grammar.specs.Lists.{IsRow}
use Rattle.go_grammar.specs.Types.{IsName, name}
use Rattle.go_grammar.specs.Exprs as e
use Rattle.go_grammar.specs.Exprs.{IsExpr}
use Rattle.go_grammar.specs.Simple as simple
use Rattle.go_grammar.specs.Simple.{IsTarget, IsSimple}
use Rattle.go_grammar.specs.Blocks as g
use Rattle.go_grammar.specs.Blocks.{source, IsStmt, IsIf, IsBreakable, IsBlock}
use Rattle.go_grammar.specs.Trees.{stmt_node, expr_start, expr_node, target_start, targets_start, names_start, block_left}
use Rattle.cov_cut.specs.Outline.{mark_of}
use Rattle.cov_cut.specs.Outlining.{Braced, outline}
use Rattle.cov_tokens.proofs.Layered.{node_outline, block_fields}

-- the first of the words starts there
pub record StartsWith (w : List Word) (at : ℕ) : Type 0 where
  pub first : Word
  pub rest : List Word
  pub is : w ≡ first ∷ rest
  pub start : first.span.start ≡ at

pub starts_here : (x : Word) (w : List Word) → StartsWith (x ∷ w) x.span.start
starts_here x w = record { first = x; rest = w; is = refl; start = refl }

pub starts_front : (u v : List Word) (at : ℕ) → StartsWith u at → StartsWith (u ++ v) at
starts_front u v at s = record { first = s.first; rest = s.rest ++ v; is = ap (λ (x : List Word). x ++ v) s.is; start = s.start }

starts_at : (w : List Word) (a b : ℕ) → a ≡ b → StartsWith w a → StartsWith w b
starts_at w a b e s = subst (StartsWith w) e s

pub expr_first : (l h : ℕ) (x : Expr) (w : List Word) → IsExpr l h x w → StartsWith w (expr_start x)
unfolding expr_node
expr_first l h x w (e.int n k) = starts_here n []
expr_first l h x w (e.rune n k) = starts_here n []
expr_first l h x w (e.text n k) = starts_here n []
expr_first l h x w (e.plain n k) = starts_here n []
expr_first l h x w (e.member p d n k k' k'') = starts_here p (d ∷ n ∷ [])
expr_first l h x w (e.channel c i of v k inner) = starts_here c v
expr_first l h x w (e.parens a b l' i y v k inner k') = starts_here a (v ++ b ∷ [])
expr_first l h x w (e.called a b i j y ys v u inner k more k') = starts_front v (a ∷ (u ++ b ∷ [])) (expr_start y) (expr_first 7 i y v inner)
expr_first l h x w (e.indexed a b l' i j y z v u inner k more k') = starts_front v (a ∷ (u ++ b ∷ [])) (expr_start y) (expr_first 7 i y v inner)
expr_first l h x w (e.cut a c b i j m y low high v u z inner k lows k' highs k'') = starts_front v (a ∷ (u ++ c ∷ (z ++ b ∷ []))) (expr_start y) (expr_first 7 i y v inner)
expr_first l h x w (e.signed a op l' i y v k inner le) = starts_here a v
expr_first l h x w (e.operated o op l' l'' i j y z v u left le k right lt) = starts_front v (o ∷ u) (expr_start y) (expr_first l' i y v left)

target_first : (h : ℕ) (x : Target) (w : List Word) → IsTarget h x w → StartsWith w (target_start x)
target_first h x w (simple.plain_target n k) = starts_here n []
target_first h x w (simple.member_target p d n k k' k'') = starts_here p (d ∷ n ∷ [])

targets_first : (h : ℕ) (xs : List Target) (w : List Word) → IsRow t.comma IsTarget h xs w → StartsWith w (targets_start xs)
targets_first h xs w (lists.one_item i x v inner) = target_first i x v inner
targets_first h xs w (lists.more_items s i j x ys v u inner k more) = starts_front v (s ∷ u) (target_start x) (target_first i x v inner)

names_first : (h : ℕ) (ns : List Name) (w : List Word) → IsRow t.comma IsName h ns w → StartsWith w (names_start ns)
names_first h ns w (lists.one_item i x v (name n k)) = starts_here n []
names_first h ns w (lists.more_items s i j x ys v u (name n k) k' more) = starts_here n (s ∷ u)

node_start : (start end : ℕ) (form : StmtForm) → start ≡ (mark_of (outline (stmt_node start end form))).start
node_start start end form = sym (ap (λ n. (mark_of n).start) (node_outline start end form))

of_node : (w : List Word) (start end : ℕ) (form : StmtForm) → StartsWith w start → StartsWith w (mark_of (outline (stmt_node start end form))).start
of_node w start end form s = starts_at w start (mark_of (outline (stmt_node start end form))).start (node_start start end form) s

simple_first : (h : ℕ) (x : Stmt) (w : List Word) → IsSimple h x w → StartsWith w (mark_of (outline x)).start
simple_first h x w (simple.evaluated l i y v inner) = of_node v (expr_start y) _ _ (expr_first l i y v inner)
simple_first h x w (simple.sent s l l' i j a b u v left k right) = of_node (u ++ s ∷ v) (expr_start a) _ _ (starts_front u (s ∷ v) (expr_start a) (expr_first l i a u left))
simple_first h x w (simple.raised s y u inner k) = of_node (u ++ s ∷ []) (target_start y) _ _ (starts_front u (s ∷ []) (target_start y) (target_first 0 y u inner))
simple_first h x w (simple.lowered s y u inner k) = of_node (u ++ s ∷ []) (target_start y) _ _ (starts_front u (s ∷ []) (target_start y) (target_first 0 y u inner))
simple_first h x w (simple.updated s op l i y z u v inner k value) = of_node (u ++ s ∷ v) (target_start y) _ _ (starts_front u (s ∷ v) (target_start y) (target_first 0 y u inner))
simple_first h x w (simple.assigned s i ys es u v inner k values) = of_node (u ++ s ∷ v) (targets_start ys) _ _ (starts_front u (s ∷ v) (targets_start ys) (targets_first 0 ys u inner))
simple_first h x w (simple.defined s i ns es u v inner k values) = of_node (u ++ s ∷ v) (names_start ns) _ _ (starts_front u (s ∷ v) (names_start ns) (names_first 0 ns u inner))

module _ (most : ℕ) where
  if_first : (h : ℕ) (x : Stmt) (w : List Word) → IsIf source most h x w → StartsWith w (mark_of (outline x)).start
  if_first h x w (g.if_ k l i j m n end end' first test then other u v z y e firsts tests thens others) = of_node (k ∷ (u ++ (v ++ (z ++ y)))) k.span.start _ _ (starts_here k (u ++ (v ++ (z ++ y))))

  breakable_first : (h : ℕ) (x : Stmt) (w : List Word) → IsBreakable source most h x w → StartsWith w (mark_of (outline x)).start
  breakable_first h x w (g.for_test k i j end test b u v e tests inner) = of_node (k ∷ (u ++ v)) k.span.start _ _ (starts_here k (u ++ v))
  breakable_first h x w (g.for_parts k a b i j m n end first last test body u v z y e firsts f tests f' lasts inner) = of_node (k ∷ (u ++ a ∷ (v ++ b ∷ (z ++ y)))) k.span.start _ _ (starts_here k (u ++ a ∷ (v ++ b ∷ (z ++ y))))
  breakable_first h x w (g.for_range k r l i j end ns over b u v z e names f value inner) = of_node (k ∷ (u ++ r ∷ (v ++ z))) k.span.start _ _ (starts_here k (u ++ r ∷ (v ++ z)))
  breakable_first h x w (g.switch k a b i j m first tag cs u v z e firsts tags f inner f') = of_node (k ∷ (u ++ (v ++ a ∷ (z ++ b ∷ [])))) k.span.start _ _ (starts_here k (u ++ (v ++ a ∷ (z ++ b ∷ []))))
  breakable_first h x w (g.select k a b i cs z e f inner few f') = of_node (k ∷ a ∷ (z ++ b ∷ [])) k.span.start _ _ (starts_here k (a ∷ (z ++ b ∷ [])))

  pub stmt_first : (h : ℕ) (x : Stmt) (w : List Word) → IsStmt source most h x w → StartsWith w (mark_of (outline x)).start
  stmt_first h x w (g.constants k i end cs v e specs) = of_node (k ∷ v) k.span.start _ _ (starts_here k v)
  stmt_first h x w (g.variables k i end vs v e specs) = of_node (k ∷ v) k.span.start _ _ (starts_here k v)
  stmt_first h x w (g.simple i y v inner) = simple_first i y v inner
  stmt_first h x w (g.nested i end b v (g.braces a c j ss u e inner f)) =
      of_node (a ∷ (u ++ c ∷ [])) (block_left b) _ _
      (starts_at (a ∷ (u ++ c ∷ [])) a.span.start (block_left b) (sym (ap (λ (d : Braced). d.left) (block_fields a.span.start c.span.start ss))) (starts_here a (u ++ c ∷ [])))
  stmt_first h x w (g.branch i y v inner) = if_first i y v inner
  stmt_first h x w (g.breakable i y v inner) = breakable_first i y v inner
  stmt_first h x w (g.labelled n c i y v e f inner) = of_node (n ∷ c ∷ v) n.span.start _ _ (starts_here n (c ∷ v))
  stmt_first h x w (g.return_none k e) = of_node (k ∷ []) k.span.start _ _ (starts_here k [])
  stmt_first h x w (g.return_some k i es v e values) = of_node (k ∷ v) k.span.start _ _ (starts_here k v)
  stmt_first h x w (g.breaks k e) = of_node (k ∷ []) k.span.start _ _ (starts_here k [])
  stmt_first h x w (g.breaks_to k n e f) = of_node (k ∷ n ∷ []) k.span.start _ _ (starts_here k (n ∷ []))
  stmt_first h x w (g.continues k e) = of_node (k ∷ []) k.span.start _ _ (starts_here k [])
  stmt_first h x w (g.continues_to k n e f) = of_node (k ∷ n ∷ []) k.span.start _ _ (starts_here k (n ∷ []))
  stmt_first h x w (g.falls k e) = of_node (k ∷ []) k.span.start _ _ (starts_here k [])
  stmt_first h x w (g.goes k l i y v e value) = of_node (k ∷ v) k.span.start _ _ (starts_here k v)
  stmt_first h x w (g.defers k l i y v e value) = of_node (k ∷ v) k.span.start _ _ (starts_here k v)
  stmt_first h x w (g.counted a var mode count i v e lt fit) = absurd cc
