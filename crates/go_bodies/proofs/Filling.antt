-- The parts of a `for`, one after the other, are those of what is checked.
use Rattle.std.proofs.Common.{◌≡◌, ◌∙◌, ℕ, sym, ap, subst, Option, Ok, Err}
use Rattle.go_ast.specs.declared.expr.Expr.{Expr as Written}
use Rattle.go_ast.specs.declared.block.Block.{Block}
use Rattle.go_ast.specs.declared.block.Stmt.{Stmt}
use Rattle.go_ast.specs.declared.block.StmtForm.TheOpen.{StmtForm-F}
use Rattle.go_meaning.specs.declared.expr.Expr.{Expr}
use Rattle.go_meaning.specs.declared.node.Simple.{Simple}
use Rattle.go_meaning.specs.declared.node.NodeForm.{NodeForm}
use Rattle.go_meaning.specs.declared.node.NodeForm.TheVariants as node
use Rattle.go_types.specs.declared.fault.Refusal.{Refusal}
use Rattle.go_types.specs.declared.fault.Refusal.TheVariants.{At, NoMemory}
use Rattle.go_types.specs.declared.walk.Walk.{Walk}
use Rattle.go_types.specs.Checking.{Checked, and_then}
use Rattle.go_types.specs.Walking.{Walking, Walks}
use Rattle.go_types.specs.Bodies.{first_of, check_stmt, block_parts, last_part, repeated, for_parts, condition_if}
use Rattle.go_bodies.specs.declared.parts.ForParts.{ForParts}
use Rattle.go_bodies.specs.Parts.{Form, FillsFor, Fills, for_node}

goes_on : {A B : Type 0} (p : Checked A) (k : A → Checked B) (a : A) → p ≡ Ok a → and_then p k ≡ k a
goes_on p k a e = ap (λ q. and_then q k) e

-- three parts are checked, and the body is next
to_body : (e : Option Written) (F L : Walking (Option Simple)) (B : Walking ℕ) (s s1 s2 s3 : Walk) (f : Option Simple) (x : Option Expr) (g : Option Simple)
    → F s ≡ Ok (f, s1) → condition_if e s1 ≡ Ok (x, s2) → L s2 ≡ Ok (g, s3)
    → for_parts e F L B s ≡ and_then (B s3) (λ v. Ok (node.For f x g v.0, v.1))
unfolding for_parts
to_body e F L B s s1 s2 s3 f x g a b d =
    goes_on (F s) (λ p. and_then (condition_if e p.1) (λ q. and_then (L q.1) (λ u. and_then (B u.1) (λ v. Ok (node.For p.0 q.0 u.0 v.0, v.1))))) (f, s1) a
    ∙ goes_on (condition_if e s1) (λ q. and_then (L q.1) (λ u. and_then (B u.1) (λ v. Ok (node.For f q.0 u.0 v.0, v.1)))) (x, s2) b
    ∙ goes_on (L s2) (λ u. and_then (B u.1) (λ v. Ok (node.For f x u.0 v.0, v.1))) (g, s3) d

abbrev done_with : Option Simple → Option Expr → Option Simple → Checked (ℕ × Walk) → Checked (NodeForm × Walk)
done_with f x g r = and_then r (λ v. Ok (node.For f x g v.0, v.1))

pub fills_done : (label : Option ℕ) (form : Form) (first : Option Stmt) (e : Option Written) (last : Option Stmt) (b : Block) → form ≡ StmtForm-F.For first e last b
    → (s s1 s2 s3 s4 : Walk) (f : Option Simple) (x : Option Expr) (g : Option Simple) (l : ℕ) (parts : ForParts)
    → first_of Stmt check_stmt first s ≡ Ok (f, s1) → condition_if e s1 ≡ Ok (x, s2) → last_part (first_of Stmt check_stmt last) s2 ≡ Ok (g, s3)
    → repeated label (block_parts b).list s3 ≡ Ok (l, s4) → for_node parts ≡ node.For f x g l
    → FillsFor label form s (Ok tt) parts s4
fills_done label form first e last b is s s1 s2 s3 s4 f x g l parts p q u v same =
    subst (λ y. FillsFor label y s (Ok tt) parts s4) (sym is)
    (to_body e (first_of Stmt check_stmt first) (last_part (first_of Stmt check_stmt last)) (repeated label (block_parts b).list) s s1 s2 s3 f x g p q u
    ∙ ap (done_with f x g) v ∙ ap (λ (n : NodeForm). let r : Checked (NodeForm × Walk) = Ok (n, s4) in r) (sym same))

failed : (f : Option Simple) (x : Option Expr) (g : Option Simple) (r : Checked (ℕ × Walk)) (all : Checked (NodeForm × Walk)) (n : Refusal) (parts : ForParts) (s : Walk)
    → all ≡ done_with f x g r → Walks r (Err n) s → Fills all (Err n) parts s
failed f x g r all (At fault) parts s is w = is ∙ ap (done_with f x g) w
failed f x g r all NoMemory parts s is w = tt

pub fills_failed : (label : Option ℕ) (form : Form) (first : Option Stmt) (e : Option Written) (last : Option Stmt) (b : Block) → form ≡ StmtForm-F.For first e last b
    → (s s1 s2 s3 s4 : Walk) (f : Option Simple) (x : Option Expr) (g : Option Simple) (n : Refusal) (parts : ForParts)
    → first_of Stmt check_stmt first s ≡ Ok (f, s1) → condition_if e s1 ≡ Ok (x, s2) → last_part (first_of Stmt check_stmt last) s2 ≡ Ok (g, s3)
    → Walks (repeated label (block_parts b).list s3) (Err n) s4
    → FillsFor label form s (Err n) parts s4
fills_failed label form first e last b is s s1 s2 s3 s4 f x g n parts p q u w =
    subst (λ y. FillsFor label y s (Err n) parts s4) (sym is)
    (failed f x g (repeated label (block_parts b).list s3) (for_parts e (first_of Stmt check_stmt first) (last_part (first_of Stmt check_stmt last)) (repeated label (block_parts b).list) s) n parts s4
    (to_body e (first_of Stmt check_stmt first) (last_part (first_of Stmt check_stmt last)) (repeated label (block_parts b).list) s s1 s2 s3 f x g p q u) w)
