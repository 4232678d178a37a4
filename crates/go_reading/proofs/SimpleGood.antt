-- The readers of simple statements are good.
use Rattle.std.proofs.Common.{◌≡◌, inl, inr, ℕ, zero, suc, ◌+◌, ◌-◌, ◌≤◌, Bool, false, List, [], Option, Some, None, Ok, refl, sym, ap, ◌∙◌, arith}
use Rattle.std.proofs.lemmas.List.{append-nil}
use Rattle.go_ast.specs.declared.name.Name.{Name}
use Rattle.go_ast.specs.declared.expr.Expr.{Expr}
use Rattle.go_ast.specs.declared.expr.ExprForm.{out-ExprForm}
use Rattle.go_ast.specs.declared.block.Target.TheVariants as target
use Rattle.go_ast.specs.declared.block.Stmt.{Stmt}
use Rattle.go_grammar.specs.Words.{Word}
use Rattle.go_grammar.specs.Terminals as t
use Rattle.go_grammar.specs.Trees.{expr_node, target_start}
use Rattle.go_grammar.specs.Simple.{evaluated}
use Rattle.go_reading.specs.declared.fault.Fault.{Fault}
use Rattle.go_reading.specs.declared.fault.Fault.TheVariants.{TooDeep, Exhausted}
use Rattle.go_reading.specs.declared.qualified.Qualified.{Qualified}
use Rattle.go_reading.specs.declared.lead.Lead.{Lead}
use Rattle.go_reading.specs.declared.lead.Lead.TheVariants as l
use Rattle.go_reading.specs.Kinds.{sign_of}
use Rattle.go_reading.specs.Input.{Reader, Tall, ◌>>=◌, kind_of, take_as}
use Rattle.go_reading.specs.Types.{expr_of, target_of as target_of_qualified}
use Rattle.go_reading.specs.Exprs.{expr}
use Rattle.go_reading.specs.Simple.{target_of, eval_stmt, is_plain, lead, bare, stmt_by, simple}
use Rattle.go_reading.proofs.Good.{Room, ◌⊑◌, Form, Good, Rest, seq, good_pure, good_refuse}
use Rattle.go_reading.proofs.ExprsGood.{AnyExpr, tall}
use Rattle.go_reading.proofs.LeadGood.{Under, under_rises, expr_under, LeadIs, lead_rises, led_good}
use Rattle.go_reading.proofs.BareGood.{Into, simple_loose, Stays, up_by, down_by, by_next, Tail, bare_good, follow_tail, follow_same, named_tail, unnamed_tail, named_bare, unnamed_bare, behind_name, good_regroup}
use Rattle.go_reading.proofs.StmtForms.{SimpleLoose}

-- what is behind the expression of a simple statement
abbrev pub simple_tail : ℕ → ℕ → Tall Expr → Reader (Tall Stmt)
simple_tail n c x = lead n c false x >>= stmt_by

pub target_is_name : (q : Qualified) → target_of (expr_of q) ≡ Some (target_of_qualified q)
unfolding expr_node out-ExprForm denote.Hole.Carrier.out
target_is_name q = go q.member refl
  where
    go : (o : Option Name) → q.member ≡ o → target_of (expr_of q) ≡ Some (target_of_qualified q)
    go None e = rw e refl
    go (Some m) e = rw e refl

start_is : (q : Qualified) → target_start (target_of_qualified q) ≡ q.name.at
start_is q = go q.member refl
  where
    go : (o : Option Name) → q.member ≡ o → target_start (target_of_qualified q) ≡ q.name.at
    go None e = rw e refl
    go (Some m) e = rw e refl

pub tail_up : (n c : ℕ) (q : Qualified) (r : List Word) → kind_of r ≡ Some t.increment → simple_tail n c (expr_of q, 1) r ≡ up_by q r
unfolding lead sign_of take_as
tail_up n c q r k = rw (k, target_is_name q, start_is q) refl

pub tail_down : (n c : ℕ) (q : Qualified) (r : List Word) → kind_of r ≡ Some t.decrement → simple_tail n c (expr_of q, 1) r ≡ down_by q r
unfolding lead sign_of take_as
tail_down n c q r k = rw (k, target_is_name q, start_is q) refl

pub member_target : (q : Qualified) → is_plain q.member ≡ false → (p : Name) × (m : Name) × (target_of_qualified q ≡ target.Member p m)
member_target q e = go q.member refl
  where
    go : (o : Option Name) → q.member ≡ o → (p : Name) × (m : Name) × (target_of_qualified q ≡ target.Member p m)
    go None f = absurd (let g : is_plain None ≡ false = ap is_plain (sym f) ∙ e in cc)
    go (Some m) f = (q.name, m, rw f refl)

pub tail_stays : (labels : Bool) (n c : ℕ) (q : Qualified) (r : List Word) → Stays labels q (kind_of r) → simple_tail n c (expr_of q, 1) r ≡ (Ok (eval_stmt (expr_of q), 2), r)
unfolding lead
tail_stays labels n c q r (inl e) = let m = member_target q e.1 in rw (e.0, target_is_name q, m.2) refl
tail_stays labels n c q r (inr e) = rw e.0 refl

tail_simple : (n c : ℕ) → Tail false (simple_tail n c)
tail_simple n c = record { up = λ q r k. tail_up n c q r k; down = λ q r k. tail_down n c q r k; stays = λ q r st. tail_stays false n c q r st }

loose_into : Into SimpleLoose
loose_into b x w i = i

any_tall : (b : Room) (x : Tall Expr) (w : List Word) → Under AnyExpr b x w → 1 ≤ x.1
any_tall b x w i = tall i.0.0 x.1 x.0 w i.0.1

-- a statement is what its lead says
pub stmt_by_good : (R : Form (Tall Stmt)) → Into R → (n : ℕ) (d : Room) (K : Fault → Type 0) (y : Tall Lead) (r : List Word) → Good n d K (Rest (LeadIs (Under AnyExpr) false) R y) (stmt_by y) (stmt_by y) r
stmt_by_good R into n d K (l.Expr e, h) r = good_pure n d K _ _ r (λ b db u iu. rw append-nil (into b (eval_stmt e, h + 1) u (simple_loose b (eval_stmt e, h + 1) u (evaluated iu.0.0 h e u iu.0.1) (let f = iu.1 in omega arith))))
stmt_by_good R into n d K (l.Stmt x, h) r = good_pure n d K _ _ r (λ b db u iu. rw append-nil (into b (x, h) u (simple_loose b (x, h) u iu.0 iu.1)))
stmt_by_good R into n d K (l.Range ns, h) r = good_refuse n d K _ r (λ b db. ((eval_stmt (expr_of (record { name = record { text = []; at = 0 }; member = None; end = 0 })), 2), [], λ u iu. let f = iu.0 in absurd cc))

module _ (K : Fault → Type 0) (never : K Exhausted → ⊥) (n n' : ℕ) (len : n ≤ n') (turns : 1 ≤ n) where
  simple_in : (c c' m m' : ℕ) → (c, m) ⊑ (c', m') → (K TooDeep → c ≡ c') → (ts : List Word) → Good n (suc c, m) K SimpleLoose (simple n c) (simple n' c') ts
  unfolding simple
  simple_in zero zero m m' led deep ts =
      bare_good false SimpleLoose loose_into K (1, m) (omega arith) (λ e. absurd cc) n (bare false) (by_next false) (λ r k. named_bare false r k) (λ r b. unnamed_bare false r b) (λ s r. refl) (λ q. follow_same false K q) ts
  simple_in zero (suc c') m m' led deep ts =
      let no-deep : K TooDeep → ⊥ = λ s. let e : 0 ≡ suc c' = deep s in omega arith in
      bare_good false SimpleLoose loose_into K (1, m) (omega arith) (λ e. absurd cc) n (expr n' (suc c') 1 >>= simple_tail n' (suc c')) (λ q. (behind_name n' c' q >>= simple_tail n' (suc c')))
      (λ r k. named_tail n' c' (simple_tail n' (suc c')) r k) (λ r b. unnamed_tail n' c' (simple_tail n' (suc c')) r b) (λ s. absurd (no-deep s)) (λ q. follow_tail false K no-deep n' c' (omega arith) (simple_tail n' (suc c')) (tail_simple n' (suc c')) q) ts
  simple_in (suc c) zero m m' led deep ts = let l : suc c ≤ 0 = led.0 in absurd (omega arith)
  simple_in (suc c) (suc c') m m' led deep ts =
      good_regroup n (suc (suc c), m) K SimpleLoose (expr n (suc c) 1) (expr n' (suc c') 1) (lead n (suc c) false) (lead n' (suc c') false) stmt_by stmt_by ts
      (seq n (suc (suc c), m) K (LeadIs (Under AnyExpr) false) SimpleLoose _ _ _ ts _ _ (lead_rises (Under AnyExpr) false (under_rises AnyExpr))
      (led_good (Under AnyExpr) false (under_rises AnyExpr) (λ b x w i. i.0) K never n n' len (suc c) (suc c') m m' led deep (expr n (suc c) 1) (expr n' (suc c') 1) ts any_tall (expr_under K never n n' len (suc c) (suc c') m m' led deep (omega arith) ts))
      (λ y _ r. stmt_by_good SimpleLoose loose_into n (suc (suc c), m) K y r))

  pub simple_good : (d d' : Room) → d ⊑ d' → (K TooDeep → d.0 ≡ d'.0) → 1 ≤ d.0 → (ts : List Word) → Good n d K SimpleLoose (simple n (d.0 - 1)) (simple n' (d'.0 - 1)) ts
  simple_good (zero, m) d' led deep some ts = absurd (omega arith)
  simple_good (suc c, m) (zero, m') led deep some ts = let l : suc c ≤ 0 = led.0 in absurd (omega arith)
  simple_good (suc c, m) (suc c', m') led deep some ts =
      let one : suc c - 1 ≡ c = omega arith in
      let one' : suc c' - 1 ≡ c' = omega arith in
      rw (one, one') (simple_in c c' m m' (let l : suc c ≤ suc c' = led.0 in omega arith, led.1) (λ s. let f : suc c ≡ suc c' = deep s in omega arith) ts)
