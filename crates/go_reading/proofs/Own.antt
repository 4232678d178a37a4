-- What the readers of other statements make of the tokens of a counter.
use Rattle.std.proofs.Common.{◌≡◌, ◌⊎◌, inl, inr, ℕ, zero, suc, ◌≤◌, true, false, List, [], ◌∷◌, ◌++◌, Some, None, Result, Ok, Err, refl, ap, ◌∙◌, arith, codes}
use Rattle.std.proofs.lemmas.Bool.{le-ltb}
use Rattle.go_ast.specs.declared.token.TokenKind.{TokenKind}
use Rattle.go_ast.specs.declared.token.TokenKind.TheVariants as kind
use Rattle.go_ast.specs.declared.expr.Expr.{Expr}
use Rattle.go_ast.specs.declared.expr.ExprForm.{out-ExprForm}
use Rattle.go_ast.specs.declared.block.Stmt.{Stmt}
use Rattle.go_grammar.specs.declared.form.CounterForm.{CounterForm}
use Rattle.go_grammar.specs.declared.form.CounterForm.TheVariants as counter_form
use Rattle.go_grammar.specs.Words.{Word}
use Rattle.go_grammar.specs.Terminals as t
use Rattle.go_grammar.specs.Patterns.{Pattern, any, Fits, AllFit}
use Rattle.go_grammar.specs.Covering.{name, number, counter}
use Rattle.go_grammar.specs.Trees.{name_of, expr_node, int_expr, member_expr, index_expr}
use Rattle.go_grammar.specs.Exprs.{IsExpr, int, member, indexed}
use Rattle.go_reading.specs.declared.fault.Fault.{Fault}
use Rattle.go_reading.specs.declared.fault.Fault.TheVariants.{Unexpected, TooDeep}
use Rattle.go_reading.specs.declared.qualified.Qualified.{Qualified}
use Rattle.go_reading.specs.Kinds.{is, begins, binary_op, sign_of, ends_list}
use Rattle.go_reading.specs.Lists.{list_of, list_from}
use Rattle.go_reading.specs.Types.{qualified}
use Rattle.go_reading.specs.Exprs.{expr, suffixes_from, bracket, cut_from, call, args}
use Rattle.go_reading.specs.Simple.{target_of, eval_stmt, goes_on, lead, stmt_by}
use Rattle.go_reading.specs.Counters.{is_stop}
use Rattle.go_reading.specs.Stmts.{label_by, plain_stmt}
use Rattle.go_reading.specs.Input.{Reader, Tall, ◌>>=◌, peek, kind_of, if_kind, take_as, expect_as}
use Rattle.go_reading.proofs.RowsRead.{sees, kind_is, is_other}
use Rattle.go_reading.proofs.Ends.{Ends, ends_by, plain_assign}
use Rattle.go_reading.proofs.ExprsRead.{expr_read}
use Rattle.go_reading.proofs.SimpleRead.{sign_increment}
use Rattle.go_reading.proofs.BareGood.{behind_name, by_next, named_tail, named_bare, unbegun}

-- ---- a name and what is behind it

unfoldable pub tail_of : ℕ → ℕ → Reader (Tall Stmt) → Tall Expr → Reader (Tall Stmt)
tail_of n c bl x = peek >>= if_kind t.colon (label_by n c bl x (target_of x.0)) (lead n c false x >>= stmt_by)

named_plain : (n c : ℕ) (bl : Reader (Tall Stmt)) (r : List Word) → kind_of r ≡ Some kind.Name → plain_stmt n (suc c) bl r ≡ (qualified 1 >>= λ q. (behind_name n c q >>= tail_of n (suc c) bl)) r
unfolding plain_stmt tail_of
named_plain n c bl r k = named_tail n c (tail_of n (suc c) bl) r k

abbrev pair_of : Word → Word → Qualified
pair_of a b = record { name = name_of a; member = Some (name_of b); end = b.span.end }

pair_read : (a p b : Word) (r : List Word) → a.kind ≡ kind.Name → p.kind ≡ t.point → b.kind ≡ kind.Name → qualified 1 (a ∷ p ∷ b ∷ r) ≡ (Ok (pair_of a b), r)
unfolding qualified expect_as take_as
pair_read a p b r ka kp kb = rw (sees a (p ∷ b ∷ r) kind.Name ka, sees p (b ∷ r) t.point kp, sees b r kind.Name kb) refl

half_read : (a p : Word) (r : List Word) → a.kind ≡ kind.Name → p.kind ≡ t.point → is (kind_of r) kind.Name ≡ false → qualified 1 (a ∷ p ∷ r) ≡ (Err Unexpected, r)
unfolding qualified expect_as take_as
half_read a p r ka kp no' = rw (sees a (p ∷ r) kind.Name ka, sees p r t.point kp, no') refl

-- behind the point there has to be a name
pub point_ends : (n c : ℕ) (bl : Reader (Tall Stmt)) (a p : Word) (r : List Word) → a.kind ≡ kind.Name → p.kind ≡ t.point → is (kind_of r) kind.Name ≡ false → plain_stmt n (suc c) bl (a ∷ p ∷ r) ≡ (Err Unexpected, r)
point_ends n c bl a p r ka kp no' = named_plain n c bl (a ∷ p ∷ r) (kind_is a (p ∷ r) kind.Name ka) ∙ rw (half_read a p r ka kp no') refl

at_pair : (n c : ℕ) (bl : Reader (Tall Stmt)) (a p b : Word) (r : List Word) → a.kind ≡ kind.Name → p.kind ≡ t.point → b.kind ≡ kind.Name → plain_stmt n (suc c) bl (a ∷ p ∷ b ∷ r) ≡ (behind_name n c (pair_of a b) >>= tail_of n (suc c) bl) r
at_pair n c bl a p b r ka kp kb = named_plain n c bl (a ∷ p ∷ b ∷ r) (kind_is a (p ∷ b ∷ r) kind.Name ka) ∙ rw (pair_read a p b r ka kp kb) refl

-- ---- a bracket behind two names

behind_open : (n c : ℕ) (q : Qualified) (l : Word) (r : List Word) → l.kind ≡ t.left_bracket → begins (kind_of r) ≡ false → is (kind_of r) t.colon ≡ false → behind_name (suc n) (suc c) q (l ∷ r) ≡ (Err Unexpected, r)
unfolding behind_name suffixes_from bracket take_as
behind_open n c q l r kl b no' = rw (is_other (kind_of (l ∷ r)) t.left_bracket t.left_parenthesis (kind_is l r t.left_bracket kl) refl, sees l r t.left_bracket kl, le-ltb (suc c) 1 (omega arith), no', unbegun (suc n) c r b) refl

pub open_ends : (n c : ℕ) (bl : Reader (Tall Stmt)) (a p b l : Word) (r : List Word) → a.kind ≡ kind.Name → p.kind ≡ t.point → b.kind ≡ kind.Name → l.kind ≡ t.left_bracket → begins (kind_of r) ≡ false → is (kind_of r) t.colon ≡ false
    → plain_stmt (suc n) (suc (suc c)) bl (a ∷ p ∷ b ∷ l ∷ r) ≡ (Err Unexpected, r)
open_ends n c bl a p b l r ka kp kb kl no' nc = at_pair (suc n) (suc c) bl a p b (l ∷ r) ka kp kb ∙ rw (behind_open n c (pair_of a b) l r kl no' nc) refl

behind_number : (n c : ℕ) (q : Qualified) (l i : Word) (r : List Word) → 2 ≤ n → l.kind ≡ t.left_bracket → i.kind ≡ kind.Int → Ends 1 r → is (kind_of r) t.right_bracket ≡ false → is (kind_of r) t.colon ≡ false → behind_name (suc n) (suc c) q (l ∷ i ∷ r) ≡ (Err Unexpected, r)
unfolding behind_name suffixes_from bracket cut_from take_as expect_as
behind_number n c q l i r two kl ki ends no' nc =
    let e : expr (suc n) (suc c) 1 (i ∷ r) ≡ (Ok (int_expr i, 1), r) = expr_read (suc n) (suc c) 7 1 (int_expr i) (i ∷ []) (int i ki) (omega arith) (omega arith) 1 (omega arith) (omega arith) r ends in
    rw (is_other (kind_of (l ∷ i ∷ r)) t.left_bracket t.left_parenthesis (kind_is l (i ∷ r) t.left_bracket kl) refl, sees l (i ∷ r) t.left_bracket kl, le-ltb (suc c) 1 (omega arith), is_other (kind_of (i ∷ r)) kind.Int t.colon (kind_is i r kind.Int ki) refl, e, no', nc) refl

pub number_ends : (n c : ℕ) (bl : Reader (Tall Stmt)) (a p b l i : Word) (r : List Word) → 2 ≤ n → a.kind ≡ kind.Name → p.kind ≡ t.point → b.kind ≡ kind.Name → l.kind ≡ t.left_bracket → i.kind ≡ kind.Int → Ends 1 r → is (kind_of r) t.right_bracket ≡ false → is (kind_of r) t.colon ≡ false
    → plain_stmt (suc n) (suc (suc c)) bl (a ∷ p ∷ b ∷ l ∷ i ∷ r) ≡ (Err Unexpected, r)
number_ends n c bl a p b l i r two ka kp kb kl ki ends no' nc = at_pair (suc n) (suc c) bl a p b (l ∷ i ∷ r) ka kp kb ∙ rw (behind_number n c (pair_of a b) l i r two kl ki ends no' nc) refl

-- ---- a parenthesis behind two names

behind_call : (n c : ℕ) (q : Qualified) (l : Word) (r : List Word) → l.kind ≡ t.left_parenthesis → begins (kind_of r) ≡ false → is (kind_of r) t.right_parenthesis ≡ false → behind_name (suc n) (suc c) q (l ∷ r) ≡ (Err Unexpected, r)
unfolding behind_name suffixes_from call args list_of list_from take_as
behind_call n c q l r kl b no' = rw (sees l r t.left_parenthesis kl, le-ltb (suc c) 1 (omega arith), no', unbegun (suc n) c r b) refl

pub call_ends : (n c : ℕ) (bl : Reader (Tall Stmt)) (a p b l : Word) (r : List Word) → a.kind ≡ kind.Name → p.kind ≡ t.point → b.kind ≡ kind.Name → l.kind ≡ t.left_parenthesis → begins (kind_of r) ≡ false → is (kind_of r) t.right_parenthesis ≡ false
    → plain_stmt (suc n) (suc (suc c)) bl (a ∷ p ∷ b ∷ l ∷ r) ≡ (Err Unexpected, r)
call_ends n c bl a p b l r ka kp kb kl no' nc = at_pair (suc n) (suc c) bl a p b (l ∷ r) ka kp kb ∙ rw (behind_call n c (pair_of a b) l r kl no' nc) refl

-- ---- an index

abbrev pub slot_expr : Word → Word → Word → Word → Expr
slot_expr a b i k = index_expr (member_expr a b) (int_expr i) k

pub slot_is : (a p b l i k : Word) → a.kind ≡ kind.Name → p.kind ≡ t.point → b.kind ≡ kind.Name → l.kind ≡ t.left_bracket → i.kind ≡ kind.Int → k.kind ≡ t.right_bracket → IsExpr 7 2 (slot_expr a b i k) (a ∷ p ∷ b ∷ l ∷ i ∷ k ∷ [])
slot_is a p b l i k ka kp kb kl ki kk = indexed l k 7 1 1 (member_expr a b) (int_expr i) (a ∷ p ∷ b ∷ []) (i ∷ []) (member a p b ka kp kb) kl (int i ki) kk

slot_no_target : (a b i k : Word) → target_of (slot_expr a b i k) ≡ None
unfolding expr_node out-ExprForm denote.Hole.Carrier.out
slot_no_target a b i k = refl

slot_read : (n c : ℕ) (a p b l i k : Word) (r : List Word) → 7 ≤ n → a.kind ≡ kind.Name → p.kind ≡ t.point → b.kind ≡ kind.Name → l.kind ≡ t.left_bracket → i.kind ≡ kind.Int → k.kind ≡ t.right_bracket → Ends 1 r
    → expr n (suc (suc c)) 1 (a ∷ p ∷ b ∷ l ∷ i ∷ k ∷ r) ≡ (Ok (slot_expr a b i k, 2), r)
slot_read n c a p b l i k r long ka kp kb kl ki kk ends = expr_read n (suc (suc c)) 7 2 (slot_expr a b i k) (a ∷ p ∷ b ∷ l ∷ i ∷ k ∷ []) (slot_is a p b l i k ka kp kb kl ki kk) (omega arith) (omega arith) 1 (omega arith) (omega arith) r ends

-- nothing is assigned to it
pub assign_ends : (n c : ℕ) (bl : Reader (Tall Stmt)) (a p b l i k o : Word) (r : List Word) → 7 ≤ n → a.kind ≡ kind.Name → p.kind ≡ t.point → b.kind ≡ kind.Name → l.kind ≡ t.left_bracket → i.kind ≡ kind.Int → k.kind ≡ t.right_bracket → o.kind ≡ t.assign
    → plain_stmt n (suc (suc c)) bl (a ∷ p ∷ b ∷ l ∷ i ∷ k ∷ o ∷ r) ≡ (Ok (eval_stmt (slot_expr a b i k), 3), o ∷ r)
unfolding plain_stmt lead sign_of
assign_ends n c bl a p b l i k o r long ka kp kb kl ki kk ko =
    rw (slot_read n c a p b l i k (o ∷ r) long ka kp kb kl ki kk (ends_by 1 (o ∷ r) t.assign (kind_is o r t.assign ko) plain_assign), ko, slot_no_target a b i k) refl

pub raise_ends : (n c : ℕ) (bl : Reader (Tall Stmt)) (a p b l i k o : Word) (r : List Word) → 7 ≤ n → a.kind ≡ kind.Name → p.kind ≡ t.point → b.kind ≡ kind.Name → l.kind ≡ t.left_bracket → i.kind ≡ kind.Int → k.kind ≡ t.right_bracket → o.kind ≡ t.increment
    → plain_stmt n (suc (suc c)) bl (a ∷ p ∷ b ∷ l ∷ i ∷ k ∷ o ∷ r) ≡ (Ok (eval_stmt (slot_expr a b i k), 3), o ∷ r)
unfolding plain_stmt lead sign_of
raise_ends n c bl a p b l i k o r long ka kp kb kl ki kk ko =
    rw (slot_read n c a p b l i k (o ∷ r) long ka kp kb kl ki kk (ends_by 1 (o ∷ r) t.increment (kind_is o r t.increment ko) sign_increment.plain), ko, slot_no_target a b i k) refl

-- ---- where there are few levels

abbrev Opened : TokenKind → Type 0
Opened k = (k ≡ t.left_bracket) ⊎ (k ≡ t.left_parenthesis)

next_deep : (q : Qualified) (l : Word) (r : List Word) → Opened l.kind → by_next true q (l ∷ r) ≡ (Err TooDeep, l ∷ r)
unfolding sign_of goes_on binary_op
next_deep q l r (inl k) = rw k refl
next_deep q l r (inr k) = rw k refl

pub low_none : (n : ℕ) (bl : Reader (Tall Stmt)) (a p b l : Word) (r : List Word) → a.kind ≡ kind.Name → p.kind ≡ t.point → b.kind ≡ kind.Name → Opened l.kind → plain_stmt n 0 bl (a ∷ p ∷ b ∷ l ∷ r) ≡ (Err TooDeep, l ∷ r)
unfolding plain_stmt
low_none n bl a p b l r ka kp kb kl = named_bare true (a ∷ p ∷ b ∷ l ∷ r) (kind_is a (p ∷ b ∷ l ∷ r) kind.Name ka) ∙ rw (pair_read a p b (l ∷ r) ka kp kb) (next_deep (pair_of a b) l r kl)

behind_deep : (n : ℕ) (q : Qualified) (l : Word) (r : List Word) → Opened l.kind → behind_name (suc n) 0 q (l ∷ r) ≡ (Err TooDeep, l ∷ r)
unfolding behind_name suffixes_from
behind_deep n q l r (inl k) = rw k refl
behind_deep n q l r (inr k) = rw k refl

pub low_one : (n : ℕ) (bl : Reader (Tall Stmt)) (a p b l : Word) (r : List Word) → a.kind ≡ kind.Name → p.kind ≡ t.point → b.kind ≡ kind.Name → Opened l.kind → plain_stmt (suc n) 1 bl (a ∷ p ∷ b ∷ l ∷ r) ≡ (Err TooDeep, l ∷ r)
low_one n bl a p b l r ka kp kb kl = at_pair (suc n) 0 bl a p b (l ∷ r) ka kp kb ∙ rw (behind_deep n (pair_of a b) l r kl) refl

-- ---- the token with which a counter parts from other statements

pub record Own (text : List Word) : Type 0 where
  pub front : List Word
  pub token : Word
  pub back : List Word
  pub both : text ≡ front ++ token ∷ back
  pub named : (r : List Word) → kind_of (front ++ token ∷ r) ≡ Some kind.Name
  pub no_stop : is_stop (Some token.kind) ≡ false
  pub high : (n c : ℕ) (bl : Reader (Tall Stmt)) (r : List Word) → 7 ≤ n → (v : Result (Tall Stmt) Fault) × (plain_stmt (suc n) (suc (suc c)) bl (front ++ token ∷ r) ≡ (v, token ∷ r)) × ((v ≡ Err Unexpected) ⊎ ((y : Tall Stmt) × (v ≡ Ok y)))
  pub low : (n c : ℕ) (bl : Reader (Tall Stmt)) (r : List Word) → 7 ≤ n → c ≤ 1 → (rest : List Word) × (plain_stmt (suc n) c bl (front ++ token ∷ r) ≡ (Err TooDeep, rest))

low_by : (a p b l : Word) → a.kind ≡ kind.Name → p.kind ≡ t.point → b.kind ≡ kind.Name → Opened l.kind → (n c : ℕ) (bl : Reader (Tall Stmt)) (r : List Word) → 7 ≤ n → c ≤ 1 → (rest : List Word) × (plain_stmt (suc n) c bl (a ∷ p ∷ b ∷ l ∷ r) ≡ (Err TooDeep, rest))
low_by a p b l ka kp kb kl n zero bl r long le = (l ∷ r, low_none (suc n) bl a p b l r ka kp kb kl)
low_by a p b l ka kp kb kl n (suc zero) bl r long le = (l ∷ r, low_one n bl a p b l r ka kp kb kl)
low_by a p b l ka kp kb kl n (suc (suc c)) bl r long le = absurd (omega arith)

pub no_value : (o : Word) (r : List Word) → o.kind ≡ t.ampersand → begins (kind_of (o ∷ r)) ≡ false
unfolding begins
no_value o r k = rw k refl

-- a token that fits the first pattern, and the others
pub fit_cons : (p : Pattern) (ps : List Pattern) (w : List Word) → AllFit (p ∷ ps) w → (a : Word) × (v : List Word) × (w ≡ a ∷ v) × Fits p a × AllFit ps v
fit_cons p ps [] f = absurd f
fit_cons p ps (a ∷ v) f = (a, v, refl, f.0, f.1)

pub own : (var : List ℕ) (mode : CounterForm) (i : ℕ) (w : List Word) → AllFit (counter var mode i) w → Own w
unfolding ends_list
own var counter_form.SetForm i w f =
    let a = fit_cons (name var) (any t.point ∷ name (codes "Count") ∷ any t.left_bracket ∷ number i ∷ any t.right_bracket ∷ any t.assign ∷ number 1 ∷ []) w f in
    let p = fit_cons (any t.point) (name (codes "Count") ∷ any t.left_bracket ∷ number i ∷ any t.right_bracket ∷ any t.assign ∷ number 1 ∷ []) a.1 a.4 in
    let b = fit_cons (name (codes "Count")) (any t.left_bracket ∷ number i ∷ any t.right_bracket ∷ any t.assign ∷ number 1 ∷ []) p.1 p.4 in
    let l = fit_cons (any t.left_bracket) (number i ∷ any t.right_bracket ∷ any t.assign ∷ number 1 ∷ []) b.1 b.4 in
    let x = fit_cons (number i) (any t.right_bracket ∷ any t.assign ∷ number 1 ∷ []) l.1 l.4 in
    let k = fit_cons (any t.right_bracket) (any t.assign ∷ number 1 ∷ []) x.1 x.4 in
    let o = fit_cons (any t.assign) (number 1 ∷ []) k.1 k.4 in
    record {
      front = a.0 ∷ p.0 ∷ b.0 ∷ l.0 ∷ x.0 ∷ k.0 ∷ [];
      token = o.0;
      back = o.1;
      both = a.2 ∙ ap (λ (z : List Word). a.0 ∷ z) (p.2 ∙ ap (λ (z : List Word). p.0 ∷ z) (b.2 ∙ ap (λ (z : List Word). b.0 ∷ z) (l.2 ∙ ap (λ (z : List Word). l.0 ∷ z) (x.2 ∙ ap (λ (z : List Word). x.0 ∷ z) (k.2 ∙ ap (λ (z : List Word). k.0 ∷ z) (o.2))))));
      named = λ r. ap (λ (k : TokenKind). Some k) a.3.0;
      no_stop = rw o.3.0 refl;
      high = λ n c bl r long. (Ok (eval_stmt (slot_expr a.0 b.0 x.0 k.0), 3), assign_ends (suc n) c bl a.0 p.0 b.0 l.0 x.0 k.0 o.0 r (omega arith) a.3.0 p.3.0 b.3.0 l.3.0 x.3.0 k.3.0 o.3.0, inr ((eval_stmt (slot_expr a.0 b.0 x.0 k.0), 3), refl));
      low = λ n c bl r long le. low_by a.0 p.0 b.0 l.0 a.3.0 p.3.0 b.3.0 (inl l.3.0) n c bl (x.0 ∷ k.0 ∷ o.0 ∷ r) long le;
    }
own var counter_form.CountForm i w f =
    let a = fit_cons (name var) (any t.point ∷ name (codes "Count") ∷ any t.left_bracket ∷ number i ∷ any t.right_bracket ∷ any t.increment ∷ []) w f in
    let p = fit_cons (any t.point) (name (codes "Count") ∷ any t.left_bracket ∷ number i ∷ any t.right_bracket ∷ any t.increment ∷ []) a.1 a.4 in
    let b = fit_cons (name (codes "Count")) (any t.left_bracket ∷ number i ∷ any t.right_bracket ∷ any t.increment ∷ []) p.1 p.4 in
    let l = fit_cons (any t.left_bracket) (number i ∷ any t.right_bracket ∷ any t.increment ∷ []) b.1 b.4 in
    let x = fit_cons (number i) (any t.right_bracket ∷ any t.increment ∷ []) l.1 l.4 in
    let k = fit_cons (any t.right_bracket) (any t.increment ∷ []) x.1 x.4 in
    let o = fit_cons (any t.increment) ([]) k.1 k.4 in
    record {
      front = a.0 ∷ p.0 ∷ b.0 ∷ l.0 ∷ x.0 ∷ k.0 ∷ [];
      token = o.0;
      back = o.1;
      both = a.2 ∙ ap (λ (z : List Word). a.0 ∷ z) (p.2 ∙ ap (λ (z : List Word). p.0 ∷ z) (b.2 ∙ ap (λ (z : List Word). b.0 ∷ z) (l.2 ∙ ap (λ (z : List Word). l.0 ∷ z) (x.2 ∙ ap (λ (z : List Word). x.0 ∷ z) (k.2 ∙ ap (λ (z : List Word). k.0 ∷ z) (o.2))))));
      named = λ r. ap (λ (k : TokenKind). Some k) a.3.0;
      no_stop = rw o.3.0 refl;
      high = λ n c bl r long. (Ok (eval_stmt (slot_expr a.0 b.0 x.0 k.0), 3), raise_ends (suc n) c bl a.0 p.0 b.0 l.0 x.0 k.0 o.0 r (omega arith) a.3.0 p.3.0 b.3.0 l.3.0 x.3.0 k.3.0 o.3.0, inr ((eval_stmt (slot_expr a.0 b.0 x.0 k.0), 3), refl));
      low = λ n c bl r long le. low_by a.0 p.0 b.0 l.0 a.3.0 p.3.0 b.3.0 (inl l.3.0) n c bl (x.0 ∷ k.0 ∷ o.0 ∷ r) long le;
    }
own var counter_form.AtomicForm i w f =
    let a = fit_cons (name (codes "_cover_atomic_")) (any t.point ∷ name (codes "AddUint32") ∷ any t.left_parenthesis ∷ any t.ampersand ∷ name var ∷ any t.point ∷ name (codes "Count") ∷ any t.left_bracket ∷ number i ∷ any t.right_bracket ∷ any t.comma ∷ number 1 ∷ any t.right_parenthesis ∷ []) w f in
    let p = fit_cons (any t.point) (name (codes "AddUint32") ∷ any t.left_parenthesis ∷ any t.ampersand ∷ name var ∷ any t.point ∷ name (codes "Count") ∷ any t.left_bracket ∷ number i ∷ any t.right_bracket ∷ any t.comma ∷ number 1 ∷ any t.right_parenthesis ∷ []) a.1 a.4 in
    let b = fit_cons (name (codes "AddUint32")) (any t.left_parenthesis ∷ any t.ampersand ∷ name var ∷ any t.point ∷ name (codes "Count") ∷ any t.left_bracket ∷ number i ∷ any t.right_bracket ∷ any t.comma ∷ number 1 ∷ any t.right_parenthesis ∷ []) p.1 p.4 in
    let l = fit_cons (any t.left_parenthesis) (any t.ampersand ∷ name var ∷ any t.point ∷ name (codes "Count") ∷ any t.left_bracket ∷ number i ∷ any t.right_bracket ∷ any t.comma ∷ number 1 ∷ any t.right_parenthesis ∷ []) b.1 b.4 in
    let o = fit_cons (any t.ampersand) (name var ∷ any t.point ∷ name (codes "Count") ∷ any t.left_bracket ∷ number i ∷ any t.right_bracket ∷ any t.comma ∷ number 1 ∷ any t.right_parenthesis ∷ []) l.1 l.4 in
    record {
      front = a.0 ∷ p.0 ∷ b.0 ∷ l.0 ∷ [];
      token = o.0;
      back = o.1;
      both = a.2 ∙ ap (λ (z : List Word). a.0 ∷ z) (p.2 ∙ ap (λ (z : List Word). p.0 ∷ z) (b.2 ∙ ap (λ (z : List Word). b.0 ∷ z) (l.2 ∙ ap (λ (z : List Word). l.0 ∷ z) (o.2))));
      named = λ r. ap (λ (k : TokenKind). Some k) a.3.0;
      no_stop = rw o.3.0 refl;
      high = λ n c bl r long. (Err Unexpected, call_ends n c bl a.0 p.0 b.0 l.0 (o.0 ∷ r) a.3.0 p.3.0 b.3.0 l.3.0 (no_value o.0 r o.3.0) (is_other (kind_of (o.0 ∷ r)) t.ampersand t.right_parenthesis (kind_is o.0 r t.ampersand o.3.0) refl), inl refl);
      low = λ n c bl r long le. low_by a.0 p.0 b.0 l.0 a.3.0 p.3.0 b.3.0 (inr l.3.0) n c bl (o.0 ∷ r) long le;
    }
