-- Where no expression may stand, the reader of statements is good.
use Rattle.std.proofs.Common.{◌≡◌, ◌≢◌, ◌⊎◌, inl, inr, ◌||◌, ◌&&◌, ℕ, zero, suc, ◌+◌, ◌≤◌, ◌<◌, max, Bool, true, false, List, [], ◌∷◌, ◌++◌, Option, Some, None, Result, Ok, Err, refl, sym, ap, ◌∙◌, append_assoc, arith, if◌then◌else◌}
use Rattle.std.proofs.lemmas.List.{append-nil}
use Rattle.go_ast.specs.declared.name.Name.{Name}
use Rattle.go_ast.specs.declared.token.TokenKind.{TokenKind}
use Rattle.go_ast.specs.declared.token.TokenKind.TheVariants as kind
use Rattle.go_ast.specs.declared.expr.Expr.{Expr}
use Rattle.go_ast.specs.declared.expr.BinaryOp.{BinaryOp}
use Rattle.go_ast.specs.declared.expr.UnaryOp.{UnaryOp}
use Rattle.go_ast.specs.declared.expr.UnaryOp.TheVariants as sign
use Rattle.go_ast.specs.declared.block.Target.TheVariants as target
use Rattle.go_ast.specs.declared.block.Stmt.{Stmt}
use Rattle.go_ast.specs.declared.block.StmtForm.TheVariants as statement
use Rattle.go_grammar.specs.Words.{Word}
use Rattle.go_grammar.specs.Terminals as t
use Rattle.go_grammar.specs.Trees.{name_of, expr_start, expr_end, exprs_end, stmt_node, target_start, targets_start, names_start, update_kind, binary_kind, unary_kind, call_expr, cut_expr, binary_expr, level}
use Rattle.go_grammar.specs.Lists.{one_item, more_items}
use Rattle.go_grammar.specs.Types.{name, IsNames}
use Rattle.go_grammar.specs.Exprs.{IsExpr, called, cut, operated, no_args, no_expr, one_expr}
use Rattle.go_grammar.specs.Simple.{plain_target, IsTargets, IsSimple, evaluated, sent, raised, lowered, updated, assigned, defined}
use Rattle.go_reading.specs.declared.fault.Fault.{Fault}
use Rattle.go_reading.specs.declared.fault.Fault.TheVariants.{Unexpected, TooDeep}
use Rattle.go_reading.specs.declared.qualified.Qualified.{Qualified}
use Rattle.go_reading.specs.declared.sign.Sign.{Sign}
use Rattle.go_reading.specs.declared.sign.Sign.TheVariants as s
use Rattle.go_reading.specs.Kinds.{is, begins, binary_op, unary_op, sign_of}
use Rattle.go_reading.specs.Input.{Reader, Tall, Outcome, go_on, ◌>>=◌, pure, refuse, too_deep, peek, kind_of, take_span, span_of, expect_as}
use Rattle.go_reading.specs.Types.{qualified, expr_of, target_of as target_of_qualified}
use Rattle.go_reading.specs.Exprs.{expr, deeper, unary, primary, operand, suffixes_from, climb}
use Rattle.go_reading.specs.Simple.{eval_stmt, goes_on, is_some, is_plain, bare_eval, by_bare, bare}
use Rattle.go_reading.proofs.Good.{Room, ◌⊑◌, room, Form, At, Good, Filled, Rest, first, first_append, same_kind, seq, good_pure, good_refuse, take_then, a_word, some_is, is_is, same_is}
use Rattle.go_reading.proofs.Tables.{SignOf, sign_sound, binary_sound, unary_sound, level_small}
use Rattle.go_reading.proofs.Rows.{some_not_none}
use Rattle.go_reading.proofs.RowsRead.{is_other}
use Rattle.go_reading.proofs.TypesGood.{IsQualified, alone, pair, QualifiedOf, qualified_rises, qualified_one, expr_qualified, target_qualified}
use Rattle.go_reading.proofs.ExprsGood.{an_expr, is_an_expr}
use Rattle.go_reading.proofs.Begun.{begun_expr, begins_some, pick}
use Rattle.go_reading.proofs.LeadGood.{seen}
use Rattle.go_reading.proofs.StmtForms.{target_in_eval, SimpleLoose}

-- ---- the same in other words

pub reread : {A : Type 0} (N : ℕ) (d : Room) (K : Fault → Type 0) (R : Form A) (q q' : Reader A) (ts : List Word) (v : Result A Fault) (rest : List Word)
    → ((r : List Word) → kind_of r ≡ kind_of ts → q r ≡ q' r) → At N d K R q' ts v rest → At N d K R q ts v rest
reread N d K R q q' ts v rest is a = record {
  front = a.front;
  cut = a.cut;
  same = λ st r e. is (a.front ++ r) (same_kind (a.front ++ r) ts (first_append a.front r rest e ∙ ap first (sym a.cut))) ∙ a.same st r e;
  means = a.means;
  filled = a.filled;
  enough = a.enough;
}

pub either : {A : Type 0} (N : ℕ) (d : Room) (K : Fault → Type 0) (R : Form A) (b : Bool) (p p' q : Reader A) (ts : List Word)
    → (b ≡ true → Good N d K R p q ts) → (b ≡ false → Good N d K R p' q ts) → At N d K R q ts ((if b then p else p') ts).0 ((if b then p else p') ts).1
either N d K R true p p' q ts here there = here refl
either N d K R false p p' q ts here there = there refl

-- a limit that is passed, whatever reads where there is more room
pub good_deep : {A : Type 0} (N : ℕ) (d : Room) (K : Fault → Type 0) (R : Form A) (q : Reader A) (ts : List Word) → kind_of ts ≢ None → (K TooDeep → (r : List Word) → kind_of r ≡ kind_of ts → q r ≡ (Err TooDeep, r))
    → ((e : Room) → d ⊑ e → Filled e R) → ((a : Word) → Some a.kind ≡ kind_of ts → (k : ℕ) × (y : A) × (w : List Word) × (d.0 ≤ k) × R (k, d.1) y (a ∷ w)) → Good N d K R too_deep q ts
good_deep N d K R q [] some same fill goes = absurd (some refl)
good_deep N d K R q (x ∷ ts) some same fill goes =
    let m = fill d (room d) in
    let far = goes x refl in
    record {
      front = [];
      cut = refl;
      same = λ s r e. same s r (same_kind r (x ∷ ts) e);
      means = (m.1, m.0, m.2, (far.0, x, far.2, ts, far.1, far.3, refl, far.4));
      filled = fill;
      enough = λ lt x. cc;
    }

-- ---- readers in a row

pub go_on_twice : {A B C : Type 0} (v : Result A Fault) (r : List Word) (f : A → Reader B) (g : B → Reader C) → go_on (go_on v r f).0 (go_on v r f).1 g ≡ go_on v r (λ x. (f x) >>= g)
go_on_twice (Ok x) r f g = refl
go_on_twice (Err e) r f g = refl

pub regroup : {A B C : Type 0} (p : Reader A) (f : A → Reader B) (g : B → Reader C) (r : List Word) → ((p >>= f) >>= g) r ≡ (p >>= λ x. (f x) >>= g) r
regroup p f g r = go_on_twice (p r).0 (p r).1 f g

-- what is good in one grouping is so in the other
pub good_regroup : {A B C : Type 0} (N : ℕ) (d : Room) (K : Fault → Type 0) (R : Form C) (p p' : Reader A) (f f' : A → Reader B) (g g' : B → Reader C) (ts : List Word)
    → Good N d K R ((p >>= f) >>= g) ((p' >>= f') >>= g') ts → Good N d K R (p >>= λ x. (f x) >>= g) (p' >>= λ x. (f' x) >>= g') ts
good_regroup N d K R p p' f f' g g' ts a = reread N d K R (p' >>= λ x. (f' x) >>= g') ((p' >>= f') >>= g') ts _ _ (λ r k. sym (regroup p' f' g' r)) (rw (regroup p f g ts) at a)

-- ---- an expression that begins with a name

or_false : (a b : Bool) → (a || b) ≡ false → (a ≡ false) × (b ≡ false)
or_false true b e = absurd cc
or_false false b e = (refl, e)

-- what may follow a qualified name in an expression
unfoldable pub behind_name : (n d : ℕ) → Qualified → Reader (Tall Expr)
behind_name n d q = suffixes_from n d (expr n d) n (expr_of q) 1 >>= λ x. climb n d (expr n d) 1 n 6 x.0 x.1

module _ (n d : ℕ) (e : ℕ → Reader (Tall Expr)) where
  operand_named : (r : List Word) → kind_of r ≡ Some kind.Name → operand n d e r ≡ go_on (qualified 1 r).0 (qualified 1 r).1 (λ q. pure (expr_of q, 1))
  unfolding operand
  operand_named r k = rw (is_other (kind_of r) kind.Name kind.Int k refl, is_other (kind_of r) kind.Name kind.Rune k refl, is_other (kind_of r) kind.Name kind.Text k refl, is_other (kind_of r) kind.Name t.chan_word k refl, is_other (kind_of r) kind.Name t.left_parenthesis k refl) refl

  named : Result Qualified Fault → List Word → Outcome (Tall Expr)
  named v r = go_on v r (λ q. pure (expr_of q, 1))

  made : (v : Result Qualified Fault) (r : List Word) → go_on (named v r).0 (named v r).1 (λ x. suffixes_from n d e n x.0 x.1) ≡ go_on v r (λ q. suffixes_from n d e n (expr_of q) 1)
  unfolding named
  made (Ok q) r = refl
  made (Err f) r = refl

  primary_named : (r : List Word) → kind_of r ≡ Some kind.Name → primary n d e r ≡ go_on (qualified 1 r).0 (qualified 1 r).1 (λ q. suffixes_from n d e n (expr_of q) 1)
  unfolding primary named
  primary_named r k = rw (operand_named r k) (made (qualified 1 r).0 (qualified 1 r).1)

  name_sign : (o : Option TokenKind) → o ≡ Some kind.Name → unary_op o ≡ None
  unfolding unary_op
  name_sign o k = rw k refl

  unary_named : (r : List Word) → kind_of r ≡ Some kind.Name → unary n d e r ≡ go_on (qualified 1 r).0 (qualified 1 r).1 (λ q. suffixes_from n d e n (expr_of q) 1)
  unfolding unary
  unary_named r k = rw (name_sign (kind_of r) k) (primary_named r k)

  deeper_named : (least : ℕ) (r : List Word) → kind_of r ≡ Some kind.Name → deeper n d e least r ≡ go_on (qualified 1 r).0 (qualified 1 r).1 (λ q. (suffixes_from n d e n (expr_of q) 1) >>= λ x. climb n d e least n 6 x.0 x.1)
  unfolding deeper
  deeper_named least r k = rw (unary_named r k) (go_on_twice (qualified 1 r).0 (qualified 1 r).1 (λ q. suffixes_from n d e n (expr_of q) 1) (λ x. climb n d e least n 6 x.0 x.1))

named_expr : (n d : ℕ) (r : List Word) → kind_of r ≡ Some kind.Name → expr n (suc d) 1 r ≡ (qualified 1 >>= behind_name n d) r
unfolding expr behind_name
named_expr n d r k = deeper_named n d (expr n d) 1 r k

no_operator : (o : Option BinaryOp) → is_some o ≡ false → o ≡ None
no_operator None e = refl
no_operator (Some op) e = absurd cc

-- where nothing goes on with it, a name is the whole expression
name_alone : (n d : ℕ) → 1 ≤ n → (q : Qualified) (r : List Word) → goes_on (kind_of r) ≡ false → behind_name n d q r ≡ (Ok (expr_of q, 1), r)
unfolding goes_on behind_name suffixes_from climb
name_alone zero d some q r e = absurd (omega arith)
name_alone (suc n) d some q r e =
    let a = or_false (is (kind_of r) t.left_parenthesis || is (kind_of r) t.left_bracket) (is_some (binary_op (kind_of r))) e in
    let b = or_false (is (kind_of r) t.left_parenthesis) (is (kind_of r) t.left_bracket) a.0 in
    rw (b.0, b.1, no_operator (binary_op (kind_of r)) a.1) refl

not_unary : (o : Option TokenKind) → begins o ≡ false → (u : Option UnaryOp) → unary_op o ≡ u → u ≡ None
unfolding begins
not_unary o b None e = refl
not_unary o b (Some op) e = absurd (go op (ap begins (sym (unary_sound o op e)) ∙ b))
  where
    go : (op : UnaryOp) → begins (Some (unary_kind op)) ≡ false → ⊥
    go sign.Plus f = cc
    go sign.Minus f = cc
    go sign.Not f = cc
    go sign.Flip f = cc
    go sign.Receive f = cc

not_is : (o : Option TokenKind) (k : TokenKind) → begins o ≡ false → begins (Some k) ≡ true → is o k ≡ false
not_is o k b f = go (is o k) refl
  where
    go : (v : Bool) → is o k ≡ v → v ≡ false
    go false e = refl
    go true e = let i : o ≡ Some k = is_is o k e in let g : begins (Some k) ≡ false = ap begins (sym i) ∙ b in absurd cc

begins_name : begins (Some kind.Name) ≡ true
unfolding begins
begins_name = refl

begins_int : begins (Some kind.Int) ≡ true
unfolding begins
begins_int = refl

begins_rune : begins (Some kind.Rune) ≡ true
unfolding begins
begins_rune = refl

begins_text : begins (Some kind.Text) ≡ true
unfolding begins
begins_text = refl

begins_chan : begins (Some t.chan_word) ≡ true
unfolding begins
begins_chan = refl

begins_parenthesis : begins (Some t.left_parenthesis) ≡ true
unfolding begins
begins_parenthesis = refl

-- no expression begins so
pub unbegun : (n d : ℕ) (r : List Word) → begins (kind_of r) ≡ false → expr n (suc d) 1 r ≡ (Err Unexpected, r)
unfolding expr deeper unary primary operand qualified expect_as
unbegun n d r b =
    rw (
      not_unary (kind_of r) b (unary_op (kind_of r)) refl,
      not_is (kind_of r) kind.Int b begins_int,
      not_is (kind_of r) kind.Rune b begins_rune,
      not_is (kind_of r) kind.Text b begins_text,
      not_is (kind_of r) t.chan_word b begins_chan,
      not_is (kind_of r) t.left_parenthesis b begins_parenthesis,
      not_is (kind_of r) kind.Name b begins_name,
    ) refl

-- ---- what goes on with a name beyond the limit

abbrev Goes : Qualified → Word → Type 0
Goes q a = (y : Tall Stmt) × (w : List Word) × (y.1 ≤ 3) × ((u : List Word) → IsQualified q u → IsSimple y.1 y.0 (u ++ a ∷ w))

qualified_name : (q : Qualified) (u : List Word) → IsQualified q u → is_plain q.member ≡ true → IsNames (q.name ∷ []) u
qualified_name _ _ (alone n k) e = one_item 0 (name_of n) (n ∷ []) (name n k)
qualified_name _ _ (pair p d n kp kd kn) e = absurd cc

module _ (q : Qualified) (a : Word) where
  one_target : (u : List Word) → IsQualified q u → IsTargets (target_of_qualified q ∷ []) u
  one_target u iu = one_item 0 (target_of_qualified q) u (target_qualified q u iu)

  far_arrow : a.kind ≡ t.arrow → Goes q a
  far_arrow k = ((stmt_node (expr_start (expr_of q)) (expr_end an_expr) (statement.Send (expr_of q) an_expr), max 1 1 + 1), a_word kind.Name ∷ [], omega arith, λ u iu. sent a 7 7 1 1 (expr_of q) an_expr u (a_word kind.Name ∷ []) (expr_qualified q u iu) k is_an_expr)

  far_update : (op : BinaryOp) → update_kind op ≡ Some a.kind → Goes q a
  far_update op k = let g = target_of_qualified q in ((stmt_node (target_start g) (expr_end an_expr) (statement.Update g op an_expr), 2), a_word kind.Name ∷ [], omega arith, λ u iu. updated a op 7 1 (target_of_qualified q) an_expr u (a_word kind.Name ∷ []) (target_qualified q u iu) k is_an_expr)

  far_assign : a.kind ≡ t.assign → Goes q a
  far_assign k =
      let gs = target_of_qualified q ∷ [] in (
        (stmt_node (targets_start gs) (exprs_end 0 (an_expr ∷ [])) (statement.Assign gs (an_expr ∷ [])), 2),
        a_word kind.Name ∷ [],
        omega arith,
        λ u iu. assigned a 1 (target_of_qualified q ∷ []) (an_expr ∷ []) u (a_word kind.Name ∷ []) (one_target u iu) k (one_expr 7 1 an_expr (a_word kind.Name ∷ []) is_an_expr),
      )

  far_comma : a.kind ≡ t.comma → Goes q a
  far_comma k =
      let b = a_word kind.Name in
      let gs = target_of_qualified q ∷ target.Plain (name_of b) ∷ [] in (
        (stmt_node (targets_start gs) (exprs_end 0 (an_expr ∷ [])) (statement.Assign gs (an_expr ∷ [])), 2),
        b ∷ a_word t.assign ∷ b ∷ [],
        omega arith,
        λ u iu. rw append_assoc at (assigned (a_word t.assign) 1 (target_of_qualified q ∷ target.Plain (name_of (a_word kind.Name)) ∷ []) (an_expr ∷ []) (u ++ a ∷ a_word kind.Name ∷ []) (a_word kind.Name ∷ [])
            (more_items a 0 0 (target_of_qualified q) (target.Plain (name_of (a_word kind.Name)) ∷ []) u (a_word kind.Name ∷ []) (target_qualified q u iu) k (one_item 0 (target.Plain (name_of (a_word kind.Name))) (a_word kind.Name ∷ []) (plain_target (a_word kind.Name) refl)))
            refl (one_expr 7 1 an_expr (a_word kind.Name ∷ []) is_an_expr)),
      )

  far_define : is_plain q.member ≡ true → a.kind ≡ t.define → Goes q a
  far_define e k =
      let ns = q.name ∷ [] in (
        (stmt_node (names_start ns) (exprs_end 0 (an_expr ∷ [])) (statement.Define ns (an_expr ∷ [])), 2),
        a_word kind.Name ∷ [],
        omega arith,
        λ u iu. defined a 1 (q.name ∷ []) (an_expr ∷ []) u (a_word kind.Name ∷ []) (qualified_name q u iu e) k (one_expr 7 1 an_expr (a_word kind.Name ∷ []) is_an_expr),
      )

  far_eval : (e : Expr) (h l : ℕ) (w : List Word) → h ≤ 2 → ((u : List Word) → IsQualified q u → IsExpr l h e (u ++ a ∷ w)) → Goes q a
  far_eval e h l w le f = ((stmt_node (expr_start e) (expr_end e) (statement.Eval e), h + 1), w, omega arith, λ u iu. evaluated l h e (u ++ a ∷ w) (f u iu))

  far_call : a.kind ≡ t.left_parenthesis → Goes q a
  far_call k = let b = a_word t.right_parenthesis in far_eval (call_expr (expr_of q) [] b) (max 1 0 + 1) 7 (b ∷ []) (omega arith) (λ u iu. called a (a_word t.right_parenthesis) 1 0 (expr_of q) [] u [] (expr_qualified q u iu) k no_args refl)

  far_cut : a.kind ≡ t.left_bracket → Goes q a
  far_cut k =
      let m = a_word t.colon in
      let b = a_word t.right_bracket in
      far_eval (cut_expr (expr_of q) None None b) (max 1 (max 0 0) + 1) 7 (m ∷ b ∷ []) (omega arith) (λ u iu. cut a (a_word t.colon) (a_word t.right_bracket) 1 0 0 (expr_of q) None None u [] [] (expr_qualified q u iu) k no_expr refl no_expr refl)

  far_binary : (op : BinaryOp) → a.kind ≡ binary_kind op → Goes q a
  far_binary op k =
      let l : level op < 6 = level_small op in
      far_eval (binary_expr op (expr_of q) an_expr) (max 1 1 + 1) (level op) (a_word kind.Name ∷ []) (omega arith) (λ u iu. operated a op 7 7 1 1 (expr_of q) an_expr u (a_word kind.Name ∷ []) (expr_qualified q u iu) (omega arith) k is_an_expr (omega arith))

-- what goes on with a name as an expression
some_goes : (q : Qualified) (a : Word) → goes_on (Some a.kind) ≡ true → Goes q a
unfolding goes_on
some_goes q a e = pick _ (is_some (binary_op (Some a.kind))) e
    (λ e. pick (is (Some a.kind) t.left_parenthesis) (is (Some a.kind) t.left_bracket) e (λ e. far_call q a (same_is a.kind t.left_parenthesis e)) (λ e. far_cut q a (same_is a.kind t.left_bracket e)))
    (λ e. go (binary_op (Some a.kind)) refl e)
  where
    go : (o : Option BinaryOp) → binary_op (Some a.kind) ≡ o → is_some o ≡ true → Goes q a
    go None e f = absurd cc
    go (Some op) e f = far_binary q a op (some_is a.kind (binary_kind op) (binary_sound (Some a.kind) op e))

goes_some : (o : Option TokenKind) → goes_on o ≡ true → o ≢ None
unfolding goes_on binary_op
goes_some None b e = absurd cc
goes_some (Some k) b e = cc

-- ---- a name at the last level, and what reads it where there is more room

abbrev pub up_by : Qualified → Reader (Tall Stmt)
up_by q = take_span >>= λ finish. pure (stmt_node q.name.at finish.end (statement.Up (target_of_qualified q)), 1)

abbrev pub down_by : Qualified → Reader (Tall Stmt)
down_by q = take_span >>= λ finish. pure (stmt_node q.name.at finish.end (statement.Down (target_of_qualified q)), 1)

-- a name is a statement before such a token
abbrev pub Stays : Bool → Qualified → Option TokenKind → Type 0
Stays labels q k = ((sign_of k ≡ s.Define) × (is_plain q.member ≡ false)) ⊎ ((sign_of k ≡ s.Other) × ((goes_on k ≡ false) × ((labels && is_plain q.member && is k t.colon) ≡ false)))

abbrev pub by_next : Bool → Qualified → Reader (Tall Stmt)
by_next labels q = peek >>= λ kind. by_bare labels q kind (sign_of kind)

pub record Follow (labels : Bool) (K : Fault → Type 0) (q : Qualified) (other : Reader (Tall Stmt)) : Type 0 where
  pub up : (r : List Word) → kind_of r ≡ Some t.increment → other r ≡ up_by q r
  pub down : (r : List Word) → kind_of r ≡ Some t.decrement → other r ≡ down_by q r
  pub stays : (r : List Word) → Stays labels q (kind_of r) → other r ≡ (Ok (eval_stmt (expr_of q), 2), r)
  pub deep : K TooDeep → (r : List Word) → other r ≡ by_next labels q r

and_true : (a b : Bool) → (a && b) ≡ true → (a ≡ true) × (b ≡ true)
and_true true b e = (refl, e)
and_true false b e = absurd cc

-- ---- behind the name

-- what a simple statement in the room makes of the form
abbrev pub Into : Form (Tall Stmt) → Type 0
Into R = (b : Room) (x : Tall Stmt) (w : List Word) → SimpleLoose b x w → R b x w

pub simple_loose : (b : Room) (x : Tall Stmt) (w : List Word) → IsSimple x.1 x.0 w → x.1 ≤ b.0 → SimpleLoose b x w
simple_loose b x w i le = (i, inl le)

-- a name alone begins a statement in the room
bare_loose : (b : Room) → 1 ≤ b.0 → (q : Qualified) (u : List Word) → IsQualified q u → SimpleLoose b (eval_stmt (expr_of q), 2) u
bare_loose b some q u iu = (evaluated 7 1 (expr_of q) u (expr_qualified q u iu), inr (record { target = target_of_qualified q; is = target_in_eval q; spells = target_qualified q u iu; some = some }))

start_of : (q : Qualified) → target_start (target_of_qualified q) ≡ q.name.at
start_of q = go q.member refl
  where
    go : (o : Option Name) → q.member ≡ o → target_start (target_of_qualified q) ≡ q.name.at
    go None e = rw e refl
    go (Some m) e = rw e refl

raised_by : (b : Room) → 1 ≤ b.0 → (q : Qualified) (u : List Word) → IsQualified q u → (a : Word) → a.kind ≡ t.increment → SimpleLoose b (stmt_node q.name.at a.span.end (statement.Up (target_of_qualified q)), 1) (u ++ a ∷ [])
raised_by b some q u iu a k = simple_loose b (stmt_node q.name.at a.span.end (statement.Up (target_of_qualified q)), 1) (u ++ a ∷ []) (rw (start_of q) at (raised a (target_of_qualified q) u (target_qualified q u iu) k)) some

lowered_by : (b : Room) → 1 ≤ b.0 → (q : Qualified) (u : List Word) → IsQualified q u → (a : Word) → a.kind ≡ t.decrement → SimpleLoose b (stmt_node q.name.at a.span.end (statement.Down (target_of_qualified q)), 1) (u ++ a ∷ [])
lowered_by b some q u iu a k = simple_loose b (stmt_node q.name.at a.span.end (statement.Down (target_of_qualified q)), 1) (u ++ a ∷ []) (rw (start_of q) at (lowered a (target_of_qualified q) u (target_qualified q u iu) k)) some

module _ (labels : Bool) (R : Form (Tall Stmt)) (into : Into R) (K : Fault → Type 0) (d : Room) (some : 1 ≤ d.0)
    (label_far : labels ≡ true → (q : Qualified) → is_plain q.member ≡ true → (a : Word) → a.kind ≡ t.colon → (k : ℕ) × (y : Tall Stmt) × (w : List Word) × (d.0 ≤ k) × Rest QualifiedOf R q (k, d.1) y (a ∷ w)) where
  fill_bare : (q : Qualified) (b : Room) → d ⊑ b → Filled b (Rest QualifiedOf R q)
  fill_bare q b db = ((eval_stmt (expr_of q), 2), [], λ u iu. rw append-nil (into b (eval_stmt (expr_of q), 2) u (bare_loose b (let l = db.0 in omega arith) q u iu)))

  module _ (N : ℕ) (q : Qualified) (other : Reader (Tall Stmt)) (follow : Follow labels K q other) (ts : List Word) where
    abbrev Deep : Type 0
    Deep = by_bare labels q (kind_of ts) (sign_of (kind_of ts)) ≡ too_deep

    deep_good : Deep → kind_of ts ≢ None → ((a : Word) → Some a.kind ≡ kind_of ts → (k : ℕ) × (y : Tall Stmt) × (w : List Word) × (d.0 ≤ k) × Rest QualifiedOf R q (k, d.1) y (a ∷ w)) → Good N d K (Rest QualifiedOf R q) too_deep other ts
    deep_good is real goes = good_deep N d K (Rest QualifiedOf R q) other ts real (λ s r e. follow.deep s r ∙ rw e (ap (λ (p : Reader (Tall Stmt)). p r) is)) (fill_bare q) goes

    far_of : ((a : Word) → Some a.kind ≡ kind_of ts → Goes q a) → (a : Word) → Some a.kind ≡ kind_of ts → (k : ℕ) × (y : Tall Stmt) × (w : List Word) × (d.0 ≤ k) × Rest QualifiedOf R q (k, d.1) y (a ∷ w)
    far_of f a e =
        let p = f a e in
        (d.0 + 3, p.0, p.1, omega arith, λ u iu. into (d.0 + 3, d.1) p.0 (u ++ a ∷ p.1) (simple_loose (d.0 + 3, d.1) p.0 (u ++ a ∷ p.1) (p.3 u iu) (let l = p.2 in omega arith)))

    stays_good : Stays labels q (kind_of ts) → Good N d K (Rest QualifiedOf R q) (bare_eval q) other ts
    stays_good st = reread N d K (Rest QualifiedOf R q) other (bare_eval q) ts _ _ (λ r e. follow.stays r (rw e st)) (good_pure N d K _ _ ts (λ b db u iu. rw append-nil (into b (eval_stmt (expr_of q), 2) u (bare_loose b (let l = db.0 in omega arith) q u iu))))

    by_bare_good : (sign : Sign) → sign_of (kind_of ts) ≡ sign → SignOf (kind_of ts) sign → Good N d K (Rest QualifiedOf R q) (by_bare labels q (kind_of ts) sign) other ts
    by_bare_good s.Up e so =
        let here = seen so.0 t.increment (kind_of ts) so.1 so.2 in
        reread N d K (Rest QualifiedOf R q) other (up_by q) ts _ _ (λ r k. follow.up r (k ∙ here)) (take_then N N d K _ t.increment span_of _ _ ts (omega arith) here (λ sp r.
        good_pure N d K _ _ r (λ b db a ia u iu. rw (ia.1, ia.3) (into b _ (u ++ ia.0 ∷ []) (raised_by b (let l = db.0 in omega arith) q u iu ia.0 ia.2)))))
    by_bare_good s.Down e so =
        let here = seen so.0 t.decrement (kind_of ts) so.1 so.2 in
        reread N d K (Rest QualifiedOf R q) other (down_by q) ts _ _ (λ r k. follow.down r (k ∙ here)) (take_then N N d K _ t.decrement span_of _ _ ts (omega arith) here (λ sp r.
        good_pure N d K _ _ r (λ b db a ia u iu. rw (ia.1, ia.3) (into b _ (u ++ ia.0 ∷ []) (lowered_by b (let l = db.0 in omega arith) q u iu ia.0 ia.2)))))
    by_bare_good s.Define e so =
        let here = seen so.0 t.define (kind_of ts) so.1 so.2 in
        either N d K (Rest QualifiedOf R q) (is_plain q.member) _ _ other ts
        (λ p. deep_good (rw (e, p) refl) (some_not_none (kind_of ts) t.define here) (far_of (λ a i. far_define q a p (some_is a.kind t.define (i ∙ here)))))
        (λ p. stays_good (inl (e, p)))
    by_bare_good s.Other e so =
        either N d K (Rest QualifiedOf R q) (goes_on (kind_of ts)) _ _ other ts
        (λ p. deep_good (rw (e, p) refl) (goes_some (kind_of ts) p) (far_of (λ a i. some_goes q a (ap goes_on i ∙ p))))
        (λ p. either N d K (Rest QualifiedOf R q) (labels && is_plain q.member && is (kind_of ts) t.colon) _ _ other ts
        (λ l.
        let two = and_true (labels && is_plain q.member) (is (kind_of ts) t.colon) l in
        let one = and_true labels (is_plain q.member) two.0 in
        let here = is_is (kind_of ts) t.colon two.1 in
        deep_good (rw (e, p, l) refl) (some_not_none (kind_of ts) t.colon here) (λ a i. label_far one.0 q one.1 a (some_is a.kind t.colon (i ∙ here))))
        (λ l. stays_good (inr (e, (p, l)))))
    by_bare_good s.Arrow e so =
        let here = seen so.0 t.arrow (kind_of ts) so.1 so.2 in
        deep_good (rw e refl) (some_not_none (kind_of ts) t.arrow here) (far_of (λ a i. far_arrow q a (some_is a.kind t.arrow (i ∙ here))))
    by_bare_good s.Assign e so =
        let here = seen so.0 t.assign (kind_of ts) so.1 so.2 in
        deep_good (rw e refl) (some_not_none (kind_of ts) t.assign here) (far_of (λ a i. far_assign q a (some_is a.kind t.assign (i ∙ here))))
    by_bare_good s.Comma e so =
        let here = seen so.0 t.comma (kind_of ts) so.1 so.2 in
        deep_good (rw e refl) (some_not_none (kind_of ts) t.comma here) (far_of (λ a i. far_comma q a (some_is a.kind t.comma (i ∙ here))))
    by_bare_good (s.Update op) e so =
        deep_good (rw e refl) (some_not_none (kind_of ts) so.0 so.1) (far_of (λ a i. far_update q a op (so.2 ∙ sym (i ∙ so.1))))

  -- a name, or what is one level too high
  module _ (N : ℕ) (q : Reader (Tall Stmt)) (f : Qualified → Reader (Tall Stmt)) (named' : (r : List Word) → kind_of r ≡ Some kind.Name → q r ≡ (qualified 1 >>= f) r) (unnamed : (r : List Word) → begins (kind_of r) ≡ false → q r ≡ (Err Unexpected, r))
      (same_as : K TooDeep → (r : List Word) → q r ≡ bare labels r) (follow : (x : Qualified) → Follow labels K x (f x)) where
    fill_top : (b : Room) → d ⊑ b → Filled b R
    fill_top b db =
        let n = a_word kind.Name in
        let x : Qualified = record { name = name_of n; member = None; end = n.span.end } in
        ((eval_stmt (expr_of x), 2), n ∷ [], into b (eval_stmt (expr_of x), 2) (n ∷ []) (bare_loose b (let l = db.0 in omega arith) x (n ∷ []) (alone n refl)))

    far_top : (a : Word) → begins (Some a.kind) ≡ true → (k : ℕ) × (y : Tall Stmt) × (w : List Word) × (d.0 ≤ k) × R (k, d.1) y (a ∷ w)
    far_top a e =
        let x = begun_expr a e in
        let y : Tall Stmt = (stmt_node (expr_start x.0.0) (expr_end x.0.0) (statement.Eval x.0.0), x.0.1 + 1) in
        let k = d.0 + (x.0.1 + 1) in
        (k, y, x.1, omega arith, into (k, d.1) y (a ∷ x.1) (simple_loose (k, d.1) y (a ∷ x.1) (evaluated x.2.0 x.0.1 x.0.0 (a ∷ x.1) x.2.1) (omega arith)))

    bare_deep : (r : List Word) → is (kind_of r) kind.Name ≡ false → begins (kind_of r) ≡ true → bare labels r ≡ (Err TooDeep, r)
    unfolding bare
    bare_deep r e b = rw (e, b) refl

    pub bare_good : (ts : List Word) → Good N d K R (bare labels) q ts
    unfolding bare
    bare_good ts = either N d K R (is (kind_of ts) kind.Name) _ _ q ts
        (λ e. reread N d K R q (qualified 1 >>= f) ts _ _ (λ r k. named' r (k ∙ is_is (kind_of ts) kind.Name e)) (seq N d K QualifiedOf R (qualified 1) _ _ ts _ _ qualified_rises (qualified_one N d K ts) (λ x _ r.
        by_bare_good N x (f x) (follow x) r (sign_of (kind_of r)) refl (sign_sound (kind_of r) (sign_of (kind_of r)) refl))))
        (λ e. either N d K R (begins (kind_of ts)) _ _ q ts
        (λ b. good_deep N d K R q ts (begins_some (kind_of ts) b) (λ s r k. same_as s r ∙ bare_deep r (rw k e) (rw k b)) fill_top (λ a i. far_top a (ap begins i ∙ b)))
        (λ b. reread N d K R q refuse ts _ _ (λ r k. unnamed r (rw k b)) (good_refuse N d K R ts fill_top)))

-- ---- the same where there is more room: an expression, and what is behind it

pub record Tail (labels : Bool) (tail : Tall Expr → Reader (Tall Stmt)) : Type 0 where
  pub up : (q : Qualified) (r : List Word) → kind_of r ≡ Some t.increment → tail (expr_of q, 1) r ≡ up_by q r
  pub down : (q : Qualified) (r : List Word) → kind_of r ≡ Some t.decrement → tail (expr_of q, 1) r ≡ down_by q r
  pub stays : (q : Qualified) (r : List Word) → Stays labels q (kind_of r) → tail (expr_of q, 1) r ≡ (Ok (eval_stmt (expr_of q), 2), r)

up_stops : (r : List Word) → kind_of r ≡ Some t.increment → goes_on (kind_of r) ≡ false
unfolding goes_on binary_op
up_stops r k = rw k refl

down_stops : (r : List Word) → kind_of r ≡ Some t.decrement → goes_on (kind_of r) ≡ false
unfolding goes_on binary_op
down_stops r k = rw k refl

define_stops : (o : Option TokenKind) → o ≡ Some t.define → goes_on o ≡ false
unfolding goes_on binary_op
define_stops o k = rw k refl

stays_stops : (labels : Bool) (q : Qualified) (o : Option TokenKind) → Stays labels q o → goes_on o ≡ false
stays_stops labels q o (inl e) = let so = sign_sound o s.Define e.0 in define_stops o (seen so.0 t.define o so.1 so.2)
stays_stops labels q o (inr e) = e.1.0

behind_then : (n d : ℕ) → 1 ≤ n → (q : Qualified) (tail : Tall Expr → Reader (Tall Stmt)) (r : List Word) → goes_on (kind_of r) ≡ false → (behind_name n d q >>= tail) r ≡ tail (expr_of q, 1) r
behind_then n d some q tail r e = rw (name_alone n d some q r e) refl

pub follow_tail : (labels : Bool) (K : Fault → Type 0) → (K TooDeep → ⊥) → (n d : ℕ) → 1 ≤ n → (tail : Tall Expr → Reader (Tall Stmt)) → Tail labels tail → (q : Qualified) → Follow labels K q (behind_name n d q >>= tail)
follow_tail labels K never n d some tail a q = record {
  up = λ r k. behind_then n d some q tail r (up_stops r k) ∙ a.up q r k;
  down = λ r k. behind_then n d some q tail r (down_stops r k) ∙ a.down q r k;
  stays = λ r st. behind_then n d some q tail r (stays_stops labels q (kind_of r) st) ∙ a.stays q r st;
  deep = λ s. absurd (never s);
}

same_stays : (labels : Bool) (q : Qualified) (r : List Word) → Stays labels q (kind_of r) → by_next labels q r ≡ (Ok (eval_stmt (expr_of q), 2), r)
same_stays labels q r (inl e) = rw (e.0, e.1) refl
same_stays labels q r (inr e) = rw (e.0, e.1.0, e.1.1) refl

pub follow_same : (labels : Bool) (K : Fault → Type 0) (q : Qualified) → Follow labels K q (by_next labels q)
unfolding sign_of
follow_same labels K q = record { up = λ r k. rw k refl; down = λ r k. rw k refl; stays = λ r st. same_stays labels q r st; deep = λ s r. refl }

pub named_tail : (n d : ℕ) (tail : Tall Expr → Reader (Tall Stmt)) (r : List Word) → kind_of r ≡ Some kind.Name → (expr n (suc d) 1 >>= tail) r ≡ (qualified 1 >>= λ q. (behind_name n d q >>= tail)) r
named_tail n d tail r k = rw (named_expr n d r k) (go_on_twice (qualified 1 r).0 (qualified 1 r).1 (behind_name n d) tail)

pub unnamed_tail : (n d : ℕ) (tail : Tall Expr → Reader (Tall Stmt)) (r : List Word) → begins (kind_of r) ≡ false → (expr n (suc d) 1 >>= tail) r ≡ (Err Unexpected, r)
unnamed_tail n d tail r b = rw (unbegun n d r b) refl

pub named_bare : (labels : Bool) (r : List Word) → kind_of r ≡ Some kind.Name → bare labels r ≡ (qualified 1 >>= by_next labels) r
unfolding bare
named_bare labels r k = rw k refl

pub unnamed_bare : (labels : Bool) (r : List Word) → begins (kind_of r) ≡ false → bare labels r ≡ (Err Unexpected, r)
unfolding bare
unnamed_bare labels r b = rw (not_is (kind_of r) kind.Name b begins_name, b) refl
