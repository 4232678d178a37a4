-- The readers of expressions are good.
use Rattle.std.proofs.Common.{◌≡◌, ◌||◌, ◌⊎◌, inl, inr, ℕ, zero, suc, ◌+◌, ◌≤◌, ◌<◌, max, Bool, true, false, List, [], ◌∷◌, ◌++◌, Option, Some, None, length, refl, ◌∙◌, append_assoc, arith, nat_lt}
use Rattle.std.proofs.lemmas.List.{append-nil}
use Rattle.std.proofs.lemmas.Bool.{ltb-false}
use Rattle.go_ast.specs.declared.span.Span.{Span}
use Rattle.go_ast.specs.declared.token.TokenKind.{TokenKind}
use Rattle.go_ast.specs.declared.token.TokenKind.TheVariants as kind
use Rattle.go_ast.specs.declared.expr.Expr.{Expr}
use Rattle.go_ast.specs.declared.expr.ExprForm.TheVariants as form
use Rattle.go_ast.specs.declared.expr.BinaryOp.{BinaryOp}
use Rattle.go_ast.specs.declared.expr.UnaryOp.{UnaryOp}
use Rattle.go_grammar.specs.Words.{Word}
use Rattle.go_grammar.specs.Terminals as t
use Rattle.go_grammar.specs.Trees.{plain_expr, chan_expr, paren_expr, call_expr, cut_expr, unary_expr, binary_expr, int_expr, rune_expr, text_expr, expr_node, expr_start, expr_end, unary_kind, binary_kind, level}
use Rattle.go_grammar.specs.Types.{IsType}
use Rattle.go_grammar.specs.Exprs.{IsExpr, int, rune, text, plain, member, channel, parens, called, indexed, cut, signed, operated, IsArgs, no_args, args as args', IsExprs, one_expr, more_exprs, IsMaybe, no_expr, some_expr}
use Rattle.go_reading.specs.declared.fault.Fault.{Fault}
use Rattle.go_reading.specs.declared.fault.Fault.TheVariants.{TooDeep, Exhausted}
use Rattle.go_reading.specs.Kinds.{is, binary_op, unary_op}
use Rattle.go_reading.specs.Input.{Reader, Tall, ◌>>=◌, pure, take_as, kind_of, span_of}
use Rattle.go_reading.specs.Types.{type_, qualified}
use Rattle.go_reading.specs.Exprs.{args, bound, cut_from, bracket, call, suffixes_from, paren, chan_operand, operand, primary, by_sign, unary, by_operator, climb, deeper, expr, exprs}
use Rattle.go_reading.proofs.Good.{Room, ◌⊑◌, up, Form, Good, Filled, Rises, Rest, seq, weaker, fewer, seq_less, good_pure, good_exhausted, good_if, good_limited, peeked, choice, take_then, expect_then, IsTaken, a_word, some_is, shift}
use Rattle.go_reading.proofs.Tables.{binary_sound, unary_sound, level_small, level_some}
use Rattle.go_reading.proofs.Rows.{Within, within_rises, RowFrom, row_good, ListFrom, ListOf, list_of_good, some_not_none}
use Rattle.go_reading.proofs.TypesGood.{TypeOf, type_good, QualifiedOf, qualified_rises, qualified_one, expr_qualified, a_type, is_a_type}

-- ---- forms

-- a tree and its height, of at least this level
pub record ExprOf (least : ℕ) (b : Room) (x : Tall Expr) (w : List Word) : Type 0 where
  pub level_of : ℕ
  pub high : least ≤ level_of
  pub spells : IsExpr level_of x.1 x.0 w
  pub fits : x.1 ≤ b.0

pub expr_rises : (least : ℕ) → Rises (ExprOf least)
expr_rises least b c le x w s = record { level_of = s.level_of; high = s.high; spells = s.spells; fits = let f = s.fits in let l = le.0 in omega arith }

pub an_expr : Expr
an_expr = plain_expr (a_word kind.Name)

pub is_an_expr : IsExpr 7 1 an_expr (a_word kind.Name ∷ [])
unfolding an_expr
is_an_expr = plain (a_word kind.Name) refl

pub filled_expr : (least : ℕ) → least ≤ 7 → (b : Room) → 1 ≤ b.0 → Filled b (ExprOf least)
filled_expr least le b some = ((an_expr, 1), a_word kind.Name ∷ [], record { level_of = 7; high = le; spells = is_an_expr; fits = some })

-- each expression has a height
pub tall : (l h : ℕ) (e : Expr) (w : List Word) → IsExpr l h e w → 1 ≤ h
tall _ _ _ _ (int n k) = omega arith
tall _ _ _ _ (rune n k) = omega arith
tall _ _ _ _ (text n k) = omega arith
tall _ _ _ _ (plain n k) = omega arith
tall _ _ _ _ (member p d n kp kd kn) = omega arith
tall _ _ _ _ (channel c h of w k i) = omega arith
tall _ _ _ _ (parens a b l h e w ka i kb) = omega arith
tall _ _ _ _ (called a b h h' e es w v i ka j kb) = omega arith
tall _ _ _ _ (indexed a b l h h' e x w v i ka j kb) = omega arith
tall _ _ _ _ (cut a c b h i j e low high w u v x ka y kc z kb) = omega arith
tall _ _ _ _ (signed a op l h e w ka i le) = omega arith
tall _ _ _ _ (operated o op l l' h h' a b w v i le k j lt) = omega arith

pub leveled : (l h : ℕ) (e : Expr) (w : List Word) → IsExpr l h e w → 1 ≤ l
leveled _ _ _ _ (int n k) = omega arith
leveled _ _ _ _ (rune n k) = omega arith
leveled _ _ _ _ (text n k) = omega arith
leveled _ _ _ _ (plain n k) = omega arith
leveled _ _ _ _ (member p d n kp kd kn) = omega arith
leveled _ _ _ _ (channel c h of w k i) = omega arith
leveled _ _ _ _ (parens a b l h e w ka i kb) = omega arith
leveled _ _ _ _ (called a b h h' e es w v i ka j kb) = omega arith
leveled _ _ _ _ (indexed a b l h h' e x w v i ka j kb) = omega arith
leveled _ _ _ _ (cut a c b h i j e low high w u v x ka y kc z kb) = omega arith
leveled _ _ _ _ (signed a op l h e w ka i le) = omega arith
leveled _ _ _ _ (operated o op l l' h h' a b w v i le k j lt) = level_some op

-- an expression of any level
abbrev pub AnyExpr : ℕ → Expr → List Word → Type 0
AnyExpr h e w = (l : ℕ) × IsExpr l h e w

one_of : (h : ℕ) (x : Expr) (w : List Word) → AnyExpr h x w → IsExprs h (x ∷ []) w
one_of h x w i = one_expr i.0 h x w i.1

more_of : (c : Word) (h h' : ℕ) (x : Expr) (xs : List Expr) (w v : List Word) → AnyExpr h x w → c.kind ≡ t.comma → IsExprs h' xs v → IsExprs (max h h') (x ∷ xs) (w ++ c ∷ v)
more_of c h h' x xs w v i k j = more_exprs c i.0 h h' x xs w v i.1 k j

pub any_expr : (b : Room) (x : Tall Expr) (w : List Word) → ExprOf 1 b x w → Within AnyExpr b x w
any_expr b x w s = ((s.level_of, s.spells), s.fits)

-- expressions with commas between
abbrev pub ExprsOf : Form (Tall (List Expr))
ExprsOf = Within IsExprs

exprs_of : (b : Room) (y : Tall (List Expr)) (w : List Word) → RowFrom IsExprs [] 0 b y w → ExprsOf b y w
exprs_of b y w r = let m : max 0 r.tall ≡ r.tall = omega arith in rw (r.value, m) (r.row, r.fits)

abbrev pub ArgsOf : Form (Tall (List Expr))
ArgsOf = Within IsArgs

args_of : (b : Room) (y : Tall (List Expr)) (w : List Word) → ListOf t.comma IsExprs b y w → ArgsOf b y w
args_of b y w l = go l.is
  where
    go : (((w ≡ []) × (y ≡ ([], 0))) ⊎ ListFrom t.comma IsExprs [] 0 b y w) → ArgsOf b y w
    go (inl e) = rw (e.0, e.1) (no_args, omega arith)
    go (inr r) = let m : max 0 r.tall ≡ r.tall = omega arith in rw (r.both, r.value, m) (args' r.tall r.items r.text r.last r.row r.may, r.fits)

-- a primary expression, with children in the room
abbrev pub PrimOf : Form (Tall Expr)
PrimOf b x w = IsExpr 7 x.1 x.0 w × (x.1 ≤ suc b.0)

pub prim_rises : Rises PrimOf
prim_rises b c le x w s = (s.0, let f = s.1 in let l = le.0 in omega arith)

-- the same of any level
abbrev pub Outer : ℕ → Form (Tall Expr)
Outer least b x w = ExprOf least (up b) x w

pub outer_rises : (least : ℕ) → Rises (Outer least)
outer_rises least b c le x w s = expr_rises least (up b) (up c) (let l = le.0 in omega arith, le.1) x w s

-- what follows an operand, and is one with it
abbrev pub SuffixOf : Tall Expr → Form (Tall Expr)
SuffixOf x b y w = ((u : List Word) → IsExpr 7 x.1 x.0 u → IsExpr 7 y.1 y.0 (u ++ w)) × (1 ≤ y.1) × (y.1 ≤ suc b.0) × (1 ≤ length w)

pub suffix_rises : (x : Tall Expr) → Rises (SuffixOf x)
suffix_rises x b c le y w s = (s.0, s.1, (let f = s.2 in let l = le.0 in omega arith), s.3)

or_false : (a b : Bool) → (a || b) ≡ false → (a ≡ false) × (b ≡ false)
or_false true b e = absurd cc
or_false false b e = (refl, e)

-- ---- pieces of expressions

call_is : (x : Tall Expr) (xs : Tall (List Expr)) (d b : Room) → d ⊑ b → x.1 ≤ d.0 → (p q : Span) (u v w : List Word) → IsTaken t.left_parenthesis span_of b p u → ArgsOf b xs v → IsTaken t.right_parenthesis span_of b q w
    → SuffixOf x b (expr_node (expr_start x.0) q.end (form.Call x.0 xs.0), max x.1 xs.1 + 1) (u ++ (v ++ (w ++ [])))
call_is x xs d b db low p q u v w iu iv iw =
    let l = db.0 in
    let f = iv.1 in
    (λ z iz. rw (iu.1, iw.1, iw.3) (called iu.0 iw.0 x.1 xs.1 x.0 xs.0 z v iz iu.2 iv.0 iw.2), omega arith, omega arith, rw iu.1 (omega arith))

index_is : (x y : Tall Expr) (d b : Room) → d ⊑ b → x.1 ≤ d.0 → (p q : Span) (u v w : List Word) → IsTaken t.left_bracket span_of b p u → ExprOf 1 b y v → IsTaken t.right_bracket span_of b q w
    → SuffixOf x b (expr_node (expr_start x.0) q.end (form.Index x.0 y.0), max x.1 y.1 + 1) (u ++ (v ++ (w ++ [])))
index_is x y d b db low p q u v w iu iv iw =
    let l = db.0 in
    let f = iv.fits in
    (λ z iz. rw (iu.1, iw.1, iw.3) (indexed iu.0 iw.0 iv.level_of x.1 y.1 x.0 y.0 z v iz iu.2 iv.spells iw.2), omega arith, omega arith, rw iu.1 (omega arith))

-- behind a `[` and what may stand before the `:`
abbrev pub CutOf : Tall Expr → Tall (Option Expr) → Form (Tall Expr)
CutOf x low b y w = ((u v : List Word) (a : Word) → IsExpr 7 x.1 x.0 u → a.kind ≡ t.left_bracket → IsMaybe low.1 low.0 v → IsExpr 7 y.1 y.0 (u ++ a ∷ (v ++ w))) × (1 ≤ y.1) × (low.1 ≤ b.0 → y.1 ≤ suc b.0)

cut_is : (x : Tall Expr) (low high : Tall (Option Expr)) (d b : Room) → d ⊑ b → x.1 ≤ d.0 → (p q : Span) (u v w : List Word) → IsTaken t.colon span_of b p u → Within IsMaybe b high v → IsTaken t.right_bracket span_of b q w
    → CutOf x low b (expr_node (expr_start x.0) q.end (form.Cut x.0 low.0 high.0), max x.1 (max low.1 high.1) + 1) (u ++ (v ++ (w ++ [])))
cut_is x low high d b db small p q u v w iu iv iw =
    let l = db.0 in
    let f = iv.1 in
    (λ z y a iz ka iy. rw (iu.1, iw.1, iw.3) (cut a iu.0 iw.0 x.1 low.1 high.1 x.0 low.0 high.0 z y v iz ka iy iu.2 iv.0 iw.2), omega arith, λ g. omega arith)

unsigned : (x : Tall Expr) (op : UnaryOp) (b : Room) (p : Span) (u v : List Word) → IsTaken (unary_kind op) span_of b p u → ExprOf 6 b x v → Outer 6 b (expr_node p.start (expr_end x.0) (form.Unary op x.0), x.1 + 1) (u ++ (v ++ []))
unsigned x op b p u v iu iv = let f = iv.fits in record { level_of = 6; high = omega arith; spells = rw (append-nil, iu.1, iu.3) (signed iu.0 op iv.level_of x.1 x.0 v iu.2 iv.spells iv.high); fits = omega arith }

joined : (least most : ℕ) (op : BinaryOp) (left right : Expr) (h h' : ℕ) (b : Room) (u v : List Word) (o : Word) → least ≤ level op → level op ≤ most → h ≤ b.0 → h' ≤ b.0 → o.kind ≡ binary_kind op → Outer most b (left, h) u
    → (l' : ℕ) → IsExpr l' h' right v → level op < l' → Outer least b (binary_expr op left right, max h h' + 1) (u ++ o ∷ v)
joined least most op left right h h' b u v o low high hb hb' is iu l' j lt = record { level_of = level op; high = low; spells = operated o op iu.level_of l' h h' left right u v iu.spells (omega (arith, iu.high)) is j lt; fits = omega arith }

module _ (K : Fault → Type 0) (never : K Exhausted → ⊥) (n n' : ℕ) (len : n ≤ n') (d d' : Room) (led : d ⊑ d') (deep : K TooDeep → d.0 ≡ d'.0) (e e' : ℕ → Reader (Tall Expr)) (nested : 1 ≤ d.0 → (least : ℕ) → least ≤ 6 → (ts : List Word) → Good n d K (ExprOf least) (e least) (e' least) ts) where
  expr_in : 1 ≤ d.0 → (ts : List Word) → Good n d K (Within AnyExpr) (e 1) (e' 1) ts
  expr_in some ts = weaker n d K (ExprOf 1) (Within AnyExpr) _ _ _ _ (λ b db x w s. any_expr b x w s) (nested some 1 (omega arith) ts)

  args_good : 1 ≤ d.0 → (ts : List Word) → Good n d K ArgsOf (args n d.0 e) (args n' d'.0 e') ts
  unfolding args
  args_good some ts = weaker n d K (ListOf t.comma IsExprs) ArgsOf _ _ _ _ (λ b db. args_of b)
      (list_of_good t.comma t.right_parenthesis AnyExpr IsExprs one_of more_of K never n d (e 1) (e' 1) (expr_in some) n' len ts)

  call_good : (x : Tall Expr) → 1 ≤ x.1 → x.1 ≤ d.0 → (ts : List Word) → kind_of ts ≡ Some t.left_parenthesis → (N : ℕ) → N ≤ n → Good (suc N) d K (SuffixOf x) (call n d.0 e x.0 x.1) (call n' d'.0 e' x.0 x.1) ts
  unfolding call
  call_good x some low ts is N le = take_then (suc N) N d K _ t.left_parenthesis span_of _ _ ts (omega arith) is (λ p r.
      seq N d K ArgsOf _ (args n' d'.0 e') _ _ r _ _ (within_rises IsArgs) (fewer n N d K _ _ _ _ _ le (args_good (omega arith) r)) (λ xs _ r2.
      expect_then N d K _ t.right_parenthesis span_of _ _ r2 (λ q r3.
      good_pure N d K _ _ r3 (λ b db w iw v iv u iu. call_is x xs d b db low p q u v w iu iv iw))))

  bound_good : 1 ≤ d.0 → (ts : List Word) → Good n d K (Within IsMaybe) (bound n d.0 e) (bound n' d'.0 e') ts
  unfolding bound
  bound_good some ts = choice n d K _ t.right_bracket _ _ _ _ ts
      (λ close. good_pure n d K _ _ ts (λ b db. (no_expr, omega arith)))
      (λ other. seq n d K (ExprOf 1) _ (e' 1) _ _ ts _ _ (expr_rises 1) (nested some 1 (omega arith) ts) (λ x _ r. good_pure n d K _ _ r (λ b db u iu. rw append-nil (some_expr iu.level_of x.1 x.0 u iu.spells, iu.fits))))

  cut_good : (x : Tall Expr) → 1 ≤ x.1 → x.1 ≤ d.0 → (low : Tall (Option Expr)) (ts : List Word) → Good n d K (CutOf x low) (cut_from n d.0 e x.0 x.1 low.0 low.1) (cut_from n' d'.0 e' x.0 x.1 low.0 low.1) ts
  unfolding cut_from
  cut_good x some small low ts = expect_then n d K _ t.colon span_of _ _ ts (λ p r.
      seq n d K (Within IsMaybe) _ (bound n' d'.0 e') _ _ r _ _ (within_rises IsMaybe) (bound_good (omega arith) r) (λ high _ r2.
      expect_then n d K _ t.right_bracket span_of _ _ r2 (λ q r3.
      good_pure n d K _ _ r3 (λ b db w iw v iv u iu. cut_is x low high d b db small p q u v w iu iv iw))))

  bracket_good : (x : Tall Expr) → 1 ≤ x.1 → x.1 ≤ d.0 → (ts : List Word) → kind_of ts ≡ Some t.left_bracket → (N : ℕ) → N ≤ n → Good (suc N) d K (SuffixOf x) (bracket n d.0 e x.0 x.1) (bracket n' d'.0 e' x.0 x.1) ts
  unfolding bracket
  bracket_good x some low ts is N le = take_then (suc N) N d K _ t.left_bracket span_of _ _ ts (omega arith) is (λ p r.
      choice N d K _ t.colon _ _ _ _ r
      (λ here. weaker N d K (CutOf x (None, 0)) _ _ _ _ _ (λ b db y w c u iu. (λ z iz. rw iu.1 (c.0 z [] iu.0 iz iu.2 no_expr), c.1, c.2 (omega arith), rw iu.1 (omega arith))) (fewer n N d K _ _ _ _ _ le (cut_good x some low (None, 0) r)))
      (λ other. seq N d K (ExprOf 1) _ (e' 1) _ _ r _ _ (expr_rises 1) (fewer n N d K _ _ _ _ _ le (nested (omega arith) 1 (omega arith) r)) (λ y _ r2.
      choice N d K _ t.right_bracket _ _ _ _ r2
      (λ close. take_then N N d K _ t.right_bracket span_of _ _ r2 (omega arith) close (λ q r3. good_pure N d K _ _ r3 (λ b db w iw v iv u iu. index_is x y d b db low p q u v w iu iv iw)))
      (λ there. weaker N d K (CutOf x (Some y.0, y.1)) _ _ _ _ _ (λ b db z w c v iv u iu. (λ a ia. rw iu.1 (c.0 a v iu.0 ia iu.2 (some_expr iv.level_of y.1 y.0 v iv.spells)), c.1, c.2 iv.fits, rw iu.1 (omega arith))) (fewer n N d K _ _ _ _ _ le (cut_good x some low (Some y.0, y.1) r2))))))

  suffixes_good : (k k' : ℕ) → k ≤ n → k ≤ k' → (x : Tall Expr) → 1 ≤ x.1 → (ts : List Word) → Good k d K (Rest PrimOf PrimOf x) (suffixes_from n d.0 e k x.0 x.1) (suffixes_from n' d'.0 e' k' x.0 x.1) ts
  unfolding suffixes_from
  suffixes_good zero k' ln le x some ts = good_exhausted d K _ _ ts never (λ b db. (x, [], λ u iu. rw append-nil iu))
  suffixes_good (suc k) zero ln le x some ts = absurd (omega arith)
  suffixes_good (suc k) (suc k') ln le x some ts = choice (suc k) d K _ t.left_parenthesis _ _ _ _ ts
      (λ here. good_limited (suc k) K _ d d' x.1 _ _ ts led deep (some_not_none (kind_of ts) t.left_parenthesis here) (λ b db. (x, [], λ u iu. rw append-nil iu))
      (λ c dc low a ea. let q = a_word t.right_parenthesis in ((call_expr x.0 [] q, max x.1 0 + 1), q ∷ [], λ u iu. (called a q x.1 0 x.0 [] u [] iu.0 (some_is a.kind t.left_parenthesis (ea ∙ here)) no_args refl, omega arith)))
      (λ low. seq_less (suc k) k d K (SuffixOf x) _ (call n' d'.0 e' x.0 x.1) _ _ ts _ _ (omega arith) (λ b y u s. s.3) (suffix_rises x) (call_good x some low ts here k (omega arith)) (λ y sy r.
      weaker k d K (Rest PrimOf PrimOf y) _ _ _ _ _ (λ b db z w a u iu v iv. simp append_assoc at (a (v ++ u) (iu.0 v iv.0, iu.2))) (suffixes_good k k' (omega arith) (omega arith) y sy.3.1 r))))
      (λ other. choice (suc k) d K _ t.left_bracket _ _ _ _ ts
      (λ here. good_limited (suc k) K _ d d' x.1 _ _ ts led deep (some_not_none (kind_of ts) t.left_bracket here) (λ b db. (x, [], λ u iu. rw append-nil iu))
      (λ c dc low a ea. let m = a_word t.colon in let q = a_word t.right_bracket in ((cut_expr x.0 None None q, max x.1 (max 0 0) + 1), m ∷ q ∷ [], λ u iu. (cut a m q x.1 0 0 x.0 None None u [] [] iu.0 (some_is a.kind t.left_bracket (ea ∙ here)) no_expr refl no_expr refl, omega arith)))
      (λ low. seq_less (suc k) k d K (SuffixOf x) _ (bracket n' d'.0 e' x.0 x.1) _ _ ts _ _ (omega arith) (λ b y u s. s.3) (suffix_rises x) (bracket_good x some low ts here k (omega arith)) (λ y sy r.
      weaker k d K (Rest PrimOf PrimOf y) _ _ _ _ _ (λ b db z w a u iu v iv. simp append_assoc at (a (v ++ u) (iu.0 v iv.0, iu.2))) (suffixes_good k k' (omega arith) (omega arith) y sy.3.1 r))))
      (λ there. good_pure (suc k) d K _ _ ts (λ b db u iu. rw append-nil iu)))

  paren_good : 1 ≤ d.0 → (ts : List Word) → kind_of ts ≡ Some t.left_parenthesis → Good n d K PrimOf (paren n d.0 e) (paren n' d'.0 e') ts
  unfolding paren
  paren_good some ts is = take_then n n d K _ t.left_parenthesis span_of _ _ ts (omega arith) is (λ p r.
      seq n d K (ExprOf 1) _ (e' 1) _ _ r _ _ (expr_rises 1) (nested some 1 (omega arith) r) (λ x _ r2.
      expect_then n d K _ t.right_parenthesis span_of _ _ r2 (λ q r3.
      good_pure n d K _ _ r3 (λ b db v iv a ia u iu. let low = ia.fits in rw (iu.1, iv.1, iu.3, iv.3) (parens iu.0 iv.0 ia.level_of x.1 x.0 a iu.2 ia.spells iv.2, omega arith)))))

  chan_good : 1 ≤ d.0 → (ts : List Word) → kind_of ts ≡ Some t.chan_word → Good n d K PrimOf (chan_operand d.0) (chan_operand d'.0) ts
  unfolding chan_operand
  chan_good some ts is = take_then n n d K _ t.chan_word span_of _ _ ts (omega arith) is (λ p r.
      seq n d K TypeOf _ (type_ d'.0) _ _ r _ _ (within_rises IsType) (type_good K n d.0 d'.0 d.1 d'.1 led deep some r) (λ x _ r2.
      good_pure n d K _ _ r2 (λ b db a ia u iu. let low = ia.1 in rw (append-nil, iu.1, iu.3) (channel iu.0 x.1 x.0 a iu.2 ia.0, omega arith))))

  a_prim : (b : Room) → Filled b PrimOf
  a_prim b = ((an_expr, 1), a_word kind.Name ∷ [], (is_an_expr, omega arith))

  leaf_good : (wanted : TokenKind) (f : Word → Expr) → ((w : Word) → w.kind ≡ wanted → IsExpr 7 1 (f w) (w ∷ [])) → (ts : List Word) → kind_of ts ≡ Some wanted → Good n d K PrimOf (take_as f >>= λ x. pure (x, 1)) (take_as f >>= λ x. pure (x, 1)) ts
  leaf_good wanted f is ts here = take_then n n d K _ wanted f _ _ ts (omega arith) here (λ x r. good_pure n d K _ _ r (λ b db u iu. rw (append-nil, iu.1, iu.3) (is iu.0 iu.2, omega arith)))

  operand_good : (ts : List Word) → Good n d K PrimOf (operand n d.0 e) (operand n' d'.0 e') ts
  unfolding operand
  operand_good ts =
      choice n d K PrimOf kind.Int _ _ _ _ ts (λ here. leaf_good kind.Int int_expr (λ w k. int w k) ts here)
      (λ _. choice n d K PrimOf kind.Rune _ _ _ _ ts (λ here. leaf_good kind.Rune rune_expr (λ w k. rune w k) ts here)
      (λ _. choice n d K PrimOf kind.Text _ _ _ _ ts (λ here. leaf_good kind.Text text_expr (λ w k. text w k) ts here)
      (λ _. choice n d K PrimOf t.chan_word _ _ _ _ ts
      (λ here. good_limited n K _ d d' 1 _ _ ts led deep (some_not_none (kind_of ts) t.chan_word here) (λ b db. a_prim b)
      (λ c dc some p ea. ((chan_expr p a_type, 2), a_word kind.Name ∷ [], (channel p 1 a_type (a_word kind.Name ∷ []) (some_is p.kind t.chan_word (ea ∙ here)) is_a_type, omega arith)))
      (λ some. chan_good some ts here))
      (λ _. choice n d K PrimOf t.left_parenthesis _ _ _ _ ts
      (λ here. good_limited n K _ d d' 1 _ _ ts led deep (some_not_none (kind_of ts) t.left_parenthesis here) (λ b db. a_prim b)
      (λ c dc some p ea. let q = a_word t.right_parenthesis in ((paren_expr p an_expr q, 2), a_word kind.Name ∷ q ∷ [], (parens p q 7 1 an_expr (a_word kind.Name ∷ []) (some_is p.kind t.left_parenthesis (ea ∙ here)) is_an_expr refl, omega arith)))
      (λ some. paren_good some ts here))
      (λ _. seq n d K QualifiedOf _ (qualified 1) _ _ ts _ _ qualified_rises (qualified_one n d K ts) (λ q _ r. good_pure n d K _ _ r (λ b db u iu. rw append-nil (expr_qualified q u iu, omega arith))))))))

  primary_good : (ts : List Word) → Good n d K PrimOf (primary n d.0 e) (primary n' d'.0 e') ts
  unfolding primary
  primary_good ts = seq n d K PrimOf PrimOf (operand n' d'.0 e') _ _ ts _ _ prim_rises (operand_good ts) (λ x s r. suffixes_good n n' (omega arith) len x (tall 7 x.1 x.0 s.1 s.3.0) r)

  by_sign_good : (o : Option UnaryOp) (ts : List Word) → unary_op (kind_of ts) ≡ o → Good n d K (Outer 6) (by_sign n d.0 e o) (by_sign n' d'.0 e' o) ts
  by_sign_good None ts is = weaker n d K PrimOf (Outer 6) _ _ _ _ (λ b db x w p. record { level_of = 7; high = omega arith; spells = p.0; fits = p.1 }) (primary_good ts)
  by_sign_good (Some op) ts is =
      let here = unary_sound (kind_of ts) op is in
      good_limited n K _ d d' 1 _ _ ts led deep (some_not_none (kind_of ts) (unary_kind op) here) (λ b db. filled_expr 6 (omega arith) (up b) (omega arith))
      (λ c dc some p ea. ((unary_expr p op an_expr, 2), a_word kind.Name ∷ [], record { level_of = 6; high = omega arith; spells = signed p op 7 1 an_expr (a_word kind.Name ∷ []) (some_is p.kind (unary_kind op) (ea ∙ here)) is_an_expr (omega arith); fits = omega arith }))
      (λ some. take_then n n d K _ (unary_kind op) span_of _ _ ts (omega arith) here (λ p r.
      seq n d K (ExprOf 6) _ (e' 6) _ _ r _ _ (expr_rises 6) (nested some 6 (omega arith) r) (λ x _ r2.
      good_pure n d K _ _ r2 (λ b db v iv u iu. unsigned x op b p u v iu iv))))

  unary_good : (ts : List Word) → Good n d K (Outer 6) (unary n d.0 e) (unary n' d'.0 e') ts
  unfolding unary
  unary_good ts = peeked n d K (Outer 6) (λ kind. by_sign n' d'.0 e' (unary_op kind)) ts _ _ (by_sign_good (unary_op (kind_of ts)) ts refl)

  -- what may follow a left side whose level is at least most
  abbrev pub Climbs : ℕ → ℕ → Tall Expr → Form (Tall Expr)
  Climbs least most left = Rest (Outer most) (Outer least) left

  stops : (least most : ℕ) → least ≤ most → (left : Tall Expr) (b : Room) (u : List Word) → Outer most b left u → Outer least b left (u ++ [])
  stops least most lm left b u iu = let high = iu.high in rw append-nil (record { level_of = iu.level_of; high = omega arith; spells = iu.spells; fits = iu.fits })

  by_operator_good : (t : ℕ) → suc t ≤ n → (least most : ℕ) → least ≤ most → (left : Expr) (h : ℕ) → 1 ≤ h → (again again' : ℕ → Expr → ℕ → Reader (Tall Expr))
      → ((most' : ℕ) → least ≤ most' → (left' : Expr) (h' : ℕ) → 1 ≤ h' → (ts : List Word) → Good t d K (Climbs least most' (left', h')) (again most' left' h') (again' most' left' h') ts)
      → (o : Option BinaryOp) (ts : List Word) → binary_op (kind_of ts) ≡ o → Good (suc t) d K (Climbs least most (left, h)) (by_operator n d.0 e least most left h again o) (by_operator n' d'.0 e' least most left h again' o) ts
  by_operator_good t ln least most lm left h hh again again' goes None ts is = good_pure (suc t) d K _ _ ts (λ b db u iu. stops least most lm (left, h) b u iu)
  by_operator_good t ln least most lm left h hh again again' goes (Some op) ts is =
      let here = binary_sound (kind_of ts) op is in
      good_if (suc t) d K _ (nat_lt (level op) least || nat_lt most (level op)) _ _ _ _ ts
      (λ a. good_pure (suc t) d K _ _ ts (λ b db u iu. stops least most lm (left, h) b u iu))
      (λ no'.
      let both = or_false (nat_lt (level op) least) (nat_lt most (level op)) no' in
      let low : least ≤ level op = ltb-false (level op) least both.0 in
      let high : level op ≤ most = ltb-false most (level op) both.1 in
      let six : level op < 6 = level_small op in
      good_limited (suc t) K _ d d' h _ _ ts led deep (some_not_none (kind_of ts) (binary_kind op) here) (λ b db. ((left, h), [], λ u iu. stops least most lm (left, h) b u iu))
      (λ c dc hc o ea. ((binary_expr op left an_expr, max h 1 + 1), a_word kind.Name ∷ [], λ u iu. joined least most op left an_expr h 1 c u (a_word kind.Name ∷ []) o low high hc (omega arith) (some_is o.kind (binary_kind op) (ea ∙ here)) iu 7 is_an_expr (omega arith)))
      (λ small. take_then (suc t) t d K _ (binary_kind op) span_of _ _ ts (omega arith) here (λ s r.
      seq t d K (ExprOf (level op + 1)) _ (e' (level op + 1)) _ _ r _ _ (expr_rises (level op + 1)) (fewer n t d K _ _ _ _ _ (omega arith) (nested (omega arith) (level op + 1) (omega arith) r)) (λ x _ r2.
      weaker t d K (Climbs least (level op) (binary_expr op left x.0, max h x.1 + 1)) _ _ _ _ _
      (λ m dm y w z v iv o io u iu.
      let le = dm.0 in
      let one = joined (level op) most op left x.0 h x.1 m u v io.0 (omega arith) high (omega arith) iv.fits io.2 iu iv.level_of iv.spells (omega (arith, iv.high)) in
      rw io.1 (simp append_assoc at (z (u ++ io.0 ∷ v) one)))
      (goes (level op) low (binary_expr op left x.0) (max h x.1 + 1) (omega arith) r2)))))

  pub climb_good : (least : ℕ) (t t' : ℕ) → t ≤ n → t ≤ t' → (most : ℕ) → least ≤ most → (left : Expr) (h : ℕ) → 1 ≤ h → (ts : List Word) → Good t d K (Climbs least most (left, h)) (climb n d.0 e least t most left h) (climb n' d'.0 e' least t' most left h) ts
  unfolding climb
  climb_good least zero t' ln le most lm left h hh ts = good_exhausted d K _ _ ts never (λ b db. ((left, h), [], λ u iu. stops least most lm (left, h) b u iu))
  climb_good least (suc t) zero ln le most lm left h hh ts = absurd (omega arith)
  climb_good least (suc t) (suc t') ln le most lm left h hh ts =
      peeked (suc t) d K _ (λ kd. by_operator n' d'.0 e' least most left h (climb n' d'.0 e' least t') (binary_op kd)) ts _ _
      (by_operator_good t ln least most lm left h hh (climb n d.0 e least t) (climb n' d'.0 e' least t') (λ most' lm' left' h' hh' ts'. climb_good least t t' (omega arith) (omega arith) most' lm' left' h' hh' ts') (binary_op (kind_of ts)) ts refl)

  deeper_good : (least : ℕ) → least ≤ 6 → (ts : List Word) → Good n d K (Outer least) (deeper n d.0 e least) (deeper n' d'.0 e' least) ts
  unfolding deeper
  deeper_good least lm ts = seq n d K (Outer 6) (Outer least) (unary n' d'.0 e') _ _ ts _ _ (outer_rises 6) (unary_good ts) (λ x s r. climb_good least n n' (omega arith) len 6 lm x.0 x.1 (tall s.3.level_of x.1 x.0 s.1 s.3.spells) r)

pub expr_good : (K : Fault → Type 0) (never : K Exhausted → ⊥) (n n' : ℕ) → n ≤ n' → (d d' m m' : ℕ) → (d, m) ⊑ (d', m') → (K TooDeep → d ≡ d') → 1 ≤ d → (least : ℕ) → least ≤ 6 → (ts : List Word)
    → Good n (d, m) K (ExprOf least) (expr n d least) (expr n' d' least) ts
unfolding expr
expr_good K never n n' len zero d' m m' led deep some least lm ts = absurd (omega arith)
expr_good K never n n' len (suc d) zero m m' led deep some least lm ts = let l : suc d ≤ 0 = led.0 in absurd (omega arith)
expr_good K never n n' len (suc d) (suc d') m m' led deep some least lm ts =
    let less : (d, m) ⊑ (d', m') = (let l : suc d ≤ suc d' = led.0 in omega arith, led.1) in
    let eq : K TooDeep → d ≡ d' = λ s. let f : suc d ≡ suc d' = deep s in omega arith in
    shift n (d, m) K (ExprOf least) _ ts _ _ (deeper_good K never n n' len (d, m) (d', m') less eq (expr n d) (expr n' d')
    (λ some' least' lm' ts'. expr_good K never n n' len d d' m m' less eq some' least' lm' ts') least lm ts)

pub exprs_good : (K : Fault → Type 0) (never : K Exhausted → ⊥) (n n' : ℕ) → n ≤ n' → (d d' : Room) → d ⊑ d' → (K TooDeep → d.0 ≡ d'.0) → 1 ≤ d.0 → (ts : List Word) → Good n d K ExprsOf (exprs n d.0) (exprs n' d'.0) ts
unfolding exprs
exprs_good K never n n' len d d' led deep some ts = weaker n d K (RowFrom IsExprs [] 0) ExprsOf _ _ _ _ (λ b db. exprs_of b)
    (row_good t.comma t.comma AnyExpr IsExprs one_of more_of K never n d (expr n d.0 1) (expr n' d'.0 1)
    (λ ts'. weaker n d K (ExprOf 1) (Within AnyExpr) _ _ _ _ (λ b db x w s. any_expr b x w s) (expr_good K never n n' len d.0 d'.0 d.1 d'.1 led deep some 1 (omega arith) ts')) n n' (omega arith) len [] 0 ts)
