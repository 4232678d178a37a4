-- Expressions that the grammar derives are read.
use Rattle.std.proofs.Common.{◌≡◌, ℕ, zero, suc, ◌+◌, ◌≤◌, ◌<◌, max, min, false, List, [], ◌∷◌, ◌++◌, Option, Some, None, length, Ok, refl, ap, ◌∙◌, append_assoc, arith}
use Rattle.std.proofs.lemmas.List.{length-append}
use Rattle.std.proofs.lemmas.Bool.{le-ltb, lt-ltb}
use Rattle.go_ast.specs.declared.token.TokenKind.{TokenKind}
use Rattle.go_ast.specs.declared.token.TokenKind.TheVariants as kind
use Rattle.go_ast.specs.declared.expr.TypeExpr.{TypeExpr}
use Rattle.go_ast.specs.declared.expr.Expr.{Expr}
use Rattle.go_ast.specs.declared.expr.BinaryOp.{BinaryOp}
use Rattle.go_ast.specs.declared.expr.BinaryOp.TheVariants as op
use Rattle.go_ast.specs.declared.expr.UnaryOp.{UnaryOp}
use Rattle.go_grammar.specs.Words.{Word}
use Rattle.go_grammar.specs.Terminals as t
use Rattle.go_grammar.specs.Trees.{name_of, plain_expr, member_expr, chan_expr, paren_expr, call_expr, index_expr, cut_expr, unary_expr, binary_expr, int_expr, rune_expr, text_expr, unary_kind, binary_kind, level}
use Rattle.go_grammar.specs.Exprs.{IsExpr, int, rune, text, plain, member, channel, parens, called, indexed, cut, signed, operated, IsArgs, no_args, args as args', IsExprs, IsMaybe, no_expr, some_expr}
use Rattle.go_reading.specs.declared.qualified.Qualified.{Qualified}
use Rattle.go_reading.specs.Kinds.{same, is, binary_op, unary_op}
use Rattle.go_reading.specs.Input.{Reader, Tall, kind_of, take_as, expect_as}
use Rattle.go_reading.specs.Types.{type_, expr_of}
use Rattle.go_reading.specs.Exprs.{args, bound, cut_from, bracket, call, suffixes_from, paren, chan_operand, operand, primary, unary, by_operator, climb, deeper, expr, exprs}
use Rattle.go_reading.proofs.Tables.{level_small, unary_of, binary_of}
use Rattle.go_reading.proofs.RowsRead.{sees, kind_is, is_other, row_reads, none_reads, list_of_reads}
use Rattle.go_reading.proofs.TypesGood.{IsQualified, alone, pair}
use Rattle.go_reading.proofs.TypesRead.{qualified_read, qualified_kind, type_read, type_tall}
use Rattle.go_reading.proofs.ExprsGood.{tall, leveled, AnyExpr}
use Rattle.go_reading.proofs.Ends.{NoSuffix, Ends, Follows, Plain, ends_by, plain_comma, plain_parenthesis, plain_bracket, plain_colon, not_begun, exprs_row, parenthesis_no, bracket_no, colon_no}

-- how the expressions below d levels are read
abbrev pub Inner : ℕ → ℕ → Type 0
Inner n d = (l h : ℕ) (e : Expr) (w : List Word) → IsExpr l h e w → h ≤ d → length w < n → (least : ℕ) → least ≤ l → least ≤ 6 → (rest : List Word) → Ends least rest → expr n d least (w ++ rest) ≡ (Ok (e, h), rest)

-- ---- steps

module _ (n d : ℕ) (e : ℕ → Reader (Tall Expr)) where
  suffix_stop : (k : ℕ) (x : Expr) (h : ℕ) (rest : List Word) → 0 < k → NoSuffix rest → suffixes_from n d e k x h rest ≡ (Ok (x, h), rest)
  unfolding suffixes_from
  suffix_stop zero x h rest some no' = absurd (omega arith)
  suffix_stop (suc k) x h rest some no' = rw (no'.no_call, no'.no_index) refl

  call_step : (k : ℕ) (x : Expr) (h h' : ℕ) (es : List Expr) (a b : Word) (v rest : List Word) → a.kind ≡ t.left_parenthesis → b.kind ≡ t.right_parenthesis → h ≤ d
      → args n d e (v ++ b ∷ rest) ≡ (Ok (es, h'), b ∷ rest) → suffixes_from n d e (suc k) x h (a ∷ (v ++ b ∷ rest)) ≡ suffixes_from n d e k (call_expr x es b) (max h h' + 1) rest
  unfolding suffixes_from call take_as expect_as
  call_step k x h h' es a b v rest ka kb le r = rw (sees a (v ++ b ∷ rest) t.left_parenthesis ka, le-ltb d h le, r, sees b rest t.right_parenthesis kb) refl

  index_step : (k : ℕ) (x i : Expr) (h h' : ℕ) (a b : Word) (v rest : List Word) → a.kind ≡ t.left_bracket → b.kind ≡ t.right_bracket → h ≤ d → is (kind_of (v ++ b ∷ rest)) t.colon ≡ false
      → e 1 (v ++ b ∷ rest) ≡ (Ok (i, h'), b ∷ rest) → suffixes_from n d e (suc k) x h (a ∷ (v ++ b ∷ rest)) ≡ suffixes_from n d e k (index_expr x i b) (max h h' + 1) rest
  unfolding suffixes_from bracket take_as
  index_step k x i h h' a b v rest ka kb le other r =
      rw (is_other (Some a.kind) t.left_bracket t.left_parenthesis (kind_is a [] t.left_bracket ka) refl, sees a (v ++ b ∷ rest) t.left_bracket ka, le-ltb d h le, other, r, sees b rest t.right_bracket kb) refl

  bound_none : (b : Word) (rest : List Word) → b.kind ≡ t.right_bracket → bound n d e (b ∷ rest) ≡ (Ok (None, 0), b ∷ rest)
  unfolding bound
  bound_none b rest kb = rw (sees b rest t.right_bracket kb) refl

  bound_some : (x : Expr) (h : ℕ) (ts rest : List Word) → is (kind_of ts) t.right_bracket ≡ false → e 1 ts ≡ (Ok (x, h), rest) → bound n d e ts ≡ (Ok (Some x, h), rest)
  unfolding bound
  bound_some x h ts rest other r = rw (other, r) refl

  cut_read : (x : Expr) (h i j : ℕ) (low high : Option Expr) (c b : Word) (v rest : List Word) → c.kind ≡ t.colon → b.kind ≡ t.right_bracket → bound n d e (v ++ b ∷ rest) ≡ (Ok (high, j), b ∷ rest)
      → cut_from n d e x h low i (c ∷ (v ++ b ∷ rest)) ≡ (Ok (cut_expr x low high b, max h (max i j) + 1), rest)
  unfolding cut_from expect_as
  cut_read x h i j low high c b v rest kc kb r = rw (sees c (v ++ b ∷ rest) t.colon kc, r, sees b rest t.right_bracket kb) refl

  cut_step : (k : ℕ) (x y : Expr) (h h' : ℕ) (a c : Word) (ts rest : List Word) → a.kind ≡ t.left_bracket → c.kind ≡ t.colon → h ≤ d
      → cut_from n d e x h None 0 (c ∷ ts) ≡ (Ok (y, h'), rest) → suffixes_from n d e (suc k) x h (a ∷ c ∷ ts) ≡ suffixes_from n d e k y h' rest
  unfolding suffixes_from bracket take_as
  cut_step k x y h h' a c ts rest ka kc le r =
      rw (is_other (Some a.kind) t.left_bracket t.left_parenthesis (kind_is a [] t.left_bracket ka) refl, sees a (c ∷ ts) t.left_bracket ka, le-ltb d h le, sees c ts t.colon kc, r) refl

  cut_low_step : (k : ℕ) (x i y : Expr) (h h' h'' : ℕ) (a c : Word) (ts us rest : List Word) → a.kind ≡ t.left_bracket → c.kind ≡ t.colon → h ≤ d → is (kind_of ts) t.colon ≡ false → e 1 ts ≡ (Ok (i, h'), c ∷ us)
      → cut_from n d e x h (Some i) h' (c ∷ us) ≡ (Ok (y, h''), rest) → suffixes_from n d e (suc k) x h (a ∷ ts) ≡ suffixes_from n d e k y h'' rest
  unfolding suffixes_from bracket take_as
  cut_low_step k x i y h h' h'' a c ts us rest ka kc le other r f =
      rw (is_other (Some a.kind) t.left_bracket t.left_parenthesis (kind_is a [] t.left_bracket ka) refl, sees a ts t.left_bracket ka, le-ltb d h le, other, r, is_other (Some c.kind) t.colon t.right_bracket (kind_is c [] t.colon kc) refl, f) refl

  climb_stop : (least k most : ℕ) (c : Expr) (h : ℕ) (rest : List Word) → 0 < k → ((op : BinaryOp) → binary_op (kind_of rest) ≡ Some op → level op < least) → climb n d e least k most c h rest ≡ (Ok (c, h), rest)
  unfolding climb
  climb_stop least zero most c h rest some other = absurd (omega arith)
  climb_stop least (suc k) most c h rest some other = go (binary_op (kind_of rest)) refl
    where
      go : (o : Option BinaryOp) → binary_op (kind_of rest) ≡ o → by_operator n d e least most c h (climb n d e least k) o rest ≡ (Ok (c, h), rest)
      go None is' = refl
      go (Some op) is' = rw (lt-ltb (level op) least (other op is')) refl

  climb_step : (least k most : ℕ) (c x : Expr) (h h' : ℕ) (a : Word) (op : BinaryOp) (v rest : List Word) → a.kind ≡ binary_kind op → least ≤ level op → level op ≤ most → h ≤ d
      → e (level op + 1) (v ++ rest) ≡ (Ok (x, h'), rest) → climb n d e least (suc k) most c h (a ∷ (v ++ rest)) ≡ climb n d e least k (level op) (binary_expr op c x) (max h h' + 1) rest
  unfolding climb take_as
  climb_step least k most c x h h' a op v rest is' low high le r =
      let o : binary_op (Some a.kind) ≡ Some op = ap (λ (z : TokenKind). binary_op (Some z)) is' ∙ binary_of op in
      rw (o, le-ltb (level op) least low, le-ltb most (level op) high, le-ltb d h le, r) refl

  -- unary reads what primary reads
  unary_primary : (ts : List Word) → unary_op (kind_of ts) ≡ None → unary n d e ts ≡ primary n d e ts
  unfolding unary
  unary_primary ts other = rw other refl

  signed_step : (a : Word) (op : UnaryOp) (x : Expr) (h : ℕ) (ts rest : List Word) → a.kind ≡ unary_kind op → 1 ≤ d → e 6 ts ≡ (Ok (x, h), rest) → unary n d e (a ∷ ts) ≡ (Ok (unary_expr a op x, h + 1), rest)
  unfolding unary take_as
  signed_step a op x h ts rest ka some r =
      let o : unary_op (Some a.kind) ≡ Some op = ap (λ (z : TokenKind). unary_op (Some z)) ka ∙ unary_of op in
      rw (o, le-ltb d 1 some, r) refl

  int_step : (a : Word) (rest : List Word) → a.kind ≡ kind.Int → operand n d e (a ∷ rest) ≡ (Ok (int_expr a, 1), rest)
  unfolding operand take_as
  int_step a rest k = rw k refl

  rune_step : (a : Word) (rest : List Word) → a.kind ≡ kind.Rune → operand n d e (a ∷ rest) ≡ (Ok (rune_expr a, 1), rest)
  unfolding operand take_as
  rune_step a rest k = rw k refl

  text_step : (a : Word) (rest : List Word) → a.kind ≡ kind.Text → operand n d e (a ∷ rest) ≡ (Ok (text_expr a, 1), rest)
  unfolding operand take_as
  text_step a rest k = rw k refl

  chan_step : (c : Word) (h : ℕ) (x : TypeExpr) (ts rest : List Word) → c.kind ≡ t.chan_word → 1 ≤ d → type_ d ts ≡ (Ok (x, h), rest) → operand n d e (c ∷ ts) ≡ (Ok (chan_expr c x, h + 1), rest)
  unfolding operand chan_operand take_as
  chan_step c h x ts rest k some r = rw (k, le-ltb d 1 some, r) refl

  paren_step : (a b : Word) (x : Expr) (h : ℕ) (ts rest : List Word) → a.kind ≡ t.left_parenthesis → b.kind ≡ t.right_parenthesis → 1 ≤ d → e 1 ts ≡ (Ok (x, h), b ∷ rest) → operand n d e (a ∷ ts) ≡ (Ok (paren_expr a x b, h + 1), rest)
  unfolding operand paren take_as expect_as
  paren_step a b x h ts rest ka kb some r = rw (ka, le-ltb d 1 some, r, sees b rest t.right_parenthesis kb) refl

  named_step : (q : Qualified) (w : List Word) → IsQualified q w → (rest : List Word) → is (kind_of rest) t.point ≡ false → operand n d e (w ++ rest) ≡ (Ok (expr_of q, 1), rest)
  unfolding operand
  named_step q w i rest other =
      let k = qualified_kind q w i rest in
      rw (
        is_other (kind_of (w ++ rest)) kind.Name kind.Int k refl,
        is_other (kind_of (w ++ rest)) kind.Name kind.Rune k refl,
        is_other (kind_of (w ++ rest)) kind.Name kind.Text k refl,
        is_other (kind_of (w ++ rest)) kind.Name t.chan_word k refl,
        is_other (kind_of (w ++ rest)) kind.Name t.left_parenthesis k refl,
        qualified_read 1 (omega arith) q w i rest other,
      ) refl

  -- a primary expression is its operand and what follows
  primary_step : (x : Expr) (h : ℕ) (ts rest : List Word) → operand n d e ts ≡ (Ok (x, h), rest) → primary n d e ts ≡ suffixes_from n d e n x h rest
  unfolding primary
  primary_step x h ts rest r = rw r refl

  deeper_step : (least : ℕ) (x : Expr) (h : ℕ) (ts rest : List Word) → unary n d e ts ≡ (Ok (x, h), rest) → deeper n d e least ts ≡ climb n d e least n 6 x h rest
  unfolding deeper
  deeper_step least x h ts rest r = rw r refl

-- no operand begins with a sign
prim_kind : (l h : ℕ) (e : Expr) (w : List Word) → IsExpr l h e w → l ≡ 7 → (rest : List Word) → unary_op (kind_of (w ++ rest)) ≡ None
unfolding unary_op
prim_kind _ _ _ _ (int n k) is' rest = rw k refl
prim_kind _ _ _ _ (rune n k) is' rest = rw k refl
prim_kind _ _ _ _ (text n k) is' rest = rw k refl
prim_kind _ _ _ _ (plain n k) is' rest = rw k refl
prim_kind _ _ _ _ (member p d n kp kd kn) is' rest = rw kp refl
prim_kind _ _ _ _ (channel c h of w k i) is' rest = rw k refl
prim_kind _ _ _ _ (parens a b l h e w ka i kb) is' rest = rw ka refl
prim_kind _ _ _ _ (called a b h h' e es w v i ka j kb) is' rest = rw append_assoc (prim_kind 7 h e w i refl (a ∷ (v ++ b ∷ []) ++ rest))
prim_kind _ _ _ _ (indexed a b l h h' e x w v i ka j kb) is' rest = rw append_assoc (prim_kind 7 h e w i refl (a ∷ (v ++ b ∷ []) ++ rest))
prim_kind _ _ _ _ (cut a c b h i j e low high w u v x ka y kc z kb) is' rest = rw append_assoc (prim_kind 7 h e w x refl (a ∷ (u ++ c ∷ (v ++ b ∷ [])) ++ rest))
prim_kind _ _ _ _ (signed a op l h e w ka i le) is' rest = absurd (omega arith)
prim_kind _ _ _ _ (operated o op l l' h h' a b w v i le k j lt) is' rest = let s = level_small op in absurd (omega (arith, s))

pred' : ℕ → ℕ
pred' zero = zero
pred' (suc n) = n

pred_of : (n : ℕ) → 0 < n → n ≡ suc (pred' n)
unfolding pred'
pred_of zero lt = absurd (omega arith)
pred_of (suc n) lt = refl

points : (o : BinaryOp) → same (binary_kind o) t.point ≡ false
points op.Mul = refl
points op.Div = refl
points op.Rem = refl
points op.Shl = refl
points op.Shr = refl
points op.And = refl
points op.AndNot = refl
points op.Add = refl
points op.Sub = refl
points op.Or = refl
points op.Xor = refl
points op.Equal = refl
points op.NotEqual = refl
points op.Less = refl
points op.LessEqual = refl
points op.Greater = refl
points op.GreaterEqual = refl
points op.BothOf = refl
points op.EitherOf = refl

calls : (o : BinaryOp) → same (binary_kind o) t.left_parenthesis ≡ false
calls op.Mul = refl
calls op.Div = refl
calls op.Rem = refl
calls op.Shl = refl
calls op.Shr = refl
calls op.And = refl
calls op.AndNot = refl
calls op.Add = refl
calls op.Sub = refl
calls op.Or = refl
calls op.Xor = refl
calls op.Equal = refl
calls op.NotEqual = refl
calls op.Less = refl
calls op.LessEqual = refl
calls op.Greater = refl
calls op.GreaterEqual = refl
calls op.BothOf = refl
calls op.EitherOf = refl

brackets : (o : BinaryOp) → same (binary_kind o) t.left_bracket ≡ false
brackets op.Mul = refl
brackets op.Div = refl
brackets op.Rem = refl
brackets op.Shl = refl
brackets op.Shr = refl
brackets op.And = refl
brackets op.AndNot = refl
brackets op.Add = refl
brackets op.Sub = refl
brackets op.Or = refl
brackets op.Xor = refl
brackets op.Equal = refl
brackets op.NotEqual = refl
brackets op.Less = refl
brackets op.LessEqual = refl
brackets op.Greater = refl
brackets op.GreaterEqual = refl
brackets op.BothOf = refl
brackets op.EitherOf = refl

operator_suffix : (o : BinaryOp) (s : Word) (r : List Word) → s.kind ≡ binary_kind o → NoSuffix (s ∷ r)
operator_suffix o s r e =
    let f = kind_is s r (binary_kind o) e in
    record { no_point = is_other (kind_of (s ∷ r)) (binary_kind o) t.point f (points o); no_call = is_other (kind_of (s ∷ r)) (binary_kind o) t.left_parenthesis f (calls o); no_index = is_other (kind_of (s ∷ r)) (binary_kind o) t.left_bracket f (brackets o) }

-- ---- how an expression is read: as far as its loops, whatever follows

pub record Whole (n d l h : ℕ) (e : Expr) (w : List Word) : Type 0 where
  pub prim : l ≡ 7 → (rest : List Word) → is (kind_of rest) t.point ≡ false → (k : ℕ) × (n ≤ k + length w) × (primary n d (expr n d) (w ++ rest) ≡ suffixes_from n d (expr n d) k e h rest)
  pub full : (least : ℕ) → least ≤ l → least ≤ 6 → (rest : List Word) → Follows l rest
      → (k : ℕ) × (n ≤ k + length w) × (deeper n d (expr n d) least (w ++ rest) ≡ climb n d (expr n d) least k (min 6 l) e h rest)

abbrev pub Prim : (n d h : ℕ) → Expr → List Word → Type 0
Prim n d h e w = (rest : List Word) → is (kind_of rest) t.point ≡ false → (k : ℕ) × (n ≤ k + length w) × (primary n d (expr n d) (w ++ rest) ≡ suffixes_from n d (expr n d) k e h rest)

-- a primary expression is a whole
from_prim : (n d h : ℕ) (e : Expr) (w : List Word) → length w < n → IsExpr 7 h e w → Prim n d h e w → Whole n d 7 h e w
from_prim n d h e w long i p = record {
  prim = λ _. p;
  full = λ least l7 l6 rest f.
      let r = p rest f.suffix.no_point in
      let enough = r.1 in
      let one : unary n d (expr n d) (w ++ rest) ≡ (Ok (e, h), rest) =
      unary_primary n d (expr n d) (w ++ rest) (prim_kind 7 h e w i refl rest) ∙ r.2 ∙ suffix_stop n d (expr n d) r.0 e h rest (omega arith) f.suffix in
      (n, omega arith, deeper_step n d (expr n d) least e h (w ++ rest) rest one);
}

-- a primary expression that is an operand
from_operand : (n d h : ℕ) (e : Expr) (w : List Word) → length w < n → IsExpr 7 h e w → ((rest : List Word) → is (kind_of rest) t.point ≡ false → operand n d (expr n d) (w ++ rest) ≡ (Ok (e, h), rest)) → Whole n d 7 h e w
from_operand n d h e w long i r = from_prim n d h e w long i (λ rest other. (n, omega arith, primary_step n d (expr n d) e h (w ++ rest) rest (r rest other)))

not_point : (s : Word) (r : List Word) (k : TokenKind) → s.kind ≡ k → same k t.point ≡ false → is (kind_of (s ∷ r)) t.point ≡ false
not_point s r k e f = is_other (kind_of (s ∷ r)) k t.point (kind_is s r k e) f

module _ (n d : ℕ) (ih : Inner n d) where
  one_read : (l h : ℕ) (e : Expr) (w : List Word) → IsExpr l h e w → h ≤ d → length w < n → (s : Word) (rest : List Word) (k : TokenKind) → s.kind ≡ k → Plain k → expr n d 1 (w ++ s ∷ rest) ≡ (Ok (e, h), s ∷ rest)
  one_read l h e w i le long s rest k is' p = ih l h e w i le long 1 (leveled l h e w i) (omega arith) (s ∷ rest) (ends_by 1 (s ∷ rest) k (kind_is s rest k is') p)

  args_read : (h : ℕ) (es : List Expr) (v : List Word) → IsArgs h es v → h ≤ d → length v < n → (b : Word) (rest : List Word) → b.kind ≡ t.right_parenthesis → args n d (expr n d) (v ++ b ∷ rest) ≡ (Ok (es, h), b ∷ rest)
  unfolding args
  args_read _ _ _ no_args le long b rest kb = none_reads t.comma t.right_parenthesis (expr n d 1) n (b ∷ rest) (kind_is b rest t.right_parenthesis kb)
  args_read _ _ _ (args' h es w c i may) le long b rest kb =
      let len = length-append w c in
      rw append_assoc (list_of_reads t.comma t.right_parenthesis refl AnyExpr (expr n d 1) (Ends 1) d n
      (λ h' x u j hh hl r f. ih j.0 h' x u j.1 hh hl 1 (leveled j.0 h' x u j.1) (omega arith) r f)
      (λ s v' e. ends_by 1 (s ∷ v') t.comma (kind_is s v' t.comma e) plain_comma)
      (λ r e. ends_by 1 r t.right_parenthesis e plain_parenthesis)
      (λ h' x u j r. not_begun j.0 h' x u j.1 t.right_parenthesis parenthesis_no r)
      h es w (exprs_row h es w i) le (omega arith) n (omega arith) c (b ∷ rest) may (kind_is b rest t.right_parenthesis kb))

  bound_read : (j : ℕ) (o : Option Expr) (v : List Word) → IsMaybe j o v → j ≤ d → length v < n → (b : Word) (rest : List Word) → b.kind ≡ t.right_bracket → bound n d (expr n d) (v ++ b ∷ rest) ≡ (Ok (o, j), b ∷ rest)
  bound_read _ _ _ no_expr le long b rest kb = bound_none n d (expr n d) b rest kb
  bound_read _ _ _ (some_expr l h e w i) le long b rest kb =
      bound_some n d (expr n d) e h (w ++ b ∷ rest) (b ∷ rest) (not_begun l h e w i t.right_bracket bracket_no (b ∷ rest)) (one_read l h e w i le long b rest t.right_bracket kb plain_bracket)

  called_prim : (h h' : ℕ) (e : Expr) (es : List Expr) (w v : List Word) (a b : Word) → length (w ++ a ∷ (v ++ b ∷ [])) < n → h ≤ d → a.kind ≡ t.left_parenthesis → b.kind ≡ t.right_parenthesis → Prim n d h e w
      → ((rest : List Word) → args n d (expr n d) (v ++ b ∷ rest) ≡ (Ok (es, h'), b ∷ rest)) → Prim n d (max h h' + 1) (call_expr e es b) (w ++ a ∷ (v ++ b ∷ []))
  called_prim h h' e es w v a b long le ka kb p r rest other =
      let one = p (a ∷ (v ++ b ∷ rest)) (not_point a (v ++ b ∷ rest) t.left_parenthesis ka refl) in
      let len = length-append w (a ∷ (v ++ b ∷ [])) in
      let len' = length-append v (b ∷ []) in
      let k = one.0 in
      let enough : n ≤ k + length w = one.1 in
      let is' : k ≡ suc (pred' k) = pred_of k (omega arith) in
      (pred' k, omega arith, rw (append_assoc, append_assoc) (one.2 ∙ ap (λ (i : ℕ). suffixes_from n d (expr n d) i e h (a ∷ (v ++ b ∷ rest))) is' ∙ call_step n d (expr n d) (pred' k) e h h' es a b v rest ka kb le (r rest)))

  indexed_prim : (h h' : ℕ) (e i : Expr) (w v : List Word) (a b : Word) → length (w ++ a ∷ (v ++ b ∷ [])) < n → h ≤ d → a.kind ≡ t.left_bracket → b.kind ≡ t.right_bracket → Prim n d h e w
      → ((rest : List Word) → is (kind_of (v ++ b ∷ rest)) t.colon ≡ false) → ((rest : List Word) → expr n d 1 (v ++ b ∷ rest) ≡ (Ok (i, h'), b ∷ rest)) → Prim n d (max h h' + 1) (index_expr e i b) (w ++ a ∷ (v ++ b ∷ []))
  indexed_prim h h' e i w v a b long le ka kb p no' r rest other =
      let one = p (a ∷ (v ++ b ∷ rest)) (not_point a (v ++ b ∷ rest) t.left_bracket ka refl) in
      let len = length-append w (a ∷ (v ++ b ∷ [])) in
      let len' = length-append v (b ∷ []) in
      let k = one.0 in
      let enough : n ≤ k + length w = one.1 in
      let is' : k ≡ suc (pred' k) = pred_of k (omega arith) in
      (pred' k, omega arith, rw (append_assoc, append_assoc) (one.2 ∙ ap (λ (j : ℕ). suffixes_from n d (expr n d) j e h (a ∷ (v ++ b ∷ rest))) is' ∙ index_step n d (expr n d) (pred' k) e i h h' a b v rest ka kb le (no' rest) (r rest)))

  -- from the `[` of a cut on
  cut_suffix : (k h i j : ℕ) (e : Expr) (low high : Option Expr) (u v : List Word) (a c b : Word) → length u < n → length v < n → h ≤ d → i ≤ d → j ≤ d → a.kind ≡ t.left_bracket → IsMaybe i low u → c.kind ≡ t.colon → IsMaybe j high v → b.kind ≡ t.right_bracket → (rest : List Word)
      → suffixes_from n d (expr n d) (suc k) e h (a ∷ (u ++ c ∷ (v ++ b ∷ rest))) ≡ suffixes_from n d (expr n d) k (cut_expr e low high b) (max h (max i j) + 1) rest
  cut_suffix k h _ j e _ high _ v a c b lu lv le li lj ka no_expr kc y kb rest =
      cut_step n d (expr n d) k e (cut_expr e None high b) h (max h (max 0 j) + 1) a c (v ++ b ∷ rest) rest ka kc le (cut_read n d (expr n d) e h 0 j None high c b v rest kc kb (bound_read j high v y lj lv b rest kb))
  cut_suffix k h _ j e _ high _ v a c b lu lv le li lj ka (some_expr l i x u y') kc y kb rest =
      cut_low_step n d (expr n d) k e x (cut_expr e (Some x) high b) h i (max h (max i j) + 1) a c (u ++ c ∷ (v ++ b ∷ rest)) (v ++ b ∷ rest) rest ka kc le (not_begun l i x u y' t.colon colon_no (c ∷ (v ++ b ∷ rest)))
      (one_read l i x u y' li lu c (v ++ b ∷ rest) t.colon kc plain_colon) (cut_read n d (expr n d) e h i j (Some x) high c b v rest kc kb (bound_read j high v y lj lv b rest kb))

  cut_prim : (h i j : ℕ) (e : Expr) (low high : Option Expr) (w u v : List Word) (a c b : Word) → length (w ++ a ∷ (u ++ c ∷ (v ++ b ∷ []))) < n → h ≤ d → i ≤ d → j ≤ d → a.kind ≡ t.left_bracket → IsMaybe i low u → c.kind ≡ t.colon → IsMaybe j high v → b.kind ≡ t.right_bracket → Prim n d h e w
      → Prim n d (max h (max i j) + 1) (cut_expr e low high b) (w ++ a ∷ (u ++ c ∷ (v ++ b ∷ [])))
  cut_prim h i j e low high w u v a c b long le li lj ka x kc y kb p rest other =
      let one = p (a ∷ (u ++ c ∷ (v ++ b ∷ rest))) (not_point a (u ++ c ∷ (v ++ b ∷ rest)) t.left_bracket ka refl) in
      let len = length-append w (a ∷ (u ++ c ∷ (v ++ b ∷ []))) in
      let len' = length-append u (c ∷ (v ++ b ∷ [])) in
      let len'' = length-append v (b ∷ []) in
      let k = one.0 in
      let enough : n ≤ k + length w = one.1 in
      let is' : k ≡ suc (pred' k) = pred_of k (omega arith) in
      (pred' k, omega arith, simp append_assoc (one.2 ∙ ap (λ (q : ℕ). suffixes_from n d (expr n d) q e h (a ∷ (u ++ c ∷ (v ++ b ∷ rest)))) is' ∙ cut_suffix (pred' k) h i j e low high u v a c b (omega arith) (omega arith) le li lj ka x kc y kb rest))

  signed_full : (l h : ℕ) (e : Expr) (w : List Word) (a : Word) (op : UnaryOp) → IsExpr l h e w → h ≤ d → length (a ∷ w) < n → 6 ≤ l → a.kind ≡ unary_kind op → Whole n d 6 (h + 1) (unary_expr a op e) (a ∷ w)
  signed_full l h e w a op i le long ll ka = record {
    prim = λ b. absurd (omega arith);
    full = λ least l6 l6' rest f.
        let some = tall l h e w i in
        let inner : expr n d 6 (w ++ rest) ≡ (Ok (e, h), rest) = ih l h e w i le (omega arith) 6 ll (omega arith) rest (record { suffix = f.suffix; lower = λ op is'. level_small op }) in
        (n, omega arith, deeper_step n d (expr n d) least (unary_expr a op e) (h + 1) (a ∷ (w ++ rest)) rest (signed_step n d (expr n d) a op e h (w ++ rest) rest ka (omega arith) inner));
  }

  operated_full : (l l' h h' : ℕ) (a b : Expr) (w v : List Word) (o : Word) (op : BinaryOp) → length (w ++ o ∷ v) < n → h ≤ d → h' ≤ d → level op ≤ l → level op < l' → o.kind ≡ binary_kind op → IsExpr l' h' b v
      → Whole n d l h a w → Whole n d (level op) (max h h' + 1) (binary_expr op a b) (w ++ o ∷ v)
  operated_full l l' h h' a b w v o op long le le' low lt ko j x = record {
    prim = λ e. let s : level op < 6 = level_small op in absurd (omega arith);
    full = λ least ll l6 rest f.
        let s : level op < 6 = level_small op in
        let len = length-append w (o ∷ v) in
        let here : binary_op (Some o.kind) ≡ Some op = ap (λ (z : TokenKind). binary_op (Some z)) ko ∙ binary_of op in
        let left = x.full least (omega arith) l6 (o ∷ (v ++ rest)) (record { suffix = operator_suffix op o (v ++ rest) ko; lower = λ op' is'. let same-op : op ≡ op' = cc in let same-level : level op ≡ level op' = ap level same-op in omega arith }) in
        let right : expr n d (level op + 1) (v ++ rest) ≡ (Ok (b, h'), rest) = ih l' h' b v j le' (omega arith) (level op + 1) (omega arith) (omega arith) rest (record { suffix = f.suffix; lower = λ op' is'. let lo = f.lower op' is' in omega arith }) in
        let k = left.0 in
        let enough : n ≤ k + length w = left.1 in
        let is-suc : k ≡ suc (pred' k) = pred_of k (omega arith) in
        let m : min 6 (level op) ≡ level op = omega arith in
        (pred' k, omega arith, rw (append_assoc, m) (left.2 ∙ ap (λ (q : ℕ). climb n d (expr n d) least q (min 6 l) a h (o ∷ (v ++ rest))) is-suc ∙ climb_step n d (expr n d) least (pred' k) (min 6 l) a b h h' o op v rest ko ll (omega arith) le right));
  }

  whole : (l h : ℕ) (e : Expr) (w : List Word) → IsExpr l h e w → h ≤ suc d → length w < n → Whole n d l h e w
  whole _ _ _ _ (int a k) le long = from_operand n d 1 (int_expr a) (a ∷ []) long (int a k) (λ rest other. int_step n d (expr n d) a rest k)
  whole _ _ _ _ (rune a k) le long = from_operand n d 1 (rune_expr a) (a ∷ []) long (rune a k) (λ rest other. rune_step n d (expr n d) a rest k)
  whole _ _ _ _ (text a k) le long = from_operand n d 1 (text_expr a) (a ∷ []) long (text a k) (λ rest other. text_step n d (expr n d) a rest k)
  whole _ _ _ _ (plain a k) le long = from_operand n d 1 (plain_expr a) (a ∷ []) long (plain a k) (λ rest other. named_step n d (expr n d) (record { name = name_of a; member = None; end = a.span.end }) (a ∷ []) (alone a k) rest other)
  whole _ _ _ _ (member p m a kp km ka) le long = from_operand n d 1 (member_expr p a) (p ∷ m ∷ a ∷ []) long (member p m a kp km ka) (λ rest other. named_step n d (expr n d) (record { name = name_of p; member = Some (name_of a); end = a.span.end }) (p ∷ m ∷ a ∷ []) (pair p m a kp km ka) rest other)
  whole _ _ _ _ (channel c h of w k i) le long =
      let some = type_tall h of w i in
      from_operand n d (h + 1) (chan_expr c of) (c ∷ w) long (channel c h of w k i) (λ rest other. chan_step n d (expr n d) c h of (w ++ rest) rest k (omega arith) (type_read d h of w i (omega arith) rest other))
  whole _ _ _ _ (parens a b l h e w ka i kb) le long =
      let len = length-append w (b ∷ []) in
      let some = tall l h e w i in
      from_operand n d (h + 1) (paren_expr a e b) (a ∷ (w ++ b ∷ [])) long (parens a b l h e w ka i kb)
      (λ rest other. rw append_assoc (paren_step n d (expr n d) a b e h (w ++ b ∷ rest) rest ka kb (omega arith) (one_read l h e w i (omega arith) (omega arith) b rest t.right_parenthesis kb plain_parenthesis)))
  whole _ _ _ _ (called a b h h' e es w v i ka j kb) le long =
      let len = length-append w (a ∷ (v ++ b ∷ [])) in
      let len' = length-append v (b ∷ []) in
      from_prim n d (max h h' + 1) (call_expr e es b) (w ++ a ∷ (v ++ b ∷ [])) long (called a b h h' e es w v i ka j kb)
      (called_prim h h' e es w v a b long (omega arith) ka kb ((whole 7 h e w i (omega arith) (omega arith)).prim refl) (λ rest. args_read h' es v j (omega arith) (omega arith) b rest kb))
  whole _ _ _ _ (indexed a b l h h' e x w v i ka j kb) le long =
      let len = length-append w (a ∷ (v ++ b ∷ [])) in
      let len' = length-append v (b ∷ []) in
      from_prim n d (max h h' + 1) (index_expr e x b) (w ++ a ∷ (v ++ b ∷ [])) long (indexed a b l h h' e x w v i ka j kb)
      (indexed_prim h h' e x w v a b long (omega arith) ka kb ((whole 7 h e w i (omega arith) (omega arith)).prim refl) (λ rest. not_begun l h' x v j t.colon colon_no (b ∷ rest)) (λ rest. one_read l h' x v j (omega arith) (omega arith) b rest t.right_bracket kb plain_bracket))
  whole _ _ _ _ (cut a c b h i j e low high w u v x ka y kc z kb) le long =
      let len = length-append w (a ∷ (u ++ c ∷ (v ++ b ∷ []))) in
      from_prim n d (max h (max i j) + 1) (cut_expr e low high b) (w ++ a ∷ (u ++ c ∷ (v ++ b ∷ []))) long (cut a c b h i j e low high w u v x ka y kc z kb)
      (cut_prim h i j e low high w u v a c b long (omega arith) (omega arith) (omega arith) ka y kc z kb ((whole 7 h e w x (omega arith) (omega arith)).prim refl))
  whole _ _ _ _ (signed a op l h e w ka i ll) le long = signed_full l h e w a op i (omega arith) long ll ka
  whole _ _ _ _ (operated o op l l' h h' a b w v i low ko j lt) le long =
      let len = length-append w (o ∷ v) in
      operated_full l l' h h' a b w v o op long (omega arith) (omega arith) low lt ko j (whole l h a w i (omega arith) (omega arith))

pub expr_read : (n d : ℕ) → Inner n d
unfolding expr
expr_read n zero l h e w i le long least ll l6 rest ends = let some = tall l h e w i in absurd (omega arith)
expr_read n (suc d) l h e w i le long least ll l6 rest ends =
    let a = whole n d (expr_read n d) l h e w i le long in
    let r = a.full least ll l6 rest (record { suffix = ends.suffix; lower = λ op is'. let lo = ends.lower op is' in omega arith }) in
    let enough = r.1 in
    r.2 ∙ climb_stop n d (expr n d) least r.0 (min 6 l) e h rest (omega arith) ends.lower

-- expressions with commas between
pub exprs_read : (n d h : ℕ) (es : List Expr) (w : List Word) → IsExprs h es w → h ≤ d → length w < n → (rest : List Word) → Ends 1 rest → is (kind_of rest) t.comma ≡ false → exprs n d (w ++ rest) ≡ (Ok (es, h), rest)
unfolding exprs
exprs_read n d h es w i le long rest ends other =
    let m : max 0 h ≡ h = omega arith in
    row_reads t.comma AnyExpr (expr n d 1) (Ends 1) d n (λ h' x u j hh hl r f. expr_read n d j.0 h' x u j.1 hh hl 1 (leveled j.0 h' x u j.1) (omega arith) r f) (λ s v e. ends_by 1 (s ∷ v) t.comma (kind_is s v t.comma e) plain_comma)
    h es w (exprs_row h es w i) le long n long [] 0 rest ends other ∙ rw m refl
