-- Simple statements and labels that the grammar derives are read where either may stand.
use Rattle.std.proofs.Common.{◌≡◌, ℕ, zero, suc, ◌+◌, ◌≤◌, ◌<◌, max, true, false, List, [], ◌∷◌, ◌++◌, None, length, Ok, refl, subst, ◌∙◌, append_assoc, arith}
use Rattle.std.proofs.lemmas.List.{length-append}
use Rattle.go_ast.specs.declared.token.TokenKind.{TokenKind}
use Rattle.go_ast.specs.declared.token.TokenKind.TheVariants as kind
use Rattle.go_ast.specs.declared.expr.Expr.{Expr}
use Rattle.go_ast.specs.declared.block.Target.{Target}
use Rattle.go_ast.specs.declared.block.Stmt.{Stmt}
use Rattle.go_ast.specs.declared.block.StmtForm.TheVariants as statement
use Rattle.go_grammar.specs.Words.{Word}
use Rattle.go_grammar.specs.Terminals as t
use Rattle.go_grammar.specs.Trees.{name_of, stmt_node, stmt_end}
use Rattle.go_grammar.specs.Lists.{IsRow, one_item, more_items}
use Rattle.go_grammar.specs.Simple.{IsTarget, IsTargets, IsSimple, evaluated, sent as sent', raised, lowered, updated as updated', assigned as assigned', defined as defined'}
use Rattle.go_reading.specs.declared.qualified.Qualified.{Qualified}
use Rattle.go_reading.specs.Kinds.{same, is}
use Rattle.go_reading.specs.Input.{Reader, Tall, kind_of, take_as}
use Rattle.go_reading.specs.Types.{expr_of}
use Rattle.go_reading.specs.Exprs.{expr}
use Rattle.go_reading.specs.Simple.{simple}
use Rattle.go_reading.specs.Stmts.{plain_stmt}
use Rattle.go_reading.proofs.ExprsGood.{leveled}
use Rattle.go_reading.proofs.TypesGood.{alone, expr_qualified}
use Rattle.go_reading.proofs.RowsRead.{sees, kind_is, is_other}
use Rattle.go_reading.proofs.Ends.{Ends, Plain, ends_by, plain_comma, plain_colon, plain_assign, plain_define, plain_arrow}
use Rattle.go_reading.proofs.ExprsRead.{expr_read}
use Rattle.go_reading.proofs.SimpleGood.{target_is_name}
use Rattle.go_reading.proofs.SimpleRead.{StmtEnds, sign_increment, sign_decrement, update_of, row_targets, target_front, bare_read, simple_read}

-- the expression at the front of a simple statement; no colon is behind it
record Front (n e : ℕ) (ts : List Word) : Type 0 where
  pub value : Tall Expr
  pub behind : List Word
  pub reads : expr n e 1 ts ≡ (Ok value, behind)
  pub no_colon : is (kind_of behind) t.colon ≡ false

module _ (n e : ℕ) (some : 1 ≤ e) where
  row_front : (h : ℕ) (gs : List Target) (u : List Word) → IsRow t.comma IsTarget h gs u → h ≡ 0 → length u < n → (r : List Word) → Ends 1 r → is (kind_of r) t.colon ≡ false → Front n e (u ++ r)
  row_front _ _ _ (one_item h g w i) z long r ends no' =
      let p = target_front n e some g w (subst (λ (q : ℕ). IsTarget q g w) z i) long r ends in
      record { value = p.0; behind = r; reads = p.1; no_colon = no' }
  row_front _ _ _ (more_items b h h' g gs w v i k j) z long r ends no' =
      let len = length-append w (b ∷ v) in
      let p = target_front n e some g w (subst (λ (q : ℕ). IsTarget q g w) (let m : h ≤ max h h' = omega arith in omega arith) i) (omega arith) (b ∷ (v ++ r)) (ends_by 1 (b ∷ (v ++ r)) t.comma (kind_is b (v ++ r) t.comma k) plain_comma) in
      rw append_assoc (record { value = p.0; behind = b ∷ (v ++ r); reads = p.1; no_colon = is_other (kind_of (b ∷ (v ++ r))) t.comma t.colon (kind_is b (v ++ r) t.comma k) refl })

  by_kind : (a : Word) (r : List Word) (k : TokenKind) → a.kind ≡ k → Plain k → same k t.colon ≡ false → (gs : List Target) (u : List Word) → IsTargets gs u → length u < n → Front n e (u ++ a ∷ r)
  by_kind a r k is' p no' gs u i long = row_front 0 gs u i refl long (a ∷ r) (ends_by 1 (a ∷ r) k (kind_is a r k is') p) (is_other (kind_of (a ∷ r)) k t.colon (kind_is a r k is') no')

  front_read : (h : ℕ) (x : Stmt) (w : List Word) → IsSimple h x w → h ≤ suc e → length w < n → (rest : List Word) → StmtEnds rest → Front n e (w ++ rest)
  front_read _ _ _ (evaluated l' h x w i) le long rest f = record { value = (x, h); behind = rest; reads = expr_read n e l' h x w i (omega arith) long 1 (leveled l' h x w i) (omega arith) rest f.ends; no_colon = f.no_colon }
  front_read _ _ _ (sent' a la lb h h' x y u v i k j) le long rest f =
      let len = length-append u (a ∷ v) in
      rw append_assoc (record { value = (x, h); behind = a ∷ (v ++ rest); reads = expr_read n e la h x u i (omega arith) (omega arith) 1 (leveled la h x u i) (omega arith) (a ∷ (v ++ rest)) (ends_by 1 (a ∷ (v ++ rest)) t.arrow (kind_is a (v ++ rest) t.arrow k) plain_arrow); no_colon = is_other (kind_of (a ∷ (v ++ rest))) t.arrow t.colon (kind_is a (v ++ rest) t.arrow k) refl })
  front_read _ _ _ (raised a g u i k) le long rest f =
      let len = length-append u (a ∷ []) in
      rw append_assoc (by_kind a rest t.increment k sign_increment.plain refl (g ∷ []) u (one_item 0 g u i) (omega arith))
  front_read _ _ _ (lowered a g u i k) le long rest f =
      let len = length-append u (a ∷ []) in
      rw append_assoc (by_kind a rest t.decrement k sign_decrement.plain refl (g ∷ []) u (one_item 0 g u i) (omega arith))
  front_read _ _ _ (updated' a o l' h g y u v i k j) le long rest f =
      let len = length-append u (a ∷ v) in
      let up = update_of o a.kind k in
      rw append_assoc (by_kind a (v ++ rest) a.kind refl up.plain up.no_colon (g ∷ []) u (one_item 0 g u i) (omega arith))
  front_read _ _ _ (assigned' a h gs es u v i k j) le long rest f =
      let len = length-append u (a ∷ v) in
      rw append_assoc (by_kind a (v ++ rest) t.assign k plain_assign refl gs u i (omega arith))
  front_read _ _ _ (defined' a h ns es u v i k j) le long rest f =
      let len = length-append u (a ∷ v) in
      let p = row_targets 0 ns u i in
      rw append_assoc (by_kind a (v ++ rest) t.define k plain_define refl p.0 u p.1 (omega arith))

plain_same : (n c : ℕ) (bl : Reader (Tall Stmt)) (ts behind : List Word) (x : Tall Expr) → expr n (suc c) 1 ts ≡ (Ok x, behind) → is (kind_of behind) t.colon ≡ false → plain_stmt n (suc c) bl ts ≡ simple n (suc c) ts
unfolding plain_stmt simple
plain_same n c bl ts behind x i no' = rw (i, no') refl

pub plain_read : (n c : ℕ) (bl : Reader (Tall Stmt)) (h : ℕ) (x : Stmt) (w : List Word) → IsSimple h x w → h ≤ suc c → length w < n → (rest : List Word) → StmtEnds rest → plain_stmt n c bl (w ++ rest) ≡ (Ok (x, h), rest)
unfolding plain_stmt
plain_read n zero bl h x w i le long rest f = bare_read true h x w i le rest
plain_read n (suc c) bl h x w i le long rest f =
    let p = front_read n (suc c) (omega arith) h x w i (omega arith) long rest f in
    plain_same n c bl (w ++ rest) p.behind p.value p.reads p.no_colon ∙ simple_read n (suc c) h x w i le long rest f

-- a label, and a statement that may have one
pub label_read : (n c : ℕ) (bl : Reader (Tall Stmt)) → 2 ≤ n → (k a : Word) → k.kind ≡ kind.Name → a.kind ≡ t.colon → (h : ℕ) (x : Stmt) (ts rest : List Word) → bl ts ≡ (Ok (x, h), rest)
    → plain_stmt n (suc c) bl (k ∷ a ∷ ts) ≡ (Ok (stmt_node k.span.start (stmt_end x) (statement.Label (name_of k) x), h + 1), rest)
unfolding plain_stmt take_as
label_read n c bl two k a kk ka h x ts rest r =
    let q : Qualified = record { name = name_of k; member = None; end = k.span.end } in
    let i : expr n (suc c) 1 (k ∷ (a ∷ ts)) ≡ (Ok (expr_of q, 1), a ∷ ts) = expr_read n (suc c) 7 1 (expr_of q) (k ∷ []) (expr_qualified q (k ∷ []) (alone k kk)) (omega arith) (omega arith) 1 (omega arith) (omega arith) (a ∷ ts) (ends_by 1 (a ∷ ts) t.colon (kind_is a ts t.colon ka) plain_colon) in
    rw (i, sees a ts t.colon ka, target_is_name q, r) refl
