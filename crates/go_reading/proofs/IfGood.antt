-- The readers of `if` and `else` are good, if those of headers and blocks are.
use Rattle.std.proofs.Common.{◌≡◌, ℕ, ◌+◌, ◌≤◌, max, true, List, [], ◌∷◌, ◌++◌, Option, Some, None, refl, subst, ◌∙◌, append_assoc, arith}
use Rattle.std.proofs.lemmas.List.{append-nil}
use Rattle.go_ast.specs.declared.span.Span.{Span}
use Rattle.go_ast.specs.declared.token.TokenKind.TheVariants as kind
use Rattle.go_ast.specs.declared.expr.Expr.{Expr}
use Rattle.go_ast.specs.declared.block.Stmt.{Stmt}
use Rattle.go_ast.specs.declared.block.StmtForm.TheVariants as statement
use Rattle.go_grammar.specs.Words.{Word}
use Rattle.go_grammar.specs.Terminals as t
use Rattle.go_grammar.specs.Trees.{stmt_node, stmt_end, block_node, hidden_block, other_node}
use Rattle.go_grammar.specs.Exprs.{IsExpr, IsMaybe, no_expr, some_expr}
use Rattle.go_grammar.specs.Blocks.{no_first, IsIf, if_, IsElse, no_else, else_block, else_if}
use Rattle.go_reading.specs.declared.fault.Fault.{Fault}
use Rattle.go_reading.specs.declared.fault.Fault.TheVariants.{TooDeep}
use Rattle.go_reading.specs.declared.header.Braced.{Braced}
use Rattle.go_reading.specs.declared.header.Header.{Header}
use Rattle.go_reading.specs.declared.header.Else.{Else}
use Rattle.go_reading.specs.Input.{Reader, Tall, ◌>>=◌, take_span, kind_of, span_of}
use Rattle.go_reading.specs.Stmts.{header, else_from, if_by}
use Rattle.go_reading.proofs.Good.{Room, ◌⊑◌, up, Form, Good, Filled, Rises, Rest, seq, weaker, good_pure, good_refuse, good_limited, choice, take_then, IsTaken, a_word, some_is}
use Rattle.go_reading.proofs.Rows.{some_not_none}
use Rattle.go_reading.proofs.ExprsGood.{an_expr, is_an_expr}
use Rattle.go_reading.proofs.Clauses.{if_rises, else_rises}
use Rattle.go_reading.proofs.BlockForm.{BlockOf, block_of_rises}
use Rattle.go_reading.proofs.StmtForms.{HeaderOf, header_rises}
use Rattle.go_reading.proofs.Started.{some_block, some_block_is, empty_block}
use Rattle.go_grammar.specs.declared.form.Form.{Form as TextForm}

module _ (form : TextForm) where
  abbrev pub IfOf : Form (Tall Stmt)
  IfOf b x w = IsIf form b.1 x.1 x.0 w × (x.1 ≤ b.0)

  -- an `if` in a hidden block in the room
  abbrev pub HiddenOf : Form (Tall Stmt)
  HiddenOf b x w = IsIf form b.1 x.1 x.0 w × (x.1 + 1 ≤ b.0)

  hidden_rises : Rises HiddenOf
  hidden_rises b c le x w s = (if_rises form b.1 c.1 le.1 x.1 x.0 w s.0, let h = s.1 in let l = le.0 in omega arith)

  abbrev pub ElseOf : ℕ → Form (Tall Else)
  ElseOf end b x w = IsElse form b.1 x.1 x.0.other end x.0.end w × (x.1 ≤ b.0)

  else_of_rises : (end : ℕ) → Rises (ElseOf end)
  else_of_rises end b c le x w s = (else_rises form b.1 c.1 le.1 x.1 x.0.other end x.0.end w s.0, let h = s.1 in let l = le.0 in omega arith)

  -- the shortest `if` that begins with a token
  pub short_if : Word → Stmt
  short_if a = stmt_node a.span.start (a_word t.right_brace).span.end (statement.If None an_expr (some_block form) None)

  pub short_if_is : (a : Word) → a.kind ≡ t.if_word → (m : ℕ) → IsIf form m 2 (short_if a) (a ∷ a_word kind.Name ∷ a_word t.left_brace ∷ a_word t.right_brace ∷ [])
  unfolding short_if
  short_if_is a k m =
      let i : IsIf form m (max (max 0 1) (max 1 0) + 1) (stmt_node a.span.start (a_word t.right_brace).span.end (statement.If None an_expr (some_block form) None)) (a ∷ a_word kind.Name ∷ a_word t.left_brace ∷ a_word t.right_brace ∷ []) =
      if_ a 7 0 1 1 0 (a_word t.right_brace).span.end (a_word t.right_brace).span.end None an_expr (some_block form) None [] (a_word kind.Name ∷ []) (a_word t.left_brace ∷ a_word t.right_brace ∷ []) [] k no_first is_an_expr (some_block_is form m) (no_else (a_word t.right_brace).span.end) in
      i

  else_filled : (d c : Room) → d ⊑ c → 1 ≤ d.0 → (end : ℕ) (sp : Span) → Filled c (Rest (IsTaken t.else_word span_of) (ElseOf end) sp)
  else_filled d c dc some end sp =
      let a = a_word t.left_brace in
      let r = a_word t.right_brace in
      let b = block_node a.span.start r.span.start [] in
      let l = dc.0 in
      ((record { other = Some (other_node sp.end b); end = r.span.end }, 1), a ∷ r ∷ [], λ u iu. rw (iu.1, iu.3) (else_block iu.0 1 end r.span.end b (a ∷ r ∷ []) iu.2 (empty_block form a refl c.1), omega arith))

  abbrev some_expr_of : Expr → Option Expr
  some_expr_of e = Some e

  expr_same : (a b : Expr) → some_expr_of a ≡ some_expr_of b → a ≡ b
  expr_same a b e = cc

  maybe_some : (j : ℕ) (o : Option Expr) (w : List Word) → IsMaybe j o w → (e : Expr) → o ≡ Some e → (l : ℕ) × IsExpr l j e w
  maybe_some _ _ _ no_expr e q = absurd cc
  maybe_some _ _ _ (some_expr l h x w i) e q = (l, subst (λ (z : Expr). IsExpr l h z w) (expr_same x e q) i)

  branch_of : (b : Room) (start : Span) (x : Tall Header) (e : Expr) (bl : Tall Braced) (o : Tall Else) (u v w z : List Word) → x.0.test ≡ Some e → IsTaken t.if_word span_of b start u → HeaderOf true b x v → BlockOf form b bl w → ElseOf bl.0.end b o z
      → IfOf (up b) (stmt_node start.start o.0.end (statement.If x.0.first e bl.0.block o.0.other), max x.1 (max bl.1 o.1) + 1) (u ++ (v ++ (w ++ (z ++ []))))
  branch_of b start x e bl o u v w z is iu iv iw iz =
      let i = maybe_some iv.high x.0.test iv.back iv.test e is in
      let f1 = iv.fits in
      let f2 = iw.1 in
      let f3 = iz.1 in
      let tall : x.1 ≡ max iv.low iv.high = iv.tall in
      rw (append-nil, iu.1, iu.3, iv.both, append_assoc, tall)
      (if_ iu.0 i.0 iv.low iv.high bl.1 o.1 bl.0.end o.0.end x.0.first e bl.0.block o.0.other iv.front iv.back w z iu.2 iv.begins i.1 iw.0 iz.0, omega arith)

  module _ (K : Fault → Type 0) (n n' : ℕ) (d d' : Room) (led : d ⊑ d') (deep : K TooDeep → d.0 ≡ d'.0) (some : 1 ≤ d.0) (bl bl' : Reader (Tall Braced)) (block_good : (ts : List Word) → Good n d K (BlockOf form) bl bl' ts)
      (hi hi' : Reader (Tall Stmt)) (hidden_good : 3 ≤ d.0 → (ts : List Word) → kind_of ts ≡ Some t.if_word → Good n d K HiddenOf hi hi' ts) where
    pub else_good : (end : ℕ) (ts : List Word) → Good n d K (ElseOf end) (else_from n d.0 bl hi end) (else_from n' d'.0 bl' hi' end) ts
    unfolding else_from
    else_good end ts = choice n d K (ElseOf end) t.else_word _ _ _ _ ts
        (λ here. take_then n n d K _ t.else_word span_of _ _ ts (omega arith) here (λ sp r.
        choice n d K _ t.if_word _ _ _ _ r
        (λ is'. good_limited n K _ d d' 3 _ _ r led deep (some_not_none (kind_of r) t.if_word is') (λ c dc. else_filled d c dc some end sp)
        (λ c dc three a ea. (
          (record { other = Some (other_node sp.end (hidden_block sp.end (short_if a))); end = stmt_end (short_if a) }, 3),
          a_word kind.Name ∷ a_word t.left_brace ∷ a_word t.right_brace ∷ [],
          λ u iu. rw (iu.1, iu.3) (else_if iu.0 2 end (short_if a) (a ∷ a_word kind.Name ∷ a_word t.left_brace ∷ a_word t.right_brace ∷ []) iu.2 (short_if_is a (some_is a.kind t.if_word (ea ∙ is')) c.1), omega arith),
        ))
        (λ three. seq n d K HiddenOf _ hi' _ _ r _ _ hidden_rises (hidden_good three r is') (λ x _ r2.
        good_pure n d K _ _ r2 (λ b db v iv u iu. rw (append-nil, iu.1, iu.3) (else_if iu.0 x.1 end x.0 v iu.2 iv.0, iv.1)))))
        (λ other. seq n d K (BlockOf form) _ bl' _ _ r _ _ (block_of_rises form) (block_good r) (λ x _ r2.
        good_pure n d K _ _ r2 (λ b db v iv u iu. rw (append-nil, iu.1, iu.3) (else_block iu.0 x.1 end x.0.end x.0.block v iu.2 iv.0, iv.1))))))
        (λ other. good_pure n d K _ _ ts (λ b db. (no_else end, omega arith)))

    -- behind the header of an `if`
    abbrev pub Branches : Span → Tall Header → Form (Tall Stmt)
    Branches start x b y w = (u v : List Word) → IsTaken t.if_word span_of b start u → HeaderOf true b x v → IfOf (up b) y (u ++ (v ++ w))

    no_test : (b : Room) (x : Tall Header) (v : List Word) → HeaderOf true b x v → x.0.test ≡ None → ⊥
    no_test b x v i e = let s = i.some refl in let q = s.1 in cc

    if_by_good : (start : Span) (x : Tall Header) (o : Option Expr) → x.0.test ≡ o → (ts : List Word) → Good n d K (Branches start x) (if_by n d.0 bl start x.0 x.1 hi o) (if_by n' d'.0 bl' start x.0 x.1 hi' o) ts
    if_by_good start x None is ts = good_refuse n d K (Branches start x) ts (λ b db. ((short_if (a_word t.if_word), 2), [], λ u v iu iv. absurd (no_test b x v iv is)))
    if_by_good start x (Some e) is ts =
        seq n d K (BlockOf form) _ bl' _ _ ts _ _ (block_of_rises form) (block_good ts) (λ b' _ r.
        seq n d K (ElseOf b'.0.end) _ (else_from n' d'.0 bl' hi' b'.0.end) _ _ r _ _ (else_of_rises b'.0.end) (else_good b'.0.end r) (λ o _ r2.
        good_pure n d K _ _ r2 (λ b db z iz w iw u v iu iv. branch_of b start x e b' o u v w z is iu iv iw iz)))

    -- from the word on, where a level is left
    pub if_inner_good : (header_good : (ts : List Word) → Good n d K (HeaderOf true) (header n d.0 true) (header n' d'.0 true) ts) → (ts : List Word) → kind_of ts ≡ Some t.if_word
        → Good n d K (λ b. IfOf (up b)) (take_span >>= λ start. header n d.0 true >>= λ x. if_by n d.0 bl start x.0 x.1 hi x.0.test) (take_span >>= λ start. header n' d'.0 true >>= λ x. if_by n' d'.0 bl' start x.0 x.1 hi' x.0.test) ts
    if_inner_good header_good ts is = take_then n n d K _ t.if_word span_of _ _ ts (omega arith) is (λ start r.
        seq n d K (HeaderOf true) _ (header n' d'.0 true) _ _ r _ _ (header_rises true) (header_good r) (λ x _ r2.
        weaker n d K (Branches start x) _ _ _ _ _ (λ b db y w a v iv u iu. a u v iu iv) (if_by_good start x x.0.test refl r2)))
