-- The readers of `for` and `switch` are good, if those of their parts are.
use Rattle.std.proofs.Common.{◌≡◌, ℕ, ◌+◌, ◌≤◌, max, true, false, List, [], ◌∷◌, ◌++◌, Some, None, refl, ◌∙◌, append_assoc, arith}
use Rattle.std.proofs.lemmas.List.{append-nil}
use Rattle.go_ast.specs.declared.span.Span.{Span}
use Rattle.go_ast.specs.declared.block.Stmt.{Stmt}
use Rattle.go_ast.specs.declared.block.StmtForm.TheVariants as statement
use Rattle.go_ast.specs.declared.block.Block.{Block}
use Rattle.go_ast.specs.declared.block.CaseClause.{CaseClause}
use Rattle.go_grammar.specs.Words.{Word}
use Rattle.go_grammar.specs.Terminals as t
use Rattle.go_grammar.specs.Trees.{stmt_node, block_node}
use Rattle.go_grammar.specs.Exprs.{no_expr}
use Rattle.go_grammar.specs.Blocks.{no_first, IsBreakable, for_test, for_parts, for_range, switch, no_cases, IsBlock}
use Rattle.go_reading.specs.declared.fault.Fault.{Fault}
use Rattle.go_reading.specs.declared.fault.Fault.TheVariants.{TooDeep, Exhausted}
use Rattle.go_reading.specs.declared.header.Braced.{Braced}
use Rattle.go_reading.specs.declared.header.Header.{Header}
use Rattle.go_reading.specs.declared.header.ForHead.{ForHead}
use Rattle.go_reading.specs.Kinds.{begins_stmt}
use Rattle.go_reading.specs.Input.{Reader, Tall, kind_of, span_of}
use Rattle.go_reading.specs.Stmts.{least, begins_clause, case_head, maybe_header, for_form, for_in, switch_in, select_in, breakable_in}
use Rattle.go_reading.proofs.Good.{Room, ◌⊑◌, up, Form, Good, Filled, seq, weaker, good_pure, good_refuse, good_limited, choice, take_then, expect_then, IsTaken, a_word, some_is}
use Rattle.go_reading.proofs.Rows.{Within, some_not_none}
use Rattle.go_reading.proofs.BlockForm.{BlockOf, block_of_rises}
use Rattle.go_reading.proofs.Loose.{Loose}
use Rattle.go_reading.proofs.StmtForms.{HeaderOf, header_rises, IsForHead, test_is, parts_are, range_is, IsCaseHead}
use Rattle.go_reading.proofs.Started.{StartsStmt, some_block, some_block_is, empty_block}
use Rattle.go_reading.proofs.CasesGood.{CasesFrom, cases_then_good}
use Rattle.go_reading.proofs.HeadsGood.{maybe_header_good}
use Rattle.go_reading.proofs.ForGood.{for_head_then}
use Rattle.go_reading.proofs.PlainGood.{BreakOf}
use Rattle.go_grammar.specs.declared.form.Form.{Form as TextForm}

module _ (form : TextForm) where
  a_switch : (b : Room) → Filled b (λ c. BreakOf form (up c))
  a_switch b =
      let k = a_word t.switch_word in
      let l = a_word t.left_brace in
      let r = a_word t.right_brace in
      ((stmt_node k.span.start r.span.end (statement.Switch None None l.span.start []), max (max 0 0) 0 + 1), k ∷ l ∷ r ∷ [], (switch k l r 0 0 0 None None [] [] [] [] refl no_first no_expr refl no_cases refl, omega arith))

  for_is : (m : ℕ) (k : Word) (h j end : ℕ) (x : ForHead) (body : Block) (u v : List Word) → k.kind ≡ t.for_word → IsForHead h x u → IsBlock form m j body end v → IsBreakable form m (max h j + 1) (stmt_node k.span.start end (for_form x body)) (k ∷ (u ++ v))
  for_is m k _ j end _ body _ v kk (test_is h o u i) b = for_test k h j end o body u v kk i b
  for_is m k _ j end _ body _ z kk (parts_are a c i i' i'' first last test u v w p ka q kc r) b =
      let e : max (max (max i i') i'') j ≡ max (max i i') (max i'' j) = omega arith in
      rw (e, append_assoc, append_assoc) (for_parts k a c i i' i'' j end first last test body u v w z kk p ka q kc r b)
  for_is m k _ j end _ body _ w kk (range_is r l h ns over u v p kr i) b = rw append_assoc (for_range k r l h j end ns over body u v w kk p kr i b)

  -- the brace that closes a switch behind its clauses
  abbrev Closes : Span → Tall Header → Span → Tall (List CaseClause) → Form (Tall Stmt)
  Closes start x left y b z w = (a : Word) × (w ≡ a ∷ []) × (a.kind ≡ t.right_brace) × (z ≡ (stmt_node start.start a.span.end (statement.Switch x.0.first x.0.test left.start y.0), max x.1 y.1 + 1))

  closed : Span → Tall Header → Span → Tall (List CaseClause) → Word → Tall Stmt
  closed start x left y a = (stmt_node start.start a.span.end (statement.Switch x.0.first x.0.test left.start y.0), max x.1 y.1 + 1)

  switch_is : (b : Room) (start left : Span) (x : Tall Header) (z : Tall Stmt) (u v s w : List Word) → IsTaken t.switch_word span_of b start u → HeaderOf false b x v → IsTaken t.left_brace span_of b left s → CasesFrom form (Closes start x left) [] 0 b z w → BreakOf form (up b) z (u ++ (v ++ (s ++ w)))
  switch_is b start left x z u v s w iu iv is c =
      let e = c.closes in
      let m : max 0 c.tall ≡ c.tall = omega arith in
      let f1 = iv.fits in
      let f2 = c.fits in
      let tall : x.1 ≡ max iv.low iv.high = iv.tall in
      rw (iu.1, iv.both, is.1, c.both, e.1, e.3, iu.3, is.3, m, tall, append_assoc)
      (switch iu.0 is.0 e.0 iv.low iv.high c.tall x.0.first x.0.test c.items iv.front iv.back c.front iu.2 iv.begins iv.test is.2 c.all e.2, omega arith)

  module _ (K : Fault → Type 0) (never : K Exhausted → ⊥) (n n' : ℕ) (len : n ≤ n') (turns : 1 ≤ n) (d d' : Room) (led : d ⊑ d') (deep : K TooDeep → d.0 ≡ d'.0) (st st' : Reader (Tall Stmt)) (stmt_good : least form ≤ d.0 → (ts : List Word) → Good n d K (Loose form) st st' ts)
      (bl bl' : Reader (Tall Braced)) (block_good : 1 ≤ d.0 → (ts : List Word) → Good n d K (BlockOf form) bl bl' ts) (m m' : ℕ) where
    for_in_good : (ts : List Word) → kind_of ts ≡ Some t.for_word → Good n d K (λ b. BreakOf form (up b)) (for_in form n m d.0 st bl) (for_in form n' m' d'.0 st' bl') ts
    unfolding for_in
    for_in_good ts is = good_limited n K (λ b. BreakOf form (up b)) d d' 1 _ _ ts led deep (some_not_none (kind_of ts) t.for_word is) (λ c dc. a_switch c)
        (λ c dc some a ea. (
          (stmt_node a.span.start (a_word t.right_brace).span.end (statement.For None None None (some_block form)), max 0 1 + 1),
          a_word t.left_brace ∷ a_word t.right_brace ∷ [],
          (for_test a 0 1 (a_word t.right_brace).span.end None (some_block form) [] (a_word t.left_brace ∷ a_word t.right_brace ∷ []) (some_is a.kind t.for_word (ea ∙ is)) no_expr (some_block_is form c.1), omega arith),
        ))
        (λ some. take_then n n d K _ t.for_word span_of _ _ ts (omega arith) is (λ start r.
        for_head_then K never n n' len turns d d' led deep some _
        (λ b db x a ka. let q = a_word t.right_brace in let bk = block_node a.span.start q.span.start [] in
        ((stmt_node start.start q.span.end (for_form x.0 bk), max x.1 1 + 1), q ∷ [], λ u iu v iv. let l = db.0 in let f1 = iu.1 in rw (iv.1, iv.3) (for_is b.1 iv.0 x.1 1 q.span.end x.0 bk u (a ∷ q ∷ []) iv.2 iu.0 (empty_block form a ka b.1), omega arith)))
        _ _ (λ x _ r2.
        seq n d K (BlockOf form) _ bl' _ _ r2 _ _ (block_of_rises form) (block_good some r2) (λ bk _ r3.
        good_pure n d K _ _ r3 (λ b db w iw u iu v iv. let f1 = iu.1 in let f2 = iw.1 in rw (append-nil, iv.1, iv.3) (for_is b.1 iv.0 x.1 bk.1 bk.0.end x.0 bk.0.block u w iv.2 iu.0 iw.0, omega arith)))) r))

    module _ (started_all : (a : Word) → begins_stmt (Some a.kind) ≡ true → StartsStmt form a)
        (head_good : (ts : List Word) → begins_clause (kind_of ts) ≡ true → Good n d K (Within IsCaseHead) (case_head n d.0) (case_head n' d'.0) ts)
        (select_good : (ts : List Word) → kind_of ts ≡ Some t.select_word → Good n d K (λ b. BreakOf form (up b)) (select_in form n m d.0 st) (select_in form n' m' d'.0 st') ts) where
      switch_in_good : (ts : List Word) → kind_of ts ≡ Some t.switch_word → Good n d K (λ b. BreakOf form (up b)) (switch_in form n m d.0 st) (switch_in form n' m' d'.0 st') ts
      unfolding switch_in closed
      switch_in_good ts is = take_then n n d K _ t.switch_word span_of _ _ ts (omega arith) is (λ start r.
          seq n d K (HeaderOf false) _ (maybe_header n' d'.0) _ _ r _ _ (header_rises false) (maybe_header_good K never n n' len d d' led deep r) (λ x _ r2.
          expect_then n d K _ t.left_brace span_of _ _ r2 (λ left r3.
          weaker n d K (CasesFrom form (Closes start x left) [] 0) _ _ _ _ _ (λ b db z w c s is' v iv u iu. switch_is b start left x z u v s w iu iv is' c)
          (cases_then_good form (Closes start x left) K never n n' len d d' led deep st st' stmt_good started_all head_good _ _ (λ y b c le z w i. i)
          (λ y r4. expect_then n d K _ t.right_brace span_of _ _ r4 (λ right r5. good_pure n d K _ _ r5 (λ b db u iu. (iu.0, rw append-nil iu.1, iu.2, rw iu.3 refl))))
          (λ y a e b. (closed start x left y a, [], (a, refl, e, refl)))
          (λ y c. (closed start x left y (a_word t.right_brace), a_word t.right_brace ∷ [], (a_word t.right_brace, refl, refl, refl))) n n' (omega arith) len [] 0 r3))))

      pub breakable_in_good : (ts : List Word) → Good n d K (λ b. BreakOf form (up b)) (breakable_in form n m d.0 st bl) (breakable_in form n' m' d'.0 st' bl') ts
      unfolding breakable_in
      breakable_in_good ts = choice n d K _ t.for_word _ _ _ _ ts (λ is. for_in_good ts is)
          (λ _. choice n d K _ t.switch_word _ _ _ _ ts (λ is. switch_in_good ts is)
          (λ _. choice n d K _ t.select_word _ _ _ _ ts (λ is. select_good ts is) (λ _. good_refuse n d K _ ts (λ b db. a_switch b))))
