-- The readers of statements without statements in them, and of all statements, are good.
use Rattle.std.proofs.Common.{◌≡◌, ℕ, ◌+◌, ◌≤◌, List, [], ◌∷◌, Some, ap, ◌∙◌, arith}
use Rattle.std.proofs.lemmas.List.{append-nil}
use Rattle.go_ast.specs.declared.token.TokenKind.TheVariants as kind
use Rattle.go_ast.specs.declared.block.Stmt.{Stmt}
use Rattle.go_ast.specs.declared.block.StmtForm.TheVariants as statement
use Rattle.go_grammar.specs.Words.{Word}
use Rattle.go_grammar.specs.Terminals as t
use Rattle.go_grammar.specs.Trees.{stmt_node, block_left, block_node, expr_end, exprs_end, const_end, var_end}
use Rattle.go_grammar.specs.Exprs.{IsExprs, one_expr}
use Rattle.go_grammar.specs.Simple.{IsConstSpec, IsVarSpec}
use Rattle.go_grammar.specs.Blocks.{constants, variables, nested, return_none, return_some, breaks, breaks_to, continues, continues_to, falls, goes, defers}
use Rattle.go_reading.specs.declared.fault.Fault.{Fault}
use Rattle.go_reading.specs.declared.fault.Fault.TheVariants.{TooDeep, Exhausted}
use Rattle.go_reading.specs.declared.header.Braced.{Braced}
use Rattle.go_reading.specs.Kinds.{begins}
use Rattle.go_reading.specs.Input.{Reader, Tall, kind_of, span_of, named_of}
use Rattle.go_reading.specs.Exprs.{expr, exprs}
use Rattle.go_reading.specs.Specs.{consts, vars}
use Rattle.go_reading.specs.Stmts.{const_stmt, var_stmt, return_stmt, break_stmt, continue_stmt, fallthrough_stmt, go_stmt, defer_stmt, nested_stmt}
use Rattle.go_reading.proofs.Good.{Room, ◌⊑◌, up, Form, Good, Filled, seq, good_pure, good_far, good_limited, choice, by_test, take_then, a_word, some_is}
use Rattle.go_reading.proofs.Rows.{within_rises, GroupOf, group_rises, some_not_none}
use Rattle.go_reading.proofs.ExprsGood.{ExprOf, expr_rises, expr_good, ExprsOf, exprs_good, an_expr, is_an_expr}
use Rattle.go_reading.proofs.SpecsGood.{consts_good, vars_good}
use Rattle.go_reading.proofs.BlockForm.{BlockOf, block_of_rises}
use Rattle.go_reading.proofs.Loose.{StmtIn}
use Rattle.go_reading.proofs.Started.{empty_block}
use Rattle.go_reading.proofs.StmtsGood.{a_return}
use Rattle.go_reading.proofs.Begun.{begun_expr, begins_some}
use Rattle.go_grammar.specs.declared.form.Form.{Form as TextForm}

module _ (form : TextForm) where
  module _ (K : Fault → Type 0) (never : K Exhausted → ⊥) (n n' : ℕ) (len : n ≤ n') (d d' : Room) (led : d ⊑ d') (deep : K TooDeep → d.0 ≡ d'.0) where
    abbrev Up : Form (Tall Stmt)
    Up b x w = StmtIn form (up b) x w

    up_return : (b : Room) → Filled b Up
    up_return b = a_return form (up b) (omega arith)

    pub const_stmt_good : (ts : List Word) → kind_of ts ≡ Some t.const_word → Good n d K Up (const_stmt n d.0) (const_stmt n' d'.0) ts
    unfolding const_stmt
    const_stmt_good ts is = take_then n n d K _ t.const_word span_of _ _ ts (omega arith) is (λ sp r.
        seq n d K (GroupOf IsConstSpec const_end) _ (consts n' d'.0) _ _ r _ _ (group_rises IsConstSpec const_end) (consts_good K never n n' len d d' led deep r) (λ xs _ r2.
        good_pure n d K _ _ r2 (λ b db v iv u iu. let f = iv.1 in rw (append-nil, iu.1, iu.3) (constants iu.0 xs.1 xs.0.1 xs.0.0 v iu.2 iv.0, omega arith))))

    pub var_stmt_good : (ts : List Word) → kind_of ts ≡ Some t.var_word → Good n d K Up (var_stmt n d.0) (var_stmt n' d'.0) ts
    unfolding var_stmt
    var_stmt_good ts is = take_then n n d K _ t.var_word span_of _ _ ts (omega arith) is (λ sp r.
        seq n d K (GroupOf IsVarSpec var_end) _ (vars n' d'.0) _ _ r _ _ (group_rises IsVarSpec var_end) (vars_good K never n n' len d d' led deep r) (λ xs _ r2.
        good_pure n d K _ _ r2 (λ b db v iv u iu. let f = iv.1 in rw (append-nil, iu.1, iu.3) (variables iu.0 xs.1 xs.0.1 xs.0.0 v iu.2 iv.0, omega arith))))

    pub return_stmt_good : (ts : List Word) → kind_of ts ≡ Some t.return_word → Good n d K Up (return_stmt n d.0) (return_stmt n' d'.0) ts
    unfolding return_stmt
    return_stmt_good ts is = take_then n n d K _ t.return_word span_of _ _ ts (omega arith) is (λ sp r.
        by_test n d K _ begins _ _ _ _ r
        (λ here. good_far n K _ d d' 1 _ _ r led deep (begins_some (kind_of r) here) (λ b db. ((stmt_node sp.start sp.end (statement.Return []), 1), [], λ u iu. rw (iu.1, iu.3) (return_none iu.0 iu.2, omega arith)))
        (λ a ea. let x = begun_expr a (ap begins ea ∙ here) in
        (d.0 + x.0.1, (stmt_node sp.start (exprs_end 0 (x.0.0 ∷ [])) (statement.Return (x.0.0 ∷ [])), x.0.1 + 1), x.1, omega arith, λ u iu. rw (iu.1, iu.3) (return_some iu.0 x.0.1 (x.0.0 ∷ []) (a ∷ x.1) iu.2 (one_expr x.2.0 x.0.1 x.0.0 (a ∷ x.1) x.2.1), omega arith)))
        (λ some. seq n d K ExprsOf _ (exprs n' d'.0) _ _ r _ _ (within_rises IsExprs) (exprs_good K never n n' len d d' led deep some r) (λ xs _ r2.
        good_pure n d K _ _ r2 (λ b db v iv u iu. let f = iv.1 in rw (append-nil, iu.1, iu.3) (return_some iu.0 xs.1 xs.0 v iu.2 iv.0, omega arith)))))
        (λ none. good_pure n d K _ _ r (λ b db u iu. rw (append-nil, iu.1, iu.3) (return_none iu.0 iu.2, omega arith))))

    pub break_stmt_good : (ts : List Word) → kind_of ts ≡ Some t.break_word → Good n d K Up break_stmt break_stmt ts
    unfolding break_stmt
    break_stmt_good ts is = take_then n n d K _ t.break_word span_of _ _ ts (omega arith) is (λ sp r.
        choice n d K _ kind.Name _ _ _ _ r
        (λ here. take_then n n d K _ kind.Name named_of _ _ r (omega arith) here (λ x r2.
        good_pure n d K _ _ r2 (λ b db v iv u iu. rw (iu.1, iu.3, iv.1, iv.3) (breaks_to iu.0 iv.0 iu.2 iv.2, omega arith))))
        (λ other. good_pure n d K _ _ r (λ b db u iu. rw (append-nil, iu.1, iu.3) (breaks iu.0 iu.2, omega arith))))

    pub continue_stmt_good : (ts : List Word) → kind_of ts ≡ Some t.continue_word → Good n d K Up continue_stmt continue_stmt ts
    unfolding continue_stmt
    continue_stmt_good ts is = take_then n n d K _ t.continue_word span_of _ _ ts (omega arith) is (λ sp r.
        choice n d K _ kind.Name _ _ _ _ r
        (λ here. take_then n n d K _ kind.Name named_of _ _ r (omega arith) here (λ x r2.
        good_pure n d K _ _ r2 (λ b db v iv u iu. rw (iu.1, iu.3, iv.1, iv.3) (continues_to iu.0 iv.0 iu.2 iv.2, omega arith))))
        (λ other. good_pure n d K _ _ r (λ b db u iu. rw (append-nil, iu.1, iu.3) (continues iu.0 iu.2, omega arith))))

    pub fallthrough_stmt_good : (ts : List Word) → kind_of ts ≡ Some t.fallthrough_word → Good n d K Up fallthrough_stmt fallthrough_stmt ts
    unfolding fallthrough_stmt
    fallthrough_stmt_good ts is = take_then n n d K _ t.fallthrough_word span_of _ _ ts (omega arith) is (λ sp r.
        good_pure n d K _ _ r (λ b db u iu. rw (append-nil, iu.1, iu.3) (falls iu.0 iu.2, omega arith)))

    pub go_stmt_good : (ts : List Word) → kind_of ts ≡ Some t.go_word → Good n d K Up (go_stmt n d.0) (go_stmt n' d'.0) ts
    unfolding go_stmt
    go_stmt_good ts is = good_limited n K Up d d' 1 _ _ ts led deep (some_not_none (kind_of ts) t.go_word is) (λ b db. up_return b)
        (λ c dc some a ea. ((stmt_node a.span.start (expr_end an_expr) (statement.Go an_expr), 2), a_word kind.Name ∷ [], (goes a 7 1 an_expr (a_word kind.Name ∷ []) (some_is a.kind t.go_word (ea ∙ is)) is_an_expr, omega arith)))
        (λ some. take_then n n d K _ t.go_word span_of _ _ ts (omega arith) is (λ sp r.
        seq n d K (ExprOf 1) _ (expr n' d'.0 1) _ _ r _ _ (expr_rises 1) (expr_good K never n n' len d.0 d'.0 d.1 d'.1 led deep some 1 (omega arith) r) (λ x _ r2.
        good_pure n d K _ _ r2 (λ b db v iv u iu. let f = iv.fits in rw (append-nil, iu.1, iu.3) (goes iu.0 iv.level_of x.1 x.0 v iu.2 iv.spells, omega arith)))))

    pub defer_stmt_good : (ts : List Word) → kind_of ts ≡ Some t.defer_word → Good n d K Up (defer_stmt n d.0) (defer_stmt n' d'.0) ts
    unfolding defer_stmt
    defer_stmt_good ts is = good_limited n K Up d d' 1 _ _ ts led deep (some_not_none (kind_of ts) t.defer_word is) (λ b db. up_return b)
        (λ c dc some a ea. ((stmt_node a.span.start (expr_end an_expr) (statement.Defer an_expr), 2), a_word kind.Name ∷ [], (defers a 7 1 an_expr (a_word kind.Name ∷ []) (some_is a.kind t.defer_word (ea ∙ is)) is_an_expr, omega arith)))
        (λ some. take_then n n d K _ t.defer_word span_of _ _ ts (omega arith) is (λ sp r.
        seq n d K (ExprOf 1) _ (expr n' d'.0 1) _ _ r _ _ (expr_rises 1) (expr_good K never n n' len d.0 d'.0 d.1 d'.1 led deep some 1 (omega arith) r) (λ x _ r2.
        good_pure n d K _ _ r2 (λ b db v iv u iu. let f = iv.fits in rw (append-nil, iu.1, iu.3) (defers iu.0 iv.level_of x.1 x.0 v iu.2 iv.spells, omega arith)))))

    pub nested_stmt_good : (bl bl' : Reader (Tall Braced)) → (1 ≤ d.0 → (ts : List Word) → Good n d K (BlockOf form) bl bl' ts) → (ts : List Word) → kind_of ts ≡ Some t.left_brace → Good n d K Up (nested_stmt n d.0 bl) (nested_stmt n' d'.0 bl') ts
    unfolding nested_stmt
    nested_stmt_good bl bl' block_good ts is = good_limited n K Up d d' 1 _ _ ts led deep (some_not_none (kind_of ts) t.left_brace is) (λ b db. up_return b)
        (λ c dc some a ea. let r = a_word t.right_brace in let bk = block_node a.span.start r.span.start [] in
        ((stmt_node (block_left bk) r.span.end (statement.Block bk), 2), r ∷ [], (nested 1 r.span.end bk (a ∷ r ∷ []) (empty_block form a (some_is a.kind t.left_brace (ea ∙ is)) c.1), omega arith)))
        (λ some. seq n d K (BlockOf form) _ bl' _ _ ts _ _ (block_of_rises form) (block_good some ts) (λ x _ r.
        good_pure n d K _ _ r (λ b db u iu. let f = iu.1 in rw append-nil (nested x.1 x.0.end x.0.block u iu.0, omega arith))))
