-- Each token that a statement may begin with begins one.
use Rattle.std.proofs.Common.{◌≡◌, ◌||◌, ℕ, ◌+◌, max, Bool, true, false, List, [], ◌∷◌, Some, None, refl, arith}
use Rattle.std.specs.List.{AllByRecursion}
use Rattle.go_ast.specs.declared.token.TokenKind.{TokenKind}
use Rattle.go_ast.specs.declared.token.TokenKind.TheVariants as kind
use Rattle.go_ast.specs.declared.block.Stmt.{Stmt}
use Rattle.go_ast.specs.declared.block.StmtForm.TheVariants as statement
use Rattle.go_ast.specs.declared.block.Block.{Block}
use Rattle.go_grammar.specs.Words.{Word}
use Rattle.go_grammar.specs.Terminals as t
use Rattle.go_grammar.specs.Trees.{stmt_node, expr_end, block_node, block_left}
use Rattle.go_grammar.specs.Lists.{no_group}
use Rattle.go_grammar.specs.Exprs.{no_expr}
use Rattle.go_grammar.specs.Blocks.{no_first, IsStmt, constants, variables, nested, branch, breakable, return_none, breaks, continues, falls, goes, defers, if_, no_else, for_test, switch, select, no_cases, no_comms, IsBlock, braces, no_stmts}
use Rattle.go_reading.specs.Kinds.{is, is_one_of, starts}
use Rattle.go_reading.specs.Input.{Tall}
use Rattle.go_reading.proofs.Good.{a_word, some_is, is_is}
use Rattle.go_reading.proofs.ExprsGood.{an_expr, is_an_expr}
use Rattle.go_grammar.specs.declared.form.Form.{Form as TextForm}

module _ (form : TextForm) where
  pub empty_block : (a : Word) → a.kind ≡ t.left_brace → (m : ℕ) → IsBlock form m 1 (block_node a.span.start (a_word t.right_brace).span.start []) (a_word t.right_brace).span.end (a ∷ a_word t.right_brace ∷ [])
  empty_block a k m = braces a (a_word t.right_brace) 0 [] [] k no_stmts refl

  -- a statement of some height begins with the token
  abbrev pub StartsStmt : Word → Type 0
  StartsStmt a = (x : Tall Stmt) × (w : List Word) × ((m : ℕ) → IsStmt form m x.1 x.0 (a ∷ w))

  abbrev pub Starts : TokenKind → Type 0
  Starts k = (a : Word) → a.kind ≡ k → StartsStmt a

  pub some_block : Block
  some_block = block_node (a_word t.left_brace).span.start (a_word t.right_brace).span.start []

  pub some_block_is : (m : ℕ) → IsBlock form m 1 some_block (a_word t.right_brace).span.end (a_word t.left_brace ∷ a_word t.right_brace ∷ [])
  unfolding some_block
  some_block_is m = empty_block (a_word t.left_brace) refl m

  pub started : AllByRecursion Starts starts
  started = (
    λ a k. ((stmt_node a.span.start a.span.end (statement.Break None), 1), [], λ m. breaks a k),
    (
      λ a k. let l = a_word t.left_parenthesis in let r = a_word t.right_parenthesis in ((stmt_node a.span.start r.span.end (statement.Const []), 1), l ∷ r ∷ [], λ m. constants a 0 r.span.end [] (l ∷ r ∷ []) k (no_group l r refl refl)),
      (
        λ a k. ((stmt_node a.span.start a.span.end (statement.Continue None), 1), [], λ m. continues a k),
        (
          λ a k. ((stmt_node a.span.start (expr_end an_expr) (statement.Defer an_expr), 2), a_word kind.Name ∷ [], λ m. defers a 7 1 an_expr (a_word kind.Name ∷ []) k is_an_expr),
          (
            λ a k. ((stmt_node a.span.start a.span.end statement.Fallthrough, 1), [], λ m. falls a k),
            (
              λ a k. ((stmt_node a.span.start (a_word t.right_brace).span.end (statement.For None None None some_block), max 0 1 + 1), a_word t.left_brace ∷ a_word t.right_brace ∷ [], λ m. breakable (max 0 1 + 1) (stmt_node a.span.start (a_word t.right_brace).span.end (statement.For None None None some_block)) (a ∷ a_word t.left_brace ∷ a_word t.right_brace ∷ []) (for_test a 0 1 (a_word t.right_brace).span.end None some_block [] (a_word t.left_brace ∷ a_word t.right_brace ∷ []) k no_expr (some_block_is m))),
              (
                λ a k. ((stmt_node a.span.start (expr_end an_expr) (statement.Go an_expr), 2), a_word kind.Name ∷ [], λ m. goes a 7 1 an_expr (a_word kind.Name ∷ []) k is_an_expr),
                (
                  λ a k. (
                    (stmt_node a.span.start (a_word t.right_brace).span.end (statement.If None an_expr some_block None), max (max 0 1) (max 1 0) + 1),
                    a_word kind.Name ∷ a_word t.left_brace ∷ a_word t.right_brace ∷ [],
                    λ m. branch (max (max 0 1) (max 1 0) + 1) (stmt_node a.span.start (a_word t.right_brace).span.end (statement.If None an_expr some_block None)) (a ∷ a_word kind.Name ∷ a_word t.left_brace ∷ a_word t.right_brace ∷ [])
                        (if_ a 7 0 1 1 0 (a_word t.right_brace).span.end (a_word t.right_brace).span.end None an_expr some_block None [] (a_word kind.Name ∷ []) (a_word t.left_brace ∷ a_word t.right_brace ∷ []) [] k no_first is_an_expr (some_block_is m) (no_else (a_word t.right_brace).span.end)),
                  ),
                  (
                    λ a k. ((stmt_node a.span.start a.span.end (statement.Return []), 1), [], λ m. return_none a k),
                    (
                      λ a k. let l = a_word t.left_brace in let r = a_word t.right_brace in ((stmt_node a.span.start r.span.end (statement.Select l.span.start []), 1), l ∷ r ∷ [], λ m. breakable 1 (stmt_node a.span.start r.span.end (statement.Select l.span.start [])) (a ∷ l ∷ r ∷ []) (select a l r 0 [] [] k refl no_comms (omega arith) refl)),
                      (
                        λ a k. let l = a_word t.left_brace in let r = a_word t.right_brace in ((stmt_node a.span.start r.span.end (statement.Switch None None l.span.start []), max (max 0 0) 0 + 1), l ∷ r ∷ [], λ m. breakable (max (max 0 0) 0 + 1) (stmt_node a.span.start r.span.end (statement.Switch None None l.span.start [])) (a ∷ l ∷ r ∷ []) (switch a l r 0 0 0 None None [] [] [] [] k no_first no_expr refl no_cases refl)),
                        (
                          λ a k. let l = a_word t.left_parenthesis in let r = a_word t.right_parenthesis in ((stmt_node a.span.start r.span.end (statement.Var []), 1), l ∷ r ∷ [], λ m. variables a 0 r.span.end [] (l ∷ r ∷ []) k (no_group l r refl refl)),
                          (
                            λ a k. let r = a_word t.right_brace in let b = block_node a.span.start r.span.start [] in ((stmt_node (block_left b) r.span.end (statement.Block b), 2), r ∷ [], λ m. nested 1 r.span.end b (a ∷ r ∷ []) (empty_block a k m)),
                            tt,
                          ),
                        ),
                      ),
                    ),
                  ),
                ),
              ),
            ),
          ),
        ),
      ),
    ),
  )

  pub started_by : (ks : List TokenKind) → AllByRecursion Starts ks → (a : Word) → is_one_of ks (Some a.kind) ≡ true → StartsStmt a
  started_by [] all a e = absurd cc
  started_by (k ∷ ks) all a e = pick (is (Some a.kind) k) refl e (λ f'. started_by ks all.1 a f')
    where
      pick : (b : Bool) → is (Some a.kind) k ≡ b → (b || is_one_of ks (Some a.kind)) ≡ true → (is_one_of ks (Some a.kind) ≡ true → StartsStmt a) → StartsStmt a
      pick true y f' more = all.0 a (some_is a.kind k (is_is (Some a.kind) k y))
      pick false y f' more = more f'
