-- Lists with separators, of anything.
use Rattle.std.specs.Prelude.{ℕ, zero, suc, max, List, [], ◌∷◌, ◌++◌}
use Rattle.go_ast.specs.declared.token.TokenKind.{TokenKind}
use Rattle.go_grammar.specs.Terminals as t
use Rattle.go_reading.specs.declared.fault.Fault.TheVariants.{Exhausted}
use Rattle.go_reading.specs.Input.{Reader, Tall, ◌>>=◌, ◌>>◌, pure, fail, refuse, peek, take_span, expect, if_kind, limited}

-- items with a separator between; the first number bounds the turns
unfoldable pub row_from : {A : Type 0} → TokenKind → Reader (Tall A) → ℕ → List A → ℕ → Reader (Tall (List A))
row_from sep item zero found h = fail Exhausted
row_from sep item (suc turns) found h = do
  x ← item
  peek >>= if_kind sep (take_span >> row_from sep item turns (found ++ x.0 ∷ []) (max h x.1)) (pure (found ++ x.0 ∷ [], max h x.1))

-- the same, where a separator may also stand before the closing token
unfoldable pub list_from : {A : Type 0} → TokenKind → TokenKind → Reader (Tall A) → ℕ → List A → ℕ → Reader (Tall (List A))
list_from sep close item zero found h = fail Exhausted
list_from sep close item (suc turns) found h = do
  x ← item
  peek >>= if_kind sep (take_span >> (peek >>= if_kind close (pure (found ++ x.0 ∷ [], max h x.1)) (list_from sep close item turns (found ++ x.0 ∷ []) (max h x.1)))) (pure (found ++ x.0 ∷ [], max h x.1))

-- the same, or none
unfoldable pub list_of : {A : Type 0} → TokenKind → TokenKind → Reader (Tall A) → ℕ → Reader (Tall (List A))
list_of sep close item n = peek >>= if_kind close (pure ([], 0)) (list_from sep close item n [] 0)

-- what begins with a token of one kind, and needs a level
abbrev pub opened : {A : Type 0} → TokenKind → ℕ → Reader A → Reader A
opened first d p = peek >>= if_kind first (limited d 1 p) refuse

-- items that begin with one kind of token, each with a `;` behind it that may be left out before the `)`
unfoldable pub group_list : {A : Type 0} → TokenKind → ℕ → Reader (Tall A) → ℕ → Reader (Tall (List A))
group_list first d item n = peek >>= if_kind t.right_parenthesis (pure ([], 0)) (opened first d (list_from t.semicolon t.right_parenthesis item n [] 0))

-- such an item, or such items in parentheses; and where that ends
unfoldable pub group_of : {A : Type 0} → TokenKind → ℕ → Reader (Tall A) → (A → ℕ) → ℕ → Reader (Tall (List A × ℕ))
group_of first d item end_of n = peek >>= if_kind t.left_parenthesis (do
  take_span
  xs ← group_list first d item n
  right ← expect t.right_parenthesis
  pure ((xs.0, right.end), xs.1)) (opened first d (do
    x ← item
    pure ((x.0 ∷ [], end_of x.0), x.1)))
