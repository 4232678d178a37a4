-- Tokens that end a list of statements, or begin a statement that a `break` may leave.
use Rattle.std.proofs.Common.{◌≡◌, ◌||◌, Bool, true, false, Some, refl}
use Rattle.go_ast.specs.declared.token.TokenKind.{TokenKind}
use Rattle.go_grammar.specs.Terminals as t
use Rattle.go_reading.specs.Kinds.{is, ends_list}
use Rattle.go_reading.proofs.Good.{same_is}

-- a token that ends a list in a clause closes the body, or begins a clause
pub data EndsClause (k : TokenKind) : Type 0 where
  at_brace : k ≡ t.right_brace → EndsClause k
  at_case : k ≡ t.case_word → EndsClause k
  at_default : k ≡ t.default_word → EndsClause k

pub ends_clause : (k : TokenKind) → ends_list true (Some k) ≡ true → EndsClause k
unfolding ends_list
ends_clause k e = go (is (Some k) t.right_brace) (is (Some k) t.case_word) (is (Some k) t.default_word) refl refl refl e
  where
    go : (a b c : Bool) → is (Some k) t.right_brace ≡ a → is (Some k) t.case_word ≡ b → is (Some k) t.default_word ≡ c → (a || b || c) ≡ true → EndsClause k
    go true b c p q r f' = at_brace (same_is k t.right_brace p)
    go false true c p q r f' = at_case (same_is k t.case_word q)
    go false false true p q r f' = at_default (same_is k t.default_word r)
    go false false false p q r f' = absurd cc

-- a `for`, a `switch` or a `select`
pub data Breaks (k : TokenKind) : Type 0 where
  is_for : k ≡ t.for_word → Breaks k
  is_switch : k ≡ t.switch_word → Breaks k
  is_select : k ≡ t.select_word → Breaks k
