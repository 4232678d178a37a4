-- Which reader of statements a token leads to.
use Rattle.std.proofs.Common.{◌≡◌, ◌||◌, ℕ, zero, suc, Bool, false, true, List, Option, Some, Err, refl, sym, ap, ◌∙◌}
use Rattle.go_ast.specs.declared.token.TokenKind.{TokenKind}
use Rattle.go_ast.specs.declared.expr.Expr.{Expr}
use Rattle.go_ast.specs.declared.block.Stmt.{Stmt}
use Rattle.go_grammar.specs.Words.{Word}
use Rattle.go_grammar.specs.Terminals as t
use Rattle.go_reading.specs.declared.header.Braced.{Braced}
use Rattle.go_reading.specs.Kinds.{is, begins, begins_stmt, is_one_of, starts}
use Rattle.go_reading.specs.declared.fault.Fault.TheVariants.{Unexpected}
use Rattle.go_reading.specs.Input.{Reader, Tall, ◌>>=◌, peek, if_kind, kind_of}
use Rattle.go_reading.specs.Simple.{target_of, lead, stmt_by}
use Rattle.go_reading.specs.Stmts.{label_by, const_stmt, var_stmt, return_stmt, break_stmt, continue_stmt, fallthrough_stmt, go_stmt, defer_stmt, nested_stmt, plain_stmt, stmt_in}
use Rattle.go_reading.proofs.Good.{is_is}
use Rattle.go_reading.proofs.BareGood.{unnamed_bare, unnamed_tail}
use Rattle.go_reading.proofs.SimpleRead.{begun_not}
use Rattle.go_reading.proofs.ListEnds.{Breaks, is_for, is_switch, is_select}

module _ (n d : ℕ) (bl : Reader (Tall Braced)) (br bk lb : Reader (Tall Stmt)) (ts : List Word) where
  pub at_block : kind_of ts ≡ Some t.left_brace → stmt_in n d bl br bk lb ts ≡ nested_stmt n d bl ts
  unfolding stmt_in
  at_block e = rw e refl

  pub at_if : kind_of ts ≡ Some t.if_word → stmt_in n d bl br bk lb ts ≡ br ts
  unfolding stmt_in
  at_if e = rw (e, e) refl

  pub at_for : kind_of ts ≡ Some t.for_word → stmt_in n d bl br bk lb ts ≡ bk ts
  unfolding stmt_in
  at_for e = rw (e, e, e) refl

  pub at_switch : kind_of ts ≡ Some t.switch_word → stmt_in n d bl br bk lb ts ≡ bk ts
  unfolding stmt_in
  at_switch e = rw (e, e, e, e) refl

  pub at_select : kind_of ts ≡ Some t.select_word → stmt_in n d bl br bk lb ts ≡ bk ts
  unfolding stmt_in
  at_select e = rw (e, e, e, e, e) refl

  pub at_break : (k : TokenKind) → kind_of ts ≡ Some k → Breaks k → stmt_in n d bl br bk lb ts ≡ bk ts
  at_break k e (is_for f) = at_for (e ∙ ap (λ (i : TokenKind). Some i) f)
  at_break k e (is_switch f) = at_switch (e ∙ ap (λ (i : TokenKind). Some i) f)
  at_break k e (is_select f) = at_select (e ∙ ap (λ (i : TokenKind). Some i) f)

  pub at_const : kind_of ts ≡ Some t.const_word → stmt_in n d bl br bk lb ts ≡ const_stmt n d ts
  unfolding stmt_in
  at_const e = rw (e, e, e, e, e, e) refl

  pub at_var : kind_of ts ≡ Some t.var_word → stmt_in n d bl br bk lb ts ≡ var_stmt n d ts
  unfolding stmt_in
  at_var e = rw (e, e, e, e, e, e, e) refl

  pub at_return : kind_of ts ≡ Some t.return_word → stmt_in n d bl br bk lb ts ≡ return_stmt n d ts
  unfolding stmt_in
  at_return e = rw (e, e, e, e, e, e, e, e) refl

  pub at_break_word : kind_of ts ≡ Some t.break_word → stmt_in n d bl br bk lb ts ≡ break_stmt ts
  unfolding stmt_in
  at_break_word e = rw (e, e, e, e, e, e, e, e, e) refl

  pub at_continue : kind_of ts ≡ Some t.continue_word → stmt_in n d bl br bk lb ts ≡ continue_stmt ts
  unfolding stmt_in
  at_continue e = rw (e, e, e, e, e, e, e, e, e, e) refl

  pub at_fallthrough : kind_of ts ≡ Some t.fallthrough_word → stmt_in n d bl br bk lb ts ≡ fallthrough_stmt ts
  unfolding stmt_in
  at_fallthrough e = rw (e, e, e, e, e, e, e, e, e, e, e) refl

  pub at_go : kind_of ts ≡ Some t.go_word → stmt_in n d bl br bk lb ts ≡ go_stmt n d ts
  unfolding stmt_in
  at_go e = rw (e, e, e, e, e, e, e, e, e, e, e, e) refl

  pub at_defer : kind_of ts ≡ Some t.defer_word → stmt_in n d bl br bk lb ts ≡ defer_stmt n d ts
  unfolding stmt_in
  at_defer e = rw (e, e, e, e, e, e, e, e, e, e, e, e, e) refl

  pub at_value : begins (kind_of ts) ≡ true → stmt_in n d bl br bk lb ts ≡ plain_stmt n d lb ts
  unfolding stmt_in begins
  at_value b =
      let no : (k : TokenKind) → begins (Some k) ≡ false → is (kind_of ts) k ≡ false = λ k e. begun_not (kind_of ts) k b e in
      rw (no t.left_brace refl, no t.if_word refl, no t.for_word refl, no t.switch_word refl, no t.select_word refl, no t.const_word refl, no t.var_word refl, no t.return_word refl, no t.break_word refl, no t.continue_word refl, no t.fallthrough_word refl, no t.go_word refl, no t.defer_word refl) refl

-- no statement begins so

not_starts : (o : Option TokenKind) (k : TokenKind) → begins_stmt o ≡ false → begins_stmt (Some k) ≡ true → is o k ≡ false
not_starts o k b f = go (is o k) refl
  where
    go : (v : Bool) → is o k ≡ v → v ≡ false
    go false e = refl
    go true e = let i : o ≡ Some k = is_is o k e in let g : begins_stmt (Some k) ≡ false = ap begins_stmt (sym i) ∙ b in absurd cc

no_value : (o : Option TokenKind) → begins_stmt o ≡ false → begins o ≡ false
unfolding begins_stmt
no_value o e = go (begins o) (is_one_of starts o) e
  where
    go : (a b : Bool) → (a || b) ≡ false → a ≡ false
    go true b e = absurd cc
    go false b e = refl

value_tail : ℕ → ℕ → Reader (Tall Stmt) → Tall Expr → Reader (Tall Stmt)
value_tail n c bl x = peek >>= if_kind t.colon (label_by n c bl x (target_of x.0)) (lead n c false x >>= stmt_by)

no_plain : (n c : ℕ) (lb : Reader (Tall Stmt)) (ts : List Word) → begins (kind_of ts) ≡ false → plain_stmt n c lb ts ≡ (Err Unexpected, ts)
unfolding plain_stmt value_tail
no_plain n zero lb ts b = unnamed_bare true ts b
no_plain n (suc c) lb ts b = unnamed_tail n c (value_tail n (suc c) lb) ts b

starts_so : (begins_stmt (Some t.left_brace) ≡ true) × ((begins_stmt (Some t.if_word) ≡ true) × ((begins_stmt (Some t.for_word) ≡ true) × ((begins_stmt (Some t.switch_word) ≡ true) × ((begins_stmt (Some t.select_word) ≡ true) × ((begins_stmt (Some t.const_word) ≡ true) × (begins_stmt (Some t.var_word) ≡ true))))))
unfolding begins_stmt begins
starts_so = (refl, (refl, (refl, (refl, (refl, (refl, refl))))))

starts_then : (begins_stmt (Some t.return_word) ≡ true) × ((begins_stmt (Some t.break_word) ≡ true) × ((begins_stmt (Some t.continue_word) ≡ true) × ((begins_stmt (Some t.fallthrough_word) ≡ true) × ((begins_stmt (Some t.go_word) ≡ true) × (begins_stmt (Some t.defer_word) ≡ true)))))
unfolding begins_stmt begins
starts_then = (refl, (refl, (refl, (refl, (refl, refl)))))

pub at_none : (n d : ℕ) (bl : Reader (Tall Braced)) (br bk lb : Reader (Tall Stmt)) (ts : List Word) → begins_stmt (kind_of ts) ≡ false → stmt_in n d bl br bk lb ts ≡ (Err Unexpected, ts)
unfolding stmt_in
at_none n d bl br bk lb ts b =
    let no : (k : TokenKind) → begins_stmt (Some k) ≡ true → is (kind_of ts) k ≡ false = λ k e. not_starts (kind_of ts) k b e in
    let s = starts_so in
    let u = starts_then in
    rw (no t.left_brace s.0, no t.if_word s.1.0, no t.for_word s.1.1.0, no t.switch_word s.1.1.1.0, no t.select_word s.1.1.1.1.0, no t.const_word s.1.1.1.1.1.0, no t.var_word s.1.1.1.1.1.1, no t.return_word u.0, no t.break_word u.1.0, no t.continue_word u.1.1.0, no t.fallthrough_word u.1.1.1.0, no t.go_word u.1.1.1.1.0, no t.defer_word u.1.1.1.1.1)
    (no_plain n d lb ts (no_value (kind_of ts) b))
