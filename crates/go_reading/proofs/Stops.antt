-- What may follow a statement, and what statements begin with.
use Rattle.std.proofs.Common.{◌≡◌, ℕ, ◌≤◌, ◌<◌, nat_lt, cond, ◌||◌, Bool, true, false, List, ◌∷◌, ◌++◌, Option, Some, None, refl, ap, ◌∙◌, arith}
use Rattle.go_ast.specs.declared.token.TokenKind.{TokenKind}
use Rattle.go_ast.specs.declared.token.TokenKind.TheVariants as kind
use Rattle.go_ast.specs.declared.block.Stmt.{Stmt}
use Rattle.go_ast.specs.declared.block.Block.{Block}
use Rattle.go_grammar.specs.Words.{Word}
use Rattle.go_grammar.specs.Terminals as t
use Rattle.go_grammar.specs.Blocks.{covered, IsStmt, constants, variables, simple, nested, branch, breakable, labelled, return_none, return_some, breaks, breaks_to, continues, continues_to, falls, goes, defers, counted, IsIf, if_, IsBreakable, for_test, for_parts, for_range, switch, select, IsBlock, braces}
use Rattle.go_reading.specs.Kinds.{same, is, begins, begins_stmt, ends_list}
use Rattle.go_reading.specs.Counters.{is_stop}
use Rattle.go_reading.specs.Stmts.{least}
use Rattle.go_reading.specs.Input.{kind_of}
use Rattle.go_reading.proofs.Good.{is_is, same_is}
use Rattle.std.proofs.lemmas.Bool.{lt-ltb}
use Rattle.go_grammar.specs.declared.form.CounterForm.{CounterForm}
use Rattle.go_grammar.specs.declared.form.Form.TheVariants as text_form
use Rattle.go_reading.proofs.FitGood.{counter_named}
use Rattle.go_reading.proofs.ListEnds.{EndsClause, at_brace, at_case, at_default, ends_clause, Breaks, is_for, is_switch, is_select}
use Rattle.go_reading.proofs.RowsRead.{kind_is, is_other}
use Rattle.go_reading.proofs.SpecsRead.{SpecEnds, spec_ends}
use Rattle.go_reading.proofs.SimpleRead.{StmtEnds, Last, stmt_ends, last_semicolon, last_brace, last_case, last_default}
use Rattle.go_reading.proofs.HeadsRead.{simple_begins, simple_tall}
use Rattle.go_reading.proofs.DeclsRead.{block_kind}
use Rattle.go_grammar.specs.declared.form.Form.{Form as TextForm}

module _ (form : TextForm) where
  -- ---- what may follow a statement

  pub record Stops (rest : List Word) : Type 0 where
    pub ends : StmtEnds rest
    pub spec : SpecEnds rest
    pub no_value : begins (kind_of rest) ≡ false
    pub no_name : is (kind_of rest) kind.Name ≡ false
    pub no_else : is (kind_of rest) t.else_word ≡ false
    pub stop : is_stop (kind_of rest) ≡ true

  record Stop (k : TokenKind) : Type 0 where
    last : Last k
    no_assign : same k t.assign ≡ false
    no_value : begins (Some k) ≡ false
    no_name : same k kind.Name ≡ false
    no_else : same k t.else_word ≡ false
    stop : is_stop (Some k) ≡ true

  stops_at : (rest : List Word) (k : TokenKind) → kind_of rest ≡ Some k → Stop k → Stops rest
  stops_at rest k e p = record {
    ends = stmt_ends rest k e p.last;
    spec = spec_ends rest k e p.last.plain p.last.no_comma p.no_assign;
    no_value = ap begins e ∙ p.no_value;
    no_name = is_other (kind_of rest) k kind.Name e p.no_name;
    no_else = is_other (kind_of rest) k t.else_word e p.no_else;
    stop = ap is_stop e ∙ p.stop;
  }

  pub semicolon_stops : (s : Word) (rest : List Word) → s.kind ≡ t.semicolon → Stops (s ∷ rest)
  unfolding begins ends_list
  semicolon_stops s rest e = stops_at (s ∷ rest) t.semicolon (kind_is s rest t.semicolon e) (record { last = last_semicolon; no_assign = refl; no_value = refl; no_name = refl; no_else = refl; stop = refl })

  -- the token that ends a list
  pub ends_which : (clause : Bool) (o : Option TokenKind) → ends_list clause o ≡ true → (k : TokenKind) × (o ≡ Some k) × EndsClause k
  unfolding ends_list
  ends_which false o e = (t.right_brace, is_is o t.right_brace e, at_brace refl)
  ends_which true None e = absurd cc
  ends_which true (Some k) e = (k, refl, ends_clause k e)

  stop_of : (k : TokenKind) → EndsClause k → Stop k
  unfolding begins ends_list
  stop_of k (at_brace e) = rw e (record { last = last_brace; no_assign = refl; no_value = refl; no_name = refl; no_else = refl; stop = refl })
  stop_of k (at_case e) = rw e (record { last = last_case; no_assign = refl; no_value = refl; no_name = refl; no_else = refl; stop = refl })
  stop_of k (at_default e) = rw e (record { last = last_default; no_assign = refl; no_value = refl; no_name = refl; no_else = refl; stop = refl })

  pub end_stops : (clause : Bool) (rest : List Word) → ends_list clause (kind_of rest) ≡ true → Stops rest
  end_stops clause rest e = let w = ends_which clause (kind_of rest) e in stops_at rest w.0 w.1 (stop_of w.0 w.2)

  pub stop_stops : (a : Word) (r : List Word) → is_stop (Some a.kind) ≡ true → Stops (a ∷ r)
  stop_stops a r e = go (is (Some a.kind) t.semicolon) refl e
    where
      go : (b : Bool) → is (Some a.kind) t.semicolon ≡ b → (b || ends_list true (Some a.kind)) ≡ true → Stops (a ∷ r)
      go true f g = semicolon_stops a r (same_is a.kind t.semicolon f)
      go false f g = end_stops true (a ∷ r) g

  end_not_semicolon : (k : TokenKind) → EndsClause k → same k t.semicolon ≡ false
  end_not_semicolon k (at_brace e) = rw e refl
  end_not_semicolon k (at_case e) = rw e refl
  end_not_semicolon k (at_default e) = rw e refl

  pub no_semicolon : (clause : Bool) (o : Option TokenKind) → ends_list clause o ≡ true → is o t.semicolon ≡ false
  no_semicolon clause o e = let w = ends_which clause o e in rw w.1 (end_not_semicolon w.0 w.2)

  -- ---- what statements begin with

  begins_not_end : (k : TokenKind) → EndsClause k → begins_stmt (Some k) ≡ false
  unfolding begins_stmt begins
  begins_not_end k (at_brace e) = rw e refl
  begins_not_end k (at_case e) = rw e refl
  begins_not_end k (at_default e) = rw e refl

  pub not_ended : (clause : Bool) (o : Option TokenKind) → begins_stmt o ≡ true → ends_list clause o ≡ false
  not_ended clause o b = go (ends_list clause o) refl
    where
      go : (v : Bool) → ends_list clause o ≡ v → v ≡ false
      go false e = refl
      go true e = let w = ends_which clause o e in let f : begins_stmt o ≡ false = rw w.1 (begins_not_end w.0 w.2) in absurd cc

  starts_at : (o : Option TokenKind) (k : TokenKind) → o ≡ Some k → begins_stmt (Some k) ≡ true → begins_stmt o ≡ true
  starts_at o k e b = rw e b

  value_starts : (o : Option TokenKind) → begins o ≡ true → begins_stmt o ≡ true
  unfolding begins_stmt
  value_starts o b = rw b refl

  pub if_kind_of : (m h : ℕ) (x : Stmt) (w : List Word) → IsIf form m h x w → (rest : List Word) → kind_of (w ++ rest) ≡ Some t.if_word
  if_kind_of m _ _ _ (if_ k l i j c n end end' first test then other u v w z kk p q b o) rest = kind_is k ((u ++ (v ++ (w ++ z))) ++ rest) t.if_word kk

  pub breaks_kind : (m h : ℕ) (x : Stmt) (w : List Word) → IsBreakable form m h x w → (rest : List Word) → (k : TokenKind) × (kind_of (w ++ rest) ≡ Some k) × Breaks k
  breaks_kind m _ _ _ (for_test k i j end test body u v kk p b) rest = (k.kind, refl, is_for kk)
  breaks_kind m _ _ _ (for_parts k a b i j c n end first last test body u v w z kk p ka q kb r s) rest = (k.kind, refl, is_for kk)
  breaks_kind m _ _ _ (for_range k r l i j end ns over body u v w kk p kr q b) rest = (k.kind, refl, is_for kk)
  breaks_kind m _ _ _ (switch k a b i j c first tag cs u v w kk p q ka r kb) rest = (k.kind, refl, is_switch kk)
  breaks_kind m _ _ _ (select k a b h cs w kk ka r few kb) rest = (k.kind, refl, is_select kk)

  break_starts : (k : TokenKind) → Breaks k → begins_stmt (Some k) ≡ true
  unfolding begins_stmt begins
  break_starts k (is_for e) = rw e refl
  break_starts k (is_switch e) = rw e refl
  break_starts k (is_select e) = rw e refl

  pub stmt_begins : (m h : ℕ) (x : Stmt) (w : List Word) → IsStmt form m h x w → (rest : List Word) → begins_stmt (kind_of (w ++ rest)) ≡ true
  unfolding begins_stmt begins
  stmt_begins m _ _ _ (constants k h end cs w kk i) rest = starts_at (Some k.kind) t.const_word (kind_is k (w ++ rest) t.const_word kk) refl
  stmt_begins m _ _ _ (variables k h end vs w kk i) rest = starts_at (Some k.kind) t.var_word (kind_is k (w ++ rest) t.var_word kk) refl
  stmt_begins m _ _ _ (simple h x w i) rest = value_starts (kind_of (w ++ rest)) (simple_begins h x w i rest)
  stmt_begins m _ _ _ (nested h end b w i) rest = starts_at (kind_of (w ++ rest)) t.left_brace (block_kind form m h b end w i rest) refl
  stmt_begins m _ _ _ (branch h x w i) rest = starts_at (kind_of (w ++ rest)) t.if_word (if_kind_of m h x w i rest) refl
  stmt_begins m _ _ _ (breakable h x w i) rest = let b = breaks_kind m h x w i rest in starts_at (kind_of (w ++ rest)) b.0 b.1 (break_starts b.0 b.2)
  stmt_begins m _ _ _ (labelled n c h x w kn kc i) rest = starts_at (Some n.kind) kind.Name (kind_is n (c ∷ w ++ rest) kind.Name kn) refl
  stmt_begins m _ _ _ (return_none k kk) rest = starts_at (Some k.kind) t.return_word (kind_is k rest t.return_word kk) refl
  stmt_begins m _ _ _ (return_some k h es w kk i) rest = starts_at (Some k.kind) t.return_word (kind_is k (w ++ rest) t.return_word kk) refl
  stmt_begins m _ _ _ (breaks k kk) rest = starts_at (Some k.kind) t.break_word (kind_is k rest t.break_word kk) refl
  stmt_begins m _ _ _ (breaks_to k n kk kn) rest = starts_at (Some k.kind) t.break_word (kind_is k (n ∷ rest) t.break_word kk) refl
  stmt_begins m _ _ _ (continues k kk) rest = starts_at (Some k.kind) t.continue_word (kind_is k rest t.continue_word kk) refl
  stmt_begins m _ _ _ (continues_to k n kk kn) rest = starts_at (Some k.kind) t.continue_word (kind_is k (n ∷ rest) t.continue_word kk) refl
  stmt_begins m _ _ _ (falls k kk) rest = starts_at (Some k.kind) t.fallthrough_word (kind_is k rest t.fallthrough_word kk) refl
  stmt_begins m _ _ _ (goes k l h e w kk i) rest = starts_at (Some k.kind) t.go_word (kind_is k (w ++ rest) t.go_word kk) refl
  stmt_begins m _ _ _ (defers k l h e w kk i) rest = starts_at (Some k.kind) t.defer_word (kind_is k (w ++ rest) t.defer_word kk) refl
  stmt_begins m _ _ _ (counted a var mode count i w e lt f) rest = starts_at (Some a.kind) kind.Name (kind_is a (w ++ rest) kind.Name (counter_named var mode i a w f)) refl

  -- ---- statements have a level

  pub block_tall : (m h : ℕ) (b : Block) (end : ℕ) (w : List Word) → IsBlock form m h b end w → 1 ≤ h
  block_tall m _ _ _ _ (braces a b h ss w ka i kb) = omega arith

  pub if_tall : (m h : ℕ) (x : Stmt) (w : List Word) → IsIf form m h x w → 2 ≤ h
  if_tall m _ _ _ (if_ k l i j c n end end' first test then other u v w z kk p q b o) = let s = block_tall m c then end w b in omega arith

  pub breaks_tall : (m h : ℕ) (x : Stmt) (w : List Word) → IsBreakable form m h x w → 1 ≤ h
  breaks_tall m _ _ _ (for_test k i j end test body u v kk p b) = omega arith
  breaks_tall m _ _ _ (for_parts k a b i j c n end first last test body u v w z kk p ka q kb r s) = omega arith
  breaks_tall m _ _ _ (for_range k r l i j end ns over body u v w kk p kr q b) = omega arith
  breaks_tall m _ _ _ (switch k a b i j c first tag cs u v w kk p q ka r kb) = omega arith
  breaks_tall m _ _ _ (select k a b h cs w kk ka r few kb) = omega arith

  least_one : least form ≤ 1
  least_one = go form
    where
      go : (f : TextForm) → least f ≤ 1
      go text_form.Source = omega arith
      go (text_form.Covered var mode count) = by (nat_lt 0 count)
        where
          by : (b : Bool) → cond b 0 1 ≤ 1
          by true = omega arith
          by false = omega arith

  -- where there are counters, they need no level
  counted_least : (var : List ℕ) (mode : CounterForm) (count i : ℕ) → form ≡ covered var mode count → i < count → least form ≡ 0
  counted_least var mode count i e lt = rw (e, lt-ltb 0 count (omega arith)) refl

  pub stmt_least : (m h : ℕ) (x : Stmt) (w : List Word) → IsStmt form m h x w → least form ≤ h
  stmt_least m _ _ _ (constants k h end cs w kk i) = let l = least_one in omega arith
  stmt_least m _ _ _ (variables k h end vs w kk i) = let l = least_one in omega arith
  stmt_least m _ _ _ (simple h x w i) = let l = least_one in let s = simple_tall h x w i in omega arith
  stmt_least m _ _ _ (nested h end b w i) = let l = least_one in omega arith
  stmt_least m _ _ _ (branch h x w i) = let l = least_one in let s = if_tall m h x w i in omega arith
  stmt_least m _ _ _ (breakable h x w i) = let l = least_one in let s = breaks_tall m h x w i in omega arith
  stmt_least m _ _ _ (labelled n c h x w kn kc i) = let l = least_one in omega arith
  stmt_least m _ _ _ (return_none k kk) = let l = least_one in omega arith
  stmt_least m _ _ _ (return_some k h es w kk i) = let l = least_one in omega arith
  stmt_least m _ _ _ (breaks k kk) = let l = least_one in omega arith
  stmt_least m _ _ _ (breaks_to k n kk kn) = let l = least_one in omega arith
  stmt_least m _ _ _ (continues k kk) = let l = least_one in omega arith
  stmt_least m _ _ _ (continues_to k n kk kn) = let l = least_one in omega arith
  stmt_least m _ _ _ (falls k kk) = let l = least_one in omega arith
  stmt_least m _ _ _ (goes k l h e w kk i) = let l = least_one in omega arith
  stmt_least m _ _ _ (defers k l h e w kk i) = let l = least_one in omega arith
  stmt_least m _ _ _ (counted a var mode count i w e lt f) = let z : least form ≡ 0 = counted_least var mode count i e lt in omega arith
