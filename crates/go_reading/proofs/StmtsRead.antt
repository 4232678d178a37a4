-- Lists of statements and blocks that the grammar derives are read, if statements are.
use Rattle.std.proofs.Common.{◌≡◌, ◌&&◌, ℕ, zero, suc, ◌+◌, ◌≤◌, ◌<◌, max, Bool, true, false, List, [], ◌∷◌, ◌++◌, length, Ok, refl, ap, ◌∙◌, append_assoc, arith}
use Rattle.std.proofs.lemmas.List.{length-append}
use Rattle.std.proofs.lemmas.Bool.{le-ltb}
use Rattle.go_ast.specs.declared.block.Stmt.{Stmt}
use Rattle.go_ast.specs.declared.block.Block.{Block}
use Rattle.go_grammar.specs.Words.{Word}
use Rattle.go_grammar.specs.Terminals as t
use Rattle.go_grammar.specs.Trees.{block_node}
use Rattle.go_grammar.specs.Lists.{MayBe}
use Rattle.go_grammar.specs.Blocks.{IsStmt, IsBlock, braces, IsList, no_stmts, stmts, IsStmts, one_stmt, more_stmts}
use Rattle.go_reading.specs.declared.header.Braced.{Braced}
use Rattle.go_reading.specs.Kinds.{begins_stmt, ends_list}
use Rattle.go_reading.specs.Input.{Reader, Tall, kind_of, take_as, expect_as}
use Rattle.go_reading.specs.Stmts.{least, begins_clause, next_from, stmts_from, list, block_in}
use Rattle.go_reading.proofs.RowsRead.{sees}
use Rattle.go_reading.proofs.Stops.{Stops, semicolon_stops, end_stops, no_semicolon, not_ended, stmt_begins, stmt_least}
use Rattle.go_grammar.specs.declared.form.Form.{Form as TextForm}

module _ (form : TextForm) where
  -- a reader of statements reads what is derived, where it may end
  abbrev pub StmtReads : (n m d : ℕ) → Reader (Tall Stmt) → Type 0
  StmtReads n m d st = (h : ℕ) (x : Stmt) (w : List Word) → IsStmt form m h x w → h ≤ d → length w < n → (rest : List Word) → Stops form rest → st (w ++ rest) ≡ (Ok (x, h), rest)

  -- and one of blocks
  abbrev pub BlockReads : (n m d : ℕ) → Reader (Tall Braced) → Type 0
  BlockReads n m d bl = (h : ℕ) (b : Block) (end : ℕ) (w : List Word) → IsBlock form m h b end w → h ≤ d → length w < n → (rest : List Word) → bl (w ++ rest) ≡ (Ok (record { block = b; end = end }, h), rest)

  -- ---- steps

  pub and_false : (b : Bool) → (b && false) ≡ false
  and_false true = refl
  and_false false = refl

  few_at_semicolon : (full : Bool) (s : Word) (rest : List Word) → s.kind ≡ t.semicolon → (full && begins_clause (kind_of (s ∷ rest))) ≡ false
  few_at_semicolon full s rest e = rw e (and_false full)

  module _ (n d : ℕ) (st : Reader (Tall Stmt)) (clause full : Bool) where
    last_step : (k : ℕ) (found : List Stmt) (h0 h : ℕ) (x : Stmt) (ts rest : List Word) → st ts ≡ (Ok (x, h), rest) → h ≤ d → ends_list clause (kind_of rest) ≡ true → (full && begins_clause (kind_of rest)) ≡ false
        → stmts_from n d st clause full (suc k) found h0 ts ≡ (Ok (found ++ x ∷ [], max h0 h), rest)
    unfolding stmts_from next_from
    last_step k found h0 h x ts rest r le over few = rw (r, no_semicolon form clause (kind_of rest) over, over, few, le-ltb d h le) (rw (no_semicolon form clause (kind_of rest) over) refl)

    last_semicolon_step : (k : ℕ) (found : List Stmt) (h0 h : ℕ) (x : Stmt) (s : Word) (ts rest : List Word) → st ts ≡ (Ok (x, h), s ∷ rest) → h ≤ d → s.kind ≡ t.semicolon → ends_list clause (kind_of rest) ≡ true
        → stmts_from n d st clause full (suc k) found h0 ts ≡ (Ok (found ++ x ∷ [], max h0 h), rest)
    unfolding stmts_from next_from take_as
    last_semicolon_step k found h0 h x s ts rest r le ks over = rw (r, sees s rest t.semicolon ks, few_at_semicolon full s rest ks, le-ltb d h le) (rw (sees s rest t.semicolon ks, over) refl)

    next_step : (k : ℕ) (found : List Stmt) (h0 h : ℕ) (x : Stmt) (s : Word) (ts rest : List Word) → st ts ≡ (Ok (x, h), s ∷ rest) → h ≤ d → s.kind ≡ t.semicolon → ends_list clause (kind_of rest) ≡ false
        → stmts_from n d st clause full (suc k) found h0 ts ≡ stmts_from n d st clause full k (found ++ x ∷ []) (max h0 h) rest
    unfolding stmts_from next_from take_as
    next_step k found h0 h x s ts rest r le ks other = rw (r, sees s rest t.semicolon ks, few_at_semicolon full s rest ks, le-ltb d h le) (rw (sees s rest t.semicolon ks, other) refl)

    no_list_step : (rest : List Word) → ends_list clause (kind_of rest) ≡ true → list form n d st clause full rest ≡ (Ok ([], 0), rest)
    unfolding list
    no_list_step rest over = rw over refl

    list_step : (ts : List Word) → least form ≤ d → begins_stmt (kind_of ts) ≡ true → list form n d st clause full ts ≡ stmts_from n d st clause full n [] 0 ts
    unfolding list
    list_step ts some b = rw (not_ended form clause (kind_of ts) b, b, le-ltb d (least form) some) refl

  -- ---- lists

  stmts_begin : (m h : ℕ) (ss : List Stmt) (w : List Word) → IsStmts form m h ss w → (rest : List Word) → begins_stmt (kind_of (w ++ rest)) ≡ true
  stmts_begin m _ _ _ (one_stmt h x w i) rest = stmt_begins form m h x w i rest
  stmts_begin m _ _ _ (more_stmts s h h' x xs w v i e r) rest = rw append_assoc (stmt_begins form m h x w i (s ∷ v ++ rest))

  stmts_least : (m h : ℕ) (ss : List Stmt) (w : List Word) → IsStmts form m h ss w → least form ≤ h
  stmts_least m _ _ _ (one_stmt h x w i) = stmt_least form m h x w i
  stmts_least m _ _ _ (more_stmts s h h' x xs w v i e r) = let k = stmt_least form m h x w i in omega arith

  module _ (n m d : ℕ) (st : Reader (Tall Stmt)) (reads : StmtReads n m d st) (clause full : Bool) where
    stmts_read : (h : ℕ) (ss : List Stmt) (w : List Word) → IsStmts form m h ss w → h ≤ d → length w < n → (k : ℕ) → length w < k → (found : List Stmt) (h0 : ℕ) (c rest : List Word) → MayBe t.semicolon c
        → ends_list clause (kind_of rest) ≡ true → (full && begins_clause (kind_of rest)) ≡ false → stmts_from n d st clause full k found h0 (w ++ (c ++ rest)) ≡ (Ok (found ++ ss, max h0 h), rest)
    stmts_read _ _ _ (one_stmt h x w i) le long zero lt found h0 c rest may over few = absurd (omega arith)
    stmts_read _ _ _ (one_stmt h x w i) le long (suc k) lt found h0 [] rest may over few = last_step n d st clause full k found h0 h x (w ++ rest) rest (reads h x w i le long rest (end_stops form clause rest over)) le over few
    stmts_read _ _ _ (one_stmt h x w i) le long (suc k) lt found h0 (c ∷ cs) rest may over few =
        let is-one : c ∷ cs ++ rest ≡ c ∷ rest = ap (λ (ys : List Word). c ∷ (ys ++ rest)) may.1 in
        rw is-one (last_semicolon_step n d st clause full k found h0 h x c (w ++ c ∷ rest) rest (reads h x w i le long (c ∷ rest) (semicolon_stops form c rest may.0)) le may.0 over)
    stmts_read _ _ _ (more_stmts s h h' x xs w v i e r) le long zero lt found h0 c rest may over few = absurd (omega arith)
    stmts_read _ _ _ (more_stmts s h h' x xs w v i e r) le long (suc k) lt found h0 c rest may over few =
        let len = length-append w (s ∷ v) in
        let mm : max (max h0 h) h' ≡ max h0 (max h h') = omega arith in
        rw append_assoc (next_step n d st clause full k found h0 h x s (w ++ s ∷ (v ++ (c ++ rest))) (v ++ (c ++ rest)) (reads h x w i (omega arith) (omega arith) (s ∷ (v ++ (c ++ rest))) (semicolon_stops form s (v ++ (c ++ rest)) e)) (omega arith) e (not_ended form clause (kind_of (v ++ (c ++ rest))) (stmts_begin m h' xs v r (c ++ rest)))
        ∙ stmts_read h' xs v r (omega arith) (omega arith) k (omega arith) (found ++ x ∷ []) (max h0 h) c rest may over few ∙ rw (append_assoc, mm) refl)

    pub list_read : (h : ℕ) (ss : List Stmt) (w : List Word) → IsList form m h ss w → h ≤ d → length w < n → (rest : List Word) → ends_list clause (kind_of rest) ≡ true → (full && begins_clause (kind_of rest)) ≡ false
        → list form n d st clause full (w ++ rest) ≡ (Ok (ss, h), rest)
    list_read _ _ _ no_stmts le long rest over few = no_list_step n d st clause full rest over
    list_read _ _ _ (stmts h ss w c i may) le long rest over few =
        let len = length-append w c in
        let some = stmts_least m h ss w i in
        let mm : max 0 h ≡ h = omega arith in
        rw append_assoc (list_step n d st clause full (w ++ (c ++ rest)) (omega arith) (stmts_begin m h ss w i (c ++ rest)) ∙ stmts_read h ss w i le (omega arith) n (omega arith) [] 0 c rest may over few ∙ rw mm refl)

  -- ---- blocks

  block_step : (n d : ℕ) (st : Reader (Tall Stmt)) (a b : Word) (ss : List Stmt) (h : ℕ) (ts rest : List Word) → a.kind ≡ t.left_brace → b.kind ≡ t.right_brace → list form n d st false false ts ≡ (Ok (ss, h), b ∷ rest)
      → block_in form n d st (a ∷ ts) ≡ (Ok (record { block = block_node a.span.start b.span.start ss; end = b.span.end }, h + 1), rest)
  unfolding block_in expect_as
  block_step n d st a b ss h ts rest ka kb r = rw (sees a ts t.left_brace ka, r, sees b rest t.right_brace kb) refl

  brace_ends : (b : Word) (rest : List Word) → b.kind ≡ t.right_brace → ends_list false (kind_of (b ∷ rest)) ≡ true
  unfolding ends_list
  brace_ends b rest e = sees b rest t.right_brace e

  pub block_in_read : (n m d : ℕ) (st : Reader (Tall Stmt)) → StmtReads n m d st → BlockReads n m (suc d) (block_in form n d st)
  block_in_read n m d st reads _ _ _ _ (braces a b h ss w ka i kb) le long rest =
      let len = length-append w (b ∷ []) in
      rw append_assoc (block_step n d st a b ss h (w ++ b ∷ rest) rest ka kb (list_read n m d st reads false false h ss w i (omega arith) (omega arith) (b ∷ rest) (brace_ends b rest kb) refl))
