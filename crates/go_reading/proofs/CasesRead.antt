-- Clauses that the grammar derives are read, if statements are.
use Rattle.std.proofs.Common.{◌≡◌, ◌||◌, ◌&&◌, ℕ, zero, suc, ◌+◌, ◌≤◌, ◌<◌, max, Bool, true, false, List, [], ◌∷◌, ◌++◌, Option, Some, None, length, Ok, refl, sym, ap, ◌∙◌, append_assoc, arith, nat_le}
use Rattle.std.proofs.lemmas.List.{length-append, append-nil}
use Rattle.std.proofs.lemmas.Bool.{leb-true}
use Rattle.go_ast.specs.declared.expr.Expr.{Expr}
use Rattle.go_ast.specs.declared.block.Stmt.{Stmt}
use Rattle.go_ast.specs.declared.block.Comm.{Comm}
use Rattle.go_ast.specs.declared.block.Comm.TheVariants as comm
use Rattle.go_ast.specs.declared.block.CaseClause.{CaseClause}
use Rattle.go_ast.specs.declared.block.CommClause.{CommClause}
use Rattle.go_grammar.specs.Words.{Word}
use Rattle.go_grammar.specs.Terminals as t
use Rattle.go_grammar.specs.Trees.{case_node, comm_node}
use Rattle.go_grammar.specs.Blocks.{IsCases, no_cases, more_cases, IsCase, case_, default_, IsComms, no_comms, more_comms, IsCommClause, comm_case, comm_default, IsList}
use Rattle.go_reading.specs.Kinds.{is, ends_list}
use Rattle.go_reading.specs.Input.{Reader, Tall, kind_of}
use Rattle.go_reading.specs.Stmts.{begins_clause, case_head, comm_head, list, cases_from, comms_from}
use Rattle.go_reading.proofs.StmtForms.{IsCaseHead, case_is, default_is, IsCommHead, comm_is, none_is}
use Rattle.go_reading.proofs.CommsRead.{case_head_read, comm_head_read}
use Rattle.go_reading.proofs.StmtsRead.{StmtReads, and_false, list_read}
use Rattle.go_grammar.specs.declared.form.Form.{Form as TextForm}

module _ (form : TextForm) where
  -- ---- what comes behind a clause

  clause_begins : (k : Word) (rest : List Word) → k.kind ≡ t.case_word → begins_clause (kind_of (k ∷ rest)) ≡ true
  clause_begins k rest e = rw e refl

  default_begins : (k : Word) (rest : List Word) → k.kind ≡ t.default_word → begins_clause (kind_of (k ∷ rest)) ≡ true
  default_begins k rest e = rw e refl

  brace_begins : (rest : List Word) → kind_of rest ≡ Some t.right_brace → begins_clause (kind_of rest) ≡ false
  brace_begins rest e = rw e refl

  clause_ends : (rest : List Word) → begins_clause (kind_of rest) ≡ true → ends_list true (kind_of rest) ≡ true
  unfolding ends_list
  clause_ends rest b = go (is (kind_of rest) t.right_brace) (is (kind_of rest) t.case_word) (is (kind_of rest) t.default_word) b
    where
      go : (a b c : Bool) → (b || c) ≡ true → (a || b || c) ≡ true
      go true b c e = refl
      go false b c e = e

  brace_ends : (rest : List Word) → kind_of rest ≡ Some t.right_brace → ends_list true (kind_of rest) ≡ true
  unfolding ends_list
  brace_ends rest e = rw e refl

  -- ---- clauses of a switch

  case_parts : (m h : ℕ) (c : CaseClause) (w : List Word) → IsCase form m h c w → (i j : ℕ) × (x : Option (List Expr) × ℕ) × (ss : List Stmt) × (u v : List Word) × IsCaseHead i x u × IsList form m j ss v × (w ≡ u ++ v) × (c ≡ case_node x.0 x.1 ss) × (h ≡ max i j)
  case_parts m _ _ _ (case_ k c h h' es ss w v kk i kc l) = (h, h', (Some es, c.span.start), ss, k ∷ (w ++ c ∷ []), v, case_is k c h es w kk i kc, l, rw append_assoc refl, refl, refl)
  case_parts m _ _ _ (default_ k c h ss v kk kc l) = (0, h, (None, c.span.start), ss, k ∷ c ∷ [], v, default_is k c kk kc, l, refl, refl, omega arith)

  case_begins : (m h : ℕ) (c : CaseClause) (w : List Word) → IsCase form m h c w → (rest : List Word) → begins_clause (kind_of (w ++ rest)) ≡ true
  case_begins m _ _ _ (case_ k c h h' es ss w v kk i kc l) rest = clause_begins k ((w ++ c ∷ v) ++ rest) kk
  case_begins m _ _ _ (default_ k c h ss v kk kc l) rest = default_begins k (c ∷ v ++ rest) kk

  cases_end : (m h : ℕ) (cs : List CaseClause) (w : List Word) → IsCases form m h cs w → (rest : List Word) → kind_of rest ≡ Some t.right_brace → ends_list true (kind_of (w ++ rest)) ≡ true
  cases_end m _ _ _ no_cases rest over = brace_ends rest over
  cases_end m _ _ _ (more_cases h h' c cs w v i r) rest over = rw append_assoc (clause_ends (w ++ (v ++ rest)) (case_begins m h c w i (v ++ rest)))

  case_step : (n d : ℕ) (st : Reader (Tall Stmt)) (k : ℕ) (found : List CaseClause) (h0 h h' : ℕ) (x : Option (List Expr) × ℕ) (ss : List Stmt) (ts us rest : List Word) → begins_clause (kind_of ts) ≡ true → case_head n d ts ≡ (Ok (x, h), us) → list form n d st true false us ≡ (Ok (ss, h'), rest)
      → cases_from form n d st (suc k) found h0 ts ≡ cases_from form n d st k (found ++ case_node x.0 x.1 ss ∷ []) (max h0 (max h h')) rest
  unfolding cases_from
  case_step n d st k found h0 h h' x ss ts us rest b i l = rw (b, i, l) refl

  no_case_step : (n d : ℕ) (st : Reader (Tall Stmt)) (k : ℕ) (found : List CaseClause) (h0 : ℕ) (rest : List Word) → begins_clause (kind_of rest) ≡ false → cases_from form n d st (suc k) found h0 rest ≡ (Ok (found, h0), rest)
  unfolding cases_from
  no_case_step n d st k found h0 rest b = rw b refl

  head_some : (h : ℕ) (x : Option (List Expr) × ℕ) (u : List Word) → IsCaseHead h x u → 1 ≤ length u
  head_some _ _ _ (case_is k c h es w kk i kc) = omega arith
  head_some _ _ _ (default_is k c kk kc) = omega arith

  pub cases_read : (n m d : ℕ) (st : Reader (Tall Stmt)) → StmtReads form n m d st → (h : ℕ) (cs : List CaseClause) (w : List Word) → IsCases form m h cs w → h ≤ d → length w < n → (k : ℕ) → length w < k → (found : List CaseClause) (h0 : ℕ) (rest : List Word) → kind_of rest ≡ Some t.right_brace
      → cases_from form n d st k found h0 (w ++ rest) ≡ (Ok (found ++ cs, max h0 h), rest)
  cases_read n m d st reads _ _ _ no_cases le long zero lt found h0 rest over = absurd (omega arith)
  cases_read n m d st reads _ _ _ no_cases le long (suc k) lt found h0 rest over =
      let z : max h0 0 ≡ h0 = omega arith in
      rw (append-nil, z) (no_case_step n d st k found h0 rest (brace_begins rest over))
  cases_read n m d st reads _ _ _ (more_cases h h' c cs w v i r) le long zero lt found h0 rest over = absurd (omega arith)
  cases_read n m d st reads _ _ _ (more_cases h h' c cs w v i r) le long (suc k) lt found h0 rest over =
      let p = case_parts m h c w i in
      let len = length-append w v in
      let len' = length-append p.4 p.5 in
      let lenw : length w ≡ length (p.4 ++ p.5) = ap length p.8 in
      let some = head_some p.0 p.2 p.4 p.6 in
      let hh : h ≡ max p.0 p.1 = p.10 in
      let mm : max (max h0 (max p.0 p.1)) h' ≡ max h0 (max h h') = omega arith in
      let begun : begins_clause (kind_of (p.4 ++ (p.5 ++ (v ++ rest)))) ≡ true = rw (p.8, append_assoc) at (case_begins m h c w i (v ++ rest)) in
      rw (p.8, append_assoc, append_assoc) (case_step n d st k found h0 p.0 p.1 p.2 p.3 (p.4 ++ (p.5 ++ (v ++ rest))) (p.5 ++ (v ++ rest)) (v ++ rest) begun
      (case_head_read n d p.0 p.2 p.4 p.6 (omega arith) (omega arith) (p.5 ++ (v ++ rest)))
      (list_read form n m d st reads true false p.1 p.3 p.5 p.7 (omega arith) (omega arith) (v ++ rest) (cases_end m h' cs v r rest over) refl)
      ∙ cases_read n m d st reads h' cs v r (omega arith) (omega arith) k (omega arith) (found ++ case_node p.2.0 p.2.1 p.3 ∷ []) (max h0 (max p.0 p.1)) rest over ∙ rw (append_assoc, mm, sym p.9) refl)

  -- ---- clauses of a select

  comm_parts : (m h : ℕ) (c : CommClause) (w : List Word) → IsCommClause form m h c w → (i j : ℕ) × (x : Comm × ℕ) × (ss : List Stmt) × (u v : List Word) × IsCommHead i x u × IsList form m j ss v × (w ≡ u ++ v) × (c ≡ comm_node x.0 x.1 ss) × (h ≡ max i j)
  comm_parts m _ _ _ (comm_case k c h h' x ss w v kk i kc l) = (h, h', (x, c.span.start), ss, k ∷ (w ++ c ∷ []), v, comm_is k c h x w kk i kc, l, rw append_assoc refl, refl, refl)
  comm_parts m _ _ _ (comm_default k c h ss v kk kc l) = (0, h, (comm.Default, c.span.start), ss, k ∷ c ∷ [], v, none_is k c kk kc, l, refl, refl, omega arith)

  comm_begins : (m h : ℕ) (c : CommClause) (w : List Word) → IsCommClause form m h c w → (rest : List Word) → begins_clause (kind_of (w ++ rest)) ≡ true
  comm_begins m _ _ _ (comm_case k c h h' x ss w v kk i kc l) rest = clause_begins k ((w ++ c ∷ v) ++ rest) kk
  comm_begins m _ _ _ (comm_default k c h ss v kk kc l) rest = default_begins k (c ∷ v ++ rest) kk

  comms_end : (m h : ℕ) (cs : List CommClause) (w : List Word) → IsComms form m h cs w → (rest : List Word) → kind_of rest ≡ Some t.right_brace → ends_list true (kind_of (w ++ rest)) ≡ true
  comms_end m _ _ _ no_comms rest over = brace_ends rest over
  comms_end m _ _ _ (more_comms h h' c cs w v i r) rest over = rw append_assoc (clause_ends (w ++ (v ++ rest)) (comm_begins m h c w i (v ++ rest)))

  comm_step : (n m d : ℕ) (st : Reader (Tall Stmt)) (k : ℕ) (found : List CommClause) (h0 h h' : ℕ) (x : Comm × ℕ) (ss : List Stmt) (ts us rest : List Word) → begins_clause (kind_of ts) ≡ true → nat_le m (length found) ≡ false → comm_head n d ts ≡ (Ok (x, h), us)
      → list form n d st true (nat_le m (length found + 1)) us ≡ (Ok (ss, h'), rest)
      → comms_from form n d st m (suc k) found h0 ts ≡ comms_from form n d st m k (found ++ comm_node x.0 x.1 ss ∷ []) (max h0 (max h h')) rest
  unfolding comms_from
  comm_step n m d st k found h0 h h' x ss ts us rest b few i l = rw (b, few, i, l) refl

  no_comm_step : (n m d : ℕ) (st : Reader (Tall Stmt)) (k : ℕ) (found : List CommClause) (h0 : ℕ) (rest : List Word) → begins_clause (kind_of rest) ≡ false → comms_from form n d st m (suc k) found h0 rest ≡ (Ok (found, h0), rest)
  unfolding comms_from
  no_comm_step n m d st k found h0 rest b = rw b refl

  comm_some : (h : ℕ) (x : Comm × ℕ) (u : List Word) → IsCommHead h x u → 1 ≤ length u
  comm_some _ _ _ (comm_is k c h x w kk i kc) = omega arith
  comm_some _ _ _ (none_is k c kk kc) = omega arith

  not_full : (m i : ℕ) → i < m → nat_le m i ≡ false
  not_full m i lt = go (nat_le m i) refl
    where
      go : (b : Bool) → nat_le m i ≡ b → b ≡ false
      go true e = let l = leb-true m i e in absurd (omega arith)
      go false e = refl

  -- where a further clause follows, the number isn't reached
  room_behind : (m m' h : ℕ) (cs : List CommClause) (w : List Word) → IsComms form m' h cs w → (i : ℕ) → i + length cs ≤ m → (rest : List Word) → kind_of rest ≡ Some t.right_brace → (nat_le m i && begins_clause (kind_of (w ++ rest))) ≡ false
  room_behind m m' _ _ _ no_comms i few rest over = rw (brace_begins rest over) (and_false form (nat_le m i))
  room_behind m m' _ _ _ (more_comms h h' c cs w v x r) i few rest over = rw (not_full m i (omega arith)) refl

  pub comms_read : (n m d : ℕ) (st : Reader (Tall Stmt)) → StmtReads form n m d st → (h : ℕ) (cs : List CommClause) (w : List Word) → IsComms form m h cs w → h ≤ d → length w < n → (k : ℕ) → length w < k → (found : List CommClause) (h0 : ℕ) → length found + length cs ≤ m
      → (rest : List Word) → kind_of rest ≡ Some t.right_brace → comms_from form n d st m k found h0 (w ++ rest) ≡ (Ok (found ++ cs, max h0 h), rest)
  comms_read n m d st reads _ _ _ no_comms le long zero lt found h0 few rest over = absurd (omega arith)
  comms_read n m d st reads _ _ _ no_comms le long (suc k) lt found h0 few rest over =
      let z : max h0 0 ≡ h0 = omega arith in
      rw (append-nil, z) (no_comm_step n m d st k found h0 rest (brace_begins rest over))
  comms_read n m d st reads _ _ _ (more_comms h h' c cs w v i r) le long zero lt found h0 few rest over = absurd (omega arith)
  comms_read n m d st reads _ _ _ (more_comms h h' c cs w v i r) le long (suc k) lt found h0 few rest over =
      let p = comm_parts m h c w i in
      let len = length-append w v in
      let len' = length-append p.4 p.5 in
      let lenw : length w ≡ length (p.4 ++ p.5) = ap length p.8 in
      let some = comm_some p.0 p.2 p.4 p.6 in
      let hh : h ≡ max p.0 p.1 = p.10 in
      let mm : max (max h0 (max p.0 p.1)) h' ≡ max h0 (max h h') = omega arith in
      let lenf = length-append found (comm_node p.2.0 p.2.1 p.3 ∷ []) in
      let begun : begins_clause (kind_of (p.4 ++ (p.5 ++ (v ++ rest)))) ≡ true = rw (p.8, append_assoc) at (comm_begins m h c w i (v ++ rest)) in
      rw (p.8, append_assoc, append_assoc) (comm_step n m d st k found h0 p.0 p.1 p.2 p.3 (p.4 ++ (p.5 ++ (v ++ rest))) (p.5 ++ (v ++ rest)) (v ++ rest) begun (not_full m (length found) (omega arith))
      (comm_head_read n d p.0 p.2 p.4 p.6 (omega arith) (omega arith) (p.5 ++ (v ++ rest)))
      (list_read form n m d st reads true (nat_le m (length found + 1)) p.1 p.3 p.5 p.7 (omega arith) (omega arith) (v ++ rest) (comms_end m h' cs v r rest over) (room_behind m m h' cs v r (length found + 1) (omega arith) rest over))
      ∙ comms_read n m d st reads h' cs v r (omega arith) (omega arith) k (omega arith) (found ++ comm_node p.2.0 p.2.1 p.3 ∷ []) (max h0 (max p.0 p.1)) (omega arith) rest over ∙ rw (append_assoc, mm, sym p.9) refl)
