-- `for`, `switch` and `select` that the grammar derives are read, if their parts are.
use Rattle.std.proofs.Common.{◌≡◌, ℕ, suc, ◌+◌, ◌≤◌, ◌<◌, max, List, [], ◌∷◌, ◌++◌, length, Ok, refl, sym, ◌∙◌, append_assoc, arith}
use Rattle.std.proofs.lemmas.List.{length-append}
use Rattle.std.proofs.lemmas.Bool.{le-ltb}
use Rattle.go_ast.specs.declared.block.Stmt.{Stmt}
use Rattle.go_ast.specs.declared.block.StmtForm.TheVariants as statement
use Rattle.go_ast.specs.declared.block.Block.{Block}
use Rattle.go_ast.specs.declared.block.CaseClause.{CaseClause}
use Rattle.go_ast.specs.declared.block.CommClause.{CommClause}
use Rattle.go_grammar.specs.Words.{Word}
use Rattle.go_grammar.specs.Terminals as t
use Rattle.go_grammar.specs.Trees.{stmt_node}
use Rattle.go_grammar.specs.Blocks.{IsBreakable, for_test, for_parts, for_range, switch, select, IsBlock}
use Rattle.go_reading.specs.declared.header.Braced.{Braced}
use Rattle.go_reading.specs.declared.header.Header.{Header}
use Rattle.go_reading.specs.declared.header.ForHead.{ForHead}
use Rattle.go_reading.specs.declared.header.ForHead.TheVariants as f
use Rattle.go_reading.specs.Input.{Reader, Tall, take_as, expect_as}
use Rattle.go_reading.specs.Stmts.{maybe_header, for_head, for_form, cases_from, comms_from, for_in, switch_in, select_in, breakable_in}
use Rattle.go_reading.proofs.RowsRead.{sees, kind_is}
use Rattle.go_reading.proofs.StmtForms.{IsForHead, test_is, parts_are, range_is}
use Rattle.go_reading.proofs.HeadsRead.{maybe_header_read}
use Rattle.go_reading.proofs.ForRead.{for_head_read}
use Rattle.go_reading.proofs.DeclsRead.{block_kind}
use Rattle.go_reading.proofs.Stops.{block_tall}
use Rattle.go_reading.proofs.StmtsRead.{StmtReads, BlockReads}
use Rattle.go_reading.proofs.CasesRead.{cases_read, comms_read}
use Rattle.go_grammar.specs.declared.form.Form.{Form as TextForm}

module _ (form : TextForm) where
  -- a reader of these statements reads what is derived
  abbrev pub BreakReads : (n m d : ℕ) → Reader (Tall Stmt) → Type 0
  BreakReads n m d bk = (h : ℕ) (x : Stmt) (w : List Word) → IsBreakable form m h x w → h ≤ d → length w < n → (rest : List Word) → bk (w ++ rest) ≡ (Ok (x, h), rest)

  -- ---- steps

  module _ (n m d : ℕ) (st : Reader (Tall Stmt)) (bl : Reader (Tall Braced)) where
    for_step : (k : Word) (h j end : ℕ) (x : ForHead) (b : Block) (ts us rest : List Word) → k.kind ≡ t.for_word → 1 ≤ d → for_head n d ts ≡ (Ok (x, h), us) → bl us ≡ (Ok (record { block = b; end = end }, j), rest)
        → breakable_in form n m d st bl (k ∷ ts) ≡ (Ok (stmt_node k.span.start end (for_form x b), max h j + 1), rest)
    unfolding breakable_in for_in take_as
    for_step k h j end x b ts us rest kk some i r = rw (kk, le-ltb d 1 some, i, r) refl

    switch_step : (k a b : Word) (h j : ℕ) (x : Header) (cs : List CaseClause) (ts us rest : List Word) → k.kind ≡ t.switch_word → maybe_header n d ts ≡ (Ok (x, h), a ∷ us) → a.kind ≡ t.left_brace → cases_from form n d st n [] 0 us ≡ (Ok (cs, j), b ∷ rest) → b.kind ≡ t.right_brace
        → breakable_in form n m d st bl (k ∷ ts) ≡ (Ok (stmt_node k.span.start b.span.end (statement.Switch x.first x.test a.span.start cs), max h j + 1), rest)
    unfolding breakable_in switch_in take_as expect_as
    switch_step k a b h j x cs ts us rest kk i ka r kb = rw (kk, i, sees a us t.left_brace ka, r, sees b rest t.right_brace kb) refl

    select_step : (k a b : Word) (j : ℕ) (cs : List CommClause) (us rest : List Word) → k.kind ≡ t.select_word → a.kind ≡ t.left_brace → comms_from form n d st m n [] 0 us ≡ (Ok (cs, j), b ∷ rest) → b.kind ≡ t.right_brace
        → breakable_in form n m d st bl (k ∷ a ∷ us) ≡ (Ok (stmt_node k.span.start b.span.end (statement.Select a.span.start cs), j + 1), rest)
    unfolding breakable_in select_in take_as expect_as
    select_step k a b j cs us rest kk ka r kb = rw (kk, sees a us t.left_brace ka, r, sees b rest t.right_brace kb) refl

  -- ---- what is derived

  module _ (n m d : ℕ) (st : Reader (Tall Stmt)) (reads : StmtReads form n m d st) (bl : Reader (Tall Braced)) (block_reads : BlockReads form n m d bl) where
    for_read : (k : Word) (h j end : ℕ) (x : ForHead) (b : Block) (u v : List Word) → k.kind ≡ t.for_word → IsForHead h x u → IsBlock form m j b end v → h ≤ d → j ≤ d → length u < n → length v < n → (rest : List Word)
        → breakable_in form n m d st bl (k ∷ (u ++ (v ++ rest))) ≡ (Ok (stmt_node k.span.start end (for_form x b), max h j + 1), rest)
    for_read k h j end x b u v kk i ib lh lj lu lv rest =
        let some = block_tall form m j b end v ib in
        for_step n m d st bl k h j end x b (u ++ (v ++ rest)) (v ++ rest) rest kk (omega arith) (for_head_read n d (omega arith) h x u i lh lu (v ++ rest) (block_kind form m j b end v ib rest)) (block_reads j b end v ib lj lv rest)

    pub breakable_in_read : BreakReads n m (suc d) (breakable_in form n m d st bl)
    breakable_in_read _ _ _ (for_test k i j end test body u v kk p b) le long rest =
        let len = length-append u v in
        rw append_assoc (for_read k i j end (f.Test test) body u v kk (test_is i test u p) b (omega arith) (omega arith) (omega arith) (omega arith) rest)
    breakable_in_read _ _ _ (for_parts k a c i j l o end first last test body u v w z kk p ka q kc r b) le long rest =
        let len = length-append u (a ∷ (v ++ c ∷ (w ++ z))) in
        let len1 = length-append v (c ∷ (w ++ z)) in
        let len2 = length-append w z in
        let len3 = length-append u (a ∷ (v ++ c ∷ w)) in
        let len4 = length-append v (c ∷ w) in
        let e : max (max (max i j) l) o ≡ max (max i j) (max l o) = omega arith in
        let g : (u ++ a ∷ (v ++ c ∷ (w ++ z))) ++ rest ≡ (u ++ a ∷ (v ++ c ∷ w)) ++ (z ++ rest) = simp append_assoc in
        rw (sym e, g) (for_read k (max (max i j) l) o end (f.Parts first test last) body (u ++ a ∷ (v ++ c ∷ w)) z kk (parts_are a c i j l first last test u v w p ka q kc r) b (omega arith) (omega arith) (omega arith) (omega arith) rest)
    breakable_in_read _ _ _ (for_range k r l i j end ns over body u v w kk p kr q b) le long rest =
        let len = length-append u (r ∷ (v ++ w)) in
        let len1 = length-append v w in
        let len2 = length-append u (r ∷ v) in
        let g : (u ++ r ∷ (v ++ w)) ++ rest ≡ (u ++ r ∷ v) ++ (w ++ rest) = simp append_assoc in
        rw g (for_read k i j end (f.Range ns over) body (u ++ r ∷ v) w kk (range_is r l i ns over u v p kr q) b (omega arith) (omega arith) (omega arith) (omega arith) rest)
    breakable_in_read _ _ _ (switch k a b i j l first tag cs u v w kk p q ka r kb) le long rest =
        let len = length-append u (v ++ a ∷ (w ++ b ∷ [])) in
        let len1 = length-append v (a ∷ (w ++ b ∷ [])) in
        let len2 = length-append w (b ∷ []) in
        let z : max 0 l ≡ l = omega arith in
        let g : (u ++ (v ++ a ∷ (w ++ b ∷ []))) ++ rest ≡ u ++ (v ++ a ∷ (w ++ b ∷ rest)) = simp append_assoc in
        rw g (switch_step n m d st bl k a b (max i j) l (record { first = first; test = tag }) cs (u ++ (v ++ a ∷ (w ++ b ∷ rest))) (w ++ b ∷ rest) rest kk
        (maybe_header_read n d i first u p j tag v q (omega arith) (omega arith) (omega arith) (omega arith) (a ∷ (w ++ b ∷ rest)) (kind_is a (w ++ b ∷ rest) t.left_brace ka)) ka
        (cases_read form n m d st reads l cs w r (omega arith) (omega arith) n (omega arith) [] 0 (b ∷ rest) (kind_is b rest t.right_brace kb) ∙ rw z refl) kb)
    breakable_in_read _ _ _ (select k a b h cs w kk ka r few kb) le long rest =
        let len = length-append w (b ∷ []) in
        let z : max 0 h ≡ h = omega arith in
        rw append_assoc (select_step n m d st bl k a b h cs (w ++ b ∷ rest) rest kk ka (comms_read form n m d st reads h cs w r (omega arith) (omega arith) n (omega arith) [] 0 (omega arith) (b ∷ rest) (kind_is b rest t.right_brace kb) ∙ rw z refl) kb)
