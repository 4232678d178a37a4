-- An `if` that the grammar derives is read, if its parts are.
use Rattle.std.proofs.Common.{◌≡◌, ℕ, suc, ◌+◌, ◌≤◌, ◌<◌, max, true, false, List, ◌∷◌, ◌++◌, Option, Some, None, length, Ok, refl, append_assoc, arith}
use Rattle.std.proofs.lemmas.List.{length-append}
use Rattle.std.proofs.lemmas.Bool.{le-ltb}
use Rattle.go_ast.specs.declared.expr.Expr.{Expr}
use Rattle.go_ast.specs.declared.block.Stmt.{Stmt}
use Rattle.go_ast.specs.declared.block.StmtForm.TheVariants as statement
use Rattle.go_ast.specs.declared.block.Block.{Block}
use Rattle.go_ast.specs.declared.block.Other.{Other}
use Rattle.go_grammar.specs.Words.{Word}
use Rattle.go_grammar.specs.Terminals as t
use Rattle.go_grammar.specs.Trees.{stmt_node, stmt_end, other_node, hidden_block}
use Rattle.go_grammar.specs.Blocks.{IsIf, if_, IsElse, no_else, else_block, else_if}
use Rattle.go_reading.specs.declared.header.Braced.{Braced}
use Rattle.go_reading.specs.Kinds.{is}
use Rattle.go_reading.specs.Input.{Reader, Tall, kind_of, take_as}
use Rattle.go_reading.specs.Stmts.{header, else_from, if_in}
use Rattle.go_reading.proofs.RowsRead.{is_other}
use Rattle.go_reading.proofs.HeadsRead.{header_read}
use Rattle.go_reading.proofs.DeclsRead.{block_kind}
use Rattle.go_reading.proofs.Stops.{if_kind_of, if_tall, block_tall}
use Rattle.go_reading.proofs.StmtsRead.{BlockReads}
use Rattle.go_grammar.specs.declared.form.Form.{Form as TextForm}

module _ (form : TextForm) where
  -- a reader of an `if` reads what is derived, where no `else` follows
  abbrev pub IfReads : (n m d : ℕ) → Reader (Tall Stmt) → Type 0
  IfReads n m d br = (h : ℕ) (x : Stmt) (w : List Word) → IsIf form m h x w → h ≤ d → length w < n → (rest : List Word) → is (kind_of rest) t.else_word ≡ false → br (w ++ rest) ≡ (Ok (x, h), rest)

  -- and one in a hidden block, which takes a level more
  abbrev pub HiddenReads : (n m d : ℕ) → Reader (Tall Stmt) → Type 0
  HiddenReads n m d hi = (h : ℕ) (x : Stmt) (w : List Word) → IsIf form m h x w → suc h ≤ d → length w < n → (rest : List Word) → is (kind_of rest) t.else_word ≡ false → hi (w ++ rest) ≡ (Ok (x, h), rest)

  module _ (n d : ℕ) (bl : Reader (Tall Braced)) (hi : Reader (Tall Stmt)) where
    no_else_step : (end : ℕ) (rest : List Word) → is (kind_of rest) t.else_word ≡ false → else_from n d bl hi end rest ≡ (Ok (record { other = None; end = end }, 0), rest)
    unfolding else_from
    no_else_step end rest other = rw other refl

    else_block_step : (k : Word) (h end end' : ℕ) (b : Block) (ts rest : List Word) → k.kind ≡ t.else_word → kind_of ts ≡ Some t.left_brace → bl ts ≡ (Ok (record { block = b; end = end' }, h), rest)
        → else_from n d bl hi end (k ∷ ts) ≡ (Ok (record { other = Some (other_node k.span.end b); end = end' }, h), rest)
    unfolding else_from take_as
    else_block_step k h end end' b ts rest kk begins r = rw (kk, is_other (kind_of ts) t.left_brace t.if_word begins refl, r) refl

    else_if_step : (k : Word) (h end : ℕ) (x : Stmt) (ts rest : List Word) → k.kind ≡ t.else_word → kind_of ts ≡ Some t.if_word → 3 ≤ d → hi ts ≡ (Ok (x, h), rest)
        → else_from n d bl hi end (k ∷ ts) ≡ (Ok (record { other = Some (other_node k.span.end (hidden_block k.span.end x)); end = stmt_end x }, h + 1), rest)
    unfolding else_from take_as
    else_if_step k h end x ts rest kk begins some r = rw (kk, begins, le-ltb d 3 some, r) refl

    if_step : (k : Word) (h j l end end' : ℕ) (first : Option Stmt) (test : Expr) (b : Block) (other : Option Other) (ts us vs rest : List Word) → 1 ≤ d → header n d true ts ≡ (Ok (record { first = first; test = Some test }, h), us)
        → bl us ≡ (Ok (record { block = b; end = end }, j), vs) → else_from n d bl hi end vs ≡ (Ok (record { other = other; end = end' }, l), rest)
        → if_in n d bl hi (k ∷ ts) ≡ (Ok (stmt_node k.span.start end' (statement.If first test b other), max h (max j l) + 1), rest)
    unfolding if_in take_as
    if_step k h j l end end' first test b other ts us vs rest some i r o = rw (le-ltb d 1 some, i, r, o) refl

  module _ (n m d : ℕ) (bl : Reader (Tall Braced)) (block_reads : BlockReads form n m d bl) (hi : Reader (Tall Stmt)) (hidden_reads : HiddenReads n m d hi) where
    else_read : (h : ℕ) (o : Option Other) (end end' : ℕ) (w : List Word) → IsElse form m h o end end' w → h ≤ d → length w < n → (rest : List Word) → is (kind_of rest) t.else_word ≡ false
        → else_from n d bl hi end (w ++ rest) ≡ (Ok (record { other = o; end = end' }, h), rest)
    else_read _ _ _ _ _ (no_else end) le long rest other = no_else_step n d bl hi end rest other
    else_read _ _ _ _ _ (else_block k h end end' b w kk i) le long rest other = else_block_step n d bl hi k h end end' b (w ++ rest) rest kk (block_kind form m h b end' w i rest) (block_reads h b end' w i le (omega arith) rest)
    else_read _ _ _ _ _ (else_if k h end x w kk i) le long rest other =
        let some = if_tall form m h x w i in
        else_if_step n d bl hi k h end x (w ++ rest) rest kk (if_kind_of form m h x w i rest) (omega arith) (hidden_reads h x w i (omega arith) (omega arith) rest other)

    pub if_in_read : IfReads n m (suc d) (if_in n d bl hi)
    if_in_read _ _ _ (if_ k l i j c o end end' first test then other u v w z kk p q b e) le long rest last =
        let len = length-append u (v ++ (w ++ z)) in
        let len1 = length-append v (w ++ z) in
        let len2 = length-append w z in
        let some = block_tall form m c then end w b in
        let g : (u ++ (v ++ (w ++ z))) ++ rest ≡ u ++ (v ++ (w ++ (z ++ rest))) = simp append_assoc in
        rw g (if_step n d bl hi k (max i j) c o end end' first test then other (u ++ (v ++ (w ++ (z ++ rest)))) (w ++ (z ++ rest)) (z ++ rest) rest (omega arith)
        (header_read n d true i first u p l j test v q (omega arith) (omega arith) (omega arith) (omega arith) (w ++ (z ++ rest)) (block_kind form m c then end w b (z ++ rest)))
        (block_reads c then end w b (omega arith) (omega arith) (z ++ rest)) (else_read o other end end' z e (omega arith) (omega arith) rest last))
