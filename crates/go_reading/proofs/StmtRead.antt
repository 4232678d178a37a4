-- Statements and blocks that the grammar derives are read.
use Rattle.std.proofs.Common.{◌≡◌, ℕ, zero, suc, ◌+◌, ◌≤◌, ◌<◌, false, true, List, ◌∷◌, ◌++◌, length, Ok, refl, ◌∙◌, arith}
use Rattle.go_ast.specs.declared.token.TokenKind.{TokenKind}
use Rattle.go_ast.specs.declared.token.TokenKind.TheVariants as kind
use Rattle.go_ast.specs.declared.block.Stmt.{Stmt}
use Rattle.go_ast.specs.declared.block.StmtForm.TheVariants as statement
use Rattle.go_grammar.specs.Words.{Word}
use Rattle.go_grammar.specs.Terminals as t
use Rattle.go_grammar.specs.Trees.{name_of, stmt_node, stmt_end}
use Rattle.go_grammar.specs.Blocks.{IsBreakable, constants, variables, simple, nested, branch, breakable, labelled, return_none, return_some, breaks, breaks_to, continues, continues_to, falls, goes, defers, counted}
use Rattle.go_reading.specs.declared.header.Braced.{Braced}
use Rattle.go_reading.specs.Kinds.{same, begins}
use Rattle.go_reading.specs.Input.{Reader, Tall, kind_of}
use Rattle.go_reading.specs.Stmts.{plain_stmt, if_in, breakable_in, stmt_in, stmt, block, breakable as break_at, if_ as if_at, hidden}
use Rattle.go_reading.proofs.BlockForm.{BlockRead}
use Rattle.go_grammar.specs.Blocks.{source}
use Rattle.go_reading.specs.Counters.{Small}
use Rattle.go_reading.specs.Stmts.{or_counter, no_level}
use Rattle.go_reading.proofs.OrRead.{or_unnamed, or_simple, or_label, or_counted}
use Rattle.go_reading.proofs.RowsRead.{kind_is, is_other}
use Rattle.go_reading.proofs.StmtAt.{at_block, at_if, at_break, at_const, at_var, at_return, at_break_word, at_continue, at_fallthrough, at_go, at_defer, at_value}
use Rattle.go_reading.proofs.PlainRead.{plain_read, label_read}
use Rattle.go_reading.proofs.HeadsRead.{simple_begins, simple_tall}
use Rattle.go_reading.proofs.DeclsRead.{block_kind}
use Rattle.go_reading.proofs.ListEnds.{Breaks, is_for, is_switch, is_select}
use Rattle.go_reading.proofs.Stops.{if_kind_of, breaks_kind, block_tall, if_tall, breaks_tall, Stops}
use Rattle.go_reading.proofs.StmtsRead.{StmtReads, BlockReads, block_in_read}
use Rattle.go_reading.proofs.LeafRead.{break_read, break_to_read, continue_read, continue_to_read, fallthrough_read, const_stmt_read, var_stmt_read, return_none_read, return_some_read, go_read, defer_read, nested_read}
use Rattle.go_reading.proofs.BreaksRead.{BreakReads, breakable_in_read}
use Rattle.go_reading.proofs.IfRead.{IfReads, HiddenReads, if_in_read}
use Rattle.go_grammar.specs.declared.form.Form.{Form as TextForm}

module _ (form : TextForm) where
  name_begins : (a : Word) (rest : List Word) → a.kind ≡ kind.Name → begins (kind_of (a ∷ rest)) ≡ true
  unfolding begins
  name_begins a rest e = rw e refl

  -- a label has a level of its own
  labelled_read : (n m d : ℕ) (lb : Reader (Tall Stmt)) → BreakReads form n m d lb → (a c : Word) (h : ℕ) (x : Stmt) (w : List Word) → a.kind ≡ kind.Name → c.kind ≡ t.colon → IsBreakable form m h x w → h ≤ d → length (a ∷ c ∷ w) < n → (rest : List Word)
      → plain_stmt n d lb (a ∷ c ∷ (w ++ rest)) ≡ (Ok (stmt_node a.span.start (stmt_end x) (statement.Label (name_of a) x), h + 1), rest)
  labelled_read n m zero lb labels a c h x w ka kc i le long rest = let s = breaks_tall form m h x w i in absurd (omega arith)
  labelled_read n m (suc d) lb labels a c h x w ka kc i le long rest = label_read n d lb (omega arith) a c ka kc h x (w ++ rest) rest (labels h x w i le (omega arith) rest)

  as_source : (rest : List Word) → Stops form rest → Stops source rest
  as_source rest f = record { ends = f.ends; spec = f.spec; no_value = f.no_value; no_name = f.no_name; no_else = f.no_else; stop = f.stop }

  breaks_unnamed : (k : TokenKind) → Breaks k → same k kind.Name ≡ false
  breaks_unnamed k (is_for e) = rw e refl
  breaks_unnamed k (is_switch e) = rw e refl
  breaks_unnamed k (is_select e) = rw e refl

  module _ (small : Small form) (n m d : ℕ) (bl : Reader (Tall Braced)) (blocks : BlockReads form n m d bl) (br : Reader (Tall Stmt)) (ifs : IfReads form n m (suc d) br) (bk : Reader (Tall Stmt)) (breakables : BreakReads form n m (suc d) bk) (lb : Reader (Tall Stmt)) (labels : BreakReads form n m d lb) where
    stmt_in_read : StmtReads form n m (suc d) (or_counter form (stmt_in n d bl br bk lb))
    stmt_in_read _ _ _ (constants k h end cs w kk i) le long rest f = or_unnamed form (stmt_in n d bl br bk lb) (k ∷ (w ++ rest)) _ (is_other (kind_of (k ∷ (w ++ rest))) t.const_word kind.Name (kind_is k (w ++ rest) t.const_word kk) refl) (at_const n d bl br bk lb (k ∷ (w ++ rest)) (kind_is k (w ++ rest) t.const_word kk) ∙ const_stmt_read form n d k h end cs w i (omega arith) (omega arith) rest f)
    stmt_in_read _ _ _ (variables k h end vs w kk i) le long rest f = or_unnamed form (stmt_in n d bl br bk lb) (k ∷ (w ++ rest)) _ (is_other (kind_of (k ∷ (w ++ rest))) t.var_word kind.Name (kind_is k (w ++ rest) t.var_word kk) refl) (at_var n d bl br bk lb (k ∷ (w ++ rest)) (kind_is k (w ++ rest) t.var_word kk) ∙ var_stmt_read form n d k h end vs w i (omega arith) (omega arith) rest f)
    stmt_in_read _ _ _ (simple h x w i) le long rest f = or_simple form (stmt_in n d bl br bk lb) h x w i rest (as_source rest f) (at_value n d bl br bk lb (w ++ rest) (simple_begins h x w i rest) ∙ plain_read n d lb h x w i le long rest f.ends)
    stmt_in_read _ _ _ (nested h end b w i) le long rest f = or_unnamed form (stmt_in n d bl br bk lb) (w ++ rest) _ (is_other (kind_of (w ++ rest)) t.left_brace kind.Name (block_kind form m h b end w i rest) refl) (at_block n d bl br bk lb (w ++ rest) (block_kind form m h b end w i rest) ∙ nested_read form n d m bl blocks h end b w i (omega arith) long rest)
    stmt_in_read _ _ _ (branch h x w i) le long rest f = or_unnamed form (stmt_in n d bl br bk lb) (w ++ rest) _ (is_other (kind_of (w ++ rest)) t.if_word kind.Name (if_kind_of form m h x w i rest) refl) (at_if n d bl br bk lb (w ++ rest) (if_kind_of form m h x w i rest) ∙ ifs h x w i le long rest f.no_else)
    stmt_in_read _ _ _ (breakable h x w i) le long rest f = let b = breaks_kind form m h x w i rest in or_unnamed form (stmt_in n d bl br bk lb) (w ++ rest) _ (is_other (kind_of (w ++ rest)) b.0 kind.Name b.1 (breaks_unnamed b.0 b.2)) (at_break n d bl br bk lb (w ++ rest) b.0 b.1 b.2 ∙ breakables h x w i le long rest)
    stmt_in_read _ _ _ (labelled a c h x w ka kc i) le long rest f = or_label form (stmt_in n d bl br bk lb) a c w rest (stmt_node a.span.start (stmt_end x) (statement.Label (name_of a) x), h + 1) ka kc (at_value n d bl br bk lb (a ∷ c ∷ (w ++ rest)) (name_begins a (c ∷ (w ++ rest)) ka) ∙ labelled_read n m d lb labels a c h x w ka kc i (omega arith) long rest)
    stmt_in_read _ _ _ (return_none k kk) le long rest f = or_unnamed form (stmt_in n d bl br bk lb) (k ∷ rest) _ (is_other (kind_of (k ∷ rest)) t.return_word kind.Name (kind_is k rest t.return_word kk) refl) (at_return n d bl br bk lb (k ∷ rest) (kind_is k rest t.return_word kk) ∙ return_none_read form n d k rest f)
    stmt_in_read _ _ _ (return_some k h es w kk i) le long rest f = or_unnamed form (stmt_in n d bl br bk lb) (k ∷ (w ++ rest)) _ (is_other (kind_of (k ∷ (w ++ rest))) t.return_word kind.Name (kind_is k (w ++ rest) t.return_word kk) refl) (at_return n d bl br bk lb (k ∷ (w ++ rest)) (kind_is k (w ++ rest) t.return_word kk) ∙ return_some_read form n d k h es w i (omega arith) (omega arith) rest f)
    stmt_in_read _ _ _ (breaks k kk) le long rest f = or_unnamed form (stmt_in n d bl br bk lb) (k ∷ rest) _ (is_other (kind_of (k ∷ rest)) t.break_word kind.Name (kind_is k rest t.break_word kk) refl) (at_break_word n d bl br bk lb (k ∷ rest) (kind_is k rest t.break_word kk) ∙ break_read form k rest f)
    stmt_in_read _ _ _ (breaks_to k a kk ka) le long rest f = or_unnamed form (stmt_in n d bl br bk lb) (k ∷ a ∷ rest) _ (is_other (kind_of (k ∷ a ∷ rest)) t.break_word kind.Name (kind_is k (a ∷ rest) t.break_word kk) refl) (at_break_word n d bl br bk lb (k ∷ a ∷ rest) (kind_is k (a ∷ rest) t.break_word kk) ∙ break_to_read form k a rest ka)
    stmt_in_read _ _ _ (continues k kk) le long rest f = or_unnamed form (stmt_in n d bl br bk lb) (k ∷ rest) _ (is_other (kind_of (k ∷ rest)) t.continue_word kind.Name (kind_is k rest t.continue_word kk) refl) (at_continue n d bl br bk lb (k ∷ rest) (kind_is k rest t.continue_word kk) ∙ continue_read form k rest f)
    stmt_in_read _ _ _ (continues_to k a kk ka) le long rest f = or_unnamed form (stmt_in n d bl br bk lb) (k ∷ a ∷ rest) _ (is_other (kind_of (k ∷ a ∷ rest)) t.continue_word kind.Name (kind_is k (a ∷ rest) t.continue_word kk) refl) (at_continue n d bl br bk lb (k ∷ a ∷ rest) (kind_is k (a ∷ rest) t.continue_word kk) ∙ continue_to_read form k a rest ka)
    stmt_in_read _ _ _ (falls k kk) le long rest f = or_unnamed form (stmt_in n d bl br bk lb) (k ∷ rest) _ (is_other (kind_of (k ∷ rest)) t.fallthrough_word kind.Name (kind_is k rest t.fallthrough_word kk) refl) (at_fallthrough n d bl br bk lb (k ∷ rest) (kind_is k rest t.fallthrough_word kk) ∙ fallthrough_read form k rest)
    stmt_in_read _ _ _ (goes k l h e w kk i) le long rest f = or_unnamed form (stmt_in n d bl br bk lb) (k ∷ (w ++ rest)) _ (is_other (kind_of (k ∷ (w ++ rest))) t.go_word kind.Name (kind_is k (w ++ rest) t.go_word kk) refl) (at_go n d bl br bk lb (k ∷ (w ++ rest)) (kind_is k (w ++ rest) t.go_word kk) ∙ go_read form n d k l h e w i (omega arith) (omega arith) rest f)
    stmt_in_read _ _ _ (defers k l h e w kk i) le long rest f = or_unnamed form (stmt_in n d bl br bk lb) (k ∷ (w ++ rest)) _ (is_other (kind_of (k ∷ (w ++ rest))) t.defer_word kind.Name (kind_is k (w ++ rest) t.defer_word kk) refl) (at_defer n d bl br bk lb (k ∷ (w ++ rest)) (kind_is k (w ++ rest) t.defer_word kk) ∙ defer_read form n d k l h e w i (omega arith) (omega arith) rest f)
    stmt_in_read _ _ _ (counted a var mode count i w e lt fits) le long rest f = or_counted form small var mode count i e lt a w rest fits (stmt_in n d bl br bk lb)

  -- what is read at a depth
  record Level (n m c : ℕ) : Type 0 where
    stmts : StmtReads form n m c (stmt form n m c)
    blocks : BlockReads form n m c (block form n m c)
    breakables : BreakReads form n m c (break_at form n m c)
    ifs : IfReads form n m c (if_at form n m c)
    hiddens : HiddenReads form n m c (hidden form n m c)

  -- where there is no level a statement is a counter
  zero_read : Small form → (n m : ℕ) → StmtReads form n m 0 (or_counter form no_level)
  zero_read small n m _ _ _ (constants k h end cs w kk i) le long rest f = absurd (omega arith)
  zero_read small n m _ _ _ (variables k h end vs w kk i) le long rest f = absurd (omega arith)
  zero_read small n m _ _ _ (simple h x w i) le long rest f = let s = simple_tall h x w i in absurd (omega arith)
  zero_read small n m _ _ _ (nested h end b w i) le long rest f = absurd (omega arith)
  zero_read small n m _ _ _ (branch h x w i) le long rest f = let s = if_tall form m h x w i in absurd (omega arith)
  zero_read small n m _ _ _ (breakable h x w i) le long rest f = let s = breaks_tall form m h x w i in absurd (omega arith)
  zero_read small n m _ _ _ (labelled a c h x w ka kc i) le long rest f = absurd (omega arith)
  zero_read small n m _ _ _ (return_none k kk) le long rest f = absurd (omega arith)
  zero_read small n m _ _ _ (return_some k h es w kk i) le long rest f = absurd (omega arith)
  zero_read small n m _ _ _ (breaks k kk) le long rest f = absurd (omega arith)
  zero_read small n m _ _ _ (breaks_to k a kk ka) le long rest f = absurd (omega arith)
  zero_read small n m _ _ _ (continues k kk) le long rest f = absurd (omega arith)
  zero_read small n m _ _ _ (continues_to k a kk ka) le long rest f = absurd (omega arith)
  zero_read small n m _ _ _ (falls k kk) le long rest f = absurd (omega arith)
  zero_read small n m _ _ _ (goes k l h e w kk i) le long rest f = absurd (omega arith)
  zero_read small n m _ _ _ (defers k l h e w kk i) le long rest f = absurd (omega arith)
  zero_read small n m _ _ _ (counted a var mode count i w e lt fits) le long rest f = or_counted form small var mode count i e lt a w rest fits no_level

  levels : Small form → (n m c : ℕ) → Level n m c
  unfolding stmt
  levels small n m zero = record {
    stmts = zero_read small n m;
    blocks = λ h b end w i le. let s = block_tall form m h b end w i in absurd (omega arith);
    breakables = λ h x w i le. let s = breaks_tall form m h x w i in absurd (omega arith);
    ifs = λ h x w i le. let s = if_tall form m h x w i in absurd (omega arith);
    hiddens = λ h x w i le. absurd (omega arith);
  }
  levels small n m (suc c) =
      let below = levels small n m c in
      let breakables = breakable_in_read form n m c (stmt form n m c) below.stmts (block form n m c) below.blocks in
      let ifs = if_in_read form n m c (block form n m c) below.blocks (hidden form n m c) below.hiddens in
      record {
        stmts = stmt_in_read small n m c (block form n m c) below.blocks (if_in n c (block form n m c) (hidden form n m c)) ifs (breakable_in form n m c (stmt form n m c) (block form n m c)) breakables (break_at form n m c) below.breakables;
        blocks = block_in_read form n m c (stmt form n m c) below.stmts;
        breakables = breakables;
        ifs = ifs;
        hiddens = λ h x w i le long rest no. below.ifs h x w i (omega arith) long rest no;
      }

  -- blocks are read
  pub block_read : Small form → (BlockRead form)
  block_read small n m d h b end w i le long rest = (levels small n m d).blocks h b end w i le long rest
