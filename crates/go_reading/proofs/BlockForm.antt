-- What is proved of the reader of blocks.
use Rattle.std.proofs.Common.{◌≡◌, ℕ, ◌≤◌, ◌<◌, List, ◌++◌, length, Ok, arith}
use Rattle.go_ast.specs.declared.block.Block.{Block}
use Rattle.go_grammar.specs.Words.{Word}
use Rattle.go_grammar.specs.Blocks.{IsBlock}
use Rattle.go_reading.specs.declared.fault.Fault.{Fault}
use Rattle.go_reading.specs.declared.fault.Fault.TheVariants.{TooDeep, TooMany}
use Rattle.go_reading.specs.declared.header.Braced.{Braced}
use Rattle.go_reading.specs.Input.{Tall}
use Rattle.go_reading.specs.Stmts.{block}
use Rattle.go_reading.proofs.Good.{Room, ◌⊑◌, Form, Good, Rises}
use Rattle.go_reading.proofs.Clauses.{block_rises}
use Rattle.go_grammar.specs.declared.form.Form.{Form as TextForm}

module _ (form : TextForm) where
  -- a block and its end
  abbrev pub BlockOf : Form (Tall Braced)
  BlockOf b x w = IsBlock form b.1 x.1 x.0.block x.0.end w × (x.1 ≤ b.0)

  pub block_of_rises : Rises BlockOf
  block_of_rises b c le x w s = (block_rises form b.1 c.1 le.1 x.1 x.0.block x.0.end w s.0, let f = s.1 in let l = le.0 in omega arith)

  -- it is good
  abbrev pub BlockGood : (Fault → Type 0) → Type 0
  BlockGood K = (n n' : ℕ) → 1 ≤ n → n ≤ n' → (d d' : Room) → d ⊑ d' → (K TooDeep → d.0 ≡ d'.0) → (K TooMany → d.1 ≡ d'.1) → 1 ≤ d.0 → (ts : List Word) → Good n d K BlockOf (block form n d.1 d.0) (block form n' d'.1 d'.0) ts

  -- it reads what is derived
  abbrev pub BlockRead : Type 0
  BlockRead = (n m d h : ℕ) (b : Block) (end : ℕ) (w : List Word) → IsBlock form m h b end w → h ≤ d → length w < n → (rest : List Word) → block form n m d (w ++ rest) ≡ (Ok (record { block = b; end = end }, h), rest)
