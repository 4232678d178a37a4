-- What is proved of the readers of statements.
use Rattle.std.proofs.Common.{◌⊎◌, inl, inr, ◌≤◌, arith}
use Rattle.go_ast.specs.declared.block.Stmt.{Stmt}
use Rattle.go_grammar.specs.declared.form.Form.{Form as TextForm}
use Rattle.go_grammar.specs.Blocks.{IsStmt}
use Rattle.go_reading.specs.Input.{Tall}
use Rattle.go_reading.proofs.Good.{Form, Rises}
use Rattle.go_reading.proofs.Clauses.{stmt_rises}
use Rattle.go_reading.proofs.StmtForms.{IsBare, bare_rises}
use Rattle.go_reading.proofs.Opens.{Opens}

module _ (form : TextForm) where
  -- a statement in the room
  abbrev pub StmtIn : Form (Tall Stmt)
  StmtIn b x w = IsStmt form b.1 x.1 x.0 w × (x.1 ≤ b.0)

  pub stmt_in_rises : Rises StmtIn
  stmt_in_rises b c le x w s = (stmt_rises form b.1 c.1 le.1 x.1 x.0 w s.0, let h = s.1 in let l = le.0 in omega arith)

  -- a statement, in the room, or a target alone, or as a counter begins
  abbrev pub Loose : Form (Tall Stmt)
  Loose b x w = IsStmt form b.1 x.1 x.0 w × (((x.1 ≤ b.0) ⊎ IsBare b x.0 w) ⊎ Opens form x.0 w)

  pub loose_rises : Rises Loose
  loose_rises b c le x w s = (stmt_rises form b.1 c.1 le.1 x.1 x.0 w s.0, go s.1)
    where
      go : ((x.1 ≤ b.0) ⊎ IsBare b x.0 w) ⊎ Opens form x.0 w → ((x.1 ≤ c.0) ⊎ IsBare c x.0 w) ⊎ Opens form x.0 w
      go (inl i) = inl (bare_rises b c le x w i)
      go (inr i) = inr i
