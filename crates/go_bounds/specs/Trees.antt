-- What the tree of a statement holds that a bound speaks of: its counters, and how many clauses each `select` has.
use Rattle.std.specs.Prelude.{ℕ, ◌+◌, ◌<◌, ◌≤◌, List, [], ◌∷◌, ◌++◌, length, flat_map, Option, Some, None}
use Rattle.go_ast.specs.declared.block.Stmt.{Stmt, fold-Stmt}
use Rattle.go_ast.specs.declared.block.StmtForm.TheOpen.{StmtForm-F, Stmt-F, Block-F, Other-F, CaseClause-F, CommClause-F}
use Rattle.go_meaning.specs.Programs.{Parts}
use Rattle.go_bounds.specs.Known.{Each}

pub data Held : Type 0 where
  counter : ℕ → Held
  clauses : ℕ → Held

abbrev pub joined : List (List Held) → List Held
joined hs = flat_map (λ h. h) hs

abbrev pub held_if : Option (List Held) → List Held
held_if None = []
held_if (Some h) = h

abbrev pub Helds : Type 0
Helds = List Held

abbrev pub form_held : StmtForm-F Helds Helds Helds Helds Helds Helds → Helds
form_held (StmtForm-F.Block b) = b
form_held (StmtForm-F.If first e b o) = held_if first ++ b ++ held_if o
form_held (StmtForm-F.For first e last b) = held_if first ++ held_if last ++ b
form_held (StmtForm-F.Range ns e b) = b
form_held (StmtForm-F.Switch first e left cs) = held_if first ++ joined cs
form_held (StmtForm-F.Select left ms) = clauses (length ms) ∷ joined ms
form_held (StmtForm-F.Label n s) = s
form_held (StmtForm-F.Count u) = counter u ∷ []
form_held x = []

abbrev pub block_held : Block-F Helds Helds Helds Helds Helds Helds → Helds
block_held b = joined b.list

abbrev pub case_held : CaseClause-F Helds Helds Helds Helds Helds Helds → Helds
case_held c = joined c.list

abbrev pub comm_held : CommClause-F Helds Helds Helds Helds Helds Helds → Helds
comm_held c = joined c.list

abbrev pub other_held : Other-F Helds Helds Helds Helds Helds Helds → Helds
other_held o = o.block

abbrev pub stmt_held : Stmt-F Helds Helds Helds Helds Helds Helds → Helds
stmt_held s = s.form

unfoldable pub held : Stmt → Helds
held = fold-Stmt Helds Helds Helds Helds Helds Helds form_held block_held case_held comm_held other_held stmt_held

-- A counter of a file whose first unit has a number is that of a unit of the program, and a `select` is short enough.
abbrev pub Fits : Parts → ℕ → Held → Type 0
Fits P first (counter u) = first + u < P.units
Fits P first (clauses n) = n ≤ 1000

abbrev pub AreFit : Parts → ℕ → List Held → Type 0
AreFit P first hs = Each (Fits P first) hs
