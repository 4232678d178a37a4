-- The parts of a `for`, which are filled in one after the other.
use Rattle.std.specs.Prelude.{◌≡◌, ℕ, Option, Result, Ok, Err}
use Rattle.go_ast.specs.declared.block.Block.{Block}
use Rattle.go_ast.specs.declared.block.Other.{Other}
use Rattle.go_ast.specs.declared.block.CaseClause.{CaseClause}
use Rattle.go_ast.specs.declared.block.CommClause.{CommClause}
use Rattle.go_ast.specs.declared.block.Stmt.{Stmt}
use Rattle.go_ast.specs.declared.block.StmtForm.{StmtForm}
use Rattle.go_ast.specs.declared.block.StmtForm.TheOpen.{StmtForm-F}
use Rattle.go_meaning.specs.declared.node.NodeForm.{NodeForm}
use Rattle.go_meaning.specs.declared.node.NodeForm.TheVariants as node
use Rattle.go_types.specs.declared.fault.Refusal.{Refusal}
use Rattle.go_types.specs.declared.fault.Refusal.TheVariants.{At, NoMemory}
use Rattle.go_types.specs.declared.walk.Walk.{Walk}
use Rattle.go_types.specs.Checking.{Checked}
use Rattle.go_types.specs.Bodies.{first_of, check_stmt, block_parts, last_part, repeated, for_parts}
use Rattle.go_bodies.specs.declared.parts.ForParts.{ForParts}

abbrev pub Form : Type 0
Form = StmtForm-F StmtForm Block CaseClause CommClause Other Stmt

abbrev pub for_node : ForParts → NodeForm
for_node p = node.For p.first p.test p.last p.body

-- the parts are those of what is checked, unless memory ran out
abbrev pub Fills : Checked (NodeForm × Walk) → Result (Unit {0}) Refusal → ForParts → Walk → Type 0
Fills checked (Ok u) parts new = checked ≡ Ok (for_node parts, new)
Fills checked (Err (At f)) parts new = checked ≡ Err f
Fills checked (Err NoMemory) parts new = Unit {0}

-- the same of a `for`; of any other form nothing is said
abbrev pub FillsFor : Option ℕ → Form → Walk → Result (Unit {0}) Refusal → ForParts → Walk → Type 0
FillsFor label (StmtForm-F.For first e last b) old result parts new =
    Fills (for_parts e (first_of Stmt check_stmt first) (last_part (first_of Stmt check_stmt last)) (repeated label (block_parts b).list) old) result parts new
FillsFor label x old result parts new = Unit {0}
