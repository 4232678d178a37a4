-- What is accepted uses only what is there.
use Rattle.std.specs.Prelude.{◌≡◌, ℕ, ◌≤◌, ◌<◌, List, length, flat_map, sum_by, Ok}
use Rattle.go_ast.specs.declared.expr.Expr.{Expr}
use Rattle.go_ast.specs.declared.block.Block.{out-Block}
use Rattle.go_ast.specs.declared.block.Stmt.{Stmt}
use Rattle.go_ast.specs.declared.decl.Func.{Func}
use Rattle.go_meaning.specs.declared.program.Function.{Function}
use Rattle.go_meaning.specs.declared.program.ProgramPackage.{ProgramPackage}
use Rattle.go_meaning.specs.Programs.{Parts}
use Rattle.go_meaning.specs.Lists.{one, within}
use Rattle.go_meaning.specs.WellFormed.{IsProgram}
use Rattle.go_types.specs.declared.names.Names.{Names}
use Rattle.go_types.specs.declared.names.Marks.{Marks}
use Rattle.go_types.specs.declared.operand.Part.{Part}
use Rattle.go_types.specs.declared.walk.Walk.{Walk}
use Rattle.go_types.specs.Expressions.{check}
use Rattle.go_types.specs.Bodies.{body}
use Rattle.go_bounds.specs.Known.{AreKnown, IsOperand}
use Rattle.go_bounds.specs.Trees.{held, AreFit}
use Rattle.go_bounds.specs.Pieces.{Stand, Holds, Adds, FunctionsStand}
use Rattle.go_bodies.specs.Functions.{function, params_of}

-- an expression among names that are known computes with what is there
abbrev pub ExpressionsAreThere : Type 0
ExpressionsAreThere =
    (P : Parts) (slots : ℕ) (e : Expr) (names : Names) (marks : Marks) (r : Part × Marks) → AreKnown P slots names → check e names marks ≡ Ok r → IsOperand P slots r.0.operand

-- the lists that the statements of a body add stand in a program that has them, with as many slots as the body declares
pub record BodyStands (P : Parts) (s : Walk) (l : ℕ) (t : Walk) : Type 0 where
  pub adds : Adds s t
  pub known : AreKnown P (length t.declared) t.names
  pub slots : length s.declared ≤ length t.declared
  pub stands : (slots : ℕ) → length t.declared ≤ slots → Holds P (length s.lists) t → Stand P slots (length s.lists) (one (within P (length P.lists)) 0 l) (length t.lists)

abbrev pub BodiesStand : Type 0
BodiesStand =
    (P : Parts) (ss : List Stmt) (s : Walk) (r : ℕ × Walk) → AreKnown P (length s.declared) s.names → length s.around ≡ 0 → AreFit P s.first_unit (flat_map held ss)
    → body ss s ≡ Ok r → BodyStands P s r.0 r.1

-- a function that is checked leaves the names as they were, and adds its lists
pub record FunctionAdds (P : Parts) (s : Walk) (f : Function) (t : Walk) : Type 0 where
  pub adds : Adds s t
  pub names : t.names ≡ s.names
  pub params : f.params ≤ f.slots
  pub stands : Holds P (length s.lists) t → Stand P f.slots (length s.lists) (one (within P (length P.lists)) 0 f.body) (length t.lists)

-- where its signature has its parameters, and no name means a slot of another function
abbrev pub FunctionsAdd : Type 0
FunctionsAdd =
    (P : Parts) (f : Func) (n : ℕ) (s : Walk) (r : Function × Walk) → AreKnown P 0 s.names → length f.params ≤ length (params_of n s)
    → AreFit P s.first_unit (flat_map held (out-Block f.body).list) → function f n s ≡ Ok r → FunctionAdds P s r.0 r.1

-- what functions add one behind the other, from the first list to the last, is a program
abbrev pub FunctionsMakeProgram : Type 0
FunctionsMakeProgram =
    (P : Parts) → FunctionsStand P 0 P.functions (length P.lists) → P.main < length P.functions → sum_by (λ (p : ProgramPackage). p.functions) P.packages ≡ length P.functions → IsProgram P
