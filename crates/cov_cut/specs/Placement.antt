-- Where the parts of a parsed file stand: statements in order and apart, lists inside their statements.
use Rattle.std.specs.Prelude.{ℕ, ◌+◌, ◌-◌, ◌<◌, ◌≤◌, List, [], ◌∷◌}
use Rattle.go_ast.specs.declared.file.File.{File}
use Rattle.go_ast.specs.declared.decl.Func.{Func}
use Rattle.std.specs.List.{flat_map}
use Rattle.cov_cut.specs.Outline.{Mark, Kind, braces, else_braces, else_if, clause, Node, node, Nodes, no_node, next_node, Lists, no_list, next_list, marks}
use Rattle.cov_cut.specs.Outlining.{block_outline, body}
use Rattle.cov_cut.specs.Units.{cut_in}

-- a statement of at least one byte, with its boundary in it
pub record IsMark (m : Mark) : Type 0 where
  pub some : m.start < m.stop
  pub from : m.start ≤ m.boundary
  pub upto : m.boundary ≤ m.stop

-- statements from `low` on and up to `high`, in order, with at least one byte between two of them
abbrev pub AreMarks : ℕ → ℕ → List Mark → Type 0
AreMarks low high [] = Unit {0}
AreMarks low high (m ∷ ms) = (low ≤ m.start) × IsMark m × (m.stop ≤ high) × AreMarks (m.stop + 1) high ms

-- A list stands behind `low` and before `high`. An `else` takes bytes before its list, and a clause before its colon.
abbrev pub IsBetween : ℕ → ℕ → Kind → Type 0
IsBetween low high (braces left right) = (low ≤ left) × (left < right) × (right < high)
IsBetween low high (else_braces after left right) = (low < after) × (after ≤ left) × (left < right) × (right < high)
IsBetween low high (else_if after right) = (low < after) × (after < right) × (right ≤ high)
IsBetween low high (clause colon) = (low < colon) × (colon + 1 < high)

-- where its statements begin at the earliest
abbrev pub first_offset : Kind → ℕ
first_offset (braces left right) = left + 1
first_offset (else_braces after left right) = left + 1
first_offset (else_if after right) = after + 1
first_offset (clause colon) = colon + 1

-- and where they end at the latest, if the statement around them ends at `high`: a clause before the last brace
abbrev pub last_offset : ℕ → Kind → ℕ
last_offset high (braces left right) = right
last_offset high (else_braces after left right) = right
last_offset high (else_if after right) = right
last_offset high (clause colon) = high - 1

-- where the last statement ends, and `low` if there is none
abbrev pub last_stop : ℕ → List Mark → ℕ
last_stop low [] = low
last_stop low (m ∷ ms) = last_stop m.stop ms

-- where a list ends
abbrev pub list_stop : Kind → List Mark → ℕ
list_stop (braces left right) ms = right + 1
list_stop (else_braces after left right) ms = right + 1
list_stop (else_if after right) ms = right
list_stop (clause colon) ms = last_stop (colon + 1) ms

abbrev mutual
  -- the lists in a statement
  pub IsNode : Node → Type 0
  IsNode (node m together inside) = AreLists m.start m.stop inside

  pub AreNodes : Nodes → Type 0
  AreNodes no_node = Unit {0}
  AreNodes (next_node n ns) = IsNode n × AreNodes ns

  -- lists between `low` and `high`, each behind the one before
  pub AreLists : ℕ → ℕ → Lists → Type 0
  AreLists low high no_list = Unit {0}
  AreLists low high (next_list k ns more) =
      IsBetween low high k × AreMarks (first_offset k) (last_offset high k) (marks ns) × AreNodes ns × AreLists (list_stop k (marks ns)) high more

-- a function's body in its span
abbrev pub IsFunc : Func → Type 0
IsFunc f = AreLists f.span.start f.span.end (body (block_outline f.body) no_list)

abbrev pub AreFuncs : ℕ → List Func → Type 0
AreFuncs low [] = Unit {0}
AreFuncs low (f ∷ fs) = (low ≤ f.span.start) × IsFunc f × AreFuncs f.span.end fs

-- the functions that are cut, in order
abbrev pub IsPlaced : File → Type 0
IsPlaced file = AreFuncs 0 (flat_map cut_in file.decls)
