-- The order in which the lists of a program are cut into units.
use Rattle.std.specs.Prelude.{◌≡◌, ℕ, zero, suc, List, [], ◌∷◌, ◌++◌, Option, Some, None, map, length, flat_map}
use Rattle.std.specs.List.{range_with_len}
use Rattle.go_meaning.specs.declared.program.Function.{Function}
use Rattle.go_meaning.specs.declared.node.Node.{Node}
use Rattle.go_meaning.specs.declared.node.NodeForm.{NodeForm}
use Rattle.go_meaning.specs.declared.node.NodeForm.TheVariants as node
use Rattle.go_meaning.specs.declared.node.CaseClause.{CaseClause}
use Rattle.go_meaning.specs.declared.node.CommClause.{CommClause}
use Rattle.go_meaning.specs.Programs.{Parts, list_at}

-- a list, and how many statements around it `break` can leave within its function
pub record Nest : Type 0 where
  pub list : ℕ
  pub marks : ℕ

-- how the nested lists of a list are walked
abbrev pub Walk : Type 0
Walk = ℕ → ℕ → List Nest

abbrev pub nest : ℕ → ℕ → Nest
nest marks n = record { list = n; marks = marks }

-- a list, then those nested in it
abbrev pub one : Walk → ℕ → ℕ → List Nest
one w marks n = nest marks n ∷ w marks n

abbrev pub one_if_any : Walk → ℕ → Option ℕ → List Nest
one_if_any w marks None = []
one_if_any w marks (Some n) = one w marks n

-- all clauses, then those nested in each
abbrev pub clauses : Walk → ℕ → List ℕ → List Nest
clauses w marks ns = map (nest marks) ns ++ flat_map (w marks) ns

-- the lists nested in a statement: those in the body of an `if` come before its `else`
abbrev pub nested_in : Walk → ℕ → NodeForm → List Nest
nested_in w m (node.Block l b) = one w m l
nested_in w m (node.If first e a o) = one w m a ++ one_if_any w m o
nested_in w m (node.For first e last l) = one w (suc m) l
nested_in w m (node.RangeText o r e l) = one w (suc m) l
nested_in w m (node.RangeChannel v e l) = one w (suc m) l
nested_in w m (node.Switch first e cs) = clauses w (suc m) (map (λ (c : CaseClause). c.list) cs)
nested_in w m (node.Select cs) = clauses w (suc m) (map (λ (c : CommClause). c.list) cs)
nested_in w m form = []

-- the lists nested in a list, down to a depth
abbrev pub within : Parts → ℕ → Walk
within P zero marks n = []
within P (suc depth) marks n = flat_map (λ (s : Node). nested_in (within P depth) marks s.form) (list_at P n)

-- The cutting order. No list of a program is nested deeper than there are lists.
abbrev pub cutting_order : Parts → List Nest
cutting_order P = flat_map (λ (f : Function). one (within P (length P.lists)) 0 f.body) P.functions

-- Lists are numbered from 0 in cutting order. So each stands exactly once, as the body of a function or nested in a
-- statement of a list with a smaller number.
abbrev pub AreOrdered : Parts → Type 0
AreOrdered P = map (λ (n : Nest). n.list) (cutting_order P) ≡ range_with_len 0 (length P.lists)
