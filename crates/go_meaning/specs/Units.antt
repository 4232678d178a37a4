-- The units of a program, and the program with its counters. The rule is this project's own, made after the cutting of
-- Go's cover tool: a list is divided after each breaker, and a counter stands before the first statement of each part.
use Rattle.std.specs.Prelude.{ℕ, zero, suc, ◌+◌, Bool, true, false, not, ◌&&◌, cond, List, [], ◌∷◌, Option, Some, None}
use Rattle.go_ast.specs.declared.span.Span.{Span}
use Rattle.go_meaning.specs.declared.node.Simple.{Simple}
use Rattle.go_meaning.specs.declared.node.Simple.TheVariants as simple
use Rattle.go_meaning.specs.declared.node.Node.{Node}
use Rattle.go_meaning.specs.declared.node.NodeForm.{NodeForm}
use Rattle.go_meaning.specs.declared.node.NodeForm.TheVariants as node
use Rattle.go_meaning.specs.Programs.{Parts, is_cut}

-- ---- parts of a list

-- an expression statement that calls the name `panic`
abbrev pub is_panic : Simple → Bool
is_panic (simple.Eval e n b) = b
is_panic s = false

-- a part ends after a breaker
abbrev pub is_breaker : NodeForm → Bool
is_breaker (node.Simple s) = is_panic s
is_breaker (node.Block l b) = true
is_breaker (node.If first e a o) = true
is_breaker (node.For first e last l) = true
is_breaker (node.RangeText o r e l) = true
is_breaker (node.RangeChannel v e l) = true
is_breaker (node.Switch first e cs) = true
is_breaker (node.Select cs) = true
is_breaker (node.Break k) = true
is_breaker (node.Continue k) = true
is_breaker (node.Fallthrough l) = true
is_breaker form = false

-- A part starts where its first statement does and ends at its last statement's brace, so that a block alone makes an
-- empty part, which gives no unit. The first part of a list starts before its first statement, unless that is a block
-- whose brace follows the clause's colon directly.
abbrev pub is_block : NodeForm → Bool
is_block (node.Block l b) = true
is_block form = false

abbrev pub is_at_colon : NodeForm → Bool
is_at_colon (node.Block l b) = b
is_at_colon form = false

-- a unit starts at the first statement of a list, and at a later one where a breaker stands before it
abbrev pub starts_first : NodeForm → Bool
starts_first form = not (is_at_colon form)

abbrev pub starts_later : Bool → NodeForm → Bool
starts_later after_breaker form = after_breaker && not (is_block form)

-- ---- how many units there are

abbrev pub units_from : Bool → List Node → ℕ
units_from b [] = 0
units_from b (n ∷ ns) = cond (starts_later b n.form) (suc (units_from (is_breaker n.form) ns)) (units_from (is_breaker n.form) ns)

-- an empty list is one unit
abbrev pub units_of_list : List Node → ℕ
units_of_list [] = 1
units_of_list (n ∷ ns) = cond (starts_first n.form) (suc (units_from (is_breaker n.form) ns)) (units_from (is_breaker n.form) ns)

-- a list of a function that isn't cut has none
abbrev pub units_in : Bool → List Node → ℕ
units_in false ns = 0
units_in true ns = units_of_list ns

-- the lists from number k on
abbrev pub units_of : (ℕ → Bool) → ℕ → List (List Node) → ℕ
units_of cut k [] = 0
units_of cut k (l ∷ ls) = units_in (cut k) l + units_of cut (suc k) ls

-- ---- the unit whose place this is: where the units of earlier lists are u, and so many of this list stand before

abbrev pub unit_from : ℕ → Bool → List Node → ℕ → Option ℕ
unit_from u b [] i = None
unit_from u b (n ∷ ns) zero = cond (starts_later b n.form) (Some u) None
unit_from u b (n ∷ ns) (suc i) = unit_from (cond (starts_later b n.form) (suc u) u) (is_breaker n.form) ns i

abbrev pub unit_of_list : ℕ → List Node → ℕ → Option ℕ
unit_of_list u [] zero = Some u
unit_of_list u [] (suc i) = None
unit_of_list u (n ∷ ns) zero = cond (starts_first n.form) (Some u) None
unit_of_list u (n ∷ ns) (suc i) = unit_from (cond (starts_first n.form) (suc u) u) (is_breaker n.form) ns i

abbrev pub unit_in : Bool → ℕ → List Node → ℕ → Option ℕ
unit_in false u ns i = None
unit_in true u ns i = unit_of_list u ns i

abbrev pub unit_in_lists : (ℕ → Bool) → ℕ → ℕ → List (List Node) → ℕ → ℕ → Option ℕ
unit_in_lists cut u k [] n i = None
unit_in_lists cut u k (l ∷ ls) zero i = unit_in (cut k) u l i
unit_in_lists cut u k (l ∷ ls) (suc n) i = unit_in_lists cut (u + units_in (cut k) l) (suc k) ls n i

-- the unit of the place (n, i)
unfoldable pub unit_at : Parts → ℕ → ℕ → Option ℕ
unit_at P n i = unit_in_lists (is_cut P) 0 0 P.lists n i

-- ---- the program with its counters

abbrev pub nowhere : Span
nowhere = record { start = 0; end = 0 }

abbrev pub counter : ℕ → Node
counter u = record { span = nowhere; form = node.Count u }

abbrev pub counted_from : ℕ → Bool → List Node → List Node
counted_from u b [] = []
counted_from u b (n ∷ ns) = cond (starts_later b n.form) (counter u ∷ n ∷ counted_from (suc u) (is_breaker n.form) ns) (n ∷ counted_from u (is_breaker n.form) ns)

abbrev pub counted_list : ℕ → List Node → List Node
counted_list u [] = counter u ∷ []
counted_list u (n ∷ ns) = cond (starts_first n.form) (counter u ∷ n ∷ counted_from (suc u) (is_breaker n.form) ns) (n ∷ counted_from u (is_breaker n.form) ns)

abbrev pub counted_in : Bool → ℕ → List Node → List Node
counted_in false u ns = ns
counted_in true u ns = counted_list u ns

abbrev pub counted_lists : (ℕ → Bool) → ℕ → ℕ → List (List Node) → List (List Node)
counted_lists cut u k [] = []
counted_lists cut u k (l ∷ ls) = counted_in (cut k) u l ∷ counted_lists cut (u + units_in (cut k) l) (suc k) ls

-- units are numbered list by list, since lists stand in cutting order
unfoldable pub counted : Parts → Parts
counted P = record P { lists = counted_lists (is_cut P) 0 0 P.lists; units = units_of (is_cut P) 0 P.lists }
