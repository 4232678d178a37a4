-- What cutting sees of a file: its lists of statements, where they stand, and where control leaves a statement.
use Rattle.std.specs.Prelude.{ℕ, Bool, true, false, List, [], ◌∷◌, ◌++◌}

-- a statement: the offsets of its first byte, its boundary and its end, and whether it is a breaker
pub record Mark : Type 0 where
  pub start : ℕ
  pub boundary : ℕ
  pub stop : ℕ
  pub breaks : Bool

-- where a list stands
pub data Kind : Type 0 where
  -- between braces at these offsets
  braces : (left right : ℕ) → Kind
  -- between braces, after an `else` that ends at an offset
  else_braces : (after left right : ℕ) → Kind
  -- an `if` directly after an `else` that ends at an offset, and the end of that `if`
  else_if : (after right : ℕ) → Kind
  -- in a clause of a `switch` or `select` with its colon at an offset
  clause : (colon : ℕ) → Kind

mutual
  -- a statement with the lists directly in it, and whether all of these are cut before a statement of them is walked
  pub data Node : Type 0 where
    node : Mark → (together : Bool) → Lists → Node

  pub data Nodes : Type 0 where
    no_node : Nodes
    next_node : Node → Nodes → Nodes

  pub data Lists : Type 0 where
    no_list : Lists
    next_list : Kind → Nodes → Lists → Lists

abbrev pub mark_of : Node → Mark
mark_of (node m together inside) = m

abbrev pub marks : Nodes → List Mark
marks no_node = []
marks (next_node n ns) = mark_of n ∷ marks ns

abbrev pub nodes : List Node → Nodes
nodes [] = no_node
nodes (n ∷ ns) = next_node n (nodes ns)

-- a list of statements to be cut, with its place
pub record Listing : Type 0 where
  pub kind : Kind
  pub statements : List Mark

abbrev pub heads : Lists → List Listing
heads no_list = []
heads (next_list k ns more) = record { kind = k; statements = marks ns } ∷ heads more

-- the lists in the order in which they are cut: a list first, then its statements in order; where lists stand together,
-- all of them first
abbrev mutual
  pub lists_in : Node → List Listing
  lists_in (node m true inside) = heads inside ++ lists_behind inside
  lists_in (node m false inside) = lists_along inside

  pub lists_among : Nodes → List Listing
  lists_among no_node = []
  lists_among (next_node n ns) = lists_in n ++ lists_among ns

  -- in the statements of the lists
  pub lists_behind : Lists → List Listing
  lists_behind no_list = []
  lists_behind (next_list k ns more) = lists_among ns ++ lists_behind more

  -- each list with those in its statements
  pub lists_along : Lists → List Listing
  lists_along no_list = []
  lists_along (next_list k ns more) = record { kind = k; statements = marks ns } ∷ lists_among ns ++ lists_along more
