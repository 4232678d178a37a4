-- A program as contracts see it, and how its parts are looked up.
use Rattle.std.specs.Prelude.{ℕ, Bool, not, nat_lt, List, [], ◌∷◌, Option, option_map, slice_get, slice_index_or, codes, bytes_eq, if◌then◌else◌}
use Rattle.go_meaning.specs.declared.program.ProgramPackage.{ProgramPackage}
use Rattle.go_meaning.specs.declared.program.Function.{Function}
use Rattle.go_meaning.specs.declared.program.Global.{Global}
use Rattle.go_meaning.specs.declared.node.Node.{Node}
use Rattle.go_meaning.specs.declared.node.NodeForm.{NodeForm}

pub record Parts : Type 0 where
  pub packages : List ProgramPackage
  pub functions : List Function
  -- the lists of statements by their numbers
  pub lists : List (List Node)
  pub globals : List Global
  pub units : ℕ
  pub main : ℕ

abbrev pub list_at : Parts → ℕ → List Node
list_at P n = slice_index_or P.lists n []

abbrev pub form_of : Option Node → Option NodeForm
form_of o = option_map (λ (n : Node). n.form) o

-- the statement at a place: the number of its list, and its index there
abbrev pub form_at : Parts → ℕ → ℕ → Option NodeForm
form_at P n i = form_of (slice_get (list_at P n) i)

-- a function that isn't there
abbrev pub no_function : Function
no_function = record { name = []; params = 0; results = 0; slots = 0; body = 0 }

abbrev pub function_at : Parts → ℕ → Function
function_at P f = slice_index_or P.functions f no_function

-- The function in whose body a list stands: the last whose body's number isn't greater, since the lists of a function are
-- numbered from its body on.
abbrev pub owner_from : Function → List Function → ℕ → Function
owner_from f [] n = f
owner_from f (g ∷ gs) n = if nat_lt n g.body then f else owner_from g gs n

abbrev pub owner_of : Parts → ℕ → Function
owner_of P n = owner_from no_function P.functions n

-- a function that is named `_` isn't cut
abbrev pub is_cut : Parts → ℕ → Bool
is_cut P n = not (bytes_eq (owner_of P n).name (codes "_"))
