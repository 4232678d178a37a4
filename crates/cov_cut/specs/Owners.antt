-- The functions of a program that begin up to a list, in order.
use Rattle.std.specs.Prelude.{ℕ, ◌≤◌, ◌<◌, Bool, not, List, length, slice_index_or, codes, bytes_eq}
use Rattle.go_meaning.specs.declared.program.Function.{Function}
use Rattle.go_meaning.specs.Programs.{no_function, owner_from}

-- the function in whose body a list stands is cut
abbrev pub is_cut : List Function → ℕ → Bool
is_cut functions list = not (bytes_eq (owner_from no_function functions list).name (codes "_"))

-- the bodies of the first functions begin up to the list
pub record AllBegun (functions : List Function) (count list : ℕ) : Type 0 where
  pub within : count ≤ length functions
  pub begun : (i : ℕ) (d : Function) → i < count → (slice_index_or functions i d).body ≤ list

-- and that of the next, if there is one, doesn't
pub record HaveBegun (functions : List Function) (count list : ℕ) : Type 0 where
  pub within : count ≤ length functions
  pub begun : (i : ℕ) (d : Function) → i < count → (slice_index_or functions i d).body ≤ list
  pub next : (d : Function) → count < length functions → list < (slice_index_or functions count d).body
