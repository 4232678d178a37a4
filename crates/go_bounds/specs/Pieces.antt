-- The lists of a program that a piece of it adds: they stand in cutting order, and each of their statements uses what is
-- there.
use Rattle.std.specs.Prelude.{◌≡◌, ℕ, suc, ◌≤◌, ◌<◌, List, [], ◌∷◌, length, slice_index_or}
use Rattle.go_meaning.specs.declared.node.Node.{Node}
use Rattle.go_meaning.specs.declared.node.NodeForm.{NodeForm}
use Rattle.go_meaning.specs.Programs.{Parts}
use Rattle.go_meaning.specs.declared.program.Function.{Function}
use Rattle.go_meaning.specs.Lists.{Nest, one, within}
use Rattle.go_meaning.specs.WellFormed.{AreThere, IsWithin, uses_of_form}
use Rattle.go_types.specs.declared.walk.Walk.{Walk}
use Rattle.go_bounds.specs.Known.{Each}

module _ (P : Parts) (slots : ℕ) where
  -- a statement around which `break` can leave so many
  pub record IsSound (marks : ℕ) (form : NodeForm) : Type 0 where
    pub uses : AreThere P slots (uses_of_form form)
    pub within : IsWithin P marks form

  abbrev pub AreSound : ℕ → List Node → Type 0
  AreSound marks ns = Each (λ (n : Node). IsSound marks n.form) ns

  -- lists are numbered from one number up to another, and their statements are sound
  abbrev pub Stand : ℕ → List Nest → ℕ → Type 0
  Stand from [] to = from ≡ to
  Stand from (n ∷ ns) to = (n.list ≡ from) × AreSound n.marks (slice_index_or P.lists n.list []) × Stand (suc from) ns to

-- the program has the lists that checking has made from a number on
pub record Holds (P : Parts) (from : ℕ) (t : Walk) : Type 0 where
  pub bound : length t.lists ≤ length P.lists
  pub lists : (n : ℕ) → from ≤ n → n < length t.lists → slice_index_or P.lists n [] ≡ slice_index_or t.lists n []

-- from one walk to another lists are added behind those that are there, which stay
pub record Adds (s t : Walk) : Type 0 where
  pub longer : length s.lists ≤ length t.lists
  pub kept : (n : ℕ) → n < length s.lists → slice_index_or t.lists n [] ≡ slice_index_or s.lists n []
  pub unit : t.first_unit ≡ s.first_unit

-- The lists of functions stand one behind the other, and each function has as many slots as its parameters.
abbrev pub FunctionsStand : (P : Parts) → ℕ → List Function → ℕ → Type 0
FunctionsStand P from [] to = from ≡ to
FunctionsStand P from (f ∷ fs) to =
    (mid : ℕ) × (f.params ≤ f.slots) × Stand P f.slots from (one (within P (length P.lists)) 0 f.body) mid × FunctionsStand P mid fs to
