-- The rule of the cells: what holds between any two atomic steps.
use Rattle.std.specs.Prelude.{ℕ, ◌≡◌, ◌+◌, ◌*◌, ◌^◌, ◌%◌, ◌<◌, ◌≤◌, ◌==◌, suc, true, false, if◌then◌else◌, List, [], ◌∷◌, ◌++◌, length, slice_index, drop, Option, Some, None, option_and_then}
use mathlib.Core.Option.{some}
use mathlib.Core.Option as maybe
use lib.ListN.{get_elem?}
use Rattle.atomic_table.specs.Table.{State, Me}
use Rattle.cov_outside.specs.declared.mode.Mode.{Mode}
use Rattle.cov_outside.specs.declared.mode.Mode.TheVariants as mode
use Rattle.go_meaning.specs.declared.event.Event.{Event}
use Rattle.go_meaning.specs.declared.event.Event.TheVariants.{Step, Count}
use Rattle.go_meaning.specs.declared.config.Config.{Config}
use Rattle.go_meaning.specs.Programs.{Parts}
use Rattle.go_meaning.specs.Steps.{due, numbered}
use Rattle.go_meaning.specs.Histories.{replay, IsHistory}
use Rattle.go_meaning.specs.Entries.{is_unit, unit_counts}
use Rattle.go_state.specs.Runs.{RunState}
use Rattle.cov_cells.specs.declared.view.Origin.{Origin}
use Rattle.cov_cells.specs.declared.view.View.{View}
use Rattle.cov_cells.specs.declared.start.Start.{Start}

-- ---- histories

-- the unit at whose counter goroutine g stands after a history
unfoldable pub due_after : Parts → List Event → ℕ → Option ℕ
due_after P h g = option_and_then (λ (c : Config). due P (numbered c g)) (replay P h)

-- the second list goes on from the first
abbrev pub Begins : List Event → List Event → Type 0
Begins a b = (rest : List Event) × (b ≡ a ++ rest)

-- ---- what the cells began with

-- all but the first
abbrev pub behind : List ℕ → List ℕ
behind [] = []
behind (x ∷ xs) = xs

abbrev pub started : Mode → List ℕ → RunState → Origin
started m words run = record { mode = m; words = words; history = run.history; program = run.program; limits = run.limits }

abbrev pub origin_of : Start → Origin
origin_of k = started k.mode (behind k.words.value.items) k.run.value

-- the view of the first seat
abbrev pub first_view : Origin → View
first_view o = record {
  spent = false;
  number = 0;
  counted = [];
  due = None;
  pending = None;
  holding = false;
  taken = o.history;
  given = o.history;
  met = [];
  served = 0;
  made = 0;
  gathered = 0;
  origin = Some o;
}

-- ---- sums over the views

abbrev pub total : {A : Type 0} → (A → ℕ) → List A → ℕ
total f [] = 0
total f (x ∷ xs) = f x + total f xs

-- how often u stands in the list
unfoldable pub times : ℕ → List ℕ → ℕ
times u xs = total (λ x. if x == u then 1 else 0) xs

-- how many counter steps on unit u a seat, and those joined to it, have done
abbrev pub tally : ℕ → View → ℕ
tally u v = times u v.counted

-- 1 where such a step isn't recorded yet
abbrev pub pends : ℕ → View → ℕ
pends u v = is_unit v.pending u

abbrev pub holds_turn : View → ℕ
holds_turn v = if v.holding then 1 else 0

-- how many seats a view stands for: its own and those joined to it
abbrev pub seats_in : View → ℕ
seats_in v = if v.spent then 0 else suc v.gathered

-- ---- words

-- the word of a unit: where it began, and so many counter steps on it
abbrev pub word_after : Mode → ℕ → ℕ → ℕ
word_after mode.Set start steps = if steps == 0 then start else 1
word_after mode.Count start steps = (start + steps) % 2 ^ 32
word_after mode.Atomic start steps = (start + steps) % 2 ^ 32

abbrev pub IsWord : Mode → ℕ → ℕ → ℕ → Type 0
IsWord m start steps word = word % 2 ^ 32 ≡ word_after m start steps

-- ---- the rule

-- A run of these cells: a covered history that begins with the starting one, and room for the whole history.
pub record Fits (o : Origin) (run : RunState) : Type 0 where
  pub program : run.program ≡ o.program
  pub limits : run.limits ≡ o.limits
  pub room : 2 * o.limits.steps + 256 ≤ length run.history + run.spare
  pub covered : IsHistory o.program o.limits.steps run.history
  pub begins : Begins o.history run.history

-- a seat that wasn't joined to another
pub record Live (o : Origin) (history : List Event) (served : ℕ) (v : View) : Type 0 where
  pub origin : v.origin ≡ Some o
  pub pending : (u : ℕ) → v.pending ≡ Some u → (v.due ≡ Some u) × (1 ≤ tally u v)
  pub due : (u : ℕ) → v.due ≡ Some u → due_after o.program history v.number ≡ Some u
  pub number : v.number ≤ served
  pub made : v.number ≡ 0 → v.made ≡ served
  pub given : Begins v.given history
  pub met : Begins v.met history
  pub holder : v.holding ≡ true → (v.taken ≡ history) × (v.served ≡ served)

-- a seat that was
pub record Spent (v : View) : Type 0 where
  pub counted : v.counted ≡ []
  pub due : v.due ≡ None
  pub pending : v.pending ≡ None
  pub holding : v.holding ≡ false

abbrev pub Slots : Type 0
Slots = List (maybe.Option (Option RunState))

-- the slot holds the run, whose history and number of goroutines served these are
abbrev pub IsHome : Origin → List Event → ℕ → Slots → Type 0
IsHome o history served slots = (run : RunState) × (get_elem? slots 0 ≡ some (some (Some run))) × (run.history ≡ history) × (run.served ≡ served) × Fits o run

-- no two seats that are left have one number
abbrev pub Apart : List View → Type 0
Apart views = (i j : ℕ) (v w : View) → get_elem? views i ≡ some v → get_elem? views j ≡ some w → v.spent ≡ false → w.spent ≡ false → v.number ≡ w.number → i ≡ j

-- The rule, for the run's history and the number of its goroutines that are served, which the slot or the holder of the
-- turn has. Word 0 is the turn, word u + 1 that of unit u.
pub record Kept (o : Origin) (s : State (Option RunState) View) : Type 0 where
  pub history : List Event
  pub served : ℕ
  pub starting : length o.words ≡ o.program.units
  pub wide : length s.words ≡ suc o.program.units
  pub one_slot : length s.homes ≡ 1
  -- the turn is how many have it, and at most one has
  pub turn : slice_index s.words 0 ≡ total holds_turn s.views
  pub one : slice_index s.words 0 ≤ 1
  -- where nobody has it the run is in the slot
  pub home : slice_index s.words 0 ≡ 0 → IsHome o history served s.homes
  -- a unit's word is its starting word and all counter steps on it
  pub words : (u : ℕ) → u < o.program.units → IsWord o.mode (slice_index o.words u) (total (tally u) s.views) (slice_index s.words (suc u))
  pub covered : IsHistory o.program o.limits.steps history
  pub begins : Begins o.history history
  -- the history has gained as many counter steps as were done and aren't pending
  pub recorded : (u : ℕ) → unit_counts history u + total (pends u) s.views ≡ unit_counts o.history u + total (tally u) s.views
  pub live : (j : ℕ) (v : View) → get_elem? s.views j ≡ some v → v.spent ≡ false → Live o history served v
  pub spent : (j : ℕ) (v : View) → get_elem? s.views j ≡ some v → v.spent ≡ true → Spent v
  pub apart : Apart s.views
  -- all seats that were made are left or were joined to one that is
  pub gathered : total seats_in s.views ≡ suc served

-- what a seat knows and holds
abbrev pub Known : Type 0
Known = Me (Option RunState) View

-- ---- the end

-- the events that a run has gained
abbrev pub gained : Origin → RunState → List Event
gained o run = drop (length o.history) run.history

-- seat 0 has gathered all others, and nothing is left for it to do
pub record IsLast (v : View) : Type 0 where
  pub number : v.number ≡ 0
  pub gathered : v.gathered ≡ v.made
  pub rests : v.holding ≡ false
  pub done : (v.due ≡ None) × (v.pending ≡ None)
