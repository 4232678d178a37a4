-- What each atomic step asks, and what it tells the seat that does it.
use Rattle.std.specs.Prelude.{ℕ, ◌≡◌, ◌≢◌, ◌+◌, ◌*◌, ◌≤◌, suc, true, false, if◌then◌else◌, nat_lt, List, [], ◌∷◌, ◌++◌, length, option_to_list, Option, Some, None}
use Rattle.atomic_table.specs.Table.{Step}
use Rattle.go_meaning.specs.declared.event.Event.{Event}
use Rattle.go_meaning.specs.declared.event.Event.TheVariants as event
use Rattle.go_meaning.specs.Entries.{count_at}
use Rattle.go_state.specs.Runs.{RunState}
use Rattle.cov_cells.specs.declared.view.Origin.{Origin}
use Rattle.cov_cells.specs.declared.view.View.{View}
use Rattle.cov_cells.specs.Rule.{due_after, Begins, Fits, Known}

-- ---- taking the turn

-- a run of the seat's cells
abbrev pub FitsIn : Option Origin → RunState → Type 0
FitsIn None run = ⊥
FitsIn (Some o) run = Fits o run

-- The run that a seat is handed: it begins with what the seat last gave, and the seat's goroutine stands at its due counter.
pub record IsHanded (v : View) (run : RunState) : Type 0 where
  pub fits : FitsIn v.origin run
  pub begins : Begins v.given run.history
  pub number : v.number ≤ run.served
  pub made : v.number ≡ 0 → v.made ≡ run.served
  pub due : (u : ℕ) → v.due ≡ Some u → due_after run.program run.history v.number ≡ Some u

abbrev pub after_take : View → RunState → View
after_take v run = record v { holding = true; taken = run.history; served = run.served }

abbrev pub Takes : Known → Known → Type 0
Takes m m' = (run : RunState) × (m' ≡ (after_take m.0 run, (0, Some run) ∷ [])) × IsHanded m.0 run

-- the word of the turn was 0, or the step changes nothing
abbrev pub taking : Step (Option RunState) → Known → ℕ → Known → Type 0
taking st m n m' = (n ≡ 0 → Takes m m') × (n ≢ 0 → m' ≡ m)

-- ---- giving the turn

-- the counter steps among events
abbrev pub counter_steps : List Event → List Event
counter_steps [] = []
counter_steps (event.Step g k p q ∷ es) = counter_steps es
counter_steps (event.Count g u ∷ es) = event.Count g u ∷ counter_steps es

-- The run that the holder of the turn may give: it goes on from the history taken, and of counter steps it has gained the
-- seat's pending one alone.
pub record MayGive (v : View) (run : RunState) : Type 0 where
  pub origin : Origin
  pub is : v.origin ≡ Some origin
  pub program : run.program ≡ origin.program
  pub limits : run.limits ≡ origin.limits
  pub served : run.served ≡ v.served
  pub room : 2 * origin.limits.steps + 256 ≤ length run.history + run.spare
  pub added : List Event
  pub begins : run.history ≡ v.taken ++ added
  pub records : counter_steps added ≡ count_at v.pending v.number

abbrev pub after_give : View → RunState → Option ℕ → View
after_give v run due = record v { holding = false; pending = None; due = due; given = run.history }

abbrev pub giving : Step (Option RunState) → Known → ℕ → Known → Type 0
giving st m n m' = (run : RunState) → m.1 ≡ (0, Some run) ∷ [] → m' ≡ (after_give m.0 run (due_after run.program run.history m.0.number), [])

-- ---- counter steps

abbrev pub after_count : View → View
after_count v = record v { counted = v.counted ++ option_to_list v.due; pending = v.due }

abbrev pub counting : Step (Option RunState) → Known → ℕ → Known → Type 0
counting st m n m' = m' ≡ (after_count m.0, m.1)

-- ---- making and joining seats

abbrev pub history_in : Option Origin → List Event
history_in None = []
history_in (Some o) = o.history

-- what a new seat knows
abbrev pub new_view : View → View
new_view v = record {
  spent = false;
  number = suc v.served;
  counted = [];
  due = None;
  pending = None;
  holding = false;
  taken = history_in v.origin;
  given = history_in v.origin;
  met = [];
  served = 0;
  made = 0;
  gathered = 0;
  origin = v.origin;
}

abbrev pub after_split : View → View
after_split v = record v { made = suc v.made; served = suc v.served }

abbrev pub longer : List Event → List Event → List Event
longer a b = if nat_lt (length a) (length b) then b else a

abbrev pub shorter : List Event → List Event → List Event
shorter a b = if nat_lt (length a) (length b) then a else b

abbrev pub after_join : View → View → View
after_join v w = record v { counted = v.counted ++ w.counted; gathered = suc (v.gathered + w.gathered); given = longer v.given w.given; met = shorter v.given w.given }

-- a seat that was joined to another
abbrev pub spent_view : View
spent_view = record {
  spent = true;
  number = 0;
  counted = [];
  due = None;
  pending = None;
  holding = false;
  taken = [];
  given = [];
  met = [];
  served = 0;
  made = 0;
  gathered = 0;
  origin = None;
}

-- a look at the table tells that what the seat met is a beginning of what it gave
abbrev pub looking : Step (Option RunState) → Known → ℕ → Known → Type 0
looking st m n m' = (m' ≡ m) × (length m.0.met ≤ length m.0.given → Begins m.0.met m.0.given)
