-- The entries of units, and the counter events that stand for them.
use Rattle.std.specs.Prelude.{ℕ, ◌+◌, ◌||◌, ◌&&◌, ◌==◌, nat_lt, List, [], ◌∷◌, ◌++◌, Option, Some, None, if◌then◌else◌}
use Rattle.go_meaning.specs.declared.item.Item.{Item}
use Rattle.go_meaning.specs.declared.item.Item.TheVariants.{Run}
use Rattle.go_meaning.specs.declared.event.Event.{Event}
use Rattle.go_meaning.specs.declared.event.Event.TheVariants.{Step, Count}
use Rattle.go_meaning.specs.declared.config.Call.{Call}
use Rattle.go_meaning.specs.declared.config.Frame.{Frame}
use Rattle.go_meaning.specs.declared.config.Goroutine.{Goroutine}
use Rattle.go_meaning.specs.declared.config.Config.{Config}
use Rattle.go_meaning.specs.Programs.{Parts}
use Rattle.go_meaning.specs.Units.{unit_at}
use Rattle.go_meaning.specs.Steps.{step, due, numbered}
use Rattle.go_meaning.specs.Histories.{start, replay}

-- ---- entries

abbrev pub unit_of_control : Parts → List Item → Option ℕ
unit_of_control P (Run n i ∷ is) = unit_at P n i
unit_of_control P is = None

abbrev pub unit_of_frames : Parts → Option Call → List Frame → Option ℕ
unit_of_frames P (Some call) fs = None
unit_of_frames P None [] = None
unit_of_frames P None (f ∷ fs) = unit_of_control P f.control

-- the unit whose place is the head of a goroutine's control
abbrev pub unit_of : Parts → Option Goroutine → Option ℕ
unit_of P None = None
unit_of P (Some go) = unit_of_frames P go.begin go.frames

-- 1 for that unit, 0 for another or none
abbrev pub is_unit : Option ℕ → ℕ → ℕ
is_unit None u = 0
is_unit (Some w) u = if w == u then 1 else 0

-- how often a program step of goroutines a and b that has led to c has entered unit u, for goroutine g
abbrev pub entered : Parts → Config → ℕ → ℕ → ℕ → ℕ → ℕ
entered P c a b g u = if (g == a) || (g == b) then is_unit (unit_of P (numbered c g)) u else 0

abbrev pub entered_by : Parts → Event → ℕ → ℕ → (Config → ℕ) → Option Config → ℕ
entered_by P e g u rest None = 0
entered_by P (Step a k b q) g u rest (Some d) = entered P d a b g u + rest d
entered_by P (Count a w) g u rest (Some d) = rest d

unfoldable pub entries_from : Parts → Config → List Event → ℕ → ℕ → ℕ
entries_from P c [] g u = 0
entries_from P c (e ∷ es) g u = entered_by P e g u (λ d. entries_from P d es g u) (step P c e)

-- the entries of unit u by goroutine g
abbrev pub entries : Parts → List Event → ℕ → ℕ → ℕ
entries P h g u = entries_from P (start P) h g u

-- by all goroutines: those of an event differ
abbrev pub entered_by_both : Parts → Config → ℕ → ℕ → ℕ → ℕ
entered_by_both P c a b u = is_unit (unit_of P (numbered c a)) u + is_unit (unit_of P (numbered c b)) u

abbrev pub unit_entered_by : Parts → Event → ℕ → (Config → ℕ) → Option Config → ℕ
unit_entered_by P e u rest None = 0
unit_entered_by P (Step a k b q) u rest (Some d) = entered_by_both P d a b u + rest d
unit_entered_by P (Count a w) u rest (Some d) = rest d

unfoldable pub unit_entries_from : Parts → Config → List Event → ℕ → ℕ
unit_entries_from P c [] u = 0
unit_entries_from P c (e ∷ es) u = unit_entered_by P e u (λ d. unit_entries_from P d es u) (step P c e)

-- the entries of unit u
abbrev pub unit_entries : Parts → List Event → ℕ → ℕ
unit_entries P h u = unit_entries_from P (start P) h u

-- ---- counter events

-- those of unit u by goroutine g
abbrev pub counts_in : List Event → ℕ → ℕ → ℕ
counts_in [] g u = 0
counts_in (Step a k b q ∷ es) g u = counts_in es g u
counts_in (Count a w ∷ es) g u = (if (a == g) && (w == u) then 1 else 0) + counts_in es g u

-- those of unit u
abbrev pub unit_counts : List Event → ℕ → ℕ
unit_counts [] u = 0
unit_counts (Step a k b q ∷ es) u = unit_counts es u
unit_counts (Count a w ∷ es) u = (if w == u then 1 else 0) + unit_counts es u

-- 1 if goroutine g stands at the counter of unit u, else 0
abbrev pub stands_in : Parts → Config → ℕ → ℕ → ℕ
stands_in P c g u = is_unit (due P (numbered c g)) u

abbrev pub stands_at : Parts → Option Config → ℕ → ℕ → ℕ
stands_at P None g u = 0
stands_at P (Some c) g u = stands_in P c g u

-- after a history
abbrev pub stands : Parts → List Event → ℕ → ℕ → ℕ
stands P h g u = stands_at P (replay P h) g u

-- ---- a covered history for a history

abbrev pub count_at : Option ℕ → ℕ → List Event
count_at None g = []
count_at (Some u) g = Count g u ∷ []

-- a counter event for each entry of a program step of goroutines a and b that has led to c, in the order of goroutines
abbrev pub counts_after : Parts → Config → ℕ → ℕ → List Event
counts_after P c a b =
    if nat_lt a b then count_at (unit_of P (numbered c a)) a ++ count_at (unit_of P (numbered c b)) b else count_at (unit_of P (numbered c b)) b ++ count_at (unit_of P (numbered c a)) a

abbrev pub woven_by : Parts → Event → (Config → List Event) → Option Config → List Event
woven_by P e rest None = []
woven_by P (Step a k b q) rest (Some d) = counts_after P d a b ++ rest d
woven_by P (Count g u) rest (Some d) = rest d

unfoldable pub woven_from : Parts → Config → List Event → List Event
woven_from P c [] = []
woven_from P c (e ∷ es) = e ∷ woven_by P e (λ d. woven_from P d es) (step P c e)

-- each event is followed by a counter event for each entry that it makes
abbrev pub weave : Parts → List Event → List Event
weave P h = woven_from P (start P) h
