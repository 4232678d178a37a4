-- Programs, configurations and events without counters.
use Rattle.std.specs.Prelude.{◌≡◌, ℕ, zero, suc, Bool, true, false, cond, List, [], ◌∷◌, map}
use Rattle.go_meaning.specs.declared.node.Node.{Node}
use Rattle.go_meaning.specs.declared.node.NodeForm.{NodeForm}
use Rattle.go_meaning.specs.declared.node.NodeForm.TheVariants as node
use Rattle.go_meaning.specs.declared.item.Item.{Item}
use Rattle.go_meaning.specs.declared.item.Item.TheVariants.{Run, Loop, Test, Next, Each, Pull, Match, Compare, Pick}
use Rattle.go_meaning.specs.declared.event.Event.{Event}
use Rattle.go_meaning.specs.declared.event.Event.TheVariants.{Step, Count}
use Rattle.go_meaning.specs.declared.config.Frame.{Frame}
use Rattle.go_meaning.specs.declared.config.Goroutine.{Goroutine}
use Rattle.go_meaning.specs.declared.config.Config.{Config}
use Rattle.go_meaning.specs.Programs.{Parts, list_at}

-- ---- programs

abbrev pub is_count : NodeForm → Bool
is_count (node.Count u) = true
is_count form = false

abbrev pub drop_counts : List Node → List Node
drop_counts [] = []
drop_counts (n ∷ ns) = cond (is_count n.form) (drop_counts ns) (n ∷ drop_counts ns)

abbrev pub erase_program : Parts → Parts
erase_program Q = record Q { lists = map drop_counts Q.lists; units = 0 }

abbrev pub IsPlainList : List Node → Type 0
IsPlainList [] = Unit {0}
IsPlainList (n ∷ ns) = (is_count n.form ≡ false) × IsPlainList ns

abbrev pub ArePlain : List (List Node) → Type 0
ArePlain [] = Unit {0}
ArePlain (l ∷ ls) = IsPlainList l × ArePlain ls

-- a program has no counters and no units
pub record IsUncounted (P : Parts) : Type 0 where
  pub lists : ArePlain P.lists
  pub units : P.units ≡ 0

-- ---- configurations: each place becomes that of the same statement in the program without counters

-- how many of the statements before an index are no counters
abbrev pub place_in : List Node → ℕ → ℕ
place_in ns zero = 0
place_in [] (suc i) = 0
place_in (n ∷ ns) (suc i) = cond (is_count n.form) (place_in ns i) (suc (place_in ns i))

abbrev pub place_of : Parts → ℕ → ℕ → ℕ
place_of Q n i = place_in (list_at Q n) i

abbrev pub erase_item : Parts → Item → Item
erase_item Q (Run n i) = Run n (place_of Q n i)
erase_item Q (Loop n i) = Loop n (place_of Q n i)
erase_item Q (Test n i) = Test n (place_of Q n i)
erase_item Q (Next n i) = Next n (place_of Q n i)
erase_item Q (Each n i) = Each n (place_of Q n i)
erase_item Q (Pull n i) = Pull n (place_of Q n i)
erase_item Q (Match n i k) = Match n (place_of Q n i) k
erase_item Q (Compare n i k) = Compare n (place_of Q n i) k
erase_item Q (Pick n i) = Pick n (place_of Q n i)
erase_item Q item = item

abbrev pub erase_frame : Parts → Frame → Frame
erase_frame Q f = record f { control = map (erase_item Q) f.control }

abbrev pub erase_goroutine : Parts → Goroutine → Goroutine
erase_goroutine Q go = record { begin = go.begin; frames = map (erase_frame Q) go.frames }

abbrev pub erase_config : Parts → Config → Config
erase_config Q c = record c { goroutines = map (erase_goroutine Q) c.goroutines }

-- ---- events

abbrev pub erase_events : List Event → List Event
erase_events [] = []
erase_events (Step g k p q ∷ es) = Step g k p q ∷ erase_events es
erase_events (Count g u ∷ es) = erase_events es
