-- One goroutine of a configuration, taken out while its act is done.
use Rattle.std.specs.Prelude.{◌≡◌, ℕ, ◌<◌, Bool, true, false, List, [], ◌∷◌, ◌++◌, length, reverse, take, slice_get, slice_set, Option, Some, None, option_map, Result, Ok, Err}
use Rattle.std.specs.declared.alloc.AllocError.{AllocError}
use Rattle.go_meaning.specs.declared.act.Act.{Act}
use Rattle.go_meaning.specs.declared.config.Call.{Call}
use Rattle.go_meaning.specs.declared.config.Frame.{Frame}
use Rattle.go_meaning.specs.declared.config.Goroutine.{Goroutine}
use Rattle.go_meaning.specs.declared.config.Config.{Config}
use Rattle.go_meaning.specs.Programs.{Parts}
use Rattle.go_meaning.specs.Fitting.{IsFitting}
use Rattle.go_meaning.specs.Moves.{Move, running, started}
use Rattle.go_meaning.specs.Steps.{arrive}
use Rattle.go_step.specs.Puts.{consumed, put_frames}

-- with other goroutines
abbrev pub holed : List Goroutine → Config → Config
holed gs c = record c { goroutines = gs }

abbrev pub holed_move : List Goroutine → Move → Move
holed_move gs m = record m { world = holed gs m.world }

-- the goroutines that an act started come after the others
abbrev pub joined : Move → Config
joined m = record m.world { goroutines = m.world.goroutines ++ m.born }

-- the act fits the frame that runs
abbrev pub FitsFrames : Act → Config → List Frame → Type 0
FitsFrames a c [] = ⊥
FitsFrames a c (f ∷ fs) = (0 < length f.control) × IsFitting a c f.stack

-- An act of the goroutine with this index and these frames leaves other frames and another configuration, or has no step.
-- A started goroutine comes after the others.
abbrev pub JoinsFrames : Parts → Config → ℕ → List Frame → Act → Result Bool AllocError → Config → List Frame → Type 0
JoinsFrames P c i fs a (Ok true) d gs = (m : Move) × (put_frames P c i fs a ≡ Some m) × (m.after ≡ running gs) × (d ≡ joined m)
JoinsFrames P c i fs a (Ok false) d gs = (put_frames P c i fs a ≡ None) × (d ≡ c) × (gs ≡ fs)
JoinsFrames P c i fs a (Err e) d gs = (d ≡ c) × (gs ≡ fs)

-- the same of the whole configuration
abbrev pub put_goroutine_by : Parts → Config → ℕ → Option Call → List Frame → Act → Option Move
put_goroutine_by P c i (Some call) fs a = None
put_goroutine_by P c i None fs a = put_frames P c i fs a

abbrev pub put_goroutine : Parts → Config → ℕ → Act → Option Goroutine → Option Move
put_goroutine P c i a None = None
put_goroutine P c i a (Some go) = put_goroutine_by P c i go.begin go.frames a

abbrev pub put_at : Parts → Config → ℕ → Act → Option Config
put_at P c i a = option_map (arrive c i) (put_goroutine P c i a (slice_get c.goroutines i))

abbrev pub FitsBy : Act → Config → Option Call → List Frame → Type 0
FitsBy a c (Some call) fs = ⊥
FitsBy a c None fs = FitsFrames a c fs

abbrev pub FitsGoroutine : Act → Config → Option Goroutine → Type 0
FitsGoroutine a c None = ⊥
FitsGoroutine a c (Some go) = FitsBy a c go.begin go.frames

-- A step leaves another configuration, or there is none. An `Err` changes nothing.
abbrev pub Leads : Option Config → Config → Result Bool AllocError → Config → Type 0
Leads o c (Ok true) d = o ≡ Some d
Leads o c (Ok false) d = (o ≡ None) × (d ≡ c)
Leads o c (Err e) d = d ≡ c

-- a further goroutine has so many values of the frame that runs
abbrev pub BearsGoroutine : ℕ → ℕ → Config → List Frame → Config → Type 0
BearsGoroutine g n c [] d = ⊥
BearsGoroutine g n c (f ∷ fs) d = d ≡ record c { goroutines = c.goroutines ++ started g (reverse (take n f.stack)) ∷ [] }

abbrev pub SpawnsFrames : ℕ → List Frame → List Frame → Type 0
SpawnsFrames n [] gs = ⊥
SpawnsFrames n (f ∷ fs) gs = gs ≡ consumed n f ∷ fs
