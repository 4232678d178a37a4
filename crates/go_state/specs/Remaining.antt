-- How much of a run there can still be: no program counts forever without a step between.
use Rattle.std.specs.Prelude.{ℕ, ◌+◌, ◌-◌, ◌*◌, List, [], ◌∷◌, Option, Some, None, length, sum_by}
use Rattle.std.specs.Option.{option_map_or}
use Rattle.go_meaning.specs.declared.item.Item.{Item}
use Rattle.go_meaning.specs.declared.item.Item.TheVariants.{Run}
use Rattle.go_meaning.specs.declared.config.Call.{Call}
use Rattle.go_meaning.specs.declared.config.Frame.{Frame}
use Rattle.go_meaning.specs.declared.config.Goroutine.{Goroutine}
use Rattle.go_meaning.specs.declared.config.Config.{Config}
use Rattle.go_meaning.specs.Programs.{Parts, list_at}
use Rattle.go_meaning.specs.Histories.{replay, steps_in}
use Rattle.go_state.specs.Runs.{RunState}

abbrev pub ahead_of_control : Parts → List Item → ℕ
ahead_of_control P (Run n i ∷ is) = length (list_at P n) - i
ahead_of_control P is = 0

abbrev pub ahead_of_frames : Parts → Option Call → List Frame → ℕ
ahead_of_frames P (Some call) fs = 0
ahead_of_frames P None [] = 0
ahead_of_frames P None (f ∷ fs) = ahead_of_control P f.control

-- how many statements stand ahead of a goroutine in the list that it runs: it can count no more often before its next step
abbrev pub ahead : Parts → Goroutine → ℕ
ahead P go = ahead_of_frames P go.begin go.frames

abbrev pub statements : Parts → ℕ
statements P = sum_by length P.lists

-- a bound on the events that can still come: the program steps, and the counter steps before each and after the last
abbrev pub remaining_in : Parts → ℕ → ℕ → Config → ℕ
remaining_in P limit steps c = (limit - steps) * (256 * statements P + 1) + sum_by (ahead P) c.goroutines

unfoldable pub remaining : RunState → ℕ
remaining r = option_map_or (remaining_in r.program r.limits.steps (steps_in r.history)) (replay r.program r.history) 0
