-- Histories, an event at a time.
use Rattle.std.specs.Prelude.{◌≡◌, ℕ, ◌⊎◌, List, [], ◌∷◌, ◌++◌, Option, Some, None}
use Rattle.go_meaning.specs.declared.event.End.{End}
use Rattle.go_meaning.specs.declared.event.Event.{Event}
use Rattle.go_meaning.specs.declared.config.Config.{Config}
use Rattle.go_meaning.specs.Programs.{Parts}
use Rattle.go_meaning.specs.Steps.{step}
use Rattle.go_meaning.specs.Histories.{replay, IsCount, IsHistory, EndAfter}

-- with an event that has a step, a history is a history; a step of the program comes only where there is no end
abbrev pub HistoriesGrow : Type 0
HistoriesGrow = (P : Parts) (limit : ℕ) (h : List Event) (c d : Config) (e : Event) → IsHistory P limit h → replay P h ≡ Some c → step P c e ≡ Some d → IsCount e ⊎ EndAfter P limit h None → IsHistory P limit (h ++ e ∷ [])

-- it leads to where that step leads
abbrev pub ReplaysGrow : Type 0
ReplaysGrow = (P : Parts) (h : List Event) (c : Config) (e : Event) → replay P h ≡ Some c → replay P (h ++ e ∷ []) ≡ step P c e

-- what begins a history is one
abbrev pub HistoriesBegin : Type 0
HistoriesBegin = (P : Parts) (limit : ℕ) (h es : List Event) → IsHistory P limit (h ++ es) → IsHistory P limit h

-- a history has one end, or none
abbrev pub OneEnd : Type 0
OneEnd = (P : Parts) (limit : ℕ) (h : List Event) (o p : Option End) → IsHistory P limit h → EndAfter P limit h o → EndAfter P limit h p → o ≡ p
