-- Laws of steps and histories, over every program.
use Rattle.std.specs.Prelude.{◌≡◌, ◌≢◌, ◌↔◌, ℕ, ◌<◌, ◌≤◌, true, List, Option, Some, length}
use Rattle.go_meaning.specs.declared.event.End.{End}
use Rattle.go_meaning.specs.declared.event.Event.{Event}
use Rattle.go_meaning.specs.declared.event.Event.TheVariants.{Count}
use Rattle.go_meaning.specs.declared.config.Goroutine.{Goroutine}
use Rattle.go_meaning.specs.declared.config.Config.{Config}
use Rattle.go_meaning.specs.Programs.{Parts}
use Rattle.go_meaning.specs.WellFormed.{IsProgram}
use Rattle.go_meaning.specs.Shapes.{IsSameShape}
use Rattle.go_meaning.specs.Units.{counted}
use Rattle.go_meaning.specs.Erasing.{erase_program}
use Rattle.go_meaning.specs.Steps.{step, due, numbered}
use Rattle.go_meaning.specs.Readiness.{is_over}
use Rattle.go_meaning.specs.Histories.{replay, IsHistory, EndAfter}
use Rattle.go_meaning.specs.Serial.{IsSerial}

-- ---- programs that are equal in shape run alike

pub record RunAlike (P Q : Parts) : Type 0 where
  pub steps : (c : Config) (e : Event) → step P c e ≡ step Q c e
  pub dues : (go : Option Goroutine) → due P go ≡ due Q go
  pub replays : (h : List Event) → replay P h ≡ replay Q h
  pub histories : (limit : ℕ) (h : List Event) → IsHistory P limit h ↔ IsHistory Q limit h
  pub ends : (limit : ℕ) (h : List Event) (o : Option End) → EndAfter P limit h o ↔ EndAfter Q limit h o
  pub serial : (limit : ℕ) (h : List Event) → IsSerial P limit h ↔ IsSerial Q limit h
  pub units : P.units ≡ Q.units

abbrev pub ShapesRunAlike : Type 0
ShapesRunAlike = (P Q : Parts) → IsSameShape P Q → RunAlike P Q

-- ---- what a step leaves as it was

-- a goroutine that stands at a counter stands there until its own counter step
abbrev pub StandsUntilCounted : Type 0
StandsUntilCounted = (P : Parts) (c d : Config) (e : Event) (g u : ℕ) → step P c e ≡ Some d → due P (numbered c g) ≡ Some u → e ≢ Count g u → due P (numbered d g) ≡ Some u

-- a goroutine that is over stays over
abbrev pub StaysOver : Type 0
StaysOver = (P : Parts) (c d : Config) (e : Event) (g : ℕ) (go : Goroutine) → step P c e ≡ Some d → numbered c g ≡ Some go → is_over (Some go) ≡ true → numbered d g ≡ Some go

-- a unit at whose counter a goroutine of a program stands is one of its units
abbrev pub UnitsAreBelow : Type 0
UnitsAreBelow = (P : Parts) (c : Config) (g u : ℕ) → IsProgram P → due P (numbered c g) ≡ Some u → u < P.units

-- ---- how many goroutines there are

-- no step takes a goroutine away
abbrev pub GoroutinesStay : Type 0
GoroutinesStay = (P : Parts) (c d : Config) (e : Event) → step P c e ≡ Some d → length c.goroutines ≤ length d.goroutines

abbrev pub AreFew : Config → Type 0
AreFew c = length c.goroutines ≤ 256

-- and there are never more than 256
abbrev pub GoroutinesStayFew : Type 0
GoroutinesStayFew = (P : Parts) (c d : Config) (e : Event) → step P c e ≡ Some d → AreFew c → AreFew d

-- ---- the schedule leaves no choice

abbrev pub OneSerialHistory : Type 0
OneSerialHistory = (P : Parts) (limit : ℕ) (h h' : List Event) → IsSerial P limit h → IsSerial P limit h' → h ≡ h'

-- ---- programs with and without counters

abbrev pub CountedIsProgram : Type 0
CountedIsProgram = (P : Parts) → IsProgram P → P.units ≡ 0 → IsProgram (counted P)

abbrev pub ErasedIsProgram : Type 0
ErasedIsProgram = (Q : Parts) → IsProgram Q → IsProgram (erase_program Q)
