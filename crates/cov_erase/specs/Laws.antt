-- Covering a program changes nothing but the counter steps.
use Rattle.std.specs.Prelude.{◌≡◌, ◌↔◌, ℕ, zero, suc, ◌+◌, ◌*◌, ◌<◌, ◌≤◌, List, length, Option}
use Rattle.go_meaning.specs.declared.event.End.{End}
use Rattle.go_meaning.specs.declared.event.Event.{Event}
use Rattle.go_meaning.specs.Programs.{Parts}
use Rattle.go_meaning.specs.Units.{counted}
use Rattle.go_meaning.specs.Erasing.{erase_program, erase_events, IsUncounted}
use Rattle.go_meaning.specs.Histories.{IsHistory, EndAfter, output_of, EndsAtRest, StandsAt}
use Rattle.go_meaning.specs.Entries.{entries, unit_entries, counts_in, unit_counts, stands, weave}
use Rattle.go_meaning.specs.Serial.{IsSerial}

-- the counted program without its counters is the program
abbrev pub ErasesToProgram : Type 0
ErasesToProgram = (P : Parts) → IsUncounted P → erase_program (counted P) ≡ P

-- erasing the counter steps of a covered history leaves a history of the program
pub record Erased (P : Parts) (limit : ℕ) (c : List Event) : Type 0 where
  pub history : IsHistory P limit (erase_events c)
  pub output : output_of P (erase_events c) ≡ output_of (counted P) c
  pub end : (o : Option End) → EndAfter P limit (erase_events c) o ↔ EndAfter (counted P) limit c o
  -- a unit's entries are its counter steps, and one more where the goroutine stands at that counter
  pub counted_once : (g u : ℕ) → entries P (erase_events c) g u ≡ counts_in c g u + stands (counted P) c g u
  pub at_rest : EndsAtRest (counted P) c → (g u : ℕ) → entries P (erase_events c) g u ≡ counts_in c g u
  -- all goroutines together
  pub units_at_rest : EndsAtRest (counted P) c → (u : ℕ) → unit_entries P (erase_events c) u ≡ unit_counts c u

abbrev pub ErasureHolds : Type 0
ErasureHolds = (P : Parts) (limit : ℕ) (c : List Event) → IsUncounted P → IsHistory (counted P) limit c → Erased P limit c

-- covering takes no run away
pub record Woven (P : Parts) (limit : ℕ) (h : List Event) : Type 0 where
  pub history : IsHistory (counted P) limit (weave P h)
  pub rest : EndsAtRest (counted P) (weave P h)
  pub erased : erase_events (weave P h) ≡ h

abbrev pub WeavingHolds : Type 0
WeavingHolds = (P : Parts) (limit : ℕ) (h : List Event) → IsUncounted P → IsHistory P limit h → Woven P limit h

-- covering changes nothing in the serial schedule
abbrev pub SerialHolds : Type 0
SerialHolds = (P : Parts) (limit : ℕ) (c : List Event) → IsUncounted P → IsSerial (counted P) limit c → IsSerial P limit (erase_events c)

-- a covered history is short, and shorter where a counter step is still to come
pub record Short (P : Parts) (limit : ℕ) (c : List Event) : Type 0 where
  pub within : length c ≤ 2 * limit + 256
  pub room : (g u : ℕ) → StandsAt (counted P) c g u → length c < 2 * limit + 256

abbrev pub HistoriesAreShort : Type 0
HistoriesAreShort = (P : Parts) (limit : ℕ) (c : List Event) → IsUncounted P → IsHistory (counted P) limit c → Short P limit c

-- the serial history of a covered program is one of its histories, and ends at a rest
abbrev pub SerialRests : Type 0
SerialRests = (P : Parts) (limit : ℕ) (c : List Event) → IsUncounted P → IsSerial (counted P) limit c → IsHistory (counted P) limit c × EndsAtRest (counted P) c

-- a sum over goroutines 1 to n
abbrev pub sum_to : ℕ → (ℕ → ℕ) → ℕ
sum_to zero f = 0
sum_to (suc n) f = f (suc n) + sum_to n f

-- the entries of a unit are those by each goroutine, of which there are never more than 256
abbrev pub EntriesAddUp : Type 0
EntriesAddUp = (P : Parts) (h : List Event) (u : ℕ) → unit_entries P h u ≡ sum_to 256 (λ g. entries P h g u)
