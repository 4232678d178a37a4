-- What running a module in the serial schedule comes to.
use Rattle.std.specs.Prelude.{◌≡◌, ◌≤◌, ℕ, List, Some, Ok, Err}
use Rattle.cov_outside.specs.Tree.{Tree}
use Rattle.cov_outside.specs.Limits.{limit_number}
use Rattle.cov_outside.specs.declared.limit.Which.TheVariants as limits
use Rattle.go_ast.specs.declared.«module».Module.{Module}
use Rattle.go_load.specs.Loading.{Loads}
use Rattle.go_load.specs.Refusals.{Outcomes, Is, Then}
use Rattle.go_load.specs.Sources.{ReadsSources}
use Rattle.go_load.specs.declared.loaded.Loaded.{Loaded}
use Rattle.go_meaning.specs.Histories.{EndAfter, output_of}
use Rattle.go_meaning.specs.Programs.{Parts}
use Rattle.go_meaning.specs.Serial.{IsSerial}
use Rattle.go_packages.specs.Modules.{accepted}
use Rattle.gocov_run.specs.Faults.{checked}
use Rattle.gocov_run.specs.Units.{units_in, within_units}
use Rattle.gocov_run.specs.declared.ran.Ran.{Ran}

-- the serial history of a program under a limit of steps, what it has printed, and its end
pub record IsSerialRun (P : Parts) (limit : ℕ) (ran : Ran) : Type 0 where
  pub history : IsSerial P limit ran.events
  pub output : output_of P ran.events ≡ Some ran.output
  pub end : EndAfter P limit ran.events (Some ran.end)

-- a program is run; it has no refusal
abbrev pub RunsProgram : ℕ → Parts → Outcomes Ran
RunsProgram limit P (Ok ran) = IsSerialRun P limit ran
RunsProgram limit P (Err e) = ⊥

-- The module is checked, its units are counted, and its program is run.
abbrev pub RunsLoaded : ℕ → Loaded → Outcomes Ran
RunsLoaded limit l = Then (Is (checked l)) (λ P. Then (Is (within_units l.«module»)) (λ units. RunsProgram limit P))

-- What running the module in a directory comes to: it is loaded, checked and run, or this is its first refusal.
abbrev pub RunsSerially : Tree → List ℕ → ℕ → Outcomes Ran
RunsSerially t dir limit = Then (Loads ReadsSources t dir) (RunsLoaded limit)

-- the serial run of an accepted module, whatever it was read from
pub record IsRunOfModule (limit : ℕ) (ran : Ran) : Type 0 where
  pub source : Module
  pub program : Parts
  pub accepts : accepted source ≡ Ok program
  pub few : units_in source ≤ limit_number limits.Units
  pub runs : IsSerialRun program limit ran
