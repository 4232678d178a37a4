-- What a run of threads gives.
use Rattle.std.specs.Prelude.{ℕ, ◌≡◌, ◌<◌, [], vec_len, slice_index, replicate}
use Rattle.cov_outside.specs.declared.mode.Mode.{Mode}
use Rattle.go_meaning.specs.Programs.{Parts}
use Rattle.go_meaning.specs.Erasing.{erase_events}
use Rattle.go_meaning.specs.Entries.{unit_entries}
use Rattle.go_meaning.specs.Histories.{EndsAtRest, IsHistory}
use Rattle.go_state.specs.declared.limits.Limits.{Limits}
use Rattle.cov_cells.specs.declared.closed.Closed.{Closed}
use Rattle.cov_cells.specs.declared.view.Origin.{Origin}
use Rattle.cov_cells.specs.Rule.{origin_of, word_after}
use Rattle.go_threads.specs.Runnable.{IsCovered}
use Rattle.go_threads.specs.Turns.{HasEnd}

-- cells with words 0 and a run that has just been started
abbrev pub fresh : Parts → Limits → Mode → Origin
fresh Q limits m = record { mode = m; words = replicate Q.units 0; history = []; program = Q; limits = limits }

-- A history of the program, with an end and at a rest. Where the program has the counters of a program without, the words
-- are the entries of the history without its counter steps.
pub record IsOutcome (Q : Parts) (limits : Limits) (m : Mode) (c : Closed) : Type 0 where
  pub origin : origin_of c.start ≡ fresh Q limits m
  pub history : IsHistory Q limits.steps c.run.history
  pub end : HasEnd Q limits.steps c.run.history
  pub rest : EndsAtRest Q c.run.history
  pub len : vec_len c.words ≡ Q.units
  pub words : (P : Parts) → IsCovered P Q → (u : ℕ) → u < Q.units → slice_index c.words.items u ≡ word_after m 0 (unit_entries P (erase_events c.run.history) u)
