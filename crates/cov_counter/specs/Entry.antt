-- The counters of one function.
use Rattle.std.specs.Prelude.{ℕ, Result, Ok, Err, if◌then◌else◌, ◌==◌, nat_lt}
use Rattle.cov_bytes.specs.Reading.{uleb_at, little_at, big_at}
use Rattle.cov_bytes.specs.Many.{◌>>=◌, many}
use Rattle.cov_outside.specs.declared.limit.Which.TheVariants.{Units}
use Rattle.cov_counter.specs.declared.fault.CounterFault.{CounterFault}
use Rattle.cov_counter.specs.declared.fault.CounterFault.TheVariants.{Limit}
use Rattle.cov_counter.specs.declared.head.Head.{Head}
use Rattle.cov_counter.specs.declared.entry.Entry.{Entry}
use Rattle.cov_counter.specs.File.{Known, field}

-- a number in the form that the header names
unfoldable pub number_at : Head → Known → ℕ → Result (ℕ × ℕ) CounterFault
number_at head file at =
    if head.flavour == 2 then field file (uleb_at file.bytes at)
    else if head.big then field file (big_at 4 file.bytes at)
    else field file (little_at 4 file.bytes at)

-- how many counters an entry has: at most 1,048,576
unfoldable pub length_at : Head → Known → ℕ → Result (ℕ × ℕ) CounterFault
length_at head file at = do
  n ← number_at head file at
  if nat_lt 1048576 n.0 then Err (Limit Units) else Ok n

-- the number of counters, the package, the function and the counters
unfoldable pub entry_at : Head → Known → ℕ → Result (Entry × ℕ) CounterFault
entry_at head file at = do
  len ← length_at head file at
  place ← number_at head file len.1
  function ← number_at head file place.1
  counts ← many (number_at head file) len.0 function.1
  Ok (record { «package» = place.0; function = function.0; counts = counts.0 }, counts.1)
