-- Pods one after the other: all have the mode of the first, and there is a limit on all their units.
use Rattle.std.specs.Prelude.{◌≡◌, ℕ, ◌+◌, ◌≤◌, List, [], ◌∷◌, length, sum_by, Option, Some, None, option_map, unwrap_or, Result, Ok, Err}
use Rattle.cov_bytes.specs.Many.{◌>>=◌}
use Rattle.cov_outside.specs.Tree.{Tree}
use Rattle.cov_outside.specs.declared.mode.Mode.{Mode}
use Rattle.cov_outside.specs.declared.limit.Which.TheVariants.{Units}
use Rattle.cov_meta.specs.declared.meta.Meta.{Meta}
use Rattle.cov_meta.specs.declared.meta.MetaPackage.{MetaPackage}
use Rattle.cov_meta.specs.Each.{each}
use Rattle.cov_pods.specs.declared.pod.Pod.{Pod}
use Rattle.cov_pods.specs.declared.fault.PodFault.{PodFault}
use Rattle.cov_pods.specs.declared.fault.PodFault.TheVariants as pod_fault
use Rattle.cov_pods.specs.CountedPod.{CountedPod}
use Rattle.cov_pods.specs.Decoding.{decoded}
use Rattle.cov_table.specs.Coverage.{Coverage, with_pod}
use Rattle.gocov_tools.specs.Refusals.{within}
use Rattle.gocov_tools.specs.declared.refusal.Refusal.{Refusal}
use Rattle.gocov_tools.specs.declared.refusal.Refusal.TheVariants as refusals
use Rattle.gocov_tools.specs.declared.reading.FirstMeta.{FirstMeta}
use Rattle.gocov_tools.specs.declared.reading.Reading.{Reading}

-- nothing was read
abbrev pub nothing_read : Reading
nothing_read = record { first = None; units = 0 }

-- the mode of the first meta file
abbrev pub mode_of : Option FirstMeta → Option Mode
mode_of first = option_map (λ (f : FirstMeta). f.mode) first

-- the first meta file once this one was read: it is this one, where none was read before
abbrev pub first_of : Option FirstMeta → Pod → Mode → FirstMeta
first_of first pod mode = unwrap_or first (record { path = pod.meta; mode = mode })

-- a meta file whose mode isn't that of the first
abbrev pub clash_of : Option FirstMeta → Pod → Mode → Refusal
clash_of first pod mode = refusals.ModeClash (first_of first pod mode).path (first_of first pod mode).mode pod.meta mode

-- what a pod says, or the refusal for its fault
abbrev pub from_pod : {A : Type 0} → Option FirstMeta → Pod → Result A PodFault → Result A Refusal
from_pod first pod (Ok x) = Ok x
from_pod first pod (Err (pod_fault.Data path offset kind)) = Err (refusals.Data path offset kind)
from_pod first pod (Err (pod_fault.Mode mode)) = Err (clash_of first pod mode)
from_pod first pod (Err (pod_fault.Limit w)) = Err (refusals.Limit w)
from_pod first pod (Err (pod_fault.Missing path)) = Err (refusals.Missing path)
from_pod first pod (Err pod_fault.Read) = Err refusals.Read
from_pod first pod (Err pod_fault.NoMemory) = Err refusals.NoMemory

abbrev pub package_units : MetaPackage → ℕ
package_units p = sum_by (λ f. length f.units) p.functions

-- the units of a meta file
abbrev pub units_of : Meta → ℕ
units_of meta = sum_by package_units meta.packages

-- it has at most 1,048,576 units
abbrev pub HasFewUnits : CountedPod → Type 0
HasFewUnits pod = units_of pod.file.meta ≤ 1048576

-- a pod in the mode of the first, with whose units there are at most 1,048,576 in all
unfoldable pub pod_in : Tree → Pod → Reading → Result (CountedPod × Reading) Refusal
pod_in t pod reading = do
  read ← from_pod reading.first pod (decoded t pod (mode_of reading.first))
  units ← within Units (reading.units + units_of read.file.meta)
  Ok (read, record { first = Some (first_of reading.first pod read.file.meta.mode); units = units })

-- pods in order
abbrev pub pods_in : Tree → List Pod → Reading → Result (List CountedPod × Reading) Refusal
pods_in t pods reading = each (pod_in t) pods reading

-- a table with pods in order
abbrev pub with_pods : Coverage → List CountedPod → Coverage
with_pods table [] = table
with_pods table (pod ∷ pods) = with_pods (with_pod table pod) pods
