-- Pods made of the counts of two directories.
use Rattle.std.specs.Prelude.{◌≡◌, ℕ, ◌≤◌, List, [], length, All, Option, Some, None, Result, Ok}
use Rattle.hex.specs.Hex.{encode_lower}
use Rattle.cov_bytes.specs.Many.{◌>>=◌}
use Rattle.cov_outside.specs.declared.limit.Which.TheVariants.{DataBytes}
use Rattle.cov_outside.specs.declared.stamp.Stamp.{Stamp}
use Rattle.cov_meta.specs.Hash.{meta_hash}
use Rattle.cov_meta.specs.Written.{meta_text}
use Rattle.cov_counter.specs.Text.{counter_text}
use Rattle.cov_table.specs.declared.pod_out.PodOut.{PodOut}
use Rattle.cov_table.specs.Coverage.{Coverage}
use Rattle.cov_table.specs.Operations.{subtracted, intersected}
use Rattle.gocov_tools.specs.Files.{HasFewCounts, pod_files}
use Rattle.gocov_tools.specs.Measure.{measured}
use Rattle.gocov_tools.specs.Outcome.{Put}
use Rattle.gocov_tools.specs.Reading.{units_of}
use Rattle.gocov_tools.specs.Refusals.{within}
use Rattle.gocov_tools.specs.declared.operation.Operation.{Operation}
use Rattle.gocov_tools.specs.declared.operation.Operation.TheVariants as operations
use Rattle.gocov_tools.specs.declared.refusal.Refusal.{Refusal}

abbrev pub operated : Operation → Coverage → Coverage → Coverage
operated operations.Subtract table other = subtracted table other
operated operations.Intersect table other = intersected table other

-- the bytes of a pod's meta file, and of its counter file
abbrev pub meta_bytes : PodOut → List ℕ
meta_bytes pod = meta_text pod.meta

abbrev pub counter_bytes : PodOut → List ℕ
counter_bytes pod = counter_text (meta_hash pod.meta) pod.entries

-- the files of a pod in a directory, which keep all limits
unfoldable pub files_of : List ℕ → Stamp → PodOut → Result (List Put) Refusal
files_of dir stamp pod = do
  kept ← measured pod.meta
  meta ← within DataBytes (length (meta_bytes pod))
  counters ← within DataBytes (length (counter_bytes pod))
  Ok (pod_files dir stamp (encode_lower (meta_hash pod.meta)) (meta_bytes pod) (counter_bytes pod))

-- no file where there is no pod
abbrev pub files_in : List ℕ → Stamp → Option PodOut → Result (List Put) Refusal
files_in dir stamp None = Ok []
files_in dir stamp (Some pod) = files_of dir stamp pod

-- no entry has too many counters, where there are not too many units
abbrev pub HasShortEntries : PodOut → Type 0
HasShortEntries pod = units_of pod.meta ≤ 1048576 → All HasFewCounts pod.entries
