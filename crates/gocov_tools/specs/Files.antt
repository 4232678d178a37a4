-- The files of a pod that a command writes.
use Rattle.std.specs.Prelude.{ℕ, ◌≤◌, List, [], ◌∷◌, ◌++◌, length, codes, decimal}
use Rattle.cov_outside.specs.declared.stamp.Stamp.{Stamp}
use Rattle.cov_counter.specs.declared.entry.Entry.{Entry}
use Rattle.cov_counter.specs.Text.{counter_text}
use Rattle.cov_pods.specs.CountedPod.{CountedPod}
use Rattle.cov_pods.specs.Paths.{path_in}
use Rattle.cov_table.specs.PodOf.{entries_out}
use Rattle.gocov_tools.specs.Outcome.{Put}

-- ---- names

abbrev pub meta_name : List ℕ → List ℕ
meta_name hash = codes "covmeta." ++ hash

-- the process and the time, each after a dot
abbrev pub stamp_text : Stamp → List ℕ
stamp_text stamp = codes "." ++ (decimal stamp.pid ++ (codes "." ++ decimal stamp.nanos))

abbrev pub counter_name : Stamp → List ℕ → List ℕ
counter_name stamp hash = codes "covcounters." ++ (hash ++ stamp_text stamp)

-- the meta file of a pod with a hash in its name, and then its counter file, in a directory
abbrev pub pod_files : List ℕ → Stamp → List ℕ → List ℕ → List ℕ → List Put
pod_files dir stamp hash meta counters = (path_in dir (meta_name hash), meta) ∷ (path_in dir (counter_name stamp hash), counters) ∷ []

-- ---- merging

-- it has no more counters than an entry may have
abbrev pub HasFewCounts : Entry → Type 0
HasFewCounts entry = length entry.counts ≤ 1048576

-- the meta file of a pod as it is, and one counter file with its counts
abbrev pub merged_files : List ℕ → Stamp → CountedPod → List Put
merged_files dir stamp pod = pod_files dir stamp pod.pod.hash pod.bytes (counter_text pod.file.hash (entries_out pod.counts))
