-- What the files of a pod say, or the first fault in the order of reading.
use Rattle.std.specs.Prelude.{◌≡◌, ℕ, List, [], ◌∷◌, map, flat_map, nat_eq, Option, Some, None, Result, Ok, Err, if◌then◌else◌}
use Rattle.std.specs.Cmp.Lexicographic.{pointwise}
use Rattle.std.specs.FinMap as finmap
use Rattle.cov_bytes.specs.Many.{◌>>=◌, many}
use Rattle.cov_outside.specs.Tree.{Tree}
use Rattle.cov_outside.specs.Whole.{whole_file}
use Rattle.cov_outside.specs.declared.data_kind.DataKind.{DataKind}
use Rattle.cov_outside.specs.declared.data_kind.DataKind.TheVariants as kinds
use Rattle.cov_outside.specs.declared.mode.Mode.{Mode}
use Rattle.cov_outside.specs.declared.mode.Mode.TheVariants.{Set, Count, Atomic}
use Rattle.cov_outside.specs.declared.whole.WholeFault.{WholeFault}
use Rattle.cov_meta.specs.declared.meta.Meta.{Meta}
use Rattle.cov_meta.specs.declared.meta.MetaFile.{MetaFile}
use Rattle.cov_meta.specs.declared.fault.MetaFault.{MetaFault}
use Rattle.cov_meta.specs.File.{meta_of}
use Rattle.cov_counter.specs.declared.entry.Entry.{Entry}
use Rattle.cov_counter.specs.declared.fault.CounterFault.{CounterFault}
use Rattle.cov_counter.specs.declared.head.Head.{Head}
use Rattle.cov_counter.specs.Reader.{start_of, entry_of, end_of}
use Rattle.cov_pods.specs.CountedPod.{CountedPod}
use Rattle.cov_pods.specs.declared.fault.PodFault.{PodFault}
use Rattle.cov_pods.specs.declared.fault.PodFault.TheVariants as faults
use Rattle.cov_pods.specs.declared.pod.Pod.{Pod}
use Rattle.cov_pods.specs.Faults.{whole_fault, meta_fault, counter_fault}
use Rattle.cov_pods.specs.Fits.{fits}
use Rattle.cov_pods.specs.PodCounts.{pod_counts}

-- the fault that a call answers from bytes alone is the one that is there, unless memory ran out
abbrev pub Fails : {Y : Type 0} → PodFault → Result Y PodFault → Type 0
Fails (faults.Data path offset kind) there = there ≡ Err (faults.Data path offset kind)
Fails (faults.Mode mode) there = there ≡ Err (faults.Mode mode)
Fails (faults.Limit w) there = there ≡ Err (faults.Limit w)
Fails (faults.Missing path) there = ⊥
Fails faults.Read there = ⊥
Fails faults.NoMemory there = Unit {0}

-- a call from bytes alone gave what is there, or the fault
abbrev pub Gives : {X : Type 0} → Result X PodFault → Result X PodFault → Type 0
Gives (Ok x) there = there ≡ Ok x
Gives (Err e) there = Fails e there

-- what a meta file at a path says
abbrev pub from_meta : {A : Type 0} → List ℕ → Result A MetaFault → Result A PodFault
from_meta path (Ok x) = Ok x
from_meta path (Err f) = Err (meta_fault path f)

abbrev pub same_mode : Mode → Mode → Result (Unit {0}) PodFault
same_mode Set Set = Ok tt
same_mode Count Count = Ok tt
same_mode Atomic Atomic = Ok tt
same_mode wanted mode = Err (faults.Mode mode)

-- the mode is the wanted one, where one is wanted
abbrev pub is_wanted : Option Mode → Mode → Result (Unit {0}) PodFault
is_wanted None mode = Ok tt
is_wanted (Some wanted) mode = same_mode wanted mode

-- what the bytes of a meta file at a path say, in the wanted mode
unfoldable pub meta_in : List ℕ → Option Mode → List ℕ → Result MetaFile PodFault
meta_in path wanted bytes = do
  file ← from_meta path (meta_of bytes)
  mode ← is_wanted wanted file.meta.mode
  Ok file

-- ---- the files of a pod

-- what there is to read of a file at a path
abbrev pub from_whole : {A : Type 0} → List ℕ → Result A WholeFault → Result A PodFault
from_whole path (Ok x) = Ok x
from_whole path (Err f) = Err (whole_fault path f)

-- what a counter file at a path says
abbrev pub from_counter : {A : Type 0} → List ℕ → Result A CounterFault → Result A PodFault
from_counter path (Ok x) = Ok x
from_counter path (Err f) = Err (counter_fault path f)

-- what is found at an offset of a file
abbrev pub from_kind : {A : Type 0} → List ℕ → ℕ → Result A DataKind → Result A PodFault
from_kind path offset (Ok x) = Ok x
from_kind path offset (Err kind) = Err (faults.Data path offset kind)

-- a meta file of at most 268,435,456 bytes: its bytes, and what they say
unfoldable pub meta_file_in : List ℕ → Option Mode → Option (List ℕ) → Result (List ℕ × MetaFile) PodFault
meta_file_in path wanted there = do
  bytes ← from_whole path (whole_file 268435456 there)
  file ← meta_in path wanted bytes
  Ok (bytes, file)

-- the hash at byte 8 of a counter file is the meta file's
abbrev pub same_hash : List ℕ → List ℕ → List ℕ → Result (Unit {0}) PodFault
same_hash path meta counters = if pointwise nat_eq meta counters then Ok tt else Err (faults.Data path 8 (kinds.HashDiffers meta counters))

-- an entry at an offset that fits the meta value, and the offset behind it
unfoldable pub entry_in : Meta → List ℕ → Head → Option (List ℕ) → ℕ → Result (Entry × ℕ) PodFault
entry_in meta path head there at = do
  entry ← from_counter path (entry_of head at there)
  fitting ← from_kind path at (fits meta entry.0)
  Ok entry

-- a counter file: its head, and its entries in order
unfoldable pub counters_in : MetaFile → List ℕ → Option (List ℕ) → Result (Head × List Entry) PodFault
counters_in file path there = do
  start ← from_counter path (start_of there)
  hash ← same_hash path file.hash start.0.hash
  entries ← many (entry_in file.meta path start.0 there) start.0.entries start.1
  end ← from_counter path (end_of entries.1 there)
  Ok (start.0, entries.0)

-- counter files in order
unfoldable pub all_counters : MetaFile → Tree → List (List ℕ) → Result (List (Head × List Entry)) PodFault
all_counters file tree [] = Ok []
all_counters file tree (path ∷ paths) = do
  first ← counters_in file path (finmap.get tree path)
  others ← all_counters file tree paths
  Ok (first ∷ others)

-- a pod: its meta file, and what its counter files count together
unfoldable pub decoded : Tree → Pod → Option Mode → Result CountedPod PodFault
decoded tree pod wanted = do
  meta ← meta_file_in pod.meta wanted (finmap.get tree pod.meta)
  counters ← all_counters meta.1 tree pod.counters
  Ok (record { pod = pod; bytes = meta.0; file = meta.1; counts = pod_counts meta.1.meta (flat_map (λ c. c.1) counters); heads = map (λ c. c.0) counters })

-- ---- what a call on the files answers

-- A fault that the files decide is the one that is there. A read may fail anywhere, and memory may run out anywhere.
abbrev pub IsFaultOf : {Y : Type 0} → PodFault → Result Y PodFault → Type 0
IsFaultOf (faults.Data path offset kind) there = there ≡ Err (faults.Data path offset kind)
IsFaultOf (faults.Mode mode) there = there ≡ Err (faults.Mode mode)
IsFaultOf (faults.Limit w) there = there ≡ Err (faults.Limit w)
IsFaultOf (faults.Missing path) there = there ≡ Err (faults.Missing path)
IsFaultOf faults.Read there = Unit {0}
IsFaultOf faults.NoMemory there = Unit {0}

-- what a call answered is what there is
abbrev pub Finds : {X : Type 0} → Result X PodFault → Result X PodFault → Type 0
Finds (Ok x) there = there ≡ Ok x
Finds (Err e) there = IsFaultOf e there

-- what a call answered stands in a relation to what there is
abbrev pub Matches : {X Y : Type 0} → (X → Y → Type 0) → Result X PodFault → Result Y PodFault → Type 0
Matches {Y = Y} R (Ok x) there = (y : Y) × (there ≡ Ok y) × R x y
Matches R (Err e) there = IsFaultOf e there
