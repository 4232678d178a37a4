-- What the fault of a file is for its pod.
use Rattle.std.specs.Prelude.{◌≡◌, ℕ, List}
use Rattle.cov_outside.specs.declared.limit.Which.TheVariants.{DataBytes}
use Rattle.cov_outside.specs.declared.whole.WholeFault.{WholeFault}
use Rattle.cov_outside.specs.declared.whole.WholeFault.TheVariants as whole
use Rattle.cov_meta.specs.declared.fault.MetaFault.{MetaFault}
use Rattle.cov_meta.specs.declared.fault.MetaFault.TheVariants as meta
use Rattle.cov_counter.specs.declared.fault.CounterFault.{CounterFault}
use Rattle.cov_counter.specs.declared.fault.CounterFault.TheVariants as counter
use Rattle.cov_pods.specs.declared.fault.PodFault.{PodFault}
use Rattle.cov_pods.specs.declared.fault.PodFault.TheVariants as faults

-- the fault of a file that can't be read whole
abbrev pub whole_fault : List ℕ → WholeFault → PodFault
whole_fault path whole.Missing = faults.Missing path
whole_fault path whole.Limit = faults.Limit DataBytes
whole_fault path whole.Read = faults.Read
whole_fault path whole.NoMemory = faults.NoMemory

-- the fault of a meta file
abbrev pub meta_fault : List ℕ → MetaFault → PodFault
meta_fault path (meta.At offset kind) = faults.Data path offset kind
meta_fault path (meta.Limit w) = faults.Limit w
meta_fault path meta.NoMemory = faults.NoMemory

-- the fault of a counter file
abbrev pub counter_fault : List ℕ → CounterFault → PodFault
counter_fault path (counter.At offset kind) = faults.Data path offset kind
counter_fault path (counter.Limit w) = faults.Limit w
counter_fault path counter.Missing = faults.Missing path
counter_fault path counter.Read = faults.Read
counter_fault path counter.NoMemory = faults.NoMemory

-- The fault that a call answers is this one. One that names a path takes memory for it, which may run out.
abbrev pub Becomes : PodFault → PodFault → Type 0
Becomes there (faults.Data path offset kind) = there ≡ faults.Data path offset kind
Becomes there (faults.Mode mode) = there ≡ faults.Mode mode
Becomes there (faults.Limit w) = there ≡ faults.Limit w
Becomes there (faults.Missing path) = there ≡ faults.Missing path
Becomes there faults.Read = there ≡ faults.Read
Becomes (faults.Data path offset kind) faults.NoMemory = Unit {0}
Becomes (faults.Mode mode) faults.NoMemory = ⊥
Becomes (faults.Limit w) faults.NoMemory = ⊥
Becomes (faults.Missing path) faults.NoMemory = Unit {0}
Becomes faults.Read faults.NoMemory = ⊥
Becomes faults.NoMemory faults.NoMemory = Unit {0}
