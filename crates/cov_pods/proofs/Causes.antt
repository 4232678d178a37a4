-- A fault of a file raises the count where its fault for the pod does.
use Rattle.std.proofs.Common.{◌≡◌, ℕ, List, Result, Err}
use Rattle.cov_outside.specs.Faults.{Count}
use Rattle.cov_outside.specs.declared.data_kind.DataKind.{DataKind}
use Rattle.cov_outside.specs.declared.whole.WholeFault.{WholeFault}
use Rattle.cov_outside.specs.declared.whole.WholeFault.TheVariants as whole
use Rattle.cov_outside.specs.Whole as outside
use Rattle.cov_counter.specs.declared.fault.CounterFault.{CounterFault}
use Rattle.cov_counter.specs.declared.fault.CounterFault.TheVariants as counter
use Rattle.cov_counter.specs.Outside as reader
use Rattle.cov_pods.specs.declared.fault.PodFault.{PodFault}
use Rattle.cov_pods.specs.declared.fault.PodFault.TheVariants as faults
use Rattle.cov_pods.specs.Faults.{Becomes, whole_fault, counter_fault}
use Rattle.cov_pods.specs.Outside.{CountsRead}
use Rattle.cov_pods.specs.Decoding.{Fails}

pub whole_counts : (X Y : Type 0) (path : List ℕ) (f : WholeFault) (e : PodFault) (before now : Count) → Becomes (whole_fault path f) e → outside.CountsRead {X = X} before now (Err f) → CountsRead {X = Y} before now (Err e)
whole_counts X Y path whole.Missing faults.Read before now b h = absurd cc
whole_counts X Y path whole.Missing e before now b h = h
whole_counts X Y path whole.Limit faults.Read before now b h = absurd cc
whole_counts X Y path whole.Limit e before now b h = h
whole_counts X Y path whole.Read faults.Read before now b h = h
whole_counts X Y path whole.Read faults.NoMemory before now b h = absurd b
whole_counts X Y path whole.Read e before now b h = absurd cc
whole_counts X Y path whole.NoMemory faults.Read before now b h = absurd cc
whole_counts X Y path whole.NoMemory e before now b h = h

pub counter_counts : (X Y : Type 0) (path : List ℕ) (f : CounterFault) (e : PodFault) (before now : Count) → Becomes (counter_fault path f) e → reader.CountsRead {X = X} before now (Err f) → CountsRead {X = Y} before now (Err e)
counter_counts X Y path (counter.At offset kind) faults.Read before now b h = absurd cc
counter_counts X Y path (counter.At offset kind) e before now b h = h
counter_counts X Y path (counter.Limit w) faults.Read before now b h = absurd cc
counter_counts X Y path (counter.Limit w) e before now b h = h
counter_counts X Y path counter.Missing faults.Read before now b h = absurd cc
counter_counts X Y path counter.Missing e before now b h = h
counter_counts X Y path counter.Read faults.Read before now b h = h
counter_counts X Y path counter.Read faults.NoMemory before now b h = absurd b
counter_counts X Y path counter.Read e before now b h = absurd cc
counter_counts X Y path counter.NoMemory faults.Read before now b h = absurd cc
counter_counts X Y path counter.NoMemory e before now b h = h

pub data_counts : (Y : Type 0) (path : List ℕ) (offset : ℕ) (kind : DataKind) (e : PodFault) (before now : Count) → Becomes (faults.Data path offset kind) e → now ≡ before → CountsRead {X = Y} before now (Err e)
data_counts Y path offset kind faults.Read before now b h = absurd cc
data_counts Y path offset kind e before now b h = h

pub fails_counts : (X Y : Type 0) (e : PodFault) (there : Result X PodFault) (before now : Count) → Fails e there → now ≡ before → CountsRead {X = Y} before now (Err e)
fails_counts X Y faults.Read there before now b h = absurd b
fails_counts X Y e there before now b h = h
