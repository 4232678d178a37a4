-- What decoding a pod does to the files of the outside.
use Rattle.std.specs.Prelude.{◌≡◌, Result, Ok, Err}
use Rattle.cov_outside.specs.Faults.{Count, Rose}
use Rattle.cov_pods.specs.declared.fault.PodFault.{PodFault}
use Rattle.cov_pods.specs.declared.fault.PodFault.TheVariants as faults

-- the count rose where a read failed, and is as before at every other answer
abbrev pub CountsRead : {X : Type 0} → Count → Count → Result X PodFault → Type 0
CountsRead before now (Ok x) = now ≡ before
CountsRead before now (Err (faults.Data path offset kind)) = now ≡ before
CountsRead before now (Err (faults.Mode mode)) = now ≡ before
CountsRead before now (Err (faults.Limit w)) = now ≡ before
CountsRead before now (Err (faults.Missing path)) = now ≡ before
CountsRead before now (Err faults.Read) = Rose before now
CountsRead before now (Err faults.NoMemory) = now ≡ before
