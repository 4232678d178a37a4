-- A pod that was read.
use Rattle.std.specs.Prelude.{◌≡◌, ℕ, List, length, map}
use Rattle.cov_meta.specs.declared.meta.MetaFile.{MetaFile}
use Rattle.cov_counter.specs.declared.head.Head.{Head}
use Rattle.cov_pods.specs.declared.pod.Pod.{Pod}

-- a pod, the bytes of its meta file and what they say, the count of each unit, and the heads of its counter files
pub record CountedPod : Type 0 where
  pub pod : Pod
  pub bytes : List ℕ
  pub file : MetaFile
  pub counts : List (List (List ℕ))
  pub heads : List Head

-- there is one count for each unit, by package and function, and one head for each counter file
pub record IsWhole (pod : Pod) (file : MetaFile) (counts : List (List (List ℕ))) (heads : List Head) : Type 0 where
  pub each_unit : map (λ (functions : List (List ℕ)). map length functions) counts ≡ map (λ p. map (λ f. length f.units) p.functions) file.meta.packages
  pub each_file : length heads ≡ length pod.counters
