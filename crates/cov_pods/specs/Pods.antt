-- Which names of directories make pods.
use Rattle.std.specs.Prelude.{◌≡◌, ℕ, List, [], ◌∷◌, Option, not, length, take, map, filter, filter_map, flat_map, option_map}
use Rattle.std.specs.Str.{bytes_eq}
use Rattle.cov_pods.specs.declared.pod.DirNames.{DirNames}
use Rattle.cov_pods.specs.declared.pod.Pod.{Pod}
use Rattle.cov_pods.specs.Names.{meta_hash, counter_hash}
use Rattle.cov_pods.specs.Paths.{path_in}

-- a meta or counter file: the hash in its name, and its path
pub record Found : Type 0 where
  pub hash : List ℕ
  pub path : List ℕ

-- the file with a hash in its name
abbrev pub file_in : List ℕ → List ℕ → List ℕ → Found
file_in dir name hash = record { hash = hash; path = path_in dir name }

-- the files of a directory that have a hash in their names, in order
abbrev pub found_in : (List ℕ → Option (List ℕ)) → DirNames → List Found
found_in hash_of d = filter_map (λ name. option_map (file_in d.dir name) (hash_of name)) d.names

-- those of all directories, in the order given
abbrev pub found : (List ℕ → Option (List ℕ)) → List DirNames → List Found
found hash_of dirs = flat_map (found_in hash_of) dirs

-- of the files with one hash only the first
abbrev pub firsts : List Found → List Found
firsts [] = []
firsts (f ∷ fs) = f ∷ filter (λ g. not (bytes_eq g.hash f.hash)) (firsts fs)

-- the pod of a meta file, with all counter files that have its hash, in order
abbrev pub pod_of : List Found → Found → Pod
pod_of counters meta = record { hash = meta.hash; meta = meta.path; counters = map (λ c. c.path) (filter (λ c. bytes_eq c.hash meta.hash) counters) }

-- the pods of directories: one for each hash in a meta name, in the order of the first meta files
abbrev pub pods_of : List DirNames → List Pod
pods_of dirs = map (pod_of (found counter_hash dirs)) (firsts (found meta_hash dirs))

-- what is held once these meta files were met: the hashes, and the pods without counter files
pub record HoldsMetas (metas : List Found) (hashes : List (List ℕ)) (pods : List Pod) : Type 0 where
  pub hashes_are : hashes ≡ map (λ f. f.hash) (firsts metas)
  pub pods_are : pods ≡ map (pod_of []) (firsts metas)

-- what is held once these counter files were met too: other hashes stand behind those of the pods
pub record HoldsCounters (metas counters : List Found) (hashes : List (List ℕ)) (pods : List Pod) : Type 0 where
  pub hashes_are : take (length (firsts metas)) hashes ≡ map (λ f. f.hash) (firsts metas)
  pub pods_are : pods ≡ map (pod_of counters) (firsts metas)
