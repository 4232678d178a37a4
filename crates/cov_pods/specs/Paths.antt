-- Paths of names in directories.
use Rattle.std.specs.Prelude.{ℕ, List, ◌∷◌, ◌++◌, All}
use Rattle.std.specs.Str.{IsUtf8}
use Rattle.cov_pods.specs.declared.pod.DirNames.{DirNames}
use Rattle.cov_pods.specs.declared.pod.Pod.{Pod}

-- the directory, a slash and the name
abbrev pub path_in : List ℕ → List ℕ → List ℕ
path_in dir name = dir ++ 47 ∷ name

-- the directory is UTF-8
abbrev pub HasTextDir : DirNames → Type 0
HasTextDir d = IsUtf8 d.dir

-- the paths of the pod are UTF-8
abbrev pub HasTextPaths : Pod → Type 0
HasTextPaths pod = IsUtf8 pod.meta × All IsUtf8 pod.counters
