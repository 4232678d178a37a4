-- The directories of a command, and the meta and counter files in them.
use Rattle.std.specs.Prelude.{ℕ, Bool, ◌||◌, List, Result, Ok, map, sum_by, count_by, is_some}
use Rattle.cov_bytes.specs.Many.{◌>>=◌}
use Rattle.cov_outside.specs.Tree.{Tree, names_in}
use Rattle.cov_outside.specs.declared.limit.Which.TheVariants.{DataFiles}
use Rattle.cov_pods.specs.declared.pod.DirNames.{DirNames}
use Rattle.cov_pods.specs.Names.{meta_hash, counter_hash}
use Rattle.gocov_tools.specs.Refusals.{within}
use Rattle.gocov_tools.specs.declared.refusal.Refusal.{Refusal}

-- a directory with the names of its files
abbrev pub dir_in : Tree → List ℕ → DirNames
dir_in t dir = record { dir = dir; names = names_in dir t }

-- directories in the order given
abbrev pub dirs_in : Tree → List (List ℕ) → List DirNames
dirs_in t dirs = map (dir_in t) dirs

-- a meta name or a counter name
abbrev pub is_data_name : List ℕ → Bool
is_data_name name = is_some (meta_hash name) || is_some (counter_hash name)

abbrev pub data_files_in : DirNames → ℕ
data_files_in d = count_by is_data_name d.names

-- how many meta and counter files there are
abbrev pub data_files : List DirNames → ℕ
data_files dirs = sum_by data_files_in dirs

-- the names of the directories, among which there are at most 65,536 meta and counter names
unfoldable pub listing : Tree → List (List ℕ) → Result (List DirNames) Refusal
listing t dirs = do
  few ← within DataFiles (data_files (dirs_in t dirs))
  Ok (dirs_in t dirs)
