-- What pods hold, a line for each thing.
use Rattle.std.specs.Prelude.{ℕ, ◌==◌, List, [], ◌++◌, codes, decimal, if◌then◌else◌}
use Rattle.std.specs.List.{zip, enumerate_from, flat_map, after_last}
use Rattle.cov_outside.specs.Mode.{mode_name}
use Rattle.cov_meta.specs.declared.meta.MetaUnit.{MetaUnit}
use Rattle.cov_meta.specs.declared.meta.MetaFunction.{MetaFunction}
use Rattle.cov_meta.specs.declared.meta.MetaPackage.{MetaPackage}
use Rattle.cov_counter.specs.declared.head.Head.{Head}
use Rattle.cov_pods.specs.CountedPod.{CountedPod}
use Rattle.cov_report.specs.Filter.{keeps}
use Rattle.cov_report.specs.TextProfile.{place_text}

-- things by their numbers from 0, each with what is counted for it
abbrev pub numbered : {A B : Type 0} → List A → List B → List (ℕ × (A × B))
numbered things counts = enumerate_from 0 (zip things counts)

-- a word and a number behind it
abbrev pub numbered_word : List ℕ → ℕ → List ℕ
numbered_word word i = word ++ codes " " ++ decimal i ++ codes " "

-- a unit with its count: number, start, end, statements, count
abbrev pub unit_dump : ℕ × (MetaUnit × ℕ) → List ℕ
unit_dump (i, (u, n)) =
    numbered_word (codes "unit") i ++ place_text u.start.line u.start.column ++ codes "," ++ place_text u.end.line u.end.column ++ codes " " ++ decimal u.statements ++ codes " " ++ decimal n ++ codes "\n"

-- number, name, file, and whether it is a literal
abbrev pub function_head : ℕ → MetaFunction → List ℕ
function_head i f = numbered_word (codes "function") i ++ f.name ++ codes " " ++ f.file ++ (if f.literal then codes " 1\n" else codes " 0\n")

-- a function, then its units
abbrev pub function_dump : ℕ × (MetaFunction × List ℕ) → List ℕ
function_dump (i, (f, counts)) = function_head i f ++ flat_map unit_dump (numbered f.units counts)

-- number, name, path and module path
abbrev pub package_head : ℕ → MetaPackage → List ℕ
package_head i p = numbered_word (codes "package") i ++ p.name ++ codes " " ++ p.path ++ codes " " ++ p.«module» ++ codes "\n"

-- a package that is kept, then its functions; one that isn't has its number, but no line
abbrev pub package_dump : List (List ℕ) → ℕ × (MetaPackage × List (List ℕ)) → List ℕ
package_dump patterns (i, (p, counts)) = if keeps patterns p.path then package_head i p ++ flat_map function_dump (numbered p.functions counts) else []

-- what stands behind the last slash of a path
abbrev pub file_name : List ℕ → List ℕ
file_name path = after_last (λ c. c == 47) path

-- a counter file: its name, flavour, function entries and argument pairs
abbrev pub counter_line : List ℕ × Head → List ℕ
counter_line (path, head) =
    codes "counters " ++ file_name path ++ codes " flavour " ++ decimal head.flavour ++ codes " functions " ++ decimal head.entries ++ codes " args " ++ decimal head.args ++ codes "\n"

-- a pod's hash and mode
abbrev pub pod_line : CountedPod → List ℕ
pod_line p = codes "pod " ++ p.pod.hash ++ codes " mode " ++ mode_name p.file.meta.mode ++ codes "\n"

-- that line, the pod's packages, then its counter files
abbrev pub pod_dump : List (List ℕ) → CountedPod → List ℕ
pod_dump patterns p = pod_line p ++ flat_map (package_dump patterns) (numbered p.file.meta.packages p.counts) ++ flat_map counter_line (zip p.pod.counters p.heads)

-- each pod in order
abbrev pub dump_of : List CountedPod → List (List ℕ) → List ℕ
dump_of pods patterns = flat_map (pod_dump patterns) pods
