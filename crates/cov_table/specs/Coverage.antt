-- A coverage table, and what its operations make of it.
use Rattle.std.specs.Prelude.{ℕ, Option, None, Some, List, map, refl}
use Rattle.std.specs.List.{zip, flat_map}
use Rattle.std.specs.FinMap as finmap
use Rattle.std.specs.Coded.{Coded, code_by, coded×, coded_ℕ, coded_list, coded_option}
use Rattle.cov_outside.specs.declared.mode.Mode.{Mode}
use Rattle.cov_outside.specs.contracts.mode.Mode as mode
use Rattle.cov_outside.specs.Mode.{combined}
use Rattle.cov_meta.specs.declared.meta.MetaUnit.{MetaUnit}
use Rattle.cov_meta.specs.declared.meta.MetaFunction.{MetaFunction}
use Rattle.cov_meta.specs.declared.meta.MetaPackage.{MetaPackage}
use Rattle.cov_pods.specs.declared.decoded.DecodedPod.{DecodedPod}
use Rattle.cov_table.specs.Key.{Key, key_cmp, key_code, text_cmp}
use Rattle.cov_table.specs.Counts.{with_counts}
use Rattle.cov_table.specs.Firsts.{with_firsts}

-- a count by key
abbrev pub Counts : Type 0
Counts = finmap.FinMap key_cmp ℕ

-- package name and module path by package path
abbrev pub Packages : Type 0
Packages = finmap.FinMap text_cmp (List ℕ × List ℕ)

pub record Coverage : Type 0 where
  pub mode : Option Mode
  pub counts : Counts
  pub packages : Packages

-- a table is stored as its mode and its maps
abbrev pub coverage_code : Coded Coverage
coverage_code =
    code_by (Option Mode × (Counts × Packages))
    (coded× (coded_option mode.the_row.coded) (coded× (finmap.code key_code coded_ℕ) (finmap.code (coded_list coded_ℕ) (coded× (coded_list coded_ℕ) (coded_list coded_ℕ)))))
    (λ t. (t.mode, (t.counts, t.packages)))
    (λ p. record { mode = p.0; counts = p.1.0; packages = p.1.1 })
    (λ _. refl)

-- no mode, no counts, no packages
abbrev pub empty : Coverage
empty = record { mode = None; counts = finmap.empty; packages = finmap.empty }

abbrev pub key_of : MetaPackage → MetaFunction → MetaUnit → Key
key_of p f u = record { package_path = p.path; file = f.file; function = f.name; literal = f.literal; start_line = u.start.line; start_column = u.start.column; end_line = u.end.line; end_column = u.end.column; statements = u.statements }

-- the units of a function with their counts
abbrev pub function_counts : MetaPackage → MetaFunction → List ℕ → List (Key × ℕ)
function_counts p f counts = map (λ (e : MetaUnit × ℕ). (key_of p f e.0, e.1)) (zip f.units counts)

abbrev pub package_counts : MetaPackage → List (List ℕ) → List (Key × ℕ)
package_counts p counts = flat_map (λ (e : MetaFunction × List ℕ). function_counts p e.0 e.1) (zip p.functions counts)

abbrev pub counts_of : List MetaPackage → List (List (List ℕ)) → List (Key × ℕ)
counts_of packages counts = flat_map (λ (e : MetaPackage × List (List ℕ)). package_counts e.0 e.1) (zip packages counts)

-- path, name and module path of a package
abbrev pub package_of : MetaPackage → List ℕ × (List ℕ × List ℕ)
package_of p = (p.path, (p.name, p.module))

-- with more counts in a mode, and more packages, of which those that are there already stay
abbrev pub extended : Coverage → Mode → List (Key × ℕ) → List (List ℕ × (List ℕ × List ℕ)) → Coverage
extended table mode counts packages = record { mode = Some mode; counts = with_counts (combined mode) table.counts counts; packages = with_firsts table.packages packages }

-- with the counts of a pod, which has one for each of its units
abbrev pub with_pod : Coverage → DecodedPod → Coverage
with_pod table pod = extended table pod.file.meta.mode (counts_of pod.file.meta.packages pod.counts) (map package_of pod.file.meta.packages)

-- with the counts and packages of another table, whose mode comes first; an empty one adds nothing
abbrev pub merged_in : Option Mode → Coverage → Coverage → Coverage
merged_in None table other = table
merged_in (Some mode) table other = extended table mode (finmap.entries other.counts) (finmap.entries other.packages)

abbrev pub merged : Coverage → Coverage → Coverage
merged table other = merged_in other.mode table other
