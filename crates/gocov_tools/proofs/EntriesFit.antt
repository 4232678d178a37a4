-- How many counters the entries of a pod have.
use Rattle.std.proofs.Common.{◌≡◌, ℕ, ◌+◌, ◌≤◌, List, [], ◌∷◌, ◌++◌, length, map, All, Bool, true, false, not, Option, Some, None, refl, sym, ap, ◌∙◌, subst, arith, ◌==◌}
use Rattle.std.specs.Prelude.{sum_by, if◌then◌else◌}
use Rattle.std.specs.List.{list_any, flat_map, enumerate_from}
use Rattle.cov_table.specs.Coverage.{Coverage}
use Rattle.cov_table.specs.PodOf.{entry_out, entries_of, entries_out, counts_out, packages_out, groups_at, group_counts, function_out, package_out, unit_out, Group, pod_in, pod_of}
use Rattle.cov_table.specs.declared.pod_out.PodOut.{PodOut}
use Rattle.cov_outside.specs.declared.mode.Mode.{Mode}
use Rattle.gocov_tools.specs.Combine.{HasShortEntries}
use Rattle.std.specs.FinMap as finmap
use Rattle.std.proofs.lemmas.List.{length-map}
use Rattle.std.proofs.lemmas.List.Elements.{All-nil, All-cons, All-append, All-head, All-tail}
use Rattle.std.proofs.lemmas.List.Sums.{sum_by-cons}
use Rattle.cov_meta.specs.declared.meta.MetaFunction.{MetaFunction}
use Rattle.cov_meta.specs.declared.meta.MetaPackage.{MetaPackage}
use Rattle.cov_counter.specs.declared.entry.Entry.{Entry}
use Rattle.gocov_tools.specs.Files.{HasFewCounts}
use Rattle.gocov_tools.specs.Reading.{package_units}

abbrev pub IsShort : List ℕ → Type 0
IsShort counts = length counts ≤ 1048576

-- ---- entries of short lists

one_entry : (place i : ℕ) (counts : List ℕ) → IsShort counts → All HasFewCounts (entry_out place (i, counts))
one_entry place i counts short = either (list_any (λ n. not (n == 0)) counts)
  where
    either : (b : Bool) → All HasFewCounts (if b then record { «package» = place; function = i; counts = counts } ∷ [] else [])
    either true = All-cons HasFewCounts (record { «package» = place; function = i; counts = counts }) [] short (All-nil HasFewCounts)
    either false = All-nil HasFewCounts

function_entries : (place i : ℕ) (fs : List (List ℕ)) → All IsShort fs → All HasFewCounts (flat_map (entry_out place) (enumerate_from i fs))
function_entries place i [] h = All-nil HasFewCounts
function_entries place i (counts ∷ fs) h = All-append HasFewCounts (entry_out place (i, counts)) _ (one_entry place i counts (All-head IsShort counts fs h)) (function_entries place (i + 1) fs (All-tail IsShort counts fs h))

from : (i : ℕ) (ps : List (List (List ℕ))) → All (All IsShort) ps → All HasFewCounts (flat_map entries_of (enumerate_from i ps))
from i [] h = All-nil HasFewCounts
from i (fs ∷ ps) h = All-append HasFewCounts (entries_of (i, fs)) _ (function_entries i 0 fs (All-head (All IsShort) fs ps h)) (from (i + 1) ps (All-tail (All IsShort) fs ps h))

-- ---- the counts of a pod are short

function_counts : (fs : List MetaFunction) (cs : List (List ℕ)) (n : ℕ) → map length cs ≡ map (λ (f : MetaFunction). length f.units) fs → sum_by (λ (f : MetaFunction). length f.units) fs ≤ n → n ≤ 1048576 → All IsShort cs
function_counts fs [] n e le small = All-nil IsShort
function_counts [] (c ∷ cs) n e le small = absurd cc
function_counts (f ∷ fs) (c ∷ cs) n e le small =
    let head : length c ≡ length f.units = cc in
    let tail : map length cs ≡ map (λ (g : MetaFunction). length g.units) fs = cc in
    let sum = sum_by-cons (λ (g : MetaFunction). length g.units) f fs in
    All-cons IsShort c cs (omega arith) (function_counts fs cs n tail (omega arith) small)

pod_counts : (ps : List MetaPackage) (cs : List (List (List ℕ))) → map (λ (functions : List (List ℕ)). map length functions) cs ≡ map (λ (p : MetaPackage). map (λ (f : MetaFunction). length f.units) p.functions) ps
    → sum_by package_units ps ≤ 1048576 → All (All IsShort) cs
pod_counts ps [] e small = All-nil (All IsShort)
pod_counts [] (c ∷ cs) e small = absurd cc
pod_counts (p ∷ ps) (c ∷ cs) e small =
    let head : map length c ≡ map (λ (f : MetaFunction). length f.units) p.functions = cc in
    let tail : map (λ (functions : List (List ℕ)). map length functions) cs ≡ map (λ (q : MetaPackage). map (λ (f : MetaFunction). length f.units) q.functions) ps = cc in
    let sum = sum_by-cons package_units p ps in
    All-cons (All IsShort) c cs (function_counts p.functions c (package_units p) head (omega arith) (omega arith)) (pod_counts ps cs tail (omega arith))

-- the entries of a pod have at most as many counters as there may be units
pub entries_fit : (ps : List MetaPackage) (cs : List (List (List ℕ))) → map (λ (functions : List (List ℕ)). map length functions) cs ≡ map (λ (p : MetaPackage). map (λ (f : MetaFunction). length f.units) p.functions) ps
    → sum_by package_units ps ≤ 1048576 → All HasFewCounts (entries_out cs)
entries_fit ps cs e small = from 0 cs (pod_counts ps cs e small)

-- ---- the pod of a table

function_lengths : (gs : List Group) → map length (map group_counts gs) ≡ map (λ (f : MetaFunction). length f.units) (map function_out gs)
function_lengths [] = refl
function_lengths ((u, units) ∷ gs) =
    let head : length (group_counts (u, units)) ≡ length (function_out (u, units)).units = length-map units (λ e. e.1) ∙ sym (length-map units unit_out) in
    ap (λ (n : ℕ). n ∷ map length (map group_counts gs)) head ∙ ap (λ (ns : List ℕ). length (function_out (u, units)).units ∷ ns) (function_lengths gs)

shapes : (table : Coverage) (ps : List (List ℕ × (List ℕ × List ℕ))) → map (λ (functions : List (List ℕ)). map length functions) (map (λ p. map group_counts (groups_at table p.0)) ps)
    ≡ map (λ (p : MetaPackage). map (λ (f : MetaFunction). length f.units) p.functions) (map (λ p. package_out p (groups_at table p.0)) ps)
shapes table [] = refl
shapes table (p ∷ ps) =
    ap (λ (ns : List ℕ). ns ∷ map (λ (functions : List (List ℕ)). map length functions) (map (λ (q : List ℕ × (List ℕ × List ℕ)). map group_counts (groups_at table q.0)) ps)) (function_lengths (groups_at table p.0))
    ∙ ap (λ (ns : List (List ℕ)). map (λ (f : MetaFunction). length f.units) (map function_out (groups_at table p.0)) ∷ ns) (shapes table ps)

pub table_entries_fit : (table : Coverage) → sum_by package_units (packages_out table) ≤ 1048576 → All HasFewCounts (entries_out (counts_out table))
table_entries_fit table small = entries_fit (packages_out table) (counts_out table) (shapes table (finmap.entries table.packages)) small

of_mode : (mode : Option Mode) (table : Coverage) (pod : PodOut) → Some pod ≡ pod_in mode table → HasShortEntries pod
of_mode None table pod e = absurd cc
of_mode (Some m) table pod e =
    let is : pod ≡ record { meta = record { mode = m; packages = packages_out table }; entries = entries_out (counts_out table) } = cc in
    subst HasShortEntries (sym is) (λ small. table_entries_fit table small)

-- the pod of a table has short entries
pub short_entries : (table : Coverage) (pod : PodOut) → Some pod ≡ pod_of table → HasShortEntries pod
short_entries table pod e = of_mode table.mode table pod e
