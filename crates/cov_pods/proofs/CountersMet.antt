-- The pods of meta files, where one more counter file comes.
use Rattle.std.proofs.Common.{◌≡◌, ℕ, zero, suc, ◌+◌, ◌<◌, ◌≤◌, Bool, true, false, cond, not, List, [], ◌∷◌, ◌++◌, All, map, length, get_or, set, refl, sym, ap, ◌∙◌, arith}
use Rattle.std.specs.Prelude.{filter}
use Rattle.std.specs.List.{position_or_len}
use Rattle.std.specs.Str.{bytes_eq}
use Rattle.std.specs.Cmp.Lexicographic.{nat_list_eq_equiv}
use Rattle.std.proofs.lemmas.List.{append-nil, map_push}
use Rattle.std.proofs.lemmas.List.Elements.{filter-append, All-head, All-tail, All-weaker}
use Rattle.cov_pods.specs.declared.pod.Pod.{Pod}
use Rattle.cov_pods.specs.Pods.{Found, pod_of}
use Rattle.cov_pods.proofs.Firsts.{AreApart}

abbrev has : Found → Found → Bool
has m c = bytes_eq c.hash m.hash

-- a counter file of another hash leaves a pod as it is
other_pod : (seen : List Found) (c m : Found) → has m c ≡ false → pod_of (seen ++ c ∷ []) m ≡ pod_of seen m
other_pod seen c m other =
    ap (λ (t : List Found). record { hash = m.hash; meta = m.path; counters = map (λ (f : Found). f.path) t })
    (filter-append (has m) seen (c ∷ []) ∙ ap (λ (b : Bool). filter (has m) seen ++ cond b (c ∷ []) []) other ∙ append-nil (filter (has m) seen))

-- one of its hash comes last among its counter files
pub same_pod : (seen : List Found) (c m : Found) → has m c ≡ true → (pod_of (seen ++ c ∷ []) m).counters ≡ (pod_of seen m).counters ++ c.path ∷ []
same_pod seen c m same =
    ap (map (λ (f : Found). f.path))
    (filter-append (has m) seen (c ∷ []) ∙ ap (λ (b : Bool). filter (has m) seen ++ cond b (c ∷ []) []) same)
    ∙ map_push (λ (f : Found). f.path) (filter (has m) seen) c

others : (seen : List Found) (c : Found) (ms : List Found) → All (λ m. has m c ≡ false) ms → map (pod_of (seen ++ c ∷ [])) ms ≡ map (pod_of seen) ms
others seen c [] h = refl
others seen c (m ∷ ms) h =
    ap (λ (p : Pod). p ∷ map (pod_of (seen ++ c ∷ [])) ms) (other_pod seen c m (All-head (λ m. has m c ≡ false) m ms h))
    ∙ ap (λ (t : List Pod). pod_of seen m ∷ t) (others seen c ms (All-tail (λ m. has m c ≡ false) m ms h))

at_zero : (b : Bool) (n : ℕ) → cond (not b) (1 + n) 0 ≡ 0 → b ≡ true
at_zero true n e = refl
at_zero false n e = absurd (omega arith)

at_suc : (b : Bool) (n i : ℕ) → cond (not b) (1 + n) 0 ≡ suc i → (b ≡ false) × (n ≡ i)
at_suc true n i e = absurd (omega arith)
at_suc false n i e = (refl, omega arith)

-- the place of a counter file's hash among the meta files
abbrev pub place_among : Found → List Found → ℕ
place_among c ms = position_or_len (bytes_eq c.hash) (map (λ (f : Found). f.hash) ms)

-- a counter file whose hash no pod has
pub orphan : (seen : List Found) (c : Found) (ms : List Found) → length ms ≤ place_among c ms → map (pod_of (seen ++ c ∷ [])) ms ≡ map (pod_of seen) ms
orphan seen c [] h = refl
orphan seen c (m ∷ ms) h =
    let parts : (b : Bool) → length (m ∷ ms) ≤ cond (not b) (1 + place_among c ms) 0 → (b ≡ false) × (length ms ≤ place_among c ms) = λ b le. elim b as (λ b. length (m ∷ ms) ≤ cond (not b) (1 + place_among c ms) 0 → (b ≡ false) × (length ms ≤ place_among c ms)) [ true ↦ λ e. absurd (omega arith) | false ↦ λ e. (refl, omega arith) ] le in
    let p = parts (has m c) h in
    ap (λ (p : Pod). p ∷ map (pod_of (seen ++ c ∷ [])) ms) (other_pod seen c m p.0)
    ∙ ap (λ (t : List Pod). pod_of seen m ∷ t) (orphan seen c ms p.1)

-- a counter file changes only the pod with its hash
pub taken : (seen : List Found) (c : Found) (ms : List Found) (i : ℕ) (new : Pod) → AreApart ms → place_among c ms ≡ i → i < length ms
    → new ≡ pod_of (seen ++ c ∷ []) (get_or ms i c) → set (map (pod_of seen) ms) i new ≡ map (pod_of (seen ++ c ∷ [])) ms
taken seen c [] i new apart place lt is = absurd (omega arith)
taken seen c (m ∷ ms) zero new apart place lt is =
    let same : has m c ≡ true = at_zero (has m c) (place_among c ms) place in
    let rest : All (λ g. has g c ≡ false) ms = All-weaker (λ g. bytes_eq g.hash m.hash ≡ false) (λ g. has g c ≡ false) (λ g e. nat_list_eq_equiv.congr c.hash m.hash g.hash same ∙ nat_list_eq_equiv.symm m.hash g.hash ∙ e) ms apart.0 in
    ap (λ (p : Pod). p ∷ map (pod_of seen) ms) is
    ∙ ap (λ (t : List Pod). pod_of (seen ++ c ∷ []) m ∷ t) (sym (others seen c ms rest))
taken seen c (m ∷ ms) (suc i) new apart place lt is =
    let p = at_suc (has m c) (place_among c ms) i place in
    ap (λ (t : List Pod). pod_of seen m ∷ t) (taken seen c ms i new apart.1 p.1 (omega arith) is)
    ∙ ap (λ (p : Pod). p ∷ map (pod_of (seen ++ c ∷ [])) ms) (sym (other_pod seen c m p.0))

-- the hash of the pod at that place is the counter file's
pub has_place : (c : Found) (ms : List Found) (i : ℕ) → place_among c ms ≡ i → i < length ms → has (get_or ms i c) c ≡ true
has_place c [] i place lt = absurd (omega arith)
has_place c (m ∷ ms) zero place lt = at_zero (has m c) (place_among c ms) place
has_place c (m ∷ ms) (suc i) place lt = has_place c ms i (at_suc (has m c) (place_among c ms) i place).1 (omega arith)
