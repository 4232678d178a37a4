-- What is held of the pods once one more file was met.
use Rattle.std.proofs.Common.{◌≡◌, ℕ, zero, suc, ◌+◌, ◌<◌, ◌≤◌, ◌≢◌, min, Bool, true, false, cond, not, List, [], ◌∷◌, ◌++◌, map, length, get_or, set, take, refl, sym, ap, ◌∙◌, ◌||◌, arith, ⊎_elim, length-take}
use Rattle.std.specs.List.{list_any}
use Rattle.std.specs.Str.{bytes_eq}
use Rattle.std.proofs.lemmas.Bool.{cases_Bool}
use Rattle.std.proofs.lemmas.List.{length-map, get_or-map, map_push, take-append-le, take_all}
use Rattle.cov_bytes.specs.Intern.{index_of, with_text}
use Rattle.cov_pods.specs.declared.pod.Pod.{Pod}
use Rattle.cov_pods.specs.Pods.{Found, firsts, pod_of, HoldsMetas, HoldsCounters}
use Rattle.cov_pods.proofs.Firsts.{is_met, firsts_push, firsts_apart}
use Rattle.cov_pods.proofs.CountersMet.{place_among, same_pod, orphan, taken, has_place}

-- a text is among others exactly where its place is below their number
met_is : (text : List ℕ) (xs : List (List ℕ)) → list_any (bytes_eq text) xs ≡ true → index_of xs text < length xs
met_is text [] h = absurd cc
met_is text (x ∷ xs) h =
    elim (bytes_eq text x) as (λ b. (b || list_any (bytes_eq text) xs) ≡ true → cond (not b) (1 + index_of xs text) 0 < suc (length xs)) [
      | true ↦ λ e. omega arith
      | false ↦ λ e. let rest = met_is text xs e in omega arith
    ] h

unmet_is : (text : List ℕ) (xs : List (List ℕ)) → list_any (bytes_eq text) xs ≡ false → index_of xs text ≡ length xs
unmet_is text [] h = refl
unmet_is text (x ∷ xs) h =
    elim (bytes_eq text x) as (λ b. (b || list_any (bytes_eq text) xs) ≡ false → cond (not b) (1 + index_of xs text) 0 ≡ suc (length xs)) [
      | true ↦ λ e. absurd cc
      | false ↦ λ e. let rest = unmet_is text xs e in omega arith
    ] h

met_map : (g : Found) (fs : List Found) → list_any (bytes_eq g.hash) (map (λ (f : Found). f.hash) fs) ≡ is_met g fs
met_map g [] = refl
met_map g (f ∷ fs) = ap (λ (b : Bool). bytes_eq g.hash f.hash || b) (met_map g fs)

-- a meta file of a new hash makes a pod
pub meta_new : (metas : List Found) (hashes : List (List ℕ)) (pods : List Pod) (f : Found) → index_of hashes f.hash ≡ length pods → HoldsMetas metas hashes pods
    → HoldsMetas (metas ++ f ∷ []) (with_text hashes f.hash) (pods ++ pod_of [] f ∷ [])
meta_new metas hashes pods f new h =
    let hashes_len : length hashes ≡ length (firsts metas) = ap length h.hashes_are ∙ length-map (firsts metas) (λ (g : Found). g.hash) in
    let pods_len : length pods ≡ length (firsts metas) = ap length h.pods_are ∙ length-map (firsts metas) (pod_of []) in
    let unmet : list_any (bytes_eq f.hash) hashes ≡ false = ⊎_elim (λ e. let lt = met_is f.hash hashes e in absurd (omega arith)) (λ e. e) (cases_Bool (list_any (bytes_eq f.hash) hashes)) in
    let fresh : is_met f (firsts metas) ≡ false = sym (met_map f (firsts metas)) ∙ ap (list_any (bytes_eq f.hash)) (sym h.hashes_are) ∙ unmet in
    let more : firsts (metas ++ f ∷ []) ≡ firsts metas ++ f ∷ [] = firsts_push metas f ∙ ap (λ (b : Bool). cond b (firsts metas) (firsts metas ++ f ∷ [])) fresh in
    record {
      hashes_are = ap (λ (b : Bool). cond b hashes (hashes ++ f.hash ∷ [])) unmet ∙ ap (λ (t : List (List ℕ)). t ++ f.hash ∷ []) h.hashes_are ∙ sym (ap (map (λ (g : Found). g.hash)) more ∙ map_push (λ (g : Found). g.hash) (firsts metas) f);
      pods_are = ap (λ (t : List Pod). t ++ pod_of [] f ∷ []) h.pods_are ∙ sym (ap (map (pod_of [])) more ∙ map_push (pod_of []) (firsts metas) f);
    }

-- one of a known hash makes none
pub meta_known : (metas : List Found) (hashes : List (List ℕ)) (pods : List Pod) (f : Found) → index_of hashes f.hash ≢ length pods → HoldsMetas metas hashes pods
    → HoldsMetas (metas ++ f ∷ []) (with_text hashes f.hash) pods
meta_known metas hashes pods f known h =
    let hashes_len : length hashes ≡ length (firsts metas) = ap length h.hashes_are ∙ length-map (firsts metas) (λ (g : Found). g.hash) in
    let pods_len : length pods ≡ length (firsts metas) = ap length h.pods_are ∙ length-map (firsts metas) (pod_of []) in
    let met : list_any (bytes_eq f.hash) hashes ≡ true = ⊎_elim (λ e. e) (λ e. let at_end = unmet_is f.hash hashes e in absurd (known (omega arith))) (cases_Bool (list_any (bytes_eq f.hash) hashes)) in
    let old : is_met f (firsts metas) ≡ true = sym (met_map f (firsts metas)) ∙ ap (list_any (bytes_eq f.hash)) (sym h.hashes_are) ∙ met in
    let same : firsts (metas ++ f ∷ []) ≡ firsts metas = firsts_push metas f ∙ ap (λ (b : Bool). cond b (firsts metas) (firsts metas ++ f ∷ [])) old in
    record {
      hashes_are = ap (λ (b : Bool). cond b hashes (hashes ++ f.hash ∷ [])) met ∙ h.hashes_are ∙ sym (ap (map (λ (g : Found). g.hash)) same);
      pods_are = h.pods_are ∙ sym (ap (map (pod_of [])) same);
    }

-- the place of a text among the first of others
place_front : (text : List ℕ) (n : ℕ) (xs : List (List ℕ)) → index_of (take n xs) text ≡ min n (index_of xs text)
place_front text zero xs = sym (omega arith)
place_front text (suc n) [] = omega arith
place_front text (suc n) (x ∷ xs) =
    let rest = place_front text n xs in
    elim (bytes_eq text x) as (λ b. cond (not b) (1 + index_of (take n xs) text) 0 ≡ min (suc n) (cond (not b) (1 + index_of xs text) 0)) [
      | true ↦ omega arith
      | false ↦ omega arith
    ]

-- one more text stands behind the others
front_stays : (text : List ℕ) (n : ℕ) (xs : List (List ℕ)) → n ≤ length xs → take n (with_text xs text) ≡ take n xs
front_stays text n xs le =
    elim (list_any (bytes_eq text) xs) as (λ b. take n (cond b xs (xs ++ text ∷ [])) ≡ take n xs) [
      | true ↦ refl
      | false ↦ take-append-le n xs (text ∷ []) le
    ]

front_is : (metas seen : List Found) (hashes : List (List ℕ)) (pods : List Pod) (f : Found) → HoldsCounters metas seen hashes pods
    → take (length (firsts metas)) (with_text hashes f.hash) ≡ map (λ (g : Found). g.hash) (firsts metas)
front_is metas seen hashes pods f h =
    let long : min (length (firsts metas)) (length hashes) ≡ length (firsts metas) = sym (length-take (length (firsts metas)) hashes) ∙ ap length h.hashes_are ∙ length-map (firsts metas) (λ (g : Found). g.hash) in
    front_stays f.hash (length (firsts metas)) hashes (omega arith) ∙ h.hashes_are

place_is : (metas seen : List Found) (hashes : List (List ℕ)) (pods : List Pod) (f : Found) → HoldsCounters metas seen hashes pods
    → place_among f (firsts metas) ≡ min (length (firsts metas)) (index_of hashes f.hash)
place_is metas seen hashes pods f h = ap (λ (t : List (List ℕ)). index_of t f.hash) (sym h.hashes_are) ∙ place_front f.hash (length (firsts metas)) hashes

pods_long : (metas seen : List Found) (hashes : List (List ℕ)) (pods : List Pod) → HoldsCounters metas seen hashes pods → length pods ≡ length (firsts metas)
pods_long metas seen hashes pods h = ap length h.pods_are ∙ length-map (firsts metas) (pod_of seen)

-- a counter file without a meta file is in no pod
pub counter_skipped : (metas seen : List Found) (hashes : List (List ℕ)) (pods : List Pod) (f : Found) → length pods ≤ index_of hashes f.hash → HoldsCounters metas seen hashes pods
    → HoldsCounters metas (seen ++ f ∷ []) (with_text hashes f.hash) pods
counter_skipped metas seen hashes pods f past h =
    let place = place_is metas seen hashes pods f h in
    let long = pods_long metas seen hashes pods h in
    record {
      hashes_are = front_is metas seen hashes pods f h;
      pods_are = h.pods_are ∙ sym (orphan seen f (firsts metas) (omega arith));
    }

same_parts : (p q : Pod) → p.hash ≡ q.hash → p.meta ≡ q.meta → p.counters ≡ q.counters → p ≡ q
same_parts p q hash meta counters =
    let first : p ≡ record { hash = q.hash; meta = p.meta; counters = p.counters } = ap (λ (t : List ℕ). record { hash = t; meta = p.meta; counters = p.counters }) hash in
    let second : record { hash = q.hash; meta = p.meta; counters = p.counters } ≡ record { hash = q.hash; meta = q.meta; counters = p.counters } = ap (λ (t : List ℕ). record { hash = q.hash; meta = t; counters = p.counters }) meta in
    first ∙ second ∙ ap (λ (t : List (List ℕ)). record { hash = q.hash; meta = q.meta; counters = t }) counters

-- one with a meta file goes to the pod with its hash
pub counter_taken : (metas seen : List Found) (hashes : List (List ℕ)) (pods : List Pod) (f : Found) (i : ℕ) (was new : Pod) → i ≡ index_of hashes f.hash → i < length pods → was ≡ get_or pods i was
    → new.hash ≡ was.hash → new.meta ≡ was.meta → new.counters ≡ was.counters ++ f.path ∷ [] → HoldsCounters metas seen hashes pods
    → HoldsCounters metas (seen ++ f ∷ []) (with_text hashes f.hash) (set pods i new)
counter_taken metas seen hashes pods f i was new place lt is hash meta counters h =
    let among = place_is metas seen hashes pods f h in
    let long = pods_long metas seen hashes pods h in
    let at : place_among f (firsts metas) ≡ i = omega arith in
    let within : i < length (firsts metas) = omega arith in
    let held : was ≡ pod_of seen (get_or (firsts metas) i f) = is ∙ ap (λ (t : List Pod). get_or t i was) h.pods_are ∙ get_or-map (pod_of seen) (firsts metas) i f was within in
    let its : new ≡ pod_of (seen ++ f ∷ []) (get_or (firsts metas) i f) = same_parts new (pod_of (seen ++ f ∷ []) (get_or (firsts metas) i f)) (hash ∙ ap (λ (p : Pod). p.hash) held) (meta ∙ ap (λ (p : Pod). p.meta) held)
    (counters ∙ ap (λ (p : Pod). p.counters ++ f.path ∷ []) held ∙ sym (same_pod seen f (get_or (firsts metas) i f) (has_place f (firsts metas) i at within))) in
    record {
      hashes_are = front_is metas seen hashes pods f h;
      pods_are = ap (λ (t : List Pod). set t i new) h.pods_are ∙ taken seen f (firsts metas) i new (firsts_apart metas) at within its;
    }

-- before the first counter file
pub counters_none : (metas : List Found) (hashes : List (List ℕ)) (pods : List Pod) → HoldsMetas metas hashes pods → HoldsCounters metas [] hashes pods
counters_none metas hashes pods h =
    let long : length hashes ≡ length (firsts metas) = ap length h.hashes_are ∙ length-map (firsts metas) (λ (g : Found). g.hash) in
    record {
      hashes_are = take_all (length (firsts metas)) hashes (omega arith) ∙ h.hashes_are;
      pods_are = h.pods_are;
    }
