-- Reading all files of a pod.
use Rattle.std.proofs.Common.{◌≡◌, ℕ, ◌+◌, ◌<◌, ◌≤◌, List, [], ◌∷◌, ◌++◌, map, length, drop, get_or, Option, Result, Ok, Err, refl, sym, ap, ◌∙◌, subst, append_assoc}
use Rattle.std.specs.Prelude.{IfSome, flat_map}
use Rattle.std.specs.FinMap as finmap
use Rattle.std.proofs.lemmas.List.{drop_more, drop_all, append-nil, map-append}
use Rattle.std.proofs.lemmas.List.Concat.{flat_map-append}
use Rattle.cov_bytes.specs.Many.{◌>>=◌}
use Rattle.cov_outside.specs.Tree.{Tree}
use Rattle.cov_outside.specs.Whole.{whole_file}
use Rattle.cov_outside.specs.declared.mode.Mode.{Mode}
use Rattle.cov_meta.specs.declared.meta.MetaFile.{MetaFile}
use Rattle.cov_counter.specs.declared.entry.Entry.{Entry}
use Rattle.cov_counter.specs.declared.head.Head.{Head}
use Rattle.cov_pods.specs.declared.fault.PodFault.{PodFault}
use Rattle.cov_pods.specs.declared.pod.Pod.{Pod}
use Rattle.cov_pods.specs.Decoding.{Fails, IsFaultOf, counters_in, all_counters, from_whole, meta_in, meta_file_in, decoded}
use Rattle.cov_pods.specs.PodCounts.{Grows, pod_counts}
use Rattle.cov_pods.proofs.Told.{some_also, some_both, failed_told, further}

-- ---- counter files

-- what was read before, and what is still read
abbrev pub with_front : {A E : Type 0} → List A → Result (List A) E → Result (List A) E
with_front front read = read >>= λ more. Ok (front ++ more)

regroup : {A E : Type 0} (front : List A) (x : A) (read : Result (List A) E) → with_front front (read >>= λ more. Ok (x ∷ more)) ≡ with_front (front ++ x ∷ []) read
regroup {A = A} front x (Ok more) = ap (λ (xs : List A). Ok xs) (sym (append_assoc front (x ∷ []) more))
regroup front x (Err e) = refl

-- the files before a place were read and added, and the others are still read
abbrev pub SoFar : MetaFile → List (List (List ℕ)) → List (List (List ℕ)) → List Head → List (List ℕ) → ℕ → Tree → Type 0
SoFar file counts counted heads paths i t = (found : List (Head × List Entry)) × (with_front found (all_counters file t (drop i paths)) ≡ all_counters file t paths) × ((heads ≡ map (λ c. c.0) found) × Grows file.meta counts counted (flat_map (λ c. c.1) found))

pub nothing_yet : (file : MetaFile) (counts : List (List (List ℕ))) (heads : List Head) (paths : List (List ℕ)) (t : Tree) → heads ≡ [] → SoFar file counts counts heads paths 0 t
nothing_yet file counts heads paths t none =
    ([], as_it_is (all_counters file t paths), (none, λ seen is. is ∙ ap (pod_counts file.meta) (sym (append-nil seen))))
  where
    as_it_is : {A E : Type 0} (read : Result (List A) E) → with_front [] read ≡ read
    as_it_is (Ok more) = refl
    as_it_is (Err e) = refl

first_fails : (file : MetaFile) (t : Tree) (path : List ℕ) (paths : List (List ℕ)) (f : PodFault) → counters_in file path (finmap.get t path) ≡ Err f → all_counters file t (path ∷ paths) ≡ Err f
unfolding all_counters
first_fails file t path paths f is = rw is refl

first_read : (file : MetaFile) (t : Tree) (path : List ℕ) (paths : List (List ℕ)) (x : Head × List Entry) → counters_in file path (finmap.get t path) ≡ Ok x
    → all_counters file t (path ∷ paths) ≡ (all_counters file t paths >>= λ more. Ok (x ∷ more))
unfolding all_counters
first_read file t path paths x is = rw is refl

none_left : (file : MetaFile) (t : Tree) → all_counters file t [] ≡ Ok []
unfolding all_counters
none_left file t = refl

next_path : (paths : List (List ℕ)) (i : ℕ) (path : List ℕ) → i < length paths → path ≡ get_or paths i path → drop i paths ≡ path ∷ drop (i + 1) paths
next_path paths i path lt is = drop_more paths i path lt ∙ ap (λ (p : List ℕ). p ∷ drop (i + 1) paths) (sym is)

pub files_fail : (o now : Option Tree) (file : MetaFile) (counts counted : List (List (List ℕ))) (heads : List Head) (paths : List (List ℕ)) (i : ℕ) (path : List ℕ) (e : PodFault) → now ≡ o → i < length paths → path ≡ get_or paths i path
    → IfSome o (SoFar file counts counted heads paths i) → IfSome now (λ t. IsFaultOf e (counters_in file path (finmap.get t path))) → IfSome o (λ t. IsFaultOf e (all_counters file t paths))
files_fail o now file counts counted heads paths i path e same lt is so_far told =
    some_both _ _ _ o fails so_far (subst (λ (x : Option Tree). IfSome x (λ t. IsFaultOf e (counters_in file path (finmap.get t path)))) same told)
  where
    fails : (t : Tree) → SoFar file counts counted heads paths i t → IsFaultOf e (counters_in file path (finmap.get t path)) → IsFaultOf e (all_counters file t paths)
    fails t p h = further e (counters_in file path (finmap.get t path)) (all_counters file t paths)
        (λ f there. sym p.1 ∙ ap (λ (ps : List (List ℕ)). with_front p.0 (all_counters file t ps)) (next_path paths i path lt is) ∙ ap (with_front p.0) (first_fails file t path (drop (i + 1) paths) f there)) h

-- a file was read and added
abbrev pub Adds : MetaFile → List ℕ → List (List (List ℕ)) → List (List (List ℕ)) → Head → Tree → Type 0
Adds file path counts counted head t = (y : Head × List Entry) × (counters_in file path (finmap.get t path) ≡ Ok y) × ((y.0 ≡ head) × Grows file.meta counts counted y.1)

pub files_more : (o now : Option Tree) (file : MetaFile) (counts counted new : List (List (List ℕ))) (heads all : List Head) (head : Head) (paths : List (List ℕ)) (i : ℕ) (path : List ℕ) → now ≡ o → i < length paths → path ≡ get_or paths i path
    → all ≡ heads ++ head ∷ [] → IfSome o (SoFar file counts counted heads paths i) → IfSome now (Adds file path counted new head) → IfSome o (SoFar file counts new all paths (i + 1))
files_more o now file counts counted new heads all head paths i path same lt is push so_far told =
    some_both _ _ _ o more so_far (subst (λ (x : Option Tree). IfSome x (Adds file path counted new head)) same told)
  where
    more : (t : Tree) → SoFar file counts counted heads paths i t → Adds file path counted new head t → SoFar file counts new all paths (i + 1) t
    more t p q =
        let read = first_read file t path (drop (i + 1) paths) q.0 q.1 in
        let left : with_front p.0 (all_counters file t (drop i paths)) ≡ with_front (p.0 ++ q.0 ∷ []) (all_counters file t (drop (i + 1) paths)) =
        ap (λ (ps : List (List ℕ)). with_front p.0 (all_counters file t ps)) (next_path paths i path lt is) ∙ ap (with_front p.0) read ∙ regroup p.0 q.0 (all_counters file t (drop (i + 1) paths)) in
        let heads_are : all ≡ map (λ (c : Head × List Entry). c.0) (p.0 ++ q.0 ∷ []) =
        push ∙ ap (λ (hs : List Head). hs ++ head ∷ []) p.2.0 ∙ ap (λ (h : Head). map (λ (c : Head × List Entry). c.0) p.0 ++ h ∷ []) (sym q.2.0) ∙ sym (map-append (λ (c : Head × List Entry). c.0) p.0 (q.0 ∷ [])) in
        (p.0 ++ q.0 ∷ [], sym left ∙ p.1, (heads_are, λ seen was. grown seen was))
      where
        grown : (seen : List Entry) → counts ≡ pod_counts file.meta seen → new ≡ pod_counts file.meta (seen ++ flat_map (λ (c : Head × List Entry). c.1) (p.0 ++ q.0 ∷ []))
        grown seen was =
            let both = q.2.1 (seen ++ flat_map (λ (c : Head × List Entry). c.1) p.0) (p.2.1 seen was) in
            let joined : flat_map (λ (c : Head × List Entry). c.1) p.0 ++ q.0.1 ≡ flat_map (λ (c : Head × List Entry). c.1) (p.0 ++ q.0 ∷ []) =
            ap (λ (es : List Entry). flat_map (λ (c : Head × List Entry). c.1) p.0 ++ es) (sym (append-nil q.0.1)) ∙ sym (flat_map-append (λ (c : Head × List Entry). c.1) p.0 (q.0 ∷ [])) in
            both ∙ ap (pod_counts file.meta) (append_assoc seen (flat_map (λ (c : Head × List Entry). c.1) p.0) q.0.1 ∙ ap (λ (es : List Entry). seen ++ es) joined)

pub files_done : (o : Option Tree) (file : MetaFile) (counts counted : List (List (List ℕ))) (heads : List Head) (paths : List (List ℕ)) (i : ℕ) → length paths ≤ i → IfSome o (SoFar file counts counted heads paths i)
    → IfSome o (λ t. (y : List (Head × List Entry)) × (all_counters file t paths ≡ Ok y) × ((heads ≡ map (λ c. c.0) y) × Grows file.meta counts counted (flat_map (λ c. c.1) y)))
files_done o file counts counted heads paths i le so_far = some_also _ _ o done so_far
  where
    done : (t : Tree) → SoFar file counts counted heads paths i t → (y : List (Head × List Entry)) × (all_counters file t paths ≡ Ok y) × ((heads ≡ map (λ c. c.0) y) × Grows file.meta counts counted (flat_map (λ c. c.1) y))
    done t p =
        let end : with_front p.0 (all_counters file t (drop i paths)) ≡ Ok (p.0 ++ []) =
        ap (λ (ps : List (List ℕ)). with_front p.0 (all_counters file t ps)) (drop_all i paths le) ∙ ap (with_front p.0) (none_left file t) in
        (p.0, sym p.1 ∙ end ∙ ap (λ (xs : List (Head × List Entry)). Ok xs) (append-nil p.0), p.2)

-- ---- the meta file

bytes_fail : (path : List ℕ) (wanted : Option Mode) (there : Option (List ℕ)) (e : PodFault) → IsFaultOf e (from_whole path (whole_file 268435456 there)) → IsFaultOf e (meta_file_in path wanted there)
unfolding meta_file_in
bytes_fail path wanted there e h = further e (from_whole path (whole_file 268435456 there)) _ (λ f is. rw is refl) h

file_fails : (path : List ℕ) (wanted : Option Mode) (there : Option (List ℕ)) (bytes : List ℕ) (e : PodFault) → from_whole path (whole_file 268435456 there) ≡ Ok bytes → IsFaultOf e (meta_in path wanted bytes)
    → IsFaultOf e (meta_file_in path wanted there)
unfolding meta_file_in
file_fails path wanted there bytes e read h = further e (meta_in path wanted bytes) _ (λ f is. rw (read, is) refl) h

file_is : (path : List ℕ) (wanted : Option Mode) (there : Option (List ℕ)) (bytes : List ℕ) (file : MetaFile) → from_whole path (whole_file 268435456 there) ≡ Ok bytes → meta_in path wanted bytes ≡ Ok file
    → meta_file_in path wanted there ≡ Ok (bytes, file)
unfolding meta_file_in
file_is path wanted there bytes file read is = rw (read, is) refl

-- the bytes at a path
abbrev pub Reads : List ℕ → List ℕ → Tree → Type 0
Reads path bytes t = (y : List ℕ) × (from_whole path (whole_file 268435456 (finmap.get t path)) ≡ Ok y) × (y ≡ bytes)

pub meta_bytes_fail : (o : Option Tree) (path : List ℕ) (wanted : Option Mode) (e : PodFault) → IfSome o (λ t. IsFaultOf e (from_whole path (whole_file 268435456 (finmap.get t path))))
    → IfSome o (λ t. IsFaultOf e (meta_file_in path wanted (finmap.get t path)))
meta_bytes_fail o path wanted e told = some_also _ _ o (λ t h. bytes_fail path wanted (finmap.get t path) e h) told

pub meta_fails : (o : Option Tree) (path : List ℕ) (wanted : Option Mode) (bytes seen : List ℕ) (e : PodFault) → seen ≡ bytes → IfSome o (Reads path bytes) → Fails e (meta_in path wanted seen)
    → IfSome o (λ t. IsFaultOf e (meta_file_in path wanted (finmap.get t path)))
meta_fails o path wanted bytes seen e same told fails =
    some_also _ _ o (λ t h. file_fails path wanted (finmap.get t path) h.0 e h.1 (subst (λ (b : List ℕ). IsFaultOf e (meta_in path wanted b)) (same ∙ sym h.2) (failed_told e (meta_in path wanted seen) fails))) told

pub meta_is : (o : Option Tree) (path : List ℕ) (wanted : Option Mode) (bytes seen : List ℕ) (file : MetaFile) → seen ≡ bytes → IfSome o (Reads path bytes) → meta_in path wanted seen ≡ Ok file
    → IfSome o (λ t. (y : List ℕ × MetaFile) × (meta_file_in path wanted (finmap.get t path) ≡ Ok y) × (y ≡ (bytes, file)))
meta_is o path wanted bytes seen file same told is =
    some_also _ _ o (λ t h. ((h.0, file), file_is path wanted (finmap.get t path) h.0 file h.1 (subst (λ (b : List ℕ). meta_in path wanted b ≡ Ok file) (same ∙ sym h.2) is), ap (λ (b : List ℕ). (b, file)) h.2)) told

-- ---- the pod

-- the bytes of its meta file, and what they say
abbrev pub Meta_is : Pod → Option Mode → List ℕ → MetaFile → Tree → Type 0
Meta_is pod wanted bytes file t = (y : List ℕ × MetaFile) × (meta_file_in pod.meta wanted (finmap.get t pod.meta) ≡ Ok y) × (y ≡ (bytes, file))

-- what counter files count, and their heads
abbrev pub Counted : List (List ℕ) → MetaFile → List (List (List ℕ)) → List Head → Tree → Type 0
Counted paths file counts heads t = (y : List (Head × List Entry)) × (all_counters file t paths ≡ Ok y) × ((counts ≡ pod_counts file.meta (flat_map (λ c. c.1) y)) × (heads ≡ map (λ c. c.0) y))

meta_ends : (t : Tree) (pod : Pod) (wanted : Option Mode) (e : PodFault) → IsFaultOf e (meta_file_in pod.meta wanted (finmap.get t pod.meta)) → IsFaultOf e (decoded t pod wanted)
unfolding decoded
meta_ends t pod wanted e h = further e (meta_file_in pod.meta wanted (finmap.get t pod.meta)) _ (λ f is. rw is refl) h

counters_end : (t : Tree) (pod : Pod) (wanted : Option Mode) (x : List ℕ × MetaFile) (e : PodFault) → meta_file_in pod.meta wanted (finmap.get t pod.meta) ≡ Ok x → IsFaultOf e (all_counters x.1 t pod.counters) → IsFaultOf e (decoded t pod wanted)
unfolding decoded
counters_end t pod wanted x e meta h = further e (all_counters x.1 t pod.counters) _ (λ f is. rw (meta, is) refl) h

pod_is : (t : Tree) (pod : Pod) (wanted : Option Mode) (x : List ℕ × MetaFile) (y : List (Head × List Entry)) → meta_file_in pod.meta wanted (finmap.get t pod.meta) ≡ Ok x → all_counters x.1 t pod.counters ≡ Ok y
    → decoded t pod wanted ≡ Ok (record { pod = pod; bytes = x.0; file = x.1; counts = pod_counts x.1.meta (flat_map (λ c. c.1) y); heads = map (λ c. c.0) y })
unfolding decoded
pod_is t pod wanted x y meta counters = rw (meta, counters) refl

pub pod_meta_fails : (o : Option Tree) (pod : Pod) (wanted : Option Mode) (e : PodFault) → IfSome o (λ t. IsFaultOf e (meta_file_in pod.meta wanted (finmap.get t pod.meta))) → IfSome o (λ t. IsFaultOf e (decoded t pod wanted))
pod_meta_fails o pod wanted e told = some_also _ _ o (λ t h. meta_ends t pod wanted e h) told

pub pod_counters_fail : (o now : Option Tree) (pod : Pod) (wanted : Option Mode) (bytes : List ℕ) (file : MetaFile) (paths : List (List ℕ)) (e : PodFault) → now ≡ o → paths ≡ pod.counters → IfSome o (Meta_is pod wanted bytes file)
    → IfSome now (λ t. IsFaultOf e (all_counters file t paths)) → IfSome o (λ t. IsFaultOf e (decoded t pod wanted))
pod_counters_fail o now pod wanted bytes file paths e same path meta told =
    some_both _ _ _ o (λ t m h. counters_end t pod wanted m.0 e m.1 (subst (λ (x : List ℕ × MetaFile). IsFaultOf e (all_counters x.1 t pod.counters)) (sym m.2) h)) meta
    (subst (λ (x : Option Tree). IfSome x (λ t. IsFaultOf e (all_counters file t pod.counters))) same (subst (λ (ps : List (List ℕ)). IfSome now (λ t. IsFaultOf e (all_counters file t ps))) path told))

pub pod_decoded : (o now : Option Tree) (pod copy : Pod) (wanted : Option Mode) (bytes kept : List ℕ) (file : MetaFile) (counts : List (List (List ℕ))) (heads kept_heads : List Head) (paths : List (List ℕ)) → now ≡ o → paths ≡ pod.counters
    → copy ≡ pod → kept ≡ bytes → kept_heads ≡ heads → IfSome o (Meta_is pod wanted bytes file)
    → IfSome now (Counted paths file counts heads)
    → IfSome o (λ t. decoded t pod wanted ≡ Ok (record { pod = copy; bytes = kept; file = file; counts = counts; heads = kept_heads }))
pod_decoded o now pod copy wanted bytes kept file counts heads kept_heads paths same path copied bytes_kept heads_kept meta told =
    some_both _ _ _ o whole meta (subst (λ (x : Option Tree). IfSome x (Counted pod.counters file counts heads)) same (subst (λ (ps : List (List ℕ)). IfSome now (Counted ps file counts heads)) path told))
  where
    whole : (t : Tree) → Meta_is pod wanted bytes file t → Counted pod.counters file counts heads t → decoded t pod wanted ≡ Ok (record { pod = copy; bytes = kept; file = file; counts = counts; heads = kept_heads })
    whole t m c =
        let first : meta_file_in pod.meta wanted (finmap.get t pod.meta) ≡ Ok (bytes, file) = m.1 ∙ ap (λ (x : List ℕ × MetaFile). Ok x) m.2 in
        pod_is t pod wanted (bytes, file) c.0 first c.1 ∙ rw (copied, bytes_kept, heads_kept, c.2.0, c.2.1) refl
