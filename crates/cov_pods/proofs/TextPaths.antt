-- The paths of the pods of UTF-8 directories are UTF-8.
use Rattle.std.proofs.Common.{ℕ, List, [], ◌∷◌, Option, Some, None, IsSome, All, refl, rules}
use Rattle.std.specs.Prelude.{filter_map, option_map, filter, not}
use Rattle.std.specs.List.{cons_option}
use Rattle.std.specs.Str.{IsUtf8, bytes_eq}
use Rattle.std.proofs.lemmas.List.Elements.{All-nil, All-cons, All-head, All-tail, All-append, All-filter, All-map, All-weaker}
use Rattle.std.proofs.lemmas.Str.{IsUtf8-append, IsUtf8-from_ascii}
use Rattle.cov_pods.proofs.AsciiNames.{meta_name_utf8, counter_name_utf8}
use Rattle.cov_pods.specs.declared.pod.DirNames.{DirNames}
use Rattle.cov_pods.specs.Names.{meta_hash, counter_hash}
use Rattle.cov_pods.specs.Paths.{HasTextDir, HasTextPaths, path_in}
use Rattle.cov_pods.specs.Pods.{Found, file_in, found_in, found, firsts, pod_of, pods_of}

abbrev HasTextPath : Found → Type 0
HasTextPath f = IsUtf8 f.path

slash : IsUtf8 (47 ∷ [])
slash = IsUtf8-from_ascii (47 ∷ []) (search rules)

path_utf8 : (dir name : List ℕ) → IsUtf8 dir → IsUtf8 name → IsUtf8 (path_in dir name)
path_utf8 dir name d n = IsUtf8-append dir (47 ∷ name) d (IsUtf8-append (47 ∷ []) name slash n)

named_utf8 : (dir name : List ℕ) (hash : Option (List ℕ)) (rest : List Found) → IsUtf8 dir → (IsSome hash → IsUtf8 name) → All HasTextPath rest → All HasTextPath (cons_option (option_map (file_in dir name) hash) rest)
named_utf8 dir name None rest d n h = h
named_utf8 dir name (Some hash) rest d n h = All-cons HasTextPath (file_in dir name hash) rest (path_utf8 dir name d (n refl)) h

-- names with a hash are UTF-8
abbrev AreTexts : (List ℕ → Option (List ℕ)) → Type 0
AreTexts hash_of = (name : List ℕ) → IsSome (hash_of name) → IsUtf8 name

names_utf8 : (hash_of : List ℕ → Option (List ℕ)) (dir : List ℕ) (names : List (List ℕ)) → AreTexts hash_of → IsUtf8 dir → All HasTextPath (filter_map (λ name. option_map (file_in dir name) (hash_of name)) names)
names_utf8 hash_of dir [] t d = All-nil HasTextPath
names_utf8 hash_of dir (name ∷ names) t d = named_utf8 dir name (hash_of name) (filter_map (λ name. option_map (file_in dir name) (hash_of name)) names) d (t name) (names_utf8 hash_of dir names t d)

found_utf8 : (hash_of : List ℕ → Option (List ℕ)) (dirs : List DirNames) → AreTexts hash_of → All HasTextDir dirs → All HasTextPath (found hash_of dirs)
found_utf8 hash_of [] t h = All-nil HasTextPath
found_utf8 hash_of (d ∷ dirs) t h =
    All-append HasTextPath (found_in hash_of d) (found hash_of dirs) (names_utf8 hash_of d.dir d.names t (All-head HasTextDir d dirs h)) (found_utf8 hash_of dirs t (All-tail HasTextDir d dirs h))

firsts_utf8 : (fs : List Found) → All HasTextPath fs → All HasTextPath (firsts fs)
firsts_utf8 [] h = h
firsts_utf8 (f ∷ fs) h =
    All-cons HasTextPath f (filter (λ g. not (bytes_eq g.hash f.hash)) (firsts fs)) (All-head HasTextPath f fs h)
    (All-filter (λ g. not (bytes_eq g.hash f.hash)) HasTextPath (firsts fs) (firsts_utf8 fs (All-tail HasTextPath f fs h)))

pod_utf8 : (counters : List Found) (meta : Found) → All HasTextPath counters → HasTextPath meta → HasTextPaths (pod_of counters meta)
pod_utf8 counters meta h m =
    (m, All-map IsUtf8 (λ (c : Found). c.path) (filter (λ c. bytes_eq c.hash meta.hash) counters) (All-filter (λ c. bytes_eq c.hash meta.hash) HasTextPath counters h))

pub pods_utf8 : (dirs : List DirNames) → All HasTextDir dirs → All HasTextPaths (pods_of dirs)
pods_utf8 dirs h =
    All-map HasTextPaths (pod_of (found counter_hash dirs)) (firsts (found meta_hash dirs))
    (All-weaker HasTextPath (λ m. HasTextPaths (pod_of (found counter_hash dirs) m)) (λ m t. pod_utf8 (found counter_hash dirs) m (found_utf8 counter_hash dirs counter_name_utf8 h) t) (firsts (found meta_hash dirs))
    (firsts_utf8 (found meta_hash dirs) (found_utf8 meta_hash dirs meta_name_utf8 h)))
