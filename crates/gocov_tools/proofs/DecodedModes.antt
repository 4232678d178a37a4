-- A pod that was decoded in a wanted mode has that mode.
use Rattle.std.proofs.Common.{◌≡◌, ◌≢◌, ℕ, List, Option, Some, None, Result, Ok, Err, refl, sym, ap, ◌∙◌}
use Rattle.std.specs.Prelude.{IfSome}
use Rattle.std.specs.FinMap as finmap
use Rattle.cov_bytes.specs.Many.{◌>>=◌}
use Rattle.cov_outside.specs.Tree.{Tree}
use Rattle.cov_outside.specs.Whole.{whole_file}
use Rattle.cov_outside.specs.declared.mode.Mode.{Mode}
use Rattle.cov_outside.specs.declared.mode.Mode.TheVariants as modes
use Rattle.cov_meta.specs.File.{meta_of}
use Rattle.cov_meta.specs.declared.meta.MetaFile.{MetaFile}
use Rattle.cov_pods.specs.declared.pod.Pod.{Pod}
use Rattle.cov_pods.specs.declared.fault.PodFault.{PodFault}
use Rattle.cov_pods.specs.CountedPod.{CountedPod}
use Rattle.cov_pods.specs.Decoding.{decoded, meta_file_in, meta_in, is_wanted, same_mode, all_counters, from_whole, from_meta}
use Rattle.gocov_tools.specs.Modes.{IsInAnother}
use Rattle.gocov_tools.specs.Reading.{mode_of, from_pod}
use Rattle.gocov_tools.specs.Refusals.{Refuses}
use Rattle.gocov_tools.specs.declared.reading.FirstMeta.{FirstMeta}
use Rattle.gocov_tools.specs.declared.refusal.Refusal.{Refusal}
use Rattle.gocov_tools.proofs.Known.{some_also}

same_ok : {A E : Type 0} (x y : A) → (let r : Result A E = Ok x in r ≡ Ok y) → x ≡ y
same_ok x y e = cc

pub bind_ok : {A B E : Type 0} (r : Result A E) (f : A → Result B E) (y : B) → (r >>= f) ≡ Ok y → (x : A) × (r ≡ Ok x) × (f x ≡ Ok y)
bind_ok (Ok x) f y e = (x, refl, e)
bind_ok (Err d) f y e = absurd (cc)

wanted_mode : (wanted mode : Mode) → same_mode wanted mode ≡ Ok tt → mode ≡ wanted
wanted_mode modes.Set modes.Set e = refl
wanted_mode modes.Set modes.Count e = absurd (cc)
wanted_mode modes.Set modes.Atomic e = absurd (cc)
wanted_mode modes.Count modes.Set e = absurd (cc)
wanted_mode modes.Count modes.Count e = refl
wanted_mode modes.Count modes.Atomic e = absurd (cc)
wanted_mode modes.Atomic modes.Set e = absurd (cc)
wanted_mode modes.Atomic modes.Count e = absurd (cc)
wanted_mode modes.Atomic modes.Atomic e = refl

meta_mode : (path : List ℕ) (wanted : Mode) (bytes : List ℕ) (file : MetaFile) → meta_in path (Some wanted) bytes ≡ Ok file → file.meta.mode ≡ wanted
unfolding meta_in
meta_mode path wanted bytes file e =
    let read = bind_ok (from_meta path (meta_of bytes)) _ file e in
    let is = bind_ok (same_mode wanted read.0.meta.mode) _ file read.2 in
    ap (λ (f : MetaFile). f.meta.mode) (sym (same_ok {E = PodFault} read.0 file is.2)) ∙ wanted_mode wanted read.0.meta.mode is.1

file_mode : (path : List ℕ) (wanted : Mode) (there : Option (List ℕ)) (read : List ℕ × MetaFile) → meta_file_in path (Some wanted) there ≡ Ok read → read.1.meta.mode ≡ wanted
unfolding meta_file_in
file_mode path wanted there read e =
    let bytes = bind_ok (from_whole path (whole_file 268435456 there)) _ read e in
    let file = bind_ok (meta_in path (Some wanted) bytes.0) _ read bytes.2 in
    ap (λ (r : List ℕ × MetaFile). r.1.meta.mode) (sym (same_ok {E = PodFault} (bytes.0, file.0) read file.2)) ∙ meta_mode path wanted bytes.0 file.0 file.1

pub decoded_mode : (t : Tree) (pod : Pod) (wanted : Mode) (read : CountedPod) → decoded t pod (Some wanted) ≡ Ok read → read.file.meta.mode ≡ wanted
unfolding decoded
decoded_mode t pod wanted read e =
    let meta = bind_ok (meta_file_in pod.meta (Some wanted) (finmap.get t pod.meta)) _ read e in
    let counters = bind_ok (all_counters meta.0.1 t pod.counters) _ read meta.2 in
    ap (λ (r : CountedPod). r.file.meta.mode) (sym (same_ok {E = PodFault} _ read counters.2)) ∙ file_mode pod.meta wanted (finmap.get t pod.meta) meta.0 meta.1

-- no pod is decoded in another mode than the first
pub never_another : (o : Option Tree) (first : Option FirstMeta) (wanted : Option Mode) (pod : Pod) (read : CountedPod) (e : Refusal) → wanted ≡ mode_of first → IsInAnother first read.file.meta.mode → IfSome o (λ t. decoded t pod wanted ≡ Ok read)
    → IfSome o (λ t. Refuses e (from_pod first pod (decoded t pod (mode_of first))))
never_another o first wanted pod read e is other told =
    some_also _ _ o (λ t h. absurd (other.2 (sym (decoded_mode t pod other.0 read (ap (λ (w : Option Mode). decoded t pod w) (sym (is ∙ other.1)) ∙ h))))) told
