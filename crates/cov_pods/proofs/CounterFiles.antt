-- Reading one counter file.
use Rattle.std.proofs.Common.{◌≡◌, ℕ, List, Option, Result, Ok, Err, refl, sym, subst}
use Rattle.std.specs.Prelude.{IfSome}
use Rattle.std.specs.FinMap as finmap
use Rattle.cov_bytes.specs.Many.{many}
use Rattle.cov_outside.specs.Tree.{Tree}
use Rattle.cov_meta.specs.declared.meta.Meta.{Meta}
use Rattle.cov_meta.specs.declared.meta.MetaFile.{MetaFile}
use Rattle.cov_counter.specs.declared.entry.Entry.{Entry}
use Rattle.cov_counter.specs.declared.fault.CounterFault.{CounterFault}
use Rattle.cov_counter.specs.declared.head.Head.{Head}
use Rattle.cov_counter.specs.declared.stage.Stage.{Stage}
use Rattle.cov_counter.specs.declared.stage.Stage.TheVariants.{New, Reading, Failed}
use Rattle.cov_counter.specs.Outside as reader
use Rattle.cov_counter.specs.Reader.{start_of, end_of, OpensAt, Finishes, IsBefore}
use Rattle.cov_pods.specs.declared.fault.PodFault.{PodFault}
use Rattle.cov_pods.specs.Faults.{Becomes, counter_fault}
use Rattle.cov_pods.specs.Decoding.{Fails, IsFaultOf, entry_in, counters_in, from_counter, same_hash}
use Rattle.cov_pods.specs.PodCounts.{Grows}
use Rattle.cov_pods.specs.Stages.{offset_of}
use Rattle.cov_pods.proofs.Told.{some_also, some_both, some_three, counter_told, failed_told, further}

-- ---- what there is

fails_at_start : (file : MetaFile) (path : List ℕ) (there : Option (List ℕ)) (e : PodFault) → IsFaultOf e (from_counter path (start_of there)) → IsFaultOf e (counters_in file path there)
unfolding counters_in
fails_at_start file path there e h = further e (from_counter path (start_of there)) _ (λ f is. rw is refl) h

fails_at_hash : (file : MetaFile) (path : List ℕ) (there : Option (List ℕ)) (head : Head) (at : ℕ) (e : PodFault) → start_of there ≡ Ok (head, at)
    → IsFaultOf e (same_hash path file.hash head.hash) → IsFaultOf e (counters_in file path there)
unfolding counters_in
fails_at_hash file path there head at e start h = further e (same_hash path file.hash head.hash) _ (λ f is. rw (start, is) refl) h

fails_at_entries : (file : MetaFile) (path : List ℕ) (there : Option (List ℕ)) (head : Head) (at : ℕ) (e : PodFault) → start_of there ≡ Ok (head, at)
    → same_hash path file.hash head.hash ≡ Ok tt → IsFaultOf e (many (entry_in file.meta path head there) head.entries at) → IsFaultOf e (counters_in file path there)
unfolding counters_in
fails_at_entries file path there head at e start hash h = further e (many (entry_in file.meta path head there) head.entries at) _ (λ f is. rw (start, hash, is) refl) h

fails_at_end : (file : MetaFile) (path : List ℕ) (there : Option (List ℕ)) (head : Head) (at : ℕ) (x : List Entry × ℕ) (e : PodFault) → start_of there ≡ Ok (head, at)
    → same_hash path file.hash head.hash ≡ Ok tt → many (entry_in file.meta path head there) head.entries at ≡ Ok x → IsFaultOf e (from_counter path (end_of x.1 there)) → IsFaultOf e (counters_in file path there)
unfolding counters_in
fails_at_end file path there head at x e start hash entries h = further e (from_counter path (end_of x.1 there)) _ (λ f is. rw (start, hash, entries, is) refl) h

is_whole : (file : MetaFile) (path : List ℕ) (there : Option (List ℕ)) (head : Head) (at : ℕ) (x : List Entry × ℕ) → start_of there ≡ Ok (head, at)
    → same_hash path file.hash head.hash ≡ Ok tt → many (entry_in file.meta path head there) head.entries at ≡ Ok x → end_of x.1 there ≡ Ok tt → counters_in file path there ≡ Ok (head, x.0)
unfolding counters_in
is_whole file path there head at x start hash entries end = rw (start, hash, entries, end) refl

-- ---- what the calls of a reader said

open_fault : (stage : Stage) (head : Head) (f : CounterFault) (there : Result (Head × ℕ) CounterFault) → OpensAt (Err f) stage head there → reader.IsFaultOf f there
open_fault New head f there h = h
open_fault (Reading at left) head f there h = h
open_fault (Failed k) head f there h = h

open_start : (n : ℕ) (stage : Stage) (head : Head) (there : Result (Head × ℕ) CounterFault) → IsBefore n stage → OpensAt (Ok tt) stage head there → there ≡ Ok (head, offset_of stage)
open_start n New head there before h = absurd before
open_start n (Reading at left) head there before h = h
open_start n (Failed k) head there before h = absurd before

end_fault : (n : ℕ) (stage : Stage) (f : CounterFault) (there : Option (List ℕ)) → IsBefore n stage → Finishes stage (Err f) there → reader.IsFaultOf f (end_of (offset_of stage) there)
end_fault n New f there before h = absurd before
end_fault n (Reading at left) f there before h = h
end_fault n (Failed k) f there before h = absurd before

end_good : (n : ℕ) (stage : Stage) (there : Option (List ℕ)) → IsBefore n stage → Finishes stage (Ok tt) there → end_of (offset_of stage) there ≡ Ok tt
end_good n New there before h = absurd before
end_good n (Reading at left) there before h = h
end_good n (Failed k) there before h = absurd before

-- ---- each answer

-- the file at a path begins with this head, and its entries stand from an offset on
abbrev pub Starts : List ℕ → Head → ℕ → Tree → Type 0
Starts path head at t = start_of (finmap.get t path) ≡ Ok (head, at)

-- its entries were read up to an offset, and added
abbrev pub Adds : Meta → List ℕ → Head → List (List (List ℕ)) → List (List (List ℕ)) → ℕ → ℕ → ℕ → Tree → Type 0
Adds meta path head counts counted n at next t = (y : List Entry × ℕ) × (many (entry_in meta path head (finmap.get t path)) n at ≡ Ok y) × ((y.1 ≡ next) × Grows meta counts counted y.0)

pub start_fails : (o now : Option Tree) (file : MetaFile) (given path : List ℕ) (stage : Stage) (head : Head) (f : CounterFault) (e : PodFault) → now ≡ o → given ≡ path → Becomes (counter_fault path f) e
    → IfSome now (λ t. OpensAt (Err f) stage head (start_of (finmap.get t given))) → IfSome o (λ t. IsFaultOf e (counters_in file path (finmap.get t path)))
start_fails o now file given path stage head f e same paths b told =
    some_also _ _ o (λ t h. fails_at_start file path (finmap.get t path) e (counter_told path f e (start_of (finmap.get t path)) b (open_fault stage head f _ h)))
    (subst (λ (x : Option Tree). IfSome x (λ t. OpensAt (Err f) stage head (start_of (finmap.get t path)))) same (subst (λ (p : List ℕ). IfSome now (λ t. OpensAt (Err f) stage head (start_of (finmap.get t p)))) paths told))

pub starts : (o now : Option Tree) (given path : List ℕ) (stage : Stage) (n : ℕ) (head : Head) → now ≡ o → given ≡ path → IsBefore n stage
    → IfSome now (λ t. OpensAt (Ok tt) stage head (start_of (finmap.get t given))) → IfSome o (Starts path head (offset_of stage))
starts o now given path stage n head same paths before told =
    some_also _ _ o (λ t h. open_start n stage head (start_of (finmap.get t path)) before h)
    (subst (λ (x : Option Tree). IfSome x (λ t. OpensAt (Ok tt) stage head (start_of (finmap.get t path)))) same (subst (λ (p : List ℕ). IfSome now (λ t. OpensAt (Ok tt) stage head (start_of (finmap.get t p)))) paths told))

pub hash_fails : (o : Option Tree) (file : MetaFile) (path : List ℕ) (head seen : Head) (at : ℕ) (e : PodFault) → seen ≡ head → IfSome o (Starts path head at) → Fails e (same_hash path file.hash seen.hash)
    → IfSome o (λ t. IsFaultOf e (counters_in file path (finmap.get t path)))
hash_fails o file path head seen at e same start fails =
    let here : IsFaultOf e (same_hash path file.hash head.hash) = subst (λ (h : Head). IsFaultOf e (same_hash path file.hash h.hash)) same (failed_told e (same_hash path file.hash seen.hash) fails) in
    some_also _ _ o (λ t h. fails_at_hash file path (finmap.get t path) head at e h here) start

pub entries_of_file_fail : (o now : Option Tree) (file : MetaFile) (path : List ℕ) (head seen : Head) (at : ℕ) (e : PodFault) → now ≡ o → seen ≡ head → IfSome o (Starts path head at) → same_hash path file.hash seen.hash ≡ Ok tt
    → IfSome now (λ t. IsFaultOf e (many (entry_in file.meta path head (finmap.get t path)) seen.entries at)) → IfSome o (λ t. IsFaultOf e (counters_in file path (finmap.get t path)))
entries_of_file_fail o now file path head seen at e same heads start hash told =
    let good : same_hash path file.hash head.hash ≡ Ok tt = subst (λ (h : Head). same_hash path file.hash h.hash ≡ Ok tt) heads hash in
    some_both _ _ _ o (λ t s h. fails_at_entries file path (finmap.get t path) head at e s good h) start
    (subst (λ (x : Option Tree). IfSome x (λ t. IsFaultOf e (many (entry_in file.meta path head (finmap.get t path)) head.entries at))) same
    (subst (λ (h : Head). IfSome now (λ t. IsFaultOf e (many (entry_in file.meta path head (finmap.get t path)) h.entries at))) heads told))

pub end_fails : (o now last : Option Tree) (file : MetaFile) (given path : List ℕ) (head seen : Head) (stage : Stage) (at n : ℕ) (f : CounterFault) (e : PodFault) (counts counted : List (List (List ℕ))) → now ≡ o → last ≡ o → given ≡ path → seen ≡ head
    → IfSome o (Starts path head at) → same_hash path file.hash seen.hash ≡ Ok tt → IfSome now (Adds file.meta path head counts counted seen.entries at (offset_of stage)) → IsBefore n stage
    → Becomes (counter_fault path f) e → IfSome last (λ t. Finishes stage (Err f) (finmap.get t given)) → IfSome o (λ t. IsFaultOf e (counters_in file path (finmap.get t path)))
end_fails o now last file given path head seen stage at n f e counts counted same also paths heads start hash adds before b told =
    some_three _ _ _ _ o ending start
    (subst (λ (x : Option Tree). IfSome x (Adds file.meta path head counts counted head.entries at (offset_of stage))) same (subst (λ (h : Head). IfSome now (Adds file.meta path head counts counted h.entries at (offset_of stage))) heads adds))
    (subst (λ (x : Option Tree). IfSome x (λ t. Finishes stage (Err f) (finmap.get t path))) also (subst (λ (p : List ℕ). IfSome last (λ t. Finishes stage (Err f) (finmap.get t p))) paths told))
  where
    good : same_hash path file.hash head.hash ≡ Ok tt
    good = subst (λ (h : Head). same_hash path file.hash h.hash ≡ Ok tt) heads hash

    ending : (t : Tree) → Starts path head at t → Adds file.meta path head counts counted head.entries at (offset_of stage) t → Finishes stage (Err f) (finmap.get t path) → IsFaultOf e (counters_in file path (finmap.get t path))
    ending t s a h =
        let fault = counter_told path f e (end_of (offset_of stage) (finmap.get t path)) b (end_fault n stage f (finmap.get t path) before h) in
        fails_at_end file path (finmap.get t path) head at a.0 e s good a.1 (subst (λ (m : ℕ). IsFaultOf e (from_counter path (end_of m (finmap.get t path)))) (sym a.2.0) fault)

pub file_added : (o now last : Option Tree) (file : MetaFile) (given path : List ℕ) (head seen : Head) (stage : Stage) (at n : ℕ) (counts counted : List (List (List ℕ))) → now ≡ o → last ≡ o → given ≡ path → seen ≡ head
    → IfSome o (Starts path head at) → same_hash path file.hash seen.hash ≡ Ok tt → IfSome now (Adds file.meta path head counts counted seen.entries at (offset_of stage)) → IsBefore n stage
    → IfSome last (λ t. Finishes stage (Ok tt) (finmap.get t given))
    → IfSome o (λ t. (y : Head × List Entry) × (counters_in file path (finmap.get t path) ≡ Ok y) × ((y.0 ≡ seen) × Grows file.meta counts counted y.1))
file_added o now last file given path head seen stage at n counts counted same also paths heads start hash adds before told =
    some_three _ _ _ _ o ending start
    (subst (λ (x : Option Tree). IfSome x (Adds file.meta path head counts counted head.entries at (offset_of stage))) same (subst (λ (h : Head). IfSome now (Adds file.meta path head counts counted h.entries at (offset_of stage))) heads adds))
    (subst (λ (x : Option Tree). IfSome x (λ t. Finishes stage (Ok tt) (finmap.get t path))) also (subst (λ (p : List ℕ). IfSome last (λ t. Finishes stage (Ok tt) (finmap.get t p))) paths told))
  where
    good : same_hash path file.hash head.hash ≡ Ok tt
    good = subst (λ (h : Head). same_hash path file.hash h.hash ≡ Ok tt) heads hash

    ending : (t : Tree) → Starts path head at t → Adds file.meta path head counts counted head.entries at (offset_of stage) t → Finishes stage (Ok tt) (finmap.get t path)
        → (y : Head × List Entry) × (counters_in file path (finmap.get t path) ≡ Ok y) × ((y.0 ≡ seen) × Grows file.meta counts counted y.1)
    ending t s a h =
        let end = end_good n stage (finmap.get t path) before h in
        ((head, a.0.0), is_whole file path (finmap.get t path) head at a.0 s good a.1 (subst (λ (m : ℕ). end_of m (finmap.get t path) ≡ Ok tt) (sym a.2.0) end), (sym heads, a.2.1))
