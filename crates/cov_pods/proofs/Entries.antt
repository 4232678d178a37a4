-- Reading the entries of a counter file one by one.
use Rattle.std.proofs.Common.{◌≡◌, ℕ, ◌+◌, ◌-◌, ◌<◌, ◌≤◌, ◌^◌, List, [], ◌∷◌, ◌++◌, length, Option, Some, Result, Ok, Err, refl, sym, subst, arith, append_assoc}
use Rattle.std.specs.Prelude.{IfSome}
use Rattle.std.specs.FinMap as finmap
use Rattle.cov_bytes.specs.Many.{many, with_front, goes_on, ends, is_done}
use Rattle.cov_outside.specs.Tree.{Tree}
use Rattle.cov_outside.specs.declared.data_kind.DataKind.{DataKind}
use Rattle.cov_meta.specs.declared.meta.Meta.{Meta}
use Rattle.cov_counter.specs.declared.entry.Entry.{Entry}
use Rattle.cov_counter.specs.declared.fault.CounterFault.{CounterFault}
use Rattle.cov_counter.specs.declared.head.Head.{Head}
use Rattle.cov_counter.specs.declared.stage.Stage.{Stage}
use Rattle.cov_counter.specs.declared.stage.Stage.TheVariants.{New, Reading, Failed}
use Rattle.cov_counter.specs.Outside as reader
use Rattle.cov_counter.specs.Reader.{entry_of, Advances, AdvancesAt, IsBefore}
use Rattle.cov_pods.specs.declared.fault.PodFault.{PodFault}
use Rattle.cov_pods.specs.declared.fault.PodFault.TheVariants as faults
use Rattle.cov_pods.specs.Faults.{Becomes, counter_fault}
use Rattle.cov_pods.specs.Decoding.{IsFaultOf, entry_in, from_counter}
use Rattle.cov_pods.specs.Fits.{fits, HasShortParts}
use Rattle.cov_pods.specs.PodCounts.{Grows, pod_counts}
use Rattle.cov_pods.specs.Stages.{offset_of, left_of, HasNext}
use Rattle.cov_pods.proofs.ShortEntries.{short_entry}
use Rattle.cov_pods.proofs.Told.{some_also, some_both, becomes_told, counter_told, further}

-- ---- one entry

failed_there : (old new : Stage) (f : CounterFault) (head : Head) (there : Option (List ℕ)) → HasNext old → AdvancesAt old (Err f) new head there → reader.IsFaultOf f (entry_of head (offset_of old) there)
failed_there New new f head there lt h = absurd (omega arith)
failed_there (Reading at left) New f head there lt h = h
failed_there (Reading at left) (Reading next rest) f head there lt h = h
failed_there (Reading at left) (Failed k) f head there lt h = h
failed_there (Failed k) new f head there lt h = absurd (omega arith)

entry_there : (old new : Stage) (x : ℕ × Entry) (head : Head) (there : Option (List ℕ)) → HasNext old → Advances old new (Ok (Some x)) → AdvancesAt old (Ok (Some x)) new head there
    → (x.0 ≡ offset_of old) × (entry_of head (offset_of old) there ≡ Ok (x.1, offset_of new))
entry_there New new x head there lt s h = absurd (omega arith)
entry_there (Reading at left) New x head there lt s h = absurd h
entry_there (Reading at left) (Reading next rest) x head there lt s h = (s.1, h)
entry_there (Reading at left) (Failed k) x head there lt s h = absurd h
entry_there (Failed k) new x head there lt s h = absurd (omega arith)

entry_fails : (meta : Meta) (path : List ℕ) (head : Head) (there : Option (List ℕ)) (at : ℕ) (e : PodFault) → IsFaultOf e (from_counter path (entry_of head at there)) → IsFaultOf e (entry_in meta path head there at)
unfolding entry_in
entry_fails meta path head there at e h = further e (from_counter path (entry_of head at there)) _ (λ f is. rw is refl) h

entry_misfits : (meta : Meta) (path : List ℕ) (head : Head) (there : Option (List ℕ)) (at : ℕ) (x : Entry × ℕ) (kind : DataKind) → entry_of head at there ≡ Ok x → fits meta x.0 ≡ Err kind
    → entry_in meta path head there at ≡ Err (faults.Data path at kind)
unfolding entry_in
entry_misfits meta path head there at x kind is fit = rw (is, fit) refl

entry_is : (meta : Meta) (path : List ℕ) (head : Head) (there : Option (List ℕ)) (at : ℕ) (x : Entry × ℕ) → entry_of head at there ≡ Ok x → fits meta x.0 ≡ Ok tt → entry_in meta path head there at ≡ Ok x
unfolding entry_in
entry_is meta path head there at x is fit = rw (is, fit) refl

pub next_fails : (o : Option Tree) (old new : Stage) (f : CounterFault) (e : PodFault) (head : Head) (meta : Meta) (given path : List ℕ) → given ≡ path → HasNext old → Becomes (counter_fault path f) e
    → IfSome o (λ t. AdvancesAt old (Err f) new head (finmap.get t given)) → IfSome o (λ t. IsFaultOf e (entry_in meta path head (finmap.get t path) (offset_of old)))
next_fails o old new f e head meta given path same lt b told =
    some_also _ _ o (λ t h. entry_fails meta path head (finmap.get t path) (offset_of old) e
    (counter_told path f e (entry_of head (offset_of old) (finmap.get t path)) b (failed_there old new f head (finmap.get t path) lt h)))
    (subst (λ (p : List ℕ). IfSome o (λ t. AdvancesAt old (Err f) new head (finmap.get t p))) same told)

pub next_misfits : (o : Option Tree) (old new : Stage) (offset : ℕ) (entry : Entry) (kind : DataKind) (e : PodFault) (head : Head) (meta : Meta) (given path : List ℕ) → given ≡ path → HasNext old
    → HasShortParts meta → (HasShortParts meta → length entry.counts < 2 ^ 32 → Err kind ≡ fits meta entry) → Becomes (faults.Data path offset kind) e
    → Advances old new (Ok (Some (offset, entry))) → IfSome o (λ t. AdvancesAt old (Ok (Some (offset, entry))) new head (finmap.get t given))
    → IfSome o (λ t. IsFaultOf e (entry_in meta path head (finmap.get t path) (offset_of old)))
next_misfits o old new offset entry kind e head meta given path same lt short fit b stage told =
    some_also _ _ o (λ t h. there (finmap.get t path) h) (subst (λ (p : List ℕ). IfSome o (λ t. AdvancesAt old (Ok (Some (offset, entry))) new head (finmap.get t p))) same told)
  where
    there : (c : Option (List ℕ)) → AdvancesAt old (Ok (Some (offset, entry))) new head c → IsFaultOf e (entry_in meta path head c (offset_of old))
    there c h =
        let found = entry_there old new (offset, entry) head c lt stage h in
        let few = short_entry head (offset_of old) c (entry, offset_of new) found.1 in
        let misfit = entry_misfits meta path head c (offset_of old) (entry, offset_of new) kind found.1 (sym (fit short few)) in
        becomes_told (faults.Data path offset kind) e _ b (subst (λ (n : ℕ). entry_in meta path head c (offset_of old) ≡ Err (faults.Data path n kind)) (sym found.0) misfit)

pub next_added : (o : Option Tree) (old new : Stage) (offset : ℕ) (entry : Entry) (head : Head) (meta : Meta) (given path : List ℕ) (counts counted : List (List (List ℕ))) → given ≡ path → HasNext old
    → fits meta entry ≡ Ok tt → Grows meta counts counted (entry ∷ [])
    → Advances old new (Ok (Some (offset, entry))) → IfSome o (λ t. AdvancesAt old (Ok (Some (offset, entry))) new head (finmap.get t given))
    → IfSome o (λ t. (y : Entry × ℕ) × (entry_in meta path head (finmap.get t path) (offset_of old) ≡ Ok y) × ((y.1 ≡ offset_of new) × Grows meta counts counted (y.0 ∷ [])))
next_added o old new offset entry head meta given path counts counted same lt fit grows stage told =
    some_also _ _ o (λ t h. there (finmap.get t path) h) (subst (λ (p : List ℕ). IfSome o (λ t. AdvancesAt old (Ok (Some (offset, entry))) new head (finmap.get t p))) same told)
  where
    there : (c : Option (List ℕ)) → AdvancesAt old (Ok (Some (offset, entry))) new head c → (y : Entry × ℕ) × (entry_in meta path head c (offset_of old) ≡ Ok y) × ((y.1 ≡ offset_of new) × Grows meta counts counted (y.0 ∷ []))
    there c h =
        let found = entry_there old new (offset, entry) head c lt stage h in
        ((entry, offset_of new), entry_is meta path head c (offset_of old) (entry, offset_of new) found.1 fit, (refl, grows))

-- ---- all entries

abbrev step : Meta → List ℕ → Head → Tree → ℕ → Result (Entry × ℕ) PodFault
step meta path head t = entry_in meta path head (finmap.get t path)

-- the entries before the next one were read and added, and the others are still read
abbrev pub SoFar : Meta → List ℕ → Head → List (List (List ℕ)) → List (List (List ℕ)) → ℕ → ℕ → ℕ → ℕ → Tree → Type 0
SoFar meta path head counts counted n i start at t = (front : List Entry) × (with_front front (many (entry_in meta path head (finmap.get t path)) (n - i) at) ≡ many (entry_in meta path head (finmap.get t path)) n start) × Grows meta counts counted front

pub entries_fail : (o now : Option Tree) (e : PodFault) (meta : Meta) (path : List ℕ) (head here : Head) (counts counted : List (List (List ℕ))) (n i start at : ℕ) → now ≡ o → here ≡ head → i < n
    → IfSome o (SoFar meta path head counts counted n i start at) → IfSome now (λ t. IsFaultOf e (entry_in meta path here (finmap.get t path) at))
    → IfSome o (λ t. IsFaultOf e (many (entry_in meta path head (finmap.get t path)) n start))
entries_fail o now e meta path head here counts counted n i start at same heads lt so_far told =
    some_both _ _ _ o (λ t p q. further e (step meta path head t at) _ (λ f is. ends (step meta path head t) p.0 n i at f _ lt is p.1) q) so_far
    (subst (λ (x : Option Tree). IfSome x (λ t. IsFaultOf e (step meta path head t at))) same (subst (λ (h : Head). IfSome now (λ t. IsFaultOf e (step meta path h t at))) heads told))

-- the next entry was read and added
abbrev Next : Meta → List ℕ → List (List (List ℕ)) → List (List (List ℕ)) → ℕ → ℕ → Head → Tree → Type 0
Next meta path counted new at next head t = (y : Entry × ℕ) × (entry_in meta path head (finmap.get t path) at ≡ Ok y) × ((y.1 ≡ next) × Grows meta counted new (y.0 ∷ []))

pub entries_more : (o now : Option Tree) (meta : Meta) (path : List ℕ) (head here : Head) (counts counted new : List (List (List ℕ))) (n i start at next : ℕ) → now ≡ o → here ≡ head → i < n
    → IfSome o (SoFar meta path head counts counted n i start at)
    → IfSome now (λ t. (y : Entry × ℕ) × (entry_in meta path here (finmap.get t path) at ≡ Ok y) × ((y.1 ≡ next) × Grows meta counted new (y.0 ∷ [])))
    → IfSome o (SoFar meta path head counts new n (i + 1) start next)
entries_more o now meta path head here counts counted new n i start at next same heads lt so_far told =
    some_both (SoFar meta path head counts counted n i start at) (Next meta path counted new at next head) _ o more so_far
    (subst (λ (x : Option Tree). IfSome x (Next meta path counted new at next head)) same (subst (λ (h : Head). IfSome now (Next meta path counted new at next h)) heads told))
  where
    more : (t : Tree) → SoFar meta path head counts counted n i start at t → Next meta path counted new at next head t → SoFar meta path head counts new n (i + 1) start next t
    more t p q =
        let read : step meta path head t at ≡ Ok (q.0.0, next) = subst (λ (m : ℕ). step meta path head t at ≡ Ok (q.0.0, m)) q.2.0 q.1 in (
          p.0 ++ q.0.0 ∷ [],
          goes_on (step meta path head t) p.0 n i at q.0.0 next _ lt read p.1,
          λ seen is. subst (λ (es : List Entry). new ≡ pod_counts meta es) (append_assoc seen p.0 (q.0.0 ∷ [])) (q.2.1 (seen ++ p.0) (p.2 seen is)),
        )

pub entries_done : (o : Option Tree) (meta : Meta) (path : List ℕ) (head : Head) (counts counted : List (List (List ℕ))) (n i start at : ℕ) → n ≤ i
    → IfSome o (SoFar meta path head counts counted n i start at)
    → IfSome o (λ t. (y : List Entry × ℕ) × (many (entry_in meta path head (finmap.get t path)) n start ≡ Ok y) × ((y.1 ≡ at) × Grows meta counts counted y.0))
entries_done o meta path head counts counted n i start at le so_far =
    some_also _ _ o (λ t p. ((p.0, at), is_done (step meta path head t) p.0 n i at _ le p.1, (refl, p.2))) so_far

pub one_less : (old new : Stage) (n i : ℕ) → IsBefore (n - i) old → IsBefore (left_of old - 1) new → IsBefore (n - (i + 1)) new
one_less New new n i before after = absurd before
one_less (Failed f) new n i before after = absurd before
one_less (Reading at left) New n i before after = absurd after
one_less (Reading at left) (Failed f) n i before after = absurd after
one_less (Reading at left) (Reading next rest) n i before after = omega arith
