-- What a command answers is what its words and the tree say.
use Rattle.std.proofs.Common.{◌≡◌, ◌⊎◌, ℕ, List, Option, Some, None, Result, Ok, Err, inl, inr, sym, subst}
use Rattle.std.specs.Prelude.{IfSome}
use Rattle.cov_outside.specs.Faults.{Count, Rose}
use Rattle.cov_outside.specs.Tree.{Tree}
use Rattle.gocov_tools.specs.declared.refusal.Refusal.{Refusal}
use Rattle.gocov_tools.specs.declared.refusal.Refusal.TheVariants as refusals
use Rattle.gocov_tools.specs.declared.status.Status.{Status}
use Rattle.gocov_tools.specs.declared.status.Status.TheVariants as statuses
use Rattle.gocov_tools.specs.declared.work.Work.{Work}
use Rattle.gocov_tools.specs.Line.{Finishes, Spoils}
use Rattle.gocov_tools.specs.Outcome.{Outcomes, Performs, Leaves, TopLeaves, Receives, TopReceives, IsDone}
use Rattle.gocov_tools.specs.Outside.{Causes, CountsRead, IsOfData, IsOfWords, TopCauses, Keeps}
use Rattle.gocov_tools.specs.Refusals.{answer_of}
use Rattle.gocov_words.specs.declared.command.Command.{Command}
use Rattle.gocov_words.specs.declared.fault.WordsFault.{WordsFault}

-- ---- the tree

module _ (there : Outcomes) (old : Tree) (new : Option Tree) (puts puts' outs outs' errs errs' : Count) where
  abbrev Top : Status → Type 0
  Top status = TopLeaves status there old new puts puts' outs outs' errs errs'

  -- an answer that left the tree as it was may stay, or become a write fault or want of memory
  spoiled : (status result : Status) → Spoils status result errs errs' → Top status → new ≡ Some old → Top result
  spoiled status result (inl s) top e = subst (λ (r : Status). Top r) (sym s.0) top
  spoiled status result (inr (inl w)) top e = subst (λ (r : Status). Top r) (sym w.0) (inr (w.1, e))
  spoiled status result (inr (inr m)) top e = subst (λ (r : Status). Top r) (sym m.0) (inl (inl e))

  -- a write fault of the command itself, after which memory ran out
  fault_memory : (work : Work) → there (Ok work) → Performs statuses.WriteFault work old new puts puts' outs outs' → Top statuses.NoMemory
  fault_memory work is (inl p) = inr (work, is, p.1)
  fault_memory work is (inr o) = inl (inl o.1)

  put_failed : (result : Status) → Spoils statuses.WriteFault result errs errs' → Leaves statuses.WriteFault there old new puts puts' outs outs' → Top result
  put_failed result (inl s) h = subst (λ (r : Status). Top r) (sym s.0) (inl h)
  put_failed result (inr (inl w)) h = subst (λ (r : Status). Top r) (sym w.0) (inl h)
  put_failed result (inr (inr m)) h = subst (λ (r : Status). Top r) (sym m.0) (fault_memory h.0 h.1 h.2)

  pub leaves_top : (status result : Status) → Finishes status result errs errs' → Leaves status there old new puts puts' outs outs' → TopLeaves result there old new puts puts' outs outs' errs errs'
  leaves_top (statuses.Done n) result f h = subst (λ (r : Status). Top r) (sym f.0) h
  leaves_top statuses.ReadFault result f h = spoiled statuses.ReadFault result f h h
  leaves_top statuses.WriteFault result f h = put_failed result f h
  leaves_top statuses.NoMemory result f h = subst (λ (r : Status). Top r) (sym f) (inl h)
  leaves_top status result f h = spoiled status result f h h.1

pub told_top : (tree : Option Tree) (status result : Status) (there : Tree → Outcomes) (new : Option Tree) (puts puts' outs outs' errs errs' : Count) → Finishes status result errs errs'
    → IfSome tree (λ t. Leaves status (there t) t new puts puts' outs outs') → IfSome tree (λ t. TopLeaves result (there t) t new puts puts' outs outs' errs errs')
told_top None status result there new puts puts' outs outs' errs errs' f h = tt
told_top (Some t) status result there new puts puts' outs outs' errs errs' f h = leaves_top (there t) t new puts puts' outs outs' errs errs' status result f h

-- ---- the sink of the text

module _ (there : Outcomes) (before now : Count) (old new : Option (List ℕ)) where
  abbrev TopText : Status → Type 0
  TopText status = TopReceives status there old new

  quiet : (status result : Status) → Spoils status result before now → TopText status → new ≡ old → TopText result
  quiet status result (inl s) top e = subst (λ (r : Status). TopText r) (sym s.0) top
  quiet status result (inr (inl w)) top e = subst (λ (r : Status). TopText r) (sym w.0) (inr e)
  quiet status result (inr (inr m)) top e = subst (λ (r : Status). TopText r) (sym m.0) (inl e)

  part : (result : Status) → Spoils statuses.WriteFault result before now → Receives statuses.WriteFault there old new → TopText result
  part result (inl s) h = subst (λ (r : Status). TopText r) (sym s.0) (inl h)
  part result (inr (inl w)) h = subst (λ (r : Status). TopText r) (sym w.0) (inl h)
  part result (inr (inr m)) h = subst (λ (r : Status). TopText r) (sym m.0) (inr h)

  pub receives_top : (status result : Status) → Finishes status result before now → Receives status there old new → TopReceives result there old new
  receives_top (statuses.Done n) result f h = subst (λ (r : Status). TopText r) (sym f.0) h
  receives_top statuses.WriteFault result f h = part result f h
  receives_top statuses.NoMemory result f h = subst (λ (r : Status). TopText r) (sym f) h
  receives_top status result f h = quiet status result f h h

pub received_top : (tree : Option Tree) (status result : Status) (there : Tree → Outcomes) (before now : Count) (old new : Option (List ℕ)) → Finishes status result before now
    → IfSome tree (λ t. Receives status (there t) old new) → IfSome tree (λ t. TopReceives result (there t) old new)
received_top None status result there before now old new f h = tt
received_top (Some t) status result there before now old new f h = receives_top (there t) before now old new status result f h

-- ---- what is kept

kept : {A : Type 0} (status result : Status) (before now : Count) (old new : A) → Spoils status result before now → Keeps status old new → Keeps result old new
kept status result before now old new (inl s) h = subst (λ (r : Status). Keeps r old new) (sym s.0) h
kept status result before now old new (inr (inl w)) h = subst (λ (r : Status). Keeps r old new) (sym w.0) tt
kept status result before now old new (inr (inr m)) h = subst (λ (r : Status). Keeps r old new) (sym m.0) tt

pub keeps_top : {A : Type 0} (status result : Status) (before now : Count) (old new : A) → Finishes status result before now → Keeps status old new → Keeps result old new
keeps_top (statuses.Done n) result before now old new f h = subst (λ (r : Status). Keeps r old new) (sym f.0) tt
keeps_top statuses.NoMemory result before now old new f h = subst (λ (r : Status). Keeps r old new) (sym f) tt
keeps_top status result before now old new f h = kept status result before now old new f h

-- ---- what is wrong with words

worded : (status result : Status) (before now : Count) (there : Result Command WordsFault) → Spoils status result before now → IsOfWords status there → IsOfWords result there
worded status result before now there (inl s) h = subst (λ (r : Status). IsOfWords r there) (sym s.0) h
worded status result before now there (inr (inl w)) h = subst (λ (r : Status). IsOfWords r there) (sym w.0) tt
worded status result before now there (inr (inr m)) h = subst (λ (r : Status). IsOfWords r there) (sym m.0) tt

pub words_top : (status result : Status) (before now : Count) (there : Result Command WordsFault) → Finishes status result before now → IsOfWords status there → IsOfWords result there
words_top (statuses.Done n) result before now there f h = subst (λ (r : Status). IsOfWords r there) (sym f.0) tt
words_top statuses.NoMemory result before now there f h = subst (λ (r : Status). IsOfWords r there) (sym f) tt
words_top status result before now there f h = worded status result before now there f h

-- the refusal of a part of covdata is one of its answers
pub refusal_of_data : (X : Type 0) (refusal : Refusal) (before now : Count) → CountsRead {X = X} before now (Err refusal) → IsOfData (answer_of refusal)
refusal_of_data X refusals.NotBuilt before now h = absurd h
refusal_of_data X (refusals.Usage i) before now h = absurd h
refusal_of_data X (refusals.Source path place kind) before now h = absurd h
refusal_of_data X refusal before now h = tt

-- ---- completeness

not_both : (work : Work) (refusal : Refusal) → Ok work ≡ Err refusal → ⊥
not_both work refusal e = cc

-- where a work is all that there is, and no count rose, it is done, or memory ran out
completes : (status : Status) (there : Outcomes) (old : Tree) (new : Option Tree) (reads reads' puts puts' outs outs' errs errs' : Count) → ((x y : Result Work Refusal) → there x → there y → x ≡ y)
    → TopLeaves status there old new puts puts' outs outs' errs errs' → TopCauses status reads reads' puts puts' outs outs' errs errs'
    → (work : Work) → there (Ok work) → ¬ Rose reads reads' → ¬ Rose puts puts' → ¬ Rose outs outs' → ¬ Rose errs errs' → IsDone status
completes (statuses.Done n) there old new reads reads' puts puts' outs outs' errs errs' one h c work ok r p o e = tt
completes statuses.ReadFault there old new reads reads' puts puts' outs outs' errs errs' one h c work ok r p o e = absurd (r c.0)
completes statuses.WriteFault there old new reads reads' puts puts' outs outs' errs errs' one h (inl c) work ok r p o e = absurd (p c)
completes statuses.WriteFault there old new reads reads' puts puts' outs outs' errs errs' one h (inr (inl c)) work ok r p o e = absurd (o c)
completes statuses.WriteFault there old new reads reads' puts puts' outs outs' errs errs' one h (inr (inr c)) work ok r p o e = absurd (e c)
completes statuses.NoMemory there old new reads reads' puts puts' outs outs' errs errs' one h c work ok r p o e = tt
completes status there old new reads reads' puts puts' outs outs' errs errs' one h c work ok r p o e = absurd (not_both work _ (one (Ok work) (Err _) ok h.0))

pub told_complete : (tree : Option Tree) (status : Status) (there : Tree → Outcomes) (new : Option Tree) (reads reads' puts puts' outs outs' errs errs' : Count) → ((t : Tree) (x y : Result Work Refusal) → there t x → there t y → x ≡ y)
    → IfSome tree (λ t. TopLeaves status (there t) t new puts puts' outs outs' errs errs') → TopCauses status reads reads' puts puts' outs outs' errs errs'
    → IfSome tree (λ t. (work : Work) → there t (Ok work) → ¬ Rose reads reads' → ¬ Rose puts puts' → ¬ Rose outs outs' → ¬ Rose errs errs' → IsDone status)
told_complete None status there new reads reads' puts puts' outs outs' errs errs' one h c = tt
told_complete (Some t) status there new reads reads' puts puts' outs outs' errs errs' one h c = completes status (there t) t new reads reads' puts puts' outs outs' errs errs' (one t) h c

-- ---- counts

module _ (reads reads' puts puts' outs outs' errs errs' : Count) where
  abbrev TopCounts : Status → Type 0
  TopCounts status = TopCauses status reads reads' puts puts' outs outs' errs errs'

  either : (Rose puts puts' × (outs' ≡ outs)) ⊎ ((puts' ≡ puts) × Rose outs outs') → Rose puts puts' ⊎ (Rose outs outs' ⊎ Rose errs errs')
  either (inl p) = inl p.0
  either (inr o) = inr (inl o.1)

  written : (status : Status) → Causes status reads reads' puts puts' outs outs' → errs' ≡ errs → TopCounts status
  written statuses.WriteFault c e = either c.1
  written statuses.NoMemory c e = tt
  written status c e = (c.0, c.1, c.2, e)

  spoils : (status result : Status) → Spoils status result errs errs' → Causes status reads reads' puts puts' outs outs' → TopCounts result
  spoils status result (inl s) c = subst (λ (r : Status). TopCounts r) (sym s.0) (written status c s.1)
  spoils status result (inr (inl w)) c = subst (λ (r : Status). TopCounts r) (sym w.0) (inr (inr w.1))
  spoils status result (inr (inr m)) c = subst (λ (r : Status). TopCounts r) (sym m.0) tt

  pub finished : (status result : Status) → Finishes status result errs errs' → Causes status reads reads' puts puts' outs outs' → TopCauses result reads reads' puts puts' outs outs' errs errs'
  finished (statuses.Done n) result f c = subst (λ (r : Status). TopCounts r) (sym f.0) (c.0, c.1, c.2, f.1)
  finished statuses.NoMemory result f c = subst (λ (r : Status). TopCounts r) (sym f) tt
  finished status result f c = spoils status result f c
