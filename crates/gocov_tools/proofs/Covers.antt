-- A work of cover has no text, so that the sink stays as it is.
use Rattle.std.proofs.Common.{◌≡◌, ℕ, List, [], Option, Some, None, Result, Ok, Err, inl, refl, sym, ap, subst, ◌∙◌}
use Rattle.std.specs.Prelude.{IfSome}
use Rattle.std.specs.Io.KnownBytes.{append_known}
use Rattle.cov_bytes.specs.Many.{◌>>=◌}
use Rattle.cov_outside.specs.Faults.{Count}
use Rattle.cov_outside.specs.declared.limit.Which.TheVariants as limits
use Rattle.cov_outside.specs.declared.stamp.Stamp.{Stamp}
use Rattle.cov_outside.specs.Tree.{Tree}
use Rattle.cov_rewrite.specs.declared.covered.Rewritten.{Rewritten}
use Rattle.go_parse.specs.declared.fault.SourceFault.{SourceFault}
use Rattle.gocov_words.specs.CoverRequest.{CoverRequest}
use Rattle.gocov_words.specs.declared.command.Command.{Command}
use Rattle.gocov_words.specs.declared.command.Command.TheVariants.{Cover}
use Rattle.gocov_words.specs.declared.fault.WordsFault.{WordsFault}
use Rattle.gocov_tools.specs.declared.refusal.Refusal.{Refusal}
use Rattle.gocov_tools.specs.declared.status.Status.{Status}
use Rattle.gocov_tools.specs.declared.status.Status.TheVariants as statuses
use Rattle.gocov_tools.specs.declared.work.Work.{Work}
use Rattle.gocov_tools.specs.Command.{CommandOf}
use Rattle.gocov_tools.specs.Covering.{puts_text, of_source, refusal_of, FromRead, source_at, Covered}
use Rattle.gocov_tools.specs.Outcome.{LeavesFiles, Receives}
use Rattle.gocov_tools.specs.Refusals.{within}
use Rattle.gocov_tools.proofs.Pieces.{nothing}
use Rattle.gocov_tools.proofs.Received.{nothing_more}

abbrev done : Work → Result Work Refusal
done work = Ok work

same_work : (work other : Work) → done work ≡ done other → work ≡ other
same_work work other e = cc

not_refused : (A : Type 0) (work : Work) (refusal : Refusal) → Ok work ≡ Err refusal → A
not_refused A work refusal e = absurd cc

no_text : (few : Result ℕ Refusal) (request : CoverRequest) (text : List ℕ) (work : Work) → Ok work ≡ (few >>= λ n. Ok (puts_text request text)) → work.text ≡ []
no_text (Ok n) request text work e = ap (λ (w : Work). w.text) (same_work work (puts_text request text) e)
no_text (Err refusal) request text work e = not_refused (work.text ≡ []) work refusal e

from_source : (request : CoverRequest) (text : List ℕ) (outcome : Result Rewritten SourceFault) (work : Work) → Ok work ≡ of_source request text outcome → work.text ≡ []
from_source request text (Ok rewritten) work e = no_text (within limits.Units rewritten.units) request rewritten.text work e
from_source request text (Err fault) work e = not_refused (work.text ≡ []) work (refusal_of request text fault) e

from_read : (request : CoverRequest) (read : Result (List ℕ) Refusal) (work : Work) → FromRead request read (Ok work) → work.text ≡ []
from_read request (Ok text) work h = from_source request text h.0 work h.2
from_read request (Err refusal) work h = not_refused (work.text ≡ []) work refusal h

module _ (request : CoverRequest) (old : Tree) (new : Option Tree) (puts puts' : Count) (sink : Option (List ℕ)) where
  whole : (work : Work) → Covered request old (Ok work) → sink ≡ append_known sink work.text
  whole work is = nothing sink ∙ ap (append_known sink) (sym (from_read request (source_at old request.file) work is))

  receives : (status : Status) → LeavesFiles status (Covered request old) old new puts puts' → Receives status (Covered request old) sink sink
  receives (statuses.Done n) h = (h.0, h.1, whole h.0 h.1)
  receives statuses.WriteFault h = (h.0, h.1, nothing_more sink sink h.0.text refl)
  receives statuses.NoMemory h = inl refl
  receives status h = refl

received : (tree : Option Tree) (request : CoverRequest) (new : Option Tree) (puts puts' : Count) (sink : Option (List ℕ)) (status : Status) → IfSome tree (λ t. LeavesFiles status (Covered request t) t new puts puts')
    → IfSome tree (λ t. Receives status (Covered request t) sink sink)
received None request new puts puts' sink status h = tt
received (Some t) request new puts puts' sink status h = receives request t new puts puts' sink status h

pub received_cover : (tree : Option Tree) (stamp : Stamp) (meaning : Result Command WordsFault) (request : CoverRequest) (new : Option Tree) (puts puts' : Count) (sink : Option (List ℕ)) (status : Status) → meaning ≡ Ok (Cover request)
    → IfSome tree (λ t. LeavesFiles status (Covered request t) t new puts puts') → IfSome tree (λ t. Receives status (CommandOf stamp meaning t) sink sink)
received_cover tree stamp meaning request new puts puts' sink status e h =
    subst (λ (m : Result Command WordsFault). IfSome tree (λ t. Receives status (CommandOf stamp m t) sink sink)) (sym e) (received tree request new puts puts' sink status h)
