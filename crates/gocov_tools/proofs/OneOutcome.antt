-- Words come to one work or one refusal.
use Rattle.std.proofs.Common.{◌≡◌, ℕ, List, Result, Ok, Err, sym, ap, ◌∙◌}
use Rattle.cov_outside.specs.declared.mode.Mode.{Mode}
use Rattle.cov_outside.specs.declared.stamp.Stamp.{Stamp}
use Rattle.cov_outside.specs.Tree.{Tree}
use Rattle.cov_rewrite.specs.Coming.{ComesTo}
use Rattle.cov_rewrite.specs.declared.covered.Rewritten.{Rewritten}
use Rattle.go_parse.specs.declared.fault.SourceFault.{SourceFault}
use Rattle.gocov_words.specs.CoverRequest.{CoverRequest}
use Rattle.gocov_words.specs.declared.command.Command.{Command}
use Rattle.gocov_words.specs.declared.command.Command.TheVariants.{Cover, Run, Covdata}
use Rattle.gocov_words.specs.declared.fault.WordsFault.{WordsFault}
use Rattle.gocov_words.specs.declared.fault.WordsFault.TheVariants as words_fault
use Rattle.gocov_tools.specs.declared.refusal.Refusal.{Refusal}
use Rattle.gocov_tools.specs.declared.work.Work.{Work}
use Rattle.gocov_tools.specs.Command.{CommandOf}
use Rattle.gocov_tools.specs.Covering.{of_source, FromRead, source_at}

-- a text comes to one covered text or one fault
abbrev pub OneOfText : Type 0
OneOfText = (text name var : List ℕ) (m : Mode) (x y : Result Rewritten SourceFault) → ComesTo text name var m x → ComesTo text name var m y → x ≡ y

module _ (one : OneOfText) (x y : Result Work Refusal) where
  read_once : (request : CoverRequest) (read : Result (List ℕ) Refusal) → FromRead request read x → FromRead request read y → x ≡ y
  read_once request (Ok text) h k = h.2 ∙ ap (of_source request text) (one text request.file request.var request.mode h.0 k.0 h.1 k.1) ∙ sym k.2
  read_once request (Err refusal) h k = h ∙ sym k

  pub once : (stamp : Stamp) (meaning : Result Command WordsFault) (t : Tree) → CommandOf stamp meaning t x → CommandOf stamp meaning t y → x ≡ y
  once stamp (Ok (Cover request)) t h k = read_once request (source_at t request.file) h k
  once stamp (Ok (Run request)) t h k = h ∙ sym k
  once stamp (Ok (Covdata request)) t h k = h ∙ sym k
  once stamp (Err (words_fault.Usage i)) t h k = h ∙ sym k
  once stamp (Err (words_fault.Limit w)) t h k = h ∙ sym k
  once stamp (Err words_fault.NoMemory) t h k = h ∙ sym k
