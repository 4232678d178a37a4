-- What cover makes of a source file.
use Rattle.std.specs.Prelude.{◌≡◌, ℕ, List, [], ◌∷◌, Result, Ok, Err}
use Rattle.std.specs.FinMap as map
use Rattle.cov_bytes.specs.Many.{◌>>=◌}
use Rattle.cov_outside.specs.Limits.{limit_number}
use Rattle.cov_outside.specs.Tree.{Tree}
use Rattle.cov_outside.specs.Whole.{whole_file}
use Rattle.cov_outside.specs.declared.limit.Which.{Which}
use Rattle.cov_outside.specs.declared.limit.Which.TheVariants as limits
use Rattle.cov_outside.specs.declared.whole.WholeFault.{WholeFault}
use Rattle.cov_outside.specs.declared.whole.WholeFault.TheVariants as whole
use Rattle.go_ast.specs.Places.{place_at}
use Rattle.go_parse.specs.declared.fault.SourceFault.{SourceFault}
use Rattle.go_parse.specs.declared.fault.SourceFault.TheVariants as fault
use Rattle.go_parse.specs.declared.fault.WhichSource.{WhichSource}
use Rattle.go_parse.specs.declared.fault.WhichSource.TheVariants as trees
use Rattle.cov_rewrite.specs.declared.covered.Rewritten.{Rewritten}
use Rattle.cov_rewrite.specs.Coming.{ComesTo}
use Rattle.gocov_words.specs.CoverRequest.{CoverRequest}
use Rattle.gocov_tools.specs.Outcome.{Outcomes, Is}
use Rattle.gocov_tools.specs.Refusals.{within}
use Rattle.gocov_tools.specs.declared.work.Work.{Work}
use Rattle.gocov_tools.specs.declared.refusal.Refusal.{Refusal}
use Rattle.gocov_tools.specs.declared.refusal.Refusal.TheVariants as refusals

-- ---- reading

-- of a source file at a path
abbrev pub of_whole : List ℕ → Result (List ℕ) WholeFault → Result (List ℕ) Refusal
of_whole path (Ok text) = Ok text
of_whole path (Err whole.Missing) = Err (refusals.Missing path)
of_whole path (Err whole.Limit) = Err (refusals.Limit limits.SourceBytes)
of_whole path (Err whole.Read) = Err refusals.Read
of_whole path (Err whole.NoMemory) = Err refusals.NoMemory

-- the text of a source file
abbrev pub source_at : Tree → List ℕ → Result (List ℕ) Refusal
source_at t path = of_whole path (whole_file (limit_number limits.SourceBytes) (map.get t path))

-- ---- rewriting

abbrev pub limit_of : WhichSource → Which
limit_of trees.SelectClauses = limits.SelectClauses
limit_of trees.Depth = limits.Depth

-- the covered text, which is put to the path of -o
abbrev pub puts_text : CoverRequest → List ℕ → Work
puts_text request text = record { text = []; puts = (request.out, text) ∷ [] }

-- what is put for a covered text without too many units
abbrev pub of_rewritten : CoverRequest → Rewritten → Result Work Refusal
of_rewritten request rewritten = do
  few ← within limits.Units rewritten.units
  Ok (puts_text request rewritten.text)

-- the refusal for a fault of a source, with its place
abbrev pub refusal_of : CoverRequest → List ℕ → SourceFault → Refusal
refusal_of request text (fault.At offset kind) = refusals.Source request.file (place_at text offset) kind
refusal_of request text (fault.Limit which) = refusals.Limit (limit_of which)
refusal_of request text fault.NoMemory = refusals.NoMemory

abbrev pub of_source : CoverRequest → List ℕ → Result Rewritten SourceFault → Result Work Refusal
of_source request text (Ok rewritten) = of_rewritten request rewritten
of_source request text (Err fault) = Err (refusal_of request text fault)

-- ---- the command

-- what a source comes to, which has the name of its file
abbrev pub FromText : CoverRequest → List ℕ → Outcomes
FromText request text there = (outcome : Result Rewritten SourceFault) × ComesTo text request.file request.var request.mode outcome × (there ≡ of_source request text outcome)

abbrev pub FromRead : CoverRequest → Result (List ℕ) Refusal → Outcomes
FromRead request (Ok text) = FromText request text
FromRead request (Err refusal) = Is (Err refusal)

-- the file is read, and then its text
abbrev pub Covered : CoverRequest → Tree → Outcomes
Covered request t = FromRead request (source_at t request.file)

-- the answer of a call that works on a text is one that is there, unless memory ran out
abbrev pub Tells : Result Work Refusal → Outcomes → Type 0
Tells (Ok work) there = there (Ok work)
Tells (Err (refusals.Source path place kind)) there = there (Err (refusals.Source path place kind))
Tells (Err (refusals.Limit w)) there = there (Err (refusals.Limit w))
Tells (Err refusals.NoMemory) there = Unit {0}
Tells (Err refusal) there = ⊥
