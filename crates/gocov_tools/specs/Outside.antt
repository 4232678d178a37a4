-- What a command does to the objects of the outside, whatever it answers.
use Rattle.std.specs.Prelude.{◌≡◌, ◌⊎◌, Option, Result, Ok, Err}
use Rattle.cov_outside.specs.Faults.{Count, Rose}
use Rattle.gocov_words.specs.declared.command.Command.{Command}
use Rattle.gocov_words.specs.declared.command.Command.TheVariants.{Cover, Run, Covdata}
use Rattle.gocov_words.specs.declared.fault.WordsFault.{WordsFault}
use Rattle.gocov_words.specs.declared.fault.WordsFault.TheVariants as words_fault
use Rattle.gocov_tools.specs.declared.refusal.Refusal.{Refusal}
use Rattle.gocov_tools.specs.declared.refusal.Refusal.TheVariants as refusals
use Rattle.gocov_tools.specs.declared.status.Status.{Status}
use Rattle.gocov_tools.specs.declared.status.Status.TheVariants as statuses

-- The count of reads rose where a read failed, and is as before at every other answer. What is wrong with words or with a source
-- isn't among the answers.
abbrev pub CountsRead : {X : Type 0} → Count → Count → Result X Refusal → Type 0
CountsRead before now (Ok x) = now ≡ before
CountsRead before now (Err refusals.NotBuilt) = ⊥
CountsRead before now (Err (refusals.Usage i)) = ⊥
CountsRead before now (Err (refusals.Source path place kind)) = ⊥
CountsRead before now (Err (refusals.Missing path)) = now ≡ before
CountsRead before now (Err (refusals.Data path offset kind)) = now ≡ before
CountsRead before now (Err (refusals.ModeClash a b c d)) = now ≡ before
CountsRead before now (Err (refusals.Limit w)) = now ≡ before
CountsRead before now (Err refusals.Read) = Rose before now
CountsRead before now (Err refusals.NoMemory) = now ≡ before

-- A read fault comes only where the count of reads rose, a write fault only where that of puts or of the sink did; each other
-- count is as before.
abbrev pub Causes : Status → Count → Count → Count → Count → Count → Count → Type 0
Causes (statuses.Done n) reads reads' puts puts' outs outs' = (reads' ≡ reads) × (puts' ≡ puts) × (outs' ≡ outs)
Causes statuses.NotBuilt reads reads' puts puts' outs outs' = (reads' ≡ reads) × (puts' ≡ puts) × (outs' ≡ outs)
Causes (statuses.Usage i) reads reads' puts puts' outs outs' = (reads' ≡ reads) × (puts' ≡ puts) × (outs' ≡ outs)
Causes (statuses.Source path place kind) reads reads' puts puts' outs outs' = (reads' ≡ reads) × (puts' ≡ puts) × (outs' ≡ outs)
Causes (statuses.Missing path) reads reads' puts puts' outs outs' = (reads' ≡ reads) × (puts' ≡ puts) × (outs' ≡ outs)
Causes (statuses.Data path offset kind) reads reads' puts puts' outs outs' = (reads' ≡ reads) × (puts' ≡ puts) × (outs' ≡ outs)
Causes (statuses.ModeClash a b c d) reads reads' puts puts' outs outs' = (reads' ≡ reads) × (puts' ≡ puts) × (outs' ≡ outs)
Causes (statuses.InputLimit w) reads reads' puts puts' outs outs' = (reads' ≡ reads) × (puts' ≡ puts) × (outs' ≡ outs)
Causes statuses.ReadFault reads reads' puts puts' outs outs' = Rose reads reads' × (puts' ≡ puts) × (outs' ≡ outs)
Causes statuses.WriteFault reads reads' puts puts' outs outs' = (reads' ≡ reads) × ((Rose puts puts' × (outs' ≡ outs)) ⊎ ((puts' ≡ puts) × Rose outs outs'))
Causes statuses.NoMemory reads reads' puts puts' outs outs' = (reads' ≡ reads) × (puts' ≡ puts) × (outs' ≡ outs)

-- an answer of covdata
abbrev pub IsOfData : Status → Type 0
IsOfData statuses.NotBuilt = ⊥
IsOfData (statuses.Usage i) = ⊥
IsOfData (statuses.Source path place kind) = ⊥
IsOfData status = Unit {0}

-- an answer of cover
abbrev pub IsOfCover : Status → Type 0
IsOfCover statuses.NotBuilt = ⊥
IsOfCover (statuses.Usage i) = ⊥
IsOfCover (statuses.Data path offset kind) = ⊥
IsOfCover (statuses.ModeClash a b c d) = ⊥
IsOfCover status = Unit {0}

abbrev pub IsCover : Result Command WordsFault → Type 0
IsCover (Ok (Cover request)) = Unit {0}
IsCover there = ⊥

abbrev pub IsRun : Result Command WordsFault → Type 0
IsRun (Ok (Run request)) = Unit {0}
IsRun there = ⊥

abbrev pub IsCovdata : Result Command WordsFault → Type 0
IsCovdata (Ok (Covdata request)) = Unit {0}
IsCovdata there = ⊥

-- What is wrong with words is answered only where they mean it, and an answer of one command alone only where they mean that
-- command, whatever the objects of the outside are. `run` isn't built yet.
abbrev pub IsOfWords : Status → Result Command WordsFault → Type 0
IsOfWords statuses.NotBuilt there = IsRun there
IsOfWords (statuses.Usage i) there = there ≡ Err (words_fault.Usage i)
IsOfWords (statuses.Source path place kind) there = IsCover there
IsOfWords (statuses.Data path offset kind) there = IsCovdata there
IsOfWords (statuses.ModeClash a b c d) there = IsCovdata there
IsOfWords status there = Unit {0}

-- what an object tells is as before after a refusal and after a read fault
abbrev pub Keeps : {A : Type 0} → Status → A → A → Type 0
Keeps (statuses.Done n) old new = Unit {0}
Keeps statuses.NotBuilt old new = new ≡ old
Keeps (statuses.Usage i) old new = new ≡ old
Keeps (statuses.Source path place kind) old new = new ≡ old
Keeps (statuses.Missing path) old new = new ≡ old
Keeps (statuses.Data path offset kind) old new = new ≡ old
Keeps (statuses.ModeClash a b c d) old new = new ≡ old
Keeps (statuses.InputLimit w) old new = new ≡ old
Keeps statuses.ReadFault old new = new ≡ old
Keeps statuses.WriteFault old new = Unit {0}
Keeps statuses.NoMemory old new = Unit {0}

-- The same causes for the top call, whose write fault may also come from writing the line of an answer.
abbrev pub TopCauses : Status → Count → Count → Count → Count → Count → Count → Count → Count → Type 0
TopCauses (statuses.Done n) reads reads' puts puts' outs outs' errs errs' = (reads' ≡ reads) × (puts' ≡ puts) × (outs' ≡ outs) × (errs' ≡ errs)
TopCauses statuses.NotBuilt reads reads' puts puts' outs outs' errs errs' = (reads' ≡ reads) × (puts' ≡ puts) × (outs' ≡ outs) × (errs' ≡ errs)
TopCauses (statuses.Usage i) reads reads' puts puts' outs outs' errs errs' = (reads' ≡ reads) × (puts' ≡ puts) × (outs' ≡ outs) × (errs' ≡ errs)
TopCauses (statuses.Source path place kind) reads reads' puts puts' outs outs' errs errs' = (reads' ≡ reads) × (puts' ≡ puts) × (outs' ≡ outs) × (errs' ≡ errs)
TopCauses (statuses.Missing path) reads reads' puts puts' outs outs' errs errs' = (reads' ≡ reads) × (puts' ≡ puts) × (outs' ≡ outs) × (errs' ≡ errs)
TopCauses (statuses.Data path offset kind) reads reads' puts puts' outs outs' errs errs' = (reads' ≡ reads) × (puts' ≡ puts) × (outs' ≡ outs) × (errs' ≡ errs)
TopCauses (statuses.ModeClash a b c d) reads reads' puts puts' outs outs' errs errs' = (reads' ≡ reads) × (puts' ≡ puts) × (outs' ≡ outs) × (errs' ≡ errs)
TopCauses (statuses.InputLimit w) reads reads' puts puts' outs outs' errs errs' = (reads' ≡ reads) × (puts' ≡ puts) × (outs' ≡ outs) × (errs' ≡ errs)
TopCauses statuses.ReadFault reads reads' puts puts' outs outs' errs errs' = Rose reads reads' × (puts' ≡ puts) × (outs' ≡ outs) × (errs' ≡ errs)
TopCauses statuses.WriteFault reads reads' puts puts' outs outs' errs errs' = Rose puts puts' ⊎ (Rose outs outs' ⊎ Rose errs errs')
TopCauses statuses.NoMemory reads reads' puts puts' outs outs' errs errs' = Unit {0}
