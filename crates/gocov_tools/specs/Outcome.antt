-- What a command leaves of the tree of files and writes to its sink, and that its answer is one that is there.
use Rattle.std.specs.Prelude.{◌≡◌, ◌⊎◌, ℕ, ◌≤◌, List, [], ◌∷◌, length, take, Result, Ok, Err, Option, Some, slice_get}
use Rattle.std.specs.FinMap as map
use Rattle.std.specs.Io.KnownBytes.{append_known}
use Rattle.cov_outside.specs.Faults.{Count, never, Rose, HasPrefix}
use Rattle.cov_outside.specs.Tree.{Tree, SameElsewhere}
use Rattle.gocov_tools.specs.declared.work.Work.{Work}
use Rattle.gocov_tools.specs.declared.refusal.Refusal.{Refusal}
use Rattle.gocov_tools.specs.declared.refusal.Refusal.TheVariants as refusals
use Rattle.gocov_tools.specs.declared.status.Status.{Status}
use Rattle.gocov_tools.specs.declared.status.Status.TheVariants as statuses

-- ---- what is there

-- what a command may come to: works and refusals
abbrev pub Outcomes : Type 1
Outcomes = Result Work Refusal → Type 0

-- this alone
abbrev pub Is : Result Work Refusal → Outcomes
Is there outcome = outcome ≡ there

-- some work of a command
abbrev pub SomeWork : Outcomes → (Work → Type 0) → Type 0
SomeWork there P = (work : Work) × there (Ok work) × P work

-- ---- puts

-- a path and the bytes that are put there
abbrev pub Put : Type 0
Put = List ℕ × List ℕ

-- the tree once files were put, one after the other
abbrev pub with_puts : Tree → List Put → Tree
with_puts t [] = t
with_puts t (put ∷ puts) = with_puts (map.insert t put.0 put.1) puts

-- the puts up to some point stand, and all other paths are as before
abbrev pub PutsUpTo : List Put → Tree → Option Tree → Type 0
PutsUpTo puts old new = (n : ℕ) × (n ≤ length puts) × (new ≡ Some (with_puts old (take n puts)))

-- A put failed: those before it stand, nothing is known of its path, and all other paths are as before.
abbrev pub PutFails : List Put → Tree → Option Tree → Type 0
PutFails puts old new = (n : ℕ) × (put : Put) × (slice_get puts n ≡ Some put) × SameElsewhere put.0 (Some (with_puts old (take n puts))) new

-- ---- a work that is performed

-- Done: all puts stand. A write fault comes from a put, or from the sink, and then no file was put.
abbrev pub Performs : Status → Work → Tree → Option Tree → Count → Count → Count → Count → Type 0
Performs (statuses.Done n) work old new puts puts' outs outs' = (n ≡ 0) × (new ≡ Some (with_puts old work.puts))
Performs statuses.WriteFault work old new puts puts' outs outs' = (Rose puts puts' × PutFails work.puts old new) ⊎ (Rose outs outs' × (new ≡ Some old))
Performs statuses.NoMemory work old new puts puts' outs outs' = PutsUpTo work.puts old new
Performs status work old new puts puts' outs outs' = ⊥

-- the sink received the whole text where the work is done, and else a front of it
abbrev pub Writes : Status → Work → Option (List ℕ) → Option (List ℕ) → Type 0
Writes (statuses.Done n) work old new = new ≡ append_known old work.text
Writes statuses.WriteFault work old new = HasPrefix old new work.text
Writes statuses.NoMemory work old new = HasPrefix old new work.text
Writes status work old new = ⊥

-- ---- a command

-- Its work was performed. Or its answer is a refusal that is there, a read fault or want of memory, and all is as before.
abbrev pub Leaves : Status → Outcomes → Tree → Option Tree → Count → Count → Count → Count → Type 0
Leaves (statuses.Done n) there old new puts puts' outs outs' = SomeWork there (λ work. Performs (statuses.Done n) work old new puts puts' outs outs')
Leaves statuses.NotBuilt there old new puts puts' outs outs' = there (Err refusals.NotBuilt) × (new ≡ Some old)
Leaves (statuses.Usage i) there old new puts puts' outs outs' = there (Err (refusals.Usage i)) × (new ≡ Some old)
Leaves (statuses.Source path place kind) there old new puts puts' outs outs' = there (Err (refusals.Source path place kind)) × (new ≡ Some old)
Leaves (statuses.Missing path) there old new puts puts' outs outs' = there (Err (refusals.Missing path)) × (new ≡ Some old)
Leaves (statuses.Data path offset kind) there old new puts puts' outs outs' = there (Err (refusals.Data path offset kind)) × (new ≡ Some old)
Leaves (statuses.ModeClash a b c d) there old new puts puts' outs outs' = there (Err (refusals.ModeClash a b c d)) × (new ≡ Some old)
Leaves (statuses.InputLimit w) there old new puts puts' outs outs' = there (Err (refusals.Limit w)) × (new ≡ Some old)
Leaves statuses.ReadFault there old new puts puts' outs outs' = new ≡ Some old
Leaves statuses.WriteFault there old new puts puts' outs outs' = SomeWork there (λ work. Performs statuses.WriteFault work old new puts puts' outs outs')
Leaves statuses.NoMemory there old new puts puts' outs outs' = (new ≡ Some old) ⊎ SomeWork there (λ work. Performs statuses.NoMemory work old new puts puts' outs outs')

-- the same of a command without a sink
abbrev pub LeavesFiles : Status → Outcomes → Tree → Option Tree → Count → Count → Type 0
LeavesFiles status there old new puts puts' = Leaves status there old new puts puts' never never

-- The sink received what the work writes. After a refusal and a read fault it received nothing.
abbrev pub Receives : Status → Outcomes → Option (List ℕ) → Option (List ℕ) → Type 0
Receives (statuses.Done n) there old new = SomeWork there (λ work. Writes (statuses.Done n) work old new)
Receives statuses.WriteFault there old new = SomeWork there (λ work. Writes statuses.WriteFault work old new)
Receives statuses.NoMemory there old new = (new ≡ old) ⊎ SomeWork there (λ work. Writes statuses.NoMemory work old new)
Receives status there old new = new ≡ old

-- ---- the top call, which writes the line of the answer besides

-- The same once the line was written, or could not be: the answer is then a write fault or want of memory.
abbrev pub TopLeaves : Status → Outcomes → Tree → Option Tree → Count → Count → Count → Count → Count → Count → Type 0
TopLeaves statuses.WriteFault there old new puts puts' outs outs' errs errs' = Leaves statuses.WriteFault there old new puts puts' outs outs' ⊎ (Rose errs errs' × (new ≡ Some old))
TopLeaves statuses.NoMemory there old new puts puts' outs outs' errs errs' = Leaves statuses.NoMemory there old new puts puts' outs outs' ⊎ SomeWork there (λ work. PutFails work.puts old new)
TopLeaves status there old new puts puts' outs outs' errs errs' = Leaves status there old new puts puts' outs outs'

abbrev pub TopReceives : Status → Outcomes → Option (List ℕ) → Option (List ℕ) → Type 0
TopReceives statuses.WriteFault there old new = Receives statuses.WriteFault there old new ⊎ (new ≡ old)
TopReceives status there old new = Receives status there old new

-- the whole work was done, or memory ran out
abbrev pub IsDone : Status → Type 0
IsDone (statuses.Done n) = Unit {0}
IsDone statuses.NoMemory = Unit {0}
IsDone status = ⊥
