-- What steps of loading come to, and what calls answer.
use Rattle.std.specs.Prelude.{◌≡◌, ◌⊎◌, ℕ, List, Result, Ok, Err}
use Rattle.cov_outside.specs.Faults.{Count, Rose}
use Rattle.cov_outside.specs.declared.fault.FilesFault.{FilesFault}
use Rattle.cov_outside.specs.declared.fault.FilesFault.TheVariants as files_fault
use Rattle.cov_outside.specs.declared.whole.WholeFault.{WholeFault}
use Rattle.cov_outside.specs.declared.whole.WholeFault.TheVariants as whole
use Rattle.cov_outside.specs.declared.limit.Which.TheVariants as limits
use Rattle.go_load.specs.declared.refusal.LoadRefusal.{LoadRefusal}
use Rattle.go_load.specs.declared.refusal.LoadRefusal.TheVariants as refusals

abbrev pub of_files : FilesFault → LoadRefusal
of_files files_fault.Failed = refusals.Read
of_files files_fault.NoMemory = refusals.NoMemory

-- of a file at a path
abbrev pub of_whole : List ℕ → WholeFault → LoadRefusal
of_whole path whole.Missing = refusals.Missing path
of_whole path whole.Limit = refusals.Limit limits.SourceBytes
of_whole path whole.Read = refusals.Read
of_whole path whole.NoMemory = refusals.NoMemory

-- ---- what there is

-- what a step may come to: values and refusals
abbrev pub Outcomes : Type 0 → Type 1
Outcomes A = Result A LoadRefusal → Type 0

-- this alone
abbrev pub Is : {A : Type 0} → Result A LoadRefusal → Outcomes A
Is there outcome = outcome ≡ there

-- what comes of a step, and then of another
abbrev pub Then : {A B : Type 0} → Outcomes A → (A → Outcomes B) → Outcomes B
Then {A} first next (Ok y) = (x : A) × first (Ok x) × next x (Ok y)
Then {A} first next (Err e) = first (Err e) ⊎ ((x : A) × first (Ok x) × next x (Err e))

-- ---- what is answered

-- the refusal is one that there is, unless a read failed or memory ran out
abbrev pub Refuses : {A : Type 0} → LoadRefusal → Outcomes A → Type 0
Refuses (refusals.Load path kind) there = there (Err (refusals.Load path kind))
Refuses (refusals.Source path place kind) there = there (Err (refusals.Source path place kind))
Refuses (refusals.Missing path) there = there (Err (refusals.Missing path))
Refuses (refusals.Limit w) there = there (Err (refusals.Limit w))
Refuses refusals.Read there = Unit {0}
Refuses refusals.NoMemory there = Unit {0}

-- the answer, seen by view, is one that there is
abbrev pub Answers : {X A : Type 0} → (X → A) → Result X LoadRefusal → Outcomes A → Type 0
Answers view (Ok x) there = there (Ok (view x))
Answers view (Err e) there = Refuses e there

-- the count of reads rose where a read failed, and is as before at every other answer
abbrev pub CountsRead : {X : Type 0} → Count → Count → Result X LoadRefusal → Type 0
CountsRead before now (Ok x) = now ≡ before
CountsRead before now (Err (refusals.Load path kind)) = now ≡ before
CountsRead before now (Err (refusals.Source path place kind)) = now ≡ before
CountsRead before now (Err (refusals.Missing path)) = now ≡ before
CountsRead before now (Err (refusals.Limit w)) = now ≡ before
CountsRead before now (Err refusals.Read) = Rose before now
CountsRead before now (Err refusals.NoMemory) = now ≡ before

-- the answer of a call that reads no files
abbrev pub IsNoRead : {X : Type 0} → Result X LoadRefusal → Type 0
IsNoRead (Ok x) = Unit {0}
IsNoRead (Err (refusals.Load path kind)) = Unit {0}
IsNoRead (Err (refusals.Source path place kind)) = Unit {0}
IsNoRead (Err (refusals.Missing path)) = Unit {0}
IsNoRead (Err (refusals.Limit w)) = Unit {0}
IsNoRead (Err refusals.Read) = ⊥
IsNoRead (Err refusals.NoMemory) = Unit {0}
