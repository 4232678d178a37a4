-- What the refusal of a part is for the command.
use Rattle.std.specs.Prelude.{◌≡◌, ℕ, Result, Ok, Err, nat_lt, if◌then◌else◌}
use Rattle.cov_outside.specs.Limits.{limit_number}
use Rattle.cov_outside.specs.declared.limit.Which.{Which}
use Rattle.cov_outside.specs.declared.fault.FilesFault.{FilesFault}
use Rattle.cov_outside.specs.declared.fault.FilesFault.TheVariants as files_fault
use Rattle.gocov_tools.specs.declared.refusal.Refusal.{Refusal}
use Rattle.gocov_tools.specs.declared.refusal.Refusal.TheVariants as refusals
use Rattle.gocov_tools.specs.declared.status.Status.{Status}
use Rattle.gocov_tools.specs.declared.status.Status.TheVariants as statuses

abbrev pub of_files : FilesFault → Refusal
of_files files_fault.Failed = refusals.Read
of_files files_fault.NoMemory = refusals.NoMemory

-- a quantity, which may not pass its limit
abbrev pub within : Which → ℕ → Result ℕ Refusal
within which n = if nat_lt (limit_number which) n then Err (refusals.Limit which) else Ok n

-- the answer of a refused command
abbrev pub answer_of : Refusal → Status
answer_of refusals.NotBuilt = statuses.NotBuilt
answer_of (refusals.Usage i) = statuses.Usage i
answer_of (refusals.Source path place kind) = statuses.Source path place kind
answer_of (refusals.Missing path) = statuses.Missing path
answer_of (refusals.Data path offset kind) = statuses.Data path offset kind
answer_of (refusals.ModeClash first first_mode second second_mode) = statuses.ModeClash first first_mode second second_mode
answer_of (refusals.Limit w) = statuses.InputLimit w
answer_of refusals.Read = statuses.ReadFault
answer_of refusals.NoMemory = statuses.NoMemory

-- the refusal that a call answers is the one that is there, unless a read failed or memory ran out
abbrev pub Refuses : {Y : Type 0} → Refusal → Result Y Refusal → Type 0
Refuses refusals.NotBuilt there = there ≡ Err refusals.NotBuilt
Refuses (refusals.Usage i) there = there ≡ Err (refusals.Usage i)
Refuses (refusals.Source path place kind) there = there ≡ Err (refusals.Source path place kind)
Refuses (refusals.Missing path) there = there ≡ Err (refusals.Missing path)
Refuses (refusals.Data path offset kind) there = there ≡ Err (refusals.Data path offset kind)
Refuses (refusals.ModeClash first first_mode second second_mode) there = there ≡ Err (refusals.ModeClash first first_mode second second_mode)
Refuses (refusals.Limit w) there = there ≡ Err (refusals.Limit w)
Refuses refusals.Read there = Unit {0}
Refuses refusals.NoMemory there = Unit {0}

-- a call gave what is there, or its refusal
abbrev pub Gives : {X Y : Type 0} → (X → Y) → Result X Refusal → Result Y Refusal → Type 0
Gives view (Ok x) there = there ≡ Ok (view x)
Gives view (Err e) there = Refuses e there

-- the same of a call that reads no files, words or sources: their faults aren't among its answers
abbrev pub Decides : {X Y : Type 0} → (X → Y) → Result X Refusal → Result Y Refusal → Type 0
Decides view (Ok x) there = there ≡ Ok (view x)
Decides view (Err refusals.NotBuilt) there = ⊥
Decides view (Err (refusals.Usage i)) there = ⊥
Decides view (Err (refusals.Source path place kind)) there = ⊥
Decides view (Err (refusals.Missing path)) there = there ≡ Err (refusals.Missing path)
Decides view (Err (refusals.Data path offset kind)) there = there ≡ Err (refusals.Data path offset kind)
Decides view (Err (refusals.ModeClash first first_mode second second_mode)) there = there ≡ Err (refusals.ModeClash first first_mode second second_mode)
Decides view (Err (refusals.Limit w)) there = there ≡ Err (refusals.Limit w)
Decides view (Err refusals.Read) there = ⊥
Decides view (Err refusals.NoMemory) there = Unit {0}

-- a refusal that the files don't decide
abbrev pub IsFaultOrMemory : Refusal → Type 0
IsFaultOrMemory refusals.NotBuilt = ⊥
IsFaultOrMemory (refusals.Usage i) = ⊥
IsFaultOrMemory (refusals.Source path place kind) = ⊥
IsFaultOrMemory (refusals.Missing path) = ⊥
IsFaultOrMemory (refusals.Data path offset kind) = ⊥
IsFaultOrMemory (refusals.ModeClash first first_mode second second_mode) = ⊥
IsFaultOrMemory (refusals.Limit w) = ⊥
IsFaultOrMemory refusals.Read = Unit {0}
IsFaultOrMemory refusals.NoMemory = Unit {0}
