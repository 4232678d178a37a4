-- Where a reader of a counter file stands, and what its calls answer.
use Rattle.std.specs.Prelude.{◌≡◌, ℕ, ◌-◌, ◌<◌, List, Option, Some, None, Result, Ok, Err, IfSome, IsOk}
use Rattle.std.specs.FinMap as map
use Rattle.cov_outside.specs.Tree.{Tree}
use Rattle.cov_outside.specs.Faults.{Count}
use Rattle.cov_bytes.specs.Many.{◌>>=◌, many}
use Rattle.cov_counter.specs.declared.fault.CounterFault.{CounterFault}
use Rattle.cov_counter.specs.declared.head.Head.{Head}
use Rattle.cov_counter.specs.declared.entry.Entry.{Entry}
use Rattle.cov_counter.specs.declared.reader.CounterReader.{CounterReader}
use Rattle.cov_counter.specs.declared.stage.Stage.{Stage}
use Rattle.cov_counter.specs.declared.stage.Stage.TheVariants.{New, Reading, Failed}
use Rattle.cov_counter.specs.Fault.{Fails}
use Rattle.cov_counter.specs.File.{Known}
use Rattle.cov_counter.specs.Outside.{Answers, CountsRead, IsFaultOf, file_at}
use Rattle.cov_counter.specs.Head.{head_at}
use Rattle.cov_counter.specs.Entry.{entry_at}
use Rattle.cov_counter.specs.Rest.{behind_rest}

-- the head of a file, and the offset of its first entry
unfoldable pub start_of : Option (List ℕ) → Result (Head × ℕ) CounterFault
start_of there = do
  file ← file_at there
  head_at file 0

-- the entry at an offset, and the offset behind it
unfoldable pub entry_of : Head → ℕ → Option (List ℕ) → Result (Entry × ℕ) CounterFault
entry_of head at there = do
  file ← file_at there
  entry_at head file at

-- that the file ends behind the last entry as it has to
unfoldable pub end_of : ℕ → Option (List ℕ) → Result (Unit {0}) CounterFault
end_of at there = do
  file ← file_at there
  end ← behind_rest file at
  Ok tt

-- an entry with its offset, and the offset behind it
unfoldable pub turn_of : Head → Option (List ℕ) → ℕ → Result ((ℕ × Entry) × ℕ) CounterFault
turn_of head there at = do
  entry ← entry_of head at there
  Ok ((at, entry.0), entry.1)

-- a whole file: its head, and the entries with their offsets
unfoldable pub whole_of : Option (List ℕ) → Result (Head × List (ℕ × Entry)) CounterFault
whole_of there = do
  head ← start_of there
  entries ← many (turn_of head.0 there) head.0.entries head.1
  end ← end_of entries.1 there
  Ok (head.0, entries.0)

-- ---- where a reader stands

-- a reader stands before entries of which this many are left
abbrev pub IsBefore : ℕ → Stage → Type 0
IsBefore n New = ⊥
IsBefore n (Reading at left) = left ≡ n
IsBefore n (Failed f) = ⊥

-- how many entries are left
abbrev pub left_of : Stage → ℕ
left_of New = 0
left_of (Reading at left) = left
left_of (Failed f) = 0

-- what is held is what there is at the path, where it is still needed
unfoldable pub IsHeld : Option Tree → List ℕ → Known → Stage → Type 0
IsHeld tree path held New = ⊥
IsHeld tree path held (Reading at left) = IfSome tree (λ t. file_at (map.get t path) ≡ Ok held)
IsHeld tree path held (Failed f) = Unit {0}

-- A reader was opened, and what it knows of its file holds, so that it can go on.
unfoldable pub IsReady : {F : Type 0} → (F → Option Tree) → CounterReader F Known → Type 0
IsReady tree reader = IsHeld (tree reader.files.now) reader.path.now reader.held reader.stage

-- next answered that no entry is left, or a fault is kept
abbrev pub IsOver : Stage → Type 0
IsOver New = ⊥
IsOver (Reading at left) = left ≡ 0
IsOver (Failed f) = Unit {0}

-- the count rose where a read failed in this call, and a kept fault is answered without a read
abbrev pub CountsFrom : {X : Type 0} → Result X CounterFault → Stage → Count → Count → Type 0
CountsFrom (Ok x) stage before now = now ≡ before
CountsFrom {X = X} (Err e) New before now = CountsRead {X = X} before now (Err e)
CountsFrom {X = X} (Err e) (Reading at left) before now = CountsRead {X = X} before now (Err e)
CountsFrom (Err e) (Failed f) before now = now ≡ before

-- ---- open

-- the reader stands before all entries, or at the fault that it answered
abbrev pub Opens : Stage → Head → Result (Unit {0}) CounterFault → Type 0
Opens stage head (Ok x) = IsBefore head.entries stage
Opens stage head (Err e) = stage ≡ Failed e

-- the head and the offset of the first entry are those that are there, or the fault is
abbrev pub OpensAt : Result (Unit {0}) CounterFault → Stage → Head → Result (Head × ℕ) CounterFault → Type 0
OpensAt (Ok x) New head there = ⊥
OpensAt (Ok x) (Reading at left) head there = there ≡ Ok (head, at)
OpensAt (Ok x) (Failed f) head there = ⊥
OpensAt (Err e) stage head there = IsFaultOf e there

-- ---- next

-- the next entry, none exactly after the last, or the fault that is answered from then on
abbrev pub Advances : Stage → Stage → Result (Option (ℕ × Entry)) CounterFault → Type 0
Advances New stage result = ⊥
Advances (Reading at left) stage (Ok None) = (left ≡ 0) × (stage ≡ Reading at left)
Advances (Reading at left) stage (Ok (Some x)) = (0 < left) × (x.0 ≡ at) × IsBefore (left - 1) stage
Advances (Reading at left) stage (Err e) = (0 < left) × (stage ≡ Failed e)
Advances (Failed f) stage result = (result ≡ Err f) × (stage ≡ Failed f)

-- the entry and the offset behind it are those that are there, or the fault is
abbrev pub AdvancesAt : Stage → Result (Option (ℕ × Entry)) CounterFault → Stage → Head → Option (List ℕ) → Type 0
AdvancesAt New result stage head there = Unit {0}
AdvancesAt (Reading at left) (Ok None) stage head there = Unit {0}
AdvancesAt (Reading at left) (Ok (Some x)) New head there = ⊥
AdvancesAt (Reading at left) (Ok (Some x)) (Reading next rest) head there = entry_of head at there ≡ Ok (x.1, next)
AdvancesAt (Reading at left) (Ok (Some x)) (Failed f) head there = ⊥
AdvancesAt (Reading at left) (Err e) stage head there = IsFaultOf e (entry_of head at there)
AdvancesAt (Failed f) result stage head there = Unit {0}

-- ---- finish

-- the file ends as it has to, or the fault is the one that is there or was kept
abbrev pub Finishes : Stage → Result (Unit {0}) CounterFault → Option (List ℕ) → Type 0
Finishes New result there = Unit {0}
Finishes (Reading at left) result there = Answers result (end_of at there)
Finishes (Failed f) result there = result ≡ Err f

-- a kept fault is answered
abbrev pub Keeps : Stage → Result (Unit {0}) CounterFault → Type 0
Keeps New result = Unit {0}
Keeps (Reading at left) result = Unit {0}
Keeps (Failed f) result = result ≡ Err f

-- the rest of a file from an offset on was read, or the fault is the one that is there
abbrev pub EndsAt : ℕ → Known → Result (Unit {0}) CounterFault → Type 0
EndsAt at file (Ok x) = IsOk (behind_rest file at)
EndsAt at file (Err e) = Fails e (behind_rest file at)
