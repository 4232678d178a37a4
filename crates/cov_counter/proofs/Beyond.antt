-- Offsets behind the end of a file.
use Rattle.std.proofs.Common.{◌≡◌, ℕ, ◌+◌, ◌-◌, ◌<◌, ◌≤◌, List, [], length, drop, Bool, true, false, Result, Err, refl, arith, ◌==◌, if◌then◌else◌}
use Rattle.std.proofs.lemmas.Bool.{lt-ltb}
use Rattle.std.proofs.Math.ListN.{drop_of_length-le}
use Rattle.cov_bytes.specs.Reading.{little_at, big_at, uleb_at}
use Rattle.cov_bytes.specs.declared.cursor.CutFault.TheVariants.{Short}
use Rattle.cov_counter.specs.declared.head.Head.{Head}
use Rattle.cov_counter.specs.declared.fault.CounterFault.{CounterFault}
use Rattle.cov_counter.specs.declared.fault.CounterFault.TheVariants as faults
use Rattle.cov_outside.specs.declared.data_kind.DataKind.TheVariants as kinds
use Rattle.cov_outside.specs.declared.limit.Which.TheVariants.{DataBytes}
use Rattle.cov_counter.specs.Fault.{fault_of, Fails}
use Rattle.cov_counter.specs.File.{Known}
use Rattle.cov_counter.specs.Entry.{number_at, length_at, entry_at}
use Rattle.cov_counter.specs.Rest.{padding_in, behind_rest}

uleb-beyond : (bytes : List ℕ) (at : ℕ) → length bytes < at → uleb_at bytes at ≡ Err (Short at)
uleb-beyond bytes at lt =
    let le : length bytes ≤ at = omega arith in
    let none : drop at bytes ≡ [] = drop_of_length-le bytes le in
    rw none refl

little-beyond : (bytes : List ℕ) (at : ℕ) → length bytes < at → little_at 4 bytes at ≡ Err (Short at)
little-beyond bytes at lt = rw (lt-ltb (length bytes) (at + 4) (omega arith)) refl

big-beyond : (bytes : List ℕ) (at : ℕ) → length bytes < at → big_at 4 bytes at ≡ Err (Short at)
big-beyond bytes at lt = rw (lt-ltb (length bytes) (at + 4) (omega arith)) refl

number-beyond : (head : Head) (file : Known) (at : ℕ) → length file.bytes < at → number_at head file at ≡ Err (fault_of file.more (Short at))
unfolding number_at
number-beyond head file at lt =
    rw (uleb-beyond file.bytes at lt, big-beyond file.bytes at lt, little-beyond file.bytes at lt) (same (head.flavour == 2) head.big (fault_of file.more (Short at)))
  where
    same : (a b : Bool) (f : CounterFault) → let r : Result (ℕ × ℕ) CounterFault = Err f in (if a then r else if b then r else r) ≡ r
    same true b f = refl
    same false true f = refl
    same false false f = refl

pub entry-beyond : (head : Head) (file : Known) (at : ℕ) → length file.bytes < at → entry_at head file at ≡ Err (fault_of file.more (Short at))
unfolding entry_at length_at
entry-beyond head file at lt = rw (number-beyond head file at lt) refl

pub rest-beyond : (file : Known) (at : ℕ) → length file.bytes < at → behind_rest file at ≡ Err (fault_of file.more (Short at))
unfolding behind_rest
rest-beyond file at lt =
    let none : length file.bytes - at ≡ 0 = omega arith in
    let first : padding_in file at ≡ Err (fault_of file.more (Short at)) = rw none (by_cases file.more at) in
    rw first refl
  where
    by_cases : (more : Bool) (at : ℕ) → let limit : Result ℕ CounterFault = Err (faults.Limit DataBytes) in (if more then limit else Err (faults.At at kinds.Short)) ≡ Err (if more then faults.Limit DataBytes else faults.At at kinds.Short)
    by_cases true at = refl
    by_cases false at = refl

-- such a fault is the one that is there
pub fails-short : {Y : Type 0} (more : Bool) (at : ℕ) (e : CounterFault) (there : Result Y CounterFault) → e ≡ fault_of more (Short at) → there ≡ Err (fault_of more (Short at)) → Fails e there
fails-short true at e there is h = rw is h
fails-short false at e there is h = rw is h
