-- How a loop does a step several times, and how the fault of a step is that of the whole.
use Rattle.std.proofs.Common.{◌≡◌, ℕ, suc, ◌+◌, ◌-◌, ◌<◌, ◌≤◌, Result, Ok, Err, refl, sym, ◌∙◌, arith}
use Rattle.cov_counter.specs.declared.fault.CounterFault.{CounterFault}
use Rattle.cov_counter.specs.declared.fault.CounterFault.TheVariants as faults
use Rattle.cov_counter.specs.Each.{each}
use Rattle.cov_counter.specs.Fault.{Fails}

pub each-goes_on : {S E : Type 0} (step : S → Result S E) (count i : ℕ) (s t : S) (total : Result S E) → i < count → step s ≡ Ok t
    → each step (count - i) s ≡ total → each step (count - (i + 1)) t ≡ total
unfolding each
each-goes_on step count i s t total lt h so_far =
    let k : count - i ≡ suc (count - (i + 1)) = omega arith in
    let one : each step (count - i) s ≡ each step (count - (i + 1)) t = rw (k, h) refl in
    sym one ∙ so_far

pub each-ends : {S E : Type 0} (step : S → Result S E) (count i : ℕ) (s : S) (e : E) (total : Result S E) → i < count → step s ≡ Err e
    → each step (count - i) s ≡ total → total ≡ Err e
unfolding each
each-ends step count i s e total lt h so_far =
    let k : count - i ≡ suc (count - (i + 1)) = omega arith in
    sym so_far ∙ rw (k, h) refl

pub each-is_done : {S E : Type 0} (step : S → Result S E) (count i : ℕ) (s : S) (total : Result S E) → count ≤ i
    → each step (count - i) s ≡ total → total ≡ Ok s
unfolding each
each-is_done step count i s total le so_far =
    let k : count - i ≡ 0 = omega arith in
    sym so_far ∙ rw k refl

-- a fault of a part is the fault of the whole
pub Fails-further : {A B : Type 0} (e : CounterFault) (r : Result A CounterFault) (total : Result B CounterFault) → Fails e r → ((f : CounterFault) → r ≡ Err f → total ≡ Err f) → Fails e total
Fails-further faults.NoMemory r total h carry = tt
Fails-further (faults.At offset kind) r total h carry = carry (faults.At offset kind) h
Fails-further (faults.Limit w) r total h carry = carry (faults.Limit w) h
Fails-further faults.Missing r total h carry = absurd h
Fails-further faults.Read r total h carry = absurd h
