-- What holds of what checking a package answers, where it answers.
use Rattle.std.proofs.Common.{◌≡◌, ℕ, Result, Ok, Err, subst, refl}
use Rattle.go_types.specs.declared.fault.Placed.{Placed}
use Rattle.go_types.specs.Checking.{Checked}
use Rattle.go_packages.specs.Placing.{placed, then_on}
use Rattle.go_bounds.proofs.Sure.{Sure}

pub record Surely {A : Type 0} (r : Result A Placed) (Q : A → Type 0) : Type 0 where
  pub holds : (a : A) → r ≡ Ok a → Q a

pub surely_ok : {A : Type 0} {Q : A → Type 0} (a : A) → Q a → Surely (Ok a) Q
surely_ok {Q = Q} a q = record { holds = λ b e. (let h : a ≡ b = cc in subst Q h q) }

pub surely_err : {A : Type 0} {Q : A → Type 0} (p : Placed) → Surely {A = A} (Err p) Q
surely_err p = record { holds = λ b e. cc }

pub surely_any : {A : Type 0} (r : Result A Placed) → Surely r (λ a. Unit {0})
surely_any r = record { holds = λ a e. tt }

pub surely_is : {A : Type 0} (r : Result A Placed) → Surely r (λ a. r ≡ Ok a)
surely_is r = record { holds = λ a e. e }

pub surely_then : {A B : Type 0} {Q : A → Type 0} {R : B → Type 0} {f : A → Result B Placed} {r : Result A Placed} → Surely r Q → ((a : A) → Q a → Surely (f a) R) → Surely (then_on r f) R
surely_then {r = Ok a} q k = k a (q.holds a refl)
surely_then {r = Err e} q k = record { holds = λ b e. cc }

pub surely_placed : {A : Type 0} {Q : A → Type 0} (k : ℕ) (r : Checked A) → Sure r Q → Surely (placed k r) Q
surely_placed k (Ok a) h = surely_ok a (h.holds a refl)
surely_placed k (Err f) h = surely_err _

pub surely_more : {A : Type 0} {Q R : A → Type 0} {r : Result A Placed} → Surely r Q → ((a : A) → Q a → R a) → Surely r R
surely_more q k = record { holds = λ a e. k a (q.holds a e) }
