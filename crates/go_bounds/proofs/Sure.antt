-- What holds of what checking answers, where it answers.
use Rattle.std.proofs.Common.{◌≡◌, ℕ, Bool, true, false, cond, Ok, Err, subst, refl}
use Rattle.go_ast.specs.declared.kind.SourceKind.{SourceKind}
use Rattle.go_types.specs.declared.names.Marks.{Marks}
use Rattle.go_types.specs.Checking.{Checked, and_then, fault, Checking, ◌>>=◌, pure, lift, fail}

pub record Sure {A : Type 0} (r : Checked A) (Q : A → Type 0) : Type 0 where
  pub holds : (a : A) → r ≡ Ok a → Q a

pub record Finds {A : Type 0} (p : Checking A) (Q : A → Type 0) : Type 0 where
  pub sure : (m : Marks) → Sure (p m) (λ r. Q r.0)

pub sure_ok : {A : Type 0} {Q : A → Type 0} (a : A) → Q a → Sure (Ok a) Q
sure_ok {Q = Q} a q = record { holds = λ b e. (let h : a ≡ b = cc in subst Q h q) }

pub sure_err : {A : Type 0} {Q : A → Type 0} (at : ℕ) (kind : SourceKind) → Sure (fault {A = A} at kind) Q
sure_err at kind = record { holds = λ b e. cc }

pub sure_then : {A B : Type 0} {Q : A → Type 0} {R : B → Type 0} {f : A → Checked B} {r : Checked A} → Sure r Q → ((a : A) → Q a → Sure (f a) R) → Sure (and_then r f) R
sure_then {r = Ok a} q k = k a (q.holds a refl)
sure_then {r = Err e} q k = record { holds = λ b e. cc }

pub sure_if : {A : Type 0} {Q : A → Type 0} (b : Bool) {r t : Checked A} → Sure r Q → Sure t Q → Sure (cond b r t) Q
sure_if true h k = h
sure_if false h k = k

pub sure_any : {A : Type 0} (r : Checked A) → Sure r (λ a. Unit {0})
sure_any r = record { holds = λ a e. tt }

pub sure_more : {A : Type 0} {Q R : A → Type 0} {r : Checked A} → Sure r Q → ((a : A) → Q a → R a) → Sure r R
sure_more q k = record { holds = λ a e. k a (q.holds a e) }

pub finds_then : {A B : Type 0} {Q : A → Type 0} {R : B → Type 0} {p : Checking A} {f : A → Checking B} → Finds p Q → ((a : A) → Q a → Finds (f a) R) → Finds (p >>= f) R
finds_then q k = record { sure = λ m. sure_then (q.sure m) (λ r h. (k r.0 h).sure r.1) }

pub finds_pure : {A : Type 0} {Q : A → Type 0} (a : A) → Q a → Finds (pure a) Q
finds_pure a q = record { sure = λ m. sure_ok (a, m) q }

pub finds_lift : {A : Type 0} {Q : A → Type 0} {r : Checked A} → Sure r Q → Finds (lift r) Q
finds_lift q = record { sure = λ m. sure_then q (λ a h. sure_ok (a, m) h) }

pub finds_fail : {A : Type 0} {Q : A → Type 0} (at : ℕ) (kind : SourceKind) → Finds (fail {A = A} at kind) Q
finds_fail at kind = record { sure = λ m. sure_err at kind }
