-- What follows from an answer that is no fault.
use Rattle.std.proofs.Common.{◌≡◌, Bool, true, false, cond, Option, Some, None, Ok, Err, refl, sym, ap, ◌∙◌}
use Rattle.go_ast.specs.declared.kind.SourceKind.{SourceKind}
use Rattle.go_types.specs.declared.fault.Fault.{Fault}
use Rattle.go_types.specs.Checking.{Checked, and_then, fault}
use Rattle.go_types.specs.Operands.{or_wrong}
use Rattle.std.specs.Prelude.{ℕ}

pub not_both : {A : Type 0} (b : Bool) → b ≡ true → b ≡ false → A
not_both b t f = let e : true ≡ false = sym t ∙ f in absurd cc

abbrev ok_or : {A : Type 0} → A → Checked A → A
ok_or d (Ok a) = a
ok_or d (Err f) = d

pub same_ok : {A : Type 0} (a b : A) → ◌≡◌ {A = Checked A} (Ok a) (Ok b) → a ≡ b
same_ok a b e = ap (ok_or a) e

abbrev good : {A : Type 0} → Checked A → Bool
good (Ok a) = true
good (Err f) = false

pub no_fault : {A B : Type 0} (f : Fault) (a : A) → ◌≡◌ {A = Checked A} (Err f) (Ok a) → B
no_fault {A = A} f a e = not_both false (ap (good {A = A}) e) refl

-- the first was no fault, and nor was the second
pub ok_then : {A B : Type 0} (r : Checked A) (f : A → Checked B) (b : B) → and_then r f ≡ Ok b → (a : A) × (r ≡ Ok a) × (f a ≡ Ok b)
ok_then (Ok a) f b e = (a, refl, e)
ok_then (Err x) f b e = no_fault x b e

-- an answer that nothing was noted for
pub lifted : {A M : Type 0} (r : Checked A) (m : M) (a : A) (new : M) → and_then {B = A × M} r (λ x. Ok (x, m)) ≡ Ok (a, new) → r ≡ Ok a
lifted (Ok x) m a new e = ap Ok (ap (λ p. p.0) (same_ok (x, m) (a, new) e))
lifted (Err x) m a new e = no_fault x (a, new) e

pub ok_if : {A : Type 0} (b : Bool) (x : Checked A) (at : ℕ) (k : SourceKind) (a : A) → cond b x (fault at k) ≡ Ok a → (b ≡ true) × (x ≡ Ok a)
ok_if true x at k a e = (refl, e)
ok_if false x at k a e = no_fault (record { offset = at; kind = k }) a e

pub ok_unless : {A : Type 0} (b : Bool) (x : Checked A) (at : ℕ) (k : SourceKind) (a : A) → cond b (fault at k) x ≡ Ok a → (b ≡ false) × (x ≡ Ok a)
ok_unless true x at k a e = no_fault (record { offset = at; kind = k }) a e
ok_unless false x at k a e = (refl, e)

pub right_of : {A : Type 0} (at : ℕ) (o : Option A) (a : A) → or_wrong at o ≡ Ok a → o ≡ Some a
right_of at (Some x) a e = ap Some (same_ok x a e)
right_of at None a e = no_fault _ a e
