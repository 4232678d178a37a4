-- What checking answers: the first fault, or a value.
use Rattle.std.specs.Prelude.{◌≡◌, ℕ, Result, Ok, Err}
use Rattle.go_ast.specs.declared.kind.SourceKind.{SourceKind}
use Rattle.go_ast.specs.declared.kind.SourceKind.TheVariants as source
use Rattle.go_value.specs.declared.fault.ConstFault.{ConstFault}
use Rattle.go_value.specs.declared.fault.ConstFault.TheVariants.{ConstRange, ConstDivide}
use Rattle.go_types.specs.declared.fault.Fault.{Fault}
use Rattle.go_types.specs.declared.names.Marks.{Marks}
use Rattle.go_types.specs.declared.fault.Refusal.{Refusal}
use Rattle.go_types.specs.declared.fault.Refusal.TheVariants.{At, NoMemory}

abbrev pub Checked : Type 0 → Type 0
Checked A = Result A Fault

abbrev pub fault : {A : Type 0} → ℕ → SourceKind → Checked A
fault at kind = Err (record { offset = at; kind = kind })

-- the second is checked where the first has no fault
abbrev pub and_then : {A B : Type 0} → Checked A → (A → Checked B) → Checked B
and_then (Ok a) f = f a
and_then (Err e) f = Err e

-- an answer is what checking says, unless memory ran out
abbrev pub Gives : {A : Type 0} → Checked A → Result A Refusal → Type 0
Gives checked (Ok a) = checked ≡ Ok a
Gives checked (Err (At f)) = checked ≡ Err f
Gives checked (Err NoMemory) = Unit {0}

abbrev pub const_kind : ConstFault → SourceKind
const_kind ConstRange = source.ConstRange
const_kind ConstDivide = source.ConstDivide

abbrev pub at_offset : {A : Type 0} → ℕ → Result A ConstFault → Checked A
at_offset at (Ok a) = Ok a
at_offset at (Err e) = fault at (const_kind e)

-- ---- checking that notes which variables are read and which imports are used

abbrev pub Checking : Type 0 → Type 0
Checking A = Marks → Checked (A × Marks)

infixl 10 ◌>>=◌
abbrev pub ◌>>=◌ : {A B : Type 0} → Checking A → (A → Checking B) → Checking B
p >>= f = λ m. and_then (p m) (λ r. f r.0 r.1)

abbrev pub pure : {A : Type 0} → A → Checking A
pure a = λ m. Ok (a, m)

abbrev pub lift : {A : Type 0} → Checked A → Checking A
lift r = λ m. and_then r (λ a. Ok (a, m))

abbrev pub fail : {A : Type 0} → ℕ → SourceKind → Checking A
fail at kind = λ m. fault at kind

-- what a call with marks ensures, unless memory ran out
abbrev pub Checks : {A : Type 0} → Checked (A × Marks) → Result A Refusal → Marks → Type 0
Checks checked (Ok a) new = checked ≡ Ok (a, new)
Checks checked (Err (At f)) new = checked ≡ Err f
Checks checked (Err NoMemory) new = Unit {0}
