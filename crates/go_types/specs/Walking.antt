-- Checking a body: what is done at a place with the names, variables, labels and lists there.
use Rattle.std.specs.Prelude.{◌≡◌, ℕ, ◌+◌, Bool, true, false, List, [], ◌∷◌, ◌++◌, length, take, drop, replicate, slice_set, slice_get, Option, Some, None, Result, Ok, Err, is_some, if◌then◌else◌}
use Rattle.go_ast.specs.declared.kind.SourceKind.{SourceKind}
use Rattle.go_ast.specs.declared.kind.SourceKind.TheVariants as source
use Rattle.go_ast.specs.declared.name.Name.{Name}
use Rattle.go_meaning.specs.declared.node.Node.{Node}
use Rattle.go_types.specs.declared.fault.Refusal.{Refusal}
use Rattle.go_types.specs.declared.fault.Refusal.TheVariants.{At, NoMemory}
use Rattle.go_types.specs.declared.names.Binding.{Binding}
use Rattle.go_types.specs.declared.names.Meaning.{Meaning}
use Rattle.go_types.specs.declared.names.Names.{Names}
use Rattle.go_types.specs.declared.walk.Enclosing.{Enclosing}
use Rattle.go_types.specs.declared.walk.Walk.{Walk}
use Rattle.go_types.specs.Names.{last_named}
use Rattle.go_types.specs.Checking.{Checked, and_then, fault, Checking}

abbrev pub Walking : Type 0 → Type 0
Walking A = Walk → Checked (A × Walk)

infixl 10 ◌>>>◌
abbrev pub ◌>>>◌ : {A B : Type 0} → Walking A → (A → Walking B) → Walking B
p >>> f = λ s. and_then (p s) (λ r. f r.0 r.1)

abbrev pub done : {A : Type 0} → A → Walking A
done a = λ s. Ok (a, s)

abbrev pub as_walking : {A : Type 0} → Checked A → Walking A
as_walking r = λ s. and_then r (λ a. Ok (a, s))

abbrev pub stop : {A : Type 0} → ℕ → SourceKind → Walking A
stop at kind = λ s. fault at kind

-- what expressions are at the place
abbrev pub here : {A : Type 0} → (Names → Checking A) → Walking A
here p = λ s. and_then (p s.names s.marks) (λ r. Ok (r.0, record s { marks = r.1 }))

-- what a call ensures of its answer and of the state behind it, unless memory ran out
abbrev pub Walks : {A : Type 0} → Checked (A × Walk) → Result A Refusal → Walk → Type 0
Walks checked (Ok a) new = checked ≡ Ok (a, new)
Walks checked (Err (At f)) new = checked ≡ Err f
Walks checked (Err NoMemory) new = Unit {0}

-- ---- scopes

abbrev pub with_locals : Walk → List Binding → Walk
with_locals s bs = record s { names = record s.names { locals = bs } }

-- a scope that begins here: what is declared in it isn't known behind it
abbrev pub opened : Walk → Walk
opened s = record s { scope = length s.names.locals }

abbrev pub closed : Walk → Walk → Walk
closed around s = record (with_locals s (take (length around.names.locals) s.names.locals)) { scope = around.scope }

abbrev pub scoped : {A : Type 0} → Walking A → Walking A
scoped p = λ s. and_then (p (opened s)) (λ r. Ok (r.0, closed s r.1))

-- what a name was declared as in the innermost scope
abbrev pub in_scope : Walk → List ℕ → Option Meaning
in_scope s name = last_named name (drop s.scope s.names.locals)

abbrev pub bind : Name → Meaning → Walking (Unit {0})
bind n m = λ s.
    if is_some (in_scope s n.text) then fault n.at source.Redeclared
    else Ok (tt, with_locals s (s.names.locals ++ record { name = n.text; meaning = m } ∷ []))

-- ---- lists

-- numbers for so many lists, of which the first is answered
abbrev pub new_lists : ℕ → Walking ℕ
new_lists n = λ s. Ok (length s.lists, record s { lists = s.lists ++ replicate n [] })

abbrev pub set_list : ℕ → List Node → Walking (Unit {0})
set_list n ns = λ s. Ok (tt, record s { lists = slice_set s.lists n ns })

-- ---- statements that `break` can leave

abbrev pub within : {A : Type 0} → Enclosing → Walking A → Walking A
within e p = λ s. and_then (p (record s { around = s.around ++ e ∷ [] })) (λ r. Ok (r.0, record r.1 { around = take (length s.around) r.1.around }))
