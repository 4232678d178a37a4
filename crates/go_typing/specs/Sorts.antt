-- What an expression can be, without its value, its place and what it computes. Go specification, "Constants", "Types",
-- "Calls" and "Declarations and scope".
use Rattle.std.specs.Prelude.{Bool, true, false, List}
use Rattle.go_types.specs.declared.types.ValueType.{ValueType}
use Rattle.go_types.specs.declared.kinds.OperandKind.{OperandKind}
use Rattle.go_types.specs.declared.kinds.OperandKind.TheVariants.{Typed, Nil}
use Rattle.go_types.specs.declared.names.Callee.{Callee}
use Rattle.go_types.specs.declared.names.Meaning.{Meaning}
use Rattle.go_types.specs.declared.names.Meaning.TheVariants as meaning
use Rattle.go_types.specs.declared.operand.Term.{Term}
use Rattle.go_types.specs.declared.operand.Term.TheVariants as term
use Rattle.go_types.specs.declared.operand.Operand.{Operand}
use Rattle.go_types.specs.declared.operand.Operand.TheVariants as operand

-- A value is constant or not. Its kind is its type, that of an untyped constant, or that of `nil`.
pub record Value : Type 0 where
  pub constant : Bool
  pub kind : OperandKind

abbrev pub constant : OperandKind → Value
constant k = record { constant = true; kind = k }

abbrev pub computed : OperandKind → Value
computed k = record { constant = false; kind = k }

-- a value of a type that isn't constant
abbrev pub typed : ValueType → Value
typed t = computed (Typed t)

-- What an expression is: a value, what a call gives that gives none or several, a type, what can be called, or else what
-- a name alone can't stand for, as a package.
pub data Sort : Type 0 where
  value : Value → Sort
  results : List ValueType → Sort
  type_ : ValueType → Sort
  callee : Callee → Sort
  other : Sort

-- the sort of what a name means
abbrev pub sort_meant : Meaning → Sort
sort_meant (meaning.Constant k c) = value (constant k)
sort_meant meaning.Nil = value (computed Nil)
sort_meant (meaning.Variable x t) = value (typed t)
sort_meant (meaning.Type t) = type_ t
sort_meant (meaning.Callee c) = callee c
sort_meant x = other

-- the sort of an operand that was found
abbrev pub value_found : Term → Value
value_found (term.Constant k c) = constant k
value_found term.Nil = computed Nil
value_found (term.Value t e) = typed t

abbrev pub sort_of : Operand → Sort
sort_of (operand.Term t) = value (value_found t)
sort_of (operand.Results ts e) = results ts
sort_of (operand.Type t) = type_ t
sort_of (operand.Callee c) = callee c
sort_of operand.Other = other
