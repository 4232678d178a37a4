-- What names, operands and places use is there, within a program and so many slots.
use Rattle.std.specs.Prelude.{ℕ, List, [], ◌∷◌, Option, Some, None}
use Rattle.go_meaning.specs.Programs.{Parts}
use Rattle.go_meaning.specs.WellFormed.{variable, mutex, group, function, uses, IsThere, AreThere}
use Rattle.go_types.specs.declared.names.Callee.{Callee}
use Rattle.go_types.specs.declared.names.Callee.TheVariants as callee
use Rattle.go_types.specs.declared.names.Meaning.{Meaning}
use Rattle.go_types.specs.declared.names.Meaning.TheVariants as meaning
use Rattle.go_types.specs.declared.names.Binding.{Binding}
use Rattle.go_types.specs.declared.names.Names.{Names}
use Rattle.go_types.specs.Names.{last_named}
use Rattle.go_types.specs.declared.operand.Term.{Term}
use Rattle.go_types.specs.declared.operand.Term.TheVariants as term
use Rattle.go_types.specs.declared.operand.Operand.{Operand}
use Rattle.go_types.specs.declared.operand.Operand.TheVariants as operand

abbrev pub Each : {A : Type 0} → (A → Type 0) → List A → Type 0
Each T [] = Unit {0}
Each T (x ∷ xs) = T x × Each T xs

abbrev pub Perhaps : {A : Type 0} → (A → Type 0) → Option A → Type 0
Perhaps T None = Unit {0}
Perhaps T (Some x) = T x

module _ (P : Parts) (slots : ℕ) where
  -- what is called has a number that is there
  abbrev pub IsCallable : Callee → Type 0
  IsCallable (callee.Function f) = IsThere P slots (function f)
  IsCallable (callee.Lock m) = IsThere P slots (mutex m)
  IsCallable (callee.Unlock m) = IsThere P slots (mutex m)
  IsCallable (callee.Add g) = IsThere P slots (group g)
  IsCallable (callee.Done g) = IsThere P slots (group g)
  IsCallable (callee.Wait g) = IsThere P slots (group g)
  IsCallable c = Unit {0}

  abbrev pub IsMeant : Meaning → Type 0
  IsMeant (meaning.Variable x t) = IsThere P slots (variable x)
  IsMeant (meaning.Mutex m) = IsThere P slots (mutex m)
  IsMeant (meaning.Group g) = IsThere P slots (group g)
  IsMeant (meaning.Callee c) = IsCallable c
  IsMeant m = Unit {0}

  abbrev pub AreBound : List Binding → Type 0
  AreBound bs = Each (λ (b : Binding). IsMeant b.meaning) bs

  -- whatever a name means among bindings, where the last of a name counts
  abbrev pub AreNamed : List Binding → Type 0
  AreNamed bs = (name : List ℕ) → Perhaps IsMeant (last_named name bs)

  -- whatever a name means is there
  pub record AreKnown (names : Names) : Type 0 where
    pub packages : Each AreNamed names.packages
    pub own : AreNamed names.own
    pub locals : AreBound names.locals

  abbrev pub IsTerm : Term → Type 0
  IsTerm (term.Value t e) = AreThere P slots (uses e)
  IsTerm t = Unit {0}

  -- what an operand is found to compute, or to call, is there
  abbrev pub IsOperand : Operand → Type 0
  IsOperand (operand.Term t) = IsTerm t
  IsOperand (operand.Results ts e) = AreThere P slots (uses e)
  IsOperand (operand.Callee c) = IsCallable c
  IsOperand o = Unit {0}
