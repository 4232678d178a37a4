-- Uses that are there.
use Rattle.std.proofs.Common.{◌≡◌, ℕ, ◌≤◌, List, [], ◌∷◌, ◌++◌, sym, subst, ap, refl, ◌∙◌, arith}
use Rattle.go_meaning.specs.declared.expr.Variable.TheVariants.{Slot, Global as Package}
use Rattle.go_meaning.specs.declared.expr.Op.{Op}
use Rattle.go_meaning.specs.declared.expr.Expr.{Expr, fold-Expr, out-Expr, fold_out-Expr, fold-roll-Expr, roll-Expr}
use Rattle.go_meaning.specs.declared.expr.Expr.TheOpen.{Expr-F}
use Rattle.go_meaning.specs.declared.expr.Expr.TheVariants as expr
use Rattle.go_meaning.specs.declared.expr.Expr.TheVariants.{rolls-Value, rolls-Variable, rolls-And, rolls-Or, rolls-Apply, rolls-Receive, rolls-ReceiveOk, rolls-Call}
use Rattle.go_meaning.specs.declared.expr.Expr.TheFolds.{map-Expr}
use Rattle.go_meaning.specs.declared.expr.Expr.TheShapes.{former-Expr-Apply-1}
use Rattle.go_meaning.specs.declared.expr.Variable.{Variable}
use Rattle.go_meaning.specs.declared.value.Value.{Value}
use Rattle.go_meaning.specs.Programs.{Parts}
use Rattle.go_meaning.specs.WellFormed.{Use, variable, mutex, group, function, uses, all_uses, uses_layer, uses_of_op, joined, IsThere, AreThere}
use Rattle.go_bounds.specs.Known.{Each}

module _ (P : Parts) (slots : ℕ) where
  pub there_append : (us vs : List Use) → AreThere P slots us → AreThere P slots vs → AreThere P slots (us ++ vs)
  there_append [] vs a b = b
  there_append (u ∷ us) vs a b = (a.0, there_append us vs a.1 b)

  pub there_left : (us vs : List Use) → AreThere P slots (us ++ vs) → AreThere P slots us
  there_left [] vs a = tt
  there_left (u ∷ us) vs a = (a.0, there_left us vs a.1)

  pub there_right : (us vs : List Use) → AreThere P slots (us ++ vs) → AreThere P slots vs
  there_right [] vs a = a
  there_right (u ∷ us) vs a = there_right us vs a.1

-- more slots take nothing away
pub use_stays : (P : Parts) (s t : ℕ) → s ≤ t → (u : Use) → IsThere P s u → IsThere P t u
use_stays P s t h (variable (Slot n)) a = omega (arith, h, a)
use_stays P s t h (variable (Package n)) a = a
use_stays P s t h (mutex n) a = a
use_stays P s t h (group n) a = a
use_stays P s t h (function n) a = a

pub there_stays : (P : Parts) (s t : ℕ) → s ≤ t → (us : List Use) → AreThere P s us → AreThere P t us
there_stays P s t h [] a = tt
there_stays P s t h (u ∷ us) a = (use_stays P s t h u a.0, there_stays P s t h us a.1)

abbrev usesE : Expr → List Use
usesE = fold-Expr (List Use) uses_layer

mapped : (es : List Expr) → joined ((former-Expr-Apply-1).map Expr (List Use) usesE es) ≡ all_uses es
unfolding uses
mapped [] = refl
mapped (e ∷ es) = ap (λ l. usesE e ++ l) (mapped es)

-- what one layer uses
abbrev pub used : Expr-F Expr → List Use
used (Expr-F.Value v) = []
used (Expr-F.Variable x) = variable x ∷ []
used (Expr-F.And a b) = uses a ++ uses b
used (Expr-F.Or a b) = uses a ++ uses b
used (Expr-F.Apply o es) = uses_of_op o ++ all_uses es
used (Expr-F.Receive a) = uses a
used (Expr-F.ReceiveOk a) = uses a
used (Expr-F.Call f es) = function f ∷ all_uses es

layered : (x : Expr-F Expr) → uses_layer (map-Expr Expr (List Use) usesE x) ≡ used x
unfolding uses
layered (Expr-F.Value v) = refl
layered (Expr-F.Variable x) = refl
layered (Expr-F.And a b) = refl
layered (Expr-F.Or a b) = refl
layered (Expr-F.Apply o es) = ap (λ l. uses_of_op o ++ l) (mapped es)
layered (Expr-F.Receive a) = refl
layered (Expr-F.ReceiveOk a) = refl
layered (Expr-F.Call f es) = ap (λ l. function f ∷ l) (mapped es)

uses_roll : (x : Expr-F Expr) → uses (roll-Expr x) ≡ used x
unfolding uses
uses_roll x = fold-roll-Expr (List Use) uses_layer x ∙ layered x

pub uses_out : (e : Expr) → uses e ≡ used (out-Expr e)
unfolding uses
uses_out e = fold_out-Expr (List Use) uses_layer e ∙ layered (out-Expr e)

module _ (P : Parts) (slots : ℕ) where
  -- what an expression uses is there
  pub record Computes (e : Expr) : Type 0 where
    pub there : AreThere P slots (uses e)

  computes : (e : Expr) (us : List Use) → uses e ≡ us → AreThere P slots us → Computes e
  computes e us h a = record { there = subst (AreThere P slots) (sym h) a }

  pub all_there : (es : List Expr) → Each Computes es → AreThere P slots (all_uses es)
  all_there [] h = tt
  all_there (e ∷ es) h = there_append P slots (uses e) (all_uses es) h.0.there (all_there es h.1)

  pub c_value : (v : Value) → Computes (expr.Value v)
  c_value v = computes (expr.Value v) [] (ap uses (sym (rolls-Value v)) ∙ uses_roll (Expr-F.Value v)) tt

  pub c_variable : (x : Variable) → IsThere P slots (variable x) → Computes (expr.Variable x)
  c_variable x h = computes (expr.Variable x) (variable x ∷ []) (ap uses (sym (rolls-Variable x)) ∙ uses_roll (Expr-F.Variable x)) (h, tt)

  pub c_and : (a b : Expr) → Computes a → Computes b → Computes (expr.And a b)
  c_and a b h k = computes (expr.And a b) (uses a ++ uses b) (ap uses (sym (rolls-And a b)) ∙ uses_roll (Expr-F.And a b)) (there_append P slots (uses a) (uses b) h.there k.there)

  pub c_or : (a b : Expr) → Computes a → Computes b → Computes (expr.Or a b)
  c_or a b h k = computes (expr.Or a b) (uses a ++ uses b) (ap uses (sym (rolls-Or a b)) ∙ uses_roll (Expr-F.Or a b)) (there_append P slots (uses a) (uses b) h.there k.there)

  pub c_apply : (o : Op) (es : List Expr) → AreThere P slots (uses_of_op o) → Each Computes es → Computes (expr.Apply o es)
  c_apply o es h k = computes (expr.Apply o es) (uses_of_op o ++ all_uses es) (ap uses (sym (rolls-Apply o es)) ∙ uses_roll (Expr-F.Apply o es)) (there_append P slots (uses_of_op o) (all_uses es) h (all_there es k))

  pub c_receive : (a : Expr) → Computes a → Computes (expr.Receive a)
  c_receive a h = computes (expr.Receive a) (uses a) (ap uses (sym (rolls-Receive a)) ∙ uses_roll (Expr-F.Receive a)) h.there

  pub c_receive_ok : (a : Expr) → Computes a → Computes (expr.ReceiveOk a)
  c_receive_ok a h = computes (expr.ReceiveOk a) (uses a) (ap uses (sym (rolls-ReceiveOk a)) ∙ uses_roll (Expr-F.ReceiveOk a)) h.there

  pub c_call : (f : ℕ) (es : List Expr) → IsThere P slots (function f) → Each Computes es → Computes (expr.Call f es)
  c_call f es h k = computes (expr.Call f es) (function f ∷ all_uses es) (ap uses (sym (rolls-Call f es)) ∙ uses_roll (Expr-F.Call f es)) (h, all_there es k)
