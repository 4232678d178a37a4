-- What calls compute is there.
use Rattle.std.proofs.Common.{◌≡◌, ℕ, pos, List, [], ◌∷◌, Option, Some, None, Ok, refl, length, is_some}
use Rattle.std.specs.Prelude.{slice_get}
use Rattle.go_ast.specs.declared.kind.SourceKind.TheVariants as source
use Rattle.go_meaning.specs.declared.expr.Expr.{Expr}
use Rattle.go_meaning.specs.declared.expr.Expr.TheVariants as expr
use Rattle.go_meaning.specs.declared.expr.Op.{Op}
use Rattle.go_meaning.specs.declared.expr.Op.TheVariants as op
use Rattle.go_meaning.specs.Programs.{Parts}
use Rattle.go_meaning.specs.WellFormed.{function, uses_of_op, IsThere, AreThere}
use Rattle.go_types.specs.declared.types.ValueType.{ValueType}
use Rattle.go_types.specs.declared.kinds.OperandKind.TheVariants as kind
use Rattle.go_types.specs.declared.conversion.Conversion.{Conversion}
use Rattle.go_types.specs.declared.conversion.Conversion.TheVariants.{Convert, Spell, Keep}
use Rattle.go_types.specs.declared.constant.Constant.TheVariants as constant
use Rattle.go_types.specs.declared.names.Callee.{Callee}
use Rattle.go_types.specs.declared.names.Callee.TheVariants as callee
use Rattle.go_types.specs.declared.names.Signature.{Signature}
use Rattle.go_types.specs.declared.operand.Term.{Term}
use Rattle.go_types.specs.declared.operand.Term.TheVariants.{Constant as Fixed, Nil, Value as Computed}
use Rattle.go_types.specs.declared.operand.Operand.{Operand}
use Rattle.go_types.specs.declared.operand.Part.{Part}
use Rattle.go_types.specs.declared.operand.Argument.{Argument}
use Rattle.go_types.specs.Types as types
use Rattle.go_types.specs.Checking.{Checked}
use Rattle.go_types.specs.Constants.{converted}
use Rattle.go_types.specs.Operands.{kind_at, nil, wrong, fitted, op_of, converted_term, convert, channel, channel_of, measurable, len_of, cap_of, itoa_of, printable, printables, passed, nothing, no_arguments, only, term, does, results, called, no_signature, called_by, call_effect, print, call, call_type, made_type, made, make, or_wrong, value}
use Rattle.go_bounds.specs.Known.{Each, IsTerm, IsOperand, IsCallable}
use Rattle.go_bounds.proofs.Sure.{Sure, sure_ok, sure_err, sure_then, sure_if, sure_any}
use Rattle.go_bounds.proofs.Uses.{Computes, c_value, c_apply, c_call}
use Rattle.go_bounds.proofs.Naming.{Perhaps}
use Rattle.go_bounds.proofs.Operands as operands

module _ (P : Parts) (slots : ℕ) where
  abbrev C : Expr → Type 0
  C = Computes P slots

  abbrev T : Term → Type 0
  T = IsTerm P slots

  abbrev IsArgument : Argument → Type 0
  IsArgument = operands.IsArgument P slots

  abbrev O : Operand → Type 0
  O = IsOperand P slots

  -- ---- conversions and operations on one operand

  convert_quiet : (how : Conversion) (e : Expr) → C e → T (Computed types.int (expr.Apply (op_of how) (e ∷ [])))
  convert_quiet (Convert k) e h = (operands.c_quiet P slots (op.Convert k) (e ∷ []) refl (h, tt)).there
  convert_quiet Spell e h = (operands.c_quiet P slots op.Spell (e ∷ []) refl (h, tt)).there
  convert_quiet Keep e h = (operands.c_quiet P slots op.Keep (e ∷ []) refl (h, tt)).there

  converted_sure : (at : ℕ) (how : Conversion) (t : ValueType) (x : Term) → T x → Sure (converted_term at how t x) T
  converted_sure at how t (Fixed k c) h = sure_then (sure_any (converted at how t c)) (λ d u. sure_ok (Fixed (kind.Typed t) d) tt)
  converted_sure at how t Nil h = sure_ok _ (convert_quiet how nil (c_value P slots _))
  converted_sure at how t (Computed s e) h = sure_ok _ (convert_quiet how e (record { there = h }))

  convert_sure : (at : ℕ) (t : ValueType) (a : Argument) → IsArgument a → Sure (convert at t a) T
  unfolding convert
  convert_sure at t a h = sure_then (sure_any _) (λ how u. converted_sure at how t a.term h)

  channel_sure : (a : Argument) → IsArgument a → Sure (channel a) C
  channel_sure a h = sure_then (sure_any (or_wrong a.at (channel_of (kind_at a)))) (λ t u. operands.fitted_sure P slots a.at t a.term h)

  pub measurable_sure : (a : Argument) → IsArgument a → Sure (measurable a) C
  measurable_sure a h = sure_if _ (operands.fitted_sure P slots a.at types.text a.term h) (channel_sure a h)

  abbrev apply_one : Op → Expr → Type 0
  apply_one o x = C (expr.Apply o (x ∷ []))

  one_quiet : (o : Op) → uses_of_op o ≡ [] → (x : Expr) → C x → apply_one o x
  one_quiet o e x h = operands.c_quiet P slots o (x ∷ []) e (h, tt)

  len_sure : (at : ℕ) (t : Term) → T t → Sure (len_of at t) T
  len_sure at (Fixed k (constant.Text s)) h = operands.constant_sure P slots at (kind.Typed types.int) (Ok (constant.Number (pos (length s))))
  len_sure at (Fixed k c) h = sure_then (measurable_sure (record { at = at; term = Fixed k c }) h) (λ x p. sure_ok (Computed types.int (expr.Apply op.Len (x ∷ []))) (one_quiet op.Len refl x p).there)
  len_sure at Nil h = sure_then (measurable_sure (record { at = at; term = Nil }) h) (λ x p. sure_ok (Computed types.int (expr.Apply op.Len (x ∷ []))) (one_quiet op.Len refl x p).there)
  len_sure at (Computed s e) h = sure_then (measurable_sure (record { at = at; term = Computed s e }) h) (λ x p. sure_ok (Computed types.int (expr.Apply op.Len (x ∷ []))) (one_quiet op.Len refl x p).there)

  cap_sure : (a : Argument) → IsArgument a → Sure (cap_of a) T
  cap_sure a h = sure_then (channel_sure a h) (λ x p. sure_ok _ (one_quiet op.Cap refl x p).there)

  itoa_sure : (a : Argument) → IsArgument a → Sure (itoa_of a) T
  itoa_sure a h = sure_then (operands.into_sure P slots types.int a h) (λ x p. sure_ok _ (one_quiet op.Itoa refl x p).there)

  printable_sure : (a : Argument) → IsArgument a → Sure (printable a) C
  printable_sure a h = sure_if _ (operands.own_sure P slots a h) (sure_err a.at source.WrongType)

  printables_sure : (as' : List Argument) → Each IsArgument as' → Sure (printables as') (Each C)
  printables_sure [] h = sure_ok [] tt
  printables_sure (a ∷ as') h = sure_then (printable_sure a h.0) (λ x p. sure_then (printables_sure as' h.1) (λ xs q. sure_ok (x ∷ xs) (p, q)))

  passed_sure : (ts : List ValueType) (as' : List Argument) → Each IsArgument as' → Sure (passed ts as') (Each C)
  passed_sure ts [] h = sure_ok [] tt
  passed_sure [] (a ∷ as') h = sure_ok [] tt
  passed_sure (t ∷ ts) (a ∷ as') h = sure_then (operands.into_sure P slots t a h.0) (λ x p. sure_then (passed_sure ts as' h.1) (λ xs q. sure_ok (x ∷ xs) (p, q)))

  -- ---- calls

  none_sure : (at : ℕ) (as' : List Argument) (e : Expr) → C e → Sure (no_arguments at as' e) O
  none_sure at [] e h = sure_ok _ h.there
  none_sure at (a ∷ as') e h = sure_err at source.WrongCount

  only_sure : (at : ℕ) (as' : List Argument) → Each IsArgument as' → Sure (only at as') IsArgument
  only_sure at [] h = sure_err at source.WrongCount
  only_sure at (a ∷ []) h = sure_ok a h.0
  only_sure at (a ∷ b ∷ as') h = sure_err at source.WrongCount

  term_sure : (r : Checked Term) → Sure r T → Sure (term r) O
  term_sure r h = sure_then h (λ t k. sure_ok _ k)

  does_sure : (o : Op) → AreThere P slots (uses_of_op o) → (r : Checked Expr) → Sure r C → Sure (does o r) O
  does_sure o t r h = sure_then h (λ x k. sure_ok _ (c_apply P slots o (x ∷ []) t (k, tt)).there)

  results_there : (ts : List ValueType) (e : Expr) → C e → O (results ts e)
  results_there [] e h = h.there
  results_there (t ∷ []) e h = h.there
  results_there (t ∷ u ∷ ts) e h = h.there

  called_sure : (at f : ℕ) (s : Signature) (as' : List Argument) → IsThere P slots (function f) → Each IsArgument as' → Sure (called at f s as') O
  called_sure at f s as' t h =
      sure_if _ (sure_then (passed_sure s.params as' h) (λ xs k. sure_ok _ (results_there s.results _ (c_call P slots f xs t k)))) (sure_err at source.WrongCount)

  called_by_sure : (at f : ℕ) (o : Option Signature) (as' : List Argument) → IsThere P slots (function f) → Each IsArgument as' → Sure (called_by at f o as') O
  called_by_sure at f (Some s) as' t h = called_sure at f s as' t h
  called_by_sure at f None as' t h = called_sure at f no_signature as' t h

  bare : (o : Op) → AreThere P slots (uses_of_op o) → C (expr.Apply o [])
  bare o t = c_apply P slots o [] t tt

  pub call_sure : (ss : List Signature) (at : ℕ) (c : Callee) (as' : List Argument) → IsCallable P slots c → Each IsArgument as' → Sure (call ss at c as') O
  call_sure ss at (callee.Function f) as' t h = called_by_sure at f (slice_get ss f) as' t h
  call_sure ss at callee.Len as' t h = sure_then (only_sure at as' h) (λ a k. term_sure _ (len_sure a.at a.term k))
  call_sure ss at callee.Cap as' t h = sure_then (only_sure at as' h) (λ a k. term_sure _ (cap_sure a k))
  call_sure ss at callee.Itoa as' t h = sure_then (only_sure at as' h) (λ a k. term_sure _ (itoa_sure a k))
  call_sure ss at callee.Make as' t h = sure_err at source.WrongType
  call_sure ss at callee.Println as' t h = sure_then (printables_sure as' h) (λ xs k. sure_ok _ (operands.c_quiet P slots (op.Println (length as')) xs refl k).there)
  call_sure ss at (callee.Lock m) as' t h = none_sure at as' _ (bare (op.Lock m) (t, tt))
  call_sure ss at (callee.Unlock m) as' t h = none_sure at as' _ (bare (op.Unlock m) (t, tt))
  call_sure ss at (callee.Done g) as' t h = none_sure at as' _ (bare (op.Done g) (t, tt))
  call_sure ss at (callee.Wait g) as' t h = none_sure at as' _ (bare (op.Wait g) (t, tt))
  call_sure ss at callee.Close as' t h = sure_then (only_sure at as' h) (λ a k. does_sure op.Close tt _ (channel_sure a k))
  call_sure ss at callee.Panic as' t h = sure_then (only_sure at as' h) (λ a k. does_sure op.Panic tt _ (printable_sure a k))
  call_sure ss at callee.Exit as' t h = sure_then (only_sure at as' h) (λ a k. does_sure op.Exit tt _ (operands.into_sure P slots types.int a k))
  call_sure ss at (callee.Add g) as' t h = sure_then (only_sure at as' h) (λ a k. does_sure (op.Add g) (t, tt) _ (operands.into_sure P slots types.int a k))

  pub call_type_sure : (at at' : ℕ) (t : ValueType) (as' : List Argument) → Each IsArgument as' → Sure (call_type at at' t as') O
  call_type_sure at at' t as' h = sure_then (only_sure at' as' h) (λ a k. term_sure _ (convert_sure at t a k))

  -- ---- `make`

  made_sure : (p : Part) (size : Option Argument) → Perhaps IsArgument size → Sure (made p size) T
  unfolding made
  made_sure p size h =
      sure_then (sure_any (or_wrong p.at (made_type p.operand))) (λ t u. sure_then (operands.place_if_sure P slots size h) (λ xs k. sure_ok _ (operands.c_quiet P slots (op.Make (Rattle.go_types.specs.Operands.zero_value (types.element t)) (is_some size)) xs refl k).there))

  pub make_sure : (at : ℕ) (ps : List Part) → Each (operands.IsPart P slots) ps → Sure (make at ps) T
  make_sure at [] h = sure_err at source.WrongCount
  make_sure at (p ∷ []) h = made_sure p None tt
  make_sure at (p ∷ q ∷ []) h = sure_then (operands.value_sure P slots q h.1.0) (λ a k. made_sure p (Some a) k)
  make_sure at (p ∷ q ∷ r ∷ ps) h = sure_err at source.WrongCount
