-- What is accepted is well typed.
use Rattle.std.proofs.Common.{◌≡◌, ℕ, ℤ, Bool, true, false, cond, List, [], ◌∷◌, map, Option, Some, None, Ok, refl, sym, ap, ◌∙◌, subst}
use Rattle.std.specs.Prelude.{pos}
use Rattle.std.proofs.lemmas.Option.{none-some, cond_some}
use Rattle.go_ast.specs.declared.kind.SourceKind.TheVariants as source
use Rattle.go_ast.specs.declared.name.Name.{Name}
use Rattle.go_ast.specs.declared.expr.Expr.{Expr, roll-Expr}
use Rattle.go_ast.specs.declared.expr.ExprForm.{ExprForm, roll-ExprForm, out-ExprForm, out-roll-ExprForm}
use Rattle.go_ast.specs.declared.expr.ExprForm.TheOpen.{ExprForm-F, Expr-F}
use Rattle.go_ast.specs.declared.expr.ExprForm.TheFolds.{ind-Expr, map-ExprForm, map-Expr}
use Rattle.go_ast.specs.declared.expr.ExprForm.TheShapes.{former-ExprForm-Call-1}
use Rattle.go_types.specs.declared.types.ValueType.{ValueType}
use Rattle.go_types.specs.declared.kinds.Untyped.TheVariants as untyped
use Rattle.go_types.specs.declared.kinds.OperandKind.TheVariants.{Typed, Untyped as Bare}
use Rattle.go_types.specs.declared.constant.Constant.{Constant}
use Rattle.go_types.specs.declared.constant.Constant.TheVariants as constants
use Rattle.go_types.specs.declared.names.Callee.{Callee}
use Rattle.go_types.specs.declared.names.Callee.TheVariants as callees
use Rattle.go_types.specs.declared.names.Meaning.{Meaning}
use Rattle.go_types.specs.declared.names.Meaning.TheVariants as meaning
use Rattle.go_types.specs.declared.names.Names.{Names}
use Rattle.go_types.specs.declared.names.Marks.{Marks}
use Rattle.go_types.specs.declared.operand.Term.{Term}
use Rattle.go_types.specs.declared.operand.Term.TheVariants as term
use Rattle.go_types.specs.declared.operand.Operand.{Operand}
use Rattle.go_types.specs.declared.operand.Operand.TheVariants as operand
use Rattle.go_types.specs.declared.operand.Part.{Part}
use Rattle.go_types.specs.declared.operand.Argument.{Argument}
use Rattle.go_types.specs.Types as types
use Rattle.go_types.specs.Checking.{Checked, ◌>>=◌, and_then, fault, lift, fail}
use Rattle.go_types.specs.Literals.{int_literal}
use Rattle.go_types.specs.Names.{meaning_of, member}
use Rattle.go_types.specs.Operands as rules
use Rattle.go_types.specs.Operands.{or_wrong}
use Rattle.go_types.specs.Operators.{operator_of}
use Rattle.go_types.specs.Constants.{within}
use Rattle.go_types.specs.Statements.{type_if, can_be, const_term, const_meaning}
use Rattle.go_types.specs.Expressions.{type_of, channel_of, named, member_named, part, term_at, operand_at, allowed, value_of, values_of, bound_of, part_of, parts_of, call_of, layer, check}
use Rattle.go_typing.specs.Sorts.{Value, typed, value, type_, callee, sort_of, value_found}
use Rattle.go_typing.specs.Typing as typing
use Rattle.go_typing.specs.Typing.{shape, Has, IsBound, AreValues}
use Rattle.go_typing.specs.Laws.{is_of_kind, means_its_kind, ConstantsAreOfKind, AcceptedIsTyped, FoundIsOfKind, DeclaredIsOfKind}
use Rattle.go_typing.proofs.Basics.{same_ok, no_fault, ok_then, ok_if, lifted, right_of}
use Rattle.go_typing.proofs.Layers.{check_is}
use Rattle.go_typing.proofs.Values.{term_fits, operand_fits, fits_as_found, as_found, assigned, within_same}
use Rattle.go_typing.proofs.Agreement.{assignable_from}
use Rattle.go_typing.proofs.Operators.{binary_found, unary_found}
use Rattle.go_typing.proofs.Calls.{value_at, AllFit, none as no_arguments, more as one_more, index_found, IsPlace, place_if_found, cut_found, convert_found, call_found}
use Rattle.go_typing.proofs.Meanings.{meaning_found, name_kind, member_found, member_kind, noted_found, type_found}

module _ (ns : Names) (kinds : ConstantsAreOfKind ns) where
  -- an expression of the sort that was found, whose value is of its kind if it is constant
  abbrev pub Found : ExprForm-F ExprForm Expr → Operand → Type 0
  Found x o = Has ns x (sort_of o) × (operand_fits o ≡ true)

  abbrev pub Claim : Expr → Type 0
  Claim e = (old new : Marks) (p : Part) → check e ns old ≡ Ok (p, new) → Found (shape e) p.operand

  abbrev FormClaim : ExprForm → Type 0
  FormClaim f = (at : ℕ) (old new : Marks) (p : Part) → layer Expr check (out-ExprForm f) at ns old ≡ Ok (p, new) → Found (out-ExprForm f) p.operand

  abbrev pub Known : Type 0
  Known = (e : Expr) × Claim e

  abbrev KnownForm : Type 0
  KnownForm = (f : ExprForm) × FormClaim f

  abbrev bare : List Known → List Expr
  bare es = map (λ e. e.0) es

  -- ---- answers

  pure_found : (x : ExprForm-F ExprForm Expr) (at : ℕ) (o : Operand) (old new : Marks) (p : Part) → ◌≡◌ {A = Checked (Part × Marks)} (Ok (part at o, old)) (Ok (p, new)) → Found x o → Found x p.operand
  pure_found x at o old new p e h = subst (λ (q : Part). Found x q.operand) (ap (λ (r : Part × Marks). r.0) (same_ok (part at o, old) (p, new) e)) h

  term_found : (x : ExprForm-F ExprForm Expr) (at : ℕ) (r : Checked Term) (old new : Marks) (p : Part) → term_at at r old ≡ Ok (p, new) → ((t : Term) → r ≡ Ok t → Found x (operand.Term t)) → Found x p.operand
  term_found x at r old new p e h =
      let q = ok_then r (λ t. Ok (part at (operand.Term t))) p (lifted (and_then r (λ t. Ok (part at (operand.Term t)))) old p new e) in
      subst (λ (z : Part). Found x z.operand) (same_ok (part at (operand.Term q.0)) p q.2) (h q.0 q.1)

  operand_found : (x : ExprForm-F ExprForm Expr) (at : ℕ) (r : Checked Operand) (old new : Marks) (p : Part) → operand_at at r old ≡ Ok (p, new) → ((o : Operand) → r ≡ Ok o → Found x o) → Found x p.operand
  operand_found x at r old new p e h =
      let q = ok_then r (λ o. Ok (part at o)) p (lifted (and_then r (λ o. Ok (part at o))) old p new e) in
      subst (λ (z : Part). Found x z.operand) (same_ok (part at q.0) p q.2) (h q.0 q.1)

  -- ---- operands

  -- an expression that is a value
  abbrev pub IsValue : Expr → Argument → Type 0
  IsValue e a = Has ns (shape e) (value (value_at a)) × (term_fits a.term ≡ true)

  valued_found : (x : ExprForm-F ExprForm Expr) (at : ℕ) (o : Operand) (a : Argument) → Found x o → rules.valued at o ≡ Ok a → Has ns x (value (value_at a)) × (term_fits a.term ≡ true)
  valued_found x at (operand.Term t) a h e = subst (λ (b : Argument). Has ns x (value (value_at b)) × (term_fits b.term ≡ true)) (same_ok (record { at = at; term = t }) a e) h
  valued_found x at (operand.Results ts z) a h e = no_fault _ a e
  valued_found x at (operand.Type t) a h e = no_fault _ a e
  valued_found x at (operand.Callee c) a h e = no_fault _ a e
  valued_found x at operand.Other a h e = no_fault _ a e

  pub value_found_of : (k : Known) (old new : Marks) (a : Argument) → value_of Expr check k.0 ns old ≡ Ok (a, new) → IsValue k.0 a
  value_found_of k old new a e =
      let p = ok_then (check k.0 ns old) _ (a, new) e in
      valued_found (shape k.0) p.0.0.at p.0.0.operand a (k.1 old p.0.1 p.0.0 p.1) (lifted (rules.value p.0.0) p.0.1 a new p.2)

  abbrev pub HasValues : List Expr → List Argument → Type 0
  HasValues es as' = AreValues ns es (map value_at as') × AllFit as'

  values_found : (es : List Known) (old new : Marks) (as' : List Argument) → values_of Expr check (bare es) ns old ≡ Ok (as', new) → HasValues (bare es) as'
  values_found [] old new as' e = subst (HasValues []) (ap (λ (r : List Argument × Marks). r.0) (same_ok ([], old) (as', new) e)) (typing.none, no_arguments)
  values_found (k ∷ es) old new as' e =
      let p = ok_then (value_of Expr check k.0 ns old) _ (as', new) e in
      let q = ok_then (values_of Expr check (bare es) ns p.0.1) _ (as', new) p.2 in
      let h = value_found_of k old p.0.1 p.0.0 p.1 in
      let g = values_found es p.0.1 q.0.1 q.0.0 q.1 in
      subst (HasValues (k.0 ∷ bare es)) (ap (λ (r : List Argument × Marks). r.0) (same_ok (p.0.0 ∷ q.0.0, q.0.1) (as', new) q.2))
      (typing.more k.0 (bare es) (value_at p.0.0) (map value_at q.0.0) h.0 g.0, one_more p.0.0 q.0.0 h.1 g.1)

  abbrev bare_option : Option Known → Option Expr
  bare_option None = None
  bare_option (Some k) = Some k.0

  bound_found : (o : Option Known) (old new : Marks) (b : Option Argument) → bound_of Expr check (bare_option o) ns old ≡ Ok (b, new) → IsPlace b → IsBound ns (bare_option o)
  bound_found None old new b e h = typing.left_out
  bound_found (Some k) old new b e h =
      let p = ok_then (value_of Expr check k.0 ns old) _ (b, new) e in
      let i : IsPlace (Some p.0.0) = subst IsPlace (sym (ap (λ (r : Option Argument × Marks). r.0) (same_ok (Some p.0.0, p.0.1) (b, new) p.2))) h in
      typing.bound k.0 (value_at p.0.0) (value_found_of k old p.0.1 p.0.0 p.1).0 i

  -- ---- conversions

  one_value : (e : Expr) (v : Value) → AreValues ns (e ∷ []) (v ∷ []) → Has ns (shape e) (value v)
  one_value e v (typing.more _ _ _ _ h _) = h

  too_many : {A : Type 0} (e d : Expr) (es : List Expr) (v : Value) → AreValues ns (e ∷ d ∷ es) (v ∷ []) → A
  too_many e d es v (typing.more _ _ _ _ h t) = elim t [ ]

  too_few : {A : Type 0} (v : Value) (vs : List Value) → AreValues ns [] (v ∷ vs) → A
  too_few v vs h = elim h [ ]

  one_fits : (a : Argument) → AllFit (a ∷ []) → term_fits a.term ≡ true
  one_fits a (one_more _ _ f _) = f

  converted_found : (f : Expr) (at : ℕ) (t : ValueType) (e : Expr) (a : Argument) (r : Term) → Has ns (shape f) (type_ t) → HasValues (e ∷ []) (a ∷ []) → rules.convert at t a ≡ Ok r
      → Found (ExprForm-F.Call f (e ∷ [])) (operand.Term r)
  converted_found f at t e a r hf h c =
      let p = convert_found at t a r (one_fits a h.1) c in
      (subst (λ v. Has ns (ExprForm-F.Call f (e ∷ [])) (value v)) (sym p.1.0) (typing.converted f e t (value_at a) hf (one_value e (value_at a) h.0) p.0), p.1.1)

  conversion_found : (f : Expr) (at at' : ℕ) (t : ValueType) (es : List Expr) (as' : List Argument) (o : Operand) → Has ns (shape f) (type_ t) → HasValues es as' → rules.call_type at at' t as' ≡ Ok o
      → Found (ExprForm-F.Call f es) o
  conversion_found f at at' t es [] o hf h r = no_fault _ o r
  conversion_found f at at' t es (a ∷ b ∷ as') o hf h r = no_fault _ o r
  conversion_found f at at' t [] (a ∷ []) o hf h r = too_few (value_at a) [] h.0
  conversion_found f at at' t (e ∷ d ∷ es) (a ∷ []) o hf h r = too_many e d es (value_at a) h.0
  conversion_found f at at' t (e ∷ []) (a ∷ []) o hf h r =
      let q = ok_then (rules.convert at t a) (λ x. Ok (operand.Term x)) o r in
      subst (Found (ExprForm-F.Call f (e ∷ []))) (same_ok (operand.Term q.0) o q.2) (converted_found f at t e a q.0 hf h q.1)

  -- ---- `make`

  data AreParts : List Expr → List Part → Type 0 where
    none : AreParts [] []
    more : (e : Expr) (es : List Expr) (p : Part) (ps : List Part) → Found (shape e) p.operand → AreParts es ps → AreParts (e ∷ es) (p ∷ ps)

  allowed_found : (x : ExprForm-F ExprForm Expr) (may : Bool) (p q : Part) → Found x p.operand → allowed may p ≡ Ok q → Found x q.operand
  allowed_found x true p q h e = subst (λ (z : Part). Found x z.operand) (same_ok p q e) h
  allowed_found x false p q h e =
      let a = ok_then (rules.value p) _ q e in
      let g = valued_found x p.at p.operand a.0 h a.1 in
      subst (λ (z : Part). Found x z.operand) (same_ok (record { at = a.0.at; operand = operand.Term a.0.term }) q a.2) g

  parts_found : (may : Bool) (es : List Known) (old new : Marks) (ps : List Part) → parts_of Expr check may (bare es) ns old ≡ Ok (ps, new) → AreParts (bare es) ps
  parts_found may [] old new ps e = subst (AreParts []) (ap (λ (r : List Part × Marks). r.0) (same_ok ([], old) (ps, new) e)) none
  parts_found may (k ∷ es) old new ps e =
      let p = ok_then (part_of Expr check may k.0 ns old) _ (ps, new) e in
      let q = ok_then (parts_of Expr check false (bare es) ns p.0.1) _ (ps, new) p.2 in
      let c = ok_then (check k.0 ns old) _ (p.0.0, p.0.1) p.1 in
      let h = allowed_found (shape k.0) may c.0.0 p.0.0 (k.1 old c.0.1 c.0.0 c.1) (lifted (allowed may c.0.0) c.0.1 p.0.0 p.0.1 c.2) in
      subst (AreParts (k.0 ∷ bare es)) (ap (λ (r : List Part × Marks). r.0) (same_ok (p.0.0 ∷ q.0.0, q.0.1) (ps, new) q.2))
      (more k.0 (bare es) p.0.0 q.0.0 h (parts_found false es p.0.1 q.0.1 q.0.0 q.1))

  made_type_found : (x : ExprForm-F ExprForm Expr) (o : Operand) (t : ValueType) → Found x o → rules.made_type o ≡ Some t → Has ns x (type_ t) × (types.is_channel t ≡ true)
  made_type_found x (operand.Type u) t h e =
      let p = cond_some (types.is_channel u) u t e in
      subst (λ z. Has ns x (type_ z) × (types.is_channel z ≡ true)) p.1 (h.0, p.0)
  made_type_found x (operand.Term r) t h e = absurd (none-some t e)
  made_type_found x (operand.Results ts z) t h e = absurd (none-some t e)
  made_type_found x (operand.Callee c) t h e = absurd (none-some t e)
  made_type_found x operand.Other t h e = absurd (none-some t e)

  abbrev Made : ExprForm-F ExprForm Expr → Option Argument → Term → Type 0
  Made x size r = (t : ValueType) × Has ns x (type_ t) × (types.is_channel t ≡ true) × IsPlace size × (value_found r ≡ typed t) × (term_fits r ≡ true)

  made_found : (x : ExprForm-F ExprForm Expr) (p : Part) (size : Option Argument) (r : Term) → Found x p.operand → rules.made p size ≡ Ok r → Made x size r
  unfolding rules.made
  made_found x p size r h e =
      let q = ok_then (or_wrong p.at (rules.made_type p.operand)) _ r e in
      let z = ok_then (rules.place_if size) _ r q.2 in
      let m = made_type_found x p.operand q.0 h (right_of p.at (rules.made_type p.operand) q.0 q.1) in
      (q.0, m.0, m.1, place_if_found size z.0 z.1, ap value_found (sym (same_ok _ r z.2)), ap term_fits (sym (same_ok _ r z.2)))

  make_found : (f : Expr) (at : ℕ) (es : List Expr) (ps : List Part) (r : Term) → Has ns (shape f) (callee callees.Make) → AreParts es ps → rules.make at ps ≡ Ok r → Found (ExprForm-F.Call f es) (operand.Term r)
  make_found f at _ _ r hf none e = no_fault _ r e
  make_found f at _ _ r hf (more a _ p _ h none) e =
      let m = made_found (shape a) p None r h e in
      (subst (λ v. Has ns (ExprForm-F.Call f (a ∷ [])) (value v)) (sym m.4) (typing.made f a m.0 hf m.1 m.2), m.5)
  make_found f at _ _ r hf (more a _ p _ h (more b _ q _ k none)) e =
      let v = ok_then (rules.value q) (λ x. rules.made p (Some x)) r e in
      let m = made_found (shape a) p (Some v.0) r h v.2 in
      let g = valued_found (shape b) q.at q.operand v.0 k v.1 in
      (subst (λ w. Has ns (ExprForm-F.Call f (a ∷ b ∷ [])) (value w)) (sym m.4) (typing.made_of_size f a b m.0 (value_at v.0) hf m.1 m.2 g.0 m.3), m.5)
  make_found f at _ _ r hf (more a _ p _ h (more b _ q _ k (more c _ s _ l t))) e = no_fault _ r e

  -- ---- calls

  abbrev Calls : Operand → Type 0
  Calls o = (f : Expr) (at at' : ℕ) (es : List Known) (old new : Marks) (p : Part) → Has ns (shape f) (sort_of o) → call_of Expr check at at' o (bare es) ns old ≡ Ok (p, new)
      → Found (ExprForm-F.Call f (bare es)) p.operand

  convert_calls : (t : ValueType) → Calls (operand.Type t)
  convert_calls t f at at' es old new p hf e =
      let q = ok_then (values_of Expr check (bare es) ns old) _ (p, new) e in
      let vs = values_found es old q.0.1 q.0.0 q.1 in
      operand_found (ExprForm-F.Call f (bare es)) at (rules.call_type at at' t q.0.0) q.0.1 new p q.2 (λ o r. conversion_found f at at' t (bare es) q.0.0 o hf vs r)

  make_calls : Calls (operand.Callee callees.Make)
  make_calls f at at' es old new p hf e =
      let q = ok_then (parts_of Expr check true (bare es) ns old) _ (p, new) e in
      let ps = parts_found true es old q.0.1 q.0.0 q.1 in
      term_found (ExprForm-F.Call f (bare es)) at (rules.make at' q.0.0) q.0.1 new p q.2 (λ t r. make_found f at' (bare es) q.0.0 t hf ps r)

  callee_calls : (c : Callee) (f : Expr) (at at' : ℕ) (es : List Known) (old new : Marks) (p : Part) → Has ns (shape f) (callee c)
      → (values_of Expr check (bare es) ns >>= (λ as'. operand_at at (rules.call ns.signatures at' c as'))) old ≡ Ok (p, new) → Found (ExprForm-F.Call f (bare es)) p.operand
  callee_calls c f at at' es old new p hf e =
      let q = ok_then (values_of Expr check (bare es) ns old) _ (p, new) e in
      let vs = values_found es old q.0.1 q.0.0 q.1 in
      operand_found (ExprForm-F.Call f (bare es)) at (rules.call ns.signatures at' c q.0.0) q.0.1 new p q.2 (λ o r.
      let g = call_found ns at' c q.0.0 o vs.1 r in
      (typing.called f (bare es) c (map value_at q.0.0) (sort_of o) hf vs.0 g.0, g.1))

  not_called : (o : Operand) (at at' : ℕ) (es : List Known) (old new : Marks) (p : Part) (A : Type 0)
      → (lift (rules.valued at' o) >>= (λ _. values_of Expr check (bare es) ns >>= (λ _. fail at' source.WrongType))) old ≡ Ok (p, new) → A
  not_called o at at' es old new p A e =
      let q = ok_then (lift (rules.valued at' o) old) _ (p, new) e in
      let r = ok_then (values_of Expr check (bare es) ns q.0.1) _ (p, new) q.2 in
      no_fault _ (p, new) r.2

  all_calls : (o : Operand) → Calls o
  all_calls (operand.Type t) = convert_calls t
  all_calls (operand.Callee callees.Make) = make_calls
  all_calls (operand.Callee c) = callee_calls c
  all_calls (operand.Term t) = λ f at at' es old new p hf e. not_called (operand.Term t) at at' es old new p _ e
  all_calls (operand.Results ts x) = λ f at at' es old new p hf e. not_called (operand.Results ts x) at at' es old new p _ e
  all_calls operand.Other = λ f at at' es old new p hf e. not_called operand.Other at at' es old new p _ e

  -- ---- one layer

  abbrev plain_form : ExprForm-F KnownForm Known → ExprForm-F ExprForm Expr
  plain_form y = map-ExprForm KnownForm Known ExprForm Expr (λ f. f.0) (λ e. e.0) y

  mapped : (es : List Known) → (former-ExprForm-Call-1).map Known Expr (λ e. e.0) es ≡ bare es
  mapped [] = refl
  mapped (k ∷ es) = ap (λ l. k.0 ∷ l) (mapped es)

  in_range : (b : Bool) (z : ℤ) (at : ℕ) (c : Constant) → cond b (Ok (constants.Number z)) (fault at source.ConstRange) ≡ Ok c → is_of_kind (Bare untyped.Int) c ≡ true
  in_range true z at c e = as_found (Bare untyped.Int) (constants.Number z) c e refl
  in_range false z at c e = no_fault _ c e

  int_found : (at : ℕ) (bytes : List ℕ) (c : Constant) → int_literal at bytes ≡ Ok c → is_of_kind (Bare untyped.Int) c ≡ true
  int_found at bytes c e = in_range _ _ at c e

  abbrev LayerFound : ExprForm-F ExprForm Expr → Type 0
  LayerFound x = (at : ℕ) (old new : Marks) (p : Part) → layer Expr check x at ns old ≡ Ok (p, new) → Found x p.operand

  named_found : (n : Name) (o : Operand) (old new : Marks) → named n ns old ≡ Ok (o, new) → Found (ExprForm-F.Plain n) o
  named_found n o old new e =
      let q = ok_then (lift (meaning_of ns n) old) _ (o, new) e in
      let m = meaning_found ns n q.0.0 (lifted (meaning_of ns n) old q.0.0 q.0.1 q.1) in
      let h = noted_found q.0.0 o q.0.1 new (name_kind ns n.text q.0.0 kinds m) q.2 in
      (subst (Has ns (ExprForm-F.Plain n)) h.0 (typing.plain n q.0.0 m), h.1)

  member_named_found : (p n : Name) (o : Operand) (old new : Marks) → member_named p n ns old ≡ Ok (o, new) → Found (ExprForm-F.Member p n) o
  member_named_found p n o old new e =
      let q = ok_then (member ns p n old) _ (o, new) e in
      let m = member_found ns p n q.0.0 old q.0.1 q.1 in
      let h = noted_found q.0.0 o q.0.1 new (member_kind ns p n q.0.0 kinds m) q.2 in
      (subst (Has ns (ExprForm-F.Member p n)) h.0 (typing.member p n q.0.0 m), h.1)

  cut_layer : (s : Known) (low high : Option Known) → LayerFound (ExprForm-F.Cut s.0 (bare_option low) (bare_option high))
  cut_layer s low high at old new p e =
      let q = ok_then (value_of Expr check s.0 ns old) _ (p, new) e in
      let i = ok_then (bound_of Expr check (bare_option low) ns q.0.1) _ (p, new) q.2 in
      let j = ok_then (bound_of Expr check (bare_option high) ns i.0.1) _ (p, new) i.2 in
      let h = value_found_of s old q.0.1 q.0.0 q.1 in
      let x : ExprForm-F ExprForm Expr = ExprForm-F.Cut s.0 (bare_option low) (bare_option high) in
      term_found x at _ j.0.1 new p j.2 (λ t f.
      let g = cut_found at q.0.0 i.0.0 j.0.0 t f in
      let low' = bound_found low q.0.1 i.0.1 i.0.0 i.1 g.1 in
      let high' = bound_found high i.0.1 j.0.1 j.0.0 j.1 g.2 in
      (subst (λ v. Has ns x (value v)) (sym g.3.0) (typing.cut s.0 (bare_option low) (bare_option high) (value_at q.0.0) h.0 g.0 low' high'), g.3.1))

  layer_found : (y : ExprForm-F KnownForm Known) → LayerFound (plain_form y)
  layer_found (ExprForm-F.Binary o a b) at old new p e =
      let q = ok_then (value_of Expr check a.0 ns old) _ (p, new) e in
      let r = ok_then (value_of Expr check b.0 ns q.0.1) _ (p, new) q.2 in
      let h = value_found_of a old q.0.1 q.0.0 q.1 in
      let k = value_found_of b q.0.1 r.0.1 r.0.0 r.1 in
      term_found (ExprForm-F.Binary o a.0 b.0) at _ r.0.1 new p r.2 (λ t f.
      let g = binary_found at (operator_of o) q.0.0 r.0.0 t h.1 f in
      (typing.operated o a.0 b.0 (value_at q.0.0) (value_at r.0.0) (value_found t) h.0 k.0 g.0, g.1))
  layer_found (ExprForm-F.Unary o a) at old new p e =
      let q = ok_then (value_of Expr check a.0 ns old) _ (p, new) e in
      let h = value_found_of a old q.0.1 q.0.0 q.1 in
      term_found (ExprForm-F.Unary o a.0) at _ q.0.1 new p q.2 (λ t f.
      let g = unary_found at o q.0.0 t h.1 f in
      (typing.signed o a.0 (value_at q.0.0) (value_found t) h.0 g.0, g.1))
  layer_found (ExprForm-F.Call f es) at old new p e =
      let L = (former-ExprForm-Call-1).map Known Expr (λ e. e.0) es in
      let G : List Expr → Type 0 = λ l. layer Expr check {F = ExprForm} (ExprForm-F.Call f.0 l) at ns old ≡ Ok (p, new) → Found (ExprForm-F.Call f.0 l) p.operand in
      let g : G (bare es) = λ e.
      let q = ok_then (check f.0 ns old) _ (p, new) e in
      all_calls q.0.0.operand f.0 at q.0.0.at es q.0.1 new p (f.1 old q.0.1 q.0.0 q.1).0 q.2 in
      subst G (sym (mapped es)) g e
  layer_found (ExprForm-F.Index s i) at old new p e =
      let q = ok_then (value_of Expr check s.0 ns old) _ (p, new) e in
      let r = ok_then (value_of Expr check i.0 ns q.0.1) _ (p, new) q.2 in
      let h = value_found_of s old q.0.1 q.0.0 q.1 in
      let k = value_found_of i q.0.1 r.0.1 r.0.0 r.1 in
      term_found (ExprForm-F.Index s.0 i.0) at _ r.0.1 new p r.2 (λ t f.
      let g = index_found at q.0.0 r.0.0 t f in
      (subst (λ v. Has ns (ExprForm-F.Index s.0 i.0) (value v)) (sym g.2.0) (typing.indexed s.0 i.0 (value_at q.0.0) (value_at r.0.0) h.0 g.0 k.0 g.1), g.2.1))
  layer_found (ExprForm-F.Cut s None None) at old new p e = cut_layer s None None at old new p e
  layer_found (ExprForm-F.Cut s None (Some j)) at old new p e = cut_layer s None (Some j) at old new p e
  layer_found (ExprForm-F.Cut s (Some i) None) at old new p e = cut_layer s (Some i) None at old new p e
  layer_found (ExprForm-F.Cut s (Some i) (Some j)) at old new p e = cut_layer s (Some i) (Some j) at old new p e
  layer_found (ExprForm-F.Int bytes) at old new p e =
      let q = ok_then (lift (int_literal at bytes) old) _ (p, new) e in
      let c = lifted (int_literal at bytes) old q.0.0 q.0.1 q.1 in
      pure_found (ExprForm-F.Int bytes) at (operand.Term (term.Constant (Bare untyped.Int) q.0.0)) q.0.1 new p q.2 (typing.int bytes, int_found at bytes q.0.0 c)
  layer_found (ExprForm-F.Rune c) at old new p e = pure_found (ExprForm-F.Rune c) at (operand.Term (term.Constant (Bare untyped.Rune) (constants.Number (pos c)))) old new p e (typing.rune c, refl)
  layer_found (ExprForm-F.Text s) at old new p e = pure_found (ExprForm-F.Text s) at (operand.Term (term.Constant (Bare untyped.String) (constants.Text s))) old new p e (typing.text s, refl)
  layer_found (ExprForm-F.Plain n) at old new p e =
      let q = ok_then (named n ns old) _ (p, new) e in
      pure_found (ExprForm-F.Plain n) at q.0.0 q.0.1 new p q.2 (named_found n q.0.0 old q.0.1 q.1)
  layer_found (ExprForm-F.Member m n) at old new p e =
      let q = ok_then (member_named m n ns old) _ (p, new) e in
      pure_found (ExprForm-F.Member m n) at q.0.0 q.0.1 new p q.2 (member_named_found m n q.0.0 old q.0.1 q.1)
  layer_found (ExprForm-F.Chan t) at old new p e =
      let q = ok_then (type_of t ns old) _ (p, new) e in
      pure_found (ExprForm-F.Chan t) at (operand.Type (channel_of q.0.0)) q.0.1 new p q.2 (typing.channel t q.0.0 (type_found t ns old q.0.1 q.0.0 q.1), refl)
  layer_found (ExprForm-F.Paren k) at old new p e =
      let h = k.1 old new p e in
      (typing.parens k.0 (sort_of p.operand) h.0, h.1)

  form_known : (x : ExprForm-F ExprForm Expr) (y : ExprForm-F KnownForm Known) → plain_form y ≡ x → FormClaim (roll-ExprForm x)
  form_known x y is = subst LayerFound (is ∙ sym (out-roll-ExprForm x)) (layer_found y)

  expr_known : (x : Expr-F ExprForm Expr) (y : Expr-F KnownForm Known) → map-Expr KnownForm Known ExprForm Expr (λ f. f.0) (λ e. e.0) y ≡ x → Claim (roll-Expr x)
  expr_known x y is old new p e =
      let h : FormClaim x.form = subst FormClaim (ap (λ (z : Expr-F ExprForm Expr). z.form) is) y.form.1 in
      h x.span.start old new p (sym (ap (λ (f : Marks → Checked (Part × Marks)). f old) (check_is (roll-Expr x) ns)) ∙ e)

  pub found : (e : Expr) → Claim e
  found e = ind-Expr FormClaim Claim form_known expr_known e

pub accepted : AcceptedIsTyped
accepted ns e old new p kinds h = (found ns kinds e old new p h).0

pub found_of_kind : FoundIsOfKind
found_of_kind ns e old new p kinds h = fits_as_found p.operand (found ns kinds e old new p h).1

-- ---- constants that are declared

constant_kind : (ns : Names) (at : ℕ) (w : Option ValueType) (s : Term) (x : Meaning) → term_fits s ≡ true → can_be w (rules.kind_of s) ≡ true → const_term at w s ≡ Ok x → means_its_kind x ≡ true
constant_kind ns at None (term.Constant k c) x f a e =
    let p = ok_then (within at k c) _ x e in
    subst (λ y. means_its_kind y ≡ true) (same_ok (meaning.Constant k p.0) x p.2) (subst (λ d. is_of_kind k d ≡ true) (within_same at k c p.0 p.1) f)
constant_kind ns at (Some t) (term.Constant k c) x f a e =
    let p = ok_then (within at (Typed t) c) _ x e in
    subst (λ y. means_its_kind y ≡ true) (same_ok (meaning.Constant (Typed t) p.0) x p.2) (subst (λ d. is_of_kind (Typed t) d ≡ true) (within_same at (Typed t) c p.0 p.1) (assigned t k c (assignable_from t k a) f))
constant_kind ns at w term.Nil x f a e = no_fault _ x e
constant_kind ns at w (term.Value t z) x f a e = no_fault _ x e

pub declared_of_kind : DeclaredIsOfKind
declared_of_kind ns c old new x kinds e =
    let p = ok_then (type_if c.kind ns old) _ (x, new) e in
    let q = ok_then (value_of Expr check c.value ns p.0.1) _ (x, new) p.2 in
    let h = value_found_of ns kinds (c.value, found ns kinds c.value) p.0.1 q.0.1 q.0.0 q.1 in
    let r = ok_if (can_be p.0.0 (rules.kind_at q.0.0)) (const_term q.0.0.at p.0.0 q.0.0.term) q.0.0.at source.WrongType x (lifted (const_meaning p.0.0 q.0.0) q.0.1 x new q.2) in
    constant_kind ns q.0.0.at p.0.0 q.0.0.term x h.1 r.0 r.1
