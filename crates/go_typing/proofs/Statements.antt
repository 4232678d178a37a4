-- Simple statements, conditions and results that are accepted are well typed.
use Rattle.std.proofs.Common.{◌≡◌, ℕ, Bool, true, false, cond, List, [], ◌∷◌, map, Option, Some, None, Ok, refl, sym, ap, ◌∙◌, subst, arith}
use Rattle.std.specs.Prelude.{length, drop, nat_lt, ◌==◌}
use Rattle.std.proofs.lemmas.Option.{none-some, same_Some}
use Rattle.std.proofs.lemmas.Bool.{eqb-true}
use Rattle.go_ast.specs.declared.kind.SourceKind.TheVariants as source
use Rattle.go_ast.specs.declared.name.Name.{Name}
use Rattle.go_ast.specs.declared.expr.Expr.{Expr as Written}
use Rattle.go_ast.specs.declared.expr.BinaryOp.{BinaryOp}
use Rattle.go_ast.specs.declared.block.Target.{Target}
use Rattle.go_ast.specs.declared.block.Target.TheVariants as target
use Rattle.go_ast.specs.declared.block.StmtForm.TheOpen.{StmtForm-F}
use Rattle.go_meaning.specs.declared.expr.Expr.{Expr, out-Expr}
use Rattle.go_meaning.specs.declared.expr.Expr.TheOpen.{Expr-F}
use Rattle.go_meaning.specs.declared.expr.Variable.{Variable}
use Rattle.go_meaning.specs.declared.node.Simple.{Simple}
use Rattle.go_value.specs.declared.operation.IntOp.TheVariants as int
use Rattle.go_types.specs.declared.types.ValueType.{ValueType}
use Rattle.go_types.specs.declared.kinds.Untyped.TheVariants as untyped
use Rattle.go_types.specs.declared.kinds.OperandKind.{OperandKind}
use Rattle.go_types.specs.declared.kinds.OperandKind.TheVariants.{Typed, Untyped as Bare, Nil}
use Rattle.go_types.specs.declared.operator.Operator.{Operator}
use Rattle.go_types.specs.declared.operator.Operator.TheVariants.{Arithmetic}
use Rattle.go_types.specs.declared.constant.Constant.TheVariants as constants
use Rattle.go_types.specs.declared.names.Binding.{Binding}
use Rattle.go_types.specs.declared.names.Meaning.{Meaning}
use Rattle.go_types.specs.declared.names.Meaning.TheVariants as meaning
use Rattle.go_types.specs.declared.names.Names.{Names}
use Rattle.go_types.specs.declared.names.Marks.{Marks}
use Rattle.go_types.specs.declared.operand.Term.{Term}
use Rattle.go_types.specs.declared.operand.Term.TheVariants as term
use Rattle.go_types.specs.declared.operand.Operand.{Operand}
use Rattle.go_types.specs.declared.operand.Operand.TheVariants as operand
use Rattle.go_types.specs.declared.operand.Argument.{Argument}
use Rattle.go_types.specs.declared.given.Given.{Given}
use Rattle.go_types.specs.declared.given.Given.TheVariants.{Each, Whole}
use Rattle.go_types.specs.declared.given.Filled.{Filled}
use Rattle.go_types.specs.declared.given.Typed.{Typed as TypedCode}
use Rattle.go_types.specs.declared.walk.Place.{Place}
use Rattle.go_types.specs.declared.walk.Place.TheVariants as place
use Rattle.go_types.specs.declared.walk.Walk.{Walk}
use Rattle.go_types.specs.Types as types
use Rattle.go_types.specs.Operands as rules
use Rattle.go_types.specs.Operators.{operator_of}
use Rattle.go_types.specs.Checking.{Checked, Checking, and_then}
use Rattle.go_types.specs.Expressions.{check, value_of, values_of}
use Rattle.go_types.specs.Names.{meaning_of, member, read}
use Rattle.go_types.specs.Walking.{done, as_walking, here, in_scope}
use Rattle.go_types.specs.Scopes as scopes
use Rattle.go_types.specs.Statements as statements
use Rattle.go_types.specs.Statements.{assign, define, send, update, step, eval, return_of}
use Rattle.go_types.specs.Bodies.{simple_form}
use Rattle.go_typing.specs.Sorts.{Value, constant, typed, value, results, value_found, sort_of}
use Rattle.go_typing.specs.Rules.{IsAssignable, identical, Operated}
use Rattle.go_typing.specs.Typing as typing
use Rattle.go_typing.specs.Typing.{shape, Has, AreValues}
use Rattle.go_typing.specs.Laws.{ConstantsAreOfKind}
use Rattle.go_typing.specs.Statements as said
use Rattle.go_typing.specs.Statements.{IsVariable, Takes, TakeAll, Defines, DefineAll, Suits, SuitEach, SuitTypes, AreGiven, IsTyped, Layer, SimpleIsTyped, ReturnIsTyped, ConditionIsTyped}
use Rattle.go_typing.proofs.Basics.{not_both, same_ok, no_fault, ok_then, ok_if, ok_unless, lifted, right_of}
use Rattle.go_typing.proofs.Agreement.{same_from}
use Rattle.go_typing.proofs.Values.{term_fits}
use Rattle.go_typing.proofs.Operators.{kind_is, binary_found}
use Rattle.go_typing.proofs.Calls.{value_at, AllFit, none as no_arguments, more as one_more, into_found}
use Rattle.go_typing.proofs.Meanings.{meaning_found, member_found}
use Rattle.go_typing.proofs.Found.{HasValues, value_found_of, found}

-- ---- what a step leaves as it is

-- the names and the scope stay
pub record Stays (s new : Walk) : Type 0 where
  pub names : new.names ≡ s.names
  pub scope : new.scope ≡ s.scope

stay : (s : Walk) → Stays s s
stay s = record { names = refl; scope = refl }

then_stay : (s m new : Walk) → Stays s m → Stays m new → Stays s new
then_stay s m new h k = record { names = k.names ∙ h.names; scope = k.scope ∙ h.scope }

-- what checking an expression answered, among the names at the place
pub record WasHere {A : Type 0} (p : Names → Checking A) (s : Walk) (a : A) (new : Walk) : Type 0 where
  pub marks : Marks
  pub was : p s.names s.marks ≡ Ok (a, marks)
  pub stays : Stays s new

pub here_found : {A : Type 0} (p : Names → Checking A) (s : Walk) (a : A) (new : Walk) → here p s ≡ Ok (a, new) → WasHere p s a new
here_found {A} p s a new e =
    let q = ok_then (p s.names s.marks) (λ r. Ok (r.0, record s { marks = r.1 })) (a, new) e in
    let i : (q.0.0, record s { marks = q.0.1 }) ≡ (a, new) = same_ok _ (a, new) q.2 in
    record { marks = q.0.1; was = q.1 ∙ ap (λ (x : A). Ok (x, q.0.1)) (ap (λ r. r.0) i); stays = subst (Stays s) (ap (λ r. r.1) i) (record { names = refl; scope = refl }) }

as_found : {A : Type 0} (r : Checked A) (s : Walk) (a : A) (new : Walk) → as_walking r s ≡ Ok (a, new) → r ≡ Ok a
as_found r s a new e = lifted r s a new e

-- ---- conditions and sends

pub condition_typed : ConditionIsTyped
condition_typed e s new x kinds h =
    let q = ok_then (here (value_of Written check e) s) _ (x, new) h in
    let w = here_found (value_of Written check e) s q.0.0 q.0.1 q.1 in
    let v = value_found_of s.names kinds (e, found s.names kinds e) s.marks w.marks q.0.0 w.was in
    (value_at q.0.0, v.0, into_found types.flag q.0.0 x (as_found (rules.into types.flag q.0.0) q.0.1 x new q.2))

abbrev SentTo : Argument → Argument → Type 0
SentTo c a = (t : ValueType) × ((value_at c).kind ≡ Typed t) × (types.is_channel t ≡ true) × IsAssignable (types.element t) (value_at a).kind

channel_some : (k : OperandKind) (t : ValueType) → rules.channel_of k ≡ Some t → (k ≡ Typed t) × (types.is_channel t ≡ true)
channel_some (Typed u) t e = go (types.is_channel u) refl e
  where
    go : (b : Bool) → types.is_channel u ≡ b → cond b (Some u) None ≡ Some t → (Typed u ≡ Typed t) × (types.is_channel t ≡ true)
    go true h e = (ap Typed (same_Some u t e), subst (λ x. types.is_channel x ≡ true) (same_Some u t e) h)
    go false h e = absurd (none-some t e)
channel_some (Bare u) t e = absurd (none-some t e)
channel_some Nil t e = absurd (none-some t e)

sent_found : (c a : Argument) (p : Expr × Expr) → statements.sent c a ≡ Ok p → SentTo c a
sent_found c a p e =
    let x = ok_then (statements.channel_typed c) _ p e in
    let y = ok_then (rules.into x.0.of a) _ p x.2 in
    let t = ok_then (rules.or_wrong c.at (rules.channel_of (rules.kind_at c))) _ x.0 x.1 in
    let z = ok_then (rules.fitted c.at t.0 c.term) (λ r. Ok (record { of = types.element t.0; code = r })) x.0 t.2 in
    let k = channel_some (rules.kind_at c) t.0 (right_of c.at (rules.channel_of (rules.kind_at c)) t.0 t.1) in
    let i : types.element t.0 ≡ x.0.of = ap (λ (r : TypedCode). r.of) (same_ok _ x.0 z.2) in
    (t.0, kind_is c.term ∙ k.0, k.1, subst (λ u. IsAssignable u (value_at a).kind) (sym i) (into_found x.0.of a y.0 y.1))

send_typed : (c e : Written) (s new : Walk) (y : Simple) → ConstantsAreOfKind s.names → send c e s ≡ Ok (y, new) → IsTyped s.names (drop s.scope s.names.locals) (StmtForm-F.Send c e)
unfolding send
send_typed c e s new y kinds h =
    let q = ok_then (here (statements.send_values c e) s) _ (y, new) h in
    let w = here_found (statements.send_values c e) s q.0.0 q.0.1 q.1 in
    let a = ok_then (value_of Written check c s.names s.marks) _ (q.0.0, w.marks) w.was in
    let b = ok_then (value_of Written check e s.names a.0.1) _ (q.0.0, w.marks) a.2 in
    let f = sent_found a.0.0 b.0.0 q.0.0 (lifted (statements.sent a.0.0 b.0.0) b.0.1 q.0.0 w.marks b.2) in
    let v = value_found_of s.names kinds (c, found s.names kinds c) s.marks a.0.1 a.0.0 a.1 in
    let u = value_found_of s.names kinds (e, found s.names kinds e) a.0.1 b.0.1 b.0.0 b.1 in
    said.sent c e (value_at a.0.0) (value_at b.0.0) f.0 v.0 f.1 f.2 u.0 f.3

-- ---- places

record PlacedAt (ns : Names) (x : Target) (p : Place) : Type 0 where
  variable : Variable
  of : ValueType
  is : p ≡ place.Variable variable of
  typed : IsVariable ns x of

meant_found : (at : ℕ) (m : Meaning) (p : Place) → scopes.place_meant at m ≡ Ok p → (v : Variable) × (t : ValueType) × (m ≡ meaning.Variable v t) × (p ≡ place.Variable v t)
meant_found at (meaning.Variable v t) p e = (v, t, refl, sym (same_ok (place.Variable v t) p e))
meant_found at m p e = no_fault _ p e

abbrev PlaceFound : Walk → Target → Place → Walk → Type 0
PlaceFound s x p new = PlacedAt s.names x p × Stays s new

named_place : (n : Name) (s : Walk) (p : Place) (new : Walk) → scopes.place_named n s ≡ Ok (p, new) → PlaceFound s (target.Plain n) p new
named_place n s p new e =
    let q = ok_then (meaning_of s.names n) _ (p, new) e in
    let r = ok_then (scopes.place_meant n.at q.0) (λ x. Ok (x, s)) (p, new) q.2 in
    let i : (r.0, s) ≡ (p, new) = same_ok (r.0, s) (p, new) r.2 in
    let m = meant_found n.at q.0 r.0 r.1 in (
      record { variable = m.0; of = m.1; is = sym (ap (λ z. z.0) i) ∙ m.3; typed = said.plain n m.0 m.1 (meaning_found s.names n q.0 q.1 ∙ ap Some m.2) },
      subst (Stays s) (ap (λ z. z.1) i) (stay s),
    )

member_place : (a n : Name) (s : Walk) (p : Place) (new : Walk) → scopes.place_of (target.Member a n) s ≡ Ok (p, new) → PlaceFound s (target.Member a n) p new
member_place a n s p new e =
    let q = ok_then (here (λ ns. member ns a n) s) _ (p, new) e in
    let w = here_found (λ ns. member ns a n) s q.0.0 q.0.1 q.1 in
    let r = ok_then (scopes.place_meant a.at q.0.0) (λ x. Ok (x, q.0.1)) (p, new) q.2 in
    let i : (r.0, q.0.1) ≡ (p, new) = same_ok (r.0, q.0.1) (p, new) r.2 in
    let m = meant_found a.at q.0.0 r.0 r.1 in (
      record { variable = m.0; of = m.1; is = sym (ap (λ z. z.0) i) ∙ m.3; typed = said.member a n m.0 m.1 (subst (typing.IsMember s.names a n) m.2 (member_found s.names a n q.0.0 s.marks w.marks w.was)) },
      subst (Stays s) (ap (λ z. z.1) i) w.stays,
    )

read_place_found : (x : Target) (s : Walk) (p : Place) (new : Walk) → statements.read_place x s ≡ Ok (p, new) → PlaceFound s x p new
read_place_found (target.Plain n) s p new e = named_place n s p new e
read_place_found (target.Member a n) s p new e = member_place a n s p new e

read_stays : (p : Place) (s : Walk) (u : Unit {0}) (new : Walk) → scopes.read_at p s ≡ Ok (u, new) → Stays s new
read_stays (place.Variable v t) s u new e = (here_found (λ ns. read v) s u new e).stays
read_stays place.Blank s u new e = subst (Stays s) (ap (λ z. z.1) (same_ok (tt, s) (u, new) e)) (stay s)
read_stays place.New s u new e = subst (Stays s) (ap (λ z. z.1) (same_ok (tt, s) (u, new) e)) (stay s)

-- ---- updates

updated_found : (at : ℕ) (o : Operator) (v : Variable) (t : ValueType) (a : Argument) (y : Simple) → statements.updated at o (place.Variable v t) a ≡ Ok y → (w : Value) × Operated o (typed t) (value_at a) w
updated_found at o v t a y e =
    let r = ok_then (rules.binary at o (statements.as_argument at v t) a) _ y e in
    (value_found r.0, (binary_found at o (statements.as_argument at v t) a r.0 refl r.1).0)

step_typed : (at : ℕ) (x : Target) (o : Operator) (s new : Walk) (y : Simple) → step at x o s ≡ Ok (y, new) → (t : ValueType) × (w : Value) × IsVariable s.names x t × Operated o (typed t) (constant (Bare untyped.Int)) w
unfolding step
step_typed at x o s new y e =
    let q = ok_then (statements.read_place x s) _ (y, new) e in
    let p = read_place_found x s q.0.0 q.0.1 q.1 in
    let r = ok_then (scopes.read_at q.0.0 q.0.1) _ (y, new) q.2 in
    let h = as_found (statements.updated at o q.0.0 (statements.one at)) r.0.1 y new r.2 in
    let u = updated_found at o p.0.variable p.0.of (statements.one at) y (sym (ap (λ z. statements.updated at o z (statements.one at)) p.0.is) ∙ h) in
    (p.0.of, u.0, p.0.typed, u.1)

update_typed : (at : ℕ) (x : Target) (o : BinaryOp) (e : Written) (s new : Walk) (y : Simple) → ConstantsAreOfKind s.names → update at x o e s ≡ Ok (y, new) → IsTyped s.names (drop s.scope s.names.locals) (StmtForm-F.Update x o e)
unfolding update
update_typed at x o e s new y kinds h =
    let q = ok_then (statements.read_place x s) _ (y, new) h in
    let p = read_place_found x s q.0.0 q.0.1 q.1 in
    let r = ok_then (scopes.read_at q.0.0 q.0.1) _ (y, new) q.2 in
    let t = then_stay s q.0.1 r.0.1 p.1 (read_stays q.0.0 q.0.1 r.0.0 r.0.1 r.1) in
    let a = ok_then (here (value_of Written check e) r.0.1) _ (y, new) r.2 in
    let w = here_found (value_of Written check e) r.0.1 a.0.0 a.0.1 a.1 in
    let was : value_of Written check e s.names r.0.1.marks ≡ Ok (a.0.0, w.marks) = subst (λ ns. value_of Written check e ns r.0.1.marks ≡ Ok (a.0.0, w.marks)) t.names w.was in
    let v = value_found_of s.names kinds (e, found s.names kinds e) r.0.1.marks w.marks a.0.0 was in
    let f = as_found (statements.updated at (operator_of o) q.0.0 a.0.0) a.0.1 y new a.2 in
    let u = updated_found at (operator_of o) p.0.variable p.0.of a.0.0 y (sym (ap (λ z. statements.updated at (operator_of o) z a.0.0) p.0.is) ∙ f) in
    said.updated x o e p.0.of (value_at a.0.0) u.0 p.0.typed v.0 u.1

eval_typed : (at : ℕ) (e : Written) (s new : Walk) (y : Simple) → ConstantsAreOfKind s.names → eval at e s ≡ Ok (y, new) → IsTyped s.names (drop s.scope s.names.locals) (StmtForm-F.Eval e)
unfolding eval
eval_typed at e s new y kinds h =
    let q = ok_then (here (check e) s) _ (y, new) h in
    let w = here_found (check e) s q.0.0 q.0.1 q.1 in
    said.evaluated e (sort_of q.0.0.operand) (found s.names kinds e s.marks w.marks q.0.0 w.was).0

-- ---- values that are given

all_values : (ns : Names) (kinds : ConstantsAreOfKind ns) (es : List Written) (old new : Marks) (as' : List Argument) → values_of Written check es ns old ≡ Ok (as', new) → HasValues ns kinds es as'
all_values ns kinds [] old new as' e = subst (HasValues ns kinds []) (ap (λ (r : List Argument × Marks). r.0) (same_ok ([], old) (as', new) e)) (typing.none, no_arguments)
all_values ns kinds (x ∷ es) old new as' e =
    let p = ok_then (value_of Written check x ns old) _ (as', new) e in
    let q = ok_then (values_of Written check es ns p.0.1) _ (as', new) p.2 in
    let h = value_found_of ns kinds (x, found ns kinds x) old p.0.1 p.0.0 p.1 in
    let g = all_values ns kinds es p.0.1 q.0.1 q.0.0 q.1 in
    subst (HasValues ns kinds (x ∷ es)) (ap (λ (r : List Argument × Marks). r.0) (same_ok (p.0.0 ∷ q.0.0, q.0.1) (as', new) q.2))
    (typing.more x es (value_at p.0.0) (map value_at q.0.0) h.0 g.0, one_more p.0.0 q.0.0 h.1 g.1)

-- what is given for so many places
pub data IsGiven (ns : Names) (ok : Bool) (n : ℕ) : List Written → Given → Type 0 where
  each : (es : List Written) (as' : List Argument) → AreValues ns es (map value_at as') → AllFit as' → length as' ≡ n → IsGiven ns ok n es (Each as')
  by_call : (e : Written) (i : ℕ) (ts : List ValueType) (x : Expr) → Has ns (shape e) (results ts) → length ts ≡ n → IsGiven ns ok n (e ∷ []) (Whole i ts x)
  by_receive : (e : Written) (i : ℕ) (t : ValueType) (x : Expr) → ok ≡ true → Has ns (shape e) (value (typed t)) → 2 ≡ n → IsGiven ns ok n (e ∷ []) (Whole i (t ∷ types.flag ∷ []) x)

module _ (ns : Names) (kinds : ConstantsAreOfKind ns) (ok : Bool) (at n : ℕ) where
  each_found : (es : List Written) (old new : Marks) (g : Given) → statements.given_each at n es ns old ≡ Ok (g, new) → IsGiven ns ok n es g
  each_found es old new g e =
      let q = ok_then (values_of Written check es ns old) _ (g, new) e in
      let h = all_values ns kinds es old q.0.1 q.0.0 q.1 in
      let c = ok_if (length q.0.0 == n) (Ok (Each q.0.0)) at source.WrongCount g (lifted (statements.counted at n q.0.0) q.0.1 g new q.2) in
      subst (IsGiven ns ok n es) (same_ok (Each q.0.0) g c.1) (each es q.0.0 h.0 h.1 (eqb-true (length q.0.0) n c.0))

  received_found : (e : Written) (i : ℕ) (t : ValueType) (x : Expr-F Expr) (g : Given) → ok ≡ true → Has ns (shape e) (value (typed t)) → statements.whole_code at n i t x ≡ Ok g → IsGiven ns ok n (e ∷ []) g
  received_found e i t (Expr-F.Receive c) g k h f =
      let p = ok_if (n == 2) _ at source.WrongCount g f in
      subst (IsGiven ns ok n (e ∷ [])) (same_ok _ g p.1) (by_receive e i t _ k h (sym (eqb-true n 2 p.0)))
  received_found e i t x g k h f = no_fault _ g f

  whole_found : (e : Written) (i : ℕ) (b : Bool) (o : Operand) (g : Given) → b ≡ ok → Has ns (shape e) (sort_of o) → statements.whole_operand b at n i o ≡ Ok g → IsGiven ns ok n (e ∷ []) g
  whole_found e i b (operand.Results ts x) g k h f =
      let p = ok_if (length ts == n) (Ok (Whole i ts x)) at source.WrongCount g f in
      subst (IsGiven ns ok n (e ∷ [])) (same_ok (Whole i ts x) g p.1) (by_call e i ts x h (eqb-true (length ts) n p.0))
  whole_found e i true (operand.Term (term.Value t x)) g k h f = received_found e i t (out-Expr x) g (sym k) h f
  whole_found e i true (operand.Term (term.Constant l c)) g k h f = no_fault _ g f
  whole_found e i true (operand.Term term.Nil) g k h f = no_fault _ g f
  whole_found e i false (operand.Term t) g k h f = no_fault _ g f
  whole_found e i b (operand.Type t) g k h f = no_fault _ g f
  whole_found e i b (operand.Callee c) g k h f = no_fault _ g f
  whole_found e i b operand.Other g k h f = no_fault _ g f

  one_found : (e : Written) (old new : Marks) (g : Given) → statements.given_whole ok at n e ns old ≡ Ok (g, new) → IsGiven ns ok n (e ∷ []) g
  one_found e old new g h =
      let q = ok_then (check e ns old) _ (g, new) h in
      let f = found ns kinds e old q.0.1 q.0.0 q.1 in
      whole_found e q.0.0.at ok q.0.0.operand g refl f.0 (lifted (statements.whole_operand ok at n q.0.0.at q.0.0.operand) q.0.1 g new q.2)

  pub given_found : (es : List Written) (old new : Marks) (g : Given) → statements.given ok at n es ns old ≡ Ok (g, new) → IsGiven ns ok n es g
  given_found [] old new g e = each_found [] old new g e
  given_found (x ∷ []) old new g e = go (nat_lt 1 n) e
    where
      go : (b : Bool) → (cond b (statements.given_whole ok at n x ns) (statements.given_each at n (x ∷ []) ns)) old ≡ Ok (g, new) → IsGiven ns ok n (x ∷ []) g
      go true e = one_found x old new g e
      go false e = each_found (x ∷ []) old new g e
  given_found (x ∷ y ∷ es) old new g e = each_found (x ∷ y ∷ es) old new g e

-- ---- values for places

own_found : (k : OperandKind) (s : Term) → statements.is_nil s ≡ false → term_fits s ≡ true → Suits None (value_found s).kind
own_found k (term.Constant (Typed t) c) n f = said.own_type t
own_found k (term.Constant (Bare u) c) n f = said.default_type u
own_found k (term.Constant Nil (constants.Number z)) n f = not_both false f refl
own_found k (term.Constant Nil (constants.Text x)) n f = not_both false f refl
own_found k (term.Constant Nil (constants.Flag b)) n f = not_both false f refl
own_found k term.Nil n f = not_both true refl n
own_found k (term.Value t x) n f = said.own_type t

wanted_found : (w : Option ValueType) (a : Argument) (x : Expr) → term_fits a.term ≡ true → statements.wanted_code w a ≡ Ok x → Suits w (value_at a).kind
wanted_found (Some t) a x f e = said.as_type t _ (into_found t a x e)
wanted_found None a x f e = own_found Nil a.term (ok_unless (statements.is_nil a.term) (rules.in_own_type a) a.at source.WrongType x e).0 f

each_filled : (ws : List (Option ValueType)) (as' : List Argument) (f : Filled) → AllFit as' → length as' ≡ length ws → statements.fill_each ws as' ≡ Ok f → SuitEach ws (map value_at as')
each_filled [] [] f h n e = said.none
each_filled (w ∷ ws) [] f h n e = absurd (omega (arith, n))
each_filled [] (a ∷ as') f h n e = absurd (omega (arith, n))
each_filled (w ∷ ws) (a ∷ as') f (one_more _ _ h t) n e =
    let x = ok_then (statements.wanted_code w a) _ f e in
    let y = ok_then (statements.fill_each ws as') _ f x.2 in
    said.more w ws (value_at a) (map value_at as') (wanted_found w a x.0 h x.1) (each_filled ws as' y.0 t (omega (arith, n)) y.1)

fit_found : (at : ℕ) (t : ValueType) (w : Option ValueType) (u : Unit {0}) → statements.fit at t w ≡ Ok u → Suits w (Typed t)
unfolding statements.fit
fit_found at t None u e = said.own_type t
fit_found at t (Some r) u e =
    let p = ok_if (types.same t r) (Ok tt) at source.WrongType u e in
    said.as_type r (Typed t) (subst (λ z. IsAssignable z (Typed t)) (same_from t r p.0) (identical t))

all_fit : (at : ℕ) (ts : List ValueType) (ws : List (Option ValueType)) (u : Unit {0}) → length ts ≡ length ws → statements.fit_all at ts ws ≡ Ok u → SuitTypes ws ts
all_fit at [] [] u n e = said.none
all_fit at [] (w ∷ ws) u n e = absurd (omega (arith, n))
all_fit at (t ∷ ts) [] u n e = absurd (omega (arith, n))
all_fit at (t ∷ ts) (w ∷ ws) u n e =
    let x = ok_then (statements.fit at t w) _ u e in
    said.more w ws t ts (fit_found at t w x.0 x.1) (all_fit at ts ws u (omega (arith, n)) x.2)

pub filled_found : (ns : Names) (ok : Bool) (ws : List (Option ValueType)) (n : ℕ) (es : List Written) (g : Given) (f : Filled) → n ≡ length ws → IsGiven ns ok n es g → statements.fill ws g ≡ Ok f → AreGiven ns ok ws es
filled_found ns ok ws n _ _ f l (each es as' h k c) e = said.each ws es (map value_at as') h (each_filled ws as' f k (c ∙ l) e)
filled_found ns ok ws n _ _ f l (by_call x i ts z h c) e =
    let p = ok_then (statements.fit_all i ts ws) _ f e in
    said.by_call ws x ts h (all_fit i ts ws p.0 (c ∙ l) p.1)
filled_found ns ok ws n _ _ f l (by_receive x i t z k h c) e =
    let p = ok_then (statements.fit_all i (t ∷ types.flag ∷ []) ws) _ f e in
    said.by_receive ws x t k h (all_fit i (t ∷ types.flag ∷ []) ws p.0 (c ∙ l) p.1)

-- values that are given at a place where the names are those of another
given_at : (s m new : Walk) (ok : Bool) (at n : ℕ) (es : List Written) (g : Given) → ConstantsAreOfKind s.names → Stays s m → here (statements.given ok at n es) m ≡ Ok (g, new) → IsGiven s.names ok n es g
given_at s m new ok at n es g kinds t e =
    let w = here_found (statements.given ok at n es) m g new e in
    given_found s.names kinds ok at n es m.marks w.marks g (subst (λ ns. statements.given ok at n es ns m.marks ≡ Ok (g, w.marks)) t.names w.was)

mapped_length : {A B : Type 0} (f : A → B) (xs : List A) → length xs ≡ length (map f xs)
mapped_length f [] = refl
mapped_length f (x ∷ xs) = let h = mapped_length f xs in omega (arith, h)

-- ---- assignments

as_variable : (s : Walk) (x : Target) (p : Place) (new : Walk) → PlaceFound s x p new → Takes s.names x (statements.wanted_by p) × Stays s new
as_variable s x p new h = (subst (λ z. Takes s.names x (statements.wanted_by z)) (sym h.0.is) (said.variable x h.0.of h.0.typed), h.1)

taken_found : (x : Target) (s : Walk) (p : Place) (new : Walk) → scopes.place_of x s ≡ Ok (p, new) → Takes s.names x (statements.wanted_by p) × Stays s new
taken_found (target.Member a n) s p new e = as_variable s (target.Member a n) p new (member_place a n s p new e)
taken_found (target.Plain n) s p new e = go (scopes.is_blank n.text) refl e
  where
    go : (b : Bool) → scopes.is_blank n.text ≡ b → (cond b (done place.Blank) (scopes.place_named n)) s ≡ Ok (p, new) → Takes s.names (target.Plain n) (statements.wanted_by p) × Stays s new
    go false h e = as_variable s (target.Plain n) p new (named_place n s p new e)
    go true h e =
        let i : (place.Blank, s) ≡ (p, new) = same_ok (place.Blank, s) (p, new) e in
        (subst (λ (z : Place). Takes s.names (target.Plain n) (statements.wanted_by z)) (ap (λ z. z.0) i) (said.blank n h), subst (Stays s) (ap (λ z. z.1) i) (stay s))

all_taken : (xs : List Target) (s : Walk) (ps : List Place) (new : Walk) → scopes.places_of xs s ≡ Ok (ps, new) → TakeAll s.names xs (map statements.wanted_by ps) × Stays s new
all_taken [] s ps new e =
    let i : ([], s) ≡ (ps, new) = same_ok ([], s) (ps, new) e in
    (subst (λ (z : List Place). TakeAll s.names [] (map statements.wanted_by z)) (ap (λ z. z.0) i) said.none, subst (Stays s) (ap (λ z. z.1) i) (stay s))
all_taken (x ∷ xs) s ps new e =
    let q = ok_then (scopes.place_of x s) _ (ps, new) e in
    let h = taken_found x s q.0.0 q.0.1 q.1 in
    let r = ok_then (scopes.places_of xs q.0.1) _ (ps, new) q.2 in
    let k = all_taken xs q.0.1 r.0.0 r.0.1 r.1 in
    let i : (q.0.0 ∷ r.0.0, r.0.1) ≡ (ps, new) = same_ok (q.0.0 ∷ r.0.0, r.0.1) (ps, new) r.2 in
    let t : TakeAll s.names xs (map statements.wanted_by r.0.0) = subst (λ (ns : Names). TakeAll ns xs (map statements.wanted_by r.0.0)) h.1.names k.0 in (
      subst (λ (z : List Place). TakeAll s.names (x ∷ xs) (map statements.wanted_by z)) (ap (λ z. z.0) i) (said.more x xs (statements.wanted_by q.0.0) (map statements.wanted_by r.0.0) h.0 t),
      subst (Stays s) (ap (λ z. z.1) i) (then_stay s q.0.1 r.0.1 h.1 k.1),
    )

assign_typed : (at : ℕ) (xs : List Target) (es : List Written) (s new : Walk) (y : Simple) → ConstantsAreOfKind s.names → assign at xs es s ≡ Ok (y, new) → IsTyped s.names (drop s.scope s.names.locals) (StmtForm-F.Assign xs es)
unfolding assign
assign_typed at xs es s new y kinds e =
    let q = ok_then (scopes.places_of xs s) _ (y, new) e in
    let h = all_taken xs s q.0.0 q.0.1 q.1 in
    let ws = map statements.wanted_by q.0.0 in
    let r = ok_then (here (statements.given true at (length q.0.0) es) q.0.1) _ (y, new) q.2 in
    let g = given_at s q.0.1 r.0.1 true at (length q.0.0) es r.0.0 kinds h.1 r.1 in
    let f = ok_then (as_walking (statements.fill ws r.0.0) r.0.1) _ (y, new) r.2 in
    let a = filled_found s.names true ws (length q.0.0) es r.0.0 f.0.0 (mapped_length statements.wanted_by q.0.0) g (as_found (statements.fill ws r.0.0) r.0.1 f.0.0 f.0.1 f.1) in
    said.assigned xs es ws h.0 a

-- ---- short variable declarations

abbrev scope_of : Walk → List Binding
scope_of s = drop s.scope s.names.locals

defined_meaning : (n : Name) (s : Walk) (o : Option Meaning) (p : Place) → in_scope s n.text ≡ o → scopes.defined_meant n.at o ≡ Ok p → Defines (scope_of s) n (statements.wanted_by p)
defined_meaning n s None p f e = subst (λ (z : Place). Defines (scope_of s) n (statements.wanted_by z)) (same_ok place.New p e) (said.new n f)
defined_meaning n s (Some m) p f e =
    let v = meant_found n.at m p e in
    subst (λ (z : Place). Defines (scope_of s) n (statements.wanted_by z)) (sym v.3) (said.variable n v.0 v.1 (f ∙ ap Some v.2))

defined_found : (n : Name) (s : Walk) (p : Place) (new : Walk) → scopes.defined_place n s ≡ Ok (p, new) → Defines (scope_of s) n (statements.wanted_by p) × (s ≡ new)
defined_found n s p new e = go (scopes.is_blank n.text) refl e
  where
    go : (b : Bool) → scopes.is_blank n.text ≡ b → cond {A = Checked (Place × Walk)} b (Ok (place.Blank, s)) (and_then (scopes.defined_meant n.at (in_scope s n.text)) (λ x. Ok (x, s))) ≡ Ok (p, new) → Defines (scope_of s) n (statements.wanted_by p) × (s ≡ new)
    go true h e =
        let i : (place.Blank, s) ≡ (p, new) = same_ok (place.Blank, s) (p, new) e in
        (subst (λ (z : Place). Defines (scope_of s) n (statements.wanted_by z)) (ap (λ z. z.0) i) (said.blank n h), ap (λ z. z.1) i)
    go false h e =
        let q = ok_then (scopes.defined_meant n.at (in_scope s n.text)) (λ x. Ok (x, s)) (p, new) e in
        let i : (q.0, s) ≡ (p, new) = same_ok (q.0, s) (p, new) q.2 in
        (subst (λ (z : Place). Defines (scope_of s) n (statements.wanted_by z)) (ap (λ z. z.0) i) (defined_meaning n s (in_scope s n.text) q.0 refl q.1), ap (λ z. z.1) i)

all_defined : (xs : List Name) (s : Walk) (ps : List Place) (new : Walk) → scopes.defined_places xs s ≡ Ok (ps, new) → DefineAll (scope_of s) xs (map statements.wanted_by ps) × (s ≡ new)
all_defined [] s ps new e =
    let i : ([], s) ≡ (ps, new) = same_ok ([], s) (ps, new) e in
    (subst (λ (z : List Place). DefineAll (scope_of s) [] (map statements.wanted_by z)) (ap (λ z. z.0) i) said.none, ap (λ z. z.1) i)
all_defined (x ∷ xs) s ps new e =
    let q = ok_then (scopes.defined_place x s) _ (ps, new) e in
    let h = defined_found x s q.0.0 q.0.1 q.1 in
    let r = ok_then (scopes.defined_places xs q.0.1) _ (ps, new) q.2 in
    let k = all_defined xs q.0.1 r.0.0 r.0.1 r.1 in
    let i : (q.0.0 ∷ r.0.0, r.0.1) ≡ (ps, new) = same_ok (q.0.0 ∷ r.0.0, r.0.1) (ps, new) r.2 in
    let t : DefineAll (scope_of s) xs (map statements.wanted_by r.0.0) = subst (λ (z : Walk). DefineAll (scope_of z) xs (map statements.wanted_by r.0.0)) (sym h.1) k.0 in (
      subst (λ (z : List Place). DefineAll (scope_of s) (x ∷ xs) (map statements.wanted_by z)) (ap (λ z. z.0) i) (said.more x xs (statements.wanted_by q.0.0) (map statements.wanted_by r.0.0) h.0 t),
      h.1 ∙ k.1 ∙ ap (λ z. z.1) i,
    )

define_typed : (at : ℕ) (xs : List Name) (es : List Written) (s new : Walk) (y : Simple) → ConstantsAreOfKind s.names → define at xs es s ≡ Ok (y, new) → IsTyped s.names (scope_of s) (StmtForm-F.Define xs es)
unfolding define
define_typed at xs es s new y kinds e =
    let q = ok_then (scopes.defined_places xs s) _ (y, new) e in
    let h = all_defined xs s q.0.0 q.0.1 q.1 in
    let ws = map statements.wanted_by q.0.0 in
    let r = ok_then (here (statements.given true at (length q.0.0) es) q.0.1) _ (y, new) q.2 in
    let g = given_at s q.0.1 r.0.1 true at (length q.0.0) es r.0.0 kinds (subst (Stays s) h.1 (stay s)) r.1 in
    let n = ok_then (statements.some_new at q.0.0 r.0.1) _ (y, new) r.2 in
    let f = ok_then (as_walking (statements.fill ws r.0.0) n.0.1) _ (y, new) n.2 in
    let a = filled_found s.names true ws (length q.0.0) es r.0.0 f.0.0 (mapped_length statements.wanted_by q.0.0) g (as_found (statements.fill ws r.0.0) n.0.1 f.0.0 f.0.1 f.1) in
    said.defined xs es ws h.0 a

-- ---- laws

pub return_typed : ReturnIsTyped
unfolding return_of
return_typed at es s new y kinds e =
    let some : ValueType → Option ValueType = λ t. Some t in
    let ws = map some s.results in
    let r = ok_then (here (statements.given false at (length s.results) es) s) _ (y, new) e in
    let g = given_at s s r.0.1 false at (length s.results) es r.0.0 kinds (stay s) r.1 in
    let f = ok_then (as_walking (statements.fill ws r.0.0) r.0.1) _ (y, new) r.2 in
    filled_found s.names false ws (length s.results) es r.0.0 f.0.0 (mapped_length some s.results) g (as_found (statements.fill ws r.0.0) r.0.1 f.0.0 f.0.1 f.1)

pub simple_typed : SimpleIsTyped
unfolding simple_form
simple_typed (StmtForm-F.Eval e) at s new y kinds h = eval_typed at e s new y kinds h
simple_typed (StmtForm-F.Send c e) at s new y kinds h = send_typed c e s new y kinds h
simple_typed (StmtForm-F.Up x) at s new y kinds h = let p = step_typed at x (Arithmetic int.Add) s new y h in said.up x p.0 p.1 p.2 p.3
simple_typed (StmtForm-F.Down x) at s new y kinds h = let p = step_typed at x (Arithmetic int.Sub) s new y h in said.down x p.0 p.1 p.2 p.3
simple_typed (StmtForm-F.Update x o e) at s new y kinds h = update_typed at x o e s new y kinds h
simple_typed (StmtForm-F.Assign xs es) at s new y kinds h = assign_typed at xs es s new y kinds h
simple_typed (StmtForm-F.Define xs es) at s new y kinds h = define_typed at xs es s new y kinds h
simple_typed x at s new y kinds h = no_fault _ (y, new) h
