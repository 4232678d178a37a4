-- Statements without lists in them.
use Rattle.std.proofs.Common.{◌≡◌, ℕ, zero, suc, ◌≤◌, Bool, true, false, List, [], ◌∷◌, ◌++◌, length, map, Option, Some, None, refl, subst, arith, le_trans, replicate}
use Rattle.std.specs.Prelude.{slice_get, flat_map}
use Rattle.go_ast.specs.declared.kind.SourceKind.TheVariants as source
use Rattle.go_ast.specs.declared.name.Name.{Name}
use Rattle.go_ast.specs.declared.expr.BinaryOp.{BinaryOp}
use Rattle.go_ast.specs.declared.expr.Expr.{Expr as Written}
use Rattle.go_ast.specs.declared.expr.TypeExpr.{TypeExpr}
use Rattle.go_ast.specs.declared.block.Target.{Target as WrittenTarget}
use Rattle.go_ast.specs.declared.block.Target.TheVariants as written
use Rattle.go_ast.specs.declared.block.ConstSpec.{ConstSpec}
use Rattle.go_ast.specs.declared.block.VarSpec.{VarSpec}
use Rattle.go_meaning.specs.declared.expr.Expr.{Expr, out-Expr}
use Rattle.go_meaning.specs.declared.expr.Expr.TheOpen.{Expr-F}
use Rattle.go_meaning.specs.declared.expr.Expr.TheVariants as expr
use Rattle.go_meaning.specs.declared.expr.Op.{Op}
use Rattle.go_meaning.specs.declared.expr.Op.TheVariants as op
use Rattle.go_meaning.specs.declared.expr.Variable.{Variable}
use Rattle.go_meaning.specs.declared.expr.Target.{Target}
use Rattle.go_meaning.specs.declared.node.Assignment.{Assignment}
use Rattle.go_meaning.specs.declared.node.Simple.{Simple}
use Rattle.go_meaning.specs.declared.node.NodeForm.{NodeForm}
use Rattle.go_meaning.specs.declared.node.NodeForm.TheVariants as node
use Rattle.go_meaning.specs.Programs.{Parts}
use Rattle.go_meaning.specs.Lists.{Walk as Nesting, nested_in}
use Rattle.go_meaning.specs.WellFormed.{IsWithin, variable, IsThere, AreThere, uses, all_uses, uses_of_op, uses_of_target, uses_of_assignment, uses_of_simple, uses_of_form}
use Rattle.go_types.specs.declared.types.ValueType.{ValueType}
use Rattle.go_types.specs.declared.operator.Operator.{Operator}
use Rattle.go_types.specs.declared.names.Names.{Names}
use Rattle.go_types.specs.declared.names.Meaning.TheVariants as meaning
use Rattle.go_types.specs.declared.operand.Term.{Term}
use Rattle.go_types.specs.declared.operand.Term.TheVariants.{Constant as Fixed, Value as Computed}
use Rattle.go_types.specs.declared.operand.Operand.{Operand}
use Rattle.go_types.specs.declared.operand.Operand.TheVariants as operand
use Rattle.go_types.specs.declared.operand.Argument.{Argument}
use Rattle.go_types.specs.declared.given.Typed.{Typed}
use Rattle.go_types.specs.declared.walk.Place.{Place}
use Rattle.go_types.specs.declared.walk.Place.TheVariants as place
use Rattle.go_types.specs.Operands as rules
use Rattle.go_types.specs.Checking.{Checking}
use Rattle.go_types.specs.Walking.{Walking, ◌>>>◌, done, as_walking, here}
use Rattle.go_types.specs.Scopes.{is_blank, any_new, old_target}
use Rattle.go_types.specs.Expressions.{check, value_of}
use Rattle.go_types.specs.Statements.{given, fill, wanted_by, assign, some_new, define, type_if, zeros, given_values, initial, var_spec, var_specs, const_term, const_meaning, const_value, const_spec, const_specs, is_panic, eval_term, eval_operand, eval, code_of_term, code_of, is_call, called, spawned, deferred, channel_typed, sent, send_values, send, second_of, update_code, update_term, updated, as_argument, read_place, update, one, step, return_of}
use Rattle.go_bounds.specs.Known.{Each, IsMeant, IsTerm, IsOperand, AreKnown}
use Rattle.go_bounds.proofs.Sure.{Sure, Finds, sure_ok, sure_err, sure_then, sure_if, sure_any, sure_more, finds_then, finds_pure, finds_lift}
use Rattle.go_bounds.proofs.Uses.{Computes, used, there_stays, there_append, there_left, there_right, all_there, uses_out, c_value, c_variable}
use Rattle.go_bounds.proofs.Naming.{Perhaps, each_get}
use Rattle.go_bounds.proofs.Operands as operands
use Rattle.go_bounds.proofs.Expressions as expressions
use Rattle.go_bounds.proofs.Calm.{Calms, calm_then, calm_done, calm_pure, calm_stop, calm_here, calm_if, calm_bind, meant_stays}
use Rattle.go_bounds.proofs.Values.{IsArgument, IsGiven, IsFilled, IsPlace, IsTarget, term_stays, computes_stays, all_compute, given_stays, given_finds, fill_sure, place_stays, places_stay, target_stays, olds_there}
use Rattle.go_bounds.proofs.Values as values

module _ (P : Parts) where
  -- ---- what statements use

  pub targets_use : (n : ℕ) (ts : List Target) → Each (IsTarget P n) ts → AreThere P n (flat_map uses_of_target ts)
  targets_use n [] h = tt
  targets_use n (t ∷ ts) h = there_append P n (uses_of_target t) (flat_map uses_of_target ts) h.0 (targets_use n ts h.1)

  pub record IsAssigned (n : ℕ) (a : Assignment) : Type 0 where
    pub uses : AreThere P n (uses_of_assignment a)

  pub record IsSimple (n : ℕ) (x : Simple) : Type 0 where
    pub uses : AreThere P n (uses_of_simple x)

  assigned : (n : ℕ) (ts : List Target) (es : List Expr) → Each (IsTarget P n) ts → Each (Computes P n) es → AreThere P n (flat_map uses_of_target ts ++ all_uses es)
  assigned n ts es h k = there_append P n (flat_map uses_of_target ts) (all_uses es) (targets_use n ts h) (all_there P n es k)

  pub simple_stays : (s t : ℕ) → s ≤ t → (x : Simple) → IsSimple s x → IsSimple t x
  simple_stays s t h x a = record { uses = there_stays P s t h (uses_of_simple x) a.uses }

  pub assigned_stays : (s t : ℕ) → s ≤ t → (x : Assignment) → IsAssigned s x → IsAssigned t x
  assigned_stays s t h x a = record { uses = there_stays P s t h (uses_of_assignment x) a.uses }

  -- ---- rules at one number of slots

  module _ (n : ℕ) where
    eval_term_sure : (at : ℕ) (b : Bool) (x : Term) → IsTerm P n x → Sure (eval_term at b x) (IsSimple n)
    eval_term_sure at b (Computed t e) h = sure_if _ (sure_ok _ (record { uses = h })) (sure_err at source.BadCall)
    eval_term_sure at b x h = sure_err at source.BadCall

    eval_sure : (at : ℕ) (b : Bool) (i : ℕ) (o : Operand) → IsOperand P n o → Sure (eval_operand at b i o) (IsSimple n)
    eval_sure at b i (operand.Results ts e) h = sure_ok _ (record { uses = h })
    eval_sure at b i (operand.Term t) h = eval_term_sure at b t h
    eval_sure at b i o h = sure_err i source.WrongType

    code_term_sure : (at : ℕ) (x : Term) → IsTerm P n x → Sure (code_of_term at x) (Computes P n)
    code_term_sure at (Computed t e) h = sure_ok e (record { there = h })
    code_term_sure at x h = sure_err at source.BadCall

    code_sure : (at i : ℕ) (o : Operand) → IsOperand P n o → Sure (code_of at i o) (Computes P n)
    code_sure at i (operand.Results ts e) h = sure_ok e (record { there = h })
    code_sure at i (operand.Term t) h = code_term_sure at t h
    code_sure at i o h = sure_err i source.WrongType

    -- what a form without lists uses
    pub record IsPlain (x : NodeForm) : Type 0 where
      pub uses : AreThere P n (uses_of_form x)
      pub within : (m : ℕ) → IsWithin P m x
      pub none : (w : Nesting) (m : ℕ) → nested_in w m x ≡ []

    spawned_sure : (at : ℕ) (x : Expr-F Expr) → AreThere P n (used x) → Sure (spawned at x) IsPlain
    spawned_sure at (Expr-F.Call f es) h = sure_ok _ (record { uses = h; within = λ m. tt; none = λ w m. refl })
    spawned_sure at x h = sure_err at source.BadCall

    deferred_op_sure : (at : ℕ) (o : Op) (es : List Expr) → AreThere P n (uses_of_op o ++ all_uses es) → Sure (deferred at (Expr-F.Apply o es)) IsPlain
    deferred_op_sure at (op.Done g) es h = sure_ok _ (record { uses = h; within = λ m. tt; none = λ w m. refl })
    deferred_op_sure at (op.Unlock m) es h = sure_ok _ (record { uses = h; within = λ m. tt; none = λ w m. refl })
    deferred_op_sure at op.Close es h = sure_ok _ (record { uses = h; within = λ m. tt; none = λ w m. refl })
    deferred_op_sure at (op.Println k) es h = sure_ok _ (record { uses = h; within = λ m. tt; none = λ w m. refl })
    deferred_op_sure at o es h = sure_err at source.BadCall

    deferred_sure : (at : ℕ) (x : Expr-F Expr) → AreThere P n (used x) → Sure (deferred at x) IsPlain
    deferred_sure at (Expr-F.Call f es) h = sure_ok _ (record { uses = h; within = λ m. tt; none = λ w m. refl })
    deferred_sure at (Expr-F.Apply o es) h = deferred_op_sure at o es h
    deferred_sure at x h = sure_err at source.BadCall

    abbrev pub IsTyped : Typed → Type 0
    IsTyped x = Computes P n x.code

    pub channel_typed_sure : (a : Argument) → IsArgument P n a → Sure (channel_typed a) IsTyped
    channel_typed_sure a h =
        sure_then (sure_any (rules.or_wrong a.at (rules.channel_of (rules.kind_at a)))) (λ t u. sure_then (operands.fitted_sure P n a.at t a.term h) (λ x k. sure_ok _ k))

    abbrev pub AreSent : Expr × Expr → Type 0
    AreSent p = Computes P n p.0 × Computes P n p.1

    sent_sure : (c a : Argument) → IsArgument P n c → IsArgument P n a → Sure (sent c a) AreSent
    sent_sure c a h k = sure_then (channel_typed_sure c h) (λ x p. sure_then (operands.into_sure P n x.of a k) (λ y q. sure_ok _ (p, q)))

    pub send_finds : (e f : Written) (names : Names) → AreKnown P n names → Finds (send_values e f names) AreSent
    send_finds e f names k =
        finds_then (expressions.check_value_finds P n e names k) (λ c h. finds_then (expressions.check_value_finds P n f names k) (λ a l. finds_lift (sent_sure c a h l)))

    second_sure : (at : ℕ) (x : Variable) (o : Op) (r : Option Expr) → IsThere P n (variable x) → AreThere P n (uses_of_op o) → Perhaps (Computes P n) r → Sure (second_of at x o r) (IsSimple n)
    second_sure at x o None v h k = sure_err at source.WrongType
    second_sure at x o (Some y) v h k = sure_ok _ (record { uses = (v, there_append P n (uses_of_op o) (uses y) h k.there) })

    each_computes : (es : List Expr) → AreThere P n (all_uses es) → Each (Computes P n) es
    each_computes [] h = tt
    each_computes (e ∷ es) h = (record { there = there_left P n (uses e) (all_uses es) h }, each_computes es (there_right P n (uses e) (all_uses es) h))

    update_sure : (at : ℕ) (x : Variable) (e : Expr-F Expr) → IsThere P n (variable x) → AreThere P n (used e) → Sure (update_code at x e) (IsSimple n)
    update_sure at x (Expr-F.Apply o es) v h =
        second_sure at x o (slice_get es 1) v (there_left P n (uses_of_op o) (all_uses es) h) (each_get (Computes P n) es 1 (each_computes es (there_right P n (uses_of_op o) (all_uses es) h)))
    update_sure at x e v h = sure_err at source.WrongType

    update_term_sure : (at : ℕ) (x : Variable) (t : Term) → IsThere P n (variable x) → IsTerm P n t → Sure (update_term at x t) (IsSimple n)
    update_term_sure at x (Computed t e) v h = update_sure at x (out-Expr e) v (subst (AreThere P n) (uses_out e) h)
    update_term_sure at x t v h = sure_err at source.WrongType

    updated_sure : (at : ℕ) (o : Operator) (p : Place) (a : Argument) → IsPlace P n p → IsArgument P n a → Sure (updated at o p a) (IsSimple n)
    updated_sure at o (place.Variable x t) a h k = sure_then (operands.binary_sure P n at o (as_argument at x t) a (c_variable P n x h).there k) (λ r l. update_term_sure at x r h l)
    updated_sure at o place.Blank a h k = sure_err at source.WrongType
    updated_sure at o place.New a h k = sure_err at source.WrongType

    zeros_there : (k : ℕ) (v : Rattle.go_meaning.specs.declared.value.Value.Value) → Each (Computes P n) (replicate k (expr.Value v))
    zeros_there zero v = tt
    zeros_there (suc k) v = (c_value P n v, zeros_there k v)

    any_type : (t : Option TypeExpr) (names : Names) → Finds (type_if t names) (λ u. Unit {0})
    any_type t names = record { sure = λ m. record { holds = λ r e. tt } }

    given_values_find : (at : ℕ) (w : Option ValueType) (k : ℕ) (es : List Written) (names : Names) → AreKnown P n names → Finds (given_values at w k es names) (IsFilled P n)
    given_values_find at w k es names kn = finds_then (given_finds P n names kn true at k es) (λ g h. finds_lift (fill_sure P n (replicate k w) g h))

    initial_finds : (at : ℕ) (w : Option ValueType) (k : ℕ) (es : List Written) (names : Names) → AreKnown P n names → Finds (initial at w k es names) (IsFilled P n)
    initial_finds at (Some t) k [] names kn = finds_pure _ (zeros_there k _)
    initial_finds at (Some t) k (e ∷ es) names kn = given_values_find at (Some t) k (e ∷ es) names kn
    initial_finds at None k es names kn = given_values_find at None k es names kn

    const_sure : (at : ℕ) (w : Option ValueType) (x : Term) → Sure (const_term at w x) (λ m. (k : ℕ) → IsMeant P k m)
    const_sure at w (Fixed k c) = sure_then (sure_any (Rattle.go_types.specs.Constants.within at (Rattle.go_types.specs.Statements.const_kind w k) c)) (λ d u. sure_ok _ (λ k. tt))
    const_sure at w x = sure_err at source.NotConstant

    meaning_sure : (w : Option ValueType) (a : Argument) → Sure (const_meaning w a) (λ m. (k : ℕ) → IsMeant P k m)
    meaning_sure w a = sure_if _ (const_sure a.at w a.term) (sure_err a.at source.WrongType)

    any_value : (e : Written) (names : Names) → Finds (value_of Written check e names) (λ a. Unit {0})
    any_value e names = record { sure = λ m. record { holds = λ r e. tt } }

    -- a constant means no variable, whatever names mean
    pub const_meant : (c : ConstSpec) (names : Names) → Finds (const_value c names) (λ m. (k : ℕ) → IsMeant P k m)
    const_meant c names = finds_then (any_type c.kind names) (λ w u. finds_then (any_value c.value names) (λ a h. finds_lift (meaning_sure w a)))

module _ (P : Parts) (first marks : ℕ) where
  abbrev Does : {A : Type 0} → ℕ → Walking A → (ℕ → A → Type 0) → Type 0
  Does n p Q = Calms P first marks n p Q

  pub assign_does : (n at : ℕ) (ts : List WrittenTarget) (es : List Written) → Does n (assign at ts es) (IsSimple P)
  unfolding assign
  assign_does n at ts es =
      calm_then P first marks (values.places_do P first marks n ts) (λ ps m le hs.
      calm_then P first marks (calm_here P first marks {Q = IsGiven P} (λ j l names k. given_finds P j names k true at (length ps) es)) (λ g j l h.
      calm_then P first marks (calm_pure P first marks {Q = IsFilled P} (λ i w. fill_sure P i (map wanted_by ps) g (given_stays P j i w g h))) (λ f i w q.
      calm_done P first marks _ (λ k z. record { uses = assigned P k (map old_target ps) f.codes (olds_there P k ps (places_stay P m k (omega arith) ps hs)) (all_compute P i k z f.codes q) }))))

  pub define_does : (n at : ℕ) (ns : List Name) (es : List Written) → Does n (define at ns es) (IsSimple P)
  unfolding define
  define_does n at ns es =
      calm_then P first marks (values.defineds_do P first marks n ns) (λ ps m le hs.
      calm_then P first marks (calm_here P first marks {Q = IsGiven P} (λ j l names k. given_finds P j names k true at (length ps) es)) (λ g j l h.
      calm_then P first marks (calm_if P first marks {Q = λ k u. Unit {0}} (any_new ps) (calm_done P first marks tt (λ k z. tt)) (calm_stop P first marks at source.Redeclared)) (λ u j' l' v.
      calm_then P first marks (calm_pure P first marks {Q = IsFilled P} (λ i w. fill_sure P i (map wanted_by ps) g (given_stays P j i (omega arith) g h))) (λ f i w q.
      calm_then P first marks (values.targets_do P first marks i ns ps f.types (places_stay P m i (omega arith) ps hs)) (λ ts k z rs.
      calm_done P first marks _ (λ k' z'. record { uses = assigned P k' ts f.codes (values.targets_stay P first marks k k' z' ts rs) (all_compute P i k' (omega arith) f.codes q) }))))))

  var_does : (n at : ℕ) (v : VarSpec) → Does n (var_spec at v) (IsAssigned P)
  unfolding var_spec
  var_does n at v =
      calm_then P first marks (calm_here P first marks {Q = λ k u. Unit {0}} (λ j l names k. any_type P j v.kind names)) (λ w m le u.
      calm_then P first marks (calm_here P first marks {Q = IsFilled P} (λ j l names k. initial_finds P j at w (length v.names) v.values names k)) (λ f j l h.
      calm_then P first marks (values.declares_do P first marks j v.names f.types) (λ ts i z hs.
      calm_done P first marks _ (λ k q. record { uses = assigned P k ts f.codes (values.targets_stay P first marks i k q ts hs) (all_compute P j k (omega arith) f.codes h) }))))

  pub vars_do : (n at : ℕ) (vs : List VarSpec) → Does n (var_specs at vs) (λ m as'. AreThere P m (flat_map uses_of_assignment as'))
  vars_do n at [] = calm_done P first marks [] (λ m h. tt)
  vars_do n at (v ∷ vs) =
      calm_then P first marks (var_does n at v) (λ a m le h.
      calm_then P first marks (vars_do m at vs) (λ as' k l hs.
      calm_done P first marks (a ∷ as') (λ j i. there_append P j (uses_of_assignment a) (flat_map uses_of_assignment as') (assigned_stays P m j (le_trans l i) a h).uses (there_stays P k j i (flat_map uses_of_assignment as') hs))))

  const_does : (n : ℕ) (c : ConstSpec) → Does n (const_spec c) (λ k u. Unit {0})
  unfolding const_spec
  const_does n c =
      calm_then P first marks (calm_here P first marks {Q = λ k m. (k : ℕ) → IsMeant P k m} (λ j l names k. const_meant P j c names)) (λ m j l h.
      calm_if P first marks (is_blank c.name.text) (calm_done P first marks tt (λ k z. tt)) (calm_bind P first marks j c.name m (λ k z. h k)))

  pub consts_do : (n : ℕ) (cs : List ConstSpec) → Does n (const_specs cs) (λ k u. Unit {0})
  consts_do n [] = calm_done P first marks tt (λ k z. tt)
  consts_do n (c ∷ cs) = calm_then P first marks (const_does n c) (λ u m le v. consts_do m cs)

  pub eval_does : (n at : ℕ) (e : Written) → Does n (eval at e) (IsSimple P)
  unfolding eval
  eval_does n at e =
      calm_then P first marks (calm_here P first marks {Q = λ k p. IsOperand P k p.operand} (λ j l names k. (expressions.check_found P j e).finds names k)) (λ p m le h.
      calm_pure P first marks (λ k z. eval_sure P k at _ p.at p.operand (operand_stays m k z p.operand h)))
    where
      operand_stays : (s t : ℕ) → s ≤ t → (o : Operand) → IsOperand P s o → IsOperand P t o
      operand_stays s t h (operand.Term x) a = term_stays P s t h x a
      operand_stays s t h (operand.Results ts e) a = there_stays P s t h (uses e) a
      operand_stays s t h (operand.Type u) a = tt
      operand_stays s t h (operand.Callee c) a = meant_stays P s t h (meaning.Callee c) a
      operand_stays s t h operand.Other a = tt

  called_does : (n at : ℕ) (e : Written) → Does n (called at e) (Computes P)
  unfolding called
  called_does n at e =
      calm_then P first marks (calm_here P first marks {Q = λ k p. (j : ℕ) → k ≤ j → IsOperand P j p.operand} (λ j l names k. stays j _ ((expressions.check_found P j e).finds names k))) (λ p m le h.
      calm_pure P first marks (λ k z. sure_then (code_sure P k at p.at p.operand (h k z)) (λ x q. sure_if _ (sure_ok x q) (sure_err at source.BadCall))))
    where
      operand_stays : (s t : ℕ) → s ≤ t → (o : Operand) → IsOperand P s o → IsOperand P t o
      operand_stays s t h (operand.Term x) a = term_stays P s t h x a
      operand_stays s t h (operand.Results ts e) a = there_stays P s t h (uses e) a
      operand_stays s t h (operand.Type u) a = tt
      operand_stays s t h (operand.Callee c) a = meant_stays P s t h (meaning.Callee c) a
      operand_stays s t h operand.Other a = tt

      stays : (j : ℕ) (p : Checking Rattle.go_types.specs.declared.operand.Part.Part) → Finds p (λ q. IsOperand P j q.operand) → Finds p (λ q. (k : ℕ) → j ≤ k → IsOperand P k q.operand)
      stays j p h = record { sure = λ m. sure_more (h.sure m) (λ r a k z. operand_stays j k z r.0.operand a) }

  pub go_does : (n at : ℕ) (e : Written) → Does n (called at e >>> (λ x. as_walking (spawned at (out-Expr x)))) (IsPlain P)
  go_does n at e =
      calm_then P first marks (called_does n at e) (λ x m le h.
      calm_pure P first marks (λ k z. spawned_sure P k at (out-Expr x) (subst (AreThere P k) (uses_out x) (computes_stays P m k z x h).there)))

  pub defer_does : (n at : ℕ) (e : Written) → Does n (called at e >>> (λ x. as_walking (deferred at (out-Expr x)))) (IsPlain P)
  defer_does n at e =
      calm_then P first marks (called_does n at e) (λ x m le h.
      calm_pure P first marks (λ k z. deferred_sure P k at (out-Expr x) (subst (AreThere P k) (uses_out x) (computes_stays P m k z x h).there)))

  pub send_does : (n : ℕ) (e f : Written) → Does n (send e f) (IsSimple P)
  unfolding send
  send_does n e f =
      calm_then P first marks (calm_here P first marks {Q = λ k p. AreSent P k p} (λ j l names k. send_finds P j e f names k)) (λ p m le h.
      calm_done P first marks _ (λ k z. record { uses = there_append P k (uses p.0) (uses p.1) (computes_stays P m k z p.0 h.0).there (computes_stays P m k z p.1 h.1).there }))

  read_place_does : (n : ℕ) (t : WrittenTarget) → Does n (read_place t) (IsPlace P)
  read_place_does n (written.Plain x) = values.place_named_does P first marks n x
  read_place_does n (written.Member p x) = values.place_does P first marks n (written.Member p x)

  pub update_does : (n at : ℕ) (t : WrittenTarget) (o : BinaryOp) (e : Written) → Does n (update at t o e) (IsSimple P)
  unfolding update
  update_does n at t o e =
      calm_then P first marks (read_place_does n t) (λ p m le h.
      calm_then P first marks (values.read_does P first marks m p) (λ u j l v.
      calm_then P first marks (calm_here P first marks {Q = IsArgument P} (λ i w names k. expressions.check_value_finds P i e names k)) (λ a i w q.
      calm_pure P first marks (λ k z. updated_sure P k at _ p a (place_stays P m k (omega arith) p h) (term_stays P i k z a.term q)))))

  pub step_does : (n at : ℕ) (t : WrittenTarget) (o : Operator) → Does n (step at t o) (IsSimple P)
  unfolding step
  step_does n at t o =
      calm_then P first marks (read_place_does n t) (λ p m le h.
      calm_then P first marks (values.read_does P first marks m p) (λ u j l v.
      calm_pure P first marks (λ k z. updated_sure P k at o p (one at) (place_stays P m k (omega arith) p h) tt)))

  pub return_does : (n at : ℕ) (es : List Written) → Does n (return_of at es) (IsPlain P)
  unfolding return_of
  return_does n at es = record { calms = λ s r le. (returns (length s.results) (map (λ t. Some t) s.results)).calms s r le }
    where
      returns : (c : ℕ) (ws : List (Option ValueType)) → Calms P first marks n (here (given false at c es) >>> (λ g. as_walking (fill ws g) >>> (λ f. done (node.Return f.codes c)))) (IsPlain P)
      returns c ws =
          calm_then P first marks (calm_here P first marks {Q = IsGiven P} (λ j l names k. given_finds P j names k false at c es)) (λ g j l h.
          calm_then P first marks (calm_pure P first marks {Q = IsFilled P} (λ i w. fill_sure P i ws g (given_stays P j i w g h))) (λ f i w q.
          calm_done P first marks (node.Return f.codes c) (λ k z. record { uses = all_there P k f.codes (all_compute P i k z f.codes q); within = λ m. tt; none = λ w m. refl })))
