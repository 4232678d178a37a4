-- Conditions, tags, ranges, and the heads of clauses.
use Rattle.std.proofs.Common.{ℕ, true, List, [], ◌∷◌, length, map, Option, Some, None, arith}
use Rattle.std.specs.Prelude.{slice_get, flat_map, unwrap_or}
use Rattle.go_ast.specs.declared.name.Name.{Name}
use Rattle.go_ast.specs.declared.expr.Expr.{Expr as Written}
use Rattle.go_ast.specs.declared.block.Target.{Target as WrittenTarget}
use Rattle.go_ast.specs.declared.block.Comm.{Comm as WrittenComm}
use Rattle.go_ast.specs.declared.block.Comm.TheVariants as written
use Rattle.go_meaning.specs.declared.value.Value.TheVariants as value'
use Rattle.go_meaning.specs.declared.expr.Expr.{Expr}
use Rattle.go_meaning.specs.declared.expr.Target.{Target}
use Rattle.go_meaning.specs.declared.expr.Target.TheVariants as target
use Rattle.go_meaning.specs.declared.node.Comm.{Comm}
use Rattle.go_meaning.specs.declared.node.Comm.TheVariants as comm
use Rattle.go_meaning.specs.Programs.{Parts}
use Rattle.go_meaning.specs.WellFormed.{AreThere, uses, uses_of_target, uses_of_test, uses_of_values, uses_of_comm}
use Rattle.go_types.specs.declared.types.ValueType.{ValueType}
use Rattle.go_types.specs.declared.operand.Argument.{Argument}
use Rattle.go_types.specs.declared.given.Ranged.{Ranged}
use Rattle.go_types.specs.declared.cases.Seen.{Seen}
use Rattle.go_types.specs.Types as types
use Rattle.go_types.specs.Cases.{seen_with, with_default}
use Rattle.go_types.specs.Operands as rules
use Rattle.go_types.specs.Expressions.{check, value_of}
use Rattle.go_types.specs.Walking.{Walking, here}
use Rattle.go_types.specs.Scopes.{old_target}
use Rattle.go_types.specs.Statements as statements
use Rattle.go_types.specs.Bodies.{condition, condition_if, tag_value, tag, ranged_types, count_names, target_at, ranged, first_name_at, take_fits, take_count, take_of, take_new_of, comm_of, case_constant, case_value, case_values, case_head}
use Rattle.go_bounds.specs.Known.{Each}
use Rattle.go_bounds.proofs.Sure.{Sure, sure_ok, sure_then, sure_any}
use Rattle.go_bounds.proofs.Uses.{Computes, there_append, all_there, c_value}
use Rattle.go_bounds.proofs.Naming.{Perhaps, each_get}
use Rattle.go_bounds.proofs.Operands as operands
use Rattle.go_bounds.proofs.Calls as calls
use Rattle.go_bounds.proofs.Expressions as expressions
use Rattle.go_bounds.proofs.Calm.{Calms, calm_then, calm_done, calm_pure, calm_here}
use Rattle.go_bounds.proofs.Values as values
use Rattle.go_bounds.proofs.Values.{IsArgument, IsTarget, IsPlace, term_stays, computes_stays, all_compute, places_stay, olds_there, target_stays}
use Rattle.go_bounds.proofs.Simples.{IsTyped, AreSent, channel_typed_sure, send_finds, targets_use}

module _ (P : Parts) where
  -- an expression, if there is one
  pub record IsTest (n : ℕ) (o : Option Expr) : Type 0 where
    pub uses : AreThere P n (uses_of_test o)

  pub record IsComm (n : ℕ) (c : Comm) : Type 0 where
    pub uses : AreThere P n (uses_of_comm c)

  pub record AreValues (n : ℕ) (o : Option (List Expr)) : Type 0 where
    pub uses : AreThere P n (uses_of_values o)

  tag_sure : (n : ℕ) (a : Argument) → IsArgument P n a → Sure (tag_value a) (IsTyped P n)
  tag_sure n a h = sure_then (values.wanted_sure P n None a h) (λ x k. sure_ok _ k)

  pub target_there : (n : ℕ) (ts : List Target) (k : ℕ) → Each (IsTarget P n) ts → IsTarget P n (target_at ts k)
  target_there n ts k h = by (slice_get ts k) (each_get (IsTarget P n) ts k h)
    where
      by : (o : Option Target) → Perhaps (IsTarget P n) o → IsTarget P n (unwrap_or o target.Blank)
      by None h = tt
      by (Some t) h = h

module _ (P : Parts) (first marks : ℕ) where
  abbrev Does : {A : Type 0} → ℕ → Walking A → (ℕ → A → Type 0) → Type 0
  Does n p Q = Calms P first marks n p Q

  value_does : (n : ℕ) (e : Written) → Does n (here (value_of Written check e)) (IsArgument P)
  value_does n e = calm_here P first marks {Q = IsArgument P} (λ m le names k. expressions.check_value_finds P m e names k)

  pub condition_does : (n : ℕ) (e : Written) → Does n (condition e) (Computes P)
  condition_does n e = calm_then P first marks (value_does n e) (λ a m le h. calm_pure P first marks (λ k z. operands.into_sure P k types.flag a (term_stays P m k z a.term h)))

  pub condition_if_does : (n : ℕ) (o : Option Written) → Does n (condition_if o) (IsTest P)
  unfolding condition_if
  condition_if_does n None = calm_done P first marks None (λ m h. record { uses = tt })
  condition_if_does n (Some e) = calm_then P first marks (condition_does n e) (λ x m le h. calm_done P first marks (Some x) (λ k z. record { uses = (computes_stays P m k z x h).there }))

  pub tag_does : (n : ℕ) (o : Option Written) → Does n (tag o) (IsTyped P)
  tag_does n None = calm_done P first marks _ (λ m h. c_value P m (value'.Flag true))
  tag_does n (Some e) = calm_then P first marks (value_does n e) (λ a m le h. calm_pure P first marks (λ k z. tag_sure P k a (term_stays P m k z a.term h)))

  -- ---- `range`

  pub record IsRanged (n : ℕ) (r : Ranged) : Type 0 where
    pub code : Computes P n r.code
    pub targets : Each (IsTarget P n) r.targets

  pub ranged_does : (n at : ℕ) (ns : List Name) (e : Written) → Does n (ranged at ns e) IsRanged
  unfolding ranged
  ranged_does n at ns e =
      calm_then P first marks (value_does n e) (λ a m le h.
      calm_then P first marks (calm_pure P first marks {Q = λ k u. Unit {0}} (λ k z. sure_any (count_names at (length (ranged_types (rules.kind_at a))) ns))) (λ u j l v.
      calm_then P first marks (calm_pure P first marks {Q = Computes P} (λ k z. calls.measurable_sure P k a (term_stays P m k (omega arith) a.term h))) (λ x i w q.
      calm_then P first marks (values.declares_do P first marks i ns (ranged_types (rules.kind_at a))) (λ ts k z hs.
      calm_done P first marks _ (λ k' z'. record { code = computes_stays P i k' (omega arith) x q; targets = values.targets_stay P first marks k k' z' ts hs })))))

  -- ---- clauses of a `select`

  take_does : (n : ℕ) (ts : List WrittenTarget) (e : Written) → Does n (take_of ts e) (IsComm P)
  unfolding take_of
  take_does n ts e =
      calm_then P first marks (values.places_do P first marks n ts) (λ ps m le hs.
      calm_then P first marks (value_does m e) (λ a j l h.
      calm_then P first marks (calm_pure P first marks {Q = λ k u. Unit {0}} (λ k z. sure_any (take_count ts))) (λ u j' l' v.
      calm_then P first marks (calm_pure P first marks {Q = IsTyped P} (λ k z. channel_typed_sure P k a (term_stays P j k (omega arith) a.term h))) (λ c i w q.
      calm_then P first marks (calm_pure P first marks {Q = λ k u. Unit {0}} (λ k z. sure_any (take_fits ts ps (statements.received_types c.of)))) (λ u' i' w' v'.
      calm_done P first marks _ (λ k z. record { uses = there_append P k (uses c.code) (flat_map uses_of_target (map old_target ps)) (computes_stays P i k (omega arith) c.code q).there (targets_use P k (map old_target ps) (olds_there P k ps (places_stay P m k (omega arith) ps hs))) }))))))

  take_new_does : (n : ℕ) (ns : List Name) (e : Written) → Does n (take_new_of ns e) (IsComm P)
  unfolding take_new_of
  take_new_does n ns e =
      calm_then P first marks (value_does n e) (λ a m le h.
      calm_then P first marks (calm_pure P first marks {Q = λ k u. Unit {0}} (λ k z. sure_any (count_names (first_name_at ns) 2 ns))) (λ u j l v.
      calm_then P first marks (calm_pure P first marks {Q = IsTyped P} (λ k z. channel_typed_sure P k a (term_stays P m k (omega arith) a.term h))) (λ c i w q.
      calm_then P first marks (values.declares_do P first marks i ns (statements.received_types c.of)) (λ ts k z hs.
      calm_done P first marks _ (λ k' z'. record { uses = there_append P k' (uses c.code) (flat_map uses_of_target ts) (computes_stays P i k' (omega arith) c.code q).there (targets_use P k' ts (values.targets_stay P first marks k k' z' ts hs)) })))))

  pub comm_does : (n : ℕ) (c : WrittenComm) → Does n (comm_of c) (IsComm P)
  comm_does n written.Default = calm_done P first marks comm.Default (λ m h. record { uses = tt })
  comm_does n (written.Send e f) =
      calm_then P first marks (calm_here P first marks {Q = λ k p. AreSent P k p} (λ j l names k. send_finds P j e f names k)) (λ p m le h.
      calm_done P first marks _ (λ k z. record { uses = there_append P k (uses p.0) (uses p.1) (computes_stays P m k z p.0 h.0).there (computes_stays P m k z p.1 h.1).there }))
  comm_does n (written.Take ts e) = take_does n ts e
  comm_does n (written.TakeNew ns e) = take_new_does n ns e

  -- ---- clauses of a `switch`

  case_does : (n : ℕ) (t : ValueType) (seen : Seen) (e : Written) → Does n (case_value t seen e) (λ m r. Computes P m r.0)
  unfolding case_value
  case_does n t seen e =
      calm_then P first marks (value_does n e) (λ a m le h.
      calm_then P first marks (calm_pure P first marks {Q = Computes P} (λ k z. operands.into_sure P k t a (term_stays P m k z a.term h))) (λ x j l q.
      calm_then P first marks (calm_pure P first marks {Q = λ k u. Unit {0}} (λ k z. sure_any (seen_with a.at (case_constant a.term) seen))) (λ more i w v.
      calm_done P first marks (x, more) (λ k z. computes_stays P j k (omega arith) x q))))

  cases_do : (n : ℕ) (t : ValueType) (seen : Seen) (es : List Written) → Does n (case_values t seen es) (λ m r. Each (Computes P m) r.0)
  cases_do n t seen [] = calm_done P first marks ([], seen) (λ m h. tt)
  cases_do n t seen (e ∷ es) =
      calm_then P first marks (case_does n t seen e) (λ r m le h.
      calm_then P first marks (cases_do m t r.1 es) (λ q j l hs.
      calm_done P first marks (r.0 ∷ q.0, q.1) (λ k z. (computes_stays P m k (omega arith) r.0 h, all_compute P j k z q.0 hs))))

  pub case_head_does : (n at : ℕ) (t : ValueType) (seen : Seen) (o : Option (List Written)) → Does n (case_head at t seen o) (λ m r. AreValues P m r.0)
  case_head_does n at t seen None =
      calm_then P first marks (calm_pure P first marks {Q = λ k u. Unit {0}} (λ k z. sure_any (with_default at seen))) (λ more m le h. calm_done P first marks (None, more) (λ k z. record { uses = tt }))
  case_head_does n at t seen (Some es) =
      calm_then P first marks (cases_do n t seen es) (λ r m le h. calm_done P first marks (Some r.0, r.1) (λ k z. record { uses = all_there P k r.0 (all_compute P m k z r.0 h) }))
