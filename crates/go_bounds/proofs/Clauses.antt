-- What the clauses of a `switch` and of a `select` make.
use Rattle.std.proofs.Common.{◌≡◌, ℕ, zero, suc, ◌+◌, ◌<◌, ◌≤◌, Bool, true, false, cond, List, [], ◌∷◌, length, map, Option, Some, None, refl, sym, ap, ◌∙◌, subst, arith}
use Rattle.std.specs.Prelude.{flat_map, ◌==◌}
use Rattle.go_meaning.specs.declared.node.CaseClause.{CaseClause as CaseNode}
use Rattle.go_meaning.specs.declared.node.CommClause.{CommClause as CommNode}
use Rattle.go_meaning.specs.declared.node.Comm.{Comm}
use Rattle.go_meaning.specs.Programs.{Parts, list_at}
use Rattle.go_meaning.specs.WellFormed.{Use, AreThere, uses_of_values, uses_of_comm}
use Rattle.go_types.specs.declared.types.ValueType.{ValueType}
use Rattle.go_types.specs.declared.cases.Seen.{Seen}
use Rattle.go_types.specs.declared.walk.Walk.{Walk}
use Rattle.go_types.specs.Walking.{◌>>>◌, done, opened, scoped}
use Rattle.go_types.specs.Bodies.{CaseParts, CommParts, numbered, clause, next_clause, clauses_of, comm_of, comm_seen, comm_clause, comm_clauses_of}
use Rattle.go_bounds.specs.Known.{Each}
use Rattle.go_bounds.proofs.Sure.{Sure, sure_ok, sure_then, sure_any}
use Rattle.go_bounds.proofs.Uses.{there_stays, there_append}
use Rattle.go_bounds.proofs.Calm.{around_refl, Ready, opened_ready, calm_pure}
use Rattle.go_bounds.proofs.Heads.{case_head_does, comm_does}
use Rattle.go_bounds.proofs.Pieces.{ListStands, ClausesStand, clauses_none, clauses_more}
use Rattle.go_bounds.proofs.Goes.{Ends, held_at, Goes, goes_calm, goes_trans, goes_wider, goes_none, ends_before, ends_after, goes_scoped}
use Rattle.go_bounds.proofs.Making.{IsNext, MakesList, makes_scoped, makes_numbered}

module _ (P : Parts) (first : ℕ) where
  pub record MakesCase (c : CaseParts) : Type 0 where
    pub list : (next : Option ℕ) → MakesList P first (IsNext P first next) (c.list next)

  pub record MakesComm (c : CommParts) : Type 0 where
    pub list : MakesList P first (Unit {0}) c.list

  -- the program has the lists of some numbers
  abbrev pub Has : Walk → ℕ → ℕ → Type 0
  Has t lo hi = (n : ℕ) → lo ≤ n → n < hi → list_at P n ≡ held_at t n

  -- one clause, and those behind it
  step_made : (S m l to : ℕ) (s t u : Walk) (ls : List ℕ) → suc l ≤ to → to ≤ length s.lists → Goes P first m l (suc l) s t → Goes P first m (l + 1) to t u
      → Ends P S (length s.lists) u → Has u l to
      → (Ends P S (length s.lists) t → list_at P l ≡ held_at t l → ListStands P S m (list_at P l) (length s.lists) (length t.lists))
      → (Ends P S (length t.lists) u → Has u (l + 1) to → ClausesStand P S m ls (l + 1) to (length t.lists) (length u.lists))
      → ClausesStand P S m (l ∷ ls) l to (length s.lists) (length u.lists)
  step_made S m l to s t u ls lt le g g' e has h k =
      let here : list_at P l ≡ held_at t l = has l (omega arith) (omega arith) ∙ g'.kept l (omega (arith, g.lists)) (λ p q. omega arith) in
      clauses_more P S m l (l + 1) ls to (length s.lists) (length t.lists) (length u.lists) (omega arith)
      (h (ends_before P first S (length s.lists) (l + 1) to m t u le g' e) here)
      (k (ends_after P first S (length s.lists) (length t.lists) u g.lists e) (λ n p q. has n (omega arith) q))

  step_goes : (m l to : ℕ) (s t u : Walk) → suc l ≤ to → Goes P first m l (suc l) s t → Goes P first m (l + 1) to t u → Goes P first m l to s u
  step_goes m l to s t u lt g g' =
      goes_trans P first m l to s t u (goes_wider P first m l (suc l) l to s t (omega arith) lt g) (goes_wider P first m (l + 1) to l to t u (omega arith) (omega arith) g')

  -- the number of the next clause, where so many follow
  next_there : (l n to : ℕ) → to ≡ l + 1 + n → to ≤ length P.lists → IsNext P first (next_clause l n)
  next_there l zero to e le = tt
  next_there l (suc n) to e le = by (suc n == 0)
    where
      by : (b : Bool) → IsNext P first (cond b None (Some (l + 1)))
      by true = tt
      by false = omega arith

  -- ---- a clause of a `switch`

  abbrev OneCase : ℕ → Walk → ℕ → Option ℕ → (CaseNode × Seen) × Walk → Type 0
  OneCase m s l next r = Goes P first m l (suc l) s r.1 × (r.0.0.list ≡ l) × ((S : ℕ) → Ends P S (length s.lists) r.1 → AreThere P S (uses_of_values r.0.0.values))
      × ((S : ℕ) → Ends P S (length s.lists) r.1 → list_at P l ≡ held_at r.1 l → IsNext P first next → ListStands P S m (list_at P l) (length s.lists) (length r.1.lists))

  case_made : (at : ℕ) (t : ValueType) (l : ℕ) (next : Option ℕ) (seen : Seen) (c : CaseParts) → MakesCase c → (m : ℕ) (s : Walk) → Ready P first m s → l < length s.lists → Sure (clause at t l next seen c s) (OneCase m s l next)
  unfolding clause
  case_made at t l next seen c good m s r lt =
      sure_then ((case_head_does P first m 0 at t seen c.values).calms s r (omega arith)) (λ x q.
      let same : length x.1.lists ≡ length s.lists = ap length q.0.lists in
      sure_then ((makes_numbered P first l (makes_scoped P first (good.list next))).makes m x.1 q.0.ready (omega arith)) (λ y w.
      sure_ok _ (
        goes_trans P first m l (suc l) s x.1 y.1 (goes_none P first m l (suc l) s x.1 (goes_calm P first m s x.1 q.0)) w.0,
        refl,
        λ S e. there_stays P (length x.1.declared) S (omega (arith, w.0.slots, e.declared)) _ q.1.uses,
        λ S e is n. subst (λ a. ListStands P S m (list_at P l) a (length y.1.lists)) same (w.2 S (subst (λ a. Ends P S a y.1) (sym same) e) is n),
      )))

  abbrev case_uses : List CaseNode → List Use
  case_uses xs = flat_map (λ (c : CaseNode). uses_of_values c.values) xs

  abbrev case_lists : List CaseNode → List ℕ
  case_lists xs = map (λ (c : CaseNode). c.list) xs

  abbrev pub Cases : ℕ → Walk → ℕ → ℕ → List CaseNode × Walk → Type 0
  Cases m s l to r = Goes P first m l to s r.1 × ((S : ℕ) → Ends P S (length s.lists) r.1 → AreThere P S (case_uses r.0))
      × ((S : ℕ) → Ends P S (length s.lists) r.1 → Has r.1 l to → to ≤ length P.lists → ClausesStand P S m (case_lists r.0) l to (length s.lists) (length r.1.lists))

  module _ (C : Type 0) (parts : C → CaseParts) (good : C → Type 0) (goods : (c : C) → good c → MakesCase (parts c)) where
    pub cases_made : (at : ℕ) (t : ValueType) (l : ℕ) (seen : Seen) (cs : List C) (to : ℕ) → to ≡ l + length cs → Each good cs → (m : ℕ) (s : Walk) → Ready P first m s → to ≤ length s.lists → Sure (clauses_of C parts at t l seen cs s) (Cases m s l to)
    cases_made at t l seen [] to e g m s r le =
        sure_ok ([], s) (goes_none P first m l to s s (goes_calm P first m s s (record { ready = r; slots = omega arith; lists = refl; names = around_refl s.names })), λ S f. tt, λ S f h b. clauses_none P S m l (length s.lists) (length s.lists) to (omega arith) refl)
    cases_made at t l seen (c ∷ cs) to e g m s r le =
        sure_then (case_made at t l (next_clause l (length cs)) seen (parts c) (goods c g.0) m s r (omega arith)) (λ x q.
        sure_then (cases_made at t (l + 1) x.0.1 cs to (omega arith) g.1 m x.1 q.0.ready (omega (arith, q.0.lists))) (λ y w.
        sure_ok _ (
          step_goes m l to s x.1 y.1 (omega arith) q.0 w.0,
          λ S f. there_append P S (uses_of_values x.0.0.values) (case_uses y.0)
              (q.2 S (ends_before P first S (length s.lists) (l + 1) to m x.1 y.1 le w.0 f)) (w.1 S (ends_after P first S (length s.lists) (length x.1.lists) y.1 q.0.lists f)),
          λ S f h b. subst (λ k. ClausesStand P S m (k ∷ case_lists y.0) l to (length s.lists) (length y.1.lists)) (sym q.1)
              (step_made S m l to s x.1 y.1 (case_lists y.0) (omega arith) le q.0 w.0 f h (λ f' is. q.3 S f' is (next_there l (length cs) to (omega arith) b)) (λ f' h'. w.2 S f' h' b)),
        )))

  -- ---- a clause of a `select`

  abbrev OneComm : ℕ → Walk → ℕ → (CommNode × Seen) × Walk → Type 0
  OneComm m s l r = Goes P first m l (suc l) s r.1 × (r.0.0.list ≡ l) × ((S : ℕ) → Ends P S (length s.lists) r.1 → AreThere P S (uses_of_comm r.0.0.comm))
      × ((S : ℕ) → Ends P S (length s.lists) r.1 → list_at P l ≡ held_at r.1 l → ListStands P S m (list_at P l) (length s.lists) (length r.1.lists))

  abbrev Inner : ℕ → ℕ → Walk → Comm × Walk → Type 0
  Inner m l s r = Goes P first m l (suc l) s r.1 × ((S : ℕ) → Ends P S (length s.lists) r.1 → AreThere P S (uses_of_comm r.0))
      × ((S : ℕ) → Ends P S (length s.lists) r.1 → list_at P l ≡ held_at r.1 l → ListStands P S m (list_at P l) (length s.lists) (length r.1.lists))

  open_made : (l : ℕ) (c : CommParts) → MakesComm c → (m : ℕ) (s : Walk) → Ready P first m s → l < length s.lists → Sure ((comm_of c.comm >>> (λ x. numbered l c.list >>> (λ _. done x))) s) (Inner m l s)
  open_made l c good m s r lt =
      sure_then ((comm_does P first m 0 c.comm).calms s r (omega arith)) (λ x q.
      let same : length x.1.lists ≡ length s.lists = ap length q.0.lists in
      sure_then ((makes_numbered P first l good.list).makes m x.1 q.0.ready (omega arith)) (λ y w.
      sure_ok (x.0, y.1) (
        goes_trans P first m l (suc l) s x.1 y.1 (goes_none P first m l (suc l) s x.1 (goes_calm P first m s x.1 q.0)) w.0,
        λ S e. there_stays P (length x.1.declared) S (omega (arith, w.0.slots, e.declared)) _ q.1.uses,
        λ S e is. subst (λ a. ListStands P S m (list_at P l) a (length y.1.lists)) same (w.2 S (subst (λ a. Ends P S a y.1) (sym same) e) is tt),
      )))

  inner_made : (l : ℕ) (c : CommParts) → MakesComm c → (m : ℕ) (s : Walk) → Ready P first m s → l < length s.lists → Sure (scoped (comm_of c.comm >>> (λ x. numbered l c.list >>> (λ _. done x))) s) (Inner m l s)
  inner_made l c good m s r lt =
      sure_then (open_made l c good m (opened s) (opened_ready P first m s r) lt) (λ x q.
      sure_ok _ (
        goes_scoped P first m l (suc l) s x.1 q.0,
        λ S e. q.1 S (record { declared = e.declared; bound = e.bound; lists = e.lists }),
        λ S e is. q.2 S (record { declared = e.declared; bound = e.bound; lists = e.lists }) is,
      ))

  comm_made : (at l : ℕ) (seen : Seen) (c : CommParts) → MakesComm c → (m : ℕ) (s : Walk) → Ready P first m s → l < length s.lists → Sure (comm_clause at l seen c s) (OneComm m s l)
  unfolding comm_clause
  comm_made at l seen c good m s r lt =
      sure_then ((calm_pure P first m {n = 0} {Q = λ k u. Unit {0}} (λ k z. sure_any (comm_seen at seen c.comm))).calms s r (omega arith)) (λ x q.
      let same : length x.1.lists ≡ length s.lists = ap length q.0.lists in
      sure_then (inner_made l c good m x.1 q.0.ready (omega arith)) (λ y w.
      sure_ok _ (
        goes_trans P first m l (suc l) s x.1 y.1 (goes_none P first m l (suc l) s x.1 (goes_calm P first m s x.1 q.0)) w.0,
        refl,
        λ S e. w.1 S (subst (λ a. Ends P S a y.1) (sym same) e),
        λ S e is. subst (λ a. ListStands P S m (list_at P l) a (length y.1.lists)) same (w.2 S (subst (λ a. Ends P S a y.1) (sym same) e) is),
      )))

  abbrev comm_uses : List CommNode → List Use
  comm_uses xs = flat_map (λ (c : CommNode). uses_of_comm c.comm) xs

  abbrev comm_lists : List CommNode → List ℕ
  comm_lists xs = map (λ (c : CommNode). c.list) xs

  abbrev pub Comms : ℕ → Walk → ℕ → ℕ → List CommNode × Walk → Type 0
  Comms m s l to r = Goes P first m l to s r.1 × ((S : ℕ) → Ends P S (length s.lists) r.1 → AreThere P S (comm_uses r.0))
      × ((S : ℕ) → Ends P S (length s.lists) r.1 → Has r.1 l to → ClausesStand P S m (comm_lists r.0) l to (length s.lists) (length r.1.lists))

  module _ (M : Type 0) (parts : M → CommParts) (good : M → Type 0) (goods : (c : M) → good c → MakesComm (parts c)) where
    pub comms_made : (at l : ℕ) (seen : Seen) (cs : List M) (to : ℕ) → to ≡ l + length cs → Each good cs → (m : ℕ) (s : Walk) → Ready P first m s → to ≤ length s.lists → Sure (comm_clauses_of M parts at l seen cs s) (Comms m s l to)
    comms_made at l seen [] to e g m s r le =
        sure_ok ([], s) (goes_none P first m l to s s (goes_calm P first m s s (record { ready = r; slots = omega arith; lists = refl; names = around_refl s.names })), λ S f. tt, λ S f h. clauses_none P S m l (length s.lists) (length s.lists) to (omega arith) refl)
    comms_made at l seen (c ∷ cs) to e g m s r le =
        sure_then (comm_made at l seen (parts c) (goods c g.0) m s r (omega arith)) (λ x q.
        sure_then (comms_made at (l + 1) x.0.1 cs to (omega arith) g.1 m x.1 q.0.ready (omega (arith, q.0.lists))) (λ y w.
        sure_ok _ (
          step_goes m l to s x.1 y.1 (omega arith) q.0 w.0,
          λ S f. there_append P S (uses_of_comm x.0.0.comm) (comm_uses y.0)
              (q.2 S (ends_before P first S (length s.lists) (l + 1) to m x.1 y.1 le w.0 f)) (w.1 S (ends_after P first S (length s.lists) (length x.1.lists) y.1 q.0.lists f)),
          λ S f h. subst (λ k. ClausesStand P S m (k ∷ comm_lists y.0) l to (length s.lists) (length y.1.lists)) (sym q.1)
              (step_made S m l to s x.1 y.1 (comm_lists y.0) (omega arith) le q.0 w.0 f h (λ f' is. q.3 S f' is) (λ f' h'. w.2 S f' h')),
        )))
