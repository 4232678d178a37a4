-- Places, and the values that are given to them.
use Rattle.std.proofs.Common.{◌≡◌, ℕ, zero, suc, ◌+◌, ◌<◌, ◌≤◌, Bool, true, false, cond, List, [], ◌∷◌, ◌++◌, length, map, Option, Some, None, Ok, refl, sym, ap, ◌∙◌, subst, arith, le_trans, replicate}
use Rattle.std.specs.Prelude.{nat_lt}
use Rattle.go_ast.specs.declared.kind.SourceKind.TheVariants as source
use Rattle.go_ast.specs.declared.name.Name.{Name}
use Rattle.go_ast.specs.declared.expr.Expr.{Expr as Written}
use Rattle.go_ast.specs.declared.block.Target.{Target as WrittenTarget}
use Rattle.go_ast.specs.declared.block.Target.TheVariants as written
use Rattle.go_meaning.specs.declared.expr.Expr.{Expr, out-Expr}
use Rattle.go_meaning.specs.declared.expr.Expr.TheOpen.{Expr-F}
use Rattle.go_meaning.specs.declared.expr.Target.{Target}
use Rattle.go_meaning.specs.declared.expr.Target.TheVariants as target
use Rattle.go_meaning.specs.Programs.{Parts}
use Rattle.go_meaning.specs.WellFormed.{variable, IsThere, AreThere, uses, uses_of_target}
use Rattle.go_types.specs.declared.types.ValueType.{ValueType}
use Rattle.go_types.specs.declared.names.Names.{Names}
use Rattle.go_types.specs.declared.names.Meaning.{Meaning}
use Rattle.go_types.specs.declared.names.Meaning.TheVariants as meaning
use Rattle.go_types.specs.declared.operand.Term.{Term}
use Rattle.go_types.specs.declared.operand.Term.TheVariants.{Constant as Fixed, Nil, Value as Computed}
use Rattle.go_types.specs.declared.operand.Operand.{Operand}
use Rattle.go_types.specs.declared.operand.Operand.TheVariants as operand
use Rattle.go_types.specs.declared.operand.Argument.{Argument}
use Rattle.go_types.specs.declared.given.Given.{Given}
use Rattle.go_types.specs.declared.given.Given.TheVariants.{Each as Apart, Whole}
use Rattle.go_types.specs.declared.given.Filled.{Filled}
use Rattle.go_types.specs.declared.walk.Place.{Place}
use Rattle.go_types.specs.declared.walk.Place.TheVariants as place
use Rattle.go_types.specs.Walking.{Walking, in_scope}
use Rattle.go_types.specs.Scopes.{is_blank, declare_named, declare, declare_all, place_meant, place_named, place_of, read_at, places_of, defined_meant, defined_place, defined_places, target_of, targets_defined, old_target}
use Rattle.go_types.specs.Statements.{whole_code, whole_term, whole_operand, given_whole, given_each, given, wanted_code, fill_each, fill, fit_all}
use Rattle.go_bounds.specs.Known.{Each, IsMeant, IsTerm, IsOperand, AreBound, AreKnown}
use Rattle.go_bounds.proofs.Sure.{Sure, Finds, sure_ok, sure_err, sure_then, sure_if, sure_any, finds_then, finds_lift}
use Rattle.go_bounds.proofs.Uses.{Computes, use_stays, there_stays, there_append, uses_out, c_value, c_receive_ok}
use Rattle.go_bounds.proofs.Naming as naming
use Rattle.go_bounds.proofs.Naming.{Perhaps, each_more}
use Rattle.go_bounds.proofs.Operands as operands
use Rattle.go_bounds.proofs.Expressions as expressions
use Rattle.go_bounds.proofs.Calm.{around_refl, Calm, Calms, calm_then, calm_done, calm_pure, calm_here, calm_if, calm_bind, calm_slot, meant_stays}

module _ (P : Parts) where
  abbrev pub IsArgument : ℕ → Argument → Type 0
  IsArgument n = operands.IsArgument P n

  pub term_stays : (s t : ℕ) → s ≤ t → (x : Term) → IsTerm P s x → IsTerm P t x
  term_stays s t h (Fixed k c) a = tt
  term_stays s t h Nil a = tt
  term_stays s t h (Computed u e) a = there_stays P s t h (uses e) a

  pub computes_stays : (s t : ℕ) → s ≤ t → (e : Expr) → Computes P s e → Computes P t e
  computes_stays s t h e a = record { there = there_stays P s t h (uses e) a.there }

  pub all_compute : (s t : ℕ) → s ≤ t → (es : List Expr) → Each (Computes P s) es → Each (Computes P t) es
  all_compute s t h = each_more (Computes P s) (Computes P t) (computes_stays s t h)

  -- ---- given values

  abbrev pub IsGiven : ℕ → Given → Type 0
  IsGiven n (Apart as') = Each (IsArgument n) as'
  IsGiven n (Whole i ts e) = Computes P n e

  pub given_stays : (s t : ℕ) → s ≤ t → (g : Given) → IsGiven s g → IsGiven t g
  given_stays s t h (Apart as') a = each_more (IsArgument s) (IsArgument t) (λ x k. term_stays s t h x.term k) as' a
  given_stays s t h (Whole i ts e) a = computes_stays s t h e a

  module _ (n : ℕ) where
    code_sure : (at k i : ℕ) (t : ValueType) (x : Expr-F Expr) → AreThere P n (Rattle.go_bounds.proofs.Uses.used x) → Sure (whole_code at k i t x) (IsGiven n)
    code_sure at k i t (Expr-F.Receive c) h = sure_if _ (sure_ok _ (c_receive_ok P n c (record { there = h }))) (sure_err at source.WrongCount)
    code_sure at k i t (Expr-F.Value v) h = sure_err at source.WrongCount
    code_sure at k i t (Expr-F.Variable v) h = sure_err at source.WrongCount
    code_sure at k i t (Expr-F.And a b) h = sure_err at source.WrongCount
    code_sure at k i t (Expr-F.Or a b) h = sure_err at source.WrongCount
    code_sure at k i t (Expr-F.Apply o es) h = sure_err at source.WrongCount
    code_sure at k i t (Expr-F.ReceiveOk a) h = sure_err at source.WrongCount
    code_sure at k i t (Expr-F.Call f es) h = sure_err at source.WrongCount

    whole_term_sure : (b : Bool) (at k i : ℕ) (x : Term) → IsTerm P n x → Sure (whole_term b at k i x) (IsGiven n)
    whole_term_sure true at k i (Computed t e) h = code_sure at k i t (out-Expr e) (subst (AreThere P n) (uses_out e) h)
    whole_term_sure true at k i (Fixed c d) h = sure_err at source.WrongCount
    whole_term_sure true at k i Nil h = sure_err at source.WrongCount
    whole_term_sure false at k i x h = sure_err at source.WrongCount

    whole_sure : (b : Bool) (at k i : ℕ) (o : Operand) → IsOperand P n o → Sure (whole_operand b at k i o) (IsGiven n)
    whole_sure b at k i (operand.Results ts e) h = sure_if _ (sure_ok _ (record { there = h })) (sure_err at source.WrongCount)
    whole_sure b at k i (operand.Term t) h = whole_term_sure b at k i t h
    whole_sure b at k i o h = sure_err i source.WrongType

    module _ (names : Names) (kn : AreKnown P n names) where
      each_finds : (at k : ℕ) (es : List Written) → Finds (given_each at k es names) (IsGiven n)
      each_finds at k es = finds_then (expressions.check_values_find P n es names kn) (λ as' h. finds_lift (sure_if _ (sure_ok _ h) (sure_err at source.WrongCount)))

      whole_finds : (b : Bool) (at k : ℕ) (e : Written) → Finds (given_whole b at k e names) (IsGiven n)
      whole_finds b at k e = finds_then ((expressions.check_found P n e).finds names kn) (λ p h. finds_lift (whole_sure b at k p.at p.operand h))

      pub given_finds : (b : Bool) (at k : ℕ) (es : List Written) → Finds (given b at k es names) (IsGiven n)
      given_finds b at k [] = each_finds at k []
      given_finds b at k (e ∷ []) = by (nat_lt 1 k)
        where
          by : (t : Bool) → Finds (cond t (given_whole b at k e names) (given_each at k (e ∷ []) names)) (IsGiven n)
          by true = whole_finds b at k e
          by false = each_finds at k (e ∷ [])
      given_finds b at k (e ∷ f ∷ es) = each_finds at k (e ∷ f ∷ es)

    -- ---- values take their types

    abbrev pub IsFilled : Filled → Type 0
    IsFilled f = Each (Computes P n) f.codes

    pub wanted_sure : (w : Option ValueType) (a : Argument) → IsArgument n a → Sure (wanted_code w a) (Computes P n)
    wanted_sure (Some t) a h = operands.into_sure P n t a h
    wanted_sure None a h = sure_if _ (sure_err a.at source.WrongType) (operands.own_sure P n a h)

    each_sure : (ws : List (Option ValueType)) (as' : List Argument) → Each (IsArgument n) as' → Sure (fill_each ws as') IsFilled
    each_sure ws [] h = sure_ok _ tt
    each_sure [] (a ∷ as') h = sure_ok _ tt
    each_sure (w ∷ ws) (a ∷ as') h = sure_then (wanted_sure w a h.0) (λ x p. sure_then (each_sure ws as' h.1) (λ f q. sure_ok _ (p, q)))

    pub fill_sure : (ws : List (Option ValueType)) (g : Given) → IsGiven n g → Sure (fill ws g) IsFilled
    fill_sure ws (Apart as') h = each_sure ws as' h
    fill_sure ws (Whole i ts e) h = sure_then (sure_any (fit_all i ts ws)) (λ u v. sure_ok _ (h, tt))

  -- ---- places

  abbrev pub IsPlace : ℕ → Place → Type 0
  IsPlace n (place.Variable x t) = IsThere P n (variable x)
  IsPlace n p = Unit {0}

  abbrev pub IsTarget : ℕ → Target → Type 0
  IsTarget n t = AreThere P n (uses_of_target t)

  pub place_stays : (s t : ℕ) → s ≤ t → (p : Place) → IsPlace s p → IsPlace t p
  place_stays s t h place.Blank a = tt
  place_stays s t h (place.Variable x u) a = use_stays P s t h (variable x) a
  place_stays s t h place.New a = tt

  pub places_stay : (s t : ℕ) → s ≤ t → (ps : List Place) → Each (IsPlace s) ps → Each (IsPlace t) ps
  places_stay s t h = each_more (IsPlace s) (IsPlace t) (place_stays s t h)

  pub target_stays : (s t : ℕ) → s ≤ t → (x : Target) → IsTarget s x → IsTarget t x
  target_stays s t h x a = there_stays P s t h (uses_of_target x) a

  pub old_there : (n : ℕ) (p : Place) → IsPlace n p → IsTarget n (old_target p)
  old_there n place.Blank h = tt
  old_there n (place.Variable x t) h = (h, tt)
  old_there n place.New h = tt

  pub olds_there : (n : ℕ) (ps : List Place) → Each (IsPlace n) ps → Each (IsTarget n) (map old_target ps)
  olds_there n [] h = tt
  olds_there n (p ∷ ps) h = (old_there n p h.0, olds_there n ps h.1)

  place_sure : (n at : ℕ) (m : Meaning) → IsMeant P n m → Sure (place_meant at m) (IsPlace n)
  place_sure n at (meaning.Variable x t) h = sure_ok _ h
  place_sure n at m h = sure_err at source.WrongType

  defined_sure : (n at : ℕ) (o : Option Meaning) → Perhaps (IsMeant P n) o → Sure (defined_meant at o) (IsPlace n)
  defined_sure n at None h = sure_ok _ tt
  defined_sure n at (Some m) h = place_sure n at m h

module _ (P : Parts) (first marks : ℕ) where
  abbrev pub Does : {A : Type 0} → ℕ → Walking A → (ℕ → A → Type 0) → Type 0
  Does n p Q = Calms P first marks n p Q

  abbrev Any : {A : Type 0} → ℕ → A → Type 0
  Any n a = Unit {0}

  pub place_named_does : (n : ℕ) (x : Name) → Does n (place_named x) (IsPlace P)
  place_named_does n x = record {
    calms = λ s r le.
        sure_then (naming.meaning_sure P (length s.declared) s.names r.known x) (λ m h.
        sure_then (place_sure P (length s.declared) x.at m h) (λ p k.
        sure_ok (p, s) (record { ready = r; slots = omega arith; lists = refl; names = around_refl s.names }, k)));
  }

  pub place_does : (n : ℕ) (t : WrittenTarget) → Does n (place_of t) (IsPlace P)
  place_does n (written.Plain x) = calm_if P first marks _ (calm_done P first marks place.Blank (λ m h. tt)) (place_named_does n x)
  place_does n (written.Member p x) =
      calm_then P first marks (calm_here P first marks {Q = IsMeant P} (λ m le names k. naming.finds_member P m names k p x)) (λ m k le h.
      calm_pure P first marks (λ j l. place_sure P j p.at m (meant_stays P k j l m h)))

  pub places_do : (n : ℕ) (ts : List WrittenTarget) → Does n (places_of ts) (λ m ps. Each (IsPlace P m) ps)
  places_do n [] = calm_done P first marks [] (λ m h. tt)
  places_do n (t ∷ ts) =
      calm_then P first marks (place_does n t) (λ p m le h.
      calm_then P first marks (places_do m ts) (λ ps k l hs.
      calm_done P first marks (p ∷ ps) (λ j i. (place_stays P m j (le_trans l i) p h, places_stay P k j i ps hs))))

  pub read_does : (n : ℕ) (p : Place) → Does n (read_at p) Any
  read_does n (place.Variable x t) = calm_here P first marks (λ m le names k. naming.finds_read P m names k x)
  read_does n place.Blank = calm_done P first marks tt (λ m h. tt)
  read_does n place.New = calm_done P first marks tt (λ m h. tt)

  drop_bound : (n k : ℕ) (bs : List Rattle.go_types.specs.declared.names.Binding.Binding) → AreBound P n bs → AreBound P n (Rattle.std.proofs.Common.drop k bs)
  drop_bound n zero bs h = h
  drop_bound n (suc k) [] h = tt
  drop_bound n (suc k) (b ∷ bs) h = drop_bound n k bs h.1

  defined_does : (n : ℕ) (x : Name) → Does n (defined_place x) (IsPlace P)
  defined_does n x = record {
    calms = λ s r le.
        let still : Calm P first marks s s = record { ready = r; slots = omega arith; lists = refl; names = around_refl s.names } in
        sure_if _ (sure_ok (place.Blank, s) (still, tt))
        (sure_then (defined_sure P (length s.declared) x.at (in_scope s x.text) (naming.last_meant P (length s.declared) x.text _ (drop_bound (length s.declared) s.scope s.names.locals r.known.locals))) (λ p k.
        sure_ok (p, s) (still, k)));
  }

  pub defineds_do : (n : ℕ) (xs : List Name) → Does n (defined_places xs) (λ m ps. Each (IsPlace P m) ps)
  defineds_do n [] = calm_done P first marks [] (λ m h. tt)
  defineds_do n (x ∷ xs) =
      calm_then P first marks (defined_does n x) (λ p m le h.
      calm_then P first marks (defineds_do m xs) (λ ps k l hs.
      calm_done P first marks (p ∷ ps) (λ j i. (place_stays P m j (le_trans l i) p h, places_stay P k j i ps hs))))

  -- ---- declarations

  named_does : (n : ℕ) (b : Bool) (x : Name) (t : ValueType) → Does n (declare_named b x t) (IsTarget P)
  named_does n true x t = calm_done P first marks target.Blank (λ m h. tt)
  named_does n false x t =
      calm_then P first marks (calm_slot P first marks n x.at) (λ v m le h.
      calm_then P first marks (calm_bind P first marks m x (meaning.Variable v t) (λ k l. use_stays P m k l (variable v) h)) (λ u k l w.
      calm_done P first marks (target.Variable v) (λ j i. (use_stays P m j (le_trans l i) (variable v) h, tt))))

  pub declare_does : (n : ℕ) (x : Name) (t : ValueType) → Does n (declare x t) (IsTarget P)
  declare_does n x t = named_does n (is_blank x.text) x t

  pub targets_stay : (s t : ℕ) → s ≤ t → (xs : List Target) → Each (IsTarget P s) xs → Each (IsTarget P t) xs
  targets_stay s t h = each_more (IsTarget P s) (IsTarget P t) (target_stays P s t h)

  pub declares_do : (n : ℕ) (xs : List Name) (ts : List ValueType) → Does n (declare_all xs ts) (λ m ys. Each (IsTarget P m) ys)
  declares_do n [] ts = calm_done P first marks [] (λ m h. tt)
  declares_do n (x ∷ xs) [] = calm_done P first marks [] (λ m h. tt)
  declares_do n (x ∷ xs) (t ∷ ts) =
      calm_then P first marks (declare_does n x t) (λ y m le h.
      calm_then P first marks (declares_do m xs ts) (λ ys k l hs.
      calm_done P first marks (y ∷ ys) (λ j i. (target_stays P m j (le_trans l i) y h, targets_stay k j i ys hs))))

  target_does : (n : ℕ) (x : Name) (p : Place) (t : ValueType) → IsPlace P n p → Does n (target_of x p t) (IsTarget P)
  target_does n x place.Blank t h = calm_done P first marks target.Blank (λ m l. tt)
  target_does n x (place.Variable v u) t h = calm_done P first marks (target.Variable v) (λ m l. (use_stays P n m l (variable v) h, tt))
  target_does n x place.New t h = declare_does n x t

  pub targets_do : (n : ℕ) (xs : List Name) (ps : List Place) (ts : List ValueType) → Each (IsPlace P n) ps → Does n (targets_defined xs ps ts) (λ m ys. Each (IsTarget P m) ys)
  targets_do n (x ∷ xs) (p ∷ ps) (t ∷ ts) h =
      calm_then P first marks (target_does n x p t h.0) (λ y m le k.
      calm_then P first marks (targets_do m xs ps ts (places_stay P n m le ps h.1)) (λ ys j l hs.
      calm_done P first marks (y ∷ ys) (λ i w. (target_stays P m i (le_trans l w) y k, targets_stay j i w ys hs))))
  targets_do n [] ps ts h = calm_done P first marks [] (λ m l. tt)
  targets_do n (x ∷ xs) [] ts h = calm_done P first marks [] (λ m l. tt)
  targets_do n (x ∷ xs) (p ∷ ps) [] h = calm_done P first marks [] (λ m l. tt)
