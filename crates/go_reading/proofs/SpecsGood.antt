-- The readers of constants and variables are good.
use Rattle.std.proofs.Common.{◌≡◌, ℕ, ◌≤◌, max, List, [], ◌∷◌, ◌++◌, Option, Some, None, refl, subst, arith}
use Rattle.std.proofs.lemmas.List.{append-nil}
use Rattle.go_ast.specs.declared.span.Span.{Span}
use Rattle.go_ast.specs.declared.name.Name.{Name}
use Rattle.go_ast.specs.declared.token.TokenKind.TheVariants as kind
use Rattle.go_ast.specs.declared.expr.TypeExpr.{TypeExpr}
use Rattle.go_ast.specs.declared.expr.Expr.{Expr}
use Rattle.go_ast.specs.declared.block.VarSpec.{VarSpec}
use Rattle.go_grammar.specs.Words.{Word}
use Rattle.go_grammar.specs.Terminals as t
use Rattle.go_grammar.specs.Trees.{name_of, const_end, var_end}
use Rattle.go_grammar.specs.Lists.{one_item}
use Rattle.go_grammar.specs.Types.{name, IsNames, IsMaybeType, no_type, some_type}
use Rattle.go_grammar.specs.Exprs.{IsExprs}
use Rattle.go_grammar.specs.Simple.{IsConstSpec, const_spec as const_spec', IsVarSpec, typed_var, valued_var}
use Rattle.go_reading.specs.declared.fault.Fault.{Fault}
use Rattle.go_reading.specs.declared.fault.Fault.TheVariants.{TooDeep, Exhausted}
use Rattle.go_reading.specs.Input.{Tall, span_of, named_of}
use Rattle.go_reading.specs.Types.{names, maybe_type}
use Rattle.go_reading.specs.Exprs.{expr, exprs}
use Rattle.go_reading.specs.Specs.{const_spec, consts, values_of, values_by, var_spec, vars}
use Rattle.go_reading.proofs.Good.{Room, ◌⊑◌, Form, Good, seq, weaker, good_pure, choice, expect_then, IsTaken, a_word}
use Rattle.go_reading.proofs.Rows.{Within, within_rises, GroupOf, Begun, group_good}
use Rattle.go_reading.proofs.TypesGood.{NamesOf, names_rise, names_good, maybe_type_good, a_type, is_a_type}
use Rattle.go_reading.proofs.ExprsGood.{ExprOf, expr_rises, expr_good, ExprsOf, exprs_good, an_expr, is_an_expr}

-- the shortest that begin with a name
pub begun_const : Begun IsConstSpec kind.Name
begun_const n k = ((record { name = name_of n; kind = None; value = an_expr }, max 0 1), a_word t.assign ∷ a_word kind.Name ∷ [], const_spec' n (a_word t.assign) 7 0 1 None an_expr [] (a_word kind.Name ∷ []) k no_type refl is_an_expr)

pub begun_var : Begun IsVarSpec kind.Name
begun_var n k = ((record { names = name_of n ∷ []; kind = Some a_type; values = [] }, 1), a_word kind.Name ∷ [], typed_var 1 (name_of n ∷ []) a_type (n ∷ []) (a_word kind.Name ∷ []) (one_item 0 (name_of n) (n ∷ []) (name n k)) is_a_type)

-- behind names and a type
abbrev pub ValuesOf : List Name → Tall (Option TypeExpr) → Form (Tall VarSpec)
ValuesOf ns of b y w = (u v : List Word) → IsNames ns u → Within IsMaybeType b of v → Within IsVarSpec b y (u ++ (v ++ w))

is_const : (b : Room) (x : Name × ℕ) (of : Tall (Option TypeExpr)) (y : Tall Expr) (sp : Span) (u v w z : List Word) → IsTaken kind.Name named_of b x u → Within IsMaybeType b of v → IsTaken t.assign span_of b sp w → ExprOf 1 b y z
    → Within IsConstSpec b (record { name = x.0; kind = of.0; value = y.0 }, max of.1 y.1) (u ++ (v ++ (w ++ (z ++ []))))
is_const b x of y sp u v w z iu iv iw iz =
    let f = iv.1 in
    let g = iz.fits in
    rw (append-nil, iu.1, iu.3, iw.1) (const_spec' iu.0 iw.0 iz.level_of of.1 y.1 of.0 y.0 v z iu.2 iv.0 iw.2 iz.spells, omega arith)

are_values : (b : Room) (ns : List Name) (of : Tall (Option TypeExpr)) (xs : Tall (List Expr)) (sp : Span) (v w : List Word) → IsTaken t.assign span_of b sp v → ExprsOf b xs w
    → ValuesOf ns of b (record { names = ns; kind = of.0; values = xs.0 }, max of.1 xs.1) (v ++ (w ++ []))
are_values b ns of xs sp v w iv iw =
    λ z y iz iy.
    let f = iy.1 in
    let g = iw.1 in
    rw (append-nil, iv.1) (valued_var iv.0 of.1 xs.1 ns of.0 xs.0 z y w iz iy.0 iv.2 iw.0, omega arith)

abbrev some_type_of : TypeExpr → Option TypeExpr
some_type_of k = Some k

type_is : (a b : TypeExpr) → some_type_of a ≡ some_type_of b → a ≡ b
type_is a b e = cc

typed_at : (ns : List Name) (o : Option TypeExpr) (k : ℕ) (u v : List Word) → IsNames ns u → IsMaybeType k o v → (of : TypeExpr) → o ≡ Some of → IsVarSpec k (record { names = ns; kind = Some of; values = [] }) (u ++ v)
typed_at ns _ _ u _ iu no_type of e = absurd cc
typed_at ns _ _ u _ iu (some_type h of w i) of' e = let s : of ≡ of' = type_is of of' e in subst (λ (x : TypeExpr). IsVarSpec h (record { names = ns; kind = Some x; values = [] }) (u ++ w)) s (typed_var h ns of u w iu i)

typed : (ns : List Name) (of : TypeExpr) (k : ℕ) (u v : List Word) → IsNames ns u → IsMaybeType k (Some of) v → IsVarSpec k (record { names = ns; kind = Some of; values = [] }) (u ++ v)
typed ns of k u v iu i = typed_at ns (Some of) k u v iu i of refl

module _ (K : Fault → Type 0) (never : K Exhausted → ⊥) (n n' : ℕ) (len : n ≤ n') (d d' : Room) (led : d ⊑ d') (deep : K TooDeep → d.0 ≡ d'.0) where
  const_spec_good : 1 ≤ d.0 → (ts : List Word) → Good n d K (Within IsConstSpec) (const_spec n d.0) (const_spec n' d'.0) ts
  unfolding const_spec
  const_spec_good some ts = expect_then n d K _ kind.Name named_of _ _ ts (λ x r.
      seq n d K (Within IsMaybeType) _ (maybe_type d'.0) _ _ r _ _ (within_rises IsMaybeType) (maybe_type_good K n d d' led deep some r) (λ of _ r2.
      expect_then n d K _ t.assign span_of _ _ r2 (λ sp r3.
      seq n d K (ExprOf 1) _ (expr n' d'.0 1) _ _ r3 _ _ (expr_rises 1) (expr_good K never n n' len d.0 d'.0 d.1 d'.1 led deep some 1 (omega arith) r3) (λ y _ r4.
      good_pure n d K _ _ r4 (λ b db z iz w iw v iv u iu. is_const b x of y sp u v w z iu iv iw iz)))))

  pub consts_good : (ts : List Word) → Good n d K (GroupOf IsConstSpec const_end) (consts n d.0) (consts n' d'.0) ts
  unfolding consts
  consts_good ts = group_good IsConstSpec const_end kind.Name begun_const K never n n' len d d' led deep (const_spec n d.0) (const_spec n' d'.0) const_spec_good ts

  values_of_good : 1 ≤ d.0 → (ns : List Name) (of : Tall (Option TypeExpr)) (ts : List Word) → Good n d K (ValuesOf ns of) (values_of n d.0 ns of) (values_of n' d'.0 ns of) ts
  unfolding values_of
  values_of_good some ns of ts = expect_then n d K _ t.assign span_of _ _ ts (λ sp r.
      seq n d K ExprsOf _ (exprs n' d'.0) _ _ r _ _ (within_rises IsExprs) (exprs_good K never n n' len d d' led deep some r) (λ xs _ r2.
      good_pure n d K _ _ r2 (λ b db w iw v iv. are_values b ns of xs sp v w iv iw)))

  values_by_good : 1 ≤ d.0 → (ns : List Name) (of : Option TypeExpr) (h : ℕ) (ts : List Word) → Good n d K (ValuesOf ns (of, h)) (values_by n d.0 ns of h) (values_by n' d'.0 ns of h) ts
  values_by_good some ns None h ts = values_of_good some ns (None, h) ts
  values_by_good some ns (Some of) h ts = choice n d K _ t.assign _ _ _ _ ts
      (λ here. values_of_good some ns (Some of, h) ts)
      (λ other. good_pure n d K _ _ ts (λ b db u v iu iv. rw append-nil (typed ns of h u v iu iv.0, iv.1)))

  var_spec_good : 1 ≤ d.0 → (ts : List Word) → Good n d K (Within IsVarSpec) (var_spec n d.0) (var_spec n' d'.0) ts
  unfolding var_spec
  var_spec_good some ts =
      seq n d K NamesOf _ (names n') _ _ ts _ _ names_rise (names_good K never n n' len d ts) (λ ns _ r.
      seq n d K (Within IsMaybeType) _ (maybe_type d'.0) _ _ r _ _ (within_rises IsMaybeType) (maybe_type_good K n d d' led deep some r) (λ of _ r2.
      weaker n d K (ValuesOf ns of) _ _ _ _ _ (λ b db y w a v iv u iu. a u v iu iv) (values_by_good some ns of.0 of.1 r2)))

  pub vars_good : (ts : List Word) → Good n d K (GroupOf IsVarSpec var_end) (vars n d.0) (vars n' d'.0) ts
  unfolding vars
  vars_good ts = group_good IsVarSpec var_end kind.Name begun_var K never n n' len d d' led deep (var_spec n d.0) (var_spec n' d'.0) var_spec_good ts
