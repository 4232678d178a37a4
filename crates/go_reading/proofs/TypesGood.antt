-- The readers of names and types are good.
use Rattle.std.proofs.Common.{◌≡◌, ℕ, zero, suc, ◌≤◌, List, [], ◌∷◌, ◌++◌, Some, None, refl, subst, ◌∙◌, arith}
use Rattle.std.proofs.lemmas.List.{append-nil}
use Rattle.go_ast.specs.declared.span.Span.{Span}
use Rattle.go_ast.specs.declared.name.Name.{Name}
use Rattle.go_ast.specs.declared.token.TokenKind.TheVariants as kind
use Rattle.go_ast.specs.declared.expr.TypeExpr.{TypeExpr}
use Rattle.go_grammar.specs.Words.{Word}
use Rattle.go_grammar.specs.Terminals as t
use Rattle.go_grammar.specs.Trees.{name_of, plain_type, chan_type}
use Rattle.go_grammar.specs.Lists.{IsRow, one_item, more_items}
use Rattle.go_grammar.specs.Types.{IsName, name, IsNames, IsType, plain, member, channel, IsMaybeType, no_type, some_type}
use Rattle.go_grammar.specs.Exprs.{IsExpr, plain as plain', member as member'}
use Rattle.go_grammar.specs.Simple.{IsTarget, plain_target, member_target}
use Rattle.go_reading.specs.declared.fault.Fault.{Fault}
use Rattle.go_reading.specs.declared.fault.Fault.TheVariants.{TooDeep, Exhausted}
use Rattle.go_reading.specs.declared.qualified.Qualified.{Qualified}
use Rattle.go_reading.specs.Kinds.{begins_type}
use Rattle.go_reading.specs.Input.{Reader, Tall, kind_of, span_of, named_of}
use Rattle.go_reading.specs.Types.{name_item, names, qualified, type_of, expr_of, target_of, type_in, type_, maybe_type}
use Rattle.go_reading.proofs.Good.{Room, ◌⊑◌, up, Form, Good, Filled, Rises, seq, good_pure, good_far, good_limited, choice, by_test, take_then, expect_then, IsTaken, a_word, some_is, shift}
use Rattle.go_reading.proofs.Rows.{Within, within_rises, RowFrom, row_rises, row_good, some_not_none}

-- ---- names

name_item_good : (N : ℕ) (d : Room) (K : Fault → Type 0) (ts : List Word) → Good N d K (Within IsName) name_item name_item ts
name_item_good N d K ts = expect_then N d K _ kind.Name named_of _ _ ts (λ x r. good_pure N d K _ _ r (λ b db u iu. rw (iu.1, iu.3) (name iu.0 iu.2, omega arith)))

flat_name : (h : ℕ) (n : Name) (w : List Word) → IsName h n w → h ≡ 0
flat_name _ _ _ (name n k) = refl

flat_names : (h : ℕ) (ns : List Name) (w : List Word) → IsRow t.comma IsName h ns w → h ≡ 0
flat_names _ _ _ (one_item h x w i) = flat_name h x w i
flat_names _ _ _ (more_items s h h' x xs w v i k j) = let a = flat_name h x w i in let b = flat_names h' xs v j in omega arith

abbrev pub NamesOf : Form (List Name)
NamesOf b ns w = IsNames ns w

pub names_rise : Rises NamesOf
names_rise b c le x w s = s

pub names_good : (K : Fault → Type 0) → (K Exhausted → ⊥) → (n n' : ℕ) → n ≤ n' → (d : Room) (ts : List Word) → Good n d K NamesOf (names n) (names n') ts
unfolding names
names_good K never n n' len d ts =
    seq n d K (RowFrom (IsRow t.comma IsName) [] 0) NamesOf _ _ _ ts _ _ (row_rises (IsRow t.comma IsName) [] 0)
    (row_good t.comma t.comma IsName (IsRow t.comma IsName) (λ h x w i. one_item h x w i) (λ s h h' x xs w v i e j. more_items s h h' x xs w v i e j) K never n d name_item name_item (name_item_good n d K) n n' (omega arith) len [] 0 ts)
    (λ xs _ r. good_pure n d K _ _ r (λ b db u iu. rw (append-nil, iu.value) (subst (λ (h : ℕ). IsRow t.comma IsName h iu.items u) (flat_names iu.tall iu.items u iu.row) iu.row)))

-- ---- a name, or two with a point between

pub data IsQualified : Qualified → List Word → Type 0 where
  alone : (n : Word) → n.kind ≡ kind.Name → IsQualified (record { name = name_of n; member = None; end = n.span.end }) (n ∷ [])
  pair : (p d n : Word) → p.kind ≡ kind.Name → d.kind ≡ t.point → n.kind ≡ kind.Name → IsQualified (record { name = name_of p; member = Some (name_of n); end = n.span.end }) (p ∷ d ∷ n ∷ [])

pub type_qualified : (q : Qualified) (w : List Word) → IsQualified q w → IsType 1 (type_of q) w
type_qualified _ _ (alone n k) = plain n k
type_qualified _ _ (pair p d n kp kd kn) = member p d n kp kd kn

pub expr_qualified : (q : Qualified) (w : List Word) → IsQualified q w → IsExpr 7 1 (expr_of q) w
expr_qualified _ _ (alone n k) = plain' n k
expr_qualified _ _ (pair p d n kp kd kn) = member' p d n kp kd kn

pub target_qualified : (q : Qualified) (w : List Word) → IsQualified q w → IsTarget 0 (target_of q) w
target_qualified _ _ (alone n k) = plain_target n k
target_qualified _ _ (pair p d n kp kd kn) = member_target p d n kp kd kn

abbrev pub QualifiedOf : Form Qualified
QualifiedOf b q w = IsQualified q w

pub qualified_rises : Rises QualifiedOf
qualified_rises b c le x w s = s

a_pair : (x : Name × ℕ) (y : Name × ℕ) (b : Room) (u v w : List Word) → IsTaken kind.Name named_of b x u → (sp : Span) → IsTaken t.point span_of b sp v → IsTaken kind.Name named_of b y w
    → QualifiedOf b (record { name = x.0; member = Some y.0; end = y.1 }) (u ++ (v ++ (w ++ [])))
a_pair x y b u v w iu sp iv iw = rw (iu.1, iu.3, iv.1, iw.1, iw.3) (pair iu.0 iv.0 iw.0 iu.2 iv.2 iw.2)

alone_of : (x : Name × ℕ) (b : Room) (u : List Word) → IsTaken kind.Name named_of b x u → QualifiedOf b (record { name = x.0; member = None; end = x.1 }) (u ++ [])
alone_of x b u iu = rw (iu.1, iu.3) (alone iu.0 iu.2)

-- where two names are always allowed
pub qualified_one : (N : ℕ) (d : Room) (K : Fault → Type 0) (ts : List Word) → Good N d K QualifiedOf (qualified 1) (qualified 1) ts
unfolding qualified
qualified_one N d K ts = expect_then N d K _ kind.Name named_of _ _ ts (λ x r.
    choice N d K _ t.point _ _ _ _ r
    (λ here. take_then N N d K _ t.point span_of _ _ r (omega arith) here (λ sp r2.
    expect_then N d K _ kind.Name named_of _ _ r2 (λ y r3.
    good_pure N d K _ _ r3 (λ b db w iw v iv u iu. a_pair x y b u v w iu sp iv iw))))
    (λ other. good_pure N d K _ _ r (λ b db u iu. alone_of x b u iu)))

-- where they need a level
pub qualified_good : (N : ℕ) (d d' : Room) (K : Fault → Type 0) → d ⊑ d' → (K TooDeep → d.0 ≡ d'.0) → (ts : List Word) → Good N d K QualifiedOf (qualified d.0) (qualified d'.0) ts
unfolding qualified
qualified_good N d d' K led deep ts = expect_then N d K _ kind.Name named_of _ _ ts (λ x r.
    choice N d K _ t.point _ _ _ _ r
    (λ here. good_far N K _ d d' 1 _ _ r led deep (some_not_none (kind_of r) t.point here) (λ b db. (record { name = x.0; member = None; end = x.1 }, [], λ u iu. alone_of x b u iu))
    (λ p e. let y = a_word kind.Name in (d.0, record { name = x.0; member = Some (name_of y); end = y.span.end }, y ∷ [], omega arith, λ u iu. rw (iu.1, iu.3) (pair iu.0 p y iu.2 (some_is p.kind t.point (e ∙ here)) refl)))
    (λ some. take_then N N d K _ t.point span_of _ _ r (omega arith) here (λ sp r2.
    expect_then N d K _ kind.Name named_of _ _ r2 (λ y r3.
    good_pure N d K _ _ r3 (λ b db w iw v iv u iu. a_pair x y b u v w iu sp iv iw)))))
    (λ other. good_pure N d K _ _ r (λ b db u iu. alone_of x b u iu)))

-- ---- types

abbrev pub TypeOf : Form (Tall TypeExpr)
TypeOf = Within IsType

pub a_type : TypeExpr
a_type = plain_type (a_word kind.Name)

pub is_a_type : IsType 1 a_type (a_word kind.Name ∷ [])
unfolding a_type
is_a_type = plain (a_word kind.Name) refl

pub filled_type : (b : Room) → 1 ≤ b.0 → Filled b TypeOf
filled_type b some = ((a_type, 1), a_word kind.Name ∷ [], (is_a_type, some))

module _ (K : Fault → Type 0) (N : ℕ) (d d' : Room) (led : d ⊑ d') (deep : K TooDeep → d.0 ≡ d'.0) (of of' : Reader (Tall TypeExpr)) (of_good : 1 ≤ d.0 → (ts : List Word) → Good N d K TypeOf of of' ts) where
  type_in_good : (ts : List Word) → Good N d K (λ b. TypeOf (up b)) (type_in d.0 of) (type_in d'.0 of') ts
  unfolding type_in
  type_in_good ts = choice N d K _ t.chan_word _ _ _ _ ts
      (λ here. good_limited N K _ d d' 1 _ _ ts led deep (some_not_none (kind_of ts) t.chan_word here) (λ b db. filled_type (up b) (omega arith))
      (λ c dc some p e. ((chan_type p a_type, 2), a_word kind.Name ∷ [], (channel p 1 a_type (a_word kind.Name ∷ []) (some_is p.kind t.chan_word (e ∙ here)) is_a_type, omega arith)))
      (λ some. take_then N N d K _ t.chan_word span_of _ _ ts (omega arith) here (λ sp r.
      seq N d K TypeOf _ of' _ _ r _ _ (within_rises IsType) (of_good some r) (λ x _ r2.
      good_pure N d K _ _ r2 (λ b db u iu v iv. rw (append-nil, iv.1, iv.3) (channel iv.0 x.1 x.0 u iv.2 iu.0, let f = iu.1 in omega arith))))))
      (λ other. seq N d K QualifiedOf _ (qualified 1) _ _ ts _ _ qualified_rises (qualified_one N d K ts) (λ q _ r.
      good_pure N d K _ _ r (λ b db u iu. rw append-nil (type_qualified q u iu, omega arith))))

pub type_good : (K : Fault → Type 0) (N : ℕ) (d d' m m' : ℕ) → (d, m) ⊑ (d', m') → (K TooDeep → d ≡ d') → 1 ≤ d → (ts : List Word) → Good N (d, m) K TypeOf (type_ d) (type_ d') ts
unfolding type_
type_good K N zero d' m m' led deep some ts = absurd (omega arith)
type_good K N (suc d) zero m m' led deep some ts = let l : suc d ≤ 0 = led.0 in absurd (omega arith)
type_good K N (suc d) (suc d') m m' led deep some ts =
    let less : (d, m) ⊑ (d', m') = (let l : suc d ≤ suc d' = led.0 in omega arith, led.1) in
    let eq : K TooDeep → d ≡ d' = λ s. let f : suc d ≡ suc d' = deep s in omega arith in
    shift N (d, m) K TypeOf _ ts _ _ (type_in_good K N (d, m) (d', m') less eq (type_ d) (type_ d') (λ so ts'. type_good K N d d' m m' less eq so ts') ts)

pub maybe_type_good : (K : Fault → Type 0) (N : ℕ) (d d' : Room) → d ⊑ d' → (K TooDeep → d.0 ≡ d'.0) → 1 ≤ d.0 → (ts : List Word) → Good N d K (Within IsMaybeType) (maybe_type d.0) (maybe_type d'.0) ts
unfolding maybe_type
maybe_type_good K N d d' led deep some ts = by_test N d K _ begins_type _ _ _ _ ts
    (λ here. seq N d K TypeOf _ (type_ d'.0) _ _ ts _ _ (within_rises IsType) (type_good K N d.0 d'.0 d.1 d'.1 led deep some ts) (λ x _ r.
    good_pure N d K _ _ r (λ b db u iu. rw append-nil (some_type x.1 x.0 u iu.0, iu.1))))
    (λ other. good_pure N d K _ _ ts (λ b db. (no_type, omega arith)))
