-- What an expression at the front of a statement is part of: its reader is good.
use Rattle.std.proofs.Common.{◌≡◌, ◌≢◌, ◌⊎◌, inl, inr, ℕ, zero, suc, ◌+◌, ◌≤◌, max, Bool, true, false, List, [], ◌∷◌, ◌++◌, Option, Some, None, refl, sym, ap, subst, ◌∙◌, append_assoc, arith, nat_lt, if◌then◌else◌}
use Rattle.std.proofs.lemmas.List.{append-nil}
use Rattle.std.proofs.lemmas.Bool.{ltb-false, le-ltb}
use Rattle.go_ast.specs.declared.name.Name.{Name}
use Rattle.go_ast.specs.declared.token.TokenKind.{TokenKind}
use Rattle.go_ast.specs.declared.token.TokenKind.TheVariants as kind
use Rattle.go_ast.specs.declared.expr.Expr.{Expr}
use Rattle.go_ast.specs.declared.expr.ExprForm.{out-ExprForm}
use Rattle.go_ast.specs.declared.expr.BinaryOp.{BinaryOp}
use Rattle.go_ast.specs.declared.block.Target.{Target}
use Rattle.go_ast.specs.declared.block.Target.TheVariants as target
use Rattle.go_ast.specs.declared.block.Stmt.{Stmt}
use Rattle.go_ast.specs.declared.block.StmtForm.TheVariants as statement
use Rattle.go_grammar.specs.Words.{Word}
use Rattle.go_grammar.specs.Terminals as t
use Rattle.go_grammar.specs.Trees.{name_of, expr_node, expr_start, expr_end, exprs_end, stmt_node, target_start, targets_start, names_start, update_kind}
use Rattle.go_grammar.specs.Lists.{IsRow, one_item, more_items}
use Rattle.go_grammar.specs.Types.{IsName, name, IsNames}
use Rattle.go_grammar.specs.Exprs.{IsExpr, int, rune, text, plain, member, channel, parens, called, indexed, cut, signed, operated, IsExprs, one_expr}
use Rattle.go_grammar.specs.Simple.{IsTarget, plain_target, member_target, IsTargets, IsSimple, sent as sent', raised, lowered, updated as updated', assigned as assigned', defined as defined'}
use Rattle.go_grammar.specs.Blocks.{IsRangeNames, range_names}
use Rattle.go_reading.specs.declared.fault.Fault.{Fault}
use Rattle.go_reading.specs.declared.fault.Fault.TheVariants.{TooDeep, Exhausted}
use Rattle.go_reading.specs.declared.qualified.Qualified.{Qualified}
use Rattle.go_reading.specs.declared.sign.Sign.{Sign}
use Rattle.go_reading.specs.declared.sign.Sign.TheVariants as s
use Rattle.go_reading.specs.declared.lead.Lead.{Lead}
use Rattle.go_reading.specs.declared.lead.Lead.TheVariants as l
use Rattle.go_reading.specs.Kinds.{is, begins, sign_of}
use Rattle.go_reading.specs.Input.{Reader, Tall, ◌>>=◌, ◌>>◌, pure, fail, refuse, kind_of, take_span, span_of, named_of, limited}
use Rattle.go_reading.specs.Types.{qualified, target_of as target_of_qualified}
use Rattle.go_reading.specs.Exprs.{expr, exprs}
use Rattle.go_reading.specs.Simple.{target_of, plain_of, plains_by, plains_of, next_target, assigned, defined_by, updated, sent, defined, defined_if, given, targets_from, comma_by, by_target, target_by_sign, by_sign, lead}
use Rattle.go_reading.proofs.Good.{Room, ◌⊑◌, room, up, Form, At, Good, Filled, Rises, Rest, seq, weaker, fewer, good_pure, good_refuse, good_exhausted, good_if, peeked, choice, by_test, take_then, expect_then, a_word, some_is, shift}
use Rattle.go_reading.proofs.Tables.{SignOf, sign_sound}
use Rattle.go_reading.proofs.Rows.{some_not_none}
use Rattle.go_reading.proofs.TypesGood.{IsQualified, alone, pair, target_qualified}
use Rattle.go_reading.proofs.ExprsGood.{ExprOf, AnyExpr, ExprsOf, expr_good, exprs_good, an_expr, is_an_expr}
use Rattle.go_reading.proofs.Begun.{begun_expr, begins_some}

-- ---- a limit of its own

limit_at : {A : Type 0} (N : ℕ) (K : Fault → Type 0) (R : Form A) (d : Room) (c c' h : ℕ) (p q : Reader A) (ts : List Word) (b : Bool) → nat_lt c h ≡ b → c ≤ c' → (K TooDeep → c ≡ c') → kind_of ts ≢ None
    → ((e : Room) → d ⊑ e → Filled e R) → ((a : Word) → Some a.kind ≡ kind_of ts → (k : ℕ) × (y : A) × (w : List Word) × (d.0 ≤ k) × R (k, d.1) y (a ∷ w)) → (h ≤ c → Good N d K R p q ts)
    → At N d K R (limited c' h q) ts ((if b then fail TooDeep else p) ts).0 ((if b then fail TooDeep else p) ts).1
limit_at N K R d c c' h p q [] true e le deep some fill goes a = absurd (some refl)
limit_at N K R d c c' h p q (x ∷ ts) true e le deep some fill goes a =
    let m = fill d (room d) in
    let far = goes x refl in
    record {
      front = [];
      cut = refl;
      same = λ s r k. let e' : nat_lt c' h ≡ true = subst (λ (n : ℕ). nat_lt n h ≡ true) (deep s) e in rw e' refl;
      means = (m.1, m.0, m.2, (far.0, x, far.2, ts, far.1, far.3, refl, far.4));
      filled = fill;
      enough = λ lt x. cc;
    }
limit_at N K R d c c' h p q ts false e le deep some fill goes a =
    let small : h ≤ c = ltb-false c h e in
    let e' : nat_lt c' h ≡ false = le-ltb c' h (omega arith) in
    rw e' (a small)

-- the levels that are needed are asked of another number than the room's
pub good_limit : {A : Type 0} (N : ℕ) (K : Fault → Type 0) (R : Form A) (d : Room) (c c' h : ℕ) (p q : Reader A) (ts : List Word) → c ≤ c' → (K TooDeep → c ≡ c') → kind_of ts ≢ None
    → ((e : Room) → d ⊑ e → Filled e R) → ((a : Word) → Some a.kind ≡ kind_of ts → (k : ℕ) × (y : A) × (w : List Word) × (d.0 ≤ k) × R (k, d.1) y (a ∷ w)) → (h ≤ c → Good N d K R p q ts)
    → Good N d K R (limited c h p) (limited c' h q) ts
good_limit N K R d c c' h p q ts le deep some fill goes a = limit_at N K R d c c' h p q ts (nat_lt c h) refl le deep some fill goes a

-- ---- children of a statement

-- a value a level below the room
abbrev pub Under : {A : Type 0} → (ℕ → A → List Word → Type 0) → Form (Tall A)
Under Item b x w = Item x.1 x.0 w × (suc x.1 ≤ b.0)

pub under_rises : {A : Type 0} (Item : ℕ → A → List Word → Type 0) → Rises (Under Item)
under_rises Item b c le x w s = (s.0, let f = s.1 in let l = le.0 in omega arith)

pub expr_under : (K : Fault → Type 0) (never : K Exhausted → ⊥) (n n' : ℕ) → n ≤ n' → (c c' m m' : ℕ) → (c, m) ⊑ (c', m') → (K TooDeep → c ≡ c') → 1 ≤ c → (ts : List Word) → Good n (suc c, m) K (Under AnyExpr) (expr n c 1) (expr n' c' 1) ts
expr_under K never n n' len c c' m m' led deep some ts = shift n (c, m) K (Under AnyExpr) _ ts _ _
    (weaker n (c, m) K (ExprOf 1) (λ b. Under AnyExpr (up b)) _ _ _ _ (λ b db x w i. ((i.level_of, i.spells), let f = i.fits in omega arith)) (expr_good K never n n' len c c' m m' led deep some 1 (omega arith) ts))

pub exprs_under : (K : Fault → Type 0) (never : K Exhausted → ⊥) (n n' : ℕ) → n ≤ n' → (c c' m m' : ℕ) → (c, m) ⊑ (c', m') → (K TooDeep → c ≡ c') → 1 ≤ c → (ts : List Word) → Good n (suc c, m) K (Under IsExprs) (exprs n c) (exprs n' c') ts
exprs_under K never n n' len c c' m m' led deep some ts = shift n (c, m) K (Under IsExprs) _ ts _ _
    (weaker n (c, m) K ExprsOf (λ b. Under IsExprs (up b)) _ _ _ _ (λ b db x w i. (i.0, let f = i.1 in omega arith)) (exprs_good K never n n' len (c, m) (c', m') led deep some ts))

-- ---- targets

abbrev some_target : Target → Option Target
some_target g = Some g

target_is : (a b : Target) → some_target a ≡ some_target b → a ≡ b
target_is a b e = cc

-- an expression that is a target is spelled as it is
pub target_spelled : (l h : ℕ) (e : Expr) (w : List Word) → IsExpr l h e w → (g : Target) → target_of e ≡ Some g → IsTarget 0 g w
unfolding expr_node out-ExprForm denote.Hole.Carrier.out
target_spelled _ _ _ _ (int n k) g e = absurd cc
target_spelled _ _ _ _ (rune n k) g e = absurd cc
target_spelled _ _ _ _ (text n k) g e = absurd cc
target_spelled _ _ _ _ (plain n k) g e = let i : target.Plain (name_of n) ≡ g = target_is _ _ e in subst (λ (x : Target). IsTarget 0 x (n ∷ [])) i (plain_target n k)
target_spelled _ _ _ _ (member p d n kp kd kn) g e = let i : target.Member (name_of p) (name_of n) ≡ g = target_is _ _ e in subst (λ (x : Target). IsTarget 0 x (p ∷ d ∷ n ∷ [])) i (member_target p d n kp kd kn)
target_spelled _ _ _ _ (channel c h of w k i) g e = absurd cc
target_spelled _ _ _ _ (parens a b l h x w ka i kb) g e = absurd cc
target_spelled _ _ _ _ (called a b h h' x es w v i ka j kb) g e = absurd cc
target_spelled _ _ _ _ (indexed a b l h h' x y w v i ka j kb) g e = absurd cc
target_spelled _ _ _ _ (cut a c b h i j x low high w u v y ka z kc q kb) g e = absurd cc
target_spelled _ _ _ _ (signed a op l h x w ka i le) g e = absurd cc
target_spelled _ _ _ _ (operated o op l l' h h' a b w v i le k j lt) g e = absurd cc

row_snoc : (h : ℕ) (gs : List Target) (z : List Word) → IsRow t.comma IsTarget h gs z → (a : Word) (g : Target) (u : List Word) → a.kind ≡ t.comma → IsTarget 0 g u → IsRow t.comma IsTarget (max h 0) (gs ++ g ∷ []) (z ++ a ∷ u)
row_snoc _ _ _ (one_item h x w i) a g u k j = more_items a h 0 x (g ∷ []) w u i k (one_item 0 g u j)
row_snoc _ _ _ (more_items b h h' x xs w v i e r) a g u k j =
    let m : max h (max h' 0) ≡ max (max h h') 0 = omega arith in
    rw append_assoc (subst (λ (q : ℕ). IsRow t.comma IsTarget q (x ∷ (xs ++ g ∷ [])) (w ++ b ∷ (v ++ a ∷ u))) m (more_items b h (max h' 0) x (xs ++ g ∷ []) w (v ++ a ∷ u) i e (row_snoc h' xs v r a g u k j)))

pub targets_snoc : (gs : List Target) (z : List Word) → IsTargets gs z → (a : Word) (g : Target) (u : List Word) → a.kind ≡ t.comma → IsTarget 0 g u → IsTargets (gs ++ g ∷ []) (z ++ a ∷ u)
targets_snoc gs z i a g u k j = row_snoc 0 gs z i a g u k j

abbrev some_names : List Name → Option (List Name)
some_names ns = Some ns

names_are : (a b : List Name) → some_names a ≡ some_names b → a ≡ b
names_are a b e = cc

abbrev some_name : Name → Option Name
some_name n = Some n

name_is : (a b : Name) → some_name a ≡ some_name b → a ≡ b
name_is a b e = cc

-- a target with a plain name is a name
plain_name : (h : ℕ) (g : Target) (u : List Word) → IsTarget h g u → (nm : Name) → plain_of g ≡ Some nm → IsName h nm u
plain_name _ _ _ (plain_target n k) nm e = let i : name_of n ≡ nm = name_is _ _ e in subst (λ (x : Name). IsName 0 x (n ∷ [])) i (name n k)
plain_name _ _ _ (member_target p d n kp kd kn) nm e = absurd cc

-- the names of a longer list
with_some : (o : Option Name) (r : Option (List Name)) (ns : List Name) → plains_by o r ≡ Some ns → (nm : Name) × (ms : List Name) × (o ≡ Some nm) × (r ≡ Some ms) × (ns ≡ nm ∷ ms)
with_some None r ns e = absurd cc
with_some (Some nm) None ns e = absurd cc
with_some (Some nm) (Some ms) ns e = (nm, ms, refl, refl, sym (names_are (nm ∷ ms) ns e))

row_names : (h : ℕ) (gs : List Target) (w : List Word) → IsRow t.comma IsTarget h gs w → (ns : List Name) → plains_of gs ≡ Some ns → IsRow t.comma IsName h ns w
row_names _ _ _ (one_item h x w i) ns e =
    let p = with_some (plain_of x) (Some []) ns e in
    let last : p.1 ≡ [] = names_are p.1 [] (sym p.3) in
    rw (p.4, last) (one_item h p.0 w (plain_name h x w i p.0 p.2))
row_names _ _ _ (more_items a h h' x xs w v i k r) ns e =
    let p = with_some (plain_of x) (plains_of xs) ns e in
    rw p.4 (more_items a h h' p.0 p.1 w v (plain_name h x w i p.0 p.2) k (row_names h' xs v r p.1 p.3))

-- targets that are all names are names
pub targets_names : (gs : List Target) (w : List Word) → IsTargets gs w → (ns : List Name) → plains_of gs ≡ Some ns → IsNames ns w
targets_names gs w i ns e = row_names 0 gs w i ns e

plains_snoc : (gs : List Target) (ns : List Name) (g : Target) (nm : Name) → plains_of gs ≡ Some ns → plain_of g ≡ Some nm → plains_of (gs ++ g ∷ []) ≡ Some (ns ++ nm ∷ [])
plains_snoc [] ns g nm e f = let last : [] ≡ ns = names_are [] ns e in rw (f, sym last) refl
plains_snoc (x ∷ xs) ns g nm e f =
    let p = with_some (plain_of x) (plains_of xs) ns e in
    go p.0 p.1 p.2 p.4 (plains_snoc xs p.1 g nm p.3 f)
  where
    go : (a : Name) (as' : List Name) → plain_of x ≡ Some a → ns ≡ a ∷ as' → plains_of (xs ++ g ∷ []) ≡ Some (as' ++ nm ∷ []) → plains_of (x ∷ xs ++ g ∷ []) ≡ Some (ns ++ nm ∷ [])
    go a as' p i r = rw (p, r, i) refl

-- ---- forms

-- what an expression at the front of a statement is part of; L says how high it may be that is no more than itself
abbrev pub LeadIs : Form (Tall Expr) → Bool → Form (Tall Lead)
LeadIs L ranges b (l.Expr e, h) w = L b (e, h) w
LeadIs L ranges b (l.Stmt x, h) w = IsSimple h x w × (h ≤ b.0)
LeadIs L ranges b (l.Range ns, h) w = (ranges ≡ true) × (h ≡ 0) × IsRangeNames ns w

pub lead_rises : (L : Form (Tall Expr)) (ranges : Bool) → Rises L → Rises (LeadIs L ranges)
lead_rises L ranges rises b c le (l.Expr e, h) w s = rises b c le (e, h) w s
lead_rises L ranges rises b c le (l.Stmt x, h) w s = (s.0, let f = s.1 in let l = le.0 in omega arith)
lead_rises L ranges rises b c le (l.Range ns, h) w s = s

-- a further target
abbrev NextOf : Form Target
NextOf b g w = IsTarget 0 g w × ((2 ≤ b.0) ⊎ ((nm : Name) × (plain_of g ≡ Some nm)))

next_rises : Rises NextOf
next_rises b c le g w s = (s.0, go s.1)
  where
    go : ((2 ≤ b.0) ⊎ ((nm : Name) × (plain_of g ≡ Some nm))) → (2 ≤ c.0) ⊎ ((nm : Name) × (plain_of g ≡ Some nm))
    go (inl e) = inl (let l = le.0 in omega arith)
    go (inr e) = inr e

abbrev NextQualified : Form Qualified
NextQualified b q w = IsQualified q w × ((2 ≤ b.0) ⊎ (q.member ≡ None))

next_qualified_rises : Rises NextQualified
next_qualified_rises b c le q w s = (s.0, go s.1)
  where
    go : ((2 ≤ b.0) ⊎ (q.member ≡ None)) → (2 ≤ c.0) ⊎ (q.member ≡ None)
    go (inl e) = inl (let l = le.0 in omega arith)
    go (inr e) = inr e

next_is : (b : Room) (q : Qualified) (w : List Word) → NextQualified b q w → NextOf b (target_of_qualified q) w
next_is b q w s = (target_qualified q w s.0, go s.1)
  where
    go : ((2 ≤ b.0) ⊎ (q.member ≡ None)) → (2 ≤ b.0) ⊎ ((nm : Name) × (plain_of (target_of_qualified q) ≡ Some nm))
    go (inl e) = inl e
    go (inr e) = inr (q.name, rw e refl)

pub seen : (k wanted : TokenKind) (o : Option TokenKind) → o ≡ Some k → k ≡ wanted → o ≡ Some wanted
seen k wanted o e i = e ∙ ap (λ (z : TokenKind). Some z) i

module _ (L : Form (Tall Expr)) (ranges : Bool) where
  -- there is a level for what is assigned, or the targets are names that a range may set
  abbrev Fits : Room → List Target → Type 0
  Fits b gs = (2 ≤ b.0) ⊎ ((ranges ≡ true) × ((ns : List Name) × (plains_of gs ≡ Some ns)))

  fits_rise : (b d : Room) → b ⊑ d → (gs : List Target) → Fits b gs → Fits d gs
  fits_rise b d le gs (inl e) = inl (let l = le.0 in omega arith)
  fits_rise b d le gs (inr e) = inr e

  -- behind targets
  abbrev Plainly : List Target → Form (Tall Lead)
  Plainly gs b y w = (u : List Word) → IsTargets gs u → LeadIs L ranges b y (u ++ w)

  abbrev Behind : List Target → Form (Tall Lead)
  Behind gs b y w = (u : List Word) → IsTargets gs u → Fits b gs → LeadIs L ranges b y (u ++ w)

  -- behind targets and a comma
  abbrev BehindComma : List Target → Form (Tall Lead)
  BehindComma gs b y w = (u : List Word) (a : Word) → IsTargets gs u → a.kind ≡ t.comma → Fits b gs → LeadIs L ranges b y (u ++ a ∷ w)

  fits_snoc : (b : Room) (gs : List Target) (g : Target) → Fits b gs → ((2 ≤ b.0) ⊎ ((nm : Name) × (plain_of g ≡ Some nm))) → Fits b (gs ++ g ∷ [])
  fits_snoc b gs g (inl e) f = inl e
  fits_snoc b gs g (inr e) (inl f) = inl f
  fits_snoc b gs g (inr e) (inr f) = inr (e.0, (e.1.0 ++ f.0 ∷ [], plains_snoc gs e.1.0 g f.0 e.1.1 f.1))

  -- the shortest that go on
  an_assignment : (gs : List Target) → Stmt
  an_assignment gs = stmt_node (targets_start gs) (exprs_end 0 (an_expr ∷ [])) (statement.Assign gs (an_expr ∷ []))

  is_an_assignment : (gs : List Target) (u : List Word) (a : Word) → IsTargets gs u → a.kind ≡ t.assign → IsSimple 2 (an_assignment gs) (u ++ a ∷ a_word kind.Name ∷ [])
  unfolding an_assignment
  is_an_assignment gs u a iu k = assigned' a 1 gs (an_expr ∷ []) u (a_word kind.Name ∷ []) iu k (one_expr 7 1 an_expr (a_word kind.Name ∷ []) is_an_expr)

  assigns : (gs : List Target) (b : Room) → 2 ≤ b.0 → (a : Word) → a.kind ≡ t.assign → Plainly gs b (l.Stmt (an_assignment gs), 2) (a ∷ a_word kind.Name ∷ [])
  assigns gs b two a k = λ u iu. (is_an_assignment gs u a iu k, two)

  names_range : (gs : List Target) (ns : List Name) → plains_of gs ≡ Some ns → ranges ≡ true → (b : Room) (a : Word) → a.kind ≡ t.define → Plainly gs b (l.Range ns, 0) (a ∷ [])
  names_range gs ns e r b a k = λ u iu. (r, refl, range_names a ns u (targets_names gs u iu ns e) k)

  fill_low : (gs : List Target) (b : Room) → (2 ≤ b.0 → ⊥) → (o : Option (List Name)) → plains_of gs ≡ o → Filled b (Behind gs)
  fill_low gs b low (Some ns) e = ((l.Range ns, 0), a_word t.define ∷ [], λ u iu fit. names_range gs ns e (is_ranges fit) b (a_word t.define) refl u iu)
    where
      is_ranges : Fits b gs → ranges ≡ true
      is_ranges (inl two) = absurd (low two)
      is_ranges (inr f) = f.0
  fill_low gs b low None e = ((l.Range [], 0), [], λ u iu fit. absurd (never fit))
    where
      never : Fits b gs → ⊥
      never (inl two) = low two
      never (inr f) = let g : plains_of gs ≡ Some f.1.0 = f.1.1 in cc

  fill_behind : (gs : List Target) (b : Room) → Filled b (Behind gs)
  fill_behind gs (zero, m) = fill_low gs (zero, m) (λ x. omega arith) (plains_of gs) refl
  fill_behind gs (suc zero, m) = fill_low gs (suc zero, m) (λ x. omega arith) (plains_of gs) refl
  fill_behind gs (suc (suc b), m) = ((l.Stmt (an_assignment gs), 2), a_word t.assign ∷ a_word kind.Name ∷ [], λ u iu fit. assigns gs (suc (suc b), m) (omega arith) (a_word t.assign) refl u iu)

  -- from behind a comma to behind the next target
  after_next : (found : List Target) (g : Target) (b : Room) (y : Tall Lead) (w : List Word) → Behind (found ++ g ∷ []) b y w → Rest NextOf (BehindComma found) g b y w
  after_next found g b y w f = λ u iu z a iz ka fit. rw append_assoc at (f (z ++ a ∷ u) (targets_snoc found z iz a g u ka iu.0) (fits_snoc b found g fit iu.1))

  fill_comma : (found : List Target) (b : Room) → Filled b (BehindComma found)
  fill_comma found b =
      let g = target.Plain (name_of (a_word kind.Name)) in
      let f = fill_behind (found ++ g ∷ []) b in
      (f.0, a_word kind.Name ∷ f.1, λ z a iz ka fit. after_next found g b f.0 f.1 f.2 (a_word kind.Name ∷ []) (plain_target (a_word kind.Name) refl, inr (name_of (a_word kind.Name), refl)) z a iz ka fit)

  module _ (L_rises : Rises L) (of : (b : Room) (x : Tall Expr) (w : List Word) → L b x w → AnyExpr x.1 x.0 w) (K : Fault → Type 0) (never : K Exhausted → ⊥) (n n' : ℕ) (len : n ≤ n') (c c' m m' : ℕ) (led : (c, m) ⊑ (c', m')) (deep : K TooDeep → c ≡ c') where
    assigned_good : (gs : List Target) (R : Form (Tall Lead)) → ((b : Room) → (suc c, m) ⊑ b → (y : Tall Lead) (w : List Word) → Plainly gs b y w → R b y w) → ((b : Room) → (suc c, m) ⊑ b → Filled b R)
        → (ts : List Word) → kind_of ts ≡ Some t.assign → Good n (suc c, m) K R (assigned n c gs) (assigned n' c' gs) ts
    unfolding assigned
    assigned_good gs R to fill ts here = good_limit n K R (suc c, m) c c' 1 _ _ ts led.0 deep (some_not_none (kind_of ts) t.assign here) fill
        (λ a e. (suc c + 1, (l.Stmt (an_assignment gs), 2), a_word kind.Name ∷ [], omega arith, to (suc c + 1, m) (omega arith, omega arith) (l.Stmt (an_assignment gs), 2) (a ∷ a_word kind.Name ∷ []) (assigns gs (suc c + 1, m) (omega arith) a (some_is a.kind t.assign (e ∙ here)))))
        (λ some. weaker n (suc c, m) K (Plainly gs) R _ _ _ _ to
        (take_then n n (suc c, m) K _ t.assign span_of _ _ ts (omega arith) here (λ sp r.
        seq n (suc c, m) K (Under IsExprs) _ (exprs n' c') _ _ r _ _ (under_rises IsExprs) (exprs_under K never n n' len c c' m m' led deep some r) (λ xs _ r2.
        good_pure n (suc c, m) K _ _ r2 (λ b db v iv a ia u iu. rw (append-nil, ia.1) (assigned' ia.0 xs.1 gs xs.0 u v iu ia.2 iv.0, let f = iv.1 in omega arith))))))

    -- behind names and a `:=`
    BehindDefine : List Name → Form (Tall Lead)
    BehindDefine ns b y w = (u : List Word) (a : Word) → IsNames ns u → a.kind ≡ t.define → LeadIs L ranges b y (u ++ a ∷ w)

    defined_by_good : (ns : List Name) → 1 ≤ c → (ts : List Word) → Good n (suc c, m) K (BehindDefine ns) (defined_by n c ns) (defined_by n' c' ns) ts
    unfolding defined_by BehindDefine
    defined_by_good ns some ts = seq n (suc c, m) K (Under IsExprs) _ (exprs n' c') _ _ ts _ _ (under_rises IsExprs) (exprs_under K never n n' len c c' m m' led deep some ts) (λ xs _ r2.
        good_pure n (suc c, m) K _ _ r2 (λ b db v iv u a iu ka. rw append-nil (defined' a xs.1 ns xs.0 u v iu ka iv.0, let f = iv.1 in omega arith)))

    a_definition : List Name → Expr → Stmt
    a_definition ns e = stmt_node (names_start ns) (exprs_end 0 (e ∷ [])) (statement.Define ns (e ∷ []))

    defines : (gs : List Target) (ns : List Name) → plains_of gs ≡ Some ns → (b : Room) (x : Tall Expr) (v : List Word) → AnyExpr x.1 x.0 v → x.1 + 1 ≤ b.0 → (a : Word) → a.kind ≡ t.define → Plainly gs b (l.Stmt (a_definition ns x.0), x.1 + 1) (a ∷ v)
    unfolding a_definition
    defines gs ns e b x v i le a k = λ u iu. (defined' a x.1 ns (x.0 ∷ []) u v (targets_names gs u iu ns e) k (one_expr i.0 x.1 x.0 v i.1), le)

    defined_good : (gs : List Target) (ns : List Name) → plains_of gs ≡ Some ns → (R : Form (Tall Lead)) → ((b : Room) → (suc c, m) ⊑ b → (y : Tall Lead) (w : List Word) → Plainly gs b y w → R b y w) → ((b : Room) → (suc c, m) ⊑ b → Filled b R)
        → (rs : Bool) → rs ≡ ranges → (ts : List Word) → kind_of ts ≡ Some t.define → Good n (suc c, m) K R (defined n c rs ns) (defined n' c' rs ns) ts
    unfolding defined BehindDefine
    defined_good gs ns e R to fill true is ts here =
        take_then n n (suc c, m) K _ t.define span_of _ _ ts (omega arith) here (λ sp r.
        choice n (suc c, m) K _ t.range_word _ _ _ _ r
        (λ over. good_pure n (suc c, m) K _ _ r (λ b db v iv. rw iv.1 (to b db (l.Range ns, 0) (iv.0 ∷ []) (names_range gs ns e (sym is) b iv.0 iv.2))))
        (λ _. by_test n (suc c, m) K _ begins _ _ _ _ r
        (λ yes'. good_limit n K _ (suc c, m) c c' 1 _ _ r led.0 deep (begins_some (kind_of r) yes')
        (λ b db. ((l.Range ns, 0), [], λ v iv. rw iv.1 (to b db (l.Range ns, 0) (iv.0 ∷ []) (names_range gs ns e (sym is) b iv.0 iv.2))))
        (λ a ea.
        let x = begun_expr a (ap begins ea ∙ yes') in
        let k = suc c + (x.0.1 + 1) in
        (k, (l.Stmt (a_definition ns x.0.0), x.0.1 + 1), x.1, omega arith, λ v iv. rw iv.1 (to (k, m) (omega arith, omega arith) (l.Stmt (a_definition ns x.0.0), x.0.1 + 1) (iv.0 ∷ a ∷ x.1) (defines gs ns e (k, m) x.0 (a ∷ x.1) x.2 (omega arith) iv.0 iv.2))))
        (λ some. weaker n (suc c, m) K (BehindDefine ns) _ _ _ _ _ (λ b db y w f v iv. rw iv.1 (to b db y (iv.0 ∷ w) (λ u iu. f u iv.0 (targets_names gs u iu ns e) iv.2))) (defined_by_good ns some r)))
        (λ _. good_refuse n (suc c, m) K _ r (λ b db. ((l.Range ns, 0), [], λ v iv. rw iv.1 (to b db (l.Range ns, 0) (iv.0 ∷ []) (names_range gs ns e (sym is) b iv.0 iv.2)))))))
    defined_good gs ns e R to fill false is ts here =
        good_limit n K R (suc c, m) c c' 1 _ _ ts led.0 deep (some_not_none (kind_of ts) t.define here) fill
        (λ a ea.
        let k = suc c + 2 in
        (k, (l.Stmt (a_definition ns an_expr), 2), a_word kind.Name ∷ [], omega arith, to (k, m) (omega arith, omega arith) (l.Stmt (a_definition ns an_expr), 2) (a ∷ a_word kind.Name ∷ []) (defines gs ns e (k, m) (an_expr, 1) (a_word kind.Name ∷ []) (7, is_an_expr) (omega arith) a (some_is a.kind t.define (ea ∙ here)))))
        (λ some. take_then n n (suc c, m) K _ t.define span_of _ _ ts (omega arith) here (λ sp r.
        weaker n (suc c, m) K (BehindDefine ns) _ _ _ _ _ (λ b db y w f v iv. rw iv.1 (to b db y (iv.0 ∷ w) (λ u iu. f u iv.0 (targets_names gs u iu ns e) iv.2))) (defined_by_good ns some r)))

    defined_if_good : (gs : List Target) (R : Form (Tall Lead)) → ((b : Room) → (suc c, m) ⊑ b → (y : Tall Lead) (w : List Word) → Plainly gs b y w → R b y w) → ((b : Room) → (suc c, m) ⊑ b → Filled b R)
        → (other other' : Reader (Tall Lead)) (o : Option (List Name)) → plains_of gs ≡ o → (ts : List Word) → kind_of ts ≡ Some t.define → Good n (suc c, m) K R other other' ts → Good n (suc c, m) K R (defined_if n c ranges other o) (defined_if n' c' ranges other' o) ts
    defined_if_good gs R to fill other other' None e ts here a = a
    defined_if_good gs R to fill other other' (Some ns) e ts here a = defined_good gs ns e R to fill ranges refl ts here

    given_good : (gs : List Target) (R : Form (Tall Lead)) → ((b : Room) → (suc c, m) ⊑ b → (y : Tall Lead) (w : List Word) → Plainly gs b y w → R b y w) → ((b : Room) → (suc c, m) ⊑ b → Filled b R)
        → (ts : List Word) → Good n (suc c, m) K R (given n c ranges gs) (given n' c' ranges gs) ts
    unfolding given
    given_good gs R to fill ts = choice n (suc c, m) K R t.assign _ _ _ _ ts (λ here. assigned_good gs R to fill ts here)
        (λ _. choice n (suc c, m) K R t.define _ _ _ _ ts (λ here. defined_if_good gs R to fill refuse refuse (plains_of gs) refl ts here (good_refuse n (suc c, m) K R ts fill)) (λ _. good_refuse n (suc c, m) K R ts fill))

    next_qualified_good : (ts : List Word) → Good n (suc c, m) K NextQualified (qualified c) (qualified c') ts
    unfolding qualified
    next_qualified_good ts = expect_then n (suc c, m) K _ kind.Name named_of _ _ ts (λ x r.
        choice n (suc c, m) K _ t.point _ _ _ _ r
        (λ here. good_limit n K _ (suc c, m) c c' 1 _ _ r led.0 deep (some_not_none (kind_of r) t.point here) (λ b db. (record { name = x.0; member = None; end = x.1 }, [], λ u iu. rw (iu.1, iu.3) (alone iu.0 iu.2, inr refl)))
        (λ p e. let y = a_word kind.Name in (suc c + 1, record { name = x.0; member = Some (name_of y); end = y.span.end }, y ∷ [], omega arith, λ u iu. rw (iu.1, iu.3) (pair iu.0 p y iu.2 (some_is p.kind t.point (e ∙ here)) refl, inl (omega arith))))
        (λ some. take_then n n (suc c, m) K _ t.point span_of _ _ r (omega arith) here (λ sp r2.
        expect_then n (suc c, m) K _ kind.Name named_of _ _ r2 (λ y r3.
        good_pure n (suc c, m) K _ _ r3 (λ b db w iw v iv u iu. rw (iu.1, iu.3, iv.1, iw.1, iw.3) (pair iu.0 iv.0 iw.0 iu.2 iv.2 iw.2, inl (let l = db.0 in omega arith)))))))
        (λ _. good_pure n (suc c, m) K _ _ r (λ b db u iu. rw (iu.1, iu.3) (alone iu.0 iu.2, inr refl))))

    next_good : (ts : List Word) → Good n (suc c, m) K NextOf (next_target c) (next_target c') ts
    unfolding next_target
    next_good ts = seq n (suc c, m) K NextQualified _ (qualified c') _ _ ts _ _ next_qualified_rises (next_qualified_good ts) (λ q _ r. good_pure n (suc c, m) K _ _ r (λ b db u iu. rw append-nil (next_is b q u iu)))

    targets_from_good : (k k' : ℕ) → k ≤ n → k ≤ k' → (found : List Target) (ts : List Word) → Good k (suc c, m) K (BehindComma found) (targets_from n c ranges k found) (targets_from n' c' ranges k' found) ts
    unfolding targets_from
    targets_from_good zero k' ln le found ts = good_exhausted (suc c, m) K (BehindComma found) _ ts never (λ b db. fill_comma found b)
    targets_from_good (suc k) zero ln le found ts = absurd (omega arith)
    targets_from_good (suc k) (suc k') ln le found ts =
        seq (suc k) (suc c, m) K NextOf (BehindComma found) (next_target c') _ _ ts _ _ next_rises (fewer n (suc k) (suc c, m) K _ _ _ _ _ ln (next_good ts)) (λ g _ r.
        choice (suc k) (suc c, m) K _ t.comma _ _ _ _ r
        (λ here. take_then (suc k) k (suc c, m) K _ t.comma span_of _ _ r (omega arith) here (λ sp r2.
        weaker k (suc c, m) K (BehindComma (found ++ g ∷ [])) _ _ _ _ _ (λ b db y w f v iv u iu z a iz ka fit. rw iv.1 (simp append_assoc at (f (z ++ a ∷ u) iv.0 (targets_snoc found z iz a g u ka iu.0) iv.2 (fits_snoc b found g fit iu.1))))
        (targets_from_good k k' (omega arith) (omega arith) (found ++ g ∷ []) r2)))
        (λ _. fewer n (suc k) (suc c, m) K _ _ _ _ _ ln (given_good (found ++ g ∷ []) (Rest NextOf (BehindComma found) g)
        (λ b db y w f u iu z a iz ka fit. rw append_assoc at (f (z ++ a ∷ u) (targets_snoc found z iz a g u ka iu.0)))
        (λ b db. let f = fill_behind (found ++ g ∷ []) b in (f.0, f.1, after_next found g b f.0 f.1 f.2)) r)))

    -- behind an expression
    module _ (x : Tall Expr) (tall : 1 ≤ x.1) where
      abbrev Led : Form (Tall Lead)
      Led = Rest L (LeadIs L ranges) x

      no_more : (b : Room) (u : List Word) → L b x u → LeadIs L ranges b (l.Expr x.0, x.1) (u ++ [])
      no_more b u iu = rw append-nil iu

      alone_good : (ts : List Word) → Good n (suc c, m) K Led (pure (l.Expr x.0, x.1)) (pure (l.Expr x.0, x.1)) ts
      alone_good ts = good_pure n (suc c, m) K _ _ ts (λ b db u iu. no_more b u iu)

      fill_led : (b : Room) → (suc c, m) ⊑ b → Filled b Led
      fill_led b db = ((l.Expr x.0, x.1), [], λ u iu. no_more b u iu)

      target_at : (g : Target) → target_of x.0 ≡ Some g → (b : Room) (u : List Word) → L b x u → IsTarget 0 g u
      target_at g is b u iu = let i = of b x u iu in target_spelled i.0 x.1 x.0 u i.1 g is

      plainly_led : (g : Target) → target_of x.0 ≡ Some g → (b : Room) → (suc c, m) ⊑ b → (y : Tall Lead) (w : List Word) → Plainly (g ∷ []) b y w → Led b y w
      plainly_led g is b db y w f = λ u iu. f u (one_item 0 g u (target_at g is b u iu))

      a_send : (e : Tall Expr) (b : Room) (u v : List Word) (a : Word) → L b x u → a.kind ≡ t.arrow → AnyExpr e.1 e.0 v → max x.1 e.1 + 1 ≤ b.0 → LeadIs L ranges b (l.Stmt (stmt_node (expr_start x.0) (expr_end e.0) (statement.Send x.0 e.0)), max x.1 e.1 + 1) (u ++ a ∷ v)
      a_send e b u v a iu k i le = let j = of b x u iu in (sent' a j.0 i.0 x.1 e.1 x.0 e.0 u v j.1 k i.1, le)

      sent_good : (ts : List Word) → kind_of ts ≡ Some t.arrow → Good n (suc c, m) K Led (sent n c x) (sent n' c' x) ts
      unfolding sent
      sent_good ts here = good_limit n K Led (suc c, m) c c' x.1 _ _ ts led.0 deep (some_not_none (kind_of ts) t.arrow here) fill_led
          (λ a e. (
            suc c + (x.1 + 1),
            (l.Stmt (stmt_node (expr_start x.0) (expr_end an_expr) (statement.Send x.0 an_expr)), max x.1 1 + 1),
            a_word kind.Name ∷ [],
            omega arith,
            λ u iu. a_send (an_expr, 1) (suc c + (x.1 + 1), m) u (a_word kind.Name ∷ []) a iu (some_is a.kind t.arrow (e ∙ here)) (7, is_an_expr) (omega arith),
          ))
          (λ small. take_then n n (suc c, m) K _ t.arrow span_of _ _ ts (omega arith) here (λ sp r.
          seq n (suc c, m) K (Under AnyExpr) _ (expr n' c' 1) _ _ r _ _ (under_rises AnyExpr) (expr_under K never n n' len c c' m m' led deep (omega arith) r) (λ y _ r2.
          good_pure n (suc c, m) K _ _ r2 (λ b db v iv a ia u iu. rw (append-nil, ia.1) (a_send y b u v ia.0 iu ia.2 iv.0 (let f = iv.1 in let l = db.0 in omega arith))))))

      an_update : (g : Target) → target_of x.0 ≡ Some g → (op : BinaryOp) (k : TokenKind) → update_kind op ≡ Some k → (e : Tall Expr) (b : Room) (u v : List Word) (a : Word) → L b x u → a.kind ≡ k → AnyExpr e.1 e.0 v → e.1 + 1 ≤ b.0
          → LeadIs L ranges b (l.Stmt (stmt_node (target_start g) (expr_end e.0) (statement.Update g op e.0)), e.1 + 1) (u ++ a ∷ v)
      an_update g is op k ek e b u v a iu ka i le = (updated' a op i.0 e.1 g e.0 u v (target_at g is b u iu) (ek ∙ ap (λ (z : TokenKind). Some z) (sym ka)) i.1, le)

      updated_good : (g : Target) → target_of x.0 ≡ Some g → (op : BinaryOp) (k : TokenKind) → update_kind op ≡ Some k → (ts : List Word) → kind_of ts ≡ Some k → Good n (suc c, m) K Led (updated n c g op) (updated n' c' g op) ts
      unfolding updated
      updated_good g is op k ek ts here = good_limit n K Led (suc c, m) c c' 1 _ _ ts led.0 deep (some_not_none (kind_of ts) k here) fill_led
          (λ a e. (
            suc c + 2,
            (l.Stmt (stmt_node (target_start g) (expr_end an_expr) (statement.Update g op an_expr)), 2),
            a_word kind.Name ∷ [],
            omega arith,
            λ u iu. an_update g is op k ek (an_expr, 1) (suc c + 2, m) u (a_word kind.Name ∷ []) a iu (some_is a.kind k (e ∙ here)) (7, is_an_expr) (omega arith),
          ))
          (λ some. take_then n n (suc c, m) K _ k span_of _ _ ts (omega arith) here (λ sp r.
          seq n (suc c, m) K (Under AnyExpr) _ (expr n' c' 1) _ _ r _ _ (under_rises AnyExpr) (expr_under K never n n' len c c' m m' led deep some r) (λ y _ r2.
          good_pure n (suc c, m) K _ _ r2 (λ b db v iv a ia u iu. rw (append-nil, ia.1) (an_update g is op k ek y b u v ia.0 iu ia.2 iv.0 (let f = iv.1 in omega arith))))))

      -- where a comma follows
      with_comma_good : (g : Target) → target_of x.0 ≡ Some g → Fits (suc c, m) (g ∷ []) → (ts : List Word) → kind_of ts ≡ Some t.comma
          → Good n (suc c, m) K Led (take_span >> targets_from n c ranges n (g ∷ [])) (take_span >> targets_from n' c' ranges n' (g ∷ [])) ts
      with_comma_good g is fit ts here = take_then n n (suc c, m) K _ t.comma span_of _ _ ts (omega arith) here (λ sp r.
          weaker n (suc c, m) K (BehindComma (g ∷ [])) _ _ _ _ _ (λ b db y w f v iv u iu. rw iv.1 (f u iv.0 (one_item 0 g u (target_at g is b u iu)) iv.2 (fits_rise (suc c, m) b db (g ∷ []) fit))) (targets_from_good n n' (omega arith) len (g ∷ []) r))

      far_comma : (g : Target) → target_of x.0 ≡ Some g → (a : Word) → a.kind ≡ t.comma → (k : ℕ) × (y : Tall Lead) × (w : List Word) × (suc c ≤ k) × Led (k, m) y (a ∷ w)
      far_comma g is a ka =
          let b : Room = (suc c + 2, m) in
          let f = fill_comma (g ∷ []) b in
          (suc c + 2, f.0, f.1, omega arith, λ u iu. f.2 u a (one_item 0 g u (target_at g is b u iu)) ka (inl (omega arith)))

      limited_comma_good : (g : Target) → target_of x.0 ≡ Some g → (ts : List Word) → kind_of ts ≡ Some t.comma
          → Good n (suc c, m) K Led (limited c 1 (take_span >> targets_from n c ranges n (g ∷ []))) (limited c' 1 (take_span >> targets_from n' c' ranges n' (g ∷ []))) ts
      limited_comma_good g is ts here = good_limit n K Led (suc c, m) c c' 1 _ _ ts led.0 deep (some_not_none (kind_of ts) t.comma here) fill_led
          (λ a e. far_comma g is a (some_is a.kind t.comma (e ∙ here)))
          (λ some. with_comma_good g is (inl (omega arith)) ts here)

      comma_by_good : (g : Target) → target_of x.0 ≡ Some g → (o : Option Name) → plain_of g ≡ o → (ts : List Word) → kind_of ts ≡ Some t.comma → Good n (suc c, m) K Led (comma_by n c ranges g o) (comma_by n' c' ranges g o) ts
      comma_by_good g is None e ts here = limited_comma_good g is ts here
      comma_by_good g is (Some nm) e ts here = good_if n (suc c, m) K Led ranges _ _ _ _ ts (λ er. with_comma_good g is (inr (er, (nm ∷ [], rw e refl))) ts here) (λ _. limited_comma_good g is ts here)

      by_target_good : (g : Target) → target_of x.0 ≡ Some g → (sign : Sign) (ts : List Word) → SignOf (kind_of ts) sign → Good n (suc c, m) K Led (by_target n c ranges x g sign) (by_target n' c' ranges x g sign) ts
      by_target_good g is s.Up ts so =
          let here = seen so.0 t.increment (kind_of ts) so.1 so.2 in
          take_then n n (suc c, m) K _ t.increment span_of _ _ ts (omega arith) here (λ sp r.
          good_pure n (suc c, m) K _ _ r (λ b db a ia u iu. rw (ia.1, ia.3) (raised ia.0 g u (target_at g is b u iu) ia.2, let l = db.0 in omega arith)))
      by_target_good g is s.Down ts so =
          let here = seen so.0 t.decrement (kind_of ts) so.1 so.2 in
          take_then n n (suc c, m) K _ t.decrement span_of _ _ ts (omega arith) here (λ sp r.
          good_pure n (suc c, m) K _ _ r (λ b db a ia u iu. rw (ia.1, ia.3) (lowered ia.0 g u (target_at g is b u iu) ia.2, let l = db.0 in omega arith)))
      by_target_good g is (s.Update op) ts so = updated_good g is op so.0 so.2 ts so.1
      by_target_good g is s.Assign ts so = assigned_good (g ∷ []) Led (plainly_led g is) fill_led ts (seen so.0 t.assign (kind_of ts) so.1 so.2)
      by_target_good g is s.Define ts so = defined_if_good (g ∷ []) Led (plainly_led g is) fill_led (pure (l.Expr x.0, x.1)) (pure (l.Expr x.0, x.1)) (plains_of (g ∷ [])) refl ts (seen so.0 t.define (kind_of ts) so.1 so.2) (alone_good ts)
      by_target_good g is s.Comma ts so = comma_by_good g is (plain_of g) refl ts (seen so.0 t.comma (kind_of ts) so.1 so.2)
      by_target_good g is s.Arrow ts so = alone_good ts
      by_target_good g is s.Other ts so = alone_good ts

      target_by_good : (sign : Sign) (o : Option Target) → target_of x.0 ≡ o → (ts : List Word) → SignOf (kind_of ts) sign → Good n (suc c, m) K Led (target_by_sign n c ranges x sign o) (target_by_sign n' c' ranges x sign o) ts
      target_by_good sign None is ts so = alone_good ts
      target_by_good sign (Some g) is ts so = by_target_good g is sign ts so

      by_sign_good : (sign : Sign) (ts : List Word) → SignOf (kind_of ts) sign → Good n (suc c, m) K Led (by_sign n c ranges x sign) (by_sign n' c' ranges x sign) ts
      by_sign_good s.Arrow ts so = sent_good ts (seen so.0 t.arrow (kind_of ts) so.1 so.2)
      by_sign_good s.Other ts so = alone_good ts
      by_sign_good s.Up ts so = target_by_good s.Up (target_of x.0) refl ts so
      by_sign_good s.Down ts so = target_by_good s.Down (target_of x.0) refl ts so
      by_sign_good (s.Update op) ts so = target_by_good (s.Update op) (target_of x.0) refl ts so
      by_sign_good s.Comma ts so = target_by_good s.Comma (target_of x.0) refl ts so
      by_sign_good s.Assign ts so = target_by_good s.Assign (target_of x.0) refl ts so
      by_sign_good s.Define ts so = target_by_good s.Define (target_of x.0) refl ts so

      pub lead_good : (ts : List Word) → Good n (suc c, m) K (Rest L (LeadIs L ranges) x) (lead n c ranges x) (lead n' c' ranges x) ts
      unfolding lead
      lead_good ts = peeked n (suc c, m) K _ (λ kind. by_sign n' c' ranges x (sign_of kind)) ts _ _ (by_sign_good (sign_of (kind_of ts)) ts (sign_sound (kind_of ts) (sign_of (kind_of ts)) refl))

    pub led_good : (e e' : Reader (Tall Expr)) (ts : List Word) → ((b : Room) (x : Tall Expr) (w : List Word) → L b x w → 1 ≤ x.1) → Good n (suc c, m) K L e e' ts → Good n (suc c, m) K (LeadIs L ranges) (e >>= lead n c ranges) (e' >>= lead n' c' ranges) ts
    led_good e e' ts some a = seq n (suc c, m) K L (LeadIs L ranges) e' _ _ ts _ _ L_rises a (λ x s r. lead_good x (some s.0 x s.1 s.3) r)
