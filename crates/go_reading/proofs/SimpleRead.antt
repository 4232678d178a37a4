-- Simple statements that the grammar derives are read.
use Rattle.std.proofs.Common.{◌≡◌, ◌⊎◌, inl, inr, ℕ, zero, suc, ◌+◌, ◌≤◌, ◌<◌, max, Bool, true, false, List, [], ◌∷◌, ◌++◌, Option, Some, None, length, Ok, refl, sym, ap, subst, ◌∙◌, append_assoc, arith}
use Rattle.std.proofs.lemmas.List.{length-append}
use Rattle.std.proofs.lemmas.Bool.{le-ltb}
use Rattle.go_ast.specs.declared.name.Name.{Name}
use Rattle.go_ast.specs.declared.token.TokenKind.{TokenKind}
use Rattle.go_ast.specs.declared.expr.Expr.{Expr}
use Rattle.go_ast.specs.declared.expr.BinaryOp.{BinaryOp}
use Rattle.go_ast.specs.declared.expr.BinaryOp.TheVariants as op
use Rattle.go_ast.specs.declared.block.Target.{Target}
use Rattle.go_ast.specs.declared.block.Target.TheVariants as target
use Rattle.go_ast.specs.declared.block.Stmt.{Stmt}
use Rattle.go_ast.specs.declared.block.StmtForm.TheVariants as statement
use Rattle.go_grammar.specs.Words.{Word}
use Rattle.go_grammar.specs.Terminals as t
use Rattle.go_grammar.specs.Trees.{name_of, expr_start, expr_end, exprs_end, stmt_node, target_start, targets_start, names_start, update_kind}
use Rattle.go_grammar.specs.Lists.{IsRow, one_item, more_items}
use Rattle.go_grammar.specs.Types.{IsName, name}
use Rattle.go_grammar.specs.Exprs.{IsExprs, one_expr, more_exprs}
use Rattle.go_grammar.specs.Simple.{IsTarget, plain_target, member_target as member_target', IsTargets, IsSimple, evaluated, sent as sent', raised, lowered, updated as updated', assigned as assigned', defined as defined'}
use Rattle.go_reading.specs.declared.qualified.Qualified.{Qualified}
use Rattle.go_reading.specs.declared.sign.Sign.{Sign}
use Rattle.go_reading.specs.declared.sign.Sign.TheVariants as s
use Rattle.go_reading.specs.declared.lead.Lead.{Lead}
use Rattle.go_reading.specs.declared.lead.Lead.TheVariants as l
use Rattle.go_reading.specs.Kinds.{same, is, begins, binary_op, sign_of}
use Rattle.go_reading.specs.Input.{Tall, ◌>>=◌, kind_of, take_as}
use Rattle.go_reading.specs.Types.{expr_of, target_of as target_of_qualified}
use Rattle.go_reading.specs.Exprs.{expr, exprs}
use Rattle.go_reading.specs.Simple.{target_of, plain_of, plains_by, plains_of, next_target, eval_stmt, assigned, defined_by, updated, sent, defined, given, targets_from, goes_on, is_some, bare, lead, stmt_by, simple}
use Rattle.go_reading.proofs.Good.{is_is, some_is}
use Rattle.go_reading.proofs.Tables.{level_some}
use Rattle.go_reading.proofs.TypesGood.{IsQualified, alone, pair, expr_qualified}
use Rattle.go_reading.proofs.ExprsGood.{tall, leveled}
use Rattle.go_reading.proofs.RowsRead.{sees, kind_is, is_other}
use Rattle.go_reading.proofs.TypesRead.{qualified_read, alone_read, qualified_kind}
use Rattle.go_reading.proofs.Ends.{Ends, Plain, ends_by, plain_comma, plain_assign, plain_define, plain_arrow, begins_expr}
use Rattle.go_reading.proofs.ExprsRead.{expr_read, exprs_read}
use Rattle.go_reading.proofs.SpecsRead.{exprs_tall}
use Rattle.go_reading.proofs.SimpleGood.{target_is_name}
use Rattle.go_reading.proofs.BareGood.{regroup}

-- ---- what may follow a statement

pub record StmtEnds (rest : List Word) : Type 0 where
  pub ends : Ends 1 rest
  pub sign : sign_of (kind_of rest) ≡ s.Other
  pub no_comma : is (kind_of rest) t.comma ≡ false
  pub no_colon : is (kind_of rest) t.colon ≡ false

-- a kind that ends a statement
pub record Last (k : TokenKind) : Type 0 where
  pub plain : Plain k
  pub sign : sign_of (Some k) ≡ s.Other
  pub no_comma : same k t.comma ≡ false
  pub no_colon : same k t.colon ≡ false

pub stmt_ends : (rest : List Word) (k : TokenKind) → kind_of rest ≡ Some k → Last k → StmtEnds rest
stmt_ends rest k e p = record {
  ends = ends_by 1 rest k e p.plain;
  sign = ap sign_of e ∙ p.sign;
  no_comma = is_other (kind_of rest) k t.comma e p.no_comma;
  no_colon = is_other (kind_of rest) k t.colon e p.no_colon;
}

pub last_semicolon : Last t.semicolon
unfolding sign_of binary_op
last_semicolon = record { plain = record { no_point = refl; no_call = refl; no_index = refl; no_operator = refl }; sign = refl; no_comma = refl; no_colon = refl }

pub last_brace : Last t.right_brace
unfolding sign_of binary_op
last_brace = record { plain = record { no_point = refl; no_call = refl; no_index = refl; no_operator = refl }; sign = refl; no_comma = refl; no_colon = refl }

pub last_left_brace : Last t.left_brace
unfolding sign_of binary_op
last_left_brace = record { plain = record { no_point = refl; no_call = refl; no_index = refl; no_operator = refl }; sign = refl; no_comma = refl; no_colon = refl }

pub last_case : Last t.case_word
unfolding sign_of binary_op
last_case = record { plain = record { no_point = refl; no_call = refl; no_index = refl; no_operator = refl }; sign = refl; no_comma = refl; no_colon = refl }

pub last_default : Last t.default_word
unfolding sign_of binary_op
last_default = record { plain = record { no_point = refl; no_call = refl; no_index = refl; no_operator = refl }; sign = refl; no_comma = refl; no_colon = refl }

-- a kind with a meaning behind an expression
pub record SignIs (k : TokenKind) (sign : Sign) : Type 0 where
  pub plain : Plain k
  pub sign_is : sign_of (Some k) ≡ sign
  pub no_colon : same k t.colon ≡ false

pub sign_increment : SignIs t.increment s.Up
unfolding sign_of binary_op
sign_increment = record { plain = record { no_point = refl; no_call = refl; no_index = refl; no_operator = refl }; sign_is = refl; no_colon = refl }

pub sign_decrement : SignIs t.decrement s.Down
unfolding sign_of binary_op
sign_decrement = record { plain = record { no_point = refl; no_call = refl; no_index = refl; no_operator = refl }; sign_is = refl; no_colon = refl }

sign_arrow : SignIs t.arrow s.Arrow
unfolding sign_of
sign_arrow = record { plain = plain_arrow; sign_is = refl; no_colon = refl }

sign_assign : SignIs t.assign s.Assign
unfolding sign_of
sign_assign = record { plain = plain_assign; sign_is = refl; no_colon = refl }

pub sign_define : SignIs t.define s.Define
unfolding sign_of
sign_define = record { plain = plain_define; sign_is = refl; no_colon = refl }

pub sign_comma : SignIs t.comma s.Comma
unfolding sign_of
sign_comma = record { plain = plain_comma; sign_is = refl; no_colon = refl }

pub update_of : (o : BinaryOp) (k : TokenKind) → update_kind o ≡ Some k → SignIs k (s.Update o)
unfolding sign_of binary_op
update_of op.Mul k e = subst (λ (z : TokenKind). SignIs z (s.Update op.Mul)) (some_is t.star_assign k e) (record { plain = record { no_point = refl; no_call = refl; no_index = refl; no_operator = refl }; sign_is = refl; no_colon = refl })
update_of op.Div k e = subst (λ (z : TokenKind). SignIs z (s.Update op.Div)) (some_is t.slash_assign k e) (record { plain = record { no_point = refl; no_call = refl; no_index = refl; no_operator = refl }; sign_is = refl; no_colon = refl })
update_of op.Rem k e = subst (λ (z : TokenKind). SignIs z (s.Update op.Rem)) (some_is t.percent_assign k e) (record { plain = record { no_point = refl; no_call = refl; no_index = refl; no_operator = refl }; sign_is = refl; no_colon = refl })
update_of op.Shl k e = subst (λ (z : TokenKind). SignIs z (s.Update op.Shl)) (some_is t.shift_left_assign k e) (record { plain = record { no_point = refl; no_call = refl; no_index = refl; no_operator = refl }; sign_is = refl; no_colon = refl })
update_of op.Shr k e = subst (λ (z : TokenKind). SignIs z (s.Update op.Shr)) (some_is t.shift_right_assign k e) (record { plain = record { no_point = refl; no_call = refl; no_index = refl; no_operator = refl }; sign_is = refl; no_colon = refl })
update_of op.And k e = subst (λ (z : TokenKind). SignIs z (s.Update op.And)) (some_is t.ampersand_assign k e) (record { plain = record { no_point = refl; no_call = refl; no_index = refl; no_operator = refl }; sign_is = refl; no_colon = refl })
update_of op.AndNot k e = subst (λ (z : TokenKind). SignIs z (s.Update op.AndNot)) (some_is t.and_not_assign k e) (record { plain = record { no_point = refl; no_call = refl; no_index = refl; no_operator = refl }; sign_is = refl; no_colon = refl })
update_of op.Add k e = subst (λ (z : TokenKind). SignIs z (s.Update op.Add)) (some_is t.plus_assign k e) (record { plain = record { no_point = refl; no_call = refl; no_index = refl; no_operator = refl }; sign_is = refl; no_colon = refl })
update_of op.Sub k e = subst (λ (z : TokenKind). SignIs z (s.Update op.Sub)) (some_is t.minus_assign k e) (record { plain = record { no_point = refl; no_call = refl; no_index = refl; no_operator = refl }; sign_is = refl; no_colon = refl })
update_of op.Or k e = subst (λ (z : TokenKind). SignIs z (s.Update op.Or)) (some_is t.bar_assign k e) (record { plain = record { no_point = refl; no_call = refl; no_index = refl; no_operator = refl }; sign_is = refl; no_colon = refl })
update_of op.Xor k e = subst (λ (z : TokenKind). SignIs z (s.Update op.Xor)) (some_is t.caret_assign k e) (record { plain = record { no_point = refl; no_call = refl; no_index = refl; no_operator = refl }; sign_is = refl; no_colon = refl })
update_of _ k e = absurd cc

-- ---- targets

-- a target is a qualified name
pub target_named : (h : ℕ) (g : Target) (u : List Word) → IsTarget h g u → (q : Qualified) × IsQualified q u × (target_of_qualified q ≡ g) × (q.name.at ≡ target_start g)
target_named _ _ _ (plain_target n k) = (record { name = name_of n; member = None; end = n.span.end }, alone n k, refl, refl)
target_named _ _ _ (member_target' p d n kp kd kn) = (record { name = name_of p; member = Some (name_of n); end = n.span.end }, pair p d n kp kd kn, refl, refl)

pub next_read : (c : ℕ) (h : ℕ) (g : Target) (u : List Word) → IsTarget h g u → ((1 ≤ c) ⊎ ((nm : Name) × (plain_of g ≡ Some nm))) → (rest : List Word) → is (kind_of rest) t.point ≡ false → next_target c (u ++ rest) ≡ (Ok g, rest)
unfolding next_target
next_read c _ _ _ (plain_target n k) f rest other = rw (alone_read c n k rest other) refl
next_read c _ _ _ (member_target' p d n kp kd kn) (inl some) rest other = rw (qualified_read c some (record { name = name_of p; member = Some (name_of n); end = n.span.end }) (p ∷ d ∷ n ∷ []) (pair p d n kp kd kn) rest other) refl
next_read c _ _ _ (member_target' p d n kp kd kn) (inr f) rest other = absurd (let g = f.1 in cc)

-- ---- names as targets

pub row_targets : (h : ℕ) (ns : List Name) (w : List Word) → IsRow t.comma IsName h ns w → (gs : List Target) × IsRow t.comma IsTarget h gs w × (plains_of gs ≡ Some ns)
row_targets _ _ _ (one_item h x w i) = (target.Plain x ∷ [], one_item h (target.Plain x) w (name_target h x w i), refl)
  where
    name_target : (h : ℕ) (x : Name) (w : List Word) → IsName h x w → IsTarget h (target.Plain x) w
    name_target _ _ _ (name n k) = plain_target n k
row_targets _ _ _ (more_items a h h' x xs w v i k r) =
    let p = row_targets h' xs v r in
    (target.Plain x ∷ p.0, more_items a h h' (target.Plain x) p.0 w v (name_target h x w i) k p.1, rw p.2 refl)
  where
    name_target : (h : ℕ) (x : Name) (w : List Word) → IsName h x w → IsTarget h (target.Plain x) w
    name_target _ _ _ (name n k) = plain_target n k

-- ---- signs behind an expression

pub begun_not : (o : Option TokenKind) (k : TokenKind) → begins o ≡ true → begins (Some k) ≡ false → is o k ≡ false
begun_not o k b f = go (is o k) refl
  where
    go : (v : Bool) → is o k ≡ v → v ≡ false
    go false e = refl
    go true e = let i : o ≡ Some k = is_is o k e in let g : begins (Some k) ≡ true = ap begins (sym i) ∙ b in absurd cc

range_no : begins (Some t.range_word) ≡ false
unfolding begins
range_no = refl

module _ (n c : ℕ) (ranges : Bool) (x : Tall Expr) where
  pub lead_other : (r : List Word) → sign_of (kind_of r) ≡ s.Other → lead n c ranges x r ≡ (Ok (l.Expr x.0, x.1), r)
  unfolding lead
  lead_other r e = rw e refl

  lead_send : (a : Word) (y : Expr) (h : ℕ) (r rest : List Word) → sign_of (Some a.kind) ≡ s.Arrow → x.1 ≤ c → expr n c 1 r ≡ (Ok (y, h), rest) → lead n c ranges x (a ∷ r) ≡ (Ok (l.Stmt (stmt_node (expr_start x.0) (expr_end y) (statement.Send x.0 y)), max x.1 h + 1), rest)
  unfolding lead sent take_as
  lead_send a y h r rest e le i = rw (e, le-ltb c x.1 le, i) refl

  module _ (g : Target) (is-target : target_of x.0 ≡ Some g) where
    lead_up : (a : Word) (r : List Word) → sign_of (Some a.kind) ≡ s.Up → lead n c ranges x (a ∷ r) ≡ (Ok (l.Stmt (stmt_node (target_start g) a.span.end (statement.Up g)), 1), r)
    unfolding lead take_as
    lead_up a r e = rw (e, is-target) refl

    lead_down : (a : Word) (r : List Word) → sign_of (Some a.kind) ≡ s.Down → lead n c ranges x (a ∷ r) ≡ (Ok (l.Stmt (stmt_node (target_start g) a.span.end (statement.Down g)), 1), r)
    unfolding lead take_as
    lead_down a r e = rw (e, is-target) refl

    lead_update : (o : BinaryOp) (a : Word) (y : Expr) (h : ℕ) (r rest : List Word) → sign_of (Some a.kind) ≡ s.Update o → 1 ≤ c → expr n c 1 r ≡ (Ok (y, h), rest)
        → lead n c ranges x (a ∷ r) ≡ (Ok (l.Stmt (stmt_node (target_start g) (expr_end y) (statement.Update g o y)), h + 1), rest)
    unfolding lead updated take_as
    lead_update o a y h r rest e le i = rw (e, is-target, le-ltb c 1 le, i) refl

    lead_assign : (a : Word) (r : List Word) → sign_of (Some a.kind) ≡ s.Assign → lead n c ranges x (a ∷ r) ≡ assigned n c (g ∷ []) (a ∷ r)
    unfolding lead
    lead_assign a r e = rw (e, is-target) refl

    pub lead_define : (nm : Name) → plain_of g ≡ Some nm → (a : Word) (r : List Word) → sign_of (Some a.kind) ≡ s.Define → lead n c ranges x (a ∷ r) ≡ defined n c ranges (nm ∷ []) (a ∷ r)
    unfolding lead
    lead_define nm p a r e = rw (e, is-target, p) refl

    pub lead_comma : (o : Option Name) → plain_of g ≡ o → (rs : Bool) → ranges ≡ rs → 1 ≤ c → (a : Word) (r : List Word) → sign_of (Some a.kind) ≡ s.Comma → lead n c ranges x (a ∷ r) ≡ targets_from n c ranges n (g ∷ []) r
    unfolding lead take_as
    lead_comma None p rs q le a r e = rw (e, is-target, p, le-ltb c 1 le) refl
    lead_comma (Some nm) p true q le a r e = rw (e, is-target, p, q) refl
    lead_comma (Some nm) p false q le a r e = rw (e, is-target, p, q, le-ltb c 1 le) refl

module _ (n c : ℕ) (ranges : Bool) where
  assigned_read : (gs : List Target) (a : Word) (es : List Expr) (h : ℕ) (r rest : List Word) → 1 ≤ c → exprs n c r ≡ (Ok (es, h), rest) → assigned n c gs (a ∷ r) ≡ (Ok (l.Stmt (stmt_node (targets_start gs) (exprs_end 0 es) (statement.Assign gs es)), h + 1), rest)
  unfolding assigned take_as
  assigned_read gs a es h r rest le i = rw (le-ltb c 1 le, i) refl

  defined_read : (rs : Bool) (ns : List Name) (a : Word) (es : List Expr) (h : ℕ) (r rest : List Word) → 1 ≤ c → begins (kind_of r) ≡ true → exprs n c r ≡ (Ok (es, h), rest) → defined n c rs ns (a ∷ r) ≡ (Ok (l.Stmt (stmt_node (names_start ns) (exprs_end 0 es) (statement.Define ns es)), h + 1), rest)
  unfolding defined defined_by take_as
  defined_read true ns a es h r rest le b i = rw (begun_not (kind_of r) t.range_word b range_no, b, le-ltb c 1 le, i) refl
  defined_read false ns a es h r rest le b i = rw (le-ltb c 1 le, i) refl

  given_assign : (gs : List Target) (a : Word) (r : List Word) → a.kind ≡ t.assign → given n c ranges gs (a ∷ r) ≡ assigned n c gs (a ∷ r)
  unfolding given
  given_assign gs a r k = rw (sees a r t.assign k) refl

  pub given_define : (gs : List Target) (ns : List Name) → plains_of gs ≡ Some ns → (a : Word) (r : List Word) → a.kind ≡ t.define → given n c ranges gs (a ∷ r) ≡ defined n c ranges ns (a ∷ r)
  unfolding given
  given_define gs ns e a r k = rw (is_other (kind_of (a ∷ r)) t.define t.assign (kind_is a r t.define k) refl, sees a r t.define k, e) refl

  from_last : (k : ℕ) (found : List Target) (g : Target) (ts rest : List Word) → next_target c ts ≡ (Ok g, rest) → is (kind_of rest) t.comma ≡ false → targets_from n c ranges (suc k) found ts ≡ given n c ranges (found ++ g ∷ []) rest
  unfolding targets_from
  from_last k found g ts rest e f = rw (e, f) refl

  from_next : (k : ℕ) (found : List Target) (g : Target) (ts : List Word) (a : Word) (rest : List Word) → next_target c ts ≡ (Ok g, a ∷ rest) → a.kind ≡ t.comma → targets_from n c ranges (suc k) found ts ≡ targets_from n c ranges k (found ++ g ∷ []) rest
  unfolding targets_from take_as
  from_next k found g ts a rest e f = rw (e, sees a rest t.comma f) refl

  pub names_of : (g : Target) (gs : List Target) (ns : List Name) → plains_of (g ∷ gs) ≡ Some ns → ((nm : Name) × (plain_of g ≡ Some nm)) × ((ms : List Name) × (plains_of gs ≡ Some ms))
  names_of g gs ns e = go (plain_of g) refl (plains_of gs) refl
    where
      go : (o : Option Name) → plain_of g ≡ o → (r : Option (List Name)) → plains_of gs ≡ r → ((nm : Name) × (plain_of g ≡ Some nm)) × ((ms : List Name) × (plains_of gs ≡ Some ms))
      go None p r q = absurd (let f : plains_by None (plains_of gs) ≡ Some ns = ap (λ (z : Option Name). plains_by z (plains_of gs)) (sym p) ∙ e in cc)
      go (Some nm) p None q = absurd (let f : plains_by (Some nm) None ≡ Some ns = ap (λ (z : Option Name). plains_by z None) (sym p) ∙ (ap (λ (z : Option (List Name)). plains_by (plain_of g) z) (sym q) ∙ e) in cc)
      go (Some nm) p (Some ms) q = ((nm, p), (ms, q))

  -- targets behind a comma, up to the sign
  pub from_read : (k : ℕ) (h : ℕ) (gs : List Target) (w : List Word) → IsRow t.comma IsTarget h gs w → ((1 ≤ c) ⊎ ((ns : List Name) × (plains_of gs ≡ Some ns))) → length w < k → (found : List Target) (rest : List Word)
      → is (kind_of rest) t.point ≡ false → is (kind_of rest) t.comma ≡ false → targets_from n c ranges k found (w ++ rest) ≡ given n c ranges (found ++ gs) rest
  from_read zero _ _ _ (one_item h g w i) f lt found rest np nc = absurd (omega arith)
  from_read (suc k) _ _ _ (one_item h g w i) f lt found rest np nc = from_last k found g (w ++ rest) rest (next_read c h g w i (one f) rest np) nc
    where
      one : ((1 ≤ c) ⊎ ((ns : List Name) × (plains_of (g ∷ []) ≡ Some ns))) → (1 ≤ c) ⊎ ((nm : Name) × (plain_of g ≡ Some nm))
      one (inl e) = inl e
      one (inr e) = inr ((names_of g [] e.0 e.1).0)
  from_read zero _ _ _ (more_items a h h' g gs w v i e r) f lt found rest np nc = absurd (omega arith)
  from_read (suc k) _ _ _ (more_items a h h' g gs w v i e r) f lt found rest np nc =
      let len = length-append w (a ∷ v) in
      let fs = both f in
      rw append_assoc (from_next k found g (w ++ a ∷ (v ++ rest)) a (v ++ rest) (next_read c h g w i fs.0 (a ∷ (v ++ rest)) (is_other (kind_of (a ∷ (v ++ rest))) t.comma t.point (kind_is a (v ++ rest) t.comma e) refl)) e
      ∙ from_read k h' gs v r fs.1 (omega arith) (found ++ g ∷ []) rest np nc ∙ rw append_assoc refl)
    where
      both : ((1 ≤ c) ⊎ ((ns : List Name) × (plains_of (g ∷ gs) ≡ Some ns))) → ((1 ≤ c) ⊎ ((nm : Name) × (plain_of g ≡ Some nm))) × ((1 ≤ c) ⊎ ((ns : List Name) × (plains_of gs ≡ Some ns)))
      both (inl e) = (inl e, inl e)
      both (inr e) = let p = names_of g gs e.0 e.1 in (inr p.0, inr p.1)

-- ---- an expression and what is behind it

-- what an expression at the front of a simple statement is part of
pub record Led (n e c : ℕ) (ranges : Bool) (h : ℕ) (x : Stmt) (w rest : List Word) : Type 0 where
  pub lead_is : Tall Lead
  pub reads : (expr n e 1 >>= lead n c ranges) (w ++ rest) ≡ (Ok lead_is, rest)
  pub is : (lead_is ≡ (l.Stmt x, h)) ⊎ ((a : Tall Expr) × (lead_is ≡ (l.Expr a.0, a.1)) × (x ≡ eval_stmt a.0) × (h ≡ a.1 + 1))

pub target_front : (n e : ℕ) → 1 ≤ e → (g : Target) (u : List Word) → IsTarget 0 g u → length u < n → (r : List Word) → Ends 1 r → (x : Tall Expr) × (expr n e 1 (u ++ r) ≡ (Ok x, r)) × (target_of x.0 ≡ Some g)
target_front n e some g u i long r ends =
    let q = target_named 0 g u i in
    ((expr_of q.0, 1), expr_read n e 7 1 (expr_of q.0) u (expr_qualified q.0 u q.1) some long 1 (omega arith) (omega arith) r ends, target_is_name q.0 ∙ ap (λ (z : Target). Some z) q.2)

pub exprs_begin : (h : ℕ) (es : List Expr) (w : List Word) → IsExprs h es w → (rest : List Word) → begins (kind_of (w ++ rest)) ≡ true
exprs_begin _ _ _ (one_expr l h e w i) rest = begins_expr l h e w i rest
exprs_begin _ _ _ (more_exprs a l h h' e es w v i k j) rest = rw append_assoc (begins_expr l h e w i (a ∷ v ++ rest))

pub sign_at : (a : Word) (k : TokenKind) (sg : Sign) → a.kind ≡ k → SignIs k sg → sign_of (Some a.kind) ≡ sg
sign_at a k sg e i = ap (λ (z : TokenKind). sign_of (Some z)) e ∙ i.sign_is

names_same : (a b : List Name) → (λ (z : List Name). Some z) a ≡ (λ (z : List Name). Some z) b → a ≡ b
names_same a b e = cc

-- the one name of a target
pub name_alone : (g : Target) (ns : List Name) → plains_of (g ∷ []) ≡ Some ns → (nm : Name) × (plain_of g ≡ Some nm) × (ns ≡ nm ∷ [])
name_alone g ns e = go (plain_of g) refl
  where
    go : (o : Option Name) → plain_of g ≡ o → (nm : Name) × (plain_of g ≡ Some nm) × (ns ≡ nm ∷ [])
    go None p = absurd (let f : plains_by None (Some []) ≡ Some ns = ap (λ (z : Option Name). plains_by z (Some [])) (sym p) ∙ e in cc)
    go (Some nm) p = (nm, p, names_same ns (nm ∷ []) (sym e ∙ ap (λ (z : Option Name). plains_by z (Some [])) p))

module _ (n e c : ℕ) (ranges : Bool) (low : c ≤ e) (some : 1 ≤ e) where
  led_by : (u r rest : List Word) (x : Tall Expr) (y : Tall Lead) → expr n e 1 (u ++ r) ≡ (Ok x, r) → lead n c ranges x r ≡ (Ok y, rest) → (expr n e 1 >>= lead n c ranges) (u ++ r) ≡ (Ok y, rest)
  led_by u r rest x y i j = rw i j

  one_led : (x : Stmt) (h : ℕ) (w rest : List Word) → (expr n e 1 >>= lead n c ranges) (w ++ rest) ≡ (Ok (l.Stmt x, h), rest) → Led n e c ranges h x w rest
  one_led x h w rest r = record { lead_is = (l.Stmt x, h); reads = r; is = inl refl }

  targets_led : (y : Tall Lead) (gs : List Target) (u : List Word) → IsTargets gs u → 1 ≤ c → (a : Word) (r rest : List Word) → length u < n → Ends 1 (a ∷ r) → is (Some a.kind) t.point ≡ false → is (Some a.kind) t.comma ≡ false
      → ((x : Tall Expr) (g : Target) → target_of x.0 ≡ Some g → gs ≡ g ∷ [] → lead n c ranges x (a ∷ r) ≡ (Ok y, rest)) → given n c ranges gs (a ∷ r) ≡ (Ok y, rest) → (expr n e 1 >>= lead n c ranges) (u ++ a ∷ r) ≡ (Ok y, rest)
  targets_led y gs u i le a r rest long ends np nc single several = go 0 gs u i refl long single several
    where
      go : (h : ℕ) (gs : List Target) (u : List Word) → IsRow t.comma IsTarget h gs u → h ≡ 0 → length u < n → ((x : Tall Expr) (g : Target) → target_of x.0 ≡ Some g → gs ≡ g ∷ [] → lead n c ranges x (a ∷ r) ≡ (Ok y, rest)) → given n c ranges gs (a ∷ r) ≡ (Ok y, rest) → (expr n e 1 >>= lead n c ranges) (u ++ a ∷ r) ≡ (Ok y, rest)
      go _ _ _ (one_item h g w i) z long single several =
          let p = target_front n e some g w (subst (λ (q : ℕ). IsTarget q g w) z i) long (a ∷ r) ends in
          led_by w (a ∷ r) rest p.0 y p.1 (single p.0 g p.2 refl)
      go _ _ _ (more_items b h h' g gs w v i k j) z long single several =
          let len = length-append w (b ∷ v) in
          let p = target_front n e some g w (subst (λ (q : ℕ). IsTarget q g w) (let m : h ≤ max h h' = omega arith in omega arith) i) (omega arith) (b ∷ (v ++ a ∷ r)) (ends_by 1 (b ∷ (v ++ a ∷ r)) t.comma (kind_is b (v ++ a ∷ r) t.comma k) plain_comma) in
          rw append_assoc (led_by w (b ∷ (v ++ a ∷ r)) rest p.0 y p.1
          (lead_comma n c ranges p.0 g p.2 (plain_of g) refl ranges refl le b (v ++ a ∷ r) (sign_at b t.comma s.Comma k sign_comma)
          ∙ from_read n c ranges n h' gs v j (inl le) (omega arith) (g ∷ []) (a ∷ r) np nc ∙ several))

  pub led_read : (h : ℕ) (x : Stmt) (w : List Word) → IsSimple h x w → h ≤ suc c → length w < n → (rest : List Word) → StmtEnds rest → Led n e c ranges h x w rest
  led_read _ _ _ (evaluated l' h x w i) le long rest f = record {
    lead_is = (l.Expr x, h);
    reads = led_by w rest rest (x, h) (l.Expr x, h) (expr_read n e l' h x w i (omega arith) long 1 (leveled l' h x w i) (omega arith) rest f.ends) (lead_other n c ranges (x, h) rest f.sign);
    is = inr ((x, h), refl, refl, refl);
  }
  led_read _ _ _ (sent' a la lb h h' x y u v i k j) le long rest f =
      let len = length-append u (a ∷ v) in
      one_led (stmt_node (expr_start x) (expr_end y) (statement.Send x y)) (max h h' + 1) (u ++ a ∷ v) rest (rw append_assoc (led_by u (a ∷ (v ++ rest)) rest (x, h) _
      (expr_read n e la h x u i (omega arith) (omega arith) 1 (leveled la h x u i) (omega arith) (a ∷ (v ++ rest)) (ends_by 1 (a ∷ (v ++ rest)) t.arrow (kind_is a (v ++ rest) t.arrow k) plain_arrow))
      (lead_send n c ranges (x, h) a y h' (v ++ rest) rest (sign_at a t.arrow s.Arrow k sign_arrow) (omega arith) (expr_read n c lb h' y v j (omega arith) (omega arith) 1 (leveled lb h' y v j) (omega arith) rest f.ends))))
  led_read _ _ _ (raised a g u i k) le long rest f =
      let len = length-append u (a ∷ []) in
      let p = target_front n e some g u i (omega arith) (a ∷ rest) (ends_by 1 (a ∷ rest) t.increment (kind_is a rest t.increment k) sign_increment.plain) in
      one_led (stmt_node (target_start g) a.span.end (statement.Up g)) 1 (u ++ a ∷ []) rest (rw append_assoc (led_by u (a ∷ rest) rest p.0 _ p.1 (lead_up n c ranges p.0 g p.2 a rest (sign_at a t.increment s.Up k sign_increment))))
  led_read _ _ _ (lowered a g u i k) le long rest f =
      let len = length-append u (a ∷ []) in
      let p = target_front n e some g u i (omega arith) (a ∷ rest) (ends_by 1 (a ∷ rest) t.decrement (kind_is a rest t.decrement k) sign_decrement.plain) in
      one_led (stmt_node (target_start g) a.span.end (statement.Down g)) 1 (u ++ a ∷ []) rest (rw append_assoc (led_by u (a ∷ rest) rest p.0 _ p.1 (lead_down n c ranges p.0 g p.2 a rest (sign_at a t.decrement s.Down k sign_decrement))))
  led_read _ _ _ (updated' a o l' h g y u v i k j) le long rest f =
      let len = length-append u (a ∷ v) in
      let some' = tall l' h y v j in
      let up = update_of o a.kind k in
      let p = target_front n e some g u i (omega arith) (a ∷ (v ++ rest)) (ends_by 1 (a ∷ (v ++ rest)) a.kind refl up.plain) in
      one_led (stmt_node (target_start g) (expr_end y) (statement.Update g o y)) (h + 1) (u ++ a ∷ v) rest (rw append_assoc (led_by u (a ∷ (v ++ rest)) rest p.0 _ p.1
      (lead_update n c ranges p.0 g p.2 o a y h (v ++ rest) rest up.sign_is (omega arith) (expr_read n c l' h y v j (omega arith) (omega arith) 1 (leveled l' h y v j) (omega arith) rest f.ends))))
  led_read _ _ _ (assigned' a h gs es u v i k j) le long rest f =
      let len = length-append u (a ∷ v) in
      let some' = exprs_tall h es v j in
      let read = exprs_read n c h es v j (omega arith) (omega arith) rest f.ends f.no_comma in
      let done = assigned_read n c ranges gs a es h (v ++ rest) rest (omega arith) read in
      one_led (stmt_node (targets_start gs) (exprs_end 0 es) (statement.Assign gs es)) (h + 1) (u ++ a ∷ v) rest (rw append_assoc (targets_led _ gs u i (omega arith) a (v ++ rest) rest (omega arith) (ends_by 1 (a ∷ (v ++ rest)) t.assign (kind_is a (v ++ rest) t.assign k) plain_assign)
      (is_other (Some a.kind) t.assign t.point (kind_is a [] t.assign k) refl) (is_other (Some a.kind) t.assign t.comma (kind_is a [] t.assign k) refl)
      (λ x g tg one. lead_assign n c ranges x g tg a (v ++ rest) (sign_at a t.assign s.Assign k sign_assign) ∙ subst (λ (z : List Target). assigned n c z (a ∷ (v ++ rest)) ≡ (Ok (l.Stmt (stmt_node (targets_start gs) (exprs_end 0 es) (statement.Assign gs es)), h + 1), rest)) one done)
      (given_assign n c ranges gs a (v ++ rest) k ∙ done)))
  led_read _ _ _ (defined' a h ns es u v i k j) le long rest f =
      let len = length-append u (a ∷ v) in
      let some' = exprs_tall h es v j in
      let read = exprs_read n c h es v j (omega arith) (omega arith) rest f.ends f.no_comma in
      let done = defined_read n c ranges ranges ns a es h (v ++ rest) rest (omega arith) (exprs_begin h es v j rest) read in
      let p = row_targets 0 ns u i in
      one_led (stmt_node (names_start ns) (exprs_end 0 es) (statement.Define ns es)) (h + 1) (u ++ a ∷ v) rest (rw append_assoc (targets_led _ p.0 u p.1 (omega arith) a (v ++ rest) rest (omega arith) (ends_by 1 (a ∷ (v ++ rest)) t.define (kind_is a (v ++ rest) t.define k) plain_define)
      (is_other (Some a.kind) t.define t.point (kind_is a [] t.define k) refl) (is_other (Some a.kind) t.define t.comma (kind_is a [] t.define k) refl)
      (λ x g tg one. let q = name_alone g ns (ap plains_of (sym one) ∙ p.2) in lead_define n c ranges x g tg q.0 q.1 a (v ++ rest) (sign_at a t.define s.Define k sign_define) ∙ subst (λ (z : List Name). defined n c ranges z (a ∷ (v ++ rest)) ≡ (Ok (l.Stmt (stmt_node (names_start ns) (exprs_end 0 es) (statement.Define ns es)), h + 1), rest)) q.2 done)
      (given_define n c ranges p.0 ns p.2 a (v ++ rest) k ∙ done)))

-- ---- where no expression may stand

no_operator_ends : (rest : List Word) → Ends 1 rest → goes_on (kind_of rest) ≡ false
unfolding goes_on
no_operator_ends rest f = rw (f.suffix.no_call, f.suffix.no_index) (go (binary_op (kind_of rest)) refl)
  where
    go : (o : Option BinaryOp) → binary_op (kind_of rest) ≡ o → is_some (binary_op (kind_of rest)) ≡ false
    go None e = rw e refl
    go (Some p) e = let a = f.lower p e in let b = level_some p in absurd (omega arith)

-- a target and `++`, and a target and `--`
bare_raised : (labels : Bool) (g : Target) (u : List Word) → IsTarget 0 g u → (a : Word) → a.kind ≡ t.increment → (rest : List Word) → bare labels (u ++ a ∷ rest) ≡ (Ok (stmt_node (target_start g) a.span.end (statement.Up g), 1), rest)
unfolding bare take_as
bare_raised labels g u i a k rest =
    let q = target_named 0 g u i in
    rw (qualified_kind q.0 u q.1 (a ∷ rest)) (rw (qualified_read 1 (omega arith) q.0 u q.1 (a ∷ rest) (is_other (kind_of (a ∷ rest)) t.increment t.point (kind_is a rest t.increment k) refl), sign_at a t.increment s.Up k sign_increment, q.2, q.3) refl)

bare_lowered : (labels : Bool) (g : Target) (u : List Word) → IsTarget 0 g u → (a : Word) → a.kind ≡ t.decrement → (rest : List Word) → bare labels (u ++ a ∷ rest) ≡ (Ok (stmt_node (target_start g) a.span.end (statement.Down g), 1), rest)
unfolding bare take_as
bare_lowered labels g u i a k rest =
    let q = target_named 0 g u i in
    rw (qualified_kind q.0 u q.1 (a ∷ rest)) (rw (qualified_read 1 (omega arith) q.0 u q.1 (a ∷ rest) (is_other (kind_of (a ∷ rest)) t.decrement t.point (kind_is a rest t.decrement k) refl), sign_at a t.decrement s.Down k sign_decrement, q.2, q.3) refl)

-- at the last level there is no other statement
pub bare_read : (labels : Bool) (h : ℕ) (x : Stmt) (w : List Word) → IsSimple h x w → h ≤ 1 → (rest : List Word) → bare labels (w ++ rest) ≡ (Ok (x, h), rest)
bare_read labels _ _ _ (evaluated l' h x w i) le rest = let some = tall l' h x w i in absurd (omega arith)
bare_read labels _ _ _ (sent' a la lb h h' x y u v i k j) le rest = let some = tall la h x u i in absurd (omega arith)
bare_read labels _ _ _ (raised a g u i k) le rest = rw append_assoc (bare_raised labels g u i a k rest)
bare_read labels _ _ _ (lowered a g u i k) le rest = rw append_assoc (bare_lowered labels g u i a k rest)
bare_read labels _ _ _ (updated' a o l' h g y u v i k j) le rest = let some = tall l' h y v j in absurd (omega arith)
bare_read labels _ _ _ (assigned' a h gs es u v i k j) le rest = let some = exprs_tall h es v j in absurd (omega arith)
bare_read labels _ _ _ (defined' a h ns es u v i k j) le rest = let some = exprs_tall h es v j in absurd (omega arith)

-- ---- simple statements

stmt_is : (n e c : ℕ) (h : ℕ) (x : Stmt) (w rest : List Word) → (y : Tall Lead) → ((y ≡ (l.Stmt x, h)) ⊎ ((a : Tall Expr) × (y ≡ (l.Expr a.0, a.1)) × (x ≡ eval_stmt a.0) × (h ≡ a.1 + 1))) → stmt_by y rest ≡ (Ok (x, h), rest)
stmt_is n e c h x w rest y (inl i) = rw i refl
stmt_is n e c h x w rest y (inr i) = rw (i.1, i.2, i.3) refl

pub simple_read : (n c h : ℕ) (x : Stmt) (w : List Word) → IsSimple h x w → h ≤ suc c → length w < n → (rest : List Word) → StmtEnds rest → simple n c (w ++ rest) ≡ (Ok (x, h), rest)
unfolding simple
simple_read n zero h x w i le long rest f = bare_read false h x w i le rest
simple_read n (suc c) h x w i le long rest f =
    let r = led_read n (suc c) (suc c) false (omega arith) (omega arith) h x w i le long rest f in
    sym (regroup (expr n (suc c) 1) (lead n (suc c) false) stmt_by (w ++ rest)) ∙ rw r.reads (stmt_is n (suc c) (suc c) h x w rest r.lead_is r.is)
