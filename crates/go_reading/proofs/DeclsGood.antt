-- The readers of declarations are good.
use Rattle.std.proofs.Common.{◌≡◌, ℕ, zero, suc, ◌≤◌, max, List, [], ◌∷◌, ◌++◌, Some, refl, sym, ◌∙◌, append_assoc, arith}
use Rattle.std.proofs.lemmas.List.{append-nil}
use Rattle.go_ast.specs.declared.span.Span.{Span}
use Rattle.go_ast.specs.declared.name.Name.{Name}
use Rattle.go_ast.specs.declared.token.TokenKind.TheVariants as kind
use Rattle.go_ast.specs.declared.expr.TypeExpr.{TypeExpr}
use Rattle.go_ast.specs.declared.decl.Param.{Param}
use Rattle.go_ast.specs.declared.decl.Decl.{Decl}
use Rattle.go_ast.specs.declared.decl.Decl.TheVariants as decl
use Rattle.go_grammar.specs.Words.{Word}
use Rattle.go_grammar.specs.Terminals as t
use Rattle.go_grammar.specs.Trees.{name_of, const_end, var_end}
use Rattle.go_grammar.specs.Lists.{IsRow, one_item, more_items, MayBe, no_group}
use Rattle.go_grammar.specs.Types.{name, IsNames, IsType}
use Rattle.go_grammar.specs.Simple.{IsConstSpec, IsVarSpec}
use Rattle.go_grammar.specs.Decls.{params_of, IsParams, one_group, more_groups, IsMaybeParams, no_params, some_params, IsResults, no_results, one_result, results as results', IsDecl, constants, variables, function}
use Rattle.go_reading.specs.declared.fault.Fault.{Fault}
use Rattle.go_reading.specs.declared.fault.Fault.TheVariants.{TooDeep, TooMany, Exhausted}
use Rattle.go_reading.specs.declared.header.Braced.{Braced}
use Rattle.go_reading.specs.Kinds.{begins_type}
use Rattle.go_reading.specs.Input.{Tall, kind_of, span_of, named_of}
use Rattle.go_reading.specs.Types.{names, type_}
use Rattle.go_reading.specs.Specs.{consts, vars}
use Rattle.go_reading.specs.Stmts.{block}
use Rattle.go_reading.specs.Decls.{params_from, params, results, func, declaration}
use Rattle.go_reading.proofs.Good.{Room, ◌⊑◌, Form, Good, Filled, Rises, seq, weaker, fewer, good_pure, good_refuse, good_exhausted, choice, by_test, take_then, expect_then, IsTaken, a_word}
use Rattle.go_reading.proofs.Rows.{Within, within_rises, ListFrom, list_from_rises, list_good, GroupOf, group_rises}
use Rattle.go_reading.proofs.TypesGood.{NamesOf, names_rise, names_good, TypeOf, type_good, a_type, is_a_type}
use Rattle.go_reading.proofs.SpecsGood.{consts_good, vars_good}
use Rattle.go_reading.proofs.Clauses.{decl_rises}
use Rattle.go_reading.proofs.BlockForm.{BlockOf, block_of_rises, BlockGood}
use Rattle.go_grammar.specs.declared.form.Form.{Form as TextForm}

module _ (form : TextForm) where
  -- ---- parameters

  group_end : (found : List Param) (h : ℕ) (b : Room) (ns : List Name) (x : Tall TypeExpr) (u v c : List Word) → IsNames ns u → TypeOf b x v → MayBe t.comma c → ListFrom t.comma IsParams found h b (found ++ params_of ns x.0, max h x.1) (u ++ (v ++ c))
  group_end found h b ns x u v c iu iv may = record { items = params_of ns x.0; tall = x.1; text = u ++ v; last = c; value = refl; row = one_group x.1 ns x.0 u v iu iv.0; may = may; both = sym (append_assoc u v c); fits = iv.1 }

  group_more : (found : List Param) (h : ℕ) (b : Room) (ns : List Name) (x : Tall TypeExpr) (y : Tall (List Param)) (u v w : List Word) (c : Word) → IsNames ns u → TypeOf b x v → c.kind ≡ t.comma → ListFrom t.comma IsParams (found ++ params_of ns x.0) (max h x.1) b y w
      → ListFrom t.comma IsParams found h b y (u ++ (v ++ c ∷ w))
  group_more found h b ns x y u v w c iu iv k r =
      let m : max (max h x.1) r.tall ≡ max h (max x.1 r.tall) = omega arith in
      let low = iv.1 in
      let low' = r.fits in
      record {
        items = params_of ns x.0 ++ r.items;
        tall = max x.1 r.tall;
        text = u ++ (v ++ c ∷ r.text);
        last = r.last;
        value = r.value ∙ rw (append_assoc, m) refl;
        row = more_groups c x.1 r.tall ns x.0 r.items u v r.text iu iv.0 k r.row;
        may = r.may;
        both = rw (append_assoc, append_assoc, r.both) refl;
        fits = omega arith;
      }

  -- the parameters in their parentheses
  pub record ParamsOf (b : Room) (y : Tall (List Param)) (w : List Word) : Type 0 where
    pub left : Word
    pub right : Word
    pub text : List Word
    pub both : w ≡ left ∷ (text ++ right ∷ [])
    pub opens : left.kind ≡ t.left_parenthesis
    pub all : IsMaybeParams y.1 y.0 text
    pub closes : right.kind ≡ t.right_parenthesis
    pub fits : y.1 ≤ b.0

  pub params_rise : Rises ParamsOf
  params_rise b c le y w s = record { left = s.left; right = s.right; text = s.text; both = s.both; opens = s.opens; all = s.all; closes = s.closes; fits = let f = s.fits in let l = le.0 in omega arith }

  abbrev pub MaybeParamsOf : Form (Tall (List Param))
  MaybeParamsOf = Within IsMaybeParams

  some_of : (b : Room) (y : Tall (List Param)) (w : List Word) → ListFrom t.comma IsParams [] 0 b y w → MaybeParamsOf b y w
  some_of b y w r = let m : max 0 r.tall ≡ r.tall = omega arith in rw (r.both, r.value, m) (some_params r.tall r.items r.text r.last r.row r.may, r.fits)

  results_of : (b : Room) (y : Tall (List TypeExpr)) (p q : Span) (u v w : List Word) → IsTaken t.left_parenthesis span_of b p u → ListFrom t.comma (IsRow t.comma IsType) [] 0 b y v → IsTaken t.right_parenthesis span_of b q w → Within IsResults b y (u ++ (v ++ (w ++ [])))
  results_of b y p q u v w iu r iw =
      let m : max 0 r.tall ≡ r.tall = omega arith in
      rw (iu.1, iw.1, r.both, r.value, m, append_assoc) (results' iu.0 iw.0 r.tall r.items r.text r.last iu.2 r.row r.may iw.2, r.fits)

  -- ---- declarations

  abbrev pub DeclOf : Form (Tall Decl)
  DeclOf b y w = IsDecl form b.1 y.1 y.0 w × (y.1 ≤ b.0)

  func_of : (b : Room) (nm : Name × ℕ) (ps : Tall (List Param)) (rs : Tall (List TypeExpr)) (x : Tall Braced) (sp : Span) (k n u v w : List Word)
      → IsTaken t.func_word span_of b sp k → IsTaken kind.Name named_of b nm n → ParamsOf b ps u → Within IsResults b rs v → BlockOf form b x w
      → DeclOf b (decl.Func (record { name = nm.0; params = ps.0; results = rs.0; body = x.0.block; span = record { start = sp.start; end = x.0.end } }), max (max ps.1 rs.1) x.1) (k ++ (n ++ (u ++ (v ++ (w ++ [])))))
  func_of b nm ps rs x sp k n u v w ik iname iu iv iw =
      let f = iu.fits in
      let g = iv.1 in
      let h = iw.1 in
      rw (append-nil, ik.1, ik.3, iname.1, iname.3, iu.both, append_assoc)
      (function ik.0 iname.0 iu.left iu.right ps.1 rs.1 x.1 x.0.end ps.0 rs.0 x.0.block iu.text v w ik.2 iname.2 iu.opens iu.all iu.closes iv.0 iw.0, omega arith)

  pub decl_of_rises : Rises DeclOf
  decl_of_rises b c le y w s = (decl_rises form b.1 c.1 le.1 y.1 y.0 w s.0, let f = s.1 in let l = le.0 in omega arith)

  pub a_const : (b : Room) → Filled b DeclOf
  a_const b = let k = a_word t.const_word in let l = a_word t.left_parenthesis in let r = a_word t.right_parenthesis in ((decl.Const [], 0), k ∷ l ∷ r ∷ [], (constants k 0 r.span.end [] (l ∷ r ∷ []) refl (no_group l r refl refl), omega arith))

  module _ (K : Fault → Type 0) (never : K Exhausted → ⊥) (n n' : ℕ) (len : n ≤ n') (d d' : Room) (led : d ⊑ d') (deep : K TooDeep → d.0 ≡ d'.0) (some : 1 ≤ d.0) where
    params_from_good : (k k' : ℕ) → k ≤ n → k ≤ k' → (found : List Param) (h : ℕ) (ts : List Word) → Good k d K (ListFrom t.comma IsParams found h) (params_from n d.0 k found h) (params_from n' d'.0 k' found h) ts
    unfolding params_from
    params_from_good zero k' ln le found h ts = good_exhausted d K (ListFrom t.comma IsParams found h) _ ts never (λ b db.
        let a = a_word kind.Name in
        let l = db.0 in
        ((found ++ params_of (name_of a ∷ []) a_type, max h 1), a ∷ [] ++ (a ∷ [] ++ []), group_end found h b (name_of a ∷ []) (a_type, 1) (a ∷ []) (a ∷ []) [] (one_item 0 (name_of a) (a ∷ []) (name a refl)) (is_a_type, omega arith) tt))
    params_from_good (suc k) zero ln le found h ts = absurd (omega arith)
    params_from_good (suc k) (suc k') ln le found h ts =
        seq (suc k) d K NamesOf _ (names n') _ _ ts _ _ names_rise (fewer n (suc k) d K _ _ _ _ _ ln (names_good K never n n' len d ts)) (λ ns _ r.
        seq (suc k) d K TypeOf _ (type_ d'.0) _ _ r _ _ (within_rises IsType) (fewer n (suc k) d K _ _ _ _ _ ln (type_good K n d.0 d'.0 d.1 d'.1 led deep some r)) (λ x _ r2.
        choice (suc k) d K _ t.comma _ _ _ _ r2
        (λ here. take_then (suc k) k d K _ t.comma span_of _ _ r2 (omega arith) here (λ sp r3.
        choice k d K _ t.right_parenthesis _ _ _ _ r3
        (λ over. good_pure k d K _ _ r3 (λ b db c ic v iv u iu. group_end found h b ns x u v (c ++ []) iu iv (rw ic.1 (ic.2, refl))))
        (λ other. weaker k d K (ListFrom t.comma IsParams (found ++ params_of ns x.0) (max h x.1)) _ _ _ _ _ (λ b db y w a c ic v iv u iu. rw ic.1 (group_more found h b ns x y u v w ic.0 iu iv ic.2 a)) (params_from_good k k' (omega arith) (omega arith) (found ++ params_of ns x.0) (max h x.1) r3))))
        (λ other. good_pure (suc k) d K _ _ r2 (λ b db v iv u iu. group_end found h b ns x u v [] iu iv tt))))

    params_good : (ts : List Word) → Good n d K ParamsOf (params n d.0) (params n' d'.0) ts
    unfolding params
    params_good ts = expect_then n d K _ t.left_parenthesis span_of _ _ ts (λ p r.
        seq n d K MaybeParamsOf _ _ _ _ r _ _ (within_rises IsMaybeParams)
        (choice n d K MaybeParamsOf t.right_parenthesis _ _ _ _ r
        (λ over. good_pure n d K _ _ r (λ b db. (no_params, omega arith)))
        (λ other. weaker n d K (ListFrom t.comma IsParams [] 0) MaybeParamsOf _ _ _ _ (λ b db. some_of b) (params_from_good n n' (omega arith) len [] 0 r))) (λ xs _ r2.
        expect_then n d K _ t.right_parenthesis span_of _ _ r2 (λ q r3.
        good_pure n d K _ _ r3 (λ b db w iw v iv u iu. record { left = iu.0; right = iw.0; text = v; both = rw (iu.1, iw.1) refl; opens = iu.2; all = iv.0; closes = iw.2; fits = iv.1 }))))

    results_good : (ts : List Word) → Good n d K (Within IsResults) (results n d.0) (results n' d'.0) ts
    unfolding results
    results_good ts = choice n d K _ t.left_parenthesis _ _ _ _ ts
        (λ here. take_then n n d K _ t.left_parenthesis span_of _ _ ts (omega arith) here (λ p r.
        seq n d K (ListFrom t.comma (IsRow t.comma IsType) [] 0) _ _ _ _ r _ _ (list_from_rises t.comma (IsRow t.comma IsType) [] 0)
        (list_good t.comma t.right_parenthesis IsType (IsRow t.comma IsType) (λ h x w i. one_item h x w i) (λ s h h' x xs w v i e j. more_items s h h' x xs w v i e j) K never n d (type_ d.0) (type_ d'.0) (λ ts'. type_good K n d.0 d'.0 d.1 d'.1 led deep some ts') n n' (omega arith) len [] 0 r) (λ xs _ r2.
        expect_then n d K _ t.right_parenthesis span_of _ _ r2 (λ q r3.
        good_pure n d K _ _ r3 (λ b db w iw v iv u iu. results_of b xs p q u v w iu iv iw)))))
        (λ other. by_test n d K _ begins_type _ _ _ _ ts
        (λ here. seq n d K TypeOf _ (type_ d'.0) _ _ ts _ _ (within_rises IsType) (type_good K n d.0 d'.0 d.1 d'.1 led deep some ts) (λ x _ r. good_pure n d K _ _ r (λ b db u iu. rw append-nil (one_result x.1 x.0 u iu.0, iu.1))))
        (λ none. good_pure n d K _ _ ts (λ b db. (no_results, omega arith))))

    module _ (turns : 1 ≤ n) (many : K TooMany → d.1 ≡ d'.1) (block_good : BlockGood form K) where
      func_good : (ts : List Word) → kind_of ts ≡ Some t.func_word → Good n d K DeclOf (func form n d.1 d.0) (func form n' d'.1 d'.0) ts
      unfolding func
      func_good ts is' = take_then n n d K _ t.func_word span_of _ _ ts (omega arith) is' (λ sp r.
          expect_then n d K _ kind.Name named_of _ _ r (λ x r2.
          seq n d K ParamsOf _ (params n' d'.0) _ _ r2 _ _ params_rise (params_good r2) (λ ps _ r3.
          seq n d K (Within IsResults) _ (results n' d'.0) _ _ r3 _ _ (within_rises IsResults) (results_good r3) (λ rs _ r4.
          seq n d K (BlockOf form) _ (block form n' d'.1 d'.0) _ _ r4 _ _ (block_of_rises form) (block_good n n' turns len d d' led deep many some r4) (λ b _ r5.
          good_pure n d K _ _ r5 (λ c dc w iw v iv u iu z iz k ik. func_of c x ps rs b sp k z u v w ik iz iu iv iw))))))

      pub declaration_good : (ts : List Word) → Good n d K DeclOf (declaration form n d.1 d.0) (declaration form n' d'.1 d'.0) ts
      unfolding declaration
      declaration_good ts = choice n d K DeclOf t.const_word _ _ _ _ ts
          (λ here. take_then n n d K _ t.const_word span_of _ _ ts (omega arith) here (λ sp r.
          seq n d K (GroupOf IsConstSpec const_end) _ (consts n' d'.0) _ _ r _ _ (group_rises IsConstSpec const_end) (consts_good K never n n' len d d' led deep r) (λ xs _ r2.
          good_pure n d K _ _ r2 (λ b db v iv u iu. rw (append-nil, iu.1) (constants iu.0 xs.1 xs.0.1 xs.0.0 v iu.2 iv.0, iv.1)))))
          (λ _. choice n d K DeclOf t.var_word _ _ _ _ ts
          (λ here. take_then n n d K _ t.var_word span_of _ _ ts (omega arith) here (λ sp r.
          seq n d K (GroupOf IsVarSpec var_end) _ (vars n' d'.0) _ _ r _ _ (group_rises IsVarSpec var_end) (vars_good K never n n' len d d' led deep r) (λ xs _ r2.
          good_pure n d K _ _ r2 (λ b db v iv u iu. rw (append-nil, iu.1) (variables iu.0 xs.1 xs.0.1 xs.0.0 v iu.2 iv.0, iv.1)))))
          (λ _. choice n d K DeclOf t.func_word _ _ _ _ ts (λ here. func_good ts here) (λ _. good_refuse n d K DeclOf ts (λ b db. a_const b))))
