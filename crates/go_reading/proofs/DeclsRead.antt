-- Declarations that the grammar derives are read.
use Rattle.std.proofs.Common.{◌≡◌, ℕ, zero, suc, ◌≤◌, ◌<◌, max, true, false, List, [], ◌∷◌, ◌++◌, Option, Some, None, length, Ok, refl, ap, ◌∙◌, append_assoc, arith}
use Rattle.std.proofs.lemmas.List.{length-append}
use Rattle.go_ast.specs.declared.name.Name.{Name}
use Rattle.go_ast.specs.declared.token.TokenKind.{TokenKind}
use Rattle.go_ast.specs.declared.token.TokenKind.TheVariants as kind
use Rattle.go_ast.specs.declared.expr.TypeExpr.{TypeExpr}
use Rattle.go_ast.specs.declared.block.Block.{Block}
use Rattle.go_ast.specs.declared.block.ConstSpec.{ConstSpec}
use Rattle.go_ast.specs.declared.block.VarSpec.{VarSpec}
use Rattle.go_ast.specs.declared.decl.Param.{Param}
use Rattle.go_ast.specs.declared.decl.Decl.{Decl}
use Rattle.go_ast.specs.declared.decl.Decl.TheVariants as decl
use Rattle.go_grammar.specs.Words.{Word}
use Rattle.go_grammar.specs.Terminals as t
use Rattle.go_grammar.specs.Trees.{name_of}
use Rattle.go_grammar.specs.Lists.{MayBe}
use Rattle.go_grammar.specs.Types.{IsType}
use Rattle.go_grammar.specs.Blocks.{IsBlock, braces}
use Rattle.go_grammar.specs.Decls.{params_of, IsParams, one_group, more_groups, IsMaybeParams, no_params, some_params, IsResults, no_results, one_result, results as results', IsDecl, constants, variables, function}
use Rattle.go_reading.specs.Kinds.{same, is, begins_type}
use Rattle.go_reading.specs.Input.{kind_of, take_as, expect_as}
use Rattle.go_reading.specs.Lists.{list_from}
use Rattle.go_reading.specs.Types.{names, type_}
use Rattle.go_reading.specs.Specs.{consts, vars}
use Rattle.go_reading.specs.Stmts.{block}
use Rattle.go_reading.specs.Decls.{params_from, params, results, func, declaration}
use Rattle.go_reading.proofs.Good.{is_self}
use Rattle.go_reading.proofs.RowsRead.{sees, kind_is, is_other, list_reads}
use Rattle.go_reading.proofs.TypesRead.{names_read, type_read, type_begins}
use Rattle.go_reading.proofs.SpecsRead.{spec_ends, consts_read, vars_read, names_begin, type_not_comma}
use Rattle.go_reading.proofs.Ends.{plain_semicolon}
use Rattle.go_reading.proofs.BlockForm.{BlockRead}
use Rattle.go_grammar.specs.declared.form.Form.{Form as TextForm}

module _ (form : TextForm) where
  -- ---- parameters

  group_last : (n d k : ℕ) (found : List Param) (h0 h : ℕ) (ns : List Name) (of : TypeExpr) (ts us rest : List Word) → names n ts ≡ (Ok ns, us) → type_ d us ≡ (Ok (of, h), rest) → is (kind_of rest) t.comma ≡ false
      → params_from n d (suc k) found h0 ts ≡ (Ok (found ++ params_of ns of, max h0 h), rest)
  unfolding params_from
  group_last n d k found h0 h ns of ts us rest a b other = rw (a, b, other) refl

  group_sep_last : (n d k : ℕ) (found : List Param) (h0 h : ℕ) (ns : List Name) (of : TypeExpr) (c : Word) (ts us rest : List Word) → names n ts ≡ (Ok ns, us) → type_ d us ≡ (Ok (of, h), c ∷ rest) → c.kind ≡ t.comma → is (kind_of rest) t.right_parenthesis ≡ true
      → params_from n d (suc k) found h0 ts ≡ (Ok (found ++ params_of ns of, max h0 h), rest)
  unfolding params_from take_as
  group_sep_last n d k found h0 h ns of c ts us rest a b kc over = rw (a, b, sees c rest t.comma kc, over) refl

  group_next : (n d k : ℕ) (found : List Param) (h0 h : ℕ) (ns : List Name) (of : TypeExpr) (c : Word) (ts us rest : List Word) → names n ts ≡ (Ok ns, us) → type_ d us ≡ (Ok (of, h), c ∷ rest) → c.kind ≡ t.comma → is (kind_of rest) t.right_parenthesis ≡ false
      → params_from n d (suc k) found h0 ts ≡ params_from n d k (found ++ params_of ns of) (max h0 h) rest
  unfolding params_from take_as
  group_next n d k found h0 h ns of c ts us rest a b kc other = rw (a, b, sees c rest t.comma kc, other) refl

  params_begin : (h : ℕ) (ps : List Param) (w : List Word) → IsParams h ps w → (rest : List Word) → kind_of (w ++ rest) ≡ Some kind.Name
  params_begin _ _ _ (one_group h ns of u w i j) rest = rw append_assoc (names_begin ns u i (w ++ rest))
  params_begin _ _ _ (more_groups c h h' ns of ps u w v i j k q) rest = rw append_assoc (names_begin ns u i (w ++ c ∷ v ++ rest))

  no_point_at : (s : Word) (v : List Word) (k : TokenKind) → s.kind ≡ k → same k t.point ≡ false → is (kind_of (s ∷ v)) t.point ≡ false
  no_point_at s v k e f = is_other (kind_of (s ∷ v)) k t.point (kind_is s v k e) f

  params_from_read : (n d h : ℕ) (ps : List Param) (w : List Word) → IsParams h ps w → h ≤ d → length w < n → (k : ℕ) → length w < k → (found : List Param) (h0 : ℕ) (c rest : List Word) → MayBe t.comma c → kind_of rest ≡ Some t.right_parenthesis
      → params_from n d k found h0 (w ++ (c ++ rest)) ≡ (Ok (found ++ ps, max h0 h), rest)
  params_from_read n d _ _ _ (one_group h ns of u w i j) le long zero lt found h0 c rest may over = absurd (omega arith)
  params_from_read n d _ _ _ (one_group h ns of u w i j) le long (suc k) lt found h0 [] rest may over =
      let len = length-append u w in
      rw append_assoc (group_last n d k found h0 h ns of (u ++ (w ++ rest)) (w ++ rest) rest (names_read n ns u i (omega arith) (w ++ rest) (type_not_comma h of w j rest)) (type_read d h of w j le rest (is_other (kind_of rest) t.right_parenthesis t.point over refl)) (is_other (kind_of rest) t.right_parenthesis t.comma over refl))
  params_from_read n d _ _ _ (one_group h ns of u w i j) le long (suc k) lt found h0 (c ∷ cs) rest may over =
      let len = length-append u w in
      let is-one : c ∷ cs ++ rest ≡ c ∷ rest = ap (λ (ys : List Word). c ∷ (ys ++ rest)) may.1 in
      rw (is-one, append_assoc) (group_sep_last n d k found h0 h ns of c (u ++ (w ++ c ∷ rest)) (w ++ c ∷ rest) rest (names_read n ns u i (omega arith) (w ++ c ∷ rest) (type_not_comma h of w j (c ∷ rest))) (type_read d h of w j le (c ∷ rest) (no_point_at c rest t.comma may.0 refl)) may.0 (is_self (kind_of rest) t.right_parenthesis over))
  params_from_read n d _ _ _ (more_groups c h h' ns of ps u w v i j kc q) le long zero lt found h0 s rest may over = absurd (omega arith)
  params_from_read n d _ _ _ (more_groups c h h' ns of ps u w v i j kc q) le long (suc k) lt found h0 s rest may over =
      let len = length-append u (w ++ c ∷ v) in
      let len' = length-append w (c ∷ v) in
      let m : max (max h0 h) h' ≡ max h0 (max h h') = omega arith in
      rw (append_assoc, append_assoc) (group_next n d k found h0 h ns of c (u ++ (w ++ c ∷ (v ++ (s ++ rest)))) (w ++ c ∷ (v ++ (s ++ rest))) (v ++ (s ++ rest)) (names_read n ns u i (omega arith) (w ++ c ∷ (v ++ (s ++ rest))) (type_not_comma h of w j (c ∷ (v ++ (s ++ rest)))))
      (type_read d h of w j (omega arith) (c ∷ (v ++ (s ++ rest))) (no_point_at c (v ++ (s ++ rest)) t.comma kc refl)) kc (is_other (kind_of (v ++ (s ++ rest))) kind.Name t.right_parenthesis (params_begin h' ps v q (s ++ rest)) refl)
      ∙ params_from_read n d h' ps v q (omega arith) (omega arith) k (omega arith) (found ++ params_of ns of) (max h0 h) s rest may over ∙ rw (append_assoc, m) refl)

  no_params_step : (n d : ℕ) (a b : Word) (rest : List Word) → a.kind ≡ t.left_parenthesis → b.kind ≡ t.right_parenthesis → params n d (a ∷ b ∷ rest) ≡ (Ok ([], 0), rest)
  unfolding params expect_as
  no_params_step n d a b rest ka kb = rw (sees a (b ∷ rest) t.left_parenthesis ka, sees b rest t.right_parenthesis kb, sees b rest t.right_parenthesis kb) refl

  params_step : (n d h : ℕ) (ps : List Param) (a b : Word) (ts rest : List Word) → a.kind ≡ t.left_parenthesis → b.kind ≡ t.right_parenthesis → is (kind_of ts) t.right_parenthesis ≡ false → params_from n d n [] 0 ts ≡ (Ok (ps, h), b ∷ rest)
      → params n d (a ∷ ts) ≡ (Ok (ps, h), rest)
  unfolding params expect_as
  params_step n d h ps a b ts rest ka kb other r = rw (sees a ts t.left_parenthesis ka, other, r, sees b rest t.right_parenthesis kb) refl

  params_read : (n d h : ℕ) (ps : List Param) (w : List Word) → IsMaybeParams h ps w → h ≤ d → length w < n → (a b : Word) (rest : List Word) → a.kind ≡ t.left_parenthesis → b.kind ≡ t.right_parenthesis → params n d (a ∷ (w ++ b ∷ rest)) ≡ (Ok (ps, h), rest)
  params_read n d _ _ _ no_params le long a b rest ka kb = no_params_step n d a b rest ka kb
  params_read n d _ _ _ (some_params h ps w c i may) le long a b rest ka kb =
      let len = length-append w c in
      let m : max 0 h ≡ h = omega arith in
      rw append_assoc (params_step n d h ps a b (w ++ (c ++ b ∷ rest)) rest ka kb (is_other (kind_of (w ++ (c ++ b ∷ rest))) kind.Name t.right_parenthesis (params_begin h ps w i (c ++ b ∷ rest)) refl)
      (params_from_read n d h ps w i le (omega arith) n (omega arith) [] 0 c (b ∷ rest) may (kind_is b rest t.right_parenthesis kb) ∙ rw m refl))

  -- ---- results

  pub block_kind : (m h : ℕ) (b : Block) (end : ℕ) (w : List Word) → IsBlock form m h b end w → (rest : List Word) → kind_of (w ++ rest) ≡ Some t.left_brace
  block_kind m _ _ _ _ (braces a b h ss w ka i kb) rest = kind_is a (w ++ b ∷ [] ++ rest) t.left_brace ka

  no_type_at : (o : Option TokenKind) → o ≡ Some t.left_brace → begins_type o ≡ false
  unfolding begins_type
  no_type_at o e = rw e refl

  no_results_step : (n d : ℕ) (rest : List Word) → kind_of rest ≡ Some t.left_brace → results n d rest ≡ (Ok ([], 0), rest)
  unfolding results
  no_results_step n d rest e = rw (is_other (kind_of rest) t.left_brace t.left_parenthesis e refl, no_type_at (kind_of rest) e) refl

  type_no_parenthesis : (o : Option TokenKind) → begins_type o ≡ true → is o t.left_parenthesis ≡ false
  unfolding begins_type
  type_no_parenthesis None b = refl
  type_no_parenthesis (Some kind.Name) b = refl
  type_no_parenthesis (Some kind.Int) b = refl
  type_no_parenthesis (Some kind.Rune) b = refl
  type_no_parenthesis (Some kind.Text) b = refl
  type_no_parenthesis (Some (kind.Keyword p)) b = refl
  type_no_parenthesis (Some (kind.Operator p)) b = absurd cc

  type_no_close : (o : Option TokenKind) → begins_type o ≡ true → is o t.right_parenthesis ≡ false
  unfolding begins_type
  type_no_close None b = refl
  type_no_close (Some kind.Name) b = refl
  type_no_close (Some kind.Int) b = refl
  type_no_close (Some kind.Rune) b = refl
  type_no_close (Some kind.Text) b = refl
  type_no_close (Some (kind.Keyword p)) b = refl
  type_no_close (Some (kind.Operator p)) b = absurd cc

  one_result_step : (n d h : ℕ) (of : TypeExpr) (ts rest : List Word) → begins_type (kind_of ts) ≡ true → type_ d ts ≡ (Ok (of, h), rest) → results n d ts ≡ (Ok (of ∷ [], h), rest)
  unfolding results
  one_result_step n d h of ts rest b r = rw (type_no_parenthesis (kind_of ts) b, b, r) refl

  results_step : (n d h : ℕ) (of : List TypeExpr) (a b : Word) (ts rest : List Word) → a.kind ≡ t.left_parenthesis → b.kind ≡ t.right_parenthesis → list_from t.comma t.right_parenthesis (type_ d) n [] 0 ts ≡ (Ok (of, h), b ∷ rest) → results n d (a ∷ ts) ≡ (Ok (of, h), rest)
  unfolding results take_as expect_as
  results_step n d h of a b ts rest ka kb r = rw (sees a ts t.left_parenthesis ka, r, sees b rest t.right_parenthesis kb) refl

  results_read : (n d h : ℕ) (of : List TypeExpr) (w : List Word) → IsResults h of w → h ≤ d → length w < n → (rest : List Word) → kind_of rest ≡ Some t.left_brace → results n d (w ++ rest) ≡ (Ok (of, h), rest)
  results_read n d _ _ _ no_results le long rest e = no_results_step n d rest e
  results_read n d _ _ _ (one_result h of w i) le long rest e = one_result_step n d h of (w ++ rest) rest (type_begins h of w i rest) (type_read d h of w i le rest (is_other (kind_of rest) t.left_brace t.point e refl))
  results_read n d _ _ _ (results' a b h of w c ka i may kb) le long rest e =
      let len = length-append w (c ++ b ∷ []) in
      let m : max 0 h ≡ h = omega arith in
      rw (append_assoc, append_assoc) (results_step n d h of a b (w ++ (c ++ b ∷ rest)) rest ka kb
      (list_reads t.comma t.right_parenthesis refl IsType (type_ d) (λ r. is (kind_of r) t.point ≡ false) d n (λ h' x u j hh hl r f. type_read d h' x u j hh r f) (λ s v k. no_point_at s v t.comma k refl) (λ r k. is_other (kind_of r) t.right_parenthesis t.point k refl)
      (λ h' x u j r. type_no_close (kind_of (u ++ r)) (type_begins h' x u j r)) h of w i le (omega arith) n (omega arith) [] 0 c (b ∷ rest) may (kind_is b rest t.right_parenthesis kb) ∙ rw m refl))

  -- ---- declarations

  func_step : (n m d i j h : ℕ) (k a : Word) (ps : List Param) (rs : List TypeExpr) (body : Block) (end : ℕ) (ts us vs rest : List Word) → k.kind ≡ t.func_word → a.kind ≡ kind.Name → params n d ts ≡ (Ok (ps, i), us) → results n d us ≡ (Ok (rs, j), vs)
      → block form n m d vs ≡ (Ok (record { block = body; end = end }, h), rest)
      → declaration form n m d (k ∷ a ∷ ts) ≡ (Ok (decl.Func (record { name = name_of a; params = ps; results = rs; body = body; span = record { start = k.span.start; end = end } }), max (max i j) h), rest)
  unfolding declaration func take_as expect_as
  func_step n m d i j h k a ps rs body end ts us vs rest kk ka p r b = rw (kk, sees a ts kind.Name ka, p, r, b) refl

  consts_step : (n m d h end : ℕ) (k : Word) (cs : List ConstSpec) (ts rest : List Word) → k.kind ≡ t.const_word → consts n d ts ≡ (Ok ((cs, end), h), rest) → declaration form n m d (k ∷ ts) ≡ (Ok (decl.Const cs, h), rest)
  unfolding declaration take_as
  consts_step n m d h end k cs ts rest kk r = rw (kk, r) refl

  vars_step : (n m d h end : ℕ) (k : Word) (vs : List VarSpec) (ts rest : List Word) → k.kind ≡ t.var_word → vars n d ts ≡ (Ok ((vs, end), h), rest) → declaration form n m d (k ∷ ts) ≡ (Ok (decl.Var vs, h), rest)
  unfolding declaration take_as
  vars_step n m d h end k vs ts rest kk r = rw (kk, r) refl

  pub decl_read : BlockRead form → (n m d h : ℕ) (x : Decl) (w : List Word) → IsDecl form m h x w → h ≤ d → length w < n → (rest : List Word) → kind_of rest ≡ Some t.semicolon → declaration form n m d (w ++ rest) ≡ (Ok (x, h), rest)
  decl_read reads n m d _ _ _ (constants k h end cs w kk i) le long rest e = consts_step n m d h end k cs (w ++ rest) rest kk (consts_read n d h end cs w i le (omega arith) rest (spec_ends rest t.semicolon e plain_semicolon refl refl))
  decl_read reads n m d _ _ _ (variables k h end vs w kk i) le long rest e = vars_step n m d h end k vs (w ++ rest) rest kk (vars_read n d h end vs w i le (omega arith) rest (spec_ends rest t.semicolon e plain_semicolon refl refl))
  decl_read reads n m d _ _ _ (function k a l r i j h end ps rs body u v w kk ka kl ip kr ir ib) le long rest e =
      let len = length-append u (r ∷ (v ++ w)) in
      let len' = length-append v w in
      rw (append_assoc, append_assoc) (func_step n m d i j h k a ps rs body end (l ∷ (u ++ r ∷ (v ++ (w ++ rest)))) (v ++ (w ++ rest)) (w ++ rest) rest kk ka (params_read n d i ps u ip (omega arith) (omega arith) l r (v ++ (w ++ rest)) kl kr)
      (results_read n d j rs v ir (omega arith) (omega arith) (w ++ rest) (block_kind m h body end w ib rest)) (reads n m d h body end w ib (omega arith) (omega arith) rest))
