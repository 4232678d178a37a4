-- Where the lists of a tree stand among the tokens that spell it.
use Rattle.std.proofs.Common.{◌≡◌, ◌⊎◌, inl, inr, ℕ, ◌+◌, Bool, true, false, List, [], ◌∷◌, ◌++◌, Option, Some, None, refl, sym, ap, ◌∙◌, subst, map, append_assoc}
use Rattle.go_ast.specs.declared.token.TokenKind.{TokenKind}
use Rattle.go_ast.specs.declared.expr.ExprForm.{out-ExprForm}
use Rattle.go_ast.specs.declared.block.Block.{Block}
use Rattle.go_ast.specs.declared.block.Stmt.{Stmt}
use Rattle.go_ast.specs.declared.block.StmtForm.{StmtForm, out-StmtForm}
use Rattle.go_ast.specs.declared.block.StmtForm.TheVariants as stmt
use Rattle.go_ast.specs.declared.block.Other.{Other}
use Rattle.go_ast.specs.declared.block.CaseClause.{CaseClause}
use Rattle.go_ast.specs.declared.block.CommClause.{CommClause}
use Rattle.go_ast.specs.declared.block.Comm.TheVariants as comm
use Rattle.go_grammar.specs.Words.{Word}
use Rattle.go_grammar.specs.Terminals as t
use Rattle.go_grammar.specs.Simple as simple
use Rattle.go_grammar.specs.Simple.{IsSimple}
use Rattle.go_grammar.specs.Blocks as g
use Rattle.go_grammar.specs.Blocks.{source, IsStmt, IsIf, IsElse, IsBreakable, IsCases, IsCase, IsComms, IsCommClause, IsBlock, IsList, IsStmts}
use Rattle.go_grammar.specs.Trees.{name_of, stmt_node, stmt_end}
use Rattle.cov_cut.specs.Outline.{Mark, Kind, braces, else_braces, else_if, clause, Node, node, mark_of, Nodes, no_node, next_node, Lists, no_list, next_list, marks, Listing, heads, lists_in, lists_among, lists_behind, lists_along}
use Rattle.cov_cut.specs.Outlining.{Shape, Braced, Clause, body, clause_lists, labelled, evaluated, is_panic, other_kind, node_of, outline}
use Rattle.cov_cut.specs.Layers.{outlines, block_layer, case_layer, comm_layer, other_option, form_layer}
use Rattle.cov_tokens.proofs.Layered.{behind, node_outline, block_fields, other_fields, else_if_fields, case_fields, comm_fields, label_fields, if_fields, switch_fields, select_fields}
use Rattle.cov_tokens.proofs.Starts.{StartsWith, starts_front, stmt_first}

-- ---- among all words

-- a word of a kind ends at the offset
pub record WordBehind (whole : List Word) (k : TokenKind) (at : ℕ) : Type 0 where
  pub before : List Word
  pub word : Word
  pub behind : List Word
  pub is : whole ≡ before ++ word ∷ behind
  pub kind_is : word.kind ≡ k
  pub end : word.span.end ≡ at

-- a word starts there, and is the next behind a semicolon
pub record WordLater (whole : List Word) (at : ℕ) : Type 0 where
  pub before : List Word
  pub semicolon : Word
  pub word : Word
  pub behind : List Word
  pub is : whole ≡ before ++ semicolon ∷ word ∷ behind
  pub semicolon_is : semicolon.kind ≡ t.semicolon
  pub start : word.span.start ≡ at

-- these words stand in the whole one behind another
pub record Within (whole w : List Word) : Type 0 where
  pub before : List Word
  pub behind : List Word
  pub is : whole ≡ before ++ (w ++ behind)

-- a brace or a colon has one byte
abbrev pub Short : List Word → Type 0
Short whole = (before : List Word) (x : Word) (behind : List Word) → whole ≡ before ++ x ∷ behind → ((x.kind ≡ t.left_brace) ⊎ (x.kind ≡ t.colon)) → x.span.end ≡ x.span.start + 1

module _ (whole : List Word) where
  pub tail_within : (x : Word) (w : List Word) → Within whole (x ∷ w) → Within whole w
  tail_within x w i = record { before = i.before ++ x ∷ []; behind = i.behind; is = i.is ∙ sym (append_assoc i.before (x ∷ []) (w ++ i.behind)) }

  pub front_within : (u v : List Word) → Within whole (u ++ v) → Within whole u
  front_within u v i = record { before = i.before; behind = v ++ i.behind; is = i.is ∙ ap (λ (x : List Word). i.before ++ x) (append_assoc u v i.behind) }

  pub back_within : (u v : List Word) → Within whole (u ++ v) → Within whole v
  back_within u v i = record {
    before = i.before ++ u;
    behind = i.behind;
    is = i.is ∙ ap (λ (x : List Word). i.before ++ x) (append_assoc u v i.behind) ∙ sym (append_assoc i.before u (v ++ i.behind));
  }

  pub word_behind : (x : Word) (w : List Word) (k : TokenKind) → x.kind ≡ k → Within whole (x ∷ w) → WordBehind whole k x.span.end
  word_behind x w k e i = record { before = i.before; word = x; behind = w ++ i.behind; is = i.is; kind_is = e; end = refl }

  word_later : (u v : List Word) (s : Word) (at : ℕ) → s.kind ≡ t.semicolon → StartsWith v at → Within whole (u ++ s ∷ v) → WordLater whole at
  word_later u v s at e f i = record {
    before = i.before ++ u;
    semicolon = s;
    word = f.first;
    behind = f.rest ++ i.behind;
    is = i.is ∙ ap (λ (x : List Word). i.before ++ x) (append_assoc u (s ∷ v) i.behind) ∙ sym (append_assoc i.before u (s ∷ (v ++ i.behind)))
        ∙ ap (λ (x : List Word). (i.before ++ u) ++ s ∷ (x ++ i.behind)) f.is;
    semicolon_is = e;
    start = f.start;
  }

  -- ---- lists

  abbrev pub SiteOf : Kind → Type 0
  SiteOf (braces left right) = WordBehind whole t.left_brace (left + 1)
  SiteOf (else_braces after left right) = WordBehind whole t.left_brace (left + 1)
  SiteOf (else_if after right) = WordBehind whole t.else_word after × WordBehind whole t.right_brace right
  SiteOf (clause colon) = WordBehind whole t.colon (colon + 1)

  abbrev pub AllLater : List Mark → Type 0
  AllLater [] = Unit {0}
  AllLater (m ∷ ms) = WordLater whole m.start × AllLater ms

  -- the statements but the first
  abbrev pub MarksLater : List Mark → Type 0
  MarksLater [] = Unit {0}
  MarksLater (m ∷ ms) = AllLater ms

  abbrev mutual
    pub NodeSited : Node → Type 0
    NodeSited (node m together inside) = ListsSited inside

    pub NodesSited : Nodes → Type 0
    NodesSited no_node = Unit {0}
    NodesSited (next_node n ns) = NodeSited n × NodesSited ns

    pub ListsSited : Lists → Type 0
    ListsSited no_list = Unit {0}
    ListsSited (next_list k ns more) = SiteOf k × MarksLater (marks ns) × NodesSited ns × ListsSited more

  pub record ListingSited (l : Listing) : Type 0 where
    pub site : SiteOf l.kind
    pub later : MarksLater l.statements

  abbrev pub AllSited : List Listing → Type 0
  AllSited [] = Unit {0}
  AllSited (l ∷ ls) = ListingSited l × AllSited ls

  sited_two : (ls ms : List Listing) → AllSited ls → AllSited ms → AllSited (ls ++ ms)
  sited_two [] ms a b = b
  sited_two (l ∷ ls) ms a b = (a.0, sited_two ls ms a.1 b)

  heads_sited : (ls : Lists) → ListsSited ls → AllSited (heads ls)
  heads_sited no_list s = tt
  heads_sited (next_list k ns more) s = (record { site = s.0; later = s.1 }, heads_sited more s.3)

  mutual
    node_listed : (n : Node) → NodeSited n → AllSited (lists_in n)
    node_listed (node m true inside) s = sited_two (heads inside) (lists_behind inside) (heads_sited inside s) (behind_listed inside s)
    node_listed (node m false inside) s = along_listed inside s

    pub among_listed : (ns : Nodes) → NodesSited ns → AllSited (lists_among ns)
    among_listed no_node s = tt
    among_listed (next_node n ns) s = sited_two (lists_in n) (lists_among ns) (node_listed n s.0) (among_listed ns s.1)

    behind_listed : (ls : Lists) → ListsSited ls → AllSited (lists_behind ls)
    behind_listed no_list s = tt
    behind_listed (next_list k ns more) s = sited_two (lists_among ns) (lists_behind more) (among_listed ns s.2) (behind_listed more s.3)

    pub along_listed : (ls : Lists) → ListsSited ls → AllSited (lists_along ls)
    along_listed no_list s = tt
    along_listed (next_list k ns more) s = (record { site = s.0; later = s.1 }, sited_two (lists_among ns) (lists_along more) (among_listed ns s.2) (along_listed more s.3))

  -- ---- statements

  of_form : (start end : ℕ) (form : StmtForm) (inside : Lists) (shape : Shape) → form_layer (out-StmtForm form) ≡ shape → shape.inside ≡ inside → ListsSited inside → NodeSited (outline (stmt_node start end form))
  of_form start end form inside shape e f s =
      subst NodeSited (sym (node_outline start end form ∙ ap (node_of start end) e)) (subst ListsSited (sym f) s)

  quiet : (start end : ℕ) (form : StmtForm) (shape : Shape) → form_layer (out-StmtForm form) ≡ shape → shape.inside ≡ no_list → NodeSited (outline (stmt_node start end form))
  quiet start end form shape e f = of_form start end form no_list shape e f tt

  by_panic : (b : Bool) → (evaluated b).inside ≡ no_list
  by_panic true = refl
  by_panic false = refl

  simple_site : (h : ℕ) (x : Stmt) (w : List Word) → IsSimple h x w → NodeSited (outline x)
  unfolding out-StmtForm denote.Hole.Carrier.out
  simple_site h x w (simple.evaluated l i y v inner) = quiet _ _ (stmt.Eval y) (evaluated (is_panic (out-ExprForm y.form))) refl (by_panic (is_panic (out-ExprForm y.form)))
  simple_site h x w (simple.sent s l l' i j a b u v left k right) = quiet _ _ (stmt.Send a b) _ refl refl
  simple_site h x w (simple.raised s y u inner k) = quiet _ _ (stmt.Up y) _ refl refl
  simple_site h x w (simple.lowered s y u inner k) = quiet _ _ (stmt.Down y) _ refl refl
  simple_site h x w (simple.updated s op l i y z u v inner k value) = quiet _ _ (stmt.Update y op z) _ refl refl
  simple_site h x w (simple.assigned s i ys es u v inner k values) = quiet _ _ (stmt.Assign ys es) _ refl refl
  simple_site h x w (simple.defined s i ns es u v inner k values) = quiet _ _ (stmt.Define ns es) _ refl refl

  -- statements in a list
  pub record StmtsSited (ns : Nodes) : Type 0 where
    pub later : MarksLater (marks ns)
    pub inside : NodesSited ns

  -- a block
  pub record BlockSited (d : Braced) : Type 0 where
    pub left : WordBehind whole t.left_brace (d.left + 1)
    pub shown : d.hidden ≡ false
    pub list : StmtsSited d.list

  pub body_sited : (d : Braced) (more : Lists) → BlockSited d → ListsSited more → ListsSited (body d more)
  body_sited d more b s = (b.left, b.list.later, b.list.inside, s)

  else_sited : (after : ℕ) (d : Braced) → BlockSited d → ListsSited (behind after d)
  else_sited after d b = subst (λ h. ListsSited (next_list (other_kind after d h) d.list no_list)) (sym b.shown) (b.left, b.list.later, b.list.inside, tt)

  module _ (short : Short whole) (most : ℕ) where
    block_end : (h : ℕ) (b : Block) (end : ℕ) (w : List Word) → IsBlock source most h b end w → Within whole w → WordBehind whole t.right_brace end
    block_end h b end w (g.braces a c i ss v e inner f) i' = word_behind c [] t.right_brace f (back_within v (c ∷ []) (tail_within a (v ++ c ∷ []) i'))

    mutual
      unfolding stmt_node

      if_end : (h : ℕ) (x : Stmt) (w : List Word) → IsIf source most h x w → Within whole w → WordBehind whole t.right_brace (stmt_end x)
      if_end h x w (g.if_ k l i j m n end end' first test then other u v z y e firsts tests thens others) i' =
          let a = back_within v (z ++ y) (back_within u (v ++ (z ++ y)) (tail_within k (u ++ (v ++ (z ++ y))) i')) in
          else_end n other end end' y others (block_end m then end z thens (front_within z y a)) (back_within z y a)

      else_end : (h : ℕ) (other : Option Other) (end end' : ℕ) (w : List Word) → IsElse source most h other end end' w → WordBehind whole t.right_brace end → Within whole w → WordBehind whole t.right_brace end'
      else_end h other end end' w (g.no_else same) b i' = b
      else_end h other end end' w (g.else_block k i old new d v e inner) b i' = block_end i d new v inner (tail_within k v i')
      else_end h other end end' w (g.else_if k i old y v e inner) b i' = if_end i y v inner (tail_within k v i')

    -- a brace, and a colon, ends one byte behind its start
    brace_behind : (x : Word) (w : List Word) → x.kind ≡ t.left_brace → Within whole (x ∷ w) → WordBehind whole t.left_brace (x.span.start + 1)
    brace_behind x w e o = subst (WordBehind whole t.left_brace) (short o.before x (w ++ o.behind) o.is (inl e)) (word_behind x w t.left_brace e o)

    colon_behind : (x : Word) (w : List Word) → x.kind ≡ t.colon → Within whole (x ∷ w) → WordBehind whole t.colon (x.span.start + 1)
    colon_behind x w e o = subst (WordBehind whole t.colon) (short o.before x (w ++ o.behind) o.is (inr e)) (word_behind x w t.colon e o)

    clause_sited : (d : Word) (z : List Word) (ss : List Stmt) (more : Lists) → d.kind ≡ t.colon → Within whole (d ∷ z) → StmtsSited (outlines ss) → ListsSited more → ListsSited (next_list (clause d.span.start) (outlines ss) more)
    clause_sited d z ss more e o l s = (colon_behind d z e o, l.later, l.inside, s)

    label_node : (n : Node) (start end : ℕ) (form : StmtForm) → form_layer (out-StmtForm form) ≡ labelled n → NodeSited n → NodeSited (outline (stmt_node start end form))
    label_node (node m together inside) start end form e s = of_form start end form inside (labelled (node m together inside)) e refl s

    later_of : (h : ℕ) (xs : List Stmt) (z v : List Word) (c : Word) → c.kind ≡ t.semicolon → IsStmts source most h xs z → Within whole (v ++ c ∷ z) → StmtsSited (outlines xs) → AllLater (marks (outlines xs))
    later_of h xs z v c e (g.one_stmt i x u inner) o s = (word_later v z c (mark_of (outline x)).start e (stmt_first most i x u inner) o, tt)
    later_of h xs z v c e (g.more_stmts c' i j x ys u y inner e' more) o s =
        (word_later v z c (mark_of (outline x)).start e (starts_front u (c' ∷ y) (mark_of (outline x)).start (stmt_first most i x u inner)) o, s.later)

    mutual
      unfolding out-StmtForm denote.Hole.Carrier.out

      pub stmt_site : (h : ℕ) (x : Stmt) (w : List Word) → IsStmt source most h x w → Within whole w → NodeSited (outline x)
      stmt_site h x w (g.constants k i end cs v e specs) o = quiet _ _ (stmt.Const cs) _ refl refl
      stmt_site h x w (g.variables k i end vs v e specs) o = quiet _ _ (stmt.Var vs) _ refl refl
      stmt_site h x w (g.simple i y v inner) o = simple_site i y v inner
      stmt_site h x w (g.nested i end b v inner) o = of_form _ _ (stmt.Block b) (body (block_layer b) no_list) _ refl refl (body_sited (block_layer b) no_list (block_site i b end v inner o) tt)
      stmt_site h x w (g.branch i y v inner) o = if_site i y v inner o
      stmt_site h x w (g.breakable i y v inner) o = breakable_site i y v inner o
      stmt_site h x w (g.labelled n c i y v e f inner) o = label_node (outline y) n.span.start (stmt_end y) (stmt.Label (name_of n) y) (label_fields (name_of n) y) (breakable_site i y v inner (tail_within c v (tail_within n (c ∷ v) o)))
      stmt_site h x w (g.return_none k e) o = quiet _ _ (stmt.Return []) _ refl refl
      stmt_site h x w (g.return_some k i es v e values) o = quiet _ _ (stmt.Return es) _ refl refl
      stmt_site h x w (g.breaks k e) o = quiet _ _ (stmt.Break None) _ refl refl
      stmt_site h x w (g.breaks_to k n e f) o = quiet _ _ (stmt.Break (Some (name_of n))) _ refl refl
      stmt_site h x w (g.continues k e) o = quiet _ _ (stmt.Continue None) _ refl refl
      stmt_site h x w (g.continues_to k n e f) o = quiet _ _ (stmt.Continue (Some (name_of n))) _ refl refl
      stmt_site h x w (g.falls k e) o = quiet _ _ stmt.Fallthrough _ refl refl
      stmt_site h x w (g.goes k l i y v e value) o = quiet _ _ (stmt.Go y) _ refl refl
      stmt_site h x w (g.defers k l i y v e value) o = quiet _ _ (stmt.Defer y) _ refl refl
      stmt_site h x w (g.counted a var mode count i v e lt fit) o = absurd cc

      if_site : (h : ℕ) (x : Stmt) (w : List Word) → IsIf source most h x w → Within whole w → NodeSited (outline x)
      if_site h x w (g.if_ k l i j m n end end' first test then other u v z y e firsts tests thens others) o =
          let a = back_within v (z ++ y) (back_within u (v ++ (z ++ y)) (tail_within k (u ++ (v ++ (z ++ y))) o)) in
          of_form _ _ (stmt.If first test then other) (body (block_layer then) (other_option other)) _ (if_fields first test then other) refl
          (body_sited (block_layer then) (other_option other) (block_site m then end z thens (front_within z y a)) (else_site n other end end' y others (back_within z y a)))

      else_site : (h : ℕ) (other : Option Other) (end end' : ℕ) (w : List Word) → IsElse source most h other end end' w → Within whole w → ListsSited (other_option other)
      else_site h other end end' w (g.no_else same) o = tt
      else_site h other end end' w (g.else_block k i old new d v e inner) o =
          subst ListsSited (sym (other_fields k.span.end d)) (else_sited k.span.end (block_layer d) (block_site i d new v inner (tail_within k v o)))
      else_site h other end end' w (g.else_if k i old y v e inner) o =
          subst ListsSited (sym (else_if_fields k.span.end y))
          ((word_behind k v t.else_word e o, if_end i y v inner (tail_within k v o)), tt, (if_site i y v inner (tail_within k v o), tt), tt)

      breakable_site : (h : ℕ) (x : Stmt) (w : List Word) → IsBreakable source most h x w → Within whole w → NodeSited (outline x)
      breakable_site h x w (g.for_test k i j end test b u v e tests inner) o =
          of_form _ _ (stmt.For None test None b) (body (block_layer b) no_list) _ refl refl (body_sited (block_layer b) no_list (block_site j b end v inner (back_within u v (tail_within k (u ++ v) o))) tt)
      breakable_site h x w (g.for_parts k a' b' i j m n end first last test b u v z y e firsts f tests f' lasts inner) o =
          let a = tail_within a' (v ++ b' ∷ (z ++ y)) (back_within u (a' ∷ (v ++ b' ∷ (z ++ y))) (tail_within k (u ++ a' ∷ (v ++ b' ∷ (z ++ y))) o)) in
          let c = tail_within b' (z ++ y) (back_within v (b' ∷ (z ++ y)) a) in
          of_form _ _ (stmt.For first test last b) (body (block_layer b) no_list) _ refl refl (body_sited (block_layer b) no_list (block_site n b end y inner (back_within z y c)) tt)
      breakable_site h x w (g.for_range k r l i j end ns over b u v z e names f value inner) o =
          let a = tail_within r (v ++ z) (back_within u (r ∷ (v ++ z)) (tail_within k (u ++ r ∷ (v ++ z)) o)) in
          of_form _ _ (stmt.Range ns over b) (body (block_layer b) no_list) _ refl refl (body_sited (block_layer b) no_list (block_site j b end z inner (back_within v z a)) tt)
      breakable_site h x w (g.switch k a' b' i j m first tag cs u v z e firsts tags f inner f') o =
          let a = tail_within a' (z ++ b' ∷ []) (back_within v (a' ∷ (z ++ b' ∷ [])) (back_within u (v ++ a' ∷ (z ++ b' ∷ [])) (tail_within k (u ++ (v ++ a' ∷ (z ++ b' ∷ []))) o))) in
          of_form _ _ (stmt.Switch first tag a'.span.start cs) (clause_lists (map case_layer cs)) _ (switch_fields first tag a'.span.start cs) refl (cases_site m cs z inner (front_within z (b' ∷ []) a))
      breakable_site h x w (g.select k a' b' i cs z e f inner few f') o =
          let a = tail_within a' (z ++ b' ∷ []) (tail_within k (a' ∷ (z ++ b' ∷ [])) o) in
          of_form _ _ (stmt.Select a'.span.start cs) (clause_lists (map comm_layer cs)) _ (select_fields a'.span.start cs) refl (comms_site i cs z inner (front_within z (b' ∷ []) a))

      cases_site : (h : ℕ) (cs : List CaseClause) (w : List Word) → IsCases source most h cs w → Within whole w → ListsSited (clause_lists (map case_layer cs))
      cases_site h cs w g.no_cases o = tt
      cases_site h cs w (g.more_cases i j c ds v z inner more) o = case_site i c v inner (clause_lists (map case_layer ds)) (front_within v z o) (cases_site j ds z more (back_within v z o))

      case_site : (h : ℕ) (c : CaseClause) (w : List Word) → IsCase source most h c w → (more : Lists) → Within whole w → ListsSited more → ListsSited (next_list (clause (case_layer c).colon) (case_layer c).list more)
      case_site h c w (g.case_ k d i j es ss v z e values f inner) more o s =
          let a = back_within v (d ∷ z) (tail_within k (v ++ d ∷ z) o) in
          subst (λ (x : Clause). ListsSited (next_list (clause x.colon) x.list more)) (sym (case_fields (Some es) d.span.start ss)) (clause_sited d z ss more f a (list_site j ss z inner (tail_within d z a)) s)
      case_site h c w (g.default_ k d i ss z e f inner) more o s =
          let a = tail_within k (d ∷ z) o in
          subst (λ (x : Clause). ListsSited (next_list (clause x.colon) x.list more)) (sym (case_fields None d.span.start ss)) (clause_sited d z ss more f a (list_site i ss z inner (tail_within d z a)) s)

      comms_site : (h : ℕ) (cs : List CommClause) (w : List Word) → IsComms source most h cs w → Within whole w → ListsSited (clause_lists (map comm_layer cs))
      comms_site h cs w g.no_comms o = tt
      comms_site h cs w (g.more_comms i j c ds v z inner more) o = comm_site i c v inner (clause_lists (map comm_layer ds)) (front_within v z o) (comms_site j ds z more (back_within v z o))

      comm_site : (h : ℕ) (c : CommClause) (w : List Word) → IsCommClause source most h c w → (more : Lists) → Within whole w → ListsSited more → ListsSited (next_list (clause (comm_layer c).colon) (comm_layer c).list more)
      comm_site h c w (g.comm_case k d i j m ss v z e values f inner) more o s =
          let a = back_within v (d ∷ z) (tail_within k (v ++ d ∷ z) o) in
          subst (λ (x : Clause). ListsSited (next_list (clause x.colon) x.list more)) (sym (comm_fields m d.span.start ss)) (clause_sited d z ss more f a (list_site j ss z inner (tail_within d z a)) s)
      comm_site h c w (g.comm_default k d i ss z e f inner) more o s =
          let a = tail_within k (d ∷ z) o in
          subst (λ (x : Clause). ListsSited (next_list (clause x.colon) x.list more)) (sym (comm_fields comm.Default d.span.start ss)) (clause_sited d z ss more f a (list_site i ss z inner (tail_within d z a)) s)

      pub block_site : (h : ℕ) (b : Block) (end : ℕ) (w : List Word) → IsBlock source most h b end w → Within whole w → BlockSited (block_layer b)
      block_site h b end w (g.braces a c i ss v e inner f) o =
          subst (λ d. BlockSited d) (sym (block_fields a.span.start c.span.start ss))
          (record { left = brace_behind a (v ++ c ∷ []) e o; shown = refl; list = list_site i ss v inner (front_within v (c ∷ []) (tail_within a (v ++ c ∷ []) o)) })

      list_site : (h : ℕ) (ss : List Stmt) (w : List Word) → IsList source most h ss w → Within whole w → StmtsSited (outlines ss)
      list_site h ss w g.no_stmts o = record { later = tt; inside = tt }
      list_site h ss w (g.stmts i xs v z inner may) o = stmts_site i xs v inner (front_within v z o)

      stmts_site : (h : ℕ) (ss : List Stmt) (w : List Word) → IsStmts source most h ss w → Within whole w → StmtsSited (outlines ss)
      stmts_site h ss w (g.one_stmt i x v inner) o = record { later = tt; inside = (stmt_site i x v inner o, tt) }
      stmts_site h ss w (g.more_stmts c i j x xs v z inner e more) o =
          let rest = stmts_site j xs z more (tail_within c z (back_within v (c ∷ z) o)) in
          record { later = later_of j xs z v c e more o rest; inside = (stmt_site i x v inner (front_within v (c ∷ z) o), rest.inside) }
