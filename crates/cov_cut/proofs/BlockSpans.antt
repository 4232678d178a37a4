-- The spans of statements with lists in them: what a source's tokens spell is placed.
use Rattle.std.proofs.Common.{◌≡◌, ℕ, ◌+◌, ◌-◌, ◌<◌, ◌≤◌, true, false, List, [], ◌∷◌, ◌++◌, Option, Some, None, refl, sym, ap, ◌∙◌, subst, map, arith}
use Rattle.go_ast.specs.declared.token.TokenKind.TheVariants as kind
use Rattle.go_ast.specs.declared.block.Block.{Block}
use Rattle.go_ast.specs.declared.block.Stmt.{Stmt}
use Rattle.go_ast.specs.declared.block.StmtForm.{StmtForm, out-StmtForm}
use Rattle.go_ast.specs.declared.block.StmtForm.TheVariants as stmt
use Rattle.go_ast.specs.declared.block.Other.{Other}
use Rattle.go_ast.specs.declared.block.CaseClause.{CaseClause}
use Rattle.go_ast.specs.declared.block.CommClause.{CommClause}
use Rattle.go_grammar.specs.Words.{Word}
use Rattle.go_grammar.specs.Terminals as t
use Rattle.go_grammar.specs.Blocks as g
use Rattle.go_grammar.specs.Blocks.{source, IsStmt, IsIf, IsElse, IsBreakable, IsCases, IsCase, IsComms, IsCommClause, IsBlock, IsList, IsStmts}
use Rattle.go_grammar.specs.Trees.{name_of, stmt_node, stmt_end, expr_end, exprs_end, block_left}
use Rattle.cov_cut.specs.Outline.{Mark, braces, else_braces, else_if, clause, Node, node, mark_of, Nodes, Lists, no_list, next_list, marks}
use Rattle.cov_cut.specs.Outlining.{Braced, Clause, body, clause_lists, labelled, other_kind, node_of, outline}
use Rattle.cov_cut.specs.Layers.{outlines, block_layer, case_layer, comm_layer, other_option, form_layer}
use Rattle.cov_cut.specs.Placement.{AreMarks, last_stop, AreNodes, AreLists}
use Rattle.cov_cut.proofs.Spread.{is_word, Spread, Parted, spread_le, halves, opened, passed}
use Rattle.cov_cut.proofs.Fields.{behind, block_fields, other_fields, else_if_fields, case_fields, comm_fields, label_fields, if_fields, switch_fields, select_fields}
use Rattle.go_ast.specs.declared.block.Comm.TheVariants as comm
use Rattle.cov_cut.proofs.ExprSpans.{expr_in, exprs_in}
use Rattle.cov_cut.proofs.LeafSpans.{Placed, node_outline, stops, leaf_placed, bodied_by, bodied_placed, consts_in, vars_in, simple_in}

-- ---- bounds

pub marks_within : (low low' high high' : ℕ) (ms : List Mark) → low ≤ low' → high' ≤ high → AreMarks low' high' ms → AreMarks low high ms
marks_within low low' high high' [] a b h = tt
marks_within low low' high high' (m ∷ ms) a b h =
    let from : low' ≤ m.start = h.0 in
    let upto : m.stop ≤ high' = h.2 in
    (omega arith, h.1, omega arith, marks_within (m.stop + 1) (m.stop + 1) high high' ms (omega arith) b h.3)

last_within : (base low high : ℕ) (ms : List Mark) → base ≤ high → AreMarks low high ms → last_stop base ms ≤ high
last_within base low high [] a h = a
last_within base low high (m ∷ ms) a h = last_within m.stop (m.stop + 1) high ms h.2 h.3

lists_lower : (low low' high : ℕ) (ls : Lists) → low ≤ low' → AreLists low' high ls → AreLists low high ls
lists_lower low low' high no_list a h = tt
lists_lower low low' high (next_list (braces left right) ns more) a h = let b = h.0 in let c : low' ≤ left = b.0 in ((omega arith, b.1, b.2), h.1, h.2, h.3)
lists_lower low low' high (next_list (else_braces after left right) ns more) a h = let b = h.0 in let c : low' < after = b.0 in ((omega arith, b.1, b.2, b.3), h.1, h.2, h.3)
lists_lower low low' high (next_list (else_if after right) ns more) a h = let b = h.0 in let c : low' < after = b.0 in ((omega arith, b.1, b.2), h.1, h.2, h.3)
lists_lower low low' high (next_list (clause colon) ns more) a h = let b = h.0 in let c : low' < colon = b.0 in ((omega arith, b.1), h.1, h.2, h.3)

-- ---- parts

-- statements in a part of a text
pub record PlacedList (low high : ℕ) (ns : Nodes) : Type 0 where
  pub marked : AreMarks low high (marks ns)
  pub inside : AreNodes ns

-- a block that ends at an offset
pub record PlacedBlock (low high : ℕ) (d : Braced) (end : ℕ) : Type 0 where
  pub from : low ≤ d.left
  pub wide : d.left < d.right
  pub ends : d.right < end
  pub upto : end ≤ high
  pub shown : d.hidden ≡ false
  pub marked : AreMarks (d.left + 1) d.right (marks d.list)
  pub inside : AreNodes d.list

-- what follows a block that ends at an offset
pub record PlacedElse (base high : ℕ) (other : Lists) (end end' : ℕ) : Type 0 where
  pub onward : end ≤ end'
  pub upto : end' ≤ high
  pub lists : AreLists base end' other

-- the lists of a body, and more behind it
pub body_lists : (start low high end end' : ℕ) (d : Braced) (more : Lists) → start ≤ low → end ≤ end' → PlacedBlock low high d end → AreLists (d.right + 1) end' more → AreLists start end' (body d more)
body_lists start low high end end' d more a b p h =
    let from : low ≤ d.left = p.from in
    let ends : d.right < end = p.ends in
    ((omega arith, p.wide, omega arith), p.marked, p.inside, h)

else_lists : (base after high end : ℕ) (d : Braced) → base < after → PlacedBlock after high d end → AreLists base end (behind after d)
else_lists base after high end d lt p =
    subst (λ h. AreLists base end (next_list (other_kind after d h) d.list no_list)) (sym p.shown) ((lt, p.from, p.wide, p.ends), p.marked, p.inside, tt)

-- a statement with a label has the lists of the statement behind it
label_in : (n : Node) (low high base start : ℕ) (form : StmtForm) → form_layer (out-StmtForm form) ≡ labelled n → base ≤ start → start < low → Placed low high n
    → Placed base high (outline (stmt_node start (mark_of n).stop form))
label_in (node m together inside) low high base start form e a b p =
    let from : low ≤ m.start = p.from in
    let to : m.start ≤ m.boundary = p.mark.from in
    let upto : m.boundary ≤ m.stop = p.mark.upto in
    let some : m.start < m.stop = p.mark.some in
    subst (Placed base high) (sym (node_outline start m.stop form ∙ ap (node_of start m.stop) e))
    (record { from = a; mark = record { some = omega arith; from = omega arith; upto = upto }; upto = p.upto; inside = lists_lower start m.start m.stop inside (omega arith) p.inside })

-- a loop, whose block stands behind its head
loop_in : (b : Block) (end low mid high start : ℕ) (form : StmtForm) → form_layer (out-StmtForm form) ≡ bodied_by false (block_layer b).left (body (block_layer b) no_list) → low ≤ start → start < mid → PlacedBlock mid high (block_layer b) end
    → Placed low high (outline (stmt_node start end form))
loop_in b end low mid high start form e a c p =
    let from : mid ≤ (block_layer b).left = p.from in
    let ends : (block_layer b).right < end = p.ends in
    let wide : (block_layer b).left < (block_layer b).right = p.wide in
    bodied_placed low high start end (block_layer b).left form false (body (block_layer b) no_list) e a (omega arith) (omega arith) p.upto
    (body_lists start mid high end end (block_layer b) no_list (omega arith) (omega arith) p tt)

-- an `if` begins with that word
record BeginsIf (w : List Word) : Type 0 where
  word : Word
  rest : List Word
  is : w ≡ word ∷ rest
  kind_is : word.kind ≡ t.if_word

module _ (most : ℕ) where
  begins_if : (h : ℕ) (x : Stmt) (w : List Word) → IsIf source most h x w → BeginsIf w
  begins_if h x w (g.if_ k l i j m n end end' first test then other u v z y e f a b c) = record { word = k; rest = u ++ (v ++ (z ++ y)); is = refl; kind_is = e }

  -- behind the word `else`, with a byte between
  behind_else : (k : Word) (h : ℕ) (x : Stmt) (w : List Word) (low high : ℕ) → k.kind ≡ t.else_word → IsIf source most h x w → Parted k w → Spread low high w → Spread (k.span.end + 1) high w
  behind_else k h x w low high e i parted s =
      let b = begins_if h x w i in
      let p : Parted k (b.word ∷ b.rest) = subst (Parted k) b.is parted in
      let q : Spread low high (b.word ∷ b.rest) = subst (Spread low high) b.is s in
      let gap : k.span.end < b.word.span.start = p (ap is_word e) (ap is_word b.kind_is) in
      subst (Spread (k.span.end + 1) high) (sym b.is) (omega arith, q.1, q.2, q.3)

  mutual
    unfolding out-StmtForm denote.Hole.Carrier.out

    pub stmt_in : (h : ℕ) (x : Stmt) (w : List Word) → IsStmt source most h x w → (low high : ℕ) → Spread low high w → Placed low high (outline x)
    stmt_in h x w (g.constants k i end cs v e specs) low high s =
        let a = opened t.const_word low high k v refl e s in
        let b = consts_in i cs end v specs k.span.end high a.rest in
        leaf_placed low high k.span.start end (stmt.Const cs) false refl (record { from = a.from; some = omega arith; upto = b.upto })
    stmt_in h x w (g.variables k i end vs v e specs) low high s =
        let a = opened t.var_word low high k v refl e s in
        let b = vars_in i vs end v specs k.span.end high a.rest in
        leaf_placed low high k.span.start end (stmt.Var vs) false refl (record { from = a.from; some = omega arith; upto = b.upto })
    stmt_in h x w (g.simple i y v inner) low high s = simple_in i y v inner low high s
    stmt_in h x w (g.nested i end b v inner) low high s =
        let p = block_in i b end v inner low high s in
        let ends : (block_layer b).right < end = p.ends in
        let wide : (block_layer b).left < (block_layer b).right = p.wide in
        bodied_placed low high (block_left b) end (block_layer b).left (stmt.Block b) false (body (block_layer b) no_list) refl p.from (omega arith) (omega arith) p.upto
        (body_lists (block_left b) (block_left b) high end end (block_layer b) no_list (omega arith) (omega arith) (record { from = omega arith; wide = p.wide; ends = p.ends; upto = p.upto; shown = p.shown; marked = p.marked; inside = p.inside }) tt)
    stmt_in h x w (g.branch i y v inner) low high s = if_in i y v inner low high s
    stmt_in h x w (g.breakable i y v inner) low high s = breakable_in i y v inner low high s
    stmt_in h x w (g.labelled n c i y v e f inner) low high s =
        let a = opened kind.Name low high n (c ∷ v) refl e s in
        let b = opened t.colon n.span.end high c v refl f a.rest in
        let p = breakable_in i y v inner c.span.end high b.rest in
        subst (λ (k : ℕ). Placed low high (outline (stmt_node n.span.start k (stmt.Label (name_of n) y)))) (stops y)
        (label_in (outline y) c.span.end high low n.span.start (stmt.Label (name_of n) y) (label_fields (name_of n) y) a.from (omega arith) p)
    stmt_in h x w (g.return_none k e) low high s =
        let a = opened t.return_word low high k [] refl e s in
        leaf_placed low high k.span.start k.span.end (stmt.Return []) false refl (record { from = a.from; some = a.some; upto = a.upto })
    stmt_in h x w (g.return_some k i es v e values) low high s =
        let a = opened t.return_word low high k v refl e s in
        let b = exprs_in i es v values 0 k.span.end high a.rest in
        leaf_placed low high k.span.start (exprs_end 0 es) (stmt.Return es) false refl (record { from = a.from; some = omega arith; upto = b.upto })
    stmt_in h x w (g.breaks k e) low high s =
        let a = opened t.break_word low high k [] refl e s in
        leaf_placed low high k.span.start k.span.end (stmt.Break None) true refl (record { from = a.from; some = a.some; upto = a.upto })
    stmt_in h x w (g.breaks_to k n e f) low high s =
        let a = opened t.break_word low high k (n ∷ []) refl e s in
        let b = opened kind.Name k.span.end high n [] refl f a.rest in
        leaf_placed low high k.span.start n.span.end (stmt.Break (Some _)) true refl (record { from = a.from; some = omega arith; upto = b.upto })
    stmt_in h x w (g.continues k e) low high s =
        let a = opened t.continue_word low high k [] refl e s in
        leaf_placed low high k.span.start k.span.end (stmt.Continue None) true refl (record { from = a.from; some = a.some; upto = a.upto })
    stmt_in h x w (g.continues_to k n e f) low high s =
        let a = opened t.continue_word low high k (n ∷ []) refl e s in
        let b = opened kind.Name k.span.end high n [] refl f a.rest in
        leaf_placed low high k.span.start n.span.end (stmt.Continue (Some _)) true refl (record { from = a.from; some = omega arith; upto = b.upto })
    stmt_in h x w (g.falls k e) low high s =
        let a = opened t.fallthrough_word low high k [] refl e s in
        leaf_placed low high k.span.start k.span.end stmt.Fallthrough true refl (record { from = a.from; some = a.some; upto = a.upto })
    stmt_in h x w (g.goes k l i y v e value) low high s =
        let a = opened t.go_word low high k v refl e s in
        let b = expr_in l i y v value k.span.end high a.rest in
        leaf_placed low high k.span.start (expr_end y) (stmt.Go y) false refl (record { from = a.from; some = omega arith; upto = b.upto })
    stmt_in h x w (g.defers k l i y v e value) low high s =
        let a = opened t.defer_word low high k v refl e s in
        let b = expr_in l i y v value k.span.end high a.rest in
        leaf_placed low high k.span.start (expr_end y) (stmt.Defer y) false refl (record { from = a.from; some = omega arith; upto = b.upto })
    stmt_in h x w (g.counted a var mode count i v e lt fit) low high s = absurd cc

    if_in : (h : ℕ) (x : Stmt) (w : List Word) → IsIf source most h x w → (low high : ℕ) → Spread low high w → Placed low high (outline x)
    if_in h x w (g.if_ k l i j m n end end' first test then other u v z y e firsts tests thens others) low high s =
        let a = opened t.if_word low high k (u ++ (v ++ (z ++ y))) refl e s in
        let p = halves u (v ++ (z ++ y)) k.span.end high a.rest in
        let q = halves v (z ++ y) p.mid high p.back in
        let r = halves z y q.mid high q.back in
        let le : k.span.end ≤ p.mid = spread_le k.span.end p.mid u p.front in
        let le' : p.mid ≤ q.mid = spread_le p.mid q.mid v q.front in
        let b = block_in m then end z thens q.mid r.mid r.front in
        let d = block_layer then in
        let ends : d.right < end = b.ends in
        let wide : d.left < d.right = b.wide in
        let from : q.mid ≤ d.left = b.from in
        let o = else_in n other end end' y others (d.right + 1) r.mid high (omega arith) b.upto r.back in
        let on : end ≤ end' = o.onward in
        bodied_placed low high k.span.start end' d.left (stmt.If first test then other) false (body d (other_option other)) (if_fields first test then other) a.from (omega arith) (omega arith) o.upto
        (body_lists k.span.start q.mid r.mid end end' d (other_option other) (omega arith) on b o.lists)

    else_in : (h : ℕ) (other : Option Other) (end end' : ℕ) (w : List Word) → IsElse source most h other end end' w → (base low high : ℕ) → base ≤ end → end ≤ low → Spread low high w → PlacedElse base high (other_option other) end end'
    else_in h other end end' w (g.no_else same) base low high a b s = record { onward = omega arith; upto = let le = spread_le low high [] s in omega arith; lists = tt }
    else_in h other end end' w (g.else_block k i old new d v e inner) base low high a b s =
        let c = opened t.else_word low high k v refl e s in
        let p = block_in i d new v inner k.span.end high c.rest in
        let from : k.span.end ≤ (block_layer d).left = p.from in
        let ends : (block_layer d).right < new = p.ends in
        let wide : (block_layer d).left < (block_layer d).right = p.wide in
        record { onward = omega arith; upto = p.upto; lists = subst (AreLists base new) (sym (other_fields k.span.end d)) (else_lists base k.span.end high new (block_layer d) (omega arith) p) }
    else_in h other end end' w (g.else_if k i old y v e inner) base low high a b s =
        let c = opened t.else_word low high k v refl e s in
        let p = if_in i y v inner (k.span.end + 1) high (behind_else k i y v k.span.end high e inner s.2 c.rest) in
        let from : k.span.end + 1 ≤ (mark_of (outline y)).start = p.from in
        let some : (mark_of (outline y)).start < (mark_of (outline y)).stop = p.mark.some in
        let last : (mark_of (outline y)).stop ≡ stmt_end y = stops y in
        let upto : (mark_of (outline y)).stop ≤ high = p.upto in
        record {
          onward = omega arith;
          upto = omega arith;
          lists = subst (AreLists base (stmt_end y)) (sym (else_if_fields k.span.end y)) ((omega arith, omega arith, omega arith), (p.from, p.mark, omega arith, tt), (p.inside, tt), tt);
        }

    breakable_in : (h : ℕ) (x : Stmt) (w : List Word) → IsBreakable source most h x w → (low high : ℕ) → Spread low high w → Placed low high (outline x)
    breakable_in h x w (g.for_test k i j end test b u v e tests inner) low high s =
        let a = opened t.for_word low high k (u ++ v) refl e s in
        let p = halves u v k.span.end high a.rest in
        let le : k.span.end ≤ p.mid = spread_le k.span.end p.mid u p.front in
        loop_in b end low p.mid high k.span.start (stmt.For None test None b) refl a.from (omega arith) (block_in j b end v inner p.mid high p.back)
    breakable_in h x w (g.for_parts k a' b' i j m n end first last test b u v z y e firsts f tests f' lasts inner) low high s =
        let a = opened t.for_word low high k (u ++ a' ∷ (v ++ b' ∷ (z ++ y))) refl e s in
        let p = halves u (a' ∷ (v ++ b' ∷ (z ++ y))) k.span.end high a.rest in
        let c = passed p.mid high a' (v ++ b' ∷ (z ++ y)) f p.back in
        let q = halves v (b' ∷ (z ++ y)) (a'.span.start + 1) high c.rest in
        let d = passed q.mid high b' (z ++ y) f' q.back in
        let r = halves z y (b'.span.start + 1) high d.rest in
        let le : k.span.end ≤ p.mid = spread_le k.span.end p.mid u p.front in
        let le' : a'.span.start + 1 ≤ q.mid = spread_le (a'.span.start + 1) q.mid v q.front in
        let le'' : b'.span.start + 1 ≤ r.mid = spread_le (b'.span.start + 1) r.mid z r.front in
        let from : p.mid ≤ a'.span.start = c.from in
        let from' : q.mid ≤ b'.span.start = d.from in
        loop_in b end low r.mid high k.span.start (stmt.For first test last b) refl a.from (omega arith) (block_in n b end y inner r.mid high r.back)
    breakable_in h x w (g.for_range k r' l i j end ns over b u v z e names f value inner) low high s =
        let a = opened t.for_word low high k (u ++ r' ∷ (v ++ z)) refl e s in
        let p = halves u (r' ∷ (v ++ z)) k.span.end high a.rest in
        let c = opened t.range_word p.mid high r' (v ++ z) refl f p.back in
        let q = halves v z r'.span.end high c.rest in
        let le : k.span.end ≤ p.mid = spread_le k.span.end p.mid u p.front in
        let le' : r'.span.end ≤ q.mid = spread_le r'.span.end q.mid v q.front in
        loop_in b end low q.mid high k.span.start (stmt.Range ns over b) refl a.from (omega arith) (block_in j b end z inner q.mid high q.back)
    breakable_in h x w (g.switch k a' b' i j m first tag cs u v z e firsts tags f inner f') low high s =
        let a = opened t.switch_word low high k (u ++ (v ++ a' ∷ (z ++ b' ∷ []))) refl e s in
        let p = halves u (v ++ a' ∷ (z ++ b' ∷ [])) k.span.end high a.rest in
        let q = halves v (a' ∷ (z ++ b' ∷ [])) p.mid high p.back in
        let c = opened t.left_brace q.mid high a' (z ++ b' ∷ []) refl f q.back in
        let r = halves z (b' ∷ []) a'.span.end high c.rest in
        let d = opened t.right_brace r.mid high b' [] refl f' r.back in
        let le : k.span.end ≤ p.mid = spread_le k.span.end p.mid u p.front in
        let le' : p.mid ≤ q.mid = spread_le p.mid q.mid v q.front in
        let le'' : a'.span.end ≤ r.mid = spread_le a'.span.end r.mid z r.front in
        bodied_placed low high k.span.start b'.span.end a'.span.start (stmt.Switch first tag a'.span.start cs) true (clause_lists (map case_layer cs)) (switch_fields first tag a'.span.start cs) a.from (omega arith) (omega arith) d.upto
        (cases_in m cs z inner k.span.start a'.span.end r.mid b'.span.end (omega arith) (omega arith) r.front)
    breakable_in h x w (g.select k a' b' i cs z e f inner few f') low high s =
        let a = opened t.select_word low high k (a' ∷ (z ++ b' ∷ [])) refl e s in
        let c = opened t.left_brace k.span.end high a' (z ++ b' ∷ []) refl f a.rest in
        let r = halves z (b' ∷ []) a'.span.end high c.rest in
        let d = opened t.right_brace r.mid high b' [] refl f' r.back in
        let le'' : a'.span.end ≤ r.mid = spread_le a'.span.end r.mid z r.front in
        bodied_placed low high k.span.start b'.span.end a'.span.start (stmt.Select a'.span.start cs) true (clause_lists (map comm_layer cs)) (select_fields a'.span.start cs) a.from (omega arith) (omega arith) d.upto
        (comms_in i cs z inner k.span.start a'.span.end r.mid b'.span.end (omega arith) (omega arith) r.front)

    cases_in : (h : ℕ) (cs : List CaseClause) (w : List Word) → IsCases source most h cs w → (base low mid high : ℕ) → base ≤ low → mid < high → Spread low mid w → AreLists base high (clause_lists (map case_layer cs))
    cases_in h cs w g.no_cases base low mid high a b s = tt
    cases_in h cs w (g.more_cases i j c ds v z inner more) base low mid high a b s =
        let p = halves v z low mid s in
        let le : p.mid ≤ mid = spread_le p.mid mid z p.back in
        case_in i c v inner (clause_lists (map case_layer ds)) base low p.mid high a (omega arith) p.front (λ last up. cases_in j ds z more last p.mid mid high up b p.back)

    case_in : (h : ℕ) (c : CaseClause) (w : List Word) → IsCase source most h c w → (more : Lists) (base low mid high : ℕ) → base ≤ low → mid < high → Spread low mid w → ((last : ℕ) → last ≤ mid → AreLists last high more)
        → AreLists base high (next_list (clause (case_layer c).colon) (case_layer c).list more)
    case_in h c w (g.case_ k d i j es ss v z e values f inner) more base low mid high a b s rest =
        subst (λ (x : Clause). AreLists base high (next_list (clause x.colon) x.list more)) (sym (case_fields (Some es) d.span.start ss))
        (
        let p = opened t.case_word low mid k (v ++ d ∷ z) refl e s in
        let q = halves v (d ∷ z) k.span.end mid p.rest in
        let r = opened t.colon q.mid mid d z refl f q.back in
        let le : k.span.end ≤ q.mid = spread_le k.span.end q.mid v q.front in
        let list = list_in j ss z inner d.span.end mid r.rest in
        let marked : AreMarks (d.span.start + 1) mid (marks (outlines ss)) = marks_within (d.span.start + 1) d.span.end mid mid (marks (outlines ss)) (omega arith) (omega arith) list.marked in (
          (omega arith, omega arith),
          marks_within (d.span.start + 1) (d.span.start + 1) (high - 1) mid (marks (outlines ss)) (omega arith) (omega arith) marked,
          list.inside,
          rest (last_stop (d.span.start + 1) (marks (outlines ss))) (last_within (d.span.start + 1) (d.span.start + 1) mid (marks (outlines ss)) (omega arith) marked),
        ))
    case_in h c w (g.default_ k d i ss z e f inner) more base low mid high a b s rest =
        subst (λ (x : Clause). AreLists base high (next_list (clause x.colon) x.list more)) (sym (case_fields None d.span.start ss))
        (
        let p = opened t.default_word low mid k (d ∷ z) refl e s in
        let r = opened t.colon k.span.end mid d z refl f p.rest in
        let list = list_in i ss z inner d.span.end mid r.rest in
        let marked : AreMarks (d.span.start + 1) mid (marks (outlines ss)) = marks_within (d.span.start + 1) d.span.end mid mid (marks (outlines ss)) (omega arith) (omega arith) list.marked in (
          (omega arith, omega arith),
          marks_within (d.span.start + 1) (d.span.start + 1) (high - 1) mid (marks (outlines ss)) (omega arith) (omega arith) marked,
          list.inside,
          rest (last_stop (d.span.start + 1) (marks (outlines ss))) (last_within (d.span.start + 1) (d.span.start + 1) mid (marks (outlines ss)) (omega arith) marked),
        ))

    comms_in : (h : ℕ) (cs : List CommClause) (w : List Word) → IsComms source most h cs w → (base low mid high : ℕ) → base ≤ low → mid < high → Spread low mid w → AreLists base high (clause_lists (map comm_layer cs))
    comms_in h cs w g.no_comms base low mid high a b s = tt
    comms_in h cs w (g.more_comms i j c ds v z inner more) base low mid high a b s =
        let p = halves v z low mid s in
        let le : p.mid ≤ mid = spread_le p.mid mid z p.back in
        comm_in i c v inner (clause_lists (map comm_layer ds)) base low p.mid high a (omega arith) p.front (λ last up. comms_in j ds z more last p.mid mid high up b p.back)

    comm_in : (h : ℕ) (c : CommClause) (w : List Word) → IsCommClause source most h c w → (more : Lists) (base low mid high : ℕ) → base ≤ low → mid < high → Spread low mid w → ((last : ℕ) → last ≤ mid → AreLists last high more)
        → AreLists base high (next_list (clause (comm_layer c).colon) (comm_layer c).list more)
    comm_in h c w (g.comm_case k d i j m ss v z e values f inner) more base low mid high a b s rest =
        subst (λ (x : Clause). AreLists base high (next_list (clause x.colon) x.list more)) (sym (comm_fields m d.span.start ss))
        (
        let p = opened t.case_word low mid k (v ++ d ∷ z) refl e s in
        let q = halves v (d ∷ z) k.span.end mid p.rest in
        let r = opened t.colon q.mid mid d z refl f q.back in
        let le : k.span.end ≤ q.mid = spread_le k.span.end q.mid v q.front in
        let list = list_in j ss z inner d.span.end mid r.rest in
        let marked : AreMarks (d.span.start + 1) mid (marks (outlines ss)) = marks_within (d.span.start + 1) d.span.end mid mid (marks (outlines ss)) (omega arith) (omega arith) list.marked in (
          (omega arith, omega arith),
          marks_within (d.span.start + 1) (d.span.start + 1) (high - 1) mid (marks (outlines ss)) (omega arith) (omega arith) marked,
          list.inside,
          rest (last_stop (d.span.start + 1) (marks (outlines ss))) (last_within (d.span.start + 1) (d.span.start + 1) mid (marks (outlines ss)) (omega arith) marked),
        ))
    comm_in h c w (g.comm_default k d i ss z e f inner) more base low mid high a b s rest =
        subst (λ (x : Clause). AreLists base high (next_list (clause x.colon) x.list more)) (sym (comm_fields comm.Default d.span.start ss))
        (
        let p = opened t.default_word low mid k (d ∷ z) refl e s in
        let r = opened t.colon k.span.end mid d z refl f p.rest in
        let list = list_in i ss z inner d.span.end mid r.rest in
        let marked : AreMarks (d.span.start + 1) mid (marks (outlines ss)) = marks_within (d.span.start + 1) d.span.end mid mid (marks (outlines ss)) (omega arith) (omega arith) list.marked in (
          (omega arith, omega arith),
          marks_within (d.span.start + 1) (d.span.start + 1) (high - 1) mid (marks (outlines ss)) (omega arith) (omega arith) marked,
          list.inside,
          rest (last_stop (d.span.start + 1) (marks (outlines ss))) (last_within (d.span.start + 1) (d.span.start + 1) mid (marks (outlines ss)) (omega arith) marked),
        ))

    pub block_in : (h : ℕ) (b : Block) (end : ℕ) (w : List Word) → IsBlock source most h b end w → (low high : ℕ) → Spread low high w → PlacedBlock low high (block_layer b) end
    block_in h b end w (g.braces a c i ss v e inner f) low high s =
        let p = opened t.left_brace low high a (v ++ c ∷ []) refl e s in
        let q = halves v (c ∷ []) a.span.end high p.rest in
        let r = opened t.right_brace q.mid high c [] refl f q.back in
        let le : a.span.end ≤ q.mid = spread_le a.span.end q.mid v q.front in
        let list = list_in i ss v inner a.span.end q.mid q.front in
        subst (λ d. PlacedBlock low high d c.span.end) (sym (block_fields a.span.start c.span.start ss))
        (record {
          from = p.from;
          wide = omega arith;
          ends = r.some;
          upto = r.upto;
          shown = refl;
          marked = marks_within (a.span.start + 1) a.span.end c.span.start q.mid (marks (outlines ss)) (omega arith) (omega arith) list.marked;
          inside = list.inside;
        })

    list_in : (h : ℕ) (ss : List Stmt) (w : List Word) → IsList source most h ss w → (low high : ℕ) → Spread low high w → PlacedList low high (outlines ss)
    list_in h ss w g.no_stmts low high s = record { marked = tt; inside = tt }
    list_in h ss w (g.stmts i xs v z inner may) low high s =
        let p = halves v z low high s in
        let le : p.mid ≤ high = spread_le p.mid high z p.back in
        let list = stmts_in i xs v inner low p.mid p.front in
        record { marked = marks_within low low high p.mid (marks (outlines xs)) (omega arith) le list.marked; inside = list.inside }

    stmts_in : (h : ℕ) (ss : List Stmt) (w : List Word) → IsStmts source most h ss w → (low high : ℕ) → Spread low high w → PlacedList low high (outlines ss)
    stmts_in h ss w (g.one_stmt i x v inner) low high s =
        let p = stmt_in i x v inner low high s in
        record { marked = (p.from, p.mark, p.upto, tt); inside = (p.inside, tt) }
    stmts_in h ss w (g.more_stmts c i j x xs v z inner e more) low high s =
        let p = halves v (c ∷ z) low high s in
        let q = stmt_in i x v inner low p.mid p.front in
        let d = passed p.mid high c z e p.back in
        let from : p.mid ≤ c.span.start = d.from in
        let upto : (mark_of (outline x)).stop ≤ p.mid = q.upto in
        let list = stmts_in j xs z more (c.span.start + 1) high d.rest in
        let le : c.span.start < high = d.upto in
        record {
          marked = (q.from, q.mark, omega arith, marks_within ((mark_of (outline x)).stop + 1) (c.span.start + 1) high high (marks (outlines xs)) (omega arith) (omega arith) list.marked);
          inside = (q.inside, list.inside);
        }
