-- No counter of a placed file is put where a `}` is put behind an `else if`.
use Rattle.std.proofs.Common.{◌≡◌, ℕ, ◌+◌, ◌-◌, ◌≤◌, ◌<◌, true, false, List, [], ◌∷◌, ◌++◌, map, refl, sym, ap, subst, ◌∙◌, arith, inl, inr, append_assoc}
use Rattle.std.specs.Prelude.{◌≢◌, All}
use Rattle.std.specs.List.{flat_map}
use Rattle.go_ast.specs.declared.file.File.{File}
use Rattle.go_ast.specs.declared.decl.Func.{Func}
use Rattle.cov_cut.specs.declared.unit.Unit.{Unit as CutUnit}
use Rattle.cov_cut.specs.Outline.{Mark, Kind, braces, else_braces, else_if, clause, Node, node, mark_of, Nodes, no_node, next_node, Lists, no_list, next_list, marks, Listing, heads, lists_in, lists_among, lists_behind, lists_along}
use Rattle.cov_cut.specs.Outlining.{block_outline, body}
use Rattle.cov_cut.specs.Units.{frame, segments, func_lists, func_units, cut_in, units_of}
use Rattle.cov_cut.specs.Placement.{AreMarks, IsBetween, first_offset, last_offset, last_stop, list_stop, IsNode, AreNodes, AreLists, IsFunc, AreFuncs, IsPlaced}
use Rattle.cov_cut.specs.Laws.{end_of, ends_in, lists_of}
use Rattle.cov_cut.proofs.Placed.{Each, each_all}
use Rattle.cov_cut.proofs.Apart.{Differ, Cross, In, Inner, Between, Outside, NodesFacts, own, inserts, inserts_in, file_inserts, both, weaker, cross_right, two_inserts, in_two, in_cons, own_of, starts_of, last_le, inner_starts, nodes_inner, nodes_facts, together_facts, along_facts, before_all, starts_outside, insert_in, insert_first, list_facts, span_some, funcs_above, func_in}

-- ---- offsets

ends_two : (xs ys : List Listing) → ends_in (xs ++ ys) ≡ ends_in xs ++ ends_in ys
ends_two [] ys = refl
ends_two (x ∷ xs) ys = ap (λ l. end_of x.kind ++ l) (ends_two xs ys) ∙ sym (assoc (end_of x.kind) (ends_in xs) (ends_in ys)) where
  assoc : (us vs ws : List ℕ) → (us ++ vs) ++ ws ≡ us ++ (vs ++ ws)
  assoc [] vs ws = refl
  assoc (u ∷ us) vs ws = ap (λ l. u ∷ l) (assoc us vs ws)

-- up to an offset
pub record Upto (start stop e : ℕ) : Type 0 where
  pub after : start < e
  pub upto : e ≤ stop

-- counters up to an offset, ends behind it
cross_below : (b : ℕ) (xs ys : List ℕ) → Each (λ a. a ≤ b) xs → Each (λ e. b < e) ys → Cross xs ys
cross_below b xs ys f g = weaker (λ a. a ≤ b) (λ a. Each (Differ a) ys) (λ a h. weaker (λ e. b < e) (Differ a) (λ e k same. absurd (omega arith)) ys g) xs f

cross_above : (b : ℕ) (xs ys : List ℕ) → Each (λ a. b < a) xs → Each (λ e. e ≤ b) ys → Cross xs ys
cross_above b xs ys f g = weaker (λ a. b < a) (λ a. Each (Differ a) ys) (λ a h. weaker (λ e. e ≤ b) (Differ a) (λ e k same. absurd (omega arith)) ys g) xs f

-- ---- in statements

pub record NodeEnds (n : Node) : Type 0 where
  pub within : Each (Upto (mark_of n).start (mark_of n).stop) (ends_in (lists_in n))
  pub crossed : Cross (inserts_in (lists_in n)) (ends_in (lists_in n))

abbrev pub NodesEnds : Nodes → Type 0
NodesEnds no_node = Unit {0}
NodesEnds (next_node n ns) = NodeEnds n × NodesEnds ns

pub record Upper (low high stop e : ℕ) : Type 0 where
  pub from : low < e
  pub within : e ≤ high
  pub upto : e ≤ stop

nodes_upper : (base low high : ℕ) (ns : Nodes) → AreMarks low high (marks ns) → NodesEnds ns → Each (Upper low high (last_stop base (marks ns))) (ends_in (lists_among ns))
nodes_upper base low high no_node h f = tt
nodes_upper base low high (next_node n ns) h f =
    let m = mark_of n in
    let first : low ≤ (mark_of n).start = h.0 in
    let some : (mark_of n).start < (mark_of n).stop = h.1.some in
    let within : (mark_of n).stop ≤ high = h.2 in
    let rest : (mark_of n).stop ≤ last_stop (mark_of n).stop (marks ns) = last_le m.stop (m.stop + 1) high (marks ns) h.3 (omega arith) in
    subst (Each (Upper low high (last_stop m.stop (marks ns)))) (sym (ends_two (lists_in n) (lists_among ns)))
    (both (Upper low high (last_stop m.stop (marks ns))) (ends_in (lists_in n)) (ends_in (lists_among ns))
    (weaker (Upto m.start m.stop) (Upper low high (last_stop m.stop (marks ns)))
    (λ e u. let after : (mark_of n).start < e = u.after in let upto : e ≤ (mark_of n).stop = u.upto in record { from = omega arith; within = omega arith; upto = omega arith })
    (ends_in (lists_in n)) f.0.within)
    (weaker (Upper (m.stop + 1) high (last_stop m.stop (marks ns))) (Upper low high (last_stop m.stop (marks ns)))
    (λ e u. let from : (mark_of n).stop + 1 < e = u.from in record { from = omega arith; within = u.within; upto = u.upto })
    (ends_in (lists_among ns)) (nodes_upper m.stop (m.stop + 1) high ns h.3 f.1)))

nodes_cross : (low high : ℕ) (ns : Nodes) → AreMarks low high (marks ns) → NodesFacts ns → NodesEnds ns → Cross (inserts_in (lists_among ns)) (ends_in (lists_among ns))
nodes_cross low high no_node h f g = tt
nodes_cross low high (next_node n ns) h f g =
    let m = mark_of n in
    let a = inserts_in (lists_in n) in
    let x = inserts_in (lists_among ns) in
    let e = ends_in (lists_in n) in
    let y = ends_in (lists_among ns) in
    let upper = nodes_upper m.stop (m.stop + 1) high ns h.3 g.1 in
    let inner = nodes_inner m.stop (m.stop + 1) high ns h.3 f.1 in
    subst (λ l. Cross l (ends_in (lists_in n ++ lists_among ns))) (sym (in_two (lists_in n) (lists_among ns)))
    (subst (Cross (inserts_in (lists_in n) ++ inserts_in (lists_among ns))) (sym (ends_two (lists_in n) (lists_among ns)))
    (both (λ (c : ℕ). Each (Differ c) (ends_in (lists_in n) ++ ends_in (lists_among ns))) a x
    (cross_right a e y g.0.crossed
    (cross_below m.stop a y
    (weaker (Between m.start m.stop) (λ c. c ≤ m.stop) (λ c b. let before : c < (mark_of n).stop = b.before in omega arith) a f.0.within)
    (weaker (Upper (m.stop + 1) high (last_stop m.stop (marks ns))) (λ c. m.stop < c) (λ c u. let from : (mark_of n).stop + 1 < c = u.from in omega arith) y upper)))
    (cross_right x e y
    (cross_above m.stop x e
    (weaker (Inner (m.stop + 1) high (last_stop m.stop (marks ns))) (λ c. m.stop < c) (λ c i. let from : (mark_of n).stop + 1 ≤ c = i.from in omega arith) x inner)
    (weaker (Upto m.start m.stop) (λ c. c ≤ m.stop) (λ c u. u.upto) e g.0.within))
    (nodes_cross (m.stop + 1) high ns h.3 f.1 g.1))))

outside_by : (a : ℕ) (m : Mark) → Outside a m → (xs : List ℕ) → Each (Upto m.start m.stop) xs → Each (Differ a) xs
outside_by a m (inl h) xs f = weaker (Upto m.start m.stop) (Differ a) (λ x u e. let after : m.start < x = u.after in absurd (omega arith)) xs f
outside_by a m (inr h) xs f = weaker (Upto m.start m.stop) (Differ a) (λ x u e. let upto : x ≤ m.stop = u.upto in absurd (omega arith)) xs f

outside_ends : (a : ℕ) (ns : Nodes) → Each (Outside a) (marks ns) → NodesEnds ns → Each (Differ a) (ends_in (lists_among ns))
outside_ends a no_node h f = tt
outside_ends a (next_node n ns) h f =
    subst (Each (Differ a)) (sym (ends_two (lists_in n) (lists_among ns)))
    (both (Differ a) (ends_in (lists_in n)) (ends_in (lists_among ns)) (outside_by a (mark_of n) h.0 (ends_in (lists_in n)) f.0.within) (outside_ends a ns h.1 f.1))

-- ---- one list with what is in its statements

upper_in : (low high : ℕ) (k : Kind) (ms : List Mark) (e : ℕ) → IsBetween low high k → Upper (first_offset k) (last_offset high k) (last_stop (first_offset k) ms) e → Upto low (list_stop k ms) e
upper_in low high (braces left right) ms e h u = let from : left + 1 < e = u.from in let within : e ≤ right = u.within in record { after = omega arith; upto = omega arith }
upper_in low high (else_braces after left right) ms e h u = let from : left + 1 < e = u.from in let within : e ≤ right = u.within in record { after = omega arith; upto = omega arith }
upper_in low high (else_if after right) ms e h u = let from : after + 1 < e = u.from in let within : e ≤ right = u.within in record { after = omega arith; upto = omega arith }
upper_in low high (clause colon) ms e h u = let from : colon + 1 < e = u.from in record { after = omega arith; upto = u.upto }

end_in : (low high : ℕ) (k : Kind) (ms : List Mark) → IsBetween low high k → Each (Upto low (list_stop k ms)) (end_of k)
end_in low high (braces left right) ms h = tt
end_in low high (else_braces after left right) ms h = tt
end_in low high (else_if after right) ms h = (record { after = omega arith; upto = omega arith }, tt)
end_in low high (clause colon) ms h = tt

-- what is below the last offset of a list isn't its end
end_differs : (low high : ℕ) (k : Kind) (a : ℕ) → IsBetween low high k → a < last_offset high k → Each (Differ a) (end_of k)
end_differs low high (braces left right) a h lt = tt
end_differs low high (else_braces after left right) a h lt = tt
end_differs low high (else_if after right) a h lt = (λ e. absurd (omega arith), tt)
end_differs low high (clause colon) a h lt = tt

insert_differs : (low high : ℕ) (k : Kind) → IsBetween low high k → Each (Differ (frame k).insert) (end_of k)
insert_differs low high (braces left right) h = tt
insert_differs low high (else_braces after left right) h = tt
insert_differs low high (else_if after right) h = (λ e. absurd (omega arith), tt)
insert_differs low high (clause colon) h = tt

pub record ListEnds (low stop : ℕ) (k : Kind) (ns : Nodes) : Type 0 where
  pub end : Each (Upto low stop) (end_of k)
  pub nested : Each (Upto low stop) (ends_in (lists_among ns))
  pub own_end : Cross (own k (marks ns)) (end_of k)
  pub own_nested : Cross (own k (marks ns)) (ends_in (lists_among ns))
  pub in_end : Cross (inserts_in (lists_among ns)) (end_of k)
  pub in_nested : Cross (inserts_in (lists_among ns)) (ends_in (lists_among ns))

list_ends : (low high : ℕ) (k : Kind) (ns : Nodes) → IsBetween low high k → AreMarks (first_offset k) (last_offset high k) (marks ns) → NodesFacts ns → NodesEnds ns → ListEnds low (list_stop k (marks ns)) k ns
list_ends low high k ns h marked f g =
    let ms = marks ns in
    let starts = inner_starts (first_offset k) (first_offset k) (last_offset high k) ms marked in
    let inner = nodes_inner (first_offset k) (first_offset k) (last_offset high k) ns marked f in
    record {
      end = end_in low high k ms h;
      nested = weaker (Upper (first_offset k) (last_offset high k) (last_stop (first_offset k) ms)) (Upto low (list_stop k ms)) (λ e. upper_in low high k ms e h) (ends_in (lists_among ns))
          (nodes_upper (first_offset k) (first_offset k) (last_offset high k) ns marked g);
      own_end = own_of (λ (a : ℕ). Each (Differ a) (end_of k)) (frame k) (segments ms) (insert_differs low high k h)
          (starts_of (λ (a : ℕ). Each (Differ a) (end_of k)) ms
          (weaker (λ (m : Mark). Inner (first_offset k) (last_offset high k) (last_stop (first_offset k) (marks ns)) m.start) (λ (m : Mark). Each (Differ m.start) (end_of k)) (λ m i. end_differs low high k m.start h i.below) ms starts));
      own_nested = own_of (λ (a : ℕ). Each (Differ a) (ends_in (lists_among ns))) (frame k) (segments ms)
          (outside_ends (frame k).insert ns (before_all (frame k).insert (first_offset k) (last_offset high k) ms (insert_first k) marked) g)
          (starts_of (λ (a : ℕ). Each (Differ a) (ends_in (lists_among ns))) ms
          (weaker (λ (m : Mark). Each (Outside m.start) (marks ns)) (λ (m : Mark). Each (Differ m.start) (ends_in (lists_among ns))) (λ m o. outside_ends m.start ns o g) ms (starts_outside (first_offset k) (last_offset high k) ms marked)));
      in_end = weaker (Inner (first_offset k) (last_offset high k) (last_stop (first_offset k) ms)) (λ a. Each (Differ a) (end_of k)) (λ a i. end_differs low high k a h i.below) (inserts_in (lists_among ns)) inner;
      in_nested = nodes_cross (first_offset k) (last_offset high k) ns marked f g;
    }

-- ---- several lists

cross_four : (xs xs' ys ys' : List ℕ) → Cross xs ys → Cross xs ys' → Cross xs' ys → Cross xs' ys' → Cross (xs ++ xs') (ys ++ ys')
cross_four xs xs' ys ys' a b c d = both (λ (x : ℕ). Each (Differ x) (ys ++ ys')) xs xs' (cross_right xs ys ys' a b) (cross_right xs' ys ys' c d)

-- first parts up to an offset, second parts behind it
quad : (low stop high : ℕ) (xs xs' ys ys' : List ℕ) → Each (In low stop high) xs → Each (In stop high high) xs' → Each (Upto low stop) ys → Each (Upto stop high) ys'
    → Cross xs ys → Cross xs' ys' → Cross (xs ++ xs') (ys ++ ys')
quad low stop high xs xs' ys ys' f g h k c d =
    cross_four xs xs' ys ys' c
    (cross_below stop xs ys' (weaker (In low stop high) (λ a. a ≤ stop) (λ a i. i.upto) xs f) (weaker (Upto stop high) (λ e. stop < e) (λ e u. u.after) ys' k))
    (cross_above stop xs' ys (weaker (In stop high high) (λ a. stop < a) (λ a i. i.above) xs' g) (weaker (Upto low stop) (λ e. e ≤ stop) (λ e u. u.upto) ys h))
    d

widen : (low low' stop high : ℕ) → low ≤ low' → stop ≤ high → (xs : List ℕ) → Each (Upto low' stop) xs → Each (Upto low high) xs
widen low low' stop high h k xs f = weaker (Upto low' stop) (Upto low high) (λ e u. let after : low' < e = u.after in let upto : e ≤ stop = u.upto in record { after = omega arith; upto = omega arith }) xs f

stop_within : (low high : ℕ) (k : Kind) (ms : List Mark) → IsBetween low high k → AreMarks (first_offset k) (last_offset high k) ms → list_stop k ms ≤ high
stop_within low high (braces left right) ms h marked = omega arith
stop_within low high (else_braces after left right) ms h marked = omega arith
stop_within low high (else_if after right) ms h marked = omega arith
stop_within low high (clause colon) ms h marked = let a : last_stop (colon + 1) ms ≤ high - 1 = stop_upto (colon + 1) (colon + 1) (high - 1) ms marked (omega arith) in omega arith where
  stop_upto : (base low high : ℕ) (ms : List Mark) → AreMarks low high ms → base ≤ high → last_stop base ms ≤ high
  stop_upto base low high [] marked h = h
  stop_upto base low high (m ∷ ms) marked h = stop_upto m.stop (m.stop + 1) high ms marked.3 marked.2

pub record TogetherEnds (low high : ℕ) (ls : Lists) : Type 0 where
  pub heads_in : Each (Upto low high) (ends_in (heads ls))
  pub behind_in : Each (Upto low high) (ends_in (lists_behind ls))
  pub heads_heads : Cross (inserts_in (heads ls)) (ends_in (heads ls))
  pub heads_behind : Cross (inserts_in (heads ls)) (ends_in (lists_behind ls))
  pub behind_heads : Cross (inserts_in (lists_behind ls)) (ends_in (heads ls))
  pub behind_behind : Cross (inserts_in (lists_behind ls)) (ends_in (lists_behind ls))

pub record AlongEnds (low high : ℕ) (ls : Lists) : Type 0 where
  pub all_in : Each (Upto low high) (ends_in (lists_along ls))
  pub crossed : Cross (inserts_in (lists_along ls)) (ends_in (lists_along ls))

along : {xs xs' ys ys' : List ℕ} → xs ≡ xs' → ys ≡ ys' → Cross xs' ys' → Cross xs ys
along {xs = xs} {xs' = xs'} {ys = ys} {ys' = ys'} e f h = subst (λ l. Cross l ys) (sym e) (subst (Cross xs') (sym f) h)

together_step : (low high : ℕ) (k : Kind) (ns : Nodes) (more : Lists) → IsBetween low high k → AreMarks (first_offset k) (last_offset high k) (marks ns) → NodesFacts ns → NodesEnds ns
    → AreLists (list_stop k (marks ns)) high more → TogetherEnds (list_stop k (marks ns)) high more → TogetherEnds low high (next_list k ns more)
together_step low high k ns more h marked f g lists rest =
    let stop = list_stop k (marks ns) in
    let l = list_facts low high k ns h marked f in
    let e = list_ends low high k ns h marked f g in
    let t = together_facts stop high more lists in
    let i = insert_in low high k (marks ns) h marked in
    let above : low < (frame k).insert = i.above in
    let upto : (frame k).insert ≤ list_stop k (marks ns) = i.upto in
    let within = stop_within low high k (marks ns) h marked in
    let heads_are = in_cons k (marks ns) (heads more) in
    let behind_are = in_two (lists_among ns) (lists_behind more) in
    let ends_are = ends_two (lists_among ns) (lists_behind more) in
    let o = own k (marks ns) in
    let n = inserts_in (lists_among ns) in
    let m = ends_in (lists_among ns) in
    let hs = inserts_in (heads more) in
    let bs = inserts_in (lists_behind more) in
    let es = ends_in (heads more) in
    let fs = ends_in (lists_behind more) in
    record {
      heads_in = both (Upto low high) (end_of k) es (widen low low stop high (omega arith) within (end_of k) e.end) (widen low stop high high (omega arith) (omega arith) es rest.heads_in);
      behind_in = subst (Each (Upto low high)) (sym ends_are)
          (both (Upto low high) m fs (widen low low stop high (omega arith) within m e.nested) (widen low stop high high (omega arith) (omega arith) fs rest.behind_in));
      heads_heads = along heads_are refl (quad low stop high o hs (end_of k) es l.own_in t.heads_in e.end rest.heads_in e.own_end rest.heads_heads);
      heads_behind = along heads_are ends_are (quad low stop high o hs m fs l.own_in t.heads_in e.nested rest.behind_in e.own_nested rest.heads_behind);
      behind_heads = along behind_are refl (quad low stop high n bs (end_of k) es l.nested_in t.behind_in e.end rest.heads_in e.in_end rest.behind_heads);
      behind_behind = along behind_are ends_are (quad low stop high n bs m fs l.nested_in t.behind_in e.nested rest.behind_in e.in_nested rest.behind_behind);
    }

along_step : (low high : ℕ) (k : Kind) (ns : Nodes) (more : Lists) → IsBetween low high k → AreMarks (first_offset k) (last_offset high k) (marks ns) → NodesFacts ns → NodesEnds ns
    → AreLists (list_stop k (marks ns)) high more → AlongEnds (list_stop k (marks ns)) high more → AlongEnds low high (next_list k ns more)
along_step low high k ns more h marked f g lists rest =
    let stop = list_stop k (marks ns) in
    let l = list_facts low high k ns h marked f in
    let e = list_ends low high k ns h marked f g in
    let a = along_facts stop high more lists in
    let i = insert_in low high k (marks ns) h marked in
    let above : low < (frame k).insert = i.above in
    let upto : (frame k).insert ≤ list_stop k (marks ns) = i.upto in
    let within = stop_within low high k (marks ns) h marked in
    let o = own k (marks ns) in
    let n = inserts_in (lists_among ns) in
    let m = ends_in (lists_among ns) in
    let rs = inserts_in (lists_along more) in
    let es = ends_in (lists_along more) in
    let inserts_are : inserts_in (lists_along (next_list k ns more)) ≡ (own k (marks ns) ++ inserts_in (lists_among ns)) ++ inserts_in (lists_along more) =
    in_cons k (marks ns) (lists_among ns ++ lists_along more) ∙ ap (λ x. own k (marks ns) ++ x) (in_two (lists_among ns) (lists_along more)) ∙ sym (append_assoc (own k (marks ns)) (inserts_in (lists_among ns)) (inserts_in (lists_along more))) in
    let ends_are : ends_in (lists_along (next_list k ns more)) ≡ (end_of k ++ ends_in (lists_among ns)) ++ ends_in (lists_along more) =
    ap (λ x. end_of k ++ x) (ends_two (lists_among ns) (lists_along more)) ∙ sym (append_assoc (end_of k) (ends_in (lists_among ns)) (ends_in (lists_along more))) in
    let first = both (Upto low stop) (end_of k) m e.end e.nested in
    record {
      all_in = subst (Each (Upto low high)) (sym ends_are)
          (both (Upto low high) (end_of k ++ m) es (widen low low stop high (omega arith) within (end_of k ++ m) first) (widen low stop high high (omega arith) (omega arith) es rest.all_in));
      crossed = along inserts_are ends_are
          (quad low stop high (o ++ n) rs (end_of k ++ m) es (both (In low stop high) o n l.own_in l.nested_in) a.all_in first rest.all_in
          (cross_four o n (end_of k) m e.own_end e.own_nested e.in_end e.in_nested) rest.crossed);
    }

mutual
  node_ends : (n : Node) → IsNode n → NodeEnds n
  node_ends (node m true inside) h =
      let t = together_ends m.start m.stop inside h in
      record {
        within = subst (Each (Upto m.start m.stop)) (sym (ends_two (heads inside) (lists_behind inside))) (both (Upto m.start m.stop) (ends_in (heads inside)) (ends_in (lists_behind inside)) t.heads_in t.behind_in);
        crossed = along (in_two (heads inside) (lists_behind inside)) (ends_two (heads inside) (lists_behind inside))
            (cross_four (inserts_in (heads inside)) (inserts_in (lists_behind inside)) (ends_in (heads inside)) (ends_in (lists_behind inside)) t.heads_heads t.heads_behind t.behind_heads t.behind_behind);
      }
  node_ends (node m false inside) h = let a = along_ends m.start m.stop inside h in record { within = a.all_in; crossed = a.crossed }

  nodes_ends : (ns : Nodes) → AreNodes ns → NodesEnds ns
  nodes_ends no_node h = tt
  nodes_ends (next_node n ns) h = (node_ends n h.0, nodes_ends ns h.1)

  together_ends : (low high : ℕ) (ls : Lists) → AreLists low high ls → TogetherEnds low high ls
  together_ends low high no_list h = record { heads_in = tt; behind_in = tt; heads_heads = tt; heads_behind = tt; behind_heads = tt; behind_behind = tt }
  together_ends low high (next_list k ns more) h =
      together_step low high k ns more h.0 h.1 (nodes_facts ns h.2) (nodes_ends ns h.2) h.3 (together_ends (list_stop k (marks ns)) high more h.3)

  along_ends : (low high : ℕ) (ls : Lists) → AreLists low high ls → AlongEnds low high ls
  along_ends low high no_list h = record { all_in = tt; crossed = tt }
  along_ends low high (next_list k ns more) h =
      along_step low high k ns more h.0 h.1 (nodes_facts ns h.2) (nodes_ends ns h.2) h.3 (along_ends (list_stop k (marks ns)) high more h.3)

-- ---- functions and files

func_along : (f : Func) → IsFunc f → AlongEnds f.span.start f.span.end (body (block_outline f.body) no_list)
func_along f h = along_ends f.span.start f.span.end (body (block_outline f.body) no_list) h

func_upto : (f : Func) → IsFunc f → Each (Upto f.span.start f.span.end) (ends_in (func_lists f))
unfolding func_lists
func_upto f h = (func_along f h).all_in

func_cross : (f : Func) → IsFunc f → Cross (inserts (func_units f).units) (ends_in (func_lists f))
unfolding func_lists
func_cross f h = (func_along f h).crossed

ends_above : (low : ℕ) (fs : List Func) → AreFuncs low fs → Each (λ e. low < e) (ends_in (flat_map func_lists fs))
ends_above low [] h = tt
ends_above low (f ∷ fs) h =
    let from : low ≤ f.span.start = h.0 in
    let some : f.span.start ≤ f.span.end = span_some f h.1 in
    subst (Each (λ e. low < e)) (sym (ends_two (func_lists f) (flat_map func_lists fs)))
    (both (λ e. low < e) (ends_in (func_lists f)) (ends_in (flat_map func_lists fs))
    (weaker (Upto f.span.start f.span.end) (λ e. low < e) (λ e u. let after : f.span.start < e = u.after in omega arith) (ends_in (func_lists f)) (func_upto f h.1))
    (weaker (λ e. f.span.end < e) (λ e. low < e) (λ e a. omega arith) (ends_in (flat_map func_lists fs)) (ends_above f.span.end fs h.2)))

funcs_cross : (low : ℕ) (fs : List Func) → AreFuncs low fs → Cross (file_inserts fs) (ends_in (flat_map func_lists fs))
funcs_cross low [] h = tt
funcs_cross low (f ∷ fs) h =
    along (two_inserts (func_units f).units (flat_map (λ g. g.units) (map func_units fs))) (ends_two (func_lists f) (flat_map func_lists fs))
    (cross_four (inserts (func_units f).units) (file_inserts fs) (ends_in (func_lists f)) (ends_in (flat_map func_lists fs))
    (func_cross f h.1)
    (cross_below f.span.end (inserts (func_units f).units) (ends_in (flat_map func_lists fs))
    (weaker (In f.span.start f.span.end f.span.end) (λ a. a ≤ f.span.end) (λ a i. i.upto) (inserts (func_units f).units) (func_in f h.1)) (ends_above f.span.end fs h.2))
    (cross_above f.span.end (file_inserts fs) (ends_in (func_lists f)) (funcs_above f.span.end fs h.2)
    (weaker (Upto f.span.start f.span.end) (λ e. e ≤ f.span.end) (λ e u. u.upto) (ends_in (func_lists f)) (func_upto f h.1)))
    (funcs_cross f.span.end fs h.2))

units_cross : (us : List CutUnit) (es : List ℕ) → Cross (inserts us) es → Each (λ u. All (λ e. u.insert ≢ e) es) us
units_cross [] es h = tt
units_cross (u ∷ us) es h = (each_all (λ e. u.insert ≢ e) es h.0, units_cross us es h.1)

pub file_ends : (file : File) → IsPlaced file → All (λ u. All (λ e. u.insert ≢ e) (ends_in (lists_of file))) (flat_map (λ f. f.units) (units_of file))
file_ends file h =
    each_all (λ u. All (λ e. u.insert ≢ e) (ends_in (lists_of file))) (flat_map (λ f. f.units) (units_of file))
    (units_cross (flat_map (λ f. f.units) (units_of file)) (ends_in (lists_of file)) (funcs_cross 0 (flat_map cut_in file.decls) h))
