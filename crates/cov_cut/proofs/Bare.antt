-- In a placed file, a segment without a unit is one statement that begins at its boundary.
use Rattle.std.proofs.Common.{◌≡◌, ℕ, ◌+◌, ◌==◌, ◌≤◌, ◌<◌, Bool, true, false, not, ◌&&◌, cond, List, [], ◌∷◌, refl, ap, ◌∙◌, arith, inl, inr, ◌⊎◌, ◌-◌}
use Rattle.std.specs.Prelude.{All}
use Rattle.std.specs.List.{flat_map}
use Rattle.std.proofs.lemmas.Bool.{eqb-true}
use Rattle.go_ast.specs.declared.file.File.{File}
use Rattle.go_ast.specs.declared.decl.Func.{Func}
use Rattle.cov_cut.specs.declared.frame.Frame.{Frame}
use Rattle.cov_cut.specs.Outline.{Mark, Kind, braces, else_braces, else_if, clause, Node, node, Nodes, no_node, next_node, Lists, no_list, next_list, marks, Listing, heads, lists_in, lists_among, lists_behind, lists_along}
use Rattle.cov_cut.specs.Outlining.{block_outline, body}
use Rattle.cov_cut.specs.Units.{frame, segments, put_before, start_of, boundary_of, has_breaker, first_end, func_lists, cut_in}
use Rattle.cov_cut.specs.Placement.{IsMark, AreMarks, IsBetween, first_offset, last_offset, list_stop, IsNode, AreNodes, AreLists, IsFunc, AreFuncs, IsPlaced}
use Rattle.cov_cut.specs.Laws.{later_uncounted, uncounted, IsBare, lists_of}
use Rattle.cov_cut.proofs.Placed.{Each, each_all, each_append, each_flat, each_weaker, IsForward, forwards}

-- a segment of several statements ends behind its start
abbrev IsTight : List Mark → Type 0
IsTight [] = ⊥
IsTight (m ∷ []) = m.start ≤ m.boundary
IsTight (m ∷ n ∷ more) = m.start < boundary_of (n ∷ more)

tight_put : (m : Mark) (segs : List (List Mark)) → IsMark m → Each (IsForward (m.stop + 1)) segs → Each IsTight segs → Each IsTight (put_before m segs)
tight_put m [] k f t = (k.from, tt)
tight_put m ([] ∷ more) k f t = absurd t.0
tight_put m ((n ∷ ns) ∷ more) k f t =
    let from : m.stop + 1 ≤ n.start = f.0.from in
    let forward : n.start ≤ boundary_of (n ∷ ns) = f.0.forward in
    let some : m.start < m.stop = k.some in
    (omega arith, t.1)

tight_by : (b : Bool) (m : Mark) (segs : List (List Mark)) → IsMark m → Each (IsForward (m.stop + 1)) segs → Each IsTight segs → Each IsTight (cond b ((m ∷ []) ∷ segs) (put_before m segs))
tight_by true m segs k f t = (k.from, t)
tight_by false m segs k f t = tight_put m segs k f t

tights : (low high : ℕ) (ms : List Mark) → AreMarks low high ms → Each IsTight (segments ms)
tights low high [] h = tt
tights low high (m ∷ ms) h = tight_by m.breaks m (segments ms) h.1 (forwards (m.stop + 1) high ms h.3) (tights (m.stop + 1) high ms h.3)

bare_of : (s : List Mark) → IsTight s → boundary_of s ≤ start_of s → IsBare s
bare_of [] t h = absurd t
bare_of (m ∷ []) t h = let from : m.start ≤ m.boundary = t in omega arith
bare_of (m ∷ n ∷ more) t h = let after : m.start < boundary_of (n ∷ more) = t in absurd (omega arith)

bare_by : (b : Bool) (s : List Mark) → (b ≡ true → IsBare s) → Each IsBare (cond b (s ∷ []) [])
bare_by true s h = (h refl, tt)
bare_by false s h = tt

later_bare : (segs : List (List Mark)) → Each IsTight segs → Each IsBare (flat_map later_uncounted segs)
later_bare segs t =
    each_flat IsBare later_uncounted segs
    (each_weaker IsTight (λ s. Each IsBare (later_uncounted s))
    (λ s tight. bare_by (start_of s == boundary_of s) s (λ e. let same : start_of s ≡ boundary_of s = eqb-true (start_of s) (boundary_of s) e in bare_of s tight (omega arith))) segs t)

end_by : (b : Bool) (start end boundary : ℕ) → start < end → start ≡ cond b end boundary → start ≡ boundary
end_by true start end boundary h e = absurd (omega arith)
end_by false start end boundary h e = e

-- a frame whose list ends behind its start, where it extends
segments_bare : (f : Frame) (low : ℕ) (segs : List (List Mark)) → (f.extends ≡ false) ⊎ (f.start < f.end) → f.start ≤ low → Each (IsForward low) segs → Each IsTight segs → Each IsBare (uncounted f segs)
segments_bare f low [] x l g t = tt
segments_bare f low (s ∷ more) x l g t =
    each_append IsBare (cond (f.start == first_end f s) (s ∷ []) []) (flat_map later_uncounted more)
    (bare_by (f.start == first_end f s) s
    (λ e.
    let from : low ≤ start_of s = g.0.from in
    let same : f.start ≡ boundary_of s = at_boundary f s x (eqb-true f.start (first_end f s) e) in
    bare_of s t.0 (omega arith)))
    (later_bare more t.1) where
      at_boundary : (f : Frame) (s : List Mark) → (f.extends ≡ false) ⊎ (f.start < f.end) → f.start ≡ first_end f s → f.start ≡ boundary_of s
      at_boundary f s (inl e) h = h ∙ ap (λ b. cond (b && not (has_breaker s)) f.end (boundary_of s)) e
      at_boundary f s (inr lt) h = end_by (f.extends && not (has_breaker s)) f.start f.end (boundary_of s) lt h

abbrev AreBare : Listing → Type 0
AreBare l = Each IsBare (uncounted (frame l.kind) (segments l.statements))

list_bare : (low high : ℕ) (k : Kind) (ms : List Mark) → IsBetween low high k → AreMarks (first_offset k) (last_offset high k) ms → AreBare (record { kind = k; statements = ms })
list_bare low high (braces left right) ms h marked =
    segments_bare (frame (braces left right)) (left + 1) (segments ms) (inr (omega arith)) (omega arith) (forwards (left + 1) right ms marked) (tights (left + 1) right ms marked)
list_bare low high (else_braces after left right) ms h marked =
    segments_bare (frame (else_braces after left right)) (left + 1) (segments ms) (inr (omega arith)) (omega arith) (forwards (left + 1) right ms marked) (tights (left + 1) right ms marked)
list_bare low high (else_if after right) ms h marked =
    segments_bare (frame (else_if after right)) (after + 1) (segments ms) (inr (omega arith)) (omega arith) (forwards (after + 1) right ms marked) (tights (after + 1) right ms marked)
list_bare low high (clause colon) ms h marked =
    segments_bare (frame (clause colon)) (colon + 1) (segments ms) (inl refl) (omega arith) (forwards (colon + 1) (high - 1) ms marked) (tights (colon + 1) (high - 1) ms marked)

heads_bare : (low high : ℕ) (ls : Lists) → AreLists low high ls → Each AreBare (heads ls)
heads_bare low high no_list h = tt
heads_bare low high (next_list k ns more) h = (list_bare low high k (marks ns) h.0 h.1, heads_bare (list_stop k (marks ns)) high more h.3)

mutual
  node_bare : (n : Node) → IsNode n → Each AreBare (lists_in n)
  node_bare (node m true inside) h =
      each_append AreBare (heads inside) (lists_behind inside) (heads_bare m.start m.stop inside h) (behind_bare m.start m.stop inside h)
  node_bare (node m false inside) h = along_bare m.start m.stop inside h

  nodes_bare : (ns : Nodes) → AreNodes ns → Each AreBare (lists_among ns)
  nodes_bare no_node h = tt
  nodes_bare (next_node n ns) h = each_append AreBare (lists_in n) (lists_among ns) (node_bare n h.0) (nodes_bare ns h.1)

  behind_bare : (low high : ℕ) (ls : Lists) → AreLists low high ls → Each AreBare (lists_behind ls)
  behind_bare low high no_list h = tt
  behind_bare low high (next_list k ns more) h =
      each_append AreBare (lists_among ns) (lists_behind more) (nodes_bare ns h.2) (behind_bare (list_stop k (marks ns)) high more h.3)

  along_bare : (low high : ℕ) (ls : Lists) → AreLists low high ls → Each AreBare (lists_along ls)
  along_bare low high no_list h = tt
  along_bare low high (next_list k ns more) h = (
    list_bare low high k (marks ns) h.0 h.1,
    each_append AreBare (lists_among ns) (lists_along more) (nodes_bare ns h.2) (along_bare (list_stop k (marks ns)) high more h.3),
  )

func_bare : (f : Func) → IsFunc f → Each AreBare (func_lists f)
unfolding func_lists
func_bare f h = along_bare f.span.start f.span.end (body (block_outline f.body) no_list) h

funcs_bare : (low : ℕ) (fs : List Func) → AreFuncs low fs → Each AreBare (flat_map func_lists fs)
funcs_bare low [] h = tt
funcs_bare low (f ∷ fs) h = each_append AreBare (func_lists f) (flat_map func_lists fs) (func_bare f h.1) (funcs_bare f.span.end fs h.2)

pub file_bare : (file : File) → IsPlaced file → All (λ l. All IsBare (uncounted (frame l.kind) (segments l.statements))) (lists_of file)
file_bare file h =
    each_all (λ l. All IsBare (uncounted (frame l.kind) (segments l.statements))) (lists_of file)
    (each_weaker AreBare (λ l. All IsBare (uncounted (frame l.kind) (segments l.statements))) (λ l b. each_all IsBare (uncounted (frame l.kind) (segments l.statements)) b) (lists_of file)
    (funcs_bare 0 (flat_map cut_in file.decls) h))
