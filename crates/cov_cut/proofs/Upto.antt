-- The offsets of units and of the ifs behind else aren't past the ends of their functions.
use Rattle.std.proofs.Common.{ℕ, suc, ◌+◌, ◌==◌, ◌≤◌, Bool, true, false, not, ◌&&◌, cond, List, [], ◌∷◌, length, map, arith}
use Rattle.std.specs.Prelude.{All}
use Rattle.std.specs.List.{flat_map}
use Rattle.go_ast.specs.declared.span.Span.{Span}
use Rattle.go_ast.specs.declared.file.File.{File}
use Rattle.go_ast.specs.declared.decl.Func.{Func}
use Rattle.cov_cut.specs.declared.frame.Frame.{Frame}
use Rattle.cov_cut.specs.declared.unit.Unit.{Unit as CutUnit}
use Rattle.cov_cut.specs.Outline.{Mark, Kind, braces, else_braces, else_if, clause, Node, node, mark_of, Nodes, no_node, next_node, Lists, no_list, next_list, marks, Listing, heads, lists_in, lists_among, lists_behind, lists_along}
use Rattle.cov_cut.specs.Outlining.{block_outline, body}
use Rattle.cov_cut.specs.Units.{frame, segments, put_before, start_of, boundary_of, has_breaker, first_end, later_unit, unit, segment_units, listing_units, units_in, func_lists, func_units, cut_in}
use Rattle.cov_cut.specs.Counted.{all_units, else_if_span, else_ifs_in, else_ifs_of}
use Rattle.cov_cut.specs.Placement.{AreMarks, IsBetween, first_offset, last_offset, list_stop, IsNode, AreNodes, AreLists, IsFunc, AreFuncs, IsPlaced}
use Rattle.cov_cut.proofs.Placed.{Each, each_all, each_append}

-- up to a bound
abbrev pub UnitUpto : ℕ → CutUnit → Type 0
UnitUpto bound u = (u.start ≤ bound) × (u.end ≤ bound) × (u.insert ≤ bound)

abbrev pub SpanUpto : ℕ → Span → Type 0
SpanUpto bound s = (s.start ≤ bound) × (s.end ≤ bound)

module _ (bound : ℕ) where
  -- ---- one list

  abbrev SegmentUpto : List Mark → Type 0
  SegmentUpto s = (start_of s ≤ bound) × (boundary_of s ≤ bound)

  put_upto : (m : Mark) (s : List Mark) → m.start ≤ bound → m.boundary ≤ bound → SegmentUpto s → SegmentUpto (m ∷ s)
  put_upto m [] a b h = (a, b)
  put_upto m (n ∷ more) a b h = (a, h.1)

  puts_upto : (m : Mark) (segs : List (List Mark)) → m.start ≤ bound → m.boundary ≤ bound → Each SegmentUpto segs → Each SegmentUpto (put_before m segs)
  puts_upto m [] a b h = ((a, b), tt)
  puts_upto m (s ∷ more) a b h = (put_upto m s a b h.0, h.1)

  cut_upto : (b : Bool) (m : Mark) (segs : List (List Mark)) → m.start ≤ bound → m.boundary ≤ bound → Each SegmentUpto segs → Each SegmentUpto (cond b ((m ∷ []) ∷ segs) (put_before m segs))
  cut_upto true m segs a b h = ((a, b), h)
  cut_upto false m segs a b h = puts_upto m segs a b h

  segments_upto : (low high : ℕ) (ms : List Mark) → AreMarks low high ms → high ≤ bound → Each SegmentUpto (segments ms)
  segments_upto low high [] h up = tt
  segments_upto low high (m ∷ ms) h up =
      let from : m.start ≤ m.boundary = h.1.from in
      let upto : m.boundary ≤ m.stop = h.1.upto in
      let stop : m.stop ≤ high = h.2 in
      cut_upto m.breaks m (segments ms) (omega arith) (omega arith) (segments_upto (m.stop + 1) high ms h.3 up)

  unit_by : (b : Bool) (u : CutUnit) → UnitUpto bound u → Each (UnitUpto bound) (cond b [] (u ∷ []))
  unit_by true u h = tt
  unit_by false u h = (h, tt)

  unit_upto : (start end insert statements : ℕ) → start ≤ bound → end ≤ bound → insert ≤ bound → Each (UnitUpto bound) (unit start end insert statements)
  unit_upto start end insert statements a b c = unit_by (start == end) (record { start = start; end = end; insert = insert; statements = statements }) (a, b, c)

  later_upto : (segs : List (List Mark)) → Each SegmentUpto segs → Each (UnitUpto bound) (flat_map later_unit segs)
  later_upto [] h = tt
  later_upto (s ∷ segs) h = each_append (UnitUpto bound) (later_unit s) (flat_map later_unit segs) (unit_upto (start_of s) (boundary_of s) (start_of s) (length s) h.0.0 h.0.1 h.0.0) (later_upto segs h.1)

  end_by : (b : Bool) (end boundary : ℕ) → end ≤ bound → boundary ≤ bound → cond b end boundary ≤ bound
  end_by true end boundary a b = a
  end_by false end boundary a b = b

  record FrameUpto (f : Frame) : Type 0 where
    start : f.start ≤ bound
    end : f.end ≤ bound
    insert : f.insert ≤ bound
    empty : f.empty ≤ bound

  frame_upto : (low high : ℕ) (k : Kind) → IsBetween low high k → high ≤ bound → FrameUpto (frame k)
  frame_upto low high (braces left right) h b = record { start = omega arith; end = omega arith; insert = omega arith; empty = omega arith }
  frame_upto low high (else_braces after left right) h b = record { start = omega arith; end = omega arith; insert = omega arith; empty = omega arith }
  frame_upto low high (else_if after right) h b = record { start = omega arith; end = omega arith; insert = omega arith; empty = omega arith }
  frame_upto low high (clause colon) h b = record { start = omega arith; end = omega arith; insert = omega arith; empty = omega arith }

  units_upto : (f : Frame) (segs : List (List Mark)) → FrameUpto f → Each SegmentUpto segs → Each (UnitUpto bound) (segment_units f segs)
  units_upto f [] g h = ((g.empty, g.end, g.insert), tt)
  units_upto f (s ∷ more) g h =
      each_append (UnitUpto bound) (unit f.start (first_end f s) f.insert (length s)) (flat_map later_unit more)
      (unit_upto f.start (first_end f s) f.insert (length s) g.start (end_by (f.extends && not (has_breaker s)) f.end (boundary_of s) g.end h.0.1) g.insert) (later_upto more h.1)

  span_upto : (low high : ℕ) (k : Kind) → IsBetween low high k → high ≤ bound → Each (SpanUpto bound) (else_if_span k)
  span_upto low high (braces left right) h b = tt
  span_upto low high (else_braces after left right) h b = tt
  span_upto low high (else_if after right) h b = ((omega arith, omega arith), tt)
  span_upto low high (clause colon) h b = tt

  -- the units and the spans of a list
  abbrev Upto : Listing → Type 0
  Upto l = Each (UnitUpto bound) (listing_units l) × Each (SpanUpto bound) (else_if_span l.kind)

  below : (low high : ℕ) (k : Kind) → IsBetween low high k → high ≤ bound → last_offset high k ≤ bound
  below low high (braces left right) h b = omega arith
  below low high (else_braces after left right) h b = omega arith
  below low high (else_if after right) h b = omega arith
  below low high (clause colon) h b = omega arith

  list_upto : (low high : ℕ) (k : Kind) (ms : List Mark) → IsBetween low high k → AreMarks (first_offset k) (last_offset high k) ms → high ≤ bound → Upto (record { kind = k; statements = ms })
  list_upto low high k ms h marked b =
      (units_upto (frame k) (segments ms) (frame_upto low high k h b) (segments_upto (first_offset k) (last_offset high k) ms marked (below low high k h b)), span_upto low high k h b)

  -- ---- all lists

  heads_upto : (low high : ℕ) (ls : Lists) → AreLists low high ls → high ≤ bound → Each Upto (heads ls)
  heads_upto low high no_list h b = tt
  heads_upto low high (next_list k ns more) h b = (list_upto low high k (marks ns) h.0 h.1 b, heads_upto (list_stop k (marks ns)) high more h.3 b)

  mutual
    node_upto : (n : Node) (high : ℕ) → IsNode n → (mark_of n).stop ≤ high → high ≤ bound → Each Upto (lists_in n)
    node_upto (node m true inside) high h u b =
        each_append Upto (heads inside) (lists_behind inside) (heads_upto m.start m.stop inside h (omega arith)) (behind_upto m.start m.stop inside h (omega arith))
    node_upto (node m false inside) high h u b = along_upto m.start m.stop inside h (omega arith)

    nodes_upto : (ns : Nodes) (low high : ℕ) → AreNodes ns → AreMarks low high (marks ns) → high ≤ bound → Each Upto (lists_among ns)
    nodes_upto no_node low high h marked b = tt
    nodes_upto (next_node n ns) low high h marked b =
        each_append Upto (lists_in n) (lists_among ns) (node_upto n high h.0 marked.2 b) (nodes_upto ns ((mark_of n).stop + 1) high h.1 marked.3 b)

    behind_upto : (low high : ℕ) (ls : Lists) → AreLists low high ls → high ≤ bound → Each Upto (lists_behind ls)
    behind_upto low high no_list h b = tt
    behind_upto low high (next_list k ns more) h b =
        each_append Upto (lists_among ns) (lists_behind more) (nodes_upto ns (first_offset k) (last_offset high k) h.2 h.1 (below low high k h.0 b)) (behind_upto (list_stop k (marks ns)) high more h.3 b)

    along_upto : (low high : ℕ) (ls : Lists) → AreLists low high ls → high ≤ bound → Each Upto (lists_along ls)
    along_upto low high no_list h b = tt
    along_upto low high (next_list k ns more) h b = (
      list_upto low high k (marks ns) h.0 h.1 b,
      each_append Upto (lists_among ns) (lists_along more) (nodes_upto ns (first_offset k) (last_offset high k) h.2 h.1 (below low high k h.0 b)) (along_upto (list_stop k (marks ns)) high more h.3 b),
    )

  func_upto : (f : Func) → IsFunc f → f.span.end ≤ bound → Each Upto (func_lists f)
  unfolding func_lists
  func_upto f h b = along_upto f.span.start f.span.end (body (block_outline f.body) no_list) h b

  units_each : (ls : List Listing) → Each Upto ls → Each (UnitUpto bound) (units_in ls)
  units_each [] h = tt
  units_each (l ∷ ls) h = each_append (UnitUpto bound) (listing_units l) (units_in ls) h.0.0 (units_each ls h.1)

  spans_each : (ls : List Listing) → Each Upto ls → Each (SpanUpto bound) (else_ifs_in ls)
  spans_each [] h = tt
  spans_each (l ∷ ls) h = each_append (SpanUpto bound) (else_if_span l.kind) (else_ifs_in ls) h.0.1 (spans_each ls h.1)

  file_units : (low : ℕ) (fs : List Func) → AreFuncs low fs → All (λ f. f.span.end ≤ bound) fs → Each (UnitUpto bound) (flat_map (λ f. f.units) (map func_units fs))
  file_units low [] h b = tt
  file_units low (f ∷ fs) h b =
      each_append (UnitUpto bound) (units_in (func_lists f)) (flat_map (λ f. f.units) (map func_units fs)) (units_each (func_lists f) (func_upto f h.1 (b 0 f (omega arith))))
      (file_units f.span.end fs h.2 (λ k d lt. b (suc k) d (omega arith)))

  file_lists : (low : ℕ) (fs : List Func) → AreFuncs low fs → All (λ f. f.span.end ≤ bound) fs → Each Upto (flat_map func_lists fs)
  file_lists low [] h b = tt
  file_lists low (f ∷ fs) h b =
      each_append Upto (func_lists f) (flat_map func_lists fs) (func_upto f h.1 (b 0 f (omega arith))) (file_lists f.span.end fs h.2 (λ k d lt. b (suc k) d (omega arith)))

  pub all_upto : (file : File) → IsPlaced file → All (λ f. f.span.end ≤ bound) (flat_map cut_in file.decls) → All (UnitUpto bound) (all_units file)
  all_upto file h b = each_all (UnitUpto bound) (all_units file) (file_units 0 (flat_map cut_in file.decls) h b)

  pub else_ifs_upto : (file : File) → IsPlaced file → All (λ f. f.span.end ≤ bound) (flat_map cut_in file.decls) → All (SpanUpto bound) (else_ifs_of file)
  else_ifs_upto file h b = each_all (SpanUpto bound) (else_ifs_of file) (spans_each (flat_map func_lists (flat_map cut_in file.decls)) (file_lists 0 (flat_map cut_in file.decls) h b))
