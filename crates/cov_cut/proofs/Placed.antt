-- Units of a placed file.
use Rattle.std.proofs.Common.{ℕ, suc, zero, ◌+◌, ◌==◌, ◌≤◌, ◌<◌, Bool, true, false, not, ◌&&◌, cond, List, [], ◌∷◌, ◌++◌, length, get_or, map, arith}
use Rattle.std.specs.Prelude.{All}
use Rattle.std.specs.List.{flat_map}
use Rattle.go_ast.specs.declared.file.File.{File}
use Rattle.go_ast.specs.declared.decl.Func.{Func}
use Rattle.cov_cut.specs.declared.frame.Frame.{Frame}
use Rattle.cov_cut.specs.declared.unit.Unit.{Unit as CutUnit}
use Rattle.cov_cut.specs.Outline.{Mark, Kind, braces, else_braces, else_if, clause, Node, node, Nodes, no_node, next_node, Lists, no_list, next_list, marks, Listing, heads, lists_in, lists_among, lists_behind, lists_along}
use Rattle.cov_cut.specs.Outlining.{block_outline, body}
use Rattle.cov_cut.specs.Units.{frame, segments, put_before, start_of, boundary_of, has_breaker, first_end, later_unit, unit, segment_units, listing_units, units_in, func_lists, func_units, cut_in, units_of}
use Rattle.cov_cut.specs.Placement.{IsMark, AreMarks, IsBetween, first_offset, last_offset, list_stop, IsNode, AreNodes, AreLists, IsFunc, AreFuncs, IsPlaced}

-- P holds of each element
abbrev pub Each : {X : Type 0} → (X → Type 0) → List X → Type 0
Each P [] = Unit {0}
Each P (x ∷ xs) = P x × Each P xs

pub each_append : {X : Type 0} (P : X → Type 0) (xs ys : List X) → Each P xs → Each P ys → Each P (xs ++ ys)
each_append P [] ys h k = k
each_append P (x ∷ xs) ys h k = (h.0, each_append P xs ys h.1 k)

pub each_all : {X : Type 0} (P : X → Type 0) (xs : List X) → Each P xs → All P xs
each_all P [] h = λ k d lt. absurd (omega arith)
each_all P (x ∷ xs) h = λ k d lt. each_at P x xs h.0 (each_all P xs h.1) k d lt where
  each_at : {X : Type 0} (P : X → Type 0) (x : X) (xs : List X) → P x → All P xs → (k : ℕ) (d : X) → k < suc (length xs) → P (get_or (x ∷ xs) k d)
  each_at P x xs h all zero d lt = h
  each_at P x xs h all (suc k) d lt = all k d (omega arith)

pub each_flat : {X Y : Type 0} (P : Y → Type 0) (f : X → List Y) (xs : List X) → Each (λ x. Each P (f x)) xs → Each P (flat_map f xs)
each_flat P f [] h = tt
each_flat P f (x ∷ xs) h = each_append P (f x) (flat_map f xs) h.0 (each_flat P f xs h.1)

pub each_weaker : {X : Type 0} (P Q : X → Type 0) → ((x : X) → P x → Q x) → (xs : List X) → Each P xs → Each Q xs
each_weaker P Q w [] h = tt
each_weaker P Q w (x ∷ xs) h = (w x h.0, each_weaker P Q w xs h.1)

-- ---- segments

-- A segment starts at `low` or later and ends no earlier than it starts.
pub record IsForward (low : ℕ) (s : List Mark) : Type 0 where
  pub from : low ≤ start_of s
  pub forward : start_of s ≤ boundary_of s

lower : (low high : ℕ) → low ≤ high → (s : List Mark) → IsForward high s → IsForward low s
lower low high h s f = let from : high ≤ start_of s = f.from in record { from = omega arith; forward = f.forward }

put_forward : (low : ℕ) (m : Mark) (s : List Mark) → low ≤ m.start → IsMark m → IsForward (m.stop + 1) s → IsForward low (m ∷ s)
put_forward low m [] h k f = record { from = h; forward = k.from }
put_forward low m (n ∷ more) h k f =
    let from : m.stop + 1 ≤ n.start = f.from in
    let forward : n.start ≤ boundary_of (n ∷ more) = f.forward in
    let some : m.start < m.stop = k.some in
    record { from = h; forward = omega arith }

put_forwards : (low : ℕ) (m : Mark) (segs : List (List Mark)) → low ≤ m.start → IsMark m → Each (IsForward (m.stop + 1)) segs → Each (IsForward low) (put_before m segs)
put_forwards low m [] h k f = (record { from = h; forward = k.from }, tt)
put_forwards low m (s ∷ more) h k f =
    let some : m.start < m.stop = k.some in
    (put_forward low m s h k f.0, each_weaker (IsForward (m.stop + 1)) (IsForward low) (lower low (m.stop + 1) (omega arith)) more f.1)

forwards_by : (b : Bool) (low : ℕ) (m : Mark) (segs : List (List Mark)) → low ≤ m.start → IsMark m → Each (IsForward (m.stop + 1)) segs
    → Each (IsForward low) (cond b ((m ∷ []) ∷ segs) (put_before m segs))
forwards_by true low m segs h k f =
    let some : m.start < m.stop = k.some in
    (record { from = h; forward = k.from }, each_weaker (IsForward (m.stop + 1)) (IsForward low) (lower low (m.stop + 1) (omega arith)) segs f)
forwards_by false low m segs h k f = put_forwards low m segs h k f

pub forwards : (low high : ℕ) (ms : List Mark) → AreMarks low high ms → Each (IsForward low) (segments ms)
forwards low high [] h = tt
forwards low high (m ∷ ms) h = forwards_by m.breaks low m (segments ms) h.0 h.1 (forwards (m.stop + 1) high ms h.3)

-- ---- units

abbrev pub IsOrdered : CutUnit → Type 0
IsOrdered u = u.start ≤ u.end

unit_by : (b : Bool) (u : CutUnit) → IsOrdered u → Each IsOrdered (cond b [] (u ∷ []))
unit_by true u h = tt
unit_by false u h = (h, tt)

unit_ordered : (start end insert statements : ℕ) → start ≤ end → Each IsOrdered (unit start end insert statements)
unit_ordered start end insert statements h = unit_by (start == end) (record { start = start; end = end; insert = insert; statements = statements }) h

later_ordered : (low : ℕ) (segs : List (List Mark)) → Each (IsForward low) segs → Each IsOrdered (flat_map later_unit segs)
later_ordered low segs h =
    each_flat IsOrdered later_unit segs
    (each_weaker (IsForward low) (λ s. Each IsOrdered (later_unit s)) (λ s f. unit_ordered (start_of s) (boundary_of s) (start_of s) (length s) f.forward) segs h)

end_by : (b : Bool) (start end boundary : ℕ) → start ≤ end → start ≤ boundary → start ≤ cond b end boundary
end_by true start end boundary h k = h
end_by false start end boundary h k = k

-- what the table gives for a list that stands between two offsets
pub record IsFrame (k : Kind) : Type 0 where
  pub ends : (frame k).start ≤ (frame k).end
  pub empty : (frame k).empty ≤ (frame k).end
  pub first : (frame k).start ≤ first_offset k

pub is_frame : (low high : ℕ) (k : Kind) → IsBetween low high k → IsFrame k
is_frame low high (braces left right) h = record { ends = omega arith; empty = omega arith; first = omega arith }
is_frame low high (else_braces after left right) h = record { ends = omega arith; empty = omega arith; first = omega arith }
is_frame low high (else_if after right) h = record { ends = omega arith; empty = omega arith; first = omega arith }
is_frame low high (clause colon) h = record { ends = omega arith; empty = omega arith; first = omega arith }

segments_ordered : (f : Frame) (low : ℕ) (segs : List (List Mark)) → f.start ≤ f.end → f.empty ≤ f.end → f.start ≤ low → Each (IsForward low) segs → Each IsOrdered (segment_units f segs)
segments_ordered f low [] h e l g = (e, tt)
segments_ordered f low (s ∷ more) h e l g =
    let from : low ≤ start_of s = g.0.from in
    let forward : start_of s ≤ boundary_of s = g.0.forward in
    each_append IsOrdered (unit f.start (first_end f s) f.insert (length s)) (flat_map later_unit more)
    (unit_ordered f.start (first_end f s) f.insert (length s) (end_by (f.extends && not (has_breaker s)) f.start f.end (boundary_of s) h (omega arith)))
    (later_ordered low more g.1)

abbrev pub AreOrdered : Listing → Type 0
AreOrdered l = Each IsOrdered (listing_units l)

list_ordered : (low high : ℕ) (k : Kind) (ms : List Mark) → IsBetween low high k → AreMarks (first_offset k) (last_offset high k) ms → AreOrdered (record { kind = k; statements = ms })
list_ordered low high k ms h marked =
    let f = is_frame low high k h in
    segments_ordered (frame k) (first_offset k) (segments ms) f.ends f.empty f.first (forwards (first_offset k) (last_offset high k) ms marked)

-- ---- lists, functions, files

heads_ordered : (low high : ℕ) (ls : Lists) → AreLists low high ls → Each AreOrdered (heads ls)
heads_ordered low high no_list h = tt
heads_ordered low high (next_list k ns more) h = (list_ordered low high k (marks ns) h.0 h.1, heads_ordered (list_stop k (marks ns)) high more h.3)

mutual
  node_ordered : (n : Node) → IsNode n → Each AreOrdered (lists_in n)
  node_ordered (node m true inside) h =
      each_append AreOrdered (heads inside) (lists_behind inside) (heads_ordered m.start m.stop inside h) (behind_ordered m.start m.stop inside h)
  node_ordered (node m false inside) h = along_ordered m.start m.stop inside h

  nodes_ordered : (ns : Nodes) → AreNodes ns → Each AreOrdered (lists_among ns)
  nodes_ordered no_node h = tt
  nodes_ordered (next_node n ns) h = each_append AreOrdered (lists_in n) (lists_among ns) (node_ordered n h.0) (nodes_ordered ns h.1)

  behind_ordered : (low high : ℕ) (ls : Lists) → AreLists low high ls → Each AreOrdered (lists_behind ls)
  behind_ordered low high no_list h = tt
  behind_ordered low high (next_list k ns more) h =
      each_append AreOrdered (lists_among ns) (lists_behind more) (nodes_ordered ns h.2) (behind_ordered (list_stop k (marks ns)) high more h.3)

  along_ordered : (low high : ℕ) (ls : Lists) → AreLists low high ls → Each AreOrdered (lists_along ls)
  along_ordered low high no_list h = tt
  along_ordered low high (next_list k ns more) h = (
    list_ordered low high k (marks ns) h.0 h.1,
    each_append AreOrdered (lists_among ns) (lists_along more) (nodes_ordered ns h.2) (along_ordered (list_stop k (marks ns)) high more h.3),
  )

func_ordered : (f : Func) → IsFunc f → All IsOrdered (func_units f).units
unfolding func_lists
func_ordered f h =
    each_all IsOrdered (units_in (func_lists f))
    (each_flat IsOrdered listing_units (func_lists f) (along_ordered f.span.start f.span.end (body (block_outline f.body) no_list) h))

funcs_ordered : (low : ℕ) (fs : List Func) → AreFuncs low fs → Each (λ u. All IsOrdered u.units) (map func_units fs)
funcs_ordered low [] h = tt
funcs_ordered low (f ∷ fs) h = (func_ordered f h.1, funcs_ordered f.span.end fs h.2)

pub file_ordered : (file : File) → IsPlaced file → All (λ u. All IsOrdered u.units) (units_of file)
file_ordered file h = each_all (λ u. All IsOrdered u.units) (units_of file) (funcs_ordered 0 (flat_map cut_in file.decls) h)
