-- A placed file of less than 2 ^ 32 bytes can be cut.
use Rattle.std.proofs.Common.{ℕ, suc, ◌+◌, ◌≤◌, ◌<◌, ◌^◌, true, false, List, [], ◌∷◌, length, arith}
use Rattle.std.specs.Prelude.{All}
use Rattle.std.specs.List.{flat_map}
use Rattle.go_ast.specs.declared.file.File.{File}
use Rattle.go_ast.specs.declared.decl.Func.{Func}
use Rattle.cov_cut.specs.Outline.{Mark, Kind, braces, else_braces, else_if, clause, Node, node, mark_of, Nodes, no_node, next_node, Lists, no_list, next_list, marks, heads, lists_in, lists_among, lists_behind, lists_along}
use Rattle.cov_cut.specs.Outlining.{block_outline, body}
use Rattle.cov_cut.specs.Units.{frame, FrameFits, Fits, func_lists, cut_in, IsWithin}
use Rattle.cov_cut.specs.Placement.{AreMarks, IsBetween, first_offset, last_offset, list_stop, IsNode, AreNodes, AreLists, IsFunc, AreFuncs, IsPlaced}
use Rattle.cov_cut.proofs.Placed.{Each, each_all, each_append}

-- each statement takes a byte
length_upto : (low high : ℕ) (ms : List Mark) → AreMarks low high ms → length ms ≤ high
length_upto low high [] h = omega arith
length_upto low high (m ∷ ms) h =
    let some : m.start < m.stop = h.1.some in
    let rest : length (m ∷ ms) + low ≤ high = length_from low high m ms h in
    omega arith where
      length_from : (low high : ℕ) (m : Mark) (ms : List Mark) → AreMarks low high (m ∷ ms) → length (m ∷ ms) + low ≤ high
      length_from low high m [] h = let first : low ≤ m.start = h.0 in let some : m.start < m.stop = h.1.some in let within : m.stop ≤ high = h.2 in omega arith
      length_from low high m (n ∷ ms) h =
          let first : low ≤ m.start = h.0 in
          let some : m.start < m.stop = h.1.some in
          let rest : length (n ∷ ms) + (m.stop + 1) ≤ high = length_from (m.stop + 1) high n ms h.3 in
          omega arith

last_upto : (high : ℕ) (k : Kind) (low : ℕ) → IsBetween low high k → last_offset high k ≤ high
last_upto high (braces left right) low h = omega arith
last_upto high (else_braces after left right) low h = omega arith
last_upto high (else_if after right) low h = omega arith
last_upto high (clause colon) low h = omega arith

frame_fits : (low high : ℕ) (k : Kind) → IsBetween low high k → high < 2 ^ 32 → FrameFits (frame k)
frame_fits low high (braces left right) h b = record { start = omega arith; insert = omega arith; end = omega arith; empty = omega arith }
frame_fits low high (else_braces after left right) h b = record { start = omega arith; insert = omega arith; end = omega arith; empty = omega arith }
frame_fits low high (else_if after right) h b = record { start = omega arith; insert = omega arith; end = omega arith; empty = omega arith }
frame_fits low high (clause colon) h b = record { start = omega arith; insert = omega arith; end = omega arith; empty = omega arith }

list_fits : (low high : ℕ) (k : Kind) (ms : List Mark) → IsBetween low high k → AreMarks (first_offset k) (last_offset high k) ms → high < 2 ^ 32 → Fits (record { kind = k; statements = ms })
list_fits low high k ms h marked b =
    let upto : last_offset high k ≤ high = last_upto high k low h in
    let count : length ms ≤ last_offset high k = length_upto (first_offset k) (last_offset high k) ms marked in
    record { places = frame_fits low high k h b; statements = omega arith }

heads_fit : (low high : ℕ) (ls : Lists) → AreLists low high ls → high < 2 ^ 32 → Each Fits (heads ls)
heads_fit low high no_list h b = tt
heads_fit low high (next_list k ns more) h b = (list_fits low high k (marks ns) h.0 h.1 b, heads_fit (list_stop k (marks ns)) high more h.3 b)

below : (low high : ℕ) (k : Kind) → IsBetween low high k → high < 2 ^ 32 → last_offset high k < 2 ^ 32
below low high k h b = let upto : last_offset high k ≤ high = last_upto high k low h in omega arith

mutual
  node_fits : (n : Node) (high : ℕ) → IsNode n → (mark_of n).stop ≤ high → high < 2 ^ 32 → Each Fits (lists_in n)
  node_fits (node m true inside) high h u b =
      each_append Fits (heads inside) (lists_behind inside) (heads_fit m.start m.stop inside h (omega arith)) (behind_fit m.start m.stop inside h (omega arith))
  node_fits (node m false inside) high h u b = along_fit m.start m.stop inside h (omega arith)

  nodes_fit : (ns : Nodes) (low high : ℕ) → AreNodes ns → AreMarks low high (marks ns) → high < 2 ^ 32 → Each Fits (lists_among ns)
  nodes_fit no_node low high h marked b = tt
  nodes_fit (next_node n ns) low high h marked b =
      each_append Fits (lists_in n) (lists_among ns) (node_fits n high h.0 marked.2 b) (nodes_fit ns ((mark_of n).stop + 1) high h.1 marked.3 b)

  behind_fit : (low high : ℕ) (ls : Lists) → AreLists low high ls → high < 2 ^ 32 → Each Fits (lists_behind ls)
  behind_fit low high no_list h b = tt
  behind_fit low high (next_list k ns more) h b =
      each_append Fits (lists_among ns) (lists_behind more) (nodes_fit ns (first_offset k) (last_offset high k) h.2 h.1 (below low high k h.0 b)) (behind_fit (list_stop k (marks ns)) high more h.3 b)

  along_fit : (low high : ℕ) (ls : Lists) → AreLists low high ls → high < 2 ^ 32 → Each Fits (lists_along ls)
  along_fit low high no_list h b = tt
  along_fit low high (next_list k ns more) h b = (
    list_fits low high k (marks ns) h.0 h.1 b,
    each_append Fits (lists_among ns) (lists_along more) (nodes_fit ns (first_offset k) (last_offset high k) h.2 h.1 (below low high k h.0 b)) (along_fit (list_stop k (marks ns)) high more h.3 b),
  )

func_fits : (f : Func) → IsFunc f → f.span.end < 2 ^ 32 → Each Fits (func_lists f)
unfolding func_lists
func_fits f h b = along_fit f.span.start f.span.end (body (block_outline f.body) no_list) h b

funcs_fit : (low : ℕ) (fs : List Func) → AreFuncs low fs → All (λ f. f.span.end < 2 ^ 32) fs → Each (λ f. All Fits (func_lists f)) fs
funcs_fit low [] h b = tt
funcs_fit low (f ∷ fs) h b = (each_all Fits (func_lists f) (func_fits f h.1 (b 0 f (omega arith))), funcs_fit f.span.end fs h.2 (λ k d lt. b (suc k) d (omega arith)))

pub file_fits : (file : File) → IsPlaced file → All (λ f. f.span.end < 2 ^ 32) (flat_map cut_in file.decls) → IsWithin file
file_fits file h b = each_all (λ f. All Fits (func_lists f)) (flat_map cut_in file.decls) (funcs_fit 0 (flat_map cut_in file.decls) h b)
